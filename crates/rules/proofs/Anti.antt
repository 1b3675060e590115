-- If a line has one spelling then two losses, or two adduct items, that each come before the other are the same.
-- Assumes nothing.
use mathlib.Core.Path.{◌≡◌, sym, ap, ◌∙◌}
use lib.Dec.{T}
use Rattle.lang.proofs.Lex.{lex_anti}
use Rattle.rules.specs.Numbers.{Number}
use Rattle.rules.specs.Losses.{Lost, lost_text, lost_map, Loss}
use Rattle.rules.specs.Adducts.{Added, added_text, added_map, Item}
use Rattle.rules.specs.Lines.{Spelling, line_text}
use Rattle.rules.specs.Preferred.{shortened, count_or1, loss_key, item_key, loss_le, item_le}
use Rattle.rules.specs.Fields.{filled}
use Rattle.rules.proofs.Shortened.{from_path, lost_filled, added_filled}
use Rattle.rules.proofs.Keys.{key_one, count_one}
use Rattle.rules.proofs.OneLost.{one_lost, one_added}

module _ (one_spelling : (s u : Spelling) → line_text s ≡ line_text u → s ≡ u) where
  -- what is equal when shortened is equal: it is filled in again
  same_lost : (x y : Lost Number) → lost_text (lost_map shortened x) ≡ lost_text (lost_map shortened y) → x ≡ y
  same_lost x y e =
      sym (lost_filled x) ∙ ap (lost_map filled) (one_lost one_spelling (lost_map shortened x) (lost_map shortened y) e) ∙ lost_filled y

  same_added : (x y : Added Number) → added_text (added_map shortened x) ≡ added_text (added_map shortened y) → x ≡ y
  same_added x y e =
      sym (added_filled x) ∙ ap (added_map filled) (one_added one_spelling (added_map shortened x) (added_map shortened y) e) ∙ added_filled y

  pub loss_anti : (x y : Loss Number) → T (loss_le x y) → T (loss_le y x) → x ≡ y
  loss_anti x y h g =
      let k =
      key_one (lost_text (lost_map shortened x.what)) (lost_text (lost_map shortened y.what)) x.sign y.sign
      (count_or1 x.count) (count_or1 y.count) (lex_anti (loss_key x) (loss_key y) h g)
      in
      λ i. record { sign = k.1 i; count = count_one x.count y.count k.2 i; what = same_lost x.what y.what k.0 i }

  pub item_anti : (x y : Item Number) → T (item_le x y) → T (item_le y x) → x ≡ y
  item_anti x y h g =
      let k =
      key_one (added_text (added_map shortened x.what)) (added_text (added_map shortened y.what)) x.sign y.sign
      x.count.value y.count.value (lex_anti (item_key x) (item_key y) h g)
      in
      λ i. record { sign = k.1 i; count = from_path x.count y.count k.2 i; what = same_added x.what y.what k.0 i }
