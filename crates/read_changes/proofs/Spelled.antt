-- Losses and adduct items are one kind of thing: a sign, a count, and a formula, a name or `e`. Assumes nothing.
use Prim.Native.Nat.{ℕ}
use mathlib.Core.Path.{◌≡◌, refl, ap}
use mathlib.Core.List.{List, [], ◌∷◌, ◌++◌}
use lib.ListN.{length}
use Rattle.lang.specs.Parts.{Opt, opt_text, items}
use Rattle.lang.specs.Mark.{Mark, Part, marks_of}
use Rattle.rules.specs.Bytes.{bytes}
use Rattle.rules.specs.Numbers.{From, number_text}
use Rattle.rules.specs.Texts.{LossName, bracket_text}
use Rattle.rules.specs.Formulas.{Written, Formula, formula_text}
use Rattle.rules.specs.Losses.{Sign, sign_text, Lost, lost_formula, lost_name_lem, lost_text, Loss, loss_text}
use Rattle.rules.specs.Adducts.{Added, added_formula, electron, added_text, Item, item_text}
use Rattle.rules.specs.Limits.{max_losses, max_items, max_count, many_mark, bare, opt_part, number_part, closed_part, formula_part, lost_part, loss_marks, added_part, item_marks}
use Rattle.changes.specs.declared.Content.{Content}
use Rattle.changes.specs.declared.Content.TheVariants as content

pub data What : Type 0 where
  a_formula : Formula Written → What
  a_name : LossName → What
  an_electron : What

abbrev pub content_text : What → List ℕ
content_text (a_formula x) = formula_text x
content_text (a_name n) = bracket_text n
content_text an_electron = bytes "e"

abbrev pub what_part : What → Part
what_part (a_formula x) = formula_part x
what_part (a_name n) = closed_part bracket_text n
what_part an_electron = bare (bytes "e")

-- as it is read
abbrev pub what_content : What → Content
what_content (a_formula x) = content.Formula (length (items x))
what_content (a_name n) = content.Name (length n.bytes)
what_content an_electron = content.Electron

-- a written count is at least m
pub record Spelled (m : ℕ) : Type 0 where
  pub sign : Sign
  pub count : Opt (From m)
  pub what : What

abbrev pub change_text : {m : ℕ} → Spelled m → List ℕ
change_text x = sign_text x.sign ++ (opt_text number_text x.count ++ content_text x.what)

-- no more than `bound` may stand in a row, and i stand before it
abbrev pub change_marks : {m : ℕ} → ℕ → ℕ → Spelled m → ℕ → List Mark
change_marks bound i x at = many_mark bound i at ∷ marks_of at (bare (sign_text x.sign) ∷ opt_part (number_part max_count) x.count ∷ what_part x.what ∷ [])

-- ---- losses

abbrev pub of_lost : Lost Written → What
of_lost (lost_formula x) = a_formula x
of_lost (lost_name_lem n) = a_name n

abbrev pub of_loss : Loss Written → Spelled 2
of_loss l = record { sign = l.sign; count = l.count; what = of_lost l.what }

lost_text_lem : (w : Lost Written) → lost_text w ≡ content_text (of_lost w)
lost_text_lem (lost_formula x) = refl
lost_text_lem (lost_name_lem n) = refl

lost_part_lem : (w : Lost Written) → lost_part w ≡ what_part (of_lost w)
lost_part_lem (lost_formula x) = refl
lost_part_lem (lost_name_lem n) = refl

pub loss_text_lem : (l : Loss Written) → loss_text l ≡ change_text (of_loss l)
loss_text_lem l = ap (λ (w : List ℕ). sign_text l.sign ++ (opt_text number_text l.count ++ w)) (lost_text_lem l.what)

pub loss_marks_lem : (i : ℕ) (l : Loss Written) (at : ℕ) → loss_marks i l at ≡ change_marks max_losses i (of_loss l) at
loss_marks_lem i l at =
    ap (λ (p : Part). many_mark max_losses i at ∷ marks_of at (bare (sign_text l.sign) ∷ opt_part (number_part max_count) l.count ∷ p ∷ [])) (lost_part_lem l.what)

-- ---- adduct items

abbrev pub of_added : Added Written → What
of_added (added_formula x) = a_formula x
of_added electron = an_electron

abbrev pub of_item : Item Written → Spelled 1
of_item x = record { sign = x.sign; count = x.count; what = of_added x.what }

added_text_lem : (w : Added Written) → added_text w ≡ content_text (of_added w)
added_text_lem (added_formula x) = refl
added_text_lem electron = refl

added_part_lem : (w : Added Written) → added_part w ≡ what_part (of_added w)
added_part_lem (added_formula x) = refl
added_part_lem electron = refl

pub item_text_lem : (x : Item Written) → item_text x ≡ change_text (of_item x)
item_text_lem x = ap (λ (w : List ℕ). sign_text x.sign ++ (opt_text number_text x.count ++ w)) (added_text_lem x.what)

pub item_marks_lem : (i : ℕ) (x : Item Written) (at : ℕ) → item_marks i x at ≡ change_marks max_items i (of_item x) at
item_marks_lem i x at =
    ap (λ (p : Part). many_mark max_items i at ∷ marks_of at (bare (sign_text x.sign) ∷ opt_part (number_part max_count) x.count ∷ p ∷ [])) (added_part_lem x.what)
