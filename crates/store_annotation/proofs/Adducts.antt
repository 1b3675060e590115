-- What is stored of an adduct that is spelled. Assumes nothing.
use Prim.Native.Nat.{ℕ}
use mathlib.Core.Path.{◌≡◌, sym, subst}
use mathlib.Core.Bool.{false}
use mathlib.Core.List.{List, [], ◌∷◌, ◌++◌, map, append_assoc}
use lib.Dec.{T, eqb}
use lib.ListN.{length}
use Rattle.lang.specs.Parts.{flat}
use Rattle.lang.specs.Mark.{Kept, here, later}
use Rattle.lang.specs.Order.{Perm, same, rising}
use Rattle.rules.specs.Bytes.{bytes}
use Rattle.rules.specs.Texts.{starts_with}
use Rattle.rules.specs.Numbers.{Number}
use Rattle.rules.specs.Formulas.{Written}
use Rattle.rules.specs.Adducts.{Item, item_text, item_map, adduct_text}
use Rattle.rules.specs.Fields.{filled}
use Rattle.rules.specs.Preferred.{item_le}
use Rattle.rules.specs.Limits.{bare, row_part, item_marks, adduct_marks}
use Rattle.rules.specs.Stored.{stores, unit_record, added_units, item_record}
use Rattle.rules.specs.Layout.{item_section, unit_section, text_section}
use Rattle.rules.proofs.Keeps.{kept_part}
use Rattle.store_sections.specs.Pages.{bytes_of}
use Rattle.sort_changes.proofs.StoredChanges.{ItemsStored, items_stored, items_no_text}
use Rattle.sort_changes.proofs.Fits.{items_fit}
use Rattle.read_annotation.proofs.Adducts.{closed}
use Rattle.store_annotation.specs.Events.{adduct_count, adduct_events}

-- the bytes s begin with the adduct xs; its items are stored in preferred order
pub record AdductStored (xs : List (Item Written)) (s : List ℕ) : Type 0 where
  pub ls : List (Item Number)
  pub same : Perm (map (item_map filled) xs) ls
  pub rise : T (rising item_le ls)
  pub n : adduct_count s ≡ length (map (item_map filled) xs)
  pub own : bytes_of item_section (adduct_events s) ≡ flat (λ x. stores (item_record x)) ls
  pub units : bytes_of unit_section (adduct_events s) ≡ flat (λ u. stores (unit_record u)) (flat (λ x. added_units x.what) ls)
  pub text : bytes_of text_section (adduct_events s) ≡ []
  pub others : (i : ℕ) → eqb i item_section ≡ false → eqb i unit_section ≡ false → eqb i text_section ≡ false → bytes_of i (adduct_events s) ≡ []

pub adduct_stored : (xs : List (Item Written)) (k : List ℕ) (at : ℕ) → starts_with (bytes "[M") k ≡ false → Kept (adduct_marks xs at) → AdductStored xs (adduct_text xs ++ k)
unfolding adduct_count adduct_events
adduct_stored [] k at e h =
    record { ls = []; same = same; rise = tt; n = rw e; own = rw e; units = rw e; text = rw e; others = λ i p q r. rw e }
adduct_stored (x ∷ xs) k at e h =
    let ys = x ∷ xs in
    let w = flat item_text ys in
    let row = row_part item_text item_marks ys in
    let p = kept_part at (bare (bytes "[M") ∷ row ∷ []) h row (later here) in
    let t : w ++ (93 ∷ k) ≡ (w ++ bytes "]") ++ k = sym (append_assoc w (bytes "]") k) in
    let r : ItemsStored (map (item_map filled) ys) ((w ++ bytes "]") ++ k) (length w) =
    subst (λ (s : List ℕ). ItemsStored (map (item_map filled) ys) s (length w)) t (items_stored ys (93 ∷ k) (closed k) (items_fit ys p.0 p.1)) in
    record {
      ls = r.ls;
      same = r.same;
      rise = r.rise;
      n = r.n;
      own = r.own;
      units = r.units_are;
      text = items_no_text r;
      others = r.others;
    }
