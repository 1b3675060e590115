-- What is spelled anew of an adduct that is spelled. Assumes nothing.
use Prim.Native.Nat.{ℕ, ◌≤◌}
use mathlib.Core.Path.{◌≡◌, refl, ap, ◌∙◌}
use mathlib.Core.Bool.{false}
use mathlib.Core.List.{List, [], ◌∷◌, ◌++◌, map, append_assoc}
use native.Mathlib.Omega.{arith}
use lib.Dec.{T}
use lib.ListN.{length, length-map}
use Rattle.lang.specs.Parts.{flat}
use Rattle.lang.specs.Mark.{Kept, here, later}
use Rattle.lang.specs.Order.{Perm, same, rising}
use Rattle.rules.specs.Bytes.{bytes}
use Rattle.rules.specs.Texts.{starts_with}
use Rattle.rules.specs.Numbers.{Number}
use Rattle.rules.specs.Formulas.{Written}
use Rattle.rules.specs.Adducts.{Item, item_text, item_map, adduct_text}
use Rattle.rules.specs.Fields.{filled}
use Rattle.rules.specs.Preferred.{shortened, item_le}
use Rattle.rules.specs.Limits.{bare, row_part, item_marks, adduct_marks}
use Rattle.rules.proofs.Keeps.{kept_part}
use Rattle.rules.proofs.Totals.{perm_length}
use Rattle.put_formula.proofs.Chains.{flat_map}
use Rattle.sort_changes.specs.Spelled.{changes_spelled}
use Rattle.sort_changes.proofs.Respelled.{items_spelled}
use Rattle.sort_changes.proofs.Fits.{items_fit}
use Rattle.read_annotation.proofs.Adducts.{closed}
use Rattle.respell_annotation.specs.Annotations.{adduct_spelled}

-- the bytes s begin with the adduct xs; its items are spelled in preferred order
pub record AdductSpelled (xs : List (Item Written)) (s : List ℕ) : Type 0 where
  pub ls : List (Item Number)
  pub same : Perm (map (item_map filled) xs) ls
  pub rise : T (rising item_le ls)
  pub spelled : adduct_spelled s ≡ adduct_text (map (item_map shortened) ls)

-- items between `[M` and `]`
some_items : (xs : List (Item Written)) → 1 ≤ length xs → 91 ∷ 77 ∷ (flat item_text xs ++ (93 ∷ [])) ≡ adduct_text xs
some_items [] h = absurd (omega arith)
some_items (x ∷ xs) h = refl

pub adduct_spelled_lem : (xs : List (Item Written)) (k : List ℕ) (at : ℕ) → starts_with (bytes "[M") k ≡ false → Kept (adduct_marks xs at)
    → AdductSpelled xs (adduct_text xs ++ k)
unfolding adduct_spelled
adduct_spelled_lem [] k at e h = record { ls = []; same = same; rise = tt; spelled = rw e }
adduct_spelled_lem (x ∷ xs) k at e h =
    let ys = x ∷ xs in
    let w = flat item_text ys in
    let row = row_part item_text item_marks ys in
    let p = kept_part at (bare (bytes "[M") ∷ row ∷ []) h row (later here) in
    let r = items_spelled ys (93 ∷ k) (closed k) (items_fit ys p.0 p.1) in
    let n : 1 ≤ length (map (item_map shortened) r.ls) =
    omega (arith, perm_length r.same, length-map xs (item_map filled), length-map r.ls (item_map shortened)) in
    record {
      ls = r.ls;
      same = r.same;
      rise = r.rise;
      spelled =
          ap (λ (s : List ℕ). 91 ∷ 77 ∷ (s ++ (93 ∷ [])))
          (ap changes_spelled (append_assoc w (bytes "]") k) ∙ r.spelled ∙ flat_map item_text (item_map shortened) r.ls)
          ∙ some_items (map (item_map shortened) r.ls) n;
    }
