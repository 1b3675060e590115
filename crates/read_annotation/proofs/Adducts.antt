-- What is read of an adduct that is spelled. Assumes nothing.
use Prim.Native.Nat.{ℕ, ◌+◌, ◌-◌, ◌≤◌}
use mathlib.Core.Path.{◌≡◌, refl, sym, ap, ap₂, ◌∙◌}
use mathlib.Core.Bool.{false}
use mathlib.Core.List.{List, [], ◌∷◌, ◌++◌, map, append_assoc, append-nil}
use native.Mathlib.Omega.{arith}
use lib.ListN.{length, length-append}
use Rattle.std.specs.Prelude.{Option}
use Rattle.lang.specs.Parts.{flat}
use Rattle.rules.specs.Bytes.{bytes}
use Rattle.rules.specs.Texts.{starts_with}
use Rattle.rules.specs.Formulas.{Written}
use Rattle.rules.specs.Adducts.{Item, item_text, item_map, adduct_text}
use Rattle.rules.specs.Fields.{filled}
use Rattle.rules.specs.Limits.{max_items, row_marks, item_marks, adduct_marks}
use Rattle.rules.specs.Stored.{added_units}
use Rattle.faults.specs.declared.Refusal.{Refusal}
use Rattle.faults.specs.Faults.{after}
use Rattle.read_formula.proofs.Ends.{ends_apart}
use Rattle.read_opening.proofs.SpelledOpenings.{no_sign}
use Rattle.read_changes.specs.declared.Row.{Row}
use Rattle.read_changes.specs.Rows.{changes_of}
use Rattle.read_changes.proofs.SpelledChanges.{EndsChanges, items_read}
use Rattle.read_annotation.specs.Parts.{adduct_with, adduct_of}

abbrev pub adduct_read : List (Item Written) → Option Refusal → Row
adduct_read xs g =
    record {
      n = length xs;
      units = length (flat (λ x. added_units x.what) (map (item_map filled) xs));
      text = 0;
      len = length (adduct_text xs);
      fault = g;
    }

-- `]` goes on with no item
pub closed : (k : List ℕ) → EndsChanges (93 ∷ k)
closed k = record { formula = ends_apart (93 ∷ k) refl; none = (no_sign (93 ∷ k) refl).0 }

pub adduct_read_lem : (xs : List (Item Written)) (k : List ℕ) (end : ℕ) (f : Option Refusal) → starts_with (bytes "[M") k ≡ false → length (adduct_text xs ++ k) ≤ end
    → adduct_of end (adduct_text xs ++ k) f ≡ adduct_read xs (after f (adduct_marks xs (end - length (adduct_text xs ++ k))))
unfolding adduct_of
adduct_read_lem [] k end f e h = rw e
adduct_read_lem (x ∷ xs) k end f e h =
    let ys = x ∷ xs in
    let w = flat item_text ys in
    let s = adduct_text ys ++ k in
    let t : (w ++ bytes "]") ++ k ≡ w ++ (93 ∷ k) = append_assoc w (bytes "]") k in
    let l : length ((w ++ bytes "]") ++ k) ≡ length (w ++ (93 ∷ k)) = ap length t in
    let m : length (w ++ bytes "]") ≡ length w + 1 = length-append w (bytes "]") in
    let o = length-append w (93 ∷ k) in
    let p : end - length (w ++ (93 ∷ k)) ≡ end - length s + 2 = omega arith in
    let ms = row_marks item_text item_marks 0 ys in
    ap (λ (z : List ℕ). adduct_with s (changes_of max_items end z f)) t
    ∙ ap (adduct_with s) (items_read ys (93 ∷ k) end f (closed k) (omega arith))
    ∙ ap₂ (λ (n : ℕ) (g : Option Refusal). record { n = length ys; units = length (flat (λ x. added_units x.what) (map (item_map filled) ys)); text = 0; len = n; fault = g })
    (omega arith)
    (ap (λ (z : ℕ). after f (ms z)) p ∙ ap (after f) (sym (append-nil (ms (end - length s + 2)))))
