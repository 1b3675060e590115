-- What is read of spelled losses, or adduct items, in a row. Assumes nothing.
use Prim.Native.Nat.{ℕ, ◌+◌, ◌-◌, ◌≤◌}
use mathlib.Core.Path.{◌≡◌, sym, ap, ap₂, ◌∙◌, subst}
use mathlib.Core.Bool.{true, false}
use mathlib.Core.List.{List, [], ◌∷◌, ◌++◌, map, append_assoc}
use native.Mathlib.Omega.{arith}
use lib.ListN.{length, drop, length-append}
use lib.Seq.{drop-append_seam}
use Rattle.std.specs.Prelude.{Option, None}
use Rattle.lang.specs.Re.{Rng, in_c}
use Rattle.lang.specs.Parts.{flat}
use Rattle.lang.specs.Mark.{Mark}
use Rattle.lang.specs.Walk.{Walked, walked}
use Rattle.lang.proofs.Walks.{walk_on, walk_ends}
use Rattle.rules.specs.Texts.{first_in}
use Rattle.rules.specs.Limits.{row_marks}
use Rattle.faults.specs.declared.Refusal.{Refusal}
use Rattle.faults.specs.Faults.{after}
use Rattle.faults.proofs.Marks.{after_append}
use Rattle.read_formula.proofs.Ends.{EndsFormula}
use Rattle.read_opening.specs.Heads.{begins_change}
use Rattle.read_changes.specs.declared.ChangeRead.{ChangeRead}
use Rattle.read_changes.specs.Changes.{change_of, units_in, text_in}
use Rattle.read_changes.specs.Rows.{Sums, sums, change_size, added, count_change, changes_from, changes_of}
use Rattle.read_changes.proofs.Measures.{change_long}
use Rattle.read_changes.proofs.ChangeLoop.{size_moves}
use Rattle.read_changes.proofs.Spelled.{Spelled, change_text, change_marks}
use Rattle.read_changes.proofs.Begins.{begins_change_lem, change_first, change_ends}
use Rattle.read_changes.proofs.OneChange.{change_read, change_read_lem}

-- what follows goes on neither with a formula nor with the row
pub record EndsChanges (k : List ℕ) : Type 0 where
  pub formula : EndsFormula k
  pub none : begins_change k ≡ false

-- things of a type A that are spelled so
module _ {A : Type 0} {m : ℕ} (of : A → Spelled m) (text : A → List ℕ) (text_of : (x : A) → text x ≡ change_text (of x)) where
  -- ---- what a row begins with

  pub row_first : (xs : List A) (k : List ℕ) (c : List Rng) → in_c c 43 ≡ false → in_c c 45 ≡ false → first_in c k ≡ false → first_in c (flat text xs ++ k) ≡ false
  row_first [] k c p q e = e
  row_first (x ∷ xs) k c p q e = rw (append_assoc (text x) (flat text xs) k, text_of x) (change_first (of x) (flat text xs ++ k) c p q)

  pub row_ends : (xs : List A) (k : List ℕ) → EndsFormula k → EndsFormula (flat text xs ++ k)
  row_ends [] k e = e
  row_ends (x ∷ xs) k e = rw (append_assoc (text x) (flat text xs) k, text_of x) (change_ends (of x) (flat text xs ++ k))

  -- ---- one of a row

  module _ (x : A) (k : List ℕ) where
    row_begins : begins_change (text x ++ k) ≡ true
    row_begins = rw (text_of x) (begins_change_lem (of x) k)

    row_size : EndsFormula k → change_size (text x ++ k) ≡ length (text x)
    row_size e =
        let s = change_text (of x) ++ k in
        rw (text_of x)
        (change_long 0 0 0 0 0 (length s) s None None
        ∙ ap (λ (p : ChangeRead). p.len) (change_read_lem (of x) k 0 0 (length s) None e (omega arith)))

  -- ---- the row

  module _ {B U : Type 0} (bound : ℕ) (marks : ℕ → A → ℕ → List Mark) (marks-of : (i : ℕ) (x : A) (at : ℕ) → marks i x at ≡ change_marks bound i (of x) at)
      (filledIn : A → B) (units : B → List U) (names : B → List ℕ)
      (units_of : (x : A) (g : Option Refusal) → units_in (change_read (of x) g) ≡ length (units (filledIn x)))
      (names_of : (x : A) (g : Option Refusal) → text_in (change_read (of x) g) ≡ length (names (filledIn x)))
      (k : List ℕ) (e : EndsChanges k) (end : ℕ) where
    -- one more
    row_turn : (x : A) (a : Sums) (j : List ℕ) → EndsFormula j → length (text x ++ j) ≤ end
        → count_change bound end a (text x ++ j)
        ≡ sums (a.n + 1) (a.units + length (units (filledIn x))) (a.text + length (names (filledIn x))) (after a.fault (marks a.n x (end - length (text x ++ j))))
    unfolding count_change
    row_turn x a j o h =
        let g = after a.fault (change_marks bound a.n (of x) (end - length (change_text (of x) ++ j))) in
        let l : length (change_text (of x) ++ j) ≤ end = subst (λ (t : List ℕ). length (t ++ j) ≤ end) (text_of x) h in
        ap (λ (t : List ℕ). added a (change_of bound a.n end (t ++ j) a.fault)) (text_of x)
        ∙ ap (added a) (change_read_lem (of x) j bound a.n end a.fault o l)
        ∙ ap₂ (λ (y z : ℕ). sums (a.n + 1) (a.units + y) (a.text + z) g) (units_of x g) (names_of x g)
        ∙ ap (λ (ms : List Mark). sums (a.n + 1) (a.units + length (units (filledIn x))) (a.text + length (names (filledIn x))) (after a.fault ms))
        (ap (λ (t : List ℕ). change_marks bound a.n (of x) (end - length (t ++ j))) (sym (text_of x)) ∙ sym (marks-of a.n x (end - length (text x ++ j))))

    -- after all of them
    abbrev row_sums : Sums → List A → ℕ → Sums
    row_sums a xs at =
        sums (a.n + length xs) (a.units + length (flat units (map filledIn xs))) (a.text + length (flat names (map filledIn xs))) (after a.fault (row_marks text marks a.n xs at))

    row_walk : (xs : List A) (a : Sums) → length (flat text xs ++ k) ≤ end → changes_from bound end (flat text xs ++ k) a ≡ walked k (row_sums a xs (end - length (flat text xs ++ k)))
    row_walk [] a h =
        walk_ends begins_change change_size (count_change bound end) size_moves k a e.none
        ∙ ap (walked k) (ap₂ (λ (n y : ℕ). sums n y a.text a.fault) (omega arith) (omega arith) ∙ ap (λ (z : ℕ). sums (a.n + 0) (a.units + 0) z a.fault) (omega arith))
    row_walk (x ∷ xs) a h =
        let j = flat text xs ++ k in
        let s = text x ++ j in
        let t = append_assoc (text x) (flat text xs) k in
        let u : length (flat text (x ∷ xs) ++ k) ≡ length s = ap length t in
        let v : length s ≡ length (text x) + length j = length-append (text x) j in
        let at = end - length (flat text (x ∷ xs) ++ k) in
        let p : end - length s ≡ at = omega arith in
        let q : end - length j ≡ at + length (text x) = omega arith in
        let o = row_ends xs k e.formula in
        let y = units (filledIn x) in
        let z = names (filledIn x) in
        let b = sums (a.n + 1) (a.units + length y) (a.text + length z) (after a.fault (marks a.n x at)) in
        let ys = flat units (map filledIn xs) in
        let zs = flat names (map filledIn xs) in
        ap (λ (w : List ℕ). changes_from bound end w a) t
        ∙ walk_on begins_change change_size (count_change bound end) size_moves s a (row_begins x j)
        ∙ ap₂ (λ (n : ℕ) (c : Sums). changes_from bound end (drop n s) c) (row_size x j o)
        (row_turn x a j o (omega arith) ∙ ap (λ (i : ℕ). sums (a.n + 1) (a.units + length y) (a.text + length z) (after a.fault (marks a.n x i))) p)
        ∙ ap (λ (w : List ℕ). changes_from bound end w b) (drop-append_seam (text x) j)
        ∙ row_walk xs b (omega arith)
        ∙ ap (λ (c : Sums). walked k c)
        (ap₂ (λ (n : ℕ) (f : Option Refusal). sums n (a.units + length y + length ys) (a.text + length z + length zs) f) (omega arith)
        (ap (λ (i : ℕ). after b.fault (row_marks text marks (a.n + 1) xs i)) q
        ∙ sym (after_append a.fault (marks a.n x at) (row_marks text marks (a.n + 1) xs (at + length (text x)))))
        ∙ ap₂ (λ (y z : ℕ). sums (a.n + length (x ∷ xs)) y z (after a.fault (row_marks text marks a.n (x ∷ xs) at)))
        (omega (arith, length-append y ys)) (omega (arith, length-append z zs)))

    pub row_read : (xs : List A) (f : Option Refusal) → length (flat text xs ++ k) ≤ end
        → changes_of bound end (flat text xs ++ k) f
        ≡ record {
          n = length xs;
          units = length (flat units (map filledIn xs));
          text = length (flat names (map filledIn xs));
          len = length (flat text xs);
          fault = after f (row_marks text marks 0 xs (end - length (flat text xs ++ k)));
        }
    unfolding changes_of
    row_read xs f h =
        let s = flat text xs ++ k in
        let g = after f (row_marks text marks 0 xs (end - length s)) in
        let y = length (flat units (map filledIn xs)) in
        let z = length (flat names (map filledIn xs)) in
        let l : length s - length k ≡ length (flat text xs) = omega (arith, length-append (flat text xs) k) in
        let n : 0 + length xs ≡ length xs = omega arith in
        let u : 0 + y ≡ y = omega arith in
        let v : 0 + z ≡ z = omega arith in
        ap (λ (w : Walked Sums). record { n = w.known.n; units = w.known.units; text = w.known.text; len = length s - length w.rest; fault = w.known.fault }) (row_walk xs (sums 0 0 0 f) h)
        ∙ rw (l, n, u, v)
