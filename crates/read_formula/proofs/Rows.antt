-- Things in a row, each told of by how many bytes are left: after all of them, the first broken limit is that of the row's marks.
-- Assumes nothing.
use Prim.Native.Nat.{ℕ, ◌+◌, ◌-◌, ◌≤◌}
use mathlib.Core.Path.{◌≡◌, sym, ap, ap₂, ◌∙◌}
use mathlib.Core.List.{List, [], ◌∷◌, ◌++◌}
use native.Mathlib.Omega.{arith}
use lib.ListN.{length, length-append}
use Rattle.std.specs.Prelude.{Option}
use Rattle.lang.specs.Parts.{flat}
use Rattle.lang.specs.Mark.{Mark}
use Rattle.lang.specs.Walk.{folded}
use Rattle.rules.specs.Limits.{row_marks}
use Rattle.faults.specs.declared.Refusal.{Refusal}
use Rattle.faults.specs.Faults.{after}
use Rattle.read_formula.specs.Formulas.{Counted, counted}
use Rattle.faults.proofs.Marks.{after_append}

-- one more, with `left` bytes behind it; `tell` says the fault after it, by what is left where it begins
abbrev pub turn_of : {A : Type 0} → (A → List ℕ) → (Option Refusal → A → ℕ → ℕ → Option Refusal) → Counted → A → ℕ → Counted
turn_of text tell a x left = counted (a.units + 1) (tell a.fault x a.units (length (text x) + left))

module _ {A : Type 0} (text : A → List ℕ) (marks : ℕ → A → ℕ → List Mark) (tell : Option Refusal → A → ℕ → ℕ → Option Refusal) (end : ℕ)
    (tells : (f : Option Refusal) (x : A) (i left : ℕ) → length (text x) ≤ left → left ≤ end → tell f x i left ≡ after f (marks i x (end - left))) where
  pub row_fold : (xs : List A) (n i : ℕ) (f : Option Refusal) → length (flat text xs) + n ≤ end
      → folded text (turn_of text tell) (counted i f) xs n ≡ counted (i + length xs) (after f (row_marks text marks i xs (end - (length (flat text xs) + n))))
  row_fold [] n i f h = ap (λ (j : ℕ). counted j f) (omega arith)
  row_fold (x ∷ xs) n i f h =
      let l = length-append (text x) (flat text xs) in
      let left = length (text x) + (length (flat text xs) + n) in
      let at = end - (length (text x ++ flat text xs) + n) in
      let g = tell f x i left in
      let p : end - left ≡ at = omega arith in
      let q : end - (length (flat text xs) + n) ≡ at + length (text x) = omega arith in
      let e : g ≡ after f (marks i x at) = tells f x i left (omega arith) (omega arith) ∙ ap (λ (z : ℕ). after f (marks i x z)) p in
      row_fold xs n (i + 1) g (omega arith)
      ∙ ap₂ counted (omega arith)
      (ap₂ (λ (g : Option Refusal) (z : ℕ). after g (row_marks text marks (i + 1) xs z)) e q
      ∙ sym (after_append f (marks i x at) (row_marks text marks (i + 1) xs (at + length (text x)))))
