-- The loop that walks the annotations of a line: what is left to give makes the whole. Assumes nothing.
use Prim.Native.Nat.{ℕ, zero, suc, ◌+◌, ◌-◌, ◌<◌, ◌≤◌, min}
use mathlib.Core.Path.{◌≡◌, refl, sym, ap, ◌∙◌}
use mathlib.Core.Bool.{Bool, true, false, cond}
use mathlib.Core.List.{List, [], ◌++◌, append_assoc, append-nil}
use native.Mathlib.Omega.{arith}
use borrow.Author.Tests.{ne_eqb}
use lib.ListN.{length, drop}
use Rattle.rules.specs.Bytes.{bytes}
use Rattle.rules.specs.Texts.{starts_with}
use Rattle.read_annotation.specs.declared.Parts.{Parts}
use Rattle.measure_line.specs.Loops.{loop}
use Rattle.measure_line.specs.Totals.{goes_on, behind_comma, parts_at}
use Rattle.measure_line.specs.Walks.{behind_by, Done, done_by, done_one, done_next, done_from, line_given_by}
use Rattle.measure_line.proofs.Loops.{loop_on, loop_ends}
use Rattle.measure_line.proofs.Steps.{done_falls}

-- an empty line
pub walked_none : {X : Type 0} (first give : List ℕ → Parts → List X) (line : List ℕ) (p : Parts) → length line < 1 → line_given_by first give line p ≡ []
unfolding line_given_by
walked_none first give line p h = let z : length line ≡ 0 = omega arith in rw z

module _ {X : Type 0} (give : List ℕ → Parts → List X) (line : List ℕ) where
  abbrev done : ℕ → List X → Done X
  done at xs = record { at = at; given = xs }

  -- what was given before stays before
  before_stays : (n : ℕ) (pre xs : List X) (at : ℕ) → (done_from give line n (done at (pre ++ xs))).given ≡ pre ++ (done_from give line n (done at xs)).given
  unfolding loop
  before_stays zero pre xs at = refl
  before_stays (suc n) pre xs at =
      let from = behind_comma line at in
      let p = parts_at line from in
      let more = give (drop from line) p in
      let to = behind_by line from p in
      by (ap (λ (l : List X). (done_from give line n (done to l)).given) (append_assoc pre xs more) ∙ before_stays n pre (xs ++ more) to) (goes_on line at)
    where
      by : (done_from give line n (done_next give line (done at (pre ++ xs)))).given ≡ pre ++ (done_from give line n (done_next give line (done at xs))).given
          → (t : Bool)
          → (cond t (done_from give line n (done_next give line (done at (pre ++ xs)))) (done at (pre ++ xs))).given
          ≡ pre ++ (cond t (done_from give line n (done_next give line (done at xs))) (done at xs)).given
      by ih true = ih
      by ih false = refl

  -- from place at₀ on, xs were given up to place `at`; those that are left
  pub record Walking (at₀ : ℕ) (xs : List X) (at : ℕ) : Type 0 where
    pub left : done_from give line (length line) (done at₀ []) ≡ done_from give line (length line) (done at xs)

  pub walking_begins : (at : ℕ) → Walking at [] at
  walking_begins at = record { left = refl }

  -- r is the text from place `at` on
  module _ {at₀ at : ℕ} {xs : List X} (w : Walking at₀ xs at) {r : List ℕ} (pr : r ≡ drop at line) where
    goes : {b : Bool} → starts_with (bytes ",") r ≡ b → goes_on line at ≡ b
    goes q = ap (starts_with (bytes ",")) (sym pr) ∙ q

    -- a comma: one annotation more
    module _ {from to : ℕ} {p : Parts} (q : starts_with (bytes ",") r ≡ true) (pf : from ≡ min (at + 1) (length line)) (pp : p ≡ parts_at line from)
        (pt : to ≡ behind_by line from p) where
      next_is : done_next give line (done at xs) ≡ done to (xs ++ give (drop from line) p)
      next_is =
          ap (done_one give line xs) (sym pf) ∙ ap (done_by give line xs from) (sym pp) ∙ ap (λ (n : ℕ). done n (xs ++ give (drop from line) p)) (sym pt)

      pub walking_turns : Walking at₀ (xs ++ give (drop from line) p) to
      walking_turns =
          record {
            left =
                w.left
                ∙ loop_on (λ (a : Done X). goes_on line a.at) (done_next give line) (λ (a : Done X). length line - a.at) (done_falls give line)
                (length line) (done at xs) (omega arith) (goes q)
                ∙ ap (done_from give line (length line)) next_is;
          }

      pub walking_falls : length line - to < length line - at
      walking_falls = let h = done_falls give line (done at xs) (goes q) in omega (arith, ap (λ (a : Done X). a.at) next_is)

    -- no comma: what was given is all; the first annotation began at 0
    walking_is : starts_with (bytes ",") r ≡ false → (done_from give line (length line) (done at₀ [])).given ≡ xs
    walking_is q =
        ap (λ (a : Done X). a.given)
        (w.left ∙ loop_ends (λ (a : Done X). goes_on line a.at) (done_next give line) (length line) (done at xs) (goes q))

    pub walking_ends : (first : List ℕ → Parts → List X) (p : Parts) → 1 ≤ length line → at₀ ≡ behind_by line 0 p → starts_with (bytes ",") r ≡ false
        → line_given_by first give line p ≡ first (drop 0 line) p ++ xs
    unfolding line_given_by
    walking_ends first p h pa q =
        let x = first (drop 0 line) p in
        let z : (length line ≡ 0 → ⊥) = λ q. omega arith in
        let v : (done_from give line (length line) (done_by first line [] 0 p)).given ≡ x ++ xs =
        ap (λ (l : List X). (done_from give line (length line) (done (behind_by line 0 p) l)).given) (sym (append-nil x))
        ∙ before_stays (length line) x [] (behind_by line 0 p) ∙ ap (λ (n : ℕ). x ++ (done_from give line (length line) (done n [])).given) (sym pa)
        ∙ ap (λ (l : List X). x ++ l) (walking_is q) in
        rw (ne_eqb (length line) 0 z) v
