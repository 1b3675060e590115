-- Parts one after the other: what is left behind each, and the first broken limit of all. Assumes nothing.
use Prim.Native.Nat.{ℕ, ◌+◌, ◌-◌, ◌≤◌}
use mathlib.Core.Path.{◌≡◌, refl, sym, ap, ◌∙◌}
use mathlib.Core.List.{List, ◌∷◌, ◌++◌, append_assoc}
use native.Mathlib.Omega.{arith}
use lib.ListN.{length, drop, length-append}
use lib.Seq.{drop-append_seam}
use Rattle.std.specs.Prelude.{Option}
use Rattle.lang.specs.Parts.{Opt, silent, written, opt_text}
use Rattle.lang.specs.Mark.{Part, marks_of}
use Rattle.rules.specs.Limits.{opt_part}
use Rattle.faults.specs.declared.Refusal.{Refusal}
use Rattle.faults.specs.Faults.{after}
use Rattle.faults.proofs.Marks.{after_append}

pub opt_text_lem : {A : Type 0} (part : A → Part) (text : A → List ℕ) → ((x : A) → (part x).text ≡ text x) → (o : Opt A) → (opt_part part o).text ≡ opt_text text o
opt_text_lem part text h silent = refl
opt_text_lem part text h (written x) = h x

-- a text w and what follows it, in a line of `end` bytes
module _ (w k : List ℕ) where
  -- what is left behind w, told by its length
  pub drop_is : {n : ℕ} → n ≡ length w → drop n (w ++ k) ≡ k
  drop_is {n} e = ap (λ (m : ℕ). drop m (w ++ k)) e ∙ drop-append_seam w k

  pub inside : {end : ℕ} → length (w ++ k) ≤ end → length k ≤ end
  inside h = omega (arith, length-append w k)

  pub first_part : {end : ℕ} (f : Option Refusal) (p : Part) (ps : List Part) → p.text ≡ w → length (w ++ k) ≤ end
      → after f (marks_of (end - length (w ++ k)) (p ∷ ps)) ≡ after (after f (p.marks (end - length (w ++ k)))) (marks_of (end - length k) ps)
  first_part {end} f p ps e h =
      let at = end - length (w ++ k) in
      let q : at + length p.text ≡ end - length k = omega (arith, length-append w k, ap length e) in
      after_append f (p.marks at) (marks_of (at + length p.text) ps) ∙ ap (λ (z : ℕ). after (after f (p.marks at)) (marks_of z ps)) q

-- what is left behind three texts
pub drop_three : (u v w k : List ℕ) → drop (length u + length v + length w) (u ++ (v ++ (w ++ k))) ≡ k
drop_three u v w k =
    let n : length u + length v + length w ≡ length ((u ++ v) ++ w) = omega (arith, length-append (u ++ v) w, length-append u v) in
    ap (drop (length u + length v + length w)) (sym (append_assoc (u ++ v) w k ∙ append_assoc u v (w ++ k))) ∙ drop_is ((u ++ v) ++ w) k n
