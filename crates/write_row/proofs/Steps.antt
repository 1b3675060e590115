-- What each step of writing a row gives, in the words of its model. Assumes nothing.
use Prim.Native.Nat.{ℕ, ◌≤◌, ◌<◌}
use mathlib.Core.Path.{◌≡◌, sym, ap, ap₂, ◌∙◌}
use mathlib.Core.List.{List, [], ◌∷◌}
use native.Mathlib.Omega.{arith}
use lib.ListN.{length, replicate}
use borrow.Author.Tests.{lt-ltb, le-ltb, eq-eqb, ne_eqb}
use Rattle.std.specs.Prelude.{Result, Ok, Err}
use Rattle.rules.specs.Answers as rules
use Rattle.rules.specs.Answers.{refuses}
use Rattle.put_bytes.specs.Puts.{Put, cleared}
use Rattle.faults.specs.declared.Why.TheVariants.{OutputTooShort}
use Rattle.answers.specs.Delivered.{Answer, answered, refused_of}
use Rattle.answers.specs.Behind.{capped}
use Rattle.answers.proofs.Behind.{refused_is}
use Rattle.answers.proofs.One.{why_one}
use Rattle.faults.specs.declared.Refusal.{Refusal}
use Rattle.faults.specs.Refusals.{number_of}
use Rattle.write_row.specs.declared.Head.{Head}
use Rattle.write_row.specs.Writings.{head_of, bare_over, labelled_over, finished_over, headed_of, write_row_of}

pub bare_short : (d : List ℕ) (to : ℕ) {e : List ℕ} {a : Answer} → length d < to → a ≡ refused_of OutputTooShort to → e ≡ replicate (length d) 0 → answered a e ≡ bare_over d to
unfolding bare_over
bare_short d to h x y = rw (lt-ltb (length d) to h) (refused_is (length d) OutputTooShort to x y)

pub bare_done : (d : List ℕ) (to : ℕ) {e : List ℕ} → to ≤ length d → e ≡ cleared d to → answered (Ok to) e ≡ bare_over d to
unfolding bare_over
bare_done d to h y = rw (le-ltb (length d) to h) (ap (λ (l : List ℕ). record { number = 0; place = 0; size = to; out = l }) y)

pub labelled_short : (d : List ℕ) (to n : ℕ) {e : List ℕ} {p size : ℕ} {a : Answer} → p ≡ capped to 1 → size ≡ capped p n → length d < size → a ≡ refused_of OutputTooShort size
    → e ≡ replicate (length d) 0 → answered a e ≡ labelled_over d to n
unfolding labelled_over
labelled_short d to n q s h x y =
    let z = s ∙ ap (λ (m : ℕ). capped m n) q in
    let g : length d < capped (capped to 1) n = omega arith in
    rw (lt-ltb (length d) (capped (capped to 1) n) g) (refused_is (length d) OutputTooShort (capped (capped to 1) n) (x ∙ ap (refused_of OutputTooShort) z) y)

pub labelled_done : (d : List ℕ) (to n : ℕ) {e : List ℕ} {p size k : ℕ} → p ≡ capped to 1 → size ≡ capped p n → size ≤ length d → Put d to (9 ∷ []) e k
    → answered (Ok size) e ≡ labelled_over d to n
unfolding labelled_over
labelled_done d to n q s h x =
    let z = s ∙ ap (λ (m : ℕ). capped m n) q in
    let g : capped (capped to 1) n ≤ length d = omega arith in
    rw (le-ltb (length d) (capped (capped to 1) n) g) (ap₂ (λ (m : ℕ) (l : List ℕ). record { number = 0; place = 0; size = m; out = l }) z x.made)

-- the row, by the answer to its line
module _ (d : List ℕ) (to : ℕ) {r : Answer} where
  pub finished_empty : {n : ℕ} {b : rules.Answer} → r ≡ Ok n → n ≡ 0 → b ≡ bare_over d to → b ≡ finished_over d to r
  unfolding finished_over
  finished_empty {n} i z e = rw (i, eq-eqb n 0 z) e

  pub finished_line : {n : ℕ} {b : rules.Answer} → r ≡ Ok n → (n ≡ 0 → ⊥) → b ≡ labelled_over d to n → b ≡ finished_over d to r
  unfolding finished_over
  finished_line {n} i z e = rw (i, ne_eqb n 0 z) e

  module _ {x : Refusal} (i : r ≡ Err x) {e : List ℕ} (q : e ≡ replicate (length d) 0) where
    pub finished_eight : {m p : ℕ} {a : Answer} → x.why ≡ OutputTooShort → m ≡ capped to 1 → p ≡ capped m x.place → a ≡ refused_of x.why p → answered a e ≡ finished_over d to r
    unfolding finished_over
    finished_eight n s t f =
        rw (i, eq-eqb (number_of x.why) 8 (ap number_of n))
        (refused_is (length d) OutputTooShort (capped (capped to 1) x.place) (f ∙ ap₂ refused_of n (t ∙ ap (λ (k : ℕ). capped k x.place) s)) q)

    pub finished_refused : (x.why ≡ OutputTooShort → ⊥) → answered (Err x) e ≡ finished_over d to r
    unfolding finished_over
    finished_refused n =
        rw (i, ne_eqb (number_of x.why) 8 (λ w. n (why_one x.why OutputTooShort w))) (ap (answered (Err x)) q)

pub written_bad : (machine s : List ℕ) (room : ℕ) {o : Result Head Head} {x : Head} → o ≡ head_of s → o ≡ Err x → refuses room 9 0 ≡ write_row_of machine s room
unfolding write_row_of
written_bad machine s room e g = ap (headed_of machine s room) (sym g ∙ e)
