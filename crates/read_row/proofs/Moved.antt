-- A line was read behind the head of a stored row: what stands in the output then is the row's answer. Assumes nothing.
use Prim.Native.Nat.{ℕ, ◌≤◌, ◌<◌}
use mathlib.Core.Path.{◌≡◌, refl, ap, ap₂, ◌∙◌}
use mathlib.Core.Bool.{Bool, true, false, cond}
use mathlib.Core.List.{List, ◌++◌}
use native.Mathlib.Omega.{arith}
use lib.Dec.{eqb, ltb}
use lib.ListN.{length, drop, replicate}
use lib.Seq.{sets}
use borrow.Author.Tests.{lt-ltb, le-ltb, ltb-false, eq-eqb, ne_eqb}
use Rattle.std.specs.Prelude.{Ok, Err}
use Rattle.rules.specs.Answers as rules
use Rattle.rules.specs.Answers.{refuses}
use Rattle.rules.specs.Rows.{row_head_size}
use Rattle.put_bytes.specs.Puts.{Put}
use Rattle.faults.specs.declared.Why.TheVariants.{OutputTooShort}
use Rattle.faults.specs.declared.Refusal.{Refusal}
use Rattle.faults.specs.Refusals.{number_of}
use Rattle.answers.specs.Delivered.{Answer, answered, refused_of}
use Rattle.answers.specs.Behind.{capped, Behind}
use Rattle.answers.proofs.Behind.{capped_more, over_front, refused_is}
use Rattle.answers.proofs.One.{number_not_0, why_one}
use Rattle.read_row.specs.Readings.{filled_over, ended_over, headed_of, moved_of}

-- ---- the ends of a row, by the answer to its line

module _ (d head : List ℕ) (at : ℕ) {r : Answer} where
  pub ended_done : {e : List ℕ} {n size q : ℕ} → r ≡ Ok n → size ≡ capped row_head_size n → size ≤ length d → Put d 0 head e q
      → answered (Ok size) e ≡ ended_over d head at r
  unfolding ended_over
  ended_done {e} {n} {size} i s h p =
      let z : capped row_head_size n ≤ length d = omega arith in
      rw (i, le-ltb (length d) (capped row_head_size n) z)
      (ap₂ (λ (x : ℕ) (y : List ℕ). record { number = 0; place = 0; size = x; out = y }) s p.made)

  -- refusals
  pub ended_short : {e : List ℕ} {n size : ℕ} {a : Answer} → r ≡ Ok n → size ≡ capped row_head_size n → length d < size
      → e ≡ replicate (length d) 0 → a ≡ refused_of OutputTooShort size → answered a e ≡ ended_over d head at r
  unfolding ended_over
  ended_short {n = n} i s h q f =
      let z : length d < capped row_head_size n = omega arith in
      rw (i, lt-ltb (length d) (capped row_head_size n) z)
      (refused_is (length d) OutputTooShort (capped row_head_size n) (f ∙ ap (refused_of OutputTooShort) s) q)

  module _ {x : Refusal} (i : r ≡ Err x) {e : List ℕ} {p : ℕ} {a : Answer} (q : e ≡ replicate (length d) 0) (f : a ≡ refused_of x.why p) where
    pub ended_eight : x.why ≡ OutputTooShort → p ≡ capped row_head_size x.place → answered a e ≡ ended_over d head at r
    unfolding ended_over
    ended_eight n s =
        rw (i, eq-eqb (number_of x.why) 8 (ap number_of n))
        (refused_is (length d) OutputTooShort (capped row_head_size x.place) (f ∙ ap₂ refused_of n s) q)

    pub ended_refused : (x.why ≡ OutputTooShort → ⊥) → p ≡ capped at x.place → answered a e ≡ ended_over d head at r
    unfolding ended_over
    ended_refused n s =
        rw (i, ne_eqb (number_of x.why) 8 (λ w. n (why_one x.why OutputTooShort w)))
        (refused_is (length d) x.why (capped at x.place) (f ∙ ap (refused_of x.why) s) q)

-- ---- over an output whose table stands behind the head

module _ (head : List ℕ) {d e : List ℕ} {b : rules.Answer} {r : Answer} (at : ℕ) (l : length head ≡ row_head_size) (w : Behind row_head_size d e b r) where
  filled_is : (n : ℕ) → filled_over e head (capped row_head_size n) ≡ headed_of head (length d) n (drop row_head_size e)
  filled_is n =
      ap (λ (m : ℕ). cond (ltb m (capped row_head_size n)) (refuses m 8 (capped row_head_size n)) (record { number = 0; place = 0; size = capped row_head_size n; out = sets e 0 head })) w.same
      ∙ by (ltb (length d) (capped row_head_size n)) refl
    where
      by : (t : Bool) → ltb (length d) (capped row_head_size n) ≡ t
          → cond t (refuses (length d) 8 (capped row_head_size n)) (record { number = 0; place = 0; size = capped row_head_size n; out = sets e 0 head })
          ≡ cond t (refuses (length d) 8 (capped row_head_size n)) (record { number = 0; place = 0; size = capped row_head_size n; out = head ++ drop row_head_size e })
      by true q = refl
      by false q =
          let h = ltb-false (length d) (capped row_head_size n) q in
          let k : row_head_size ≤ length e = omega (arith, w.same, capped_more row_head_size n (omega arith)) in
          ap (λ (x : List ℕ). record { number = 0; place = 0; size = capped row_head_size n; out = x })
          (over_front head e (omega arith) ∙ ap (λ (m : ℕ). head ++ drop m e) l)

  by_answer : (r : Answer) → ended_over e head at r ≡ moved_of head at (length d) (answered r (drop row_head_size e))
  unfolding ended_over moved_of
  by_answer (Ok n) = filled_is n
  by_answer (Err x) =
      rw (ne_eqb (number_of x.why) 0 (number_not_0 x.why))
      (ap (λ (n : ℕ). cond (eqb (number_of x.why) 8) (refuses n 8 (capped row_head_size x.place)) (refuses n (number_of x.why) (capped at x.place))) w.same)

  pub ended_is : ended_over e head at r ≡ moved_of head at (length d) b
  ended_is = by_answer r ∙ ap (moved_of head at (length d)) w.is
