-- The line of a row was written behind its columns: what stands in the output then is the row's answer. Assumes nothing.
use Prim.Native.Nat.{ℕ, ◌+◌, ◌-◌, ◌≤◌}
use mathlib.Core.Path.{◌≡◌, refl, sym, ap, ap₂, ◌∙◌}
use mathlib.Core.Bool.{Bool, true, false, cond}
use mathlib.Core.List.{List, ◌++◌, append_assoc}
use native.Mathlib.Omega.{arith}
use lib.Dec.{eqb, ltb}
use lib.ListN.{length, take, drop, replicate}
use lib.Seq.{sets, sets-eq, take-take, take-append_seam}
use borrow.Author.Tests.{ltb-false, ne_eqb}
use Rattle.std.specs.Prelude.{Ok, Err}
use Rattle.rules.specs.Answers as rules
use Rattle.rules.specs.Answers.{refuses}
use Rattle.rules.specs.Rows.{tab}
use Rattle.put_bytes.specs.Puts.{Put}
use Rattle.put_bytes.proofs.Putting.{put_length}
use Rattle.faults.specs.Refusals.{number_of}
use Rattle.answers.specs.Delivered.{Answer, answered}
use Rattle.answers.specs.Behind.{capped, Behind}
use Rattle.answers.proofs.Behind.{capped_is, capped_more, over_front}
use Rattle.answers.proofs.One.{number_not_0}
use Rattle.write_row.specs.Writings.{bare_over, labelled_over, finished_over, bare_of, labelled_of, behind_of}

-- columns that stand in the first bytes of an output
pub bare_stands : (c e : List ℕ) (to room : ℕ) → length e ≡ room → (to ≤ room → take to e ≡ c) → bare_over e to ≡ bare_of c to room
unfolding bare_over
bare_stands c e to room q stand = ap over q ∙ by (ltb room to) refl
  where
    over : ℕ → rules.Answer
    over n = cond (ltb n to) (refuses n 8 to) (record { number = 0; place = 0; size = to; out = take to e ++ replicate (n - to) 0 })

    by : (t : Bool) → ltb room to ≡ t
        → cond t (refuses room 8 to) (record { number = 0; place = 0; size = to; out = take to e ++ replicate (room - to) 0 })
        ≡ cond t (refuses room 8 to) (record { number = 0; place = 0; size = to; out = c ++ replicate (room - to) 0 })
    by true q = refl
    by false q = ap (λ (l : List ℕ). record { number = 0; place = 0; size = to; out = l ++ replicate (room - to) 0 }) (stand (ltb-false room to q))

-- the line behind them
module _ {c d d1 e : List ℕ} {to : ℕ} {b : rules.Answer} {r : Answer} (few : length c ≤ 27) (p : Put d 0 c d1 to) (w : Behind (capped to 1) d1 e b r) where
  to_is : to ≡ length c
  to_is = omega (arith, p.next)

  at_is : capped to 1 ≡ length c + 1
  at_is = capped_is to 1 (omega (arith, to_is)) ∙ omega (arith, to_is)

  size_is : length e ≡ length d
  size_is = w.same ∙ put_length p

  -- the columns stand there still
  columns_stand : length c ≤ length e → take to e ≡ c
  columns_stand h =
      let n = length c in
      let k : take (n + 1) e ≡ take (n + 1) d1 = ap (λ (m : ℕ). take m e) (sym at_is) ∙ w.kept ∙ ap (λ (m : ℕ). take m d1) at_is in
      let q : d1 ≡ c ++ drop n d = p.made ∙ over_front c d (omega (arith, size_is)) in
      ap (λ (m : ℕ). take m e) to_is ∙ sym (take-take n (n + 1) e (omega arith)) ∙ ap (take n) k ∙ take-take n (n + 1) d1 (omega arith)
      ∙ ap (take n) q ∙ take-append_seam c (drop n d)

  bare_is : bare_over e to ≡ bare_of c to (length d)
  bare_is = bare_stands c e to (length d) size_is (λ h. columns_stand (omega (arith, to_is, size_is)))

  labelled_is : (n : ℕ) → labelled_over e to n ≡ labelled_of c (capped to 1) (length d) n (drop (capped to 1) e)
  unfolding labelled_over
  labelled_is n = ap (λ (m : ℕ). cond (ltb m (capped (capped to 1) n)) (refuses m 8 (capped (capped to 1) n)) (record { number = 0; place = 0; size = (capped (capped to 1) n); out = sets e to tab })) size_is ∙ by (ltb (length d) (capped (capped to 1) n)) refl
    where
      by : (t : Bool) → ltb (length d) (capped (capped to 1) n) ≡ t
          → cond t (refuses (length d) 8 (capped (capped to 1) n)) (record { number = 0; place = 0; size = (capped (capped to 1) n); out = sets e to tab })
          ≡ cond t (refuses (length d) 8 (capped (capped to 1) n)) (record { number = 0; place = 0; size = (capped (capped to 1) n); out = c ++ (tab ++ drop (capped to 1) e) })
      by true q = refl
      by false q =
          let h = ltb-false (length d) (capped (capped to 1) n) q in
          let g = capped_more (capped to 1) n (omega (arith, at_is)) in
          let k : length c + 1 ≤ length e = omega (arith, size_is, at_is) in
          let j : to + 1 ≡ capped to 1 = omega (arith, to_is, at_is) in
          ap (λ (l : List ℕ). record { number = 0; place = 0; size = (capped (capped to 1) n); out = l })
          (sets-eq tab e to (omega (arith, to_is)) ∙ append_assoc (take to e) tab (drop (to + 1) e) ∙ ap₂ (λ (l : List ℕ) (m : ℕ). l ++ (tab ++ drop m e)) (columns_stand (omega arith)) j)

  by_answer : (r : Answer) → finished_over e to r ≡ behind_of c to (length d) (answered r (drop (capped to 1) e))
  unfolding finished_over behind_of
  by_answer (Ok n) = ap₂ (λ (x y : rules.Answer). cond (eqb n 0) x y) bare_is (labelled_is n)
  by_answer (Err x) =
      rw (ne_eqb (number_of x.why) 0 (number_not_0 x.why))
      (ap (λ (n : ℕ). cond (eqb (number_of x.why) 8) (refuses n 8 (capped (capped to 1) x.place)) (refuses n (number_of x.why) x.place)) size_is)

  pub finished_is : finished_over e to r ≡ behind_of c to (length d) b
  finished_is = by_answer r ∙ ap (behind_of c to (length d)) w.is
