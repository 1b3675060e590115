-- What a read brings, and the buffer after it: what was left, half a buffer of it at most, and behind it what came. Assumes nothing.
use Prim.Native.Nat.{ℕ, ◌+◌, ◌-◌, ◌≤◌, min}
use mathlib.Core.Path.{◌≡◌, refl, sym, ap, ◌∙◌, subst}
use mathlib.Core.List.{List, ◌++◌}
use native.Mathlib.Omega.{arith}
use native.Mathlib.Nat.{zero-add}
use native.Mathlib.Decide.{dec_le}
use lib.Dec.{ltb}
use lib.ListN.{length, take, drop, length-take, length-drop}
use lib.Seq.{take_all, take-take, take-add, take-paste, length-paste, paste}
use Rattle.std.specs.Prelude.{Result, Ok, Err}
use Rattle.io_parts.specs.Feeds.{Kept}
use Rattle.io_lines.specs.declared.Stream.{Stream}
use Rattle.put_bytes.specs.Puts.{max_place}
use Rattle.io_lines.specs.Streams.{sum_of, left}
use Rattle.io_lines.specs.Refills.{read_on, Behind, half, Refilled, more, stops}
use Rattle.io_lines.proofs.Looks.{take_least}

-- the first of the bytes that are left
held_front : (h x k : ℕ) (l : List ℕ) → k ≡ min (length l) (min x h) → take k l ≡ take h (take x l)
held_front h x k l e = by (dec_le h x)
  where
    by : Dec (h ≤ x) → take k l ≡ take h (take x l)
    by (yes g) =
        ap (λ (m : ℕ). take m l) e ∙ ap (λ (m : ℕ). take m l) (f g) ∙ take_least h (length l) l (omega arith) (dec_le h (length l)) ∙ sym (take-take h x l g)
      where
        f : h ≤ x → min (length l) (min x h) ≡ min h (length l)
        f g = omega arith
    by (no g) =
        ap (λ (m : ℕ). take m l) e ∙ ap (λ (m : ℕ). take m l) (f g) ∙ take_least x (length l) l (omega arith) (dec_le x (length l)) ∙ sym (take_all h (take x l) (omega (arith, length-take x l)))
      where
        f : (h ≤ x → ⊥) → min (length l) (min x h) ≡ min x (length l)
        f g = omega arith

-- what is left once so many bytes came behind those that were held
module _ (d : List ℕ) (s : Stream) {k held : ℕ} {moved : List ℕ} (small : length d ≤ max_place) (few : k ≡ min (s.filled - s.next) (half d)) (kept : Kept d s.next k moved held) where
  held_inside : held ≤ length d - s.next
  held_inside = omega (arith, kept.is)

  moved_length : length moved ≡ length d
  moved_length = ap length kept.made ∙ length-paste d 0 (drop s.next d) held (omega (arith, held_inside)) (omega (arith, held_inside, length-drop s.next d))

  held_is : take held moved ≡ take (half d) (left d s)
  held_is =
      let z : 0 + held ≡ held = zero-add held in
      ap (take held) kept.made
      ∙ ap (λ (m : ℕ). take m (paste d 0 (drop s.next d) held)) (sym z)
      ∙ take-paste d 0 (drop s.next d) held (omega arith) (omega (arith, held_inside, length-drop s.next d))
      ∙ held_front (half d) (s.filled - s.next) held (drop s.next d) (omega (arith, kept.is, few, length-drop s.next d))

  left_more : (e : List ℕ) (n : ℕ) → n ≤ length moved - held → length e ≡ length moved → take held e ≡ take held moved → take (sum_of held n - 0) (drop 0 e) ≡ take (half d) (left d s) ++ take n (drop held e)
  left_more e n h same before =
      let z : sum_of held n - 0 ≡ held + n = omega (arith, held_inside, moved_length) in
      ap (λ (m : ℕ). take m e) z ∙ take-add held n e ∙ ap (λ (l : List ℕ). l ++ take n (drop held e)) (before ∙ held_is)

  came_length : (e : List ℕ) (n : ℕ) → n ≤ length moved - held → length e ≡ length moved → n ≡ length (take n (drop held e))
  came_length e n h same = omega (arith, length-take n (drop held e), length-drop held e)

  refilled_by : {E : Type 0} (e : List ℕ) (came : Result ℕ E) → Behind moved held e came → Refilled d s e (read_on s held came)
  refilled_by e (Ok n) b =
      let h : n ≤ length moved - held = b.inside n refl in
      more (take n (drop held e)) (b.same ∙ moved_length) (left_more e n h b.same b.before) (ap (λ (m : ℕ). ltb m 1) (came_length e n h b.same)) refl refl
  refilled_by e (Err x) b = stops (b.same ∙ moved_length) _ refl

  pub refilled : {E : Type 0} {e : List ℕ} (came : Result ℕ E) {r : Stream} → Behind moved held e came → r ≡ read_on s held came → Refilled d s e r
  refilled {e = e} came b q = subst (Refilled d s e) (sym q) (refilled_by e came b)
