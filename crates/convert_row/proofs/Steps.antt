-- What each step of converting a row gives, in the words of its model. Assumes nothing.
use Prim.Native.Nat.{ℕ, ◌-◌}
use mathlib.Core.Path.{◌≡◌, refl, sym, ap, ◌∙◌, subst}
use mathlib.Core.List.{List}
use lib.ListN.{length, drop, replicate}
use borrow.Author.Tests.{eq-eqb, ne_eqb}
use Rattle.std.specs.Prelude.{Result, Ok, Err}
use Rattle.rules.specs.Answers as rules
use Rattle.rules.specs.Answers.{refuses}
use Rattle.rules.specs.Rows.{row_head_size}
use Rattle.numbers.specs.declared.Decimal.{Decimal}
use Rattle.put_bytes.specs.Puts.{Put}
use Rattle.faults.specs.declared.Why.TheVariants.{NoTable}
use Rattle.answers.specs.Delivered.{Answer, number_in, answered, refused_of}
use Rattle.answers.specs.Behind.{capped, Behind}
use Rattle.answers.proofs.Behind.{refused_as}
use Rattle.write_table.specs.Writings.{converted_of}
use Rattle.read_row.specs.Readings.{head_bytes, ended_over, moved_of}
use Rattle.read_row.proofs.Moved.{ended_is}
use Rattle.write_row.specs.declared.Head.{Head}
use Rattle.write_row.specs.Writings.{head_of, columns_text}
use Rattle.convert_row.specs.Conversions.{third_place, held_of, converted_in, convert_row_of}

-- where the columns end, and a tab
pub third_put : (mz intensity : Decimal) {d e : List ℕ} {to at : ℕ} → Put d 0 (columns_text mz intensity) e to → at ≡ capped to 1 → at ≡ third_place mz intensity
unfolding third_place capped
third_put mz intensity p q = q ∙ ap (λ (n : ℕ). capped n 1) p.next

module _ (machine s d : List ℕ) {o : Result Head Head} (h : o ≡ head_of s) where
  head_is : converted_in machine s (length d) o ≡ convert_row_of machine s (length d)
  unfolding convert_row_of
  head_is = ap (converted_in machine s (length d)) h

  -- no head
  pub converted_bad : {x : Head} → o ≡ Err x → refuses (length d) 9 0 ≡ convert_row_of machine s (length d)
  converted_bad g = ap (converted_in machine s (length d)) (sym g) ∙ head_is

  -- a head, and what stands behind it was converted
  module _ {x : Head} (g : o ≡ Ok x) {t e : List ℕ} {r : Answer} (q : t ≡ drop row_head_size s) (w : Behind row_head_size d e (converted_of machine t (length d - row_head_size)) r) where
    found_is : converted_in machine s (length d) (Ok x) ≡ convert_row_of machine s (length d)
    found_is = ap (converted_in machine s (length d)) (sym g) ∙ head_is

    abbrev b : rules.Answer
    b = converted_of machine (drop row_head_size s) (length d - row_head_size)

    behind : Behind row_head_size d e b r
    behind = subst (λ (l : List ℕ). Behind row_head_size d e (converted_of machine l (length d - row_head_size)) r) q w

    number_is : number_in r ≡ b.number
    number_is = ap (λ (a : rules.Answer). a.number) behind.is

    pub converted_none : {e2 : List ℕ} {a : Answer} → number_in r ≡ 9 → e2 ≡ replicate (length e) 0 → a ≡ refused_of NoTable 0
        → answered a e2 ≡ convert_row_of machine s (length d)
    unfolding held_of
    converted_none {e2} n z f =
        ap (λ (y : Answer). answered y e2) f ∙ refused_as d e NoTable 0 w.same z
        ∙ subst (λ (a : rules.Answer). refuses (length d) 9 0 ≡ a) found_is (rw (eq-eqb b.number 9 (sym number_is ∙ n)))

    pub converted_held : {at : ℕ} → (number_in r ≡ 9 → ⊥) → at ≡ third_place x.mz x.intensity
        → ended_over e (head_bytes x.mz x.intensity) at r ≡ convert_row_of machine s (length d)
    unfolding held_of
    converted_held {at} n z =
        ended_is (head_bytes x.mz x.intensity) at refl behind
        ∙ subst (λ (a : rules.Answer). moved_of (head_bytes x.mz x.intensity) at (length d) b ≡ a) found_is
        (rw (ne_eqb b.number 9 (λ e. n (number_is ∙ e))) (ap (λ (m : ℕ). moved_of (head_bytes x.mz x.intensity) m (length d) b) z))
