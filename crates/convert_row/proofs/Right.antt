-- What is answered to bytes that may be a stored row whose table is of edition 1 is what document 02, M-112 says. Assumes nothing.
use Prim.Native.Nat.{ℕ, ◌+◌, ◌-◌, ◌≤◌}
use mathlib.Core.Path.{◌≡◌, refl, sym, ap, ◌∙◌, subst}
use mathlib.Core.Bool.{Bool, true, false, cond}
use mathlib.Core.List.{List, ◌++◌}
use native.Mathlib.Omega.{arith}
use lib.Dec.{T}
use lib.ListN.{length, drop, length-append}
use borrow.Author.Tests.{ne_eqb}
use Rattle.rules.specs.Decimals.{decimal_text}
use Rattle.rules.specs.Lines.{Spelling}
use Rattle.rules.specs.Fields.{Table}
use Rattle.rules.specs.Preferred.{preferred_spelling}
use Rattle.rules.specs.Editions.{Edition, LineEdition}
use Rattle.rules.specs.Answers.{Answer, Delivers, no_room, done, ReadsSum, excess, ReadsRules, breach, ReadsForm, foreign, Converts}
use Rattle.rules.specs.Rows.{tab, row_head_size}
use Rattle.rules.specs.RowAnswers.{third_at, ConvertsRow, no_row, Moves}
use Rattle.print_table.proofs.Short.{line_short}
use Rattle.put_bytes.specs.Puts.{max_place}
use Rattle.write_table.proofs.Prefers.{preferred_kept}
use Rattle.write_table.proofs.Right.{Lent, convert_right}
use Rattle.numbers.specs.Making.{ruled}
use Rattle.answers.specs.Behind.{capped}
use Rattle.answers.proofs.Behind.{capped_is}
use Rattle.read_row.specs.Readings.{head_bytes, moved_of}
use Rattle.read_row.proofs.LinePlaces.{form_place, form_fills}
use Rattle.read_row.proofs.Right.{moved_right}
use Rattle.std.specs.Prelude.{Result, Ok, Err}
use Rattle.write_row.specs.declared.Head.{Head}
use Rattle.write_row.specs.Writings.{good_head, head_in, columns_text}
use Rattle.write_row.proofs.Heads.{Bytes, HeadRead, head_good}
use Rattle.write_row.proofs.Held.{row_of, head_holds, rest_holds, head_there}
use Rattle.write_row.proofs.Right.{columns_short}
use Rattle.convert_row.specs.Conversions.{third_place, held_of, converted_in, convert_row_of}

-- ---- what a line is read as is not 9

delivers_not_9 : {room : ℕ} {w : List ℕ} {a : Answer} → Delivers room w a → a.number ≡ 9 → ⊥
delivers_not_9 (no_room h) e = omega arith
delivers_not_9 (done h) e = omega arith

sum_not_9 : {f : Edition} {s : Spelling} {room : ℕ} {a : Answer} → ReadsSum f s room a → a.number ≡ 9 → ⊥
sum_not_9 (excess p z) e = omega arith
sum_not_9 (ReadsSum.kept z t y d) e = delivers_not_9 d e

rules_not_9 : {f : Edition} {s : Spelling} {room : ℕ} {a : Answer} → ReadsRules f s room a → a.number ≡ 9 → ⊥
rules_not_9 (breach p z) e = omega arith
rules_not_9 (ReadsRules.kept z r) e = sum_not_9 r e

form_not_9 : {f : Edition} {s : Spelling} {room : ℕ} {a : Answer} → ReadsForm f s room a → a.number ≡ 9 → ⊥
form_not_9 (foreign p z) e = omega arith
form_not_9 (ReadsForm.kept z r) e = rules_not_9 r e

-- ---- bytes whose head was found

module _ (s : List ℕ) (room : ℕ) (small : room ≤ max_place) (h : Head) (x : HeadRead s h) where
  abbrev text : List ℕ
  text = columns_text h.mz h.intensity

  short_text : length text ≤ 27
  short_text = columns_short h.mz h.intensity x.mz x.intensity

  place_is : third_place h.mz h.intensity ≡ length text + 1
  unfolding third_place
  place_is =
      let p = short_text in
      ap (λ (n : ℕ). capped n 1) (capped_is 0 (length text) (omega arith)) ∙ capped_is (0 + length text) 1 (omega arith) ∙ omega arith

  third_is : (t : Table) → third_place h.mz h.intensity ≡ third_at (row_of h.mz h.intensity t)
  unfolding columns_text
  third_is t =
      let m = decimal_text (ruled h.mz) in
      let i = decimal_text (ruled h.intensity) in
      place_is ∙ omega (arith, length-append m (tab ++ i), length-append m (tab ++ (i ++ tab)), length-append i tab)

  abbrev head : List ℕ
  head = head_bytes h.mz h.intensity

  table_right : {b : Answer} → Converts (drop row_head_size s) (room - row_head_size) b → ConvertsRow s room (held_of head (third_place h.mz h.intensity) room b)
  unfolding held_of
  table_right (Converts.no_table n) = no_row (λ r g. n r.table (rest_holds g))
  table_right (Converts.held t g {a} f) =
      let p = form_place (preferred_spelling t) (room - row_head_size) (preferred_kept t g.sound) f in
      let near : third_place h.mz h.intensity + (row_head_size + a.place) ≤ max_place = omega (arith, place_is, short_text, line_short t g.sound) in
      let m = moved_right head (third_place h.mz h.intensity) room small a near (form_fills f) in
      rw (ne_eqb a.number 9 (form_not_9 f))
      (ConvertsRow.held (row_of h.mz h.intensity t) (head_holds x g) f
      (subst (λ (n : ℕ). Moves head n room a (moved_of head (third_place h.mz h.intensity) room a)) (third_is t) m))

-- ---- any bytes

pub convert_row_right : (l : LineEdition) (machine s : List ℕ) (room : ℕ) → room ≤ max_place → Bytes s → Lent l machine → ConvertsRow s room (convert_row_of machine s room)
unfolding convert_row_of
convert_row_right l machine s room small y lent = by (good_head s) refl
  where
    by : (t : Bool) → good_head s ≡ t → ConvertsRow s room (converted_in machine s room (cond {A = Result Head Head} t (Ok (head_in s)) (Err (head_in s))))
    by true e = table_right s room small (head_in s) (head_good s y e) (convert_right l machine (drop row_head_size s) (room - row_head_size) (omega arith) lent)
    by false e = no_row (λ r g. subst T (sym (head_there g) ∙ e) tt)
