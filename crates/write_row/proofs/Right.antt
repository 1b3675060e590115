-- What is answered to bytes that may be a stored row is what document 02, M-101, M-112 and M-113 say. Assumes nothing.
use Prim.Native.Nat.{ℕ, ◌+◌, ◌-◌, ◌≤◌, ◌<◌}
use mathlib.Core.Path.{◌≡◌, refl, sym, ap, ap₂, ◌∙◌, subst}
use mathlib.Core.Bool.{Bool, true, false, cond}
use mathlib.Core.List.{List, [], ◌∷◌, ◌++◌, append_assoc, append-nil}
use native.Mathlib.Omega.{arith}
use lib.Dec.{T, ltb}
use lib.ListN.{length, drop, replicate, length-append}
use borrow.Author.Tests.{ltb-true, ltb-false, le-ltb, ne_eqb}
use Rattle.rules.specs.Decimals.{decimal_text}
use Rattle.rules.specs.Annotations.{TableAnnotation}
use Rattle.rules.specs.Fields.{Table}
use Rattle.rules.specs.Limits as Limits
use Rattle.rules.specs.Limits.{max_line}
use Rattle.rules.specs.Preferred.{shortened_annotation, preferred}
use Rattle.rules.specs.Editions.{LineEdition}
use Rattle.rules.specs.Answers.{Answer, refuses, Delivers, no_room, done, Writes, no_table}
use Rattle.rules.specs.Rows.{tab, Row, preferred_row, row_head_size}
use Rattle.rules.specs.RowAnswers.{WritesRow, no_row}
use Rattle.rules.proofs.RisesParts.{ion_some}
use Rattle.put_bytes.specs.Puts.{max_place}
use Rattle.write_table.proofs.Right.{Lent, write_right}
use Rattle.numbers.specs.declared.Decimal.{Decimal}
use Rattle.numbers.specs.Making.{ruled}
use Rattle.std.specs.Prelude.{Result, Ok, Err}
use Rattle.write_row.specs.declared.Head.{Head}
use Rattle.answers.specs.Behind.{capped}
use Rattle.write_row.specs.Writings.{good_head, head_in, headed_of, columns_text, bare_of, labelled_of, behind_of, write_row_of}
use Rattle.write_row.proofs.Heads.{Bytes, HeadRead, head_good}
use Rattle.write_row.proofs.Held.{row_of, head_holds, rest_holds, head_there}
use Rattle.answers.proofs.Behind.{capped_is}
use Rattle.read_row.proofs.Decimals.{decimal_short}

-- ---- sizes

pub preferred_some : (a : TableAnnotation) (t : Table) → 0 < length (preferred (a ∷ t))
preferred_some a t = simp length-append (omega (arith, ion_some (shortened_annotation a).ion))

-- ---- the columns of a row

module _ (mz intensity : Decimal) where
  abbrev c : List ℕ
  c = columns_text mz intensity

  -- without annotations they are all
  bare_text : preferred_row (row_of mz intensity []) ≡ c
  unfolding columns_text
  bare_text = ap (λ (l : List ℕ). decimal_text (ruled mz) ++ (tab ++ l)) (append-nil (decimal_text (ruled intensity)))

  labelled_text_lem : (a : TableAnnotation) (t : Table) → preferred_row (row_of mz intensity (a ∷ t)) ≡ c ++ (tab ++ preferred (a ∷ t))
  unfolding columns_text
  labelled_text_lem a t = sym (append_assoc (decimal_text (ruled mz)) (tab ++ decimal_text (ruled intensity)) (tab ++ preferred (a ∷ t)))

  pub columns_short : T (Limits.fits (ruled mz)) → T (Limits.fits (ruled intensity)) → length c ≤ 27
  unfolding columns_text
  columns_short f g =
      omega (
        arith,
        length-append (decimal_text (ruled mz)) (tab ++ decimal_text (ruled intensity)),
        decimal_short (ruled mz) f,
        decimal_short (ruled intensity) g,
      )

-- ---- the line behind the columns

-- no line: the columns c of a row alone, in an output of room bytes
pub bare_delivered : (c : List ℕ) (room : ℕ) → Delivers room c (bare_of c (length c) room)
bare_delivered c room = by (ltb room (length c)) refl
  where
    by : (t : Bool) → ltb room (length c) ≡ t
        → Delivers room c (cond t (refuses room 8 (length c)) (record { number = 0; place = 0; size = length c; out = c ++ replicate (room - length c) 0 }))
    by true e = no_room (ltb-true room (length c) e)
    by false e = done (ltb-false room (length c) e)

-- the columns c of a row, in an output of room bytes
module _ (c : List ℕ) (room : ℕ) (small : room ≤ max_place) (short : length c ≤ 27) where
  abbrev end : ℕ
  end = length c

  -- a line that stands behind them
  labelled_delivered : (w : List ℕ) → 0 < length w → length w ≤ room - (end + 1)
      → Delivers room (c ++ (tab ++ w)) (labelled_of c (end + 1) room (length w) (w ++ replicate (room - (end + 1) - length w) 0))
  labelled_delivered w s h =
      let n = length w in
      let q : capped (end + 1) n ≡ end + 1 + n = capped_is (end + 1) n (omega arith) in
      let l : length (c ++ (tab ++ w)) ≡ end + 1 + n = omega (arith, length-append c (tab ++ w)) in
      let m : room - (end + 1) - n ≡ room - length (c ++ (tab ++ w)) = omega arith in
      let o : c ++ (tab ++ (w ++ replicate (room - (end + 1) - n) 0)) ≡ (c ++ (tab ++ w)) ++ replicate (room - length (c ++ (tab ++ w))) 0 =
      ap (λ (k : ℕ). c ++ (tab ++ (w ++ replicate k 0))) m ∙ sym (append_assoc c (tab ++ w) (replicate (room - length (c ++ (tab ++ w))) 0)) in
      rw (q, le-ltb room (end + 1 + n) (omega arith))
      (subst (Delivers room (c ++ (tab ++ w)))
      (ap₂ (λ (x : ℕ) (y : List ℕ). record { number = 0; place = 0; size = x; out = y }) l (sym o)) (done (omega arith)))

  line_short : (w : List ℕ) → room - (end + 1) < length w → length w ≤ max_line
      → Delivers room (c ++ (tab ++ w)) (refuses room 8 (capped (end + 1) (length w)))
  line_short w h l =
      let q : capped (end + 1) (length w) ≡ length (c ++ (tab ++ w)) = capped_is (end + 1) (length w) (omega arith) ∙ omega (arith, length-append c (tab ++ w)) in
      rw q (no_room (omega (arith, length-append c (tab ++ w))))

  -- the answer to the table becomes that to the row
  delivered_bare : {b : Answer} → Delivers (room - (end + 1)) [] b → Delivers room c (behind_of c end room b)
  unfolding behind_of
  delivered_bare (no_room h) = absurd (omega arith)
  delivered_bare (done h) = bare_delivered c room

  delivered_line : (w : List ℕ) → 0 < length w → length w ≤ max_line → {b : Answer} → Delivers (room - (end + 1)) w b
      → Delivers room (c ++ (tab ++ w)) (behind_of c end room b)
  unfolding behind_of
  delivered_line w s l (no_room h) = rw (capped_is end 1 (omega arith)) (line_short w h l)
  delivered_line w s l (done h) = rw (capped_is end 1 (omega arith), ne_eqb (length w) 0 (λ e. omega arith)) (labelled_delivered w s h)

-- ---- bytes whose head was found

module _ (s : List ℕ) (room : ℕ) (small : room ≤ max_place) (h : Head) (x : HeadRead s h) where
  abbrev text : List ℕ
  text = columns_text h.mz h.intensity

  abbrev meant : Table → Row
  meant t = row_of h.mz h.intensity t

  short_text : length text ≤ 27
  short_text = columns_short h.mz h.intensity x.mz x.intensity

  delivered : (t : Table) → length (preferred t) ≤ max_line → {b : Answer} → Delivers (room - (length text + 1)) (preferred t) b
      → Delivers room (preferred_row (meant t)) (behind_of text (length text) room b)
  delivered [] l {b} d =
      subst (λ (w : List ℕ). Delivers room w (behind_of text (length text) room b)) (sym (bare_text h.mz h.intensity))
      (delivered_bare text room small short_text d)
  delivered (a ∷ t) l {b} d =
      subst (λ (w : List ℕ). Delivers room w (behind_of text (length text) room b)) (sym (labelled_text_lem h.mz h.intensity a t))
      (delivered_line text room small short_text (preferred (a ∷ t)) (preferred_some a t) l d)

  line_right : {l : LineEdition} {b : Answer} → Writes l (drop row_head_size s) (room - (length text + 1)) b → WritesRow l s room (behind_of text (length text) room b)
  unfolding behind_of
  line_right (no_table n) = no_row (λ r g. n r.table (record { edition = g.edition; holds = rest_holds g.holds; also = g.also }))
  line_right (Writes.old t g o) = WritesRow.old (meant t) (head_holds x g) o
  line_right (Writes.lettered t g n) = WritesRow.lettered (meant t) (head_holds x g) n
  line_right (Writes.long t g w n) = WritesRow.long (meant t) (head_holds x g) w n
  line_right (Writes.fits t g w n d) = WritesRow.fits (meant t) (head_holds x g) w n (delivered t n d)

-- ---- any bytes

pub write_row_right : (l : LineEdition) (machine s : List ℕ) (room : ℕ) → room ≤ max_place → Bytes s → Lent l machine → WritesRow l s room (write_row_of machine s room)
unfolding write_row_of
write_row_right l machine s room small y lent = by (good_head s) refl
  where
    by : (t : Bool) → good_head s ≡ t → WritesRow l s room (headed_of machine s room (cond {A = Result Head Head} t (Ok (head_in s)) (Err (head_in s))))
    by true e =
        let x = head_good s y e in
        let n = length (columns_text (head_in s).mz (head_in s).intensity) in
        let z = short_text s room small (head_in s) x in
        let p : capped 0 n ≡ n = capped_is 0 n (omega arith) ∙ omega arith in
        rw (p, capped_is n 1 (omega arith)) (line_right s room small (head_in s) x (write_right l machine (drop row_head_size s) (room - (n + 1)) lent))
    by false e = no_row (λ r g. subst T (sym (head_there g.holds) ∙ e) tt)
