-- The preferred spelling of a row, by the machine's bytes, is what the rules say: what writing gives for the stored row that reading
-- gives. It rests on what is said of the line alone (`Relabels`). Assumes nothing.
use Prim.Native.Nat.{ℕ, ◌+◌, ◌-◌, ◌≤◌, ◌<◌, ◌^◌, min}
use mathlib.Core.Path.{◌≡◌, refl, sym, ap, ap₂, ◌∙◌, subst}
use mathlib.Core.Bool.{Bool, true, false, cond}
use mathlib.Core.List.{List, [], ◌∷◌, ◌++◌, append_assoc, append-nil}
use native.Mathlib.Omega.{arith}
use lib.Dec.{T, eqb, ltb, leb}
use lib.ListN.{length, get_or, take, drop, replicate, length-append, length-take, length-drop, drop_of_length-le, replicate-append-replicate}
use lib.Seq.{take_at, drop_at, take_all, take-append-add, length-take-le}
use borrow.Author.Tests.{ltb-true, ltb-false, lt-ltb, le-ltb, leb-true, leb-false, eqb-true, ne_eqb}
use Rattle.lang.specs.Order.{Each, none}
use Rattle.rules.specs.Decimals.{Decimal, decimal_text}
use Rattle.rules.specs.Lines.{Spelling, line_text, within, Misshapen}
use Rattle.rules.specs.Fields.{Table, Says}
use Rattle.rules.specs.Limits.{fits, max_line}
use Rattle.rules.specs.Preferred.{preferred, preferred_spelling}
use Rattle.rules.specs.Stored.{stores, stored}
use Rattle.rules.specs.Answers.{Answer, refuses, gives, Delivers, no_room, done, Sound, Reads, ReadsSpelling, ReadsForm, ReadsRules, ReadsSum, Holds, Writes, no_table}
use Rattle.rules.specs.Largest.{max_table}
use Rattle.rules.specs.Editions.{LineEdition, first_lines, second_lines, current}
use Rattle.rules.specs.Rows.{tab, Row, preferred_row, row_head_size, row_head, stored_row}
use Rattle.rules.specs.RowAnswers.{max_row, Cut, at_tab, no_tab, GoodColumn, Moves, ReadsThird, line, ReadsIntensity, ReadsRow, long, HoldsRow, WritesRow}
use Rattle.rules.proofs.PreferredSpells.{preferred_within}
use Rattle.rules.proofs.Rises.{line_rises}
use Rattle.rules.proofs.Totals.{in_none}
use Rattle.rules.proofs.OneWriting.{taken}
use Rattle.rules.proofs.WritesOne.{holds_one, two_editions}
use Rattle.put_bytes.specs.Puts.{max_place}
use Rattle.scan_line.specs.Verdicts.{JudgedBy}
use Rattle.scan_line.specs.Steps.{machine_bytes, scanned_by}
use Rattle.scan_line.proofs.Scans.{by_machine}
use Rattle.numbers.specs.Making.{ruled}
use Rattle.answers.specs.Behind.{capped}
use Rattle.answers.proofs.Behind.{capped_is}
use Rattle.write_table.proofs.Holds.{take_given}
use Rattle.lines.specs.Relabels as lines
use Rattle.lines.specs.Relabels.{Relabels}
use Rattle.lines.proofs.Small.{table_small}
use Rattle.lines.proofs.Enough.{read_enough}
use Rattle.lines.proofs.Right.{reads_table, bytes_read, relabel_right}
use Rattle.std.specs.Prelude.{Result, Ok, Err}
use Rattle.read_row.specs.declared.Column.{Column}
use Rattle.read_row.specs.Columns.{good_column, column_in, column_of}
use Rattle.read_row.proofs.Cuts.{cut_some, no_cut}
use Rattle.read_row.proofs.Decimals.{decimal_lacks, read_good, read_bad}
use Rattle.read_row.proofs.LinePlaces.{reads_place}
use Rattle.read_row.proofs.Right.{cut_rest}
use Rattle.write_row.specs.Writings.{bare_of}
use Rattle.write_row.proofs.Heads.{bytes_drop}
use Rattle.write_row.proofs.Right.{bare_delivered, preferred_some}
use Rattle.respell_row.specs.Relabelled.{place_of, spelled_of, third_of, columns_of, intensity_in, intensity_of, mz_in, relabelled_row_of}
use Rattle.rows.specs.Relabels.{max_stored_row, RelabelsRow, refused, relabelled}
use Rattle.rows.proofs.RowBack.{third_read, no_decimal}
use Rattle.rows.proofs.StrayRow.{columns, columns_length, columns_then}

-- ---- 1 on reading is a line that is too long

sum_not_long : {s : Spelling} {room : ℕ} {a : Answer} → ReadsSum current s room a → a.number ≡ 1 → ⊥
sum_not_long (ReadsSum.excess p z) e = omega arith
sum_not_long (ReadsSum.kept z t y (no_room h)) e = omega arith
sum_not_long (ReadsSum.kept z t y (done h)) e = omega arith

rules_not_long : {s : Spelling} {room : ℕ} {a : Answer} → ReadsRules current s room a → a.number ≡ 1 → ⊥
rules_not_long (ReadsRules.breach p z) e = omega arith
rules_not_long (ReadsRules.kept z r) e = sum_not_long r e

form_not_long : {s : Spelling} {room : ℕ} {a : Answer} → ReadsForm current s room a → a.number ≡ 1 → ⊥
form_not_long (ReadsForm.foreign p z) e = omega arith
form_not_long (ReadsForm.kept z r) e = rules_not_long r e

spelling_not_long : (s : Spelling) {room : ℕ} {a : Answer} → ReadsSpelling current s room a → a.number ≡ 1 → ⊥
spelling_not_long s (ReadsSpelling.limit m w) e = omega (arith, ((line_rises s).within m w.is_in w.broken).least)
spelling_not_long s (ReadsSpelling.kept k r) e = form_not_long r e

misshapen_not_long : {l : LineEdition} {line : List ℕ} {n p : ℕ} → Misshapen l line n p → n ≡ 1 → ⊥
misshapen_not_long (Misshapen.stray p x) e = omega arith
misshapen_not_long (Misshapen.short x y) e = omega arith

one_is_long : {l : LineEdition} {line : List ℕ} {room : ℕ} {a : Answer} → Reads l line room a → a.number ≡ 1 → max_line < length line
one_is_long (Reads.long h) e = h
one_is_long (Reads.misshapen h x) e = absurd (misshapen_not_long x e)
one_is_long (Reads.spelled h s w q r) e = absurd (spelling_not_long s r e)

-- ---- a row whose two numbers were read

-- the second ends at a place, and the third column begins at another
record Split (l : LineEdition) (row : List ℕ) (end at : ℕ) : Type 0 where
  mz : Decimal
  intensity : Decimal
  mz_fits : T (fits mz)
  intensity_fits : T (fits intensity)
  inside : at ≤ length row
  reads : (room : ℕ) (a : Answer) → ReadsThird l mz intensity (drop at row) at room a → ReadsRow l row room a
  bare : take end row ≡ decimal_text mz ++ (tab ++ decimal_text intensity)
  labelled : at < length row → take at row ≡ columns mz intensity

module _ (l : LineEdition) (row : List ℕ) (short : length row ≤ max_row) (mz d : Decimal) (f : T (fits mz)) (g : T (fits d)) where
  abbrev v : List ℕ
  v = decimal_text mz

  abbrev w : List ℕ
  w = decimal_text d

  split_tab : {end at : ℕ} (third : List ℕ) → v ++ (tab ++ (w ++ (tab ++ third))) ≡ row → end ≡ length v + 1 + length w → at ≡ length v + 1 + (length w + 1)
      → Split l row end at
  split_tab {end} {at} third e n m =
      let c = columns mz d in
      let z : c ++ third ≡ row = columns_then mz d third ∙ e in
      let k : length c ≡ at = columns_length mz d ∙ sym m in
      let i : length (v ++ (tab ++ w)) ≡ end = length-append v (tab ++ w) ∙ omega arith in
      let rest : drop at row ≡ third = ap (drop at) (sym z) ∙ drop_at c third at k in
      record {
        mz = mz;
        intensity = d;
        mz_fits = f;
        intensity_fits = g;
        inside = omega (arith, ap length z, length-append c third, k);
        reads = λ room a r.
            ReadsRow.good short (at_tab v (w ++ (tab ++ third)) (decimal_lacks mz) e) (record { text = refl; bounds = f })
            (ReadsIntensity.good (at_tab w third (decimal_lacks d) refl) (record { text = refl; bounds = g })
            (subst (λ (x : List ℕ). ReadsThird l mz d x (length v + 1 + (length w + 1)) room a) rest
            (subst (λ (o : ℕ). ReadsThird l mz d (drop at row) o room a) m r)));
        bare =
            ap (take end) (sym e ∙ sym (append_assoc v (tab ++ w) (tab ++ third))) ∙ take_at (v ++ (tab ++ w)) (tab ++ third) end i;
        labelled = λ h. ap (take at) (sym z) ∙ take_at c third at k;
      }

  split_bare : {end at : ℕ} → v ++ (tab ++ w) ≡ row → end ≡ length v + 1 + length w → at ≡ length v + 1 + length w → Split l row end at
  split_bare {end} {at} e n m =
      let i : length row ≡ length v + 1 + length w = sym (ap length e) ∙ length-append v (tab ++ w) ∙ omega arith in
      let rest : drop at row ≡ [] = drop_of_length-le row {i = at} (omega arith) in
      record {
        mz = mz;
        intensity = d;
        mz_fits = f;
        intensity_fits = g;
        inside = omega arith;
        reads = λ room a r.
            ReadsRow.good short (at_tab v w (decimal_lacks mz) e) (record { text = refl; bounds = f })
            (ReadsIntensity.good (no_tab (decimal_lacks d)) (record { text = refl; bounds = g })
            (subst (λ (x : List ℕ). ReadsThird l mz d x (length v + 1 + length w) room a) rest
            (subst (λ (o : ℕ). ReadsThird l mz d (drop at row) o room a) m r)));
        bare = take_all end row (omega arith) ∙ sym e;
        labelled = λ h. absurd (omega arith);
      }

-- a row whose m/z is all has no intensity
none_behind : {column third : List ℕ} {q : ℕ} {d : Decimal} → Cut [] column third q → GoodColumn column d → ⊥
none_behind (at_tab column third l p) g = no_cut 9 column [] third tt p
none_behind {d = d} (no_tab l) g = no_decimal d g.text

split_at : {l : LineEdition} {row column more : List ℕ} {p : ℕ} {mz : Decimal} → length row ≤ max_row → Cut row column more p → GoodColumn column mz
    → {second third : List ℕ} {q : ℕ} {d : Decimal} → Cut more second third q → GoodColumn second d
    → Split l row (min (p + length second) (length row)) (min (p + q) (length row))
split_at {l} {row} {mz = mz} short (at_tab column more u p) f {d = d} (at_tab second third m q) g =
    let e = ap (λ (x : List ℕ). decimal_text mz ++ (tab ++ x)) (ap (λ (x : List ℕ). x ++ (tab ++ third)) g.text ∙ q)
    ∙ ap (λ (x : List ℕ). x ++ (tab ++ more)) f.text ∙ p in
    let i = ap length p in
    let j = ap length q in
    let k = length-append column (tab ++ more) in
    let o = length-append second (tab ++ third) in
    split_tab l row short mz d f.bounds g.bounds third e (omega (arith, ap length f.text, ap length g.text))
    (omega (arith, ap length f.text, ap length g.text))
split_at {l} {row} {mz = mz} short (at_tab column more u p) f {d = d} (no_tab m) g =
    let e = ap (λ (x : List ℕ). decimal_text mz ++ (tab ++ x)) g.text ∙ ap (λ (x : List ℕ). x ++ (tab ++ more)) f.text ∙ p in
    let i = ap length p in
    let k = length-append column (tab ++ more) in
    split_bare l row short mz d f.bounds g.bounds e (omega (arith, ap length f.text, ap length g.text))
    (omega (arith, ap length f.text, ap length g.text))
split_at short (no_tab l) f c g = absurd (none_behind c g)

-- ---- the line behind them

placed : (number place n at : ℕ) → (number ≡ 1 → max_line < n) → at + place ≤ max_place → place_of number place n at ≡ at + place
unfolding place_of
placed number place n at l h = by (eqb number 1) refl ∙ capped_is at place h
  where
    by : (t : Bool) → eqb number 1 ≡ t → cond t (cond (ltb max_line n) (capped at place) place) (capped at place) ≡ capped at place
    by true e = rw (lt-ltb max_line n (l (eqb-true number 1 e)))
    by false e = refl

module _ (front : List ℕ) (n room : ℕ) where
  abbrev k : ℕ
  k = length front

  spelled_refused : (number place : ℕ) {p : ℕ} → (number ≡ 0 → ⊥) → place_of number place n k ≡ p
      → spelled_of front n room (refuses (room - k) number place) ≡ refuses room number p
  unfolding spelled_of
  spelled_refused number place h e =
      let m : min k room + (room - k) ≡ room = omega arith in
      rw (ne_eqb number 0 h)
      (ap₂ (λ (x : ℕ) (y : List ℕ). record { number = number; place = x; size = 0; out = y }) e
      (replicate-append-replicate (min k room) (room - k) 0 ∙ ap (λ (i : ℕ). replicate i 0) m))

  spelled_given : (w : List ℕ) → 0 < length w → length w ≤ room - k → room ≤ max_place
      → spelled_of front n room (gives (room - k) w) ≡ gives room (front ++ w)
  unfolding spelled_of
  spelled_given w s h small =
      let q : capped k (length w) ≡ k + length w = capped_is k (length w) (omega arith) in
      let l : length (front ++ w) ≡ k + length w = length-append front w in
      let m : room - k - length w ≡ room - length (front ++ w) = omega arith in
      rw (q, le-ltb room (k + length w) (omega arith))
      (ap₂ (λ (x : ℕ) (y : List ℕ). record { number = 0; place = 0; size = x; out = y }) (sym l)
      (ap (λ (i : ℕ). front ++ (w ++ replicate i 0)) m ∙ sym (append_assoc front w (replicate (room - length (front ++ w)) 0))))

  line_delivered : (w : List ℕ) → 0 < length w → length w ≤ max_line → k ≤ max_row → room ≤ max_place → {b : Answer} → Delivers (room - k) w b
      → Delivers room (front ++ w) (spelled_of front n room b)
  line_delivered w s l g small (no_room h) =
      let e : place_of 8 (length w) n k ≡ length (front ++ w) = placed 8 (length w) n k (λ q. absurd (omega arith)) (omega arith) ∙ sym (length-append front w) in
      subst (Delivers room (front ++ w)) (sym (spelled_refused 8 (length w) (λ q. absurd (omega arith)) e)) (no_room (omega (arith, length-append front w)))
  line_delivered w s l g small (done h) =
      subst (Delivers room (front ++ w)) (sym (spelled_given w s h small)) (done (omega (arith, length-append front w)))

-- ---- the row that was read

module _ (mz intensity : Decimal) (f : T (fits mz)) (g : T (fits intensity)) where
  abbrev meant : Table → Row
  meant t = record { mz = mz; intensity = intensity; table = t }

  row_text_lem : (t : Table) → 0 < length (preferred t) → columns mz intensity ++ preferred t ≡ preferred_row (meant t)
  row_text_lem [] h = absurd (omega arith)
  row_text_lem (a ∷ t) h = columns_then mz intensity (preferred (a ∷ t))

  bare_text : preferred_row (meant []) ≡ decimal_text mz ++ (tab ++ decimal_text intensity)
  bare_text = ap (λ (w : List ℕ). decimal_text mz ++ (tab ++ w)) (append-nil (decimal_text intensity))

  held : (t : Table) → Sound current t → HoldsRow current (stored_row (meant t)) (meant t)
  held t s = record { mz = f; intensity = g; rest = stored current t; table = record { sound = s; is = refl }; is = refl }

  module _ (l : LineEdition) (t : Table) (s : Sound current t) (in_lines : T (within l (preferred_spelling t))) (some : 0 < length (preferred t)) (front : List ℕ) (is : front ≡ columns mz intensity) (few : length front ≤ max_row)
      (n room : ℕ) (near : n ≤ max_line) (small : room ≤ max_place) where
    table_held : Holds current (stored current t) t
    table_held = record { sound = s; is = refl }

    line_written : {b : Answer} → Writes l (stored current t) (room - length front) b → WritesRow l (stored_row (meant t)) room (spelled_of front n room b)
    unfolding place_of
    line_written (no_table x) = absurd (x t (taken table_held s))
    line_written (Writes.old u h o) = absurd (two_editions h table_held)
    line_written (Writes.lettered u h i) =
        absurd (i (subst (λ (x : Table). T (within l (preferred_spelling x))) (sym (holds_one current current h table_held)) in_lines))
    line_written (Writes.long u h i k) =
        let e : place_of 1 max_line n (length front) ≡ max_line = rw (le-ltb max_line n near) in
        subst (WritesRow l (stored_row (meant t)) room) (sym (spelled_refused front n room 1 max_line (λ q. absurd (omega arith)) e))
        (WritesRow.long (meant t) (held t s) in_lines (subst (λ (x : Table). max_line < length (preferred x)) (holds_one current current h table_held) k))
    line_written {b} (Writes.fits u h i k d) =
        let q = holds_one current current h table_held in
        let m = subst (λ (x : Table). length (preferred x) ≤ max_line) q k in
        WritesRow.fits (meant t) (held t s) in_lines m
        (subst (λ (x : List ℕ). Delivers room x (spelled_of front n room b)) (ap (λ (x : List ℕ). x ++ preferred t) is ∙ row_text_lem t some)
        (line_delivered front n room (preferred t) some m few small (subst (λ (x : Table). Delivers (room - length front) (preferred x) b) q d)))

-- no annotations, and a line without them
no_table_sound : Sound current []
no_table_sound = record { spelling = []; edition = tt; says = none; limits = λ n i b. in_none i; form = refl; rules = refl; sum = refl }

-- which is one of each edition of lines
none_within : (l : LineEdition) → T (within l (preferred_spelling []))
none_within first_lines = tt
none_within second_lines = tt

said_none : {s : Spelling} → Each Says s [] → line_text s ≡ []
said_none none = refl

-- a line with bytes has a table with annotations
table_some : {s : Spelling} (t : Table) → Each Says s t → 0 < length (line_text s) → 0 < length (preferred t)
table_some [] y h = absurd (omega (arith, ap length (said_none y)))
table_some (a ∷ t) y h = preferred_some a t

-- ---- a row by a machine whose verdicts are right in an edition of lines

module _ (l : LineEdition) (machine row : List ℕ) (room : ℕ) (small : room ≤ max_place) (short : length row ≤ max_row)
    (judged : (n : ℕ) → JudgedBy l (drop n row) (scanned_by machine (drop n row))) where
  labelled_right : {end at : ℕ} → Split l row end at → at < length row → {b : Answer} → Relabels l (drop at row) (room - length (take at row)) b
      → RelabelsRow l row room (spelled_of (take at row) (length (drop at row)) room b)
  labelled_right {at = at} s h (lines.refused {a = a} r x) =
      let third = drop at row in
      let m : length (take at row) ≡ at = length-take-le at row s.inside in
      let e : place_of a.number a.place (length third) (length (take at row)) ≡ at + a.place =
      placed a.number a.place (length third) (length (take at row)) (λ q. one_is_long r q) (omega (arith, reads_place r, length-drop at row)) ∙ ap (λ (i : ℕ). i + a.place) m in
      subst (RelabelsRow l row room) (sym (spelled_refused (take at row) (length third) room a.number a.place x e))
      (refused (s.reads max_stored_row (refuses max_stored_row a.number (at + a.place)) (line r (Moves.refused x (λ q. read_enough third r (omega arith) q)))) x)
  labelled_right {at = at} s h (lines.relabelled {a = a} {b = b} r e w) =
      let third = drop at row in
      let x = reads_table third max_table r e in
      let t = x.table in
      let head = stores (row_head s.mz s.intensity) in
      let q : take (row_head_size + a.size) (head ++ a.out) ≡ head ++ stored current t =
      take-append-add head a.out a.size ∙ ap (λ (w : List ℕ). head ++ w) (bytes_read third max_table x) in
      let some : 0 < length (preferred t) = table_some t x.says (omega (arith, ap length x.text, length-drop at row)) in
      let few : length (take at row) ≤ max_row = omega (arith, length-take at row) in
      relabelled
      (s.reads max_stored_row (record { number = 0; place = 0; size = row_head_size + a.size; out = head ++ a.out }) (line r (Moves.done e))) refl
      (subst (λ (w : List ℕ). WritesRow l w room (spelled_of (take at row) (length third) room b)) (sym q)
      (line_written s.mz s.intensity s.mz_fits s.intensity_fits l t x.sound (preferred_within l x.says x.edition) some (take at row) (s.labelled h) few (length third) room x.short small
      (subst (λ (w : List ℕ). Writes l w (room - length (take at row)) b) (bytes_read third max_table x) w)))

  bare_right : {end at : ℕ} → Split l row end at → length row ≤ at → RelabelsRow l row room (bare_of (take end row) (length (take end row)) room)
  bare_right {end} {at} s h =
      let r = meant s.mz s.intensity s.mz_fits s.intensity_fits [] in
      let c = take end row in
      let few : length (stored current []) ≤ max_table = table_small none no_table_sound (omega arith) in
      let n : length (stored_row r) ≤ max_stored_row = omega (arith, length-append (stores (row_head s.mz s.intensity)) (stored current [])) in
      let read = third_read l r s.mz_fits s.intensity_fits no_table_sound (none_within l) (omega arith) max_stored_row n at in
      relabelled
      (s.reads max_stored_row (gives max_stored_row (stored_row r))
      (subst (λ (w : List ℕ). ReadsThird l s.mz s.intensity w at max_stored_row (gives max_stored_row (stored_row r))) (sym (drop_of_length-le row {i = at} h)) read)) refl
      (subst (λ (w : List ℕ). WritesRow l w room (bare_of c (length c) room)) (sym (take_given max_stored_row (stored_row r)))
      (WritesRow.fits r (held s.mz s.intensity s.mz_fits s.intensity_fits [] no_table_sound) (none_within l) (omega arith)
      (subst (λ (w : List ℕ). Delivers room w (bare_of c (length c) room))
      (s.bare ∙ sym (bare_text s.mz s.intensity s.mz_fits s.intensity_fits)) (bare_delivered c room))))

  columns_right : {end at : ℕ} → Split l row end at → RelabelsRow l row room (columns_of machine row end at room)
  unfolding columns_of third_of
  columns_right {end} {at} s = by (leb (length row) at) refl
    where
      by : (t : Bool) → leb (length row) at ≡ t
          → RelabelsRow l row room (cond t (bare_of (take end row) (length (take end row)) room)
          (spelled_of (take at row) (length (drop at row)) room (lines.relabelled_of (scanned_by machine (drop at row)) (drop at row) (room - length (take at row)))))
      by true e = bare_right s (leb-true (length row) at e)
      by false e =
          labelled_right s (leb-false (length row) at e)
          (relabel_right l (scanned_by machine (drop at row)) (drop at row) (room - length (take at row)) (judged at))

  -- where the intensity begins
  abbrev n : ℕ
  n = (column_in row).next

  intensity_right : good_column row ≡ true → RelabelsRow l row room (intensity_of machine row (column_in row).next room)
  unfolding intensity_of
  intensity_right e = by (good_column (drop n row)) refl
    where
      by : (t : Bool) → good_column (drop n row) ≡ t → RelabelsRow l row room (intensity_in machine row n room (cond {A = Result Column Column} t (Ok (column_in (drop n row))) (Err (column_in (drop n row)))))
      by true q =
          let g = read_good row e in
          let h = read_good (drop n row) q in
          let c = subst (λ (w : List ℕ). Cut w h.column h.more (column_in (drop n row)).next) (cut_rest g.cut) h.cut in
          columns_right
          (subst (λ (i : ℕ). Split l row (min (n + i) (length row)) (min (n + (column_in (drop n row)).next) (length row))) h.size (split_at short g.cut g.text c h.text))
      by false q =
          let g = read_good row e in
          let c = (cut_some (drop n row)).is in
          refused
          (ReadsRow.good short g.cut g.text
          (subst (λ (w : List ℕ). ReadsIntensity l (ruled (column_in row).decimal) w n max_stored_row (refuses max_stored_row 13 n)) (cut_rest g.cut)
          (ReadsIntensity.bad c (read_bad (drop n row) q c)))) (λ z. absurd (omega arith))

  mz_right : RelabelsRow l row room (mz_in machine row room (column_of row))
  mz_right = by (good_column row) refl
    where
      by : (t : Bool) → good_column row ≡ t → RelabelsRow l row room (mz_in machine row room (cond {A = Result Column Column} t (Ok (column_in row)) (Err (column_in row))))
      by true e = intensity_right e
      by false e =
          let c = (cut_some row).is in refused (ReadsRow.bad short c (read_bad row e c)) (λ z. absurd (omega arith))

pub relabel_row_right : (l : LineEdition) (machine row : List ℕ) (room : ℕ) → room ≤ max_place → ((n : ℕ) → JudgedBy l (drop n row) (scanned_by machine (drop n row)))
    → RelabelsRow l row room (relabelled_row_of machine row room)
unfolding relabelled_row_of
relabel_row_right l machine row room small judged = by (ltb max_row (length row)) refl
  where
    by : (t : Bool) → ltb max_row (length row) ≡ t → RelabelsRow l row room (cond t (refuses room 1 max_row) (mz_in machine row room (column_of row)))
    by true e = refused (long (ltb-true max_row (length row) e)) (λ z. absurd (omega arith))
    by false e = mz_right l machine row room small (ltb-false max_row (length row) e) judged

-- by the machine, of bytes
pub relabel_row_made : (l : LineEdition) (row : List ℕ) (room : ℕ) (m : List ℕ) {r : Answer} → m ≡ machine_bytes l → room ≤ max_place
    → ((i : ℕ) → i < length row → get_or row i 0 < 256) → length row < 2 ^ 64 → r ≡ relabelled_row_of m row room → RelabelsRow l row room r
relabel_row_made l row room m e small bytes h x =
    subst (RelabelsRow l row room) (sym (x ∙ ap (λ (m : List ℕ). relabelled_row_of m row room) e))
    (relabel_row_right l (machine_bytes l) row room small (λ n. by_machine l (drop n row) (bytes_drop row n bytes) (omega (arith, length-drop n row))))
