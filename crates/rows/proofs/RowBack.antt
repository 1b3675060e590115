-- Back again: what was written reads to the very bytes of the stored row; and what was read is what the row spells. Assumes nothing.
use Prim.Native.Nat.{ℕ, ◌+◌, ◌-◌, ◌≤◌}
use mathlib.Core.Path.{◌≡◌, refl, sym, ap, ap₂, ◌∙◌, subst}
use mathlib.Core.List.{List, [], ◌∷◌, ◌++◌, append_assoc, append-nil}
use native.Mathlib.Omega.{arith}
use lib.Dec.{T}
use lib.ListN.{length, take, replicate, length-append}
use Rattle.lang.specs.Parts.{silent, written, opt_text}
use Rattle.lang.specs.Order.{Each}
use Rattle.rules.specs.Decimals.{Decimal, decimal_text}
use Rattle.rules.specs.Lines.{Spelling, line_text, within}
use Rattle.rules.specs.Limits.{fits, max_line}
use Rattle.rules.specs.Fields.{Table, Says}
use Rattle.rules.specs.Preferred.{preferred, preferred_spelling}
use Rattle.rules.specs.Stored.{stores, stored}
use Rattle.rules.specs.Answers.{Reads, Answer, gives, Delivers, no_room, done, Sound}
use Rattle.rules.specs.Rows.{tab, third_text, Row, SpellsRow, preferred_third, preferred_row, row_head_size, row_head, stored_row}
use Rattle.rules.specs.RowAnswers.{max_row, lacks, at_tab, no_tab, Moves, ReadsThird, line, ReadsIntensity, ReadsRow, HoldsRow, WritesRow}
use Rattle.rules.specs.Editions.{LineEdition, current}
use Rattle.rules.proofs.Rising.{decimal_some}
use Rattle.shape.proofs.OneSpelling.{one_spelling}
use Rattle.write_table.proofs.Holds.{take_given}
use Rattle.lines.proofs.Back.{reads_preferred}
use Rattle.lines.proofs.Right.{reads_table}
use Rattle.read_row.proofs.Cuts.{no_cut}
use Rattle.read_row.proofs.Decimals.{decimal_lacks, decimal_short}
use Rattle.rows.proofs.OneRow.{reads_row_one}

-- ---- reading what was written

-- a table behind its head, and zeros behind both
headed : (head table : List ℕ) (room : ℕ) → length head ≡ row_head_size
    → record { number = 0; place = 0; size = row_head_size + length table; out = head ++ (table ++ replicate (room - row_head_size - length table) 0) }
    ≡ gives room (head ++ table)
headed head table room e =
    let n : row_head_size + length table ≡ length (head ++ table) = omega (arith, length-append head table) in
    let k : room - row_head_size - length table ≡ room - length (head ++ table) = omega arith in
    ap₂ (λ (x : ℕ) (y : List ℕ). record { number = 0; place = 0; size = x; out = y }) n
    (ap (λ (m : ℕ). head ++ (table ++ replicate m 0)) k ∙ sym (append_assoc head table (replicate (room - length (head ++ table)) 0)))

-- a preferred row is within the bound of a row
third_length : (t : Table) → length (preferred t) ≤ max_line → length (opt_text third_text (preferred_third t)) ≤ max_line + 1
third_length [] k = omega arith
third_length (a ∷ t) k = omega arith

pub preferred_row_short : (r : Row) → T (fits r.mz) → T (fits r.intensity) → length (preferred r.table) ≤ max_line → length (preferred_row r) ≤ max_row
preferred_row_short r f g l =
    let v = decimal_text r.mz in
    let w = decimal_text r.intensity in
    let x = opt_text third_text (preferred_third r.table) in
    omega (arith, length-append v (tab ++ (w ++ x)), length-append w x, decimal_short r.mz f, decimal_short r.intensity g, third_length r.table l)

module _ (l : LineEdition) (r : Row) (f : T (fits r.mz)) (g : T (fits r.intensity)) (s : Sound current r.table) (i : T (within l (preferred_spelling r.table)))
    (n : length (preferred r.table) ≤ max_line) (room : ℕ) (h : length (stored_row r) ≤ room) where
  pub third_read : (at : ℕ) → ReadsThird l r.mz r.intensity (preferred r.table) at room (gives room (stored_row r))
  third_read at =
      let head = stores (row_head r.mz r.intensity) in
      subst (ReadsThird l r.mz r.intensity (preferred r.table) at room) (headed head (stored current r.table) room refl)
      (line (reads_preferred l r.table s i n (room - row_head_size) (omega (arith, length-append head (stored current r.table)))) (Moves.done refl))

  intensity_read : (t : Table) → r.table ≡ t → (at : ℕ)
      → ReadsIntensity l r.mz (decimal_text r.intensity ++ opt_text third_text (preferred_third t)) at room (gives room (stored_row r))
  intensity_read [] e at =
      let w = decimal_text r.intensity in
      ReadsIntensity.good (no_tab (subst (λ (x : List ℕ). T (lacks 9 x)) (sym (append-nil w)) (decimal_lacks r.intensity)))
      (record { text = sym (append-nil w); bounds = g })
      (subst (λ (x : Table). ReadsThird l r.mz r.intensity (preferred x) (at + length (w ++ [])) room (gives room (stored_row r))) e (third_read (at + length (w ++ []))))
  intensity_read (a ∷ t) e at =
      let w = decimal_text r.intensity in
      ReadsIntensity.good (at_tab w (preferred (a ∷ t)) (decimal_lacks r.intensity) refl) (record { text = refl; bounds = g })
      (subst (λ (x : Table). ReadsThird l r.mz r.intensity (preferred x) (at + (length w + 1)) room (gives room (stored_row r))) e (third_read (at + (length w + 1))))

  row_read : ReadsRow l (preferred_row r) room (gives room (stored_row r))
  row_read =
      let v = decimal_text r.mz in
      let w = decimal_text r.intensity in
      let x = opt_text third_text (preferred_third r.table) in
      ReadsRow.good (preferred_row_short r f g n)
      (at_tab v (w ++ x) (decimal_lacks r.mz) refl) (record { text = refl; bounds = f }) (intensity_read r.table refl (length v + 1))

-- the row that was written is the preferred one of the stored row
pub record Wrote (l : LineEdition) (bytes : List ℕ) (a : Answer) : Type 0 where
  pub row : Row
  pub holds : HoldsRow current bytes row
  pub edition : T (within l (preferred_spelling row.table))
  pub short : length (preferred row.table) ≤ max_line
  pub is : take a.size a.out ≡ preferred_row row

delivered_row : (r : Row) {room : ℕ} {a : Answer} → Delivers room (preferred_row r) a → a.number ≡ 0 → take a.size a.out ≡ preferred_row r
delivered_row r (no_room h) e = absurd (omega arith)
delivered_row r {room} (done h) e = take_given room (preferred_row r)

pub wrote : {l : LineEdition} {bytes : List ℕ} {room : ℕ} {a : Answer} → WritesRow l bytes room a → a.number ≡ 0 → Wrote l bytes a
wrote (WritesRow.no_row n) e = absurd (omega arith)
wrote (WritesRow.old r h o) e = absurd (omega arith)
wrote (WritesRow.lettered r h n) e = absurd (omega arith)
wrote (WritesRow.long r h i n) e = absurd (omega arith)
wrote (WritesRow.fits r h i n d) e = record { row = r; holds = h; edition = i; short = n; is = delivered_row r d e }

-- the bytes of a stored row of the current edition
pub current_row : {bytes : List ℕ} {r : Row} → HoldsRow current bytes r → stored_row r ≡ bytes
current_row {r = r} h = ap (λ (w : List ℕ). stores (row_head r.mz r.intensity) ++ w) h.table.is ∙ h.is

-- reading gives these bytes, in some answer, and so in every one
pub read_back_row : {l : LineEdition} {bytes : List ℕ} {room : ℕ} {a : Answer} → WritesRow l bytes room a → a.number ≡ 0 → (room' : ℕ) → length bytes ≤ room'
    → ReadsRow l (take a.size a.out) room' (gives room' bytes)
read_back_row {l} {bytes} w e room' g =
    let x = wrote w e in
    let h = x.holds in
    let q = current_row h in
    subst (λ (y : List ℕ). ReadsRow l y room' (gives room' bytes)) (sym x.is)
    (subst (λ (y : List ℕ). ReadsRow l (preferred_row x.row) room' (gives room' y)) q
    (row_read l x.row h.mz h.intensity h.table.sound x.edition x.short room' (omega (arith, ap length q))))

pub read_back_row_one : {l : LineEdition} {bytes : List ℕ} {room room' : ℕ} {a b : Answer} → WritesRow l bytes room a → a.number ≡ 0 → length bytes ≤ room'
    → ReadsRow l (take a.size a.out) room' b → b ≡ gives room' bytes
read_back_row_one {room' = room'} w e g r = reads_row_one r (read_back_row w e room' g)

-- ---- what was read

-- with number 0: the stored row that the row spells, and zeros behind it
pub record ReadRow (l : LineEdition) (row : List ℕ) (room : ℕ) (a : Answer) : Type 0 where
  pub means : Row
  pub spells : SpellsRow l means row
  pub is : a ≡ gives room (stored_row means)

-- the empty third column, and none, have no annotations
pub no_annotations : {s : Spelling} {t : Table} → line_text s ≡ [] → Each Says s t → Each Says [] t
no_annotations {s} {t} e x = subst (λ (u : Spelling). Each Says u t) (one_spelling s [] e) x

module _ {row : List ℕ} (mz intensity : Decimal) where
  -- by what became of the line's answer
  moved_third : {l : LineEdition} {third : List ℕ} {at room : ℕ} {b a : Answer} → Reads l third (room - row_head_size) b → Moves (stores (row_head mz intensity)) at room b a → a.number ≡ 0
      → ((s : Spelling) → line_text s ≡ third → T (within l s) → (t : Table) → Each Says s t → SpellsRow l (record { mz = mz; intensity = intensity; table = t }) row)
      → ReadRow l row room a
  moved_third {third} {room = room} r (Moves.done e) n h =
      let y = reads_table third (room - row_head_size) r e in
      let t = y.table in
      let head = stores (row_head mz intensity) in
      record {
        means = record { mz = mz; intensity = intensity; table = t };
        spells = h y.spelling y.text y.edition t y.says;
        is =
            ap (λ (b : Answer). record { number = 0; place = 0; size = row_head_size + b.size; out = head ++ b.out }) y.is
            ∙ headed head (stored current t) room refl;
      }
  moved_third r (Moves.no_room e) n h = absurd (omega arith)
  moved_third r (Moves.refused e f) n h = absurd (e n)

  read_third : {l : LineEdition} {third : List ℕ} {at room : ℕ} {a : Answer} → ReadsThird l mz intensity third at room a → a.number ≡ 0
      → ((s : Spelling) → line_text s ≡ third → T (within l s) → (t : Table) → Each Says s t → SpellsRow l (record { mz = mz; intensity = intensity; table = t }) row)
      → ReadRow l row room a
  read_third (line r m) n h = moved_third r m n h

  -- a third column that is there, or is not
  with_third : {l : LineEdition} {third : List ℕ} → decimal_text mz ++ (tab ++ (decimal_text intensity ++ (tab ++ third))) ≡ row → (s : Spelling) → line_text s ≡ third → T (within l s) → (t : Table)
      → Each Says s t → SpellsRow l (record { mz = mz; intensity = intensity; table = t }) row
  with_third e s q i t x =
      record {
        spelling = record { mz = mz; intensity = intensity; third = written s };
        edition = i;
        text = ap (λ (w : List ℕ). decimal_text mz ++ (tab ++ (decimal_text intensity ++ (tab ++ w)))) q ∙ e;
        says = record { mz = refl; intensity = refl; table = x };
      }

  without_third : {l : LineEdition} → decimal_text mz ++ (tab ++ decimal_text intensity) ≡ row → (s : Spelling) → line_text s ≡ [] → T (within l s) → (t : Table) → Each Says s t
      → SpellsRow l (record { mz = mz; intensity = intensity; table = t }) row
  without_third {l} e s q i t x =
      record {
        spelling = record { mz = mz; intensity = intensity; third = silent };
        edition = subst (λ (u : Spelling). T (within l u)) (one_spelling s [] q) i;
        text = ap (λ (w : List ℕ). decimal_text mz ++ (tab ++ w)) (append-nil (decimal_text intensity)) ∙ e;
        says = record { mz = refl; intensity = refl; table = no_annotations q x };
      }

-- every decimal has a text
pub no_decimal : (d : Decimal) → decimal_text d ≡ [] → ⊥
no_decimal d e = omega (arith, decimal_some d, ap length e)

read_intensity : {l : LineEdition} {row bytes : List ℕ} {at room : ℕ} {a : Answer} (mz : Decimal) → ReadsIntensity l mz bytes at room a → a.number ≡ 0
    → decimal_text mz ++ (tab ++ bytes) ≡ row → ReadRow l row room a
read_intensity mz (ReadsIntensity.bad x n) e q = absurd (omega arith)
read_intensity mz (ReadsIntensity.good (at_tab column third l p) {intensity = d} g r) e q =
    let z = ap (λ (x : List ℕ). decimal_text mz ++ (tab ++ x)) (ap (λ (x : List ℕ). x ++ (tab ++ third)) g.text ∙ p) ∙ q in
    read_third mz d r e (with_third mz d z)
read_intensity mz (ReadsIntensity.good (no_tab l) {intensity = d} g r) e q =
    read_third mz d r e (without_third mz d (ap (λ (x : List ℕ). decimal_text mz ++ (tab ++ x)) g.text ∙ q))

-- a row whose m/z is all has no intensity
pub nothing_behind : {l : LineEdition} {mz : Decimal} {at room : ℕ} {a : Answer} → ReadsIntensity l mz [] at room a → a.number ≡ 0 → ⊥
nothing_behind (ReadsIntensity.bad x n) e = omega arith
nothing_behind (ReadsIntensity.good (at_tab column third l p) g r) e = no_cut 9 column [] third tt p
nothing_behind (ReadsIntensity.good (no_tab l) {intensity = d} g r) e = no_decimal d g.text

pub reads_row_spells : {l : LineEdition} {row : List ℕ} {room : ℕ} {a : Answer} → ReadsRow l row room a → a.number ≡ 0 → ReadRow l row room a
reads_row_spells (ReadsRow.long h) e = absurd (omega arith)
reads_row_spells (ReadsRow.bad h x n) e = absurd (omega arith)
reads_row_spells (ReadsRow.good h (at_tab column more l p) {mz = d} f r) e =
    read_intensity d r e (ap (λ (x : List ℕ). x ++ (tab ++ more)) f.text ∙ p)
reads_row_spells (ReadsRow.good h (no_tab l) f r) e = absurd (nothing_behind r e)
