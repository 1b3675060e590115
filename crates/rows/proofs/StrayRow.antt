-- A stray byte of the third column stays stray: whatever is behind it, every row of at most 4,096 bytes that agrees with the row up to and
-- including that byte is answered the same. Assumes nothing.
use Prim.Native.Nat.{ℕ, ◌+◌, ◌-◌, ◌≤◌}
use mathlib.Core.Path.{◌≡◌, refl, sym, ap, ◌∙◌, subst}
use mathlib.Core.List.{List, [], ◌++◌, append_assoc}
use native.Mathlib.Omega.{arith}
use lib.Dec.{T}
use lib.ListN.{length, take, drop, length-append, length-take, length-drop, take-append-drop}
use lib.Seq.{take-add, take-append_seam, drop-append_seam}
use Rattle.rules.specs.Decimals.{Decimal, decimal_text}
use Rattle.rules.specs.Limits.{fits, max_line}
use Rattle.rules.specs.Editions.{LineEdition}
use Rattle.rules.specs.Answers.{Answer, refuses, Reads}
use Rattle.rules.specs.Rows.{tab, row_head_size}
use Rattle.rules.specs.RowAnswers.{max_row, at_tab, no_tab, Moves, ReadsThird, line, ReadsIntensity, ReadsRow}
use Rattle.rules.proofs.Cuts as rules
use Rattle.rules.proofs.StrayStays.{two_is_stray, stray_answered}
use Rattle.read_row.proofs.Cuts.{no_cut}
use Rattle.read_row.proofs.Decimals.{decimal_lacks}
use Rattle.rows.proofs.OneRow.{reads_row_one}

-- the first two columns and their tabs
abbrev pub columns : Decimal → Decimal → List ℕ
columns mz intensity = decimal_text mz ++ (tab ++ (decimal_text intensity ++ tab))

abbrev pub begin : Decimal → Decimal → ℕ
begin mz intensity = length (decimal_text mz) + 1 + (length (decimal_text intensity) + 1)

pub columns_length : (mz intensity : Decimal) → length (columns mz intensity) ≡ begin mz intensity
columns_length mz intensity =
    omega (arith, length-append (decimal_text mz) (tab ++ (decimal_text intensity ++ tab)), length-append (decimal_text intensity) tab)

pub columns_then : (mz intensity : Decimal) (third : List ℕ)
    → columns mz intensity ++ third ≡ decimal_text mz ++ (tab ++ (decimal_text intensity ++ (tab ++ third)))
columns_then mz intensity third =
    append_assoc (decimal_text mz) (tab ++ (decimal_text intensity ++ tab)) third
    ∙ ap (λ (w : List ℕ). decimal_text mz ++ (tab ++ w)) (append_assoc (decimal_text intensity) tab third)

-- a row with a stray byte in its third column
record StrayIn (l : LineEdition) (row : List ℕ) (place : ℕ) : Type 0 where
  mz : Decimal
  intensity : Decimal
  mz_fits : T (fits mz)
  intensity_fits : T (fits intensity)
  third : List ℕ
  is : columns mz intensity ++ third ≡ row
  room : ℕ
  answer : Answer
  reads : Reads l third room answer
  two : answer.number ≡ 2
  at : place ≡ begin mz intensity + answer.place

stray_moved : {l : LineEdition} {row third head : List ℕ} {room : ℕ} (mz intensity : Decimal) → T (fits mz) → T (fits intensity)
    → columns mz intensity ++ third ≡ row → {b a : Answer} → Reads l third (room - row_head_size) b → Moves head (begin mz intensity) room b a → a.number ≡ 2 → StrayIn l row a.place
stray_moved mz intensity f g q r (Moves.done e) n = absurd (omega arith)
stray_moved mz intensity f g q r (Moves.no_room e) n = absurd (omega arith)
stray_moved {third = third} {room = room} mz intensity f g q {b = b} r (Moves.refused d e) n =
    record {
      mz = mz;
      intensity = intensity;
      mz_fits = f;
      intensity_fits = g;
      third = third;
      is = q;
      room = room - row_head_size;
      answer = b;
      reads = r;
      two = n;
      at = refl;
    }

stray_third : {l : LineEdition} {row third : List ℕ} {room : ℕ} {a : Answer} (mz intensity : Decimal) → T (fits mz) → T (fits intensity)
    → columns mz intensity ++ third ≡ row → ReadsThird l mz intensity third (begin mz intensity) room a → a.number ≡ 2 → StrayIn l row a.place
stray_third mz intensity f g q (line r m) n = stray_moved mz intensity f g q r m n

-- without a third column no byte is stray
none_moved : {l : LineEdition} {head : List ℕ} {at room : ℕ} {b a : Answer} → Reads l [] (room - row_head_size) b → Moves head at room b a → a.number ≡ 2 → ⊥
none_moved r (Moves.done e) n = omega arith
none_moved r (Moves.no_room e) n = omega arith
none_moved r (Moves.refused d e) n = omega (arith, (two_is_stray r n).inside)

none_stray : {l : LineEdition} {mz intensity : Decimal} {at room : ℕ} {a : Answer} → ReadsThird l mz intensity [] at room a → a.number ≡ 2 → ⊥
none_stray (line r m) n = none_moved r m n

stray_intensity : {l : LineEdition} {row bytes : List ℕ} {room : ℕ} (mz : Decimal) → T (fits mz) → decimal_text mz ++ (tab ++ bytes) ≡ row
    → {a : Answer} → ReadsIntensity l mz bytes (length (decimal_text mz) + 1) room a → a.number ≡ 2 → StrayIn l row a.place
stray_intensity mz f q (ReadsIntensity.bad x n) e = absurd (omega arith)
stray_intensity {l} {room = room} mz f q {a = a} (ReadsIntensity.good (at_tab column third n p) {intensity = d} g r) e =
    let w = decimal_text d in
    let z = columns_then mz d third ∙ ap (λ (x : List ℕ). decimal_text mz ++ (tab ++ x)) (ap (λ (x : List ℕ). x ++ (tab ++ third)) g.text ∙ p) ∙ q in
    stray_third mz d f g.bounds z
    (subst (λ (x : List ℕ). ReadsThird l mz d third (length (decimal_text mz) + 1 + (length x + 1)) room a) (sym g.text) r) e
stray_intensity mz f q (ReadsIntensity.good (no_tab l) g r) e = absurd (none_stray r e)

no_intensity : {l : LineEdition} {mz : Decimal} {at room : ℕ} {a : Answer} → ReadsIntensity l mz [] at room a → a.number ≡ 2 → ⊥
no_intensity (ReadsIntensity.bad x n) e = omega arith
no_intensity (ReadsIntensity.good (at_tab column third l p) g r) e = no_cut 9 column [] third tt p
no_intensity (ReadsIntensity.good (no_tab l) g r) e = none_stray r e

stray_in : {l : LineEdition} {row : List ℕ} {room : ℕ} {a : Answer} → ReadsRow l row room a → a.number ≡ 2 → StrayIn l row a.place
stray_in (ReadsRow.long h) e = absurd (omega arith)
stray_in (ReadsRow.bad h x n) e = absurd (omega arith)
stray_in {l} {room = room} {a = a} (ReadsRow.good h (at_tab column more n p) {mz = d} f r) e =
    stray_intensity d f.bounds (ap (λ (x : List ℕ). x ++ (tab ++ more)) f.text ∙ p)
    (subst (λ (x : List ℕ). ReadsIntensity l d more (length x + 1) room a) (sym f.text) r) e
stray_in (ReadsRow.good h (no_tab l) f r) e = absurd (no_intensity r e)

-- another row that begins with the same columns
read_other : {l : LineEdition} (mz intensity : Decimal) → T (fits mz) → T (fits intensity) → (third : List ℕ) {k room : ℕ}
    → length (columns mz intensity ++ third) ≤ max_row → Reads l third (room - row_head_size) (refuses (room - row_head_size) 2 k)
    → ReadsRow l (columns mz intensity ++ third) room (refuses room 2 (begin mz intensity + k))
read_other mz intensity f g third {k} {room} h r =
    let v = decimal_text mz in
    let w = decimal_text intensity in
    ReadsRow.good h (at_tab v (w ++ (tab ++ third)) (decimal_lacks mz) (sym (columns_then mz intensity third))) (record { text = refl; bounds = f })
    (ReadsIntensity.good (at_tab w third (decimal_lacks intensity) refl) (record { text = refl; bounds = g })
    (line r (Moves.refused (λ e. absurd (omega arith)) (λ e. absurd (omega arith)))))

pub stray_answered_row : {l : LineEdition} {row other : List ℕ} {room room' : ℕ} {a : Answer} → ReadsRow l row room a → a.number ≡ 2 → length other ≤ max_line
    → take (a.place + 1) other ≡ take (a.place + 1) row → ReadsRow l other room' (refuses room' 2 a.place)
stray_answered_row {l} {row} {other} {room' = room'} {a = a} r e small agrees =
    let x = stray_in r e in
    let c = columns x.mz x.intensity in
    let p = begin x.mz x.intensity in
    let k = x.answer.place in
    let b = columns_length x.mz x.intensity in
    let s = (two_is_stray x.reads x.two).inside in
    let n : a.place + 1 ≡ p + (k + 1) = omega (arith, x.at) in
    let i = ap length x.is in
    let j = length-append c x.third in
    let m : length (take (a.place + 1) row) ≡ a.place + 1 = length-take (a.place + 1) row ∙ omega (arith, x.at) in
    let o : a.place + 1 ≤ length other = omega (arith, length-take (a.place + 1) other, ap length agrees) in
    let q : take p other ++ take (k + 1) (drop p other) ≡ take p row ++ take (k + 1) (drop p row) =
    sym (take-add p (k + 1) other) ∙ ap (λ (z : ℕ). take z other) (sym n) ∙ agrees ∙ ap (λ (z : ℕ). take z row) n ∙ take-add p (k + 1) row in
    let u : length (take p other) ≡ length (take p row) = length-take p other ∙ omega (arith, x.at, length-take p row) in
    let y = rules.cut (take p other) (take p row) u q in
    let front : take p other ≡ c = y.0 ∙ ap (take p) (sym x.is) ∙ ap (λ (z : ℕ). take z (c ++ x.third)) (sym b) ∙ take-append_seam c x.third in
    let behind : drop p row ≡ x.third = ap (drop p) (sym x.is) ∙ ap (λ (z : ℕ). drop z (c ++ x.third)) (sym b) ∙ drop-append_seam c x.third in
    let third = drop p other in
    let whole : c ++ third ≡ other = ap (λ (z : List ℕ). z ++ third) (sym front) ∙ take-append-drop p other in
    let t = stray_answered {room' = room' - row_head_size} x.reads x.two (omega (arith, length-drop p other)) (y.1 ∙ ap (take (k + 1)) behind) in
    let d = read_other x.mz x.intensity x.mz_fits x.intensity_fits third {room = room'} (omega (arith, ap length whole)) t in
    subst (λ (z : List ℕ). ReadsRow l z room' (refuses room' 2 a.place)) whole
    (subst (λ (z : ℕ). ReadsRow l (c ++ third) room' (refuses room' 2 z)) (sym x.at) d)

pub stray_stays_row : {l : LineEdition} {row other : List ℕ} {room room' : ℕ} {a b : Answer} → ReadsRow l row room a → a.number ≡ 2 → length other ≤ max_line
    → take (a.place + 1) other ≡ take (a.place + 1) row → ReadsRow l other room' b → b ≡ refuses room' 2 a.place
stray_stays_row r e small agrees x = reads_row_one x (stray_answered_row r e small agrees)
