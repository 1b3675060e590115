-- By a machine that was prepared, in a buffer of any length that holds it, the calls hand over what the rules say: no step of the
-- machine looks at the bytes behind it. Assumes nothing.
use Prim.Native.Nat.{ℕ, zero, suc, ◌+◌, ◌-◌, ◌*◌, ◌/◌, ◌<◌, ◌≤◌, ◌^◌}
use mathlib.Core.Path.{◌≡◌, refl, sym, ap, ◌∙◌, subst}
use mathlib.Core.Bool.{Bool, true, false, cond}
use mathlib.Core.List.{List, [], ◌∷◌, ◌++◌}
use native.Mathlib.Omega.{arith}
use native.Mathlib.Decide.{dec_le}
use lib.Dec.{ltb, eqb}
use lib.ListN.{length, get_or, set, drop, replicate, length-append, length-drop, get_or-append}
use lib.Seq.{get_or-append-add}
use borrow.Author.Tests.{ltb-true, le-leb}
use Rattle.lang.specs.Parts.{flat}
use Rattle.rules.specs.Stored.{little}
use Rattle.rules.specs.Answers.{Reads, Writes, Converts}
use Rattle.rules.specs.RowAnswers.{ReadsRow, WritesRow, ConvertsRow}
use Rattle.rules.specs.Editions.{LineEdition, first_lines, second_lines}
use Rattle.shape.specs.Tables.{states, kinds, rows_at, ends_at, size, x_at, y_at, z_at, packed}
use Rattle.put_bytes.specs.Puts.{max_place}
use Rattle.scan_line.specs.declared.Progress.{Progress}
use Rattle.scan_line.specs.declared.Verdict.TheVariants.{Fine, Short, Stray}
use Rattle.scan_line.specs.Steps.{second_bytes, machine_bytes, takes_letters, step_by, move_by, ends_by, standing, run_by, verdict_by, scanned_by}
use Rattle.scan_line.specs.Verdicts.{JudgedBy}
use Rattle.scan_line.proofs.Walks.{moves_alike, taken_run}
use Rattle.scan_line.proofs.Cells.{size_is}
use Rattle.scan_line.proofs.Letters.{is_second, takes_letters_lem, letters_told}
use Rattle.scan_line.proofs.Scans.{by_machine}
use Rattle.read_line.specs.Readings.{read_of}
use Rattle.read_line.proofs.Right.{read_right}
use Rattle.write_table.specs.Writings.{written_of, converted_of}
use Rattle.write_table.proofs.Low.{bytes_each}
use Rattle.write_table.proofs.Right.{Lent, write_right, convert_right}
use Rattle.lines.specs.Relabels.{Relabels, relabelled_of}
use Rattle.lines.proofs.Right.{relabel_right}
use Rattle.read_row.specs.Readings.{read_row_of}
use Rattle.read_row.proofs.Right.{read_row_right}
use Rattle.write_row.specs.Writings.{write_row_of}
use Rattle.write_row.proofs.Heads.{Bytes, bytes_drop}
use Rattle.write_row.proofs.Right.{write_row_right}
use Rattle.convert_row.specs.Conversions.{convert_row_of}
use Rattle.convert_row.proofs.Right.{convert_row_right}
use Rattle.respell_row.specs.Relabelled.{relabelled_row_of}
use Rattle.rows.specs.Relabels.{RelabelsRow}
use Rattle.rows.proofs.RelabelRow.{relabel_row_right}
use Rattle.pack_answer.specs.Handed.{Hands, handed_of}
use Rattle.capi.specs.Prepared.{machine_in}
use Rattle.pack_answer.proofs.Packs.{hands}
use Rattle.capi.proofs.Fitting.{reads_fit, writes_fit, converts_fit, relabels_fit}
use Rattle.capi.proofs.FittingRows.{reads_row_fit, writes_row_fit, converts_row_fit, relabels_row_fit}

-- ---- the machine consists of bytes

little_byte : (n v i : ℕ) → get_or (little n v) i 0 < 256
little_byte zero v i = omega arith
little_byte (suc n) v zero = omega arith
little_byte (suc n) v (suc i) = little_byte n (v / 256) i

words_bytes : (ws : List ℕ) (i : ℕ) → get_or (flat (little 8) ws) i 0 < 256
words_bytes [] i = omega arith
words_bytes (w ∷ ws) i = by (λ j. words_bytes ws j) (dec_le 8 i)
  where
    by : ((j : ℕ) → get_or (flat (little 8) ws) j 0 < 256) → Dec (8 ≤ i) → get_or (little 8 w ++ flat (little 8) ws) i 0 < 256
    by ih (yes h) =
        let e : 8 + (i - 8) ≡ i = omega arith in
        subst (λ (k : ℕ). get_or (little 8 w ++ flat (little 8) ws) k 0 < 256) e
        (subst (λ (b : ℕ). b < 256) (sym (get_or-append-add (little 8 w) (flat (little 8) ws) (i - 8) 0)) (ih (i - 8)))
    by ih (no h) =
        subst (λ (b : ℕ). b < 256) (sym (get_or-append (little 8 w) (flat (little 8) ws) 0 i (omega arith))) (little_byte 8 w i)

second_byte : (i : ℕ) → get_or second_bytes i 0 < 256
unfolding second_bytes
second_byte i = words_bytes packed i

-- and so does one with a byte set
set_byte : (m : List ℕ) (at b : ℕ) → ((i : ℕ) → get_or m i 0 < 256) → b < 256 → (i : ℕ) → get_or (set m at b) i 0 < 256
set_byte [] at b y h i = y i
set_byte (x ∷ m) zero b y h zero = h
set_byte (x ∷ m) zero b y h (suc i) = y (suc i)
set_byte (x ∷ m) (suc at) b y h zero = y zero
set_byte (x ∷ m) (suc at) b y h (suc i) = set_byte m at b (λ j. y (suc j)) h i

machine_byte : (l : LineEdition) (i : ℕ) → get_or (machine_bytes l) i 0 < 256
unfolding machine_bytes
machine_byte first_lines i =
    set_byte (set (set second_bytes x_at states) y_at states) z_at states
    (set_byte (set second_bytes x_at states) y_at states (set_byte second_bytes x_at states second_byte (omega arith)) (omega arith)) (omega arith) i
machine_byte second_lines i = second_byte i

-- ---- a machine with bytes behind it

module _ (l : LineEdition) (z : List ℕ) where
  abbrev own : List ℕ
  own = machine_bytes l

  abbrev longer : List ℕ
  longer = own ++ z

  long : size ≤ length longer
  long = omega (arith, size_is l, length-append own z)

  inside : (i : ℕ) → i < size → get_or longer i 0 ≡ get_or own i 0
  inside i h = get_or-append own z 0 i (omega (arith, size_is l))

  step_same : (q b : ℕ) → q < states → b < 256 → step_by longer q b ≡ step_by own q b
  unfolding step_by
  step_same q b h g =
      ap (λ (c : ℕ). get_or longer (rows_at + q * kinds + c) 0) (inside b (omega arith))
      ∙ inside (rows_at + q * kinds + get_or own b 0) (omega (arith, machine_byte l b))

  ends_same : (q : ℕ) → q < states → ends_by longer q ≡ ends_by own q
  unfolding ends_by
  ends_same q h = ap (λ (b : ℕ). eqb b 1) (inside (ends_at + q) (omega arith))

  run_same : (w : List ℕ) → Bytes w → (q d at : ℕ) → q < states → run_by longer q d at w ≡ run_by own q d at w
  unfolding run_by
  run_same [] y q d at h = refl
  run_same (b ∷ w) y q d at h =
      let s = moves_alike longer own q d b (step_same q b h (y 0 (omega arith))) in
      let p = move_by own q d b in
      rw s (by p (λ g. run_same w (λ i k. y (suc i) (omega arith)) p.0 p.1 (at + 1) g) (ltb p.0 states) refl)
    where
      by : (p : ℕ × ℕ) → (p.0 < states → run_by longer p.0 p.1 (at + 1) w ≡ run_by own p.0 p.1 (at + 1) w)
          → (t : Bool) → ltb p.0 states ≡ t
          → cond t (run_by longer p.0 p.1 (at + 1) w) (standing states 0 at) ≡ cond t (run_by own p.0 p.1 (at + 1) w) (standing states 0 at)
      by p ih true e = ih (ltb-true p.0 states e)
      by p ih false e = refl

  verdict_same : (s : Progress) → verdict_by longer s ≡ verdict_by own s
  unfolding verdict_by
  verdict_same s =
      let enough : size ≤ length own = omega (arith, size_is l) in
      rw (le-leb size (length longer) long, le-leb size (length own) enough) (by (ltb s.state states) refl)
    where
      by : (t : Bool) → ltb s.state states ≡ t
          → cond t (cond (ends_by longer s.state) Fine Short) (Stray s.at) ≡ cond t (cond (ends_by own s.state) Fine Short) (Stray s.at)
      by true e = rw (ends_same s.state (ltb-true s.state states e))
      by false e = refl

  scan_same : (line : List ℕ) → Bytes line → length line < 2 ^ 64 → scanned_by longer line ≡ scanned_by own line
  unfolding scanned_by
  scan_same line y h =
      ap (verdict_by longer)
      (taken_run longer (standing 0 0 0) line long (omega arith) (omega arith) (omega arith) ∙ run_same line y 0 0 0 (omega arith)
      ∙ sym (taken_run own (standing 0 0 0) line (omega (arith, size_is l)) (omega arith) (omega arith) (omega arith)))
      ∙ verdict_same _

  -- the byte that tells the editions apart is among the machine's
  letters_same : takes_letters longer ≡ is_second l
  letters_same = sym (letters_told longer (omega (arith, long))) ∙ ap (λ (b : ℕ). ltb b states) (inside x_at (omega arith)) ∙ letters_told own (omega (arith, size_is l)) ∙ takes_letters_lem l

-- ---- by a machine in a buffer of k bytes

module _ (l : LineEdition) (k : ℕ) where
  abbrev m : List ℕ
  m = machine_in l k

  judged : (line : List ℕ) → Bytes line → length line < 2 ^ 64 → JudgedBy l line (scanned_by m line)
  judged line y h = subst (JudgedBy l line) (sym (scan_same l (replicate (k - size) 0) line y h)) (by_machine l line y h)

  judged_rest : (row : List ℕ) → Bytes row → length row < 2 ^ 64 → (n : ℕ) → JudgedBy l (drop n row) (scanned_by m (drop n row))
  judged_rest row y h n = judged (drop n row) (bytes_drop row n y) (omega (arith, length-drop n row))

  lent_in : Lent l m
  lent_in = record { letters = letters_same l (replicate (k - size) 0); judged = λ line b h. judged line (bytes_each line b) (omega arith) }

  module _ (room n : ℕ) (small : room ≤ max_place) where
    pub read_lent : (line : List ℕ) → Bytes line → length line < 2 ^ 64 → Hands (Reads l line room) room n (handed_of room (read_of (scanned_by m line) line room) n)
    read_lent line y h = let r = read_right l line room small (scanned_by m line) (judged line y h) in hands _ r (reads_fit r) refl refl

    pub write_lent : (table : List ℕ) → Hands (Writes l table room) room n (handed_of room (written_of m table room) n)
    write_lent table = let r = write_right l m table room lent_in in hands _ r (writes_fit r) refl refl

    pub convert_lent : (table : List ℕ) → Hands (Converts table room) room n (handed_of room (converted_of m table room) n)
    convert_lent table = let r = convert_right l m table room small lent_in in hands _ r (converts_fit r) refl refl

    pub relabel_lent : (line : List ℕ) → Bytes line → length line < 2 ^ 64
        → Hands (Relabels l line room) room n (handed_of room (relabelled_of (scanned_by m line) line room) n)
    relabel_lent line y h = let r = relabel_right l (scanned_by m line) line room (judged line y h) in hands _ r (relabels_fit r) refl refl

    pub read_row_lent : (row : List ℕ) → Bytes row → length row < 2 ^ 64 → Hands (ReadsRow l row room) room n (handed_of room (read_row_of m row room) n)
    read_row_lent row y h = let r = read_row_right l m row room small (judged_rest row y h) in hands _ r (reads_row_fit r) refl refl

    pub write_row_lent : (stored : List ℕ) → Bytes stored → Hands (WritesRow l stored room) room n (handed_of room (write_row_of m stored room) n)
    write_row_lent stored y = let r = write_row_right l m stored room small y lent_in in hands _ r (writes_row_fit r) refl refl

    pub convert_row_lent : (stored : List ℕ) → Bytes stored → Hands (ConvertsRow stored room) room n (handed_of room (convert_row_of m stored room) n)
    convert_row_lent stored y = let r = convert_row_right l m stored room small y lent_in in hands _ r (converts_row_fit r) refl refl

    pub relabel_row_lent : (row : List ℕ) → Bytes row → length row < 2 ^ 64 → Hands (RelabelsRow l row room) room n (handed_of room (relabelled_row_of m row room) n)
    relabel_row_lent row y h = let r = relabel_row_right l m row room small (judged_rest row y h) in hands _ r (relabels_row_fit r) refl refl
