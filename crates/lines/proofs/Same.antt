-- A preferred spelling is relabelled to itself: what was given for a line, in an output that holds it, is given again. Assumes nothing.
use Prim.Native.Nat.{ℕ, ◌≤◌}
use mathlib.Core.Path.{◌≡◌, refl, sym, ap, subst}
use mathlib.Core.List.{List}
use native.Mathlib.Omega.{arith}
use lib.ListN.{length, take}
use Rattle.rules.specs.Editions.{LineEdition}
use Rattle.rules.specs.Lines.{line_text}
use Rattle.rules.specs.Limits.{max_line}
use Rattle.rules.specs.Preferred.{preferred}
use Rattle.rules.specs.Stored.{stored}
use Rattle.rules.specs.Answers.{Answer, gives, no_room, done, Reads, Writes, no_table, old, lettered, long, fits}
use Rattle.rules.specs.Largest.{max_table}
use Rattle.rules.specs.Editions.{current}
use Rattle.write_table.proofs.Holds.{take_given}
use Rattle.lines.specs.Relabels.{Relabels, refused, relabelled}
use Rattle.lines.proofs.Small.{table_small}
use Rattle.lines.proofs.Right.{reads_table, bytes_read}
use Rattle.lines.proofs.Back.{read_back, relabels_one}

-- the same bytes written again, in an output of another length
writes_again : {l : LineEdition} {bytes : List ℕ} {room room' : ℕ} {a : Answer} → Writes l bytes room a → a.number ≡ 0 → a.size ≤ room'
    → Writes l bytes room' (gives room' (take a.size a.out))
writes_again (no_table n) e l = absurd (omega arith)
writes_again (old t h o) e l = absurd (omega arith)
writes_again (lettered t h n) e l = absurd (omega arith)
writes_again (long t h i g) e l = absurd (omega arith)
writes_again (fits t h i g (no_room d)) e l = absurd (omega arith)
writes_again {l = lines} {bytes} {room} {room'} (fits t h i g (done d)) e l =
    subst (λ (w : List ℕ). Writes lines bytes room' (gives room' w)) (sym (take_given room (preferred t))) (fits t h i g (done l))

-- what was read has no more bytes than any table
read_small : {l : LineEdition} (line : List ℕ) {a : Answer} → Reads l line max_table a → a.number ≡ 0 → length (take a.size a.out) ≤ max_table
read_small line r e =
    let x = reads_table line max_table r e in
    let h : length (line_text x.spelling) ≤ max_line = omega (arith, x.short, ap length x.text) in
    omega (arith, table_small x.says x.sound h, ap length (bytes_read line max_table x))

-- there is such an answer
pub given_again : {l : LineEdition} {line : List ℕ} {room room' : ℕ} {a : Answer} → Relabels l line room a → a.number ≡ 0 → a.size ≤ room'
    → Relabels l (take a.size a.out) room' (gives room' (take a.size a.out))
given_again (refused r h) e l = absurd (h e)
given_again {l = lines} {line} {room} {room'} {a} (relabelled {a = t} r n w) e l =
    let y = read_back w e in
    let s : stored current y.table ≡ take t.size t.out = y.holds.is in
    let read = subst (λ (v : List ℕ). Reads lines (take a.size a.out) max_table (gives max_table v)) s (y.reads max_table (omega (arith, ap length s, read_small line r n))) in
    let back = sym (take_given max_table (take t.size t.out)) in
    relabelled read refl (subst (λ (v : List ℕ). Writes lines v room' (gives room' (take a.size a.out))) back (writes_again w e l))

-- and every answer is this one
pub relabel_same : {l : LineEdition} {line : List ℕ} {room room' : ℕ} {a b : Answer} → Relabels l line room a → a.number ≡ 0 → a.size ≤ room'
    → Relabels l (take a.size a.out) room' b → b ≡ gives room' (take a.size a.out)
relabel_same {a = a} r e l x = relabels_one (take a.size a.out) x (given_again r e l)
