-- The rows of the machine of the second edition of lines, each tested: in chunks, since a test has its step limit. Made by tools/tables.py. Assumes nothing.
use Prim.Native.Nat.{ℕ, ◌+◌}
use mathlib.Core.Bool.{Bool}
use lib.Dec.{T}
use Rattle.lang.proofs.Machine.{all_b}
use Rattle.lang.proofs.Certify.{row_t, Below, none_yet, chunk}
use Rattle.rules.specs.Elements.{symbols}
use Rattle.shape.specs.Tables.{classes, reps, rows, words, states}
use Rattle.shape.proofs.Grammar.{symbol_re}
use Rattle.shape.proofs.TableMachine.{machine}

row : ℕ → Bool
unfolding machine
row q = row_t machine q

rows0 : T (all_b (λ i. row (0 + i)) 24)
unfolding row machine words rows classes reps symbol_re symbols
rows0 = tt

rows24 : T (all_b (λ i. row (24 + i)) 24)
unfolding row machine words rows classes reps symbol_re symbols
rows24 = tt

rows48 : T (all_b (λ i. row (48 + i)) 24)
unfolding row machine words rows classes reps symbol_re symbols
rows48 = tt

rows72 : T (all_b (λ i. row (72 + i)) 24)
unfolding row machine words rows classes reps symbol_re symbols
rows72 = tt

rows96 : T (all_b (λ i. row (96 + i)) 24)
unfolding row machine words rows classes reps symbol_re symbols
rows96 = tt

rows120 : T (all_b (λ i. row (120 + i)) 24)
unfolding row machine words rows classes reps symbol_re symbols
rows120 = tt

rows144 : T (all_b (λ i. row (144 + i)) 24)
unfolding row machine words rows classes reps symbol_re symbols
rows144 = tt

rows168 : T (all_b (λ i. row (168 + i)) 24)
unfolding row machine words rows classes reps symbol_re symbols
rows168 = tt

rows192 : T (all_b (λ i. row (192 + i)) 24)
unfolding row machine words rows classes reps symbol_re symbols
rows192 = tt

rows216 : T (all_b (λ i. row (216 + i)) 18)
unfolding row machine words rows classes reps symbol_re symbols
rows216 = tt

pub all_rows_lem : Below (row_t machine) states
unfolding row machine
all_rows_lem = chunk row 216 18 (chunk row 192 24 (chunk row 168 24 (chunk row 144 24 (chunk row 120 24 (chunk row 96 24 (chunk row 72 24 (chunk row 48 24 (chunk row 24 24 (chunk row 0 24 (none_yet row) rows0) rows24) rows48) rows72) rows96) rows120) rows144) rows168) rows192) rows216
