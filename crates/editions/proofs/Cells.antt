-- In the first edition's machine no state goes on both with `1:1` to an end and with a first letter of an internal ion: a test of all its states.
-- Assumes nothing.
use Prim.Native.Nat.{ℕ}
use mathlib.Core.Bool.{Bool, not, ◌||◌}
use mathlib.Core.List.{List, ◌∷◌}
use lib.Dec.{T, T_not, ltb, lt→ltb}
use Rattle.lang.specs.Re.{either}
use Rattle.lang.proofs.Deriv.{or_e}
use Rattle.lang.proofs.Same.{LA}
use Rattle.lang.proofs.Machine.{all_b, all→}
use Rattle.lang.proofs.Certify.{step}
use Rattle.lang.proofs.Deep.{Stands, res_at}
use Rattle.rules.specs.Bytes.{bytes}
use Rattle.rules.specs.Editions.{first_lines}
use Rattle.shape.specs.Tables.{flats, classes, rows, accepts}
use Rattle.shape.proofs.TableMachine.{rows1, machine1}
use Rattle.shape.proofs.OneSpelling.{certified}
use Rattle.editions.proofs.Bytes.{each_b, among, each→}
use Rattle.editions.proofs.Walk.{level, taken, stands, taken_all}

-- the first letters of the cleavages
abbrev pub letters : List ℕ
letters = bytes "xyz"

-- the shortest positions
abbrev pub positions : List ℕ
positions = bytes "1:1"

abbrev shut : ℕ → ℕ → Bool
shut q b = not (ltb (step machine1 q b) machine1.states)

abbrev state_t : ℕ → Bool
state_t q = not (taken machine1 q positions) || each_b (shut q) letters

all_states : T (all_b state_t flats)
unfolding machine1 rows1 rows classes accepts
all_states = tt

all_level : T (each_b (level machine1) positions)
unfolding machine1
all_level = tt

letters_level : T (each_b (level machine1) letters)
unfolding machine1
letters_level = tt

-- where `1:1` may follow to an end, nothing with a letter may
pub no_letter : (q d : ℕ) → Stands machine1 q d → LA (res_at machine1 q d) positions → (b : ℕ) → T (among letters b)
    → (w : List ℕ) → LA (res_at machine1 q d) (b ∷ w) → ⊥
unfolding machine1
no_letter q d s x b a w y =
    let C = certified first_lines in
    let s' = stands machine1 C q d b s (each→ (level machine1) letters letters_level b a) w y in
    either
    (λ n. T_not (taken machine1 q positions) n (taken_all machine1 C positions all_level q d s x))
    (λ n. T_not (ltb (step machine1 q b) flats) (each→ (shut q) letters n b a) (lt→ltb (step machine1 q b) flats s'.small))
    (or_e (not (taken machine1 q positions)) (each_b (shut q) letters) (all→ state_t flats all_states q s.small))
