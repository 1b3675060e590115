-- The certificate of the machine of the first edition of lines, computed: each row of its tables leads where the grammar's derivatives do, each class has bytes that
-- the grammar does not tell apart, each state goes on to some line and has a line's end where the tables say so, in the deep states
-- and in no other one bracket of a name is open and nothing else goes on, and no line has two trees. Assumes nothing.
use mathlib.Core.Path.{refl}
use lib.Dec.{T}
use Rattle.lang.proofs.Machine.{all_b, all→}
use Rattle.lang.proofs.Inside.{apart}
use Rattle.lang.proofs.Certify.{Certified, byte_t, state_t, depth_t}
use Rattle.rules.specs.Elements.{symbols}
use Rattle.rules.specs.Texts.{name_brackets}
use Rattle.shape.specs.Tables.{flats, classes, reps, accepts, words}
use Rattle.shape.proofs.Grammar.{symbol_re}
use Rattle.shape.proofs.TableMachine.{machine1, words1}
use Rattle.shape.proofs.FirstRows.{all_rows_lem}

all_bytes_lem : T (all_b (byte_t machine1) 256)
unfolding machine1 classes reps symbol_re symbols
all_bytes_lem = tt

all_states : T (all_b (state_t machine1) flats)
unfolding machine1 words words1 accepts symbol_re symbols
all_states = tt

all_depths : T (all_b (depth_t machine1) flats)
unfolding machine1 words words1 symbol_re symbols
all_depths = tt

-- no byte does two of: to stand for itself, to open a bracket, to close one
all_apart : T (all_b (apart name_brackets) 256)
all_apart = tt

pub certified : Certified machine1
unfolding machine1 words words1
certified =
    record {
      rows_ok = all_rows_lem;
      bytes_ok = all→ (byte_t machine1) 256 all_bytes_lem;
      states_ok = all→ (state_t machine1) flats all_states;
      dead = refl;
      depths_ok = all→ (depth_t machine1) flats all_depths;
      apart_ok = all→ (apart name_brackets) 256 all_apart;
    }
