-- `print_ion::print_ion` meets its contract: each of the nine kinds by its arm, and nothing for any other. Assumes nothing.
use Rattle.print_ion.proofs.TextParts.{kind_is, kind_none}
use Rattle.print_ion.specs.Ions.{kind_printed}
use lib.ListN.{take}
use Prim.Native.Nat.{ℕ}
use mathlib.Core.Path.{ap, ◌∙◌}
use native.Mathlib.Omega.{arith}
use Rattle.put_bytes.proofs.Putting.{put_none, put_as}
use Rattle.print_ion.proofs.print_ion.Goals as goal

pub returns-in-1 : goal.returns-in-1
unfolding kind_printed
returns-in-1 c = put_as c.print_series.ensures (kind_is _ _ _ c.byte_of.ensures (c.first_of-w.ensures ∙ ap (λ (n : ℕ). take n c.args.t.now) c.ion_bytes.ensures) 1 c.in-1.is)

pub returns-in-2 : goal.returns-in-2
unfolding kind_printed
returns-in-2 c = put_as c.print_internal.ensures (kind_is _ _ _ c.byte_of.ensures (c.first_of-w.ensures ∙ ap (λ (n : ℕ). take n c.args.t.now) c.ion_bytes.ensures) 2 c.in-2.is)

pub returns-in-3 : goal.returns-in-3
unfolding kind_printed
returns-in-3 c = put_as c.print_immonium.ensures (kind_is _ _ _ c.byte_of.ensures (c.first_of-w.ensures ∙ ap (λ (n : ℕ). take n c.args.t.now) c.ion_bytes.ensures) 3 c.in-3.is)

pub returns-in-4 : goal.returns-in-4
unfolding kind_printed
returns-in-4 c = put_as c.put8.ensures (kind_is _ _ _ c.byte_of.ensures (c.first_of-w.ensures ∙ ap (λ (n : ℕ). take n c.args.t.now) c.ion_bytes.ensures) 4 c.in-4.is)

pub returns-in-5 : goal.returns-in-5
unfolding kind_printed
returns-in-5 c = put_as c.print_reference.ensures (kind_is _ _ _ c.byte_of.ensures (c.first_of-w.ensures ∙ ap (λ (n : ℕ). take n c.args.t.now) c.ion_bytes.ensures) 5 c.in-5.is)

pub returns-in-6 : goal.returns-in-6
unfolding kind_printed
returns-in-6 c = put_as c.print_braced.ensures (kind_is _ _ _ c.byte_of.ensures (c.first_of-w.ensures ∙ ap (λ (n : ℕ). take n c.args.t.now) c.ion_bytes.ensures) 6 c.in-6.is)

pub returns-in-7 : goal.returns-in-7
unfolding kind_printed
returns-in-7 c = put_as c.print_composed.ensures (kind_is _ _ _ c.byte_of.ensures (c.first_of-w.ensures ∙ ap (λ (n : ℕ). take n c.args.t.now) c.ion_bytes.ensures) 7 c.in-7.is)

pub returns-in-8 : goal.returns-in-8
unfolding kind_printed
returns-in-8 c = put_as c.print_braced-in-8.ensures (kind_is _ _ _ c.byte_of.ensures (c.first_of-w.ensures ∙ ap (λ (n : ℕ). take n c.args.t.now) c.ion_bytes.ensures) 8 c.in-8.is)

pub returns-in-9 : goal.returns-in-9
unfolding kind_printed
returns-in-9 c = put_as c.print_unknown.ensures (kind_is _ _ _ c.byte_of.ensures (c.first_of-w.ensures ∙ ap (λ (n : ℕ). take n c.args.t.now) c.ion_bytes.ensures) 9 c.in-9.is)

pub returns-in_default : goal.returns-in_default
returns-in_default c =
    put_as (put_none (omega arith) (omega arith)) (kind_none _ _ _ c.byte_of.ensures
    (c.first_of-w.ensures ∙ ap (λ (n : ℕ). take n c.args.t.now) c.ion_bytes.ensures) (λ a b. omega (arith, a, b)))
