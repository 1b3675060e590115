-- The first broken limit of a list of marks. Assumes nothing.
use mathlib.Core.Path.{◌≡◌, refl}
use mathlib.Core.Bool.{true, false}
use mathlib.Core.List.{List, [], ◌∷◌, ◌++◌}
use Rattle.std.specs.Prelude.{Option, Some, None}
use Rattle.lang.specs.Mark.{Mark}
use Rattle.faults.specs.declared.Refusal.{Refusal}
use Rattle.faults.specs.Refusals.{refused_by}
use Rattle.faults.specs.Faults.{join, after}

-- a refusal that is known stays
pub join_known : (r : Refusal) (m : Mark) → join (Some r) m ≡ Some r
unfolding join
join_known r m = refl

pub join_kept : (f : Option Refusal) (m : Mark) → m.broken ≡ false → join f m ≡ f
unfolding join
join_kept (Some r) m e = refl
join_kept None m e = rw e

pub join_broken : (m : Mark) → m.broken ≡ true → join None m ≡ refused_by m.number m.place
unfolding join
join_broken m e = rw e

pub after_append : (f : Option Refusal) (ms ns : List Mark) → after f (ms ++ ns) ≡ after (after f ms) ns
after_append f [] ns = refl
after_append f (m ∷ ms) ns = after_append (join f m) ms ns
