-- The first broken limit, kept while a line is walked. Assumes nothing.
use Rattle.std.specs.Prelude.{ℕ, Bool, cond, List, [], ◌∷◌, Option, Some, None}
use Rattle.lang.specs.Mark.{Mark}
use Rattle.faults.specs.declared.Refusal.{Refusal}
use Rattle.faults.specs.declared.Why.{Why}
use Rattle.faults.specs.Refusals.{number_of, refused_by}

-- a limit by why it is refused
abbrev pub mark : Why → ℕ → Bool → Mark
mark w p b = record { place = p; number = number_of w; broken = b }

-- a limit that is broken counts where none was before it
unfoldable pub join : Option Refusal → Mark → Option Refusal
join (Some r) m = Some r
join None m = cond m.broken (refused_by m.number m.place) None

abbrev pub after : Option Refusal → List Mark → Option Refusal
after f [] = f
after f (m ∷ ms) = after (join f m) ms
