-- An annotation that is spelled as it is preferred, as can be told at a glance. Assumes nothing.
use Rattle.std.specs.Prelude.{ℕ, Bool, false, not, ◌&&◌, ◌||◌, List, [], ◌∷◌, eqb, leb}
use Rattle.counts.specs.declared.Counts.{Counts}
use Rattle.read_ion.specs.declared.IonRead.{IonRead}

-- a `1` stands in the bytes
unfoldable pub has_one : List ℕ → Bool
has_one [] = false
has_one (b ∷ s) = eqb b 49 || has_one s

-- no formula, one loss and one adduct item at most, no other free spelling, and no `1` in the bytes s of losses, isotopes and adduct
unfoldable pub is_kept : IonRead → Counts → Bool → List ℕ → Bool
is_kept x n free s = eqb x.units 0 && (leb n.losses 1 && (leb n.items 1 && (not free && not (has_one s))))
