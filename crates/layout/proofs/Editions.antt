-- What is asked of each edition, and which edition a number names. Assumes nothing.
use Prim.Native.Nat.{ℕ}
use mathlib.Core.Path.{◌≡◌, refl}
use borrow.Author.Tests.{eq-eqb, ne_eqb}
use Rattle.rules.specs.Editions.{edition_number}
use Rattle.layout.specs.declared.Edition.{Edition}
use Rattle.layout.specs.declared.Edition.TheVariants.{First, Second}
use Rattle.layout.specs.Editions.{edition_of, named_edition}

pub named_second : (n : ℕ) → n ≡ 2 → Second ≡ named_edition n
named_second n e = simp (eq-eqb n 2 e)

pub named_first : (n : ℕ) → (n ≡ 2 → ⊥) → First ≡ named_edition n
named_first n e = simp (ne_eqb n 2 e)

-- an edition is named by its number
pub named_is : (e : Edition) → named_edition (edition_number (edition_of e)) ≡ e
named_is First = refl
named_is Second = refl
