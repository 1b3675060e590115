-- The editions of the code are those of the definitions. Assumes nothing.
use Rattle.std.specs.Prelude.{ℕ, cond, eqb}
use Rattle.rules.specs.Editions as rules
use Rattle.rules.specs.Editions.{ed1, ed2}
use Rattle.layout.specs.declared.Edition.{Edition}
use Rattle.layout.specs.declared.Edition.TheVariants.{First, Second}

abbrev pub edition_of : Edition → rules.Edition
edition_of First = ed1
edition_of Second = ed2

-- the edition that a header names, by its number; the first where it names none
abbrev pub named_edition : ℕ → Edition
named_edition n = cond (eqb n 2) Second First
