-- Where neither a sign nor a bracket stands, there are no losses, no isotopes and no adduct. Assumes nothing.
use Prim.Native.Nat.{ℕ}
use mathlib.Core.Path.{◌≡◌, refl, sym, ap, ◌∙◌}
use mathlib.Core.Bool.{Bool, true, false, ◌||◌}
use mathlib.Core.List.{List}
use native.Mathlib.Omega.{arith}
use Rattle.std.specs.Prelude.{Option}
use Rattle.lang.proofs.Tests.{not_t}
use Rattle.rules.specs.Bytes.{bytes}
use Rattle.rules.specs.Texts.{starts_with}
use Rattle.rules.specs.Limits.{max_losses}
use Rattle.counts.specs.declared.Counts.{Counts}
use Rattle.counts.specs.Sums.{no_counts}
use Rattle.faults.specs.declared.Refusal.{Refusal}
use Rattle.read_opening.specs.Heads.{begins_sign}
use Rattle.read_opening.proofs.SpelledOpenings.{no_sign}
use Rattle.read_changes.proofs.ChangeLoop.{begin as no-changes, ends as changes_end}
use Rattle.read_isotopes.proofs.IsotopeLoops.{begin as no-isotopes, counted_all}
use Rattle.read_annotation.specs.Parts.{adduct_of}
use Rattle.read_annotation.specs.Groups.{begins_middle, middle_of}
use Rattle.read_ion.proofs.SpelledYb.{starts_apart}
use Rattle.read_annotation.proofs.Groups.{middle_is}

neither : (a b : Bool) → a || b ≡ false → (a ≡ false) × (b ≡ false)
neither true b e = absurd (not_t {x = true} e tt)
neither false b e = (refl, e)

module _ (end : ℕ) (s : List ℕ) (f : Option Refusal) where
  adduct_none : starts_with (bytes "[") s ≡ false → record { n = 0; units = 0; text = 0; len = 0; fault = f } ≡ adduct_of end s f
  unfolding adduct_of
  adduct_none e = rw (sym (starts_apart 91 (bytes "M") s e))

  pub middle_none : {n : Counts} → begins_middle s ≡ false → n ≡ no_counts → record { counts = n; len = 0; fault = f } ≡ middle_of end s f
  middle_none e pn =
      let n = neither (begins_sign s) (starts_with (bytes "[") s) e in
      let g = no_sign s n.0 in
      let l = changes_end (no-changes {bound = max_losses}) refl g.0 in
      ap (λ (n : Counts). record { counts = n; len = 0; fault = f }) pn
      ∙ middle_is end s f l refl (counted_all end no-isotopes refl g.1) refl (adduct_none n.1) refl refl (omega arith)
