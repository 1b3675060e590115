-- A table that is sound in the current edition, by a line of another edition's own, is sound in that edition: the first asks for less. Assumes nothing.
use Prim.Native.Nat.{ℕ, ◌+◌}
use mathlib.Core.Path.{◌≡◌, refl}
use mathlib.Core.Bool.{Bool, true, false}
use mathlib.Core.List.{[], ◌∷◌}
use lib.Dec.{T}
use Rattle.lang.specs.Parts.{Opt, silent, written}
use Rattle.lang.proofs.Deriv.{and_0, and_i}
use lib.ListN.{length}
use Rattle.rules.specs.Annotations.{SpelledAnnotation, annotation_text}
use Rattle.rules.specs.Lines.{Spelling, within}
use Rattle.rules.specs.Fields.{Table}
use Rattle.rules.specs.Editions.{Edition, ed1, ed2, lines_of}
use Rattle.rules.specs.House.{common_rules, long_enough, annotation_rules, formed, first_failing}
use Rattle.rules.specs.Answers.{Sound}
use Rattle.rules.proofs.FitAnnotations.{passed}

-- a search that goes on
pub passes : (x : Bool) (more : Opt ℕ) (at : ℕ) → T x → more ≡ silent → ◌≡◌ {A = Opt ℕ} (elim x [ true ↦ more | false ↦ written at ]) silent
passes true more at t e = e
passes false more at t e = absurd t

-- where all pass one test, all pass a weaker one
pub weaker : (f g : SpelledAnnotation → Bool) → ((a : SpelledAnnotation) → T (f a) → T (g a)) → (at : ℕ) (s : Spelling) → first_failing f at s ≡ silent → first_failing g at s ≡ silent
weaker f g h at [] e = refl
weaker f g h at (a ∷ s) e = let p = passed (f a) (first_failing f _ s) at e in passes (g a) (first_failing g _ s) at (h a p.0) (weaker f g h (at + length (annotation_text a) + 1) s p.1)

pub sound_in : (e : Edition) (t : Table) (s : Sound ed2 t) → T (within (lines_of e) s.spelling) → Sound e t
sound_in ed1 t s w =
    record {
      spelling = s.spelling;
      edition = w;
      says = s.says;
      limits = s.limits;
      form = weaker (λ a. formed ed2 a.ion) (λ a. formed ed1 a.ion) (λ a h. tt) 0 s.spelling s.form;
      rules =
          weaker (annotation_rules ed2) (annotation_rules ed1)
          (λ a h. and_i (common_rules a) (long_enough ed1 a.ion) (and_0 (common_rules a) (long_enough ed2 a.ion) h) tt) 0 s.spelling s.rules;
      sum = s.sum;
    }
sound_in ed2 t s w = s
