-- Document 01, "One table, several spellings": the preferred spelling of a table is one of its spellings. Assumes nothing.
use mathlib.Core.Path.{refl, sym, subst}
use mathlib.Core.List.{[], ◌∷◌}
use lib.Dec.{T}
use Rattle.lang.specs.Parts.{silent, written}
use Rattle.lang.specs.Order.{same, Each, none, next}
use Rattle.lang.proofs.Deriv.{and_0, and_1, and_i}
use Rattle.rules.specs.Ions.{SpelledIon, TableIon, series, internal, immonium, precursor, reference, named, composed, smiles, unknown, ion_map}
use Rattle.rules.specs.Annotations.{TableAnnotation}
use Rattle.rules.specs.Lines.{Spelling, unlettered, all_unlettered, within}
use Rattle.rules.specs.Preferred.{shortened, shortened_cut, shortened_annotation, preferred_spelling, preferred}
use Rattle.rules.specs.Fields.{Table, filled, filled_cut, in_order, SameFields, Says, Spells}
use Rattle.rules.specs.Editions.{Edition, LineEdition, first_lines, second_lines, lines_of}
use Rattle.rules.specs.Answers.{Sound}
use Rattle.rules.proofs.Shortened.{annotation_filled}

-- the losses and adduct items of each annotation stand in preferred order
pub data AllInOrder : Table → Type 0 where
  no_more : AllInOrder []
  one_more : {a : TableAnnotation} {t : Table} → T (in_order a) → AllInOrder t → AllInOrder (a ∷ t)

-- what a spelling means is in order
pub said_in_order : {s : Spelling} {t : Table} → Each Says s t → AllInOrder t
said_in_order none = no_more
said_in_order (next x e) = one_more x.order (said_in_order e)

pub same_self : (a : TableAnnotation) → SameFields a a
same_self a =
    record { marked = refl; analyte = refl; ion = refl; losses = same; isotopes = refl; adduct = same; charge = refl; deviation = refl; confidence = refl }

says_shortened : (a : TableAnnotation) → T (in_order a) → Says (shortened_annotation a) a
says_shortened a h = record { fields = subst (λ (b : TableAnnotation). SameFields b a) (sym (annotation_filled a)) (same_self a); order = h }

pub preferred_says : {t : Table} → AllInOrder t → Each Says (preferred_spelling t) t
preferred_says no_more = none
preferred_says (one_more {a = a} h o) = next (says_shortened a h) (preferred_says o)

-- ---- in an edition of lines

-- what is spelled without letters is preferred without
shortened_unlettered : (x : SpelledIon) → T (unlettered x) → T (unlettered (ion_map shortened shortened_cut (ion_map filled filled_cut x)))
shortened_unlettered (internal silent m n t) w = tt
shortened_unlettered (internal (written c) m n t) w = absurd w
shortened_unlettered (series s n t) w = tt
shortened_unlettered (immonium a m) w = tt
shortened_unlettered precursor w = tt
shortened_unlettered (reference n) w = tt
shortened_unlettered (named t) w = tt
shortened_unlettered (composed f) w = tt
shortened_unlettered (smiles t) w = tt
shortened_unlettered (unknown n) w = tt

pub all_unlettered_lem : {s : Spelling} {t : Table} → Each Says s t → T (all_unlettered s) → T (all_unlettered (preferred_spelling t))
all_unlettered_lem none w = tt
all_unlettered_lem (next {a = a} {b = b} {l = s} {m = t} x e) w =
    and_i (unlettered (shortened_annotation b).ion) (all_unlettered (preferred_spelling t))
    (subst (λ (y : TableIon). T (unlettered (ion_map shortened shortened_cut y))) x.fields.ion (shortened_unlettered a.ion (and_0 (unlettered a.ion) (all_unlettered s) w)))
    (all_unlettered_lem e (and_1 (unlettered a.ion) (all_unlettered s) w))

pub preferred_within : (l : LineEdition) {s : Spelling} {t : Table} → Each Says s t → T (within l s) → T (within l (preferred_spelling t))
preferred_within first_lines e w = all_unlettered_lem e w
preferred_within second_lines e w = tt

pub preferred_spells : {l : LineEdition} (t : Table) → AllInOrder t → T (within l (preferred_spelling t)) → Spells l t (preferred t)
preferred_spells t o w = record { spelling = preferred_spelling t; edition = w; text = refl; says = preferred_says o }

pub sound_preferred : {e : Edition} (t : Table) → Sound e t → Spells (lines_of e) t (preferred t)
sound_preferred {e} t s = preferred_spells t (said_in_order s.says) (preferred_within (lines_of e) s.says s.edition)
