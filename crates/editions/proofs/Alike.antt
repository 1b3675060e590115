-- Document 02, M-113: a spelling without letters is one of both editions, and no line has another; so both read it the same. Assumes nothing.
use Prim.Native.Nat.{ℕ, ◌+◌}
use mathlib.Core.Path.{◌≡◌, refl, sym, subst}
use mathlib.Core.List.{[], ◌∷◌}
use lib.Dec.{T}
use lib.ListN.{length}
use Rattle.lang.specs.Parts.{silent}
use Rattle.lang.proofs.Deriv.{and_i}
use Rattle.rules.specs.Annotations.{annotation_text}
use Rattle.rules.specs.Lines.{Spelling, line_text, unlettered, all_unlettered, within}
use Rattle.rules.specs.Editions.{LineEdition, first_lines, second_lines}
use Rattle.rules.specs.Answers.{Answer, Reads, long, misshapen, spelled}
use Rattle.rules.proofs.FitAnnotations.{passed}
use Rattle.rules.proofs.OneShape.{misshapen_no_shape}
use Rattle.shape.proofs.OneSpelling.{one_spelling}
use Rattle.editions.specs.Letters.{first_letter, AnswersOthersAlike}

-- where no letter is the first, there is none
none_lettered : (at : ℕ) (s : Spelling) → first_letter at s ≡ silent → T (all_unlettered s)
none_lettered at [] e = tt
none_lettered at (a ∷ more) e =
    let p = passed (unlettered a.ion) (first_letter _ more) _ e in
    and_i (unlettered a.ion) (all_unlettered more) p.0 (none_lettered (at + length (annotation_text a) + 1) more p.1)

-- what one edition answers to a spelling of both, the other answers
carried : {l m : LineEdition} (s : Spelling) → T (within l s) → T (within m s) → {room : ℕ} {a : Answer}
    → Reads l (line_text s) room a → Reads m (line_text s) room a
carried s v w (long h) = long h
carried s v w (misshapen h x) = absurd (misshapen_no_shape x (s, (v, refl)))
carried {m = m} s v w (spelled h u t e r) = spelled h u (subst (λ (z : Spelling). T (within m z)) (one_spelling s u (sym e)) w) e r

pub answers_others_alike : AnswersOthersAlike
answers_others_alike s e room a =
    let w = none_lettered 0 s e in
    (carried {l = first_lines} {m = second_lines} s w tt, carried {l = second_lines} {m = first_lines} s tt w)
