-- The first broken limit in reading order is the one that is kept. Assumes nothing.
use mathlib.Core.Path.{◌≡◌, refl, sym, ap, ◌∙◌}
use mathlib.Core.Bool.{Bool, true, false}
use mathlib.Core.List.{List, [], ◌∷◌}
use Rattle.std.specs.Prelude.{Option, Some, None}
use Rattle.lang.specs.Parts.{Opt, silent, written}
use Rattle.lang.specs.Mark.{Mark}
use Rattle.lang.proofs.FirstBroken.{first_broken, first_here, first_later}
use Rattle.rules.specs.Lines.{Spelling}
use Rattle.rules.specs.Limits.{line_marks}
use Rattle.faults.specs.declared.Refusal.{Refusal}
use Rattle.faults.specs.Refusals.{why_of, refusal, refused_by}
use Rattle.faults.specs.Faults.{join, after}
use Rattle.faults.proofs.Marks.{join_known, join_kept, join_broken}

-- none, or its refusal
abbrev pub told : Opt Mark → Option Refusal
told silent = None
told (written m) = refused_by m.number m.place

after_known : (r : Refusal) (ms : List Mark) → after (Some r) ms ≡ Some r
after_known r [] = refl
after_known r (m ∷ ms) = ap (λ (g : Option Refusal). after g ms) (join_known r m) ∙ after_known r ms

first_told_lem : (m : Mark) (ms : List Mark) → after None ms ≡ told (first_broken ms) → (t : Bool) → m.broken ≡ t
    → after (join None m) ms ≡ told (first_broken (m ∷ ms))
first_told_lem m ms ih true e =
    ap (λ (g : Option Refusal). after g ms) (join_broken m e) ∙ after_known (refusal (why_of m.number) m.place) ms
    ∙ sym (ap told (first_here m ms e))
first_told_lem m ms ih false e = ap (λ (g : Option Refusal). after g ms) (join_kept None m e) ∙ ih ∙ sym (ap told (first_later m ms e))

after_first : (ms : List Mark) → after None ms ≡ told (first_broken ms)
unfolding first_broken
after_first [] = refl
after_first (m ∷ ms) = first_told_lem m ms (after_first ms) m.broken refl

-- those of a line
pub line_first : (s : Spelling) → after None (line_marks s) ≡ told (first_broken (line_marks s))
line_first s = after_first (line_marks s)
