-- `sort_slots::texts_before` meets its contract: the ranks are compared, and equal texts are told by what follows. Assumes nothing.
use mathlib.Core.List.{map}
use mathlib.Core.Path.{◌≡◌, refl, sym, ◌∙◌}
use Rattle.std.specs.Cmp.Lexicographic.{slice_cmp}
use Rattle.std.specs.Ordering.{nat_cmp}
use Rattle.std.proofs.Common.{rules, tests}
use Rattle.std.proofs.lemmas.Iterator.{YieldsList-from_slice, YieldsList-from_map}
use Rattle.std.proofs.lemmas.Iterator.Consumers.{YieldsList-at}
use Rattle.std.proofs.lemmas.Iterator.Search.{cmp_from_yields_List}
use Rattle.rules.specs.Preferred.{rank}
use Rattle.sort_slots.proofs.Compare.{texts_told}
use Rattle.sort_slots.proofs.texts_before.Goals.{After-cmp}
use Rattle.sort_slots.proofs.texts_before.Goals as goal

compared : (c : After-cmp) → c.cmp.result ≡ slice_cmp nat_cmp (map rank c.args.a.now) (map rank c.args.b.now)
compared c =
    cmp_from_yields_List (λ x y. y ≡ x) _ nat_cmp c.cmp.result c.cmp.ensures.ran
    (YieldsList-from_map _ rank (YieldsList-at c.map-ranks.ensures.source (YieldsList-from_slice c.args.a.now cc)) c.map-ranks.ensures.closure (λ b r q k. search (rules, tests)))
    (λ it e. YieldsList-at e (YieldsList-from_map _ rank (YieldsList-at c.map.ensures.source (YieldsList-from_slice c.args.b.now cc)) c.map.ensures.closure (λ b r q k. search (rules, tests))))
    (λ p q. refl)

pub returns-in-Less : goal.returns-in-Less
returns-in-Less c = texts_told _ _ (sym c.in-Less.is ∙ compared (goal.at.returns-in-Less c).After-cmp) refl

pub returns-in-Equal : goal.returns-in-Equal
returns-in-Equal c = texts_told _ _ (sym c.in-Equal.is ∙ compared (goal.at.returns-in-Equal c).After-cmp) refl

pub returns-in-Greater : goal.returns-in-Greater
returns-in-Greater c = texts_told _ _ (sym c.in-Greater.is ∙ compared (goal.at.returns-in-Greater c).After-cmp) refl
