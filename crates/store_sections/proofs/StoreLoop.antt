-- The loops that store one thing after the other: what is left to store makes the whole. Assumes nothing.
use Prim.Native.Nat.{ℕ, ◌≤◌}
use mathlib.Core.Path.{◌≡◌, refl, sym, ◌∙◌}
use mathlib.Core.List.{List, [], ◌++◌}
use native.Mathlib.Omega.{arith}
use lib.ListN.{length}
use Rattle.put_bytes.specs.Puts.{max_place}
use Rattle.store_sections.specs.declared.Cursors.{Cursors}
use Rattle.store_sections.specs.Pages.{Event, Ran}
use Rattle.store_sections.proofs.Events.{ran_none, ran_then, ran_as, ran_length}

-- from d and c, the events es are stored by whoever goes on from e and k and stores fs
pub record StoredSoFar (d : List ℕ) (c : Cursors) (es : List Event) (e : List ℕ) (k : Cursors) (fs : List Event) : Type 0 where
  pub small : length d ≤ max_place
  pub same : length e ≡ length d
  pub on : (f : List ℕ) (c' : Cursors) → Ran e k fs f c' → Ran d c es f c'

module _ {d : List ℕ} {c : Cursors} {es : List Event} where
  pub begin : {fs : List Event} → length d ≤ max_place → fs ≡ es → StoredSoFar d c es d c fs
  begin h q = record { small = h; same = refl; on = λ f c' a. ran_as a q }

  -- the first of what is left
  pub more : {e f : List ℕ} {k l : Cursors} {fs gs hs : List Event} → StoredSoFar d c es e k fs → Ran e k gs f l → fs ≡ gs ++ hs → StoredSoFar d c es f l hs
  more g a q = record { small = g.small; same = ran_length a ∙ g.same; on = λ h m z. g.on h m (ran_as (ran_then a z) (sym q)) }

  pub ends : {e : List ℕ} {k : Cursors} {fs : List Event} → StoredSoFar d c es e k fs → fs ≡ [] → Ran d c es e k
  ends {e} {k} g q = g.on e k (ran_as (ran_none (omega (arith, g.small, g.same))) (sym q))
