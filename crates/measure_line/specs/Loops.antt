-- A loop as a function: a step taken while a test holds. Assumes nothing.
use Rattle.std.specs.Prelude.{ℕ, zero, suc, Bool, cond}

-- at most n steps
unfoldable pub loop : {A : Type 0} → (A → Bool) → (A → A) → ℕ → A → A
loop test step zero a = a
loop test step (suc n) a = let more = loop test step n (step a) in cond (test a) more a
