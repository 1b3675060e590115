-- Which refusal comes first: 4 and 5, then 11, then 6, then 7. Assumes nothing.
use mathlib.Core.Path.{◌≡◌}
use Rattle.std.specs.Prelude.{Some, None}
use Rattle.faults.specs.declared.Refusal.{Refusal}
use Rattle.measure_line.specs.declared.Totals.{Totals}
use Rattle.measure_line.specs.Refusals.{first_of}

module _ (t : Totals) where
  pub first_limit : {r : Refusal} → t.limit ≡ Some r → first_of t ≡ Some r
  unfolding first_of
  first_limit h = rw h

  -- no limit is broken
  module _ (e : t.limit ≡ None) where
    pub first_form : {r : Refusal} → t.form ≡ Some r → first_of t ≡ Some r
    unfolding first_of
    first_form h = rw (e, h)

    -- no sequence is outside the form
    module _ (f : t.form ≡ None) where
      pub first_breach_lem : {r : Refusal} → t.breach ≡ Some r → first_of t ≡ Some r
      unfolding first_of
      first_breach_lem h = rw (e, f, h)

      pub first_excess_lem : t.breach ≡ None → first_of t ≡ t.excess
      unfolding first_of
      first_excess_lem h = rw (e, f, h)
