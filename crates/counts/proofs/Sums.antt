-- Laws on sums of counts: each is proved of one number, and holds of every kind. Assumes nothing.
use Prim.Native.Nat.{ℕ, ◌≤◌}
use mathlib.Core.Path.{◌≡◌}
use native.Mathlib.Omega.{arith}
use Rattle.put_bytes.specs.Puts.{max_place}
use Rattle.counts.specs.declared.Counts.{Counts}
use Rattle.counts.specs.Sums.{sum, no_counts, plus}

-- ---- of one number, for each kind

-- each kind by itself, from three counts
abbrev kinds : (ℕ → ℕ → ℕ → ℕ) → Counts → Counts → Counts → Counts
kinds f a b c =
    record {
      annotations = f a.annotations b.annotations c.annotations;
      losses = f a.losses b.losses c.losses;
      isotopes = f a.isotopes b.isotopes c.isotopes;
      items = f a.items b.items c.items;
      units = f a.units b.units c.units;
      text = f a.text b.text c.text;
    }

each : (f g : ℕ → ℕ → ℕ → ℕ) → ((x y z : ℕ) → f x y z ≡ g x y z) → (a b c : Counts) → kinds f a b c ≡ kinds g a b c
each f g h a b c =
    λ i. record {
      annotations = h a.annotations b.annotations c.annotations i;
      losses = h a.losses b.losses c.losses i;
      isotopes = h a.isotopes b.isotopes c.isotopes i;
      items = h a.items b.items c.items i;
      units = h a.units b.units c.units i;
      text = h a.text b.text c.text i;
    }

-- ---- sums

pub plus_assoc : (a b c : Counts) → plus (plus a b) c ≡ plus a (plus b c)
plus_assoc = each (λ x y z. sum (sum x y) z) (λ x y z. sum x (sum y z)) (λ x y z. omega arith)

-- a sum that was taken fits: with nothing it stays as it is
pub none_plus : (a b : Counts) → plus no_counts (plus a b) ≡ plus a b
none_plus a b = each (λ x y z. sum 0 (sum x y)) (λ x y z. sum x y) (λ x y z. omega arith) a b a

pub plus_none : (a b : Counts) → plus (plus a b) no_counts ≡ plus a b
plus_none a b = each (λ x y z. sum (sum x y) 0) (λ x y z. sum x y) (λ x y z. omega arith) a b a

-- whether a part was capped before does not matter
pub plus_capped : (a b : Counts) → plus a (plus no_counts b) ≡ plus a b
plus_capped a b = each (λ x y z. sum x (sum 0 y)) (λ x y z. sum x y) (λ x y z. omega arith) a b a

-- ---- where no kind is more than a usize holds, a sum is exact

pub record Fits (a : Counts) : Type 0 where
  pub annotations : a.annotations ≤ max_place
  pub losses : a.losses ≤ max_place
  pub isotopes : a.isotopes ≤ max_place
  pub items : a.items ≤ max_place
  pub units : a.units ≤ max_place
  pub text : a.text ≤ max_place

pub fits_exact : {a : Counts} → Fits a → plus no_counts a ≡ a
fits_exact {a} h =
    λ i. record {
      annotations = fits a.annotations h.annotations i;
      losses = fits a.losses h.losses i;
      isotopes = fits a.isotopes h.isotopes i;
      items = fits a.items h.items i;
      units = fits a.units h.units i;
      text = fits a.text h.text i;
    }
  where
    fits : (n : ℕ) → n ≤ max_place → sum 0 n ≡ n
    fits n h = omega arith
