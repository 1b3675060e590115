-- A stray place is the stray place of every text that agrees up to and including that byte. A text has one at most, and none where it
-- begins a text of the language: what begins the longer begins the shorter. Assumes nothing.
use Prim.Native.Nat.{ℕ, ◌+◌, ◌<◌, ◌≤◌}
use mathlib.Core.Path.{◌≡◌, sym, ap, ◌∙◌, subst}
use mathlib.Core.List.{List, ◌++◌, [], append_assoc, append-nil}
use native.Mathlib.Omega.{arith}
use native.Mathlib.Decide.{dec_le}
use lib.ListN.{length, take, drop, take-append-drop}
use lib.Seq.{take_all, length-take-le, take-take}
use Rattle.lang.specs.Scan.{Begins, Stray}

-- ---- it stays

-- as many bytes as are taken are there
long_enough_lem : (k : ℕ) (l m : List ℕ) → take (k + 1) m ≡ take (k + 1) l → k < length l → k < length m
long_enough_lem k l m e h = by (dec_le (k + 1) (length m))
  where
    by : Dec (k + 1 ≤ length m) → k < length m
    by (yes y) = omega arith
    by (no z) =
        let all : length m ≡ length (take (k + 1) m) = ap length (sym (take_all (k + 1) m (omega arith))) in
        let some = length-take-le (k + 1) l (omega arith) in
        absurd (omega (arith, all, ap length e, some))

-- whatever the texts have behind that byte
pub stray_agrees : (L : List ℕ → Type 0) {l m : List ℕ} {k : ℕ} → take (k + 1) m ≡ take (k + 1) l → Stray L l k → Stray L m k
stray_agrees L {l} {m} {k} e s =
    let less : (w : List ℕ) → take k (take (k + 1) w) ≡ take k w = λ w. take-take k (k + 1) w (omega arith) in
    record {
      inside = long_enough_lem k l m e s.inside;
      begins = subst (Begins L) (sym (less l) ∙ sym (ap (take k) e) ∙ less m) s.begins;
      stops = λ b. s.stops (subst (Begins L) e b);
    }

-- ---- it is one

module _ (L : List ℕ → Type 0) where
  begins_take : (j : ℕ) (l : List ℕ) → Begins L l → Begins L (take j l)
  begins_take j l b =
      (drop j l ++ b.0, subst L (ap (λ (w : List ℕ). w ++ b.0) (sym (take-append-drop j l)) ∙ append_assoc (take j l) (drop j l) b.0) b.1)

  begins_less : (j k : ℕ) (l : List ℕ) → j ≤ k → Begins L (take k l) → Begins L (take j l)
  begins_less j k l h b = subst (Begins L) (take-take j k l h) (begins_take j (take k l) b)

  -- a text of the language begins one
  pub begins_whole : (l : List ℕ) → L l → Begins L l
  begins_whole l x = ([], subst L (sym (append-nil l)) x)

  pub stray_not_begun : {l : List ℕ} {k : ℕ} → Stray L l k → Begins L l → ⊥
  stray_not_begun {l} {k} s b = s.stops (begins_take (k + 1) l b)

  pub stray_one : {l : List ℕ} {j k : ℕ} → Stray L l j → Stray L l k → j ≡ k
  stray_one {l} {j} {k} s r = by (dec_le (j + 1) k) (dec_le (k + 1) j)
    where
      by : Dec (j + 1 ≤ k) → Dec (k + 1 ≤ j) → j ≡ k
      by (yes h) g = absurd (s.stops (begins_less (j + 1) k l h r.begins))
      by (no h) (yes g) = absurd (r.stops (begins_less (k + 1) j l g s.begins))
      by (no h) (no g) = omega arith
