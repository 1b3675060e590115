-- Cursors that go ahead in a table: what is left from them on. Assumes nothing.
use Prim.Native.Nat.{ℕ, ◌+◌, ◌≤◌, min}
use mathlib.Core.Path.{◌≡◌, sym, ap, ◌∙◌, subst}
use mathlib.Core.List.{List}
use native.Mathlib.Omega.{arith}
use lib.ListN.{length, drop, length-drop}
use lib.Seq.{drop-drop}
use Rattle.rules.specs.Limits.{max_units}
use Rattle.slices.proofs.Parts.{drop_min}
use Rattle.print_ion.specs.Texts.{ion_units}

-- n bytes further
pub ahead_drop : (s : List ℕ) (a n : ℕ) {m : ℕ} → m ≡ min (a + n) (length s) → drop m s ≡ drop n (drop a s)
ahead_drop s a n e = ap (λ (m : ℕ). drop m s) e ∙ drop_min s (a + n) ∙ sym (drop-drop n a s)

-- as far as what is left goes
pub ahead_part : (s : List ℕ) (a n : ℕ) (x : List ℕ) {k m : ℕ} → m ≡ min (a + k) (length s) → drop a s ≡ x → k ≡ min n (length x) → drop m s ≡ drop n x
ahead_part s a n x {k} e f g = ahead_drop s a k e ∙ ap (drop k) f ∙ ap (λ (j : ℕ). drop j x) g ∙ drop_min x n

-- n bytes further, and then b more, as far as what is left goes
pub ahead_on : (s : List ℕ) (p n b : ℕ) {a k m : ℕ} → a ≡ min (p + n) (length s) → k ≡ min b (length (drop a s)) → m ≡ min (a + k) (length s)
    → m ≡ min (p + (n + b)) (length s)
ahead_on s p n b {a} e f g = omega (arith, length-drop a s)

pub three_drops : (s : List ℕ) (a b n : ℕ) → drop (a + b + n) s ≡ drop n (drop b (drop a s))
three_drops s a b n = sym (drop-drop n (a + b) s) ∙ ap (drop n) (sym (drop-drop b a s))

-- no more units than the limits allow
pub few_units : (s : List ℕ) → ion_units s ≤ max_units
unfolding ion_units
few_units s = omega arith

-- the same of the same
pub same_of : (Q : ℕ → List ℕ → List ℕ → List ℕ → Type 0) {n m : ℕ} {a b c x y z : List ℕ} → Q n a b c → n ≡ m → a ≡ x → b ≡ y → c ≡ z → Q m x y z
same_of Q {n} {m} {a} {b} {c} {x} {y} {z} q e f g h =
    subst (λ (w : List ℕ). Q m x y w) h (subst (λ (w : List ℕ). Q m x w c) g (subst (λ (w : List ℕ). Q m w b c) f (subst (λ (k : ℕ). Q k a b c) e q)))
