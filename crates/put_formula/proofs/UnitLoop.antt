-- The loops that put a row of things, each turn the first of what is left. Assumes nothing.
use Prim.Native.Nat.{ℕ, suc, ◌+◌, ◌-◌, ◌<◌, ◌≤◌}
use mathlib.Core.Path.{◌≡◌, sym, ap, ◌∙◌}
use mathlib.Core.List.{List, ◌++◌}
use native.Mathlib.Omega.{arith}
use lib.ListN.{length, drop}
use Rattle.put_bytes.specs.Puts.{max_place, Put}
use Rattle.put_bytes.proofs.Putting.{put_as}
use Rattle.put_bytes.proofs.PutLoop.{PutSoFar, begin, more, ends}
use Rattle.put_formula.specs.Chains.{chain}

module _ (give : List ℕ → List ℕ) (size : List ℕ → ℕ) (n : ℕ) {d : List ℕ} {at : ℕ} where
  pub chain_begins : (s : List ℕ) → length d ≤ max_place → at ≤ max_place → PutSoFar d at (chain give size n s) d at (chain give size (n - 0) s)
  chain_begins s h g = let e : n - 0 ≡ n = omega arith in begin h g (ap (λ (m : ℕ). chain give size m s) e)

  -- x is put of what is left, and y is left behind it
  pub chain_turn : (left : List ℕ) {l e f x y : List ℕ} {p r i : ℕ} → PutSoFar d at l e p (chain give size (n - i) left) → i < n → Put e p x f r
      → x ≡ give left → y ≡ drop (size left) left → PutSoFar d at l f r (chain give size (n - (i + 1)) y)
  unfolding chain
  chain_turn left {i = i} g h a q t =
      let e : n - i ≡ suc (n - (i + 1)) = omega arith in
      more g (put_as a q) (ap (λ (m : ℕ). chain give size m left) e ∙ ap (λ (z : List ℕ). give left ++ chain give size (n - (i + 1)) z) (sym t))

  pub chain_ends : (left : List ℕ) {l e : List ℕ} {p i : ℕ} → PutSoFar d at l e p (chain give size (n - i) left) → n ≤ i → Put d at l e p
  unfolding chain
  chain_ends left {i = i} g h = let e : n - i ≡ 0 = omega arith in ends g (ap (λ (m : ℕ). chain give size m left) e)
