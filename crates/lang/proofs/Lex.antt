-- Lists of numbers compared number by number: any two can be compared, and two that each come before the other are the same.
-- Assumes nothing.
use Prim.Native.Nat.{ℕ, ◌<◌, ◌≤◌}
use mathlib.Core.Path.{◌≡◌, refl, sym, ap₂, ◌∙◌, subst}
use mathlib.Core.Bool.{true, false}
use mathlib.Core.List.{List, [], ◌∷◌}
use mathlib.Core.Logic.{◌⊎◌, inl, inr}
use native.Mathlib.Omega.{arith}
use native.Mathlib.Decide.{dec_le}
use borrow.Author.Tests.{lt-ltb, le-ltb, eq-eqb, ne_eqb}
use lib.Dec.{T}
use Rattle.lang.specs.Order.{lex_le}
use Rattle.lang.proofs.Tests.{is_t, not_t}
use Rattle.lang.proofs.Sort.{Order}

-- how two numbers compare
data Cmp (a b : ℕ) : Type 0 where
  less : a < b → Cmp a b
  equal : a ≡ b → Cmp a b
  more : b < a → Cmp a b

cmp : (a b : ℕ) → Cmp a b
cmp a b = by (dec_le a b) (dec_le b a)
  where
    by : Dec (a ≤ b) → Dec (b ≤ a) → Cmp a b
    by (yes h) (yes g) = equal (omega arith)
    by (yes h) (no g) = less (omega arith)
    by (no h) g = more (omega arith)

-- what the first numbers of two lists decide
module _ (a b : ℕ) (s t : List ℕ) where
  lex_less : a < b → lex_le (a ∷ s) (b ∷ t) ≡ true
  lex_less h = rw (lt-ltb a b h)

  lex_more : b < a → lex_le (a ∷ s) (b ∷ t) ≡ false
  lex_more h = let g : b ≤ a = omega arith in rw (le-ltb a b g, ne_eqb a b (λ e. omega arith))

  lex_equal : a ≡ b → lex_le (a ∷ s) (b ∷ t) ≡ lex_le s t
  lex_equal e = let g : b ≤ a = omega arith in rw (le-ltb a b g, eq-eqb a b e)

pub lex_total : (s t : List ℕ) → T (lex_le s t) ⊎ T (lex_le t s)
lex_total [] t = inl tt
lex_total (a ∷ s) [] = inr tt
lex_total (a ∷ s) (b ∷ t) = by (cmp a b) (lex_total s t)
  where
    by : Cmp a b → T (lex_le s t) ⊎ T (lex_le t s) → T (lex_le (a ∷ s) (b ∷ t)) ⊎ T (lex_le (b ∷ t) (a ∷ s))
    by (less h) ih = inl (is_t (lex_less a b s t h))
    by (more h) ih = inr (is_t (lex_less b a t s h))
    by (equal e) (inl ih) = inl (subst T (sym (lex_equal a b s t e)) ih)
    by (equal e) (inr ih) = inr (subst T (sym (lex_equal b a t s (sym e))) ih)

pub lex_trans : (s t u : List ℕ) → T (lex_le s t) → T (lex_le t u) → T (lex_le s u)
lex_trans [] t u h g = tt
lex_trans (a ∷ s) [] u h g = absurd h
lex_trans (a ∷ s) (b ∷ t) [] h g = absurd g
lex_trans (a ∷ s) (b ∷ t) (c ∷ u) h g = by (cmp a b) (cmp b c) (lex_trans s t u)
  where
    by : Cmp a b → Cmp b c → (T (lex_le s t) → T (lex_le t u) → T (lex_le s u)) → T (lex_le (a ∷ s) (c ∷ u))
    by (more k) q ih = absurd (not_t (lex_more a b s t k) h)
    by (less k) (more j) ih = absurd (not_t (lex_more b c t u j) g)
    by (less k) (less j) ih = is_t (lex_less a c s u (omega arith))
    by (less k) (equal j) ih = is_t (lex_less a c s u (omega arith))
    by (equal k) (more j) ih = absurd (not_t (lex_more b c t u j) g)
    by (equal k) (less j) ih = is_t (lex_less a c s u (omega arith))
    by (equal k) (equal j) ih = subst T (sym (lex_equal a c s u (k ∙ j))) (ih (subst T (lex_equal a b s t k) h) (subst T (lex_equal b c t u j) g))

pub lex_anti : (s t : List ℕ) → T (lex_le s t) → T (lex_le t s) → s ≡ t
lex_anti [] [] h g = refl
lex_anti [] (b ∷ t) h g = absurd g
lex_anti (a ∷ s) [] h g = absurd h
lex_anti (a ∷ s) (b ∷ t) h g = by (cmp a b) (lex_anti s t)
  where
    by : Cmp a b → (T (lex_le s t) → T (lex_le t s) → s ≡ t) → a ∷ s ≡ b ∷ t
    by (less k) ih = absurd (not_t (lex_more b a t s k) g)
    by (more k) ih = absurd (not_t (lex_more a b s t k) h)
    by (equal e) ih = ap₂ ◌∷◌ e (ih (subst T (lex_equal a b s t e) h) (subst T (lex_equal b a t s (sym e)) g))

-- things compared by their keys
pub by_key_lem : {A : Type 0} (key : A → List ℕ) → Order (λ x y. lex_le (key x) (key y))
by_key_lem key = record { total = λ x y. lex_total (key x) (key y); trans = λ x y z. lex_trans (key x) (key y) (key z) }
