-- The cases over the letters of a symbol: what each arm knows of its bytes, and the number that it gives. Assumes nothing.
use Prim.Native.Nat.{ℕ, ◌≤◌, ◌<◌}
use Prim.Native.Char.{Char, code}
use Prim.Native.String.{String}
use mathlib.Core.Path.{◌≡◌, sym, ap₂}
use mathlib.Core.Bool.{Bool, true, false, cond, ◌&&◌, ◌||◌}
use mathlib.Core.Logic.{◌⊎◌}
use mathlib.Core.List.{List, [], ◌∷◌}
use native.Mathlib.Decide.{ℕ_discrete}
use native.Mathlib.Omega.{arith}
use lib.Dec.{T, eqb, leb, eqb→eq, leb→le}
use lib.ListN.{get_or}
use borrow.Author.Tests.{eq-eqb}
use Rattle.lang.specs.Re.{either}
use Rattle.lang.proofs.Deriv.{and_0, and_1, or_e}
use Rattle.lang.proofs.Machine.{all_b, all→}
use Rattle.rules.specs.Bytes.{bytes}
use Rattle.rules.specs.Elements.{symbols}
use Rattle.elements.specs.Numbers.{atomic_of, spelled}
use Rattle.elements.proofs.SymbolsAgree.{which_below, atomic_which, spelled_word, no_small}

-- ---- the arm of a symbol

pub hit : (s : String) {a b : ℕ} → a ≡ (spelled (bytes s)).first → b ≡ (spelled (bytes s)).second
    → atomic_of (spelled (bytes s)).first (spelled (bytes s)).second ≡ atomic_of a b
hit s p q = ap₂ atomic_of (sym p) (sym q)

-- ---- an arm behind others, of a default or of ranges

-- P, and x is none of the keys ks: the last key outermost
abbrev pub Besides : Type 0 → List ℕ → ℕ → Type 0
Besides P [] x = P
Besides P (k ∷ ks) x = Besides (P × (x ≡ k → ⊥)) ks x

-- what such an arm knows: x is none of the keys of the arms before it
abbrev pub NoneOf : List ℕ → ℕ → Type 0
NoneOf ks x = Besides (Unit {0}) ks x

abbrev pub among : List ℕ → ℕ → Bool
among [] x = false
among (k ∷ ks) x = eqb x k || among ks x

besides : (P : Type 0) (ks : List ℕ) (x : ℕ) → Besides P ks x → P × (T (among ks x) → ⊥)
besides P [] x h = (h, λ t. t)
besides P (k ∷ ks) x h =
    let r = besides (P × (x ≡ k → ⊥)) ks x h in
    (r.0.0, λ t. either (λ e. r.0.1 (eqb→eq x k e)) r.1 (or_e (eqb x k) (among ks x) t))

none_of : (ks : List ℕ) (x : ℕ) → NoneOf ks x → T (among ks x) → ⊥
none_of ks x h = (besides (Unit {0}) ks x h).1

-- a test of the two letters of a symbol, and of those of each symbol
abbrev pub passes : (ℕ → ℕ → Bool) → ℕ → Bool
passes ok w = ok (spelled (get_or symbols w [])).first (spelled (get_or symbols w [])).second

abbrev pub every_symbol : (ℕ → ℕ → Bool) → Bool
every_symbol ok = all_b (passes ok) 118

-- letters that fail a test which every symbol passes are no symbol
fails : (ok : ℕ → ℕ → Bool) → T (every_symbol ok) → (a b : ℕ) → (T (ok a b) → ⊥) → 0 ≡ atomic_of a b
fails ok t a b h = by (ℕ_discrete (atomic_of a b) 0)
  where
    by : Dec (atomic_of a b ≡ 0) → 0 ≡ atomic_of a b
    by (yes e) = sym e
    by (no n) =
        let k = atomic_which a b n in
        let u = all→ (passes ok) 118 t k.which.which (which_below k.which) in
        absurd (h (rw (k.letters, spelled_word a b) at u))

-- with f first: one of ks is second
abbrev pub follows : ℕ → List ℕ → ℕ → ℕ → Bool
follows f ks a b = cond (eqb a f) (among ks b) true

pub miss : (f : Char) (ks : List ℕ) → T (every_symbol (follows (code f) ks)) → (a b : ℕ) → a ≡ code f → NoneOf ks b → 0 ≡ atomic_of a b
miss f ks t a b p h = fails (follows (code f) ks) t a b (λ u. none_of ks b h (rw (eq-eqb a (code f) p) at u))

pub miss_first : (fs : List ℕ) → T (every_symbol (λ a b. among fs a)) → (a b : ℕ) → NoneOf fs a → 0 ≡ atomic_of a b
miss_first fs t a b h = fails (λ a b. among fs a) t a b (none_of fs a h)

-- ---- an arm of ranges alone

-- a range from lo to below hi that has neither 0 nor a small letter in it: no such byte stands second
pub outside : (lo hi : ℕ) → T (leb 1 lo && (leb hi 97 || leb 123 lo)) → (a b : ℕ) → lo ≤ b → b < hi → 0 ≡ atomic_of a b
outside lo hi t a b h g = sym (no_small a b (λ e. omega (arith, low)) (λ k l. either (λ u. omega (arith, leb→le hi 97 u)) (λ u. omega (arith, leb→le 123 lo u)) beside))
  where
    low : 1 ≤ lo
    low = leb→le 1 lo (and_0 (leb 1 lo) (leb hi 97 || leb 123 lo) t)

    beside : T (leb hi 97) ⊎ T (leb 123 lo)
    beside = or_e (leb hi 97) (leb 123 lo) (and_1 (leb 1 lo) (leb hi 97 || leb 123 lo) t)
