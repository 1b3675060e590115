-- Where a name ends, and which bytes are one. Brackets pair up where a byte goes on and they do so behind it (`paired_on`); the rest follows
-- byte by byte, with how many brackets are open. Assumes nothing.
use Prim.Native.Nat.{ℕ, zero, suc, ◌+◌, ◌-◌, ◌≤◌, ◌<◌}
use mathlib.Core.Path.{◌≡◌, refl, sym, ap, ◌∙◌, subst}
use mathlib.Core.Bool.{Bool, true, false, cond, not, ◌&&◌, ◌||◌, and-false, or-false}
use mathlib.Core.List.{List, [], ◌∷◌, ◌++◌}
use native.Mathlib.Numerals.{add-one}
use native.Mathlib.Omega.{arith}
use lib.Dec.{T, ltb, eqb}
use lib.ListN.{length}
use borrow.Author.Tests.{eq-eqb, ne_eqb, lt-ltb}
use Rattle.lang.specs.Re.{in_c, one_fewer, paired}
use Rattle.lang.proofs.Deriv.{and_0, and_1, and_i}
use Rattle.lang.proofs.Inside.{apart}
use Rattle.lang.proofs.Names.{cover}
use Rattle.lang.proofs.Tests.{t_is}
use Rattle.rules.specs.Bytes.{letter}
use Rattle.rules.specs.Texts.{first_in, name_brackets, is_name, is_loss_name}
use Rattle.texts.specs.declared.NameEnd.{NameEnd}
use Rattle.texts.specs.Names.{goes_on, open_behind, name_from, name_end_of, name_length}

-- ---- one byte

not_both : (x y : Bool) → (T x → T (not y)) → T (not (x && y))
not_both true y h = h tt
not_both false y h = tt

-- no byte does two of the three: stand for itself, open a bracket, close one
kept_apart : (b : ℕ) → T (apart name_brackets b)
kept_apart b =
    let x = in_c name_brackets.plain b in
    let y = in_c name_brackets.opens b in
    let z = in_c name_brackets.closes b in
    and_i (not (x && (y || z))) (not (y && z))
    (not_both x (y || z) (cover name_brackets.plain (λ b. not (in_c name_brackets.opens b || in_c name_brackets.closes b)) tt tt b))
    (not_both y z (cover name_brackets.opens (λ b. not (in_c name_brackets.closes b)) tt tt b))

-- of three tests at most one passes: they ask for one that does, and for what it asks behind it
by_byte : (x y z : Bool) → T (not (x && (y || z)) && not (y && z)) → (f : ℕ → Bool) (d : ℕ)
    → ((x && f d) || ((y && f (suc d)) || (z && one_fewer f d))) ≡ ((x || (y || (ltb 0 d && z))) && f (cond y (d + 1) (cond z (d - 1) d)))
by_byte true true z a f d = absurd a
by_byte true false true a f d = absurd a
by_byte true false false a f d = or-false (f d)
by_byte false true true a f d = absurd a
by_byte false true false a f d = or-false (f (suc d)) ∙ ap f (sym (add-one d))
by_byte false false true a f zero = refl
by_byte false false true a f (suc d) = rw (lt-ltb 0 (suc d) (omega arith)) (ap f (omega arith))
by_byte false false false a f d = rw (and-false (ltb 0 d))

paired_on : (b : ℕ) (w : List ℕ) (d : ℕ) → paired name_brackets (b ∷ w) d ≡ (goes_on name_brackets d b && paired name_brackets w (open_behind name_brackets d b))
paired_on b w d = by_byte (in_c name_brackets.plain b) (in_c name_brackets.opens b) (in_c name_brackets.closes b) (kept_apart b) (paired name_brackets w) d

-- ---- where a name ends

-- at the first `]` that closes no bracket of its own
name_read : (w k : List ℕ) (at d : ℕ) → T (paired name_brackets w d) → name_from (w ++ (93 ∷ k)) at d ≡ record { len = at + length w; depth = 0 }
unfolding name_from
name_read [] k at zero h = ap (λ (n : ℕ). record { len = n; depth = 0 }) (omega arith)
name_read [] k at (suc d) h = absurd h
name_read (b ∷ w) k at d h =
    let g = goes_on name_brackets d b in
    let e = open_behind name_brackets d b in
    let t = subst T (paired_on b w d) h in
    rw (t_is g (and_0 g (paired name_brackets w e) t))
    (name_read w k (at + 1) e (and_1 g (paired name_brackets w e) t) ∙ ap (λ (n : ℕ). record { len = n; depth = 0 }) (omega arith))

pub name_ends : (w k : List ℕ) → T (is_name w) → name_length (w ++ (93 ∷ k)) ≡ length w
name_ends [] k h = absurd h
name_ends (b ∷ w) k h = ap (λ (e : NameEnd). e.len) (name_read (b ∷ w) k 0 0 h) ∙ omega arith

from_within : (s : List ℕ) (at d : ℕ) → (name_from s at d).len ≤ at + length s
unfolding name_from
from_within [] at d = omega arith
from_within (b ∷ s) at d =
    let e = open_behind name_brackets d b in
    by (name_from s (at + 1) e) (from_within s (at + 1) e) (goes_on name_brackets d b)
  where
    by : (e : NameEnd) → e.len ≤ at + 1 + length s → (x : Bool) → (cond x e (record { len = at; depth = d })).len ≤ at + suc (length s)
    by e h true = omega arith
    by e h false = omega arith

pub name_length_within : (s : List ℕ) → name_length s ≤ length s
name_length_within s = omega (arith, from_within s 0 0)

-- ---- which bytes are a name

-- a name has all of n bytes, and no bracket is open behind them
abbrev closed_at : NameEnd → ℕ → Bool
closed_at e n = eqb e.len n && eqb e.depth 0

closed_paired : (w : List ℕ) (at d : ℕ) → closed_at (name_from w at d) (at + length w) ≡ paired name_brackets w d
unfolding name_from
closed_paired [] at zero = rw (eq-eqb at (at + 0) (omega arith))
closed_paired [] at (suc d) = rw (ne_eqb (suc d) 0 (λ q. omega arith)) (and-false (eqb at (at + 0)))
closed_paired (b ∷ w) at d =
    let e = open_behind name_brackets d b in
    by (name_from w (at + 1) e) (closed_paired w (at + 1) e) (goes_on name_brackets d b) ∙ sym (paired_on b w d)
  where
    by : (e : NameEnd) {p : Bool} → closed_at e (at + 1 + length w) ≡ p → (x : Bool) → closed_at (cond x e (record { len = at; depth = d })) (at + suc (length w)) ≡ (x && p)
    by e h true = ap (closed_at e) (omega arith) ∙ h
    by e h false = rw (ne_eqb at (at + suc (length w)) (λ q. omega arith))

pub no_name : (s : List ℕ) → length s < 1 → is_name s ≡ false
no_name [] h = refl
no_name (b ∷ s) h = absurd (omega arith)

pub name_closed : (s : List ℕ) → 1 ≤ length s → is_name s ≡ (eqb (name_end_of s).len (length s) && eqb (name_end_of s).depth 0)
name_closed [] h = absurd (omega arith)
name_closed (b ∷ w) h = sym (ap (closed_at (name_end_of (b ∷ w))) (omega arith) ∙ closed_paired (b ∷ w) 0 0)

-- the name of a loss is a name
pub loss_is_name : (w : List ℕ) → T (is_loss_name w) → T (is_name w)
loss_is_name w h = and_0 (is_name w) (first_in letter w) h
