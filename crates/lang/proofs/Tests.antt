-- A test's value, and the fact that it passes. Assumes nothing.
use mathlib.Core.Path.{◌≡◌, refl, sym, subst}
use mathlib.Core.Bool.{Bool, true, false, ◌&&◌}
use mathlib.Core.Logic.{◌⊎◌, inl, inr}
use lib.Dec.{T}

pub is_t : {x : Bool} → x ≡ true → T x
is_t e = subst T (sym e) tt

pub not_t : {x : Bool} → x ≡ false → T x → ⊥
not_t e t = subst T e t

pub t_is : (x : Bool) → T x → x ≡ true
t_is true t = refl
t_is false t = absurd t

-- a value kept with its equation
abbrev pub Case : Bool → Type 0
Case x = (x ≡ true) ⊎ (x ≡ false)

pub case : (x : Bool) → Case x
case true = inl refl
case false = inr refl

pub and_true : (x : Bool) → (x && true) ≡ x
and_true true = refl
and_true false = refl
