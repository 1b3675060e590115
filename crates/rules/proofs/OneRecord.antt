-- The bytes of records tell the values in their fields, if each value fits its field. Once for all widths. Assumes nothing.
use Prim.Native.Nat.{ℕ, zero, suc, ◌+◌, ◌/◌, ◌%◌, ◌^◌, ◌<◌}
use mathlib.Core.Path.{◌≡◌, refl, sym, ap, ap₂, ◌∙◌}
use mathlib.Core.List.{List, [], ◌∷◌, ◌++◌, map, head-eq_of_cons-eq, tail-eq_of_cons-eq}
use native.Mathlib.Omega.{arith}
use native.Mathlib.Nat.{pow-succ'}
use lib.ListN.{length, length-append}
use Rattle.lang.specs.Parts.{flat}
use Rattle.lang.specs.Mark.{In, here, later}
use Rattle.rules.specs.Stored.{little, Field, stores}
use Rattle.rules.proofs.Cuts.{cut}
use Rattle.rules.proofs.Lengths.{little_length}

pub little_one : (n v w : ℕ) → v < 256 ^ n → w < 256 ^ n → little n v ≡ little n w → v ≡ w
little_one zero v w h g e = omega arith
little_one (suc n) v w h g e =
    let m : v % 256 ≡ w % 256 = head-eq_of_cons-eq e in
    let p = pow-succ' 256 n in
    let d = little_one n (v / 256) (w / 256) (omega arith) (omega arith) (tail-eq_of_cons-eq e) in
    omega arith

-- a record has fields of these widths, and each value fits its field
abbrev pub Fits : List ℕ → List Field → Type 0
Fits [] [] = Unit {0}
Fits [] (f ∷ fs) = ⊥
Fits (w ∷ ws) [] = ⊥
Fits (w ∷ ws) (f ∷ fs) = (f.width ≡ w) × (f.value < 256 ^ w) × Fits ws fs

-- fields of two records one behind the other
pub fits_both : (ws vs : List ℕ) (fs gs : List Field) → Fits ws fs → Fits vs gs → Fits (ws ++ vs) (fs ++ gs)
fits_both [] vs [] gs h g = g
fits_both [] vs (f ∷ fs) gs h g = absurd h
fits_both (w ∷ ws) vs [] gs h g = absurd h
fits_both (w ∷ ws) vs (f ∷ fs) gs h g = (h.0, h.1, fits_both ws vs fs gs h.2 g)

-- the bytes of fields of these widths
abbrev pub size : List ℕ → ℕ
size [] = 0
size (w ∷ ws) = w + size ws

pub fits_length : (ws : List ℕ) (fs : List Field) → Fits ws fs → length (stores fs) ≡ size ws
fits_length [] [] h = refl
fits_length [] (f ∷ fs) h = absurd h
fits_length (w ∷ ws) [] h = absurd h
fits_length (w ∷ ws) (f ∷ fs) h =
    omega (
      arith,
      length-append (little f.width f.value) (stores fs),
      little_length f.width f.value,
      h.0,
      fits_length ws fs h.2,
    )

pub stores_one : (ws : List ℕ) (fs gs : List Field) → Fits ws fs → Fits ws gs → stores fs ≡ stores gs → fs ≡ gs
stores_one [] [] [] h k e = refl
stores_one [] [] (g ∷ gs) h k e = absurd k
stores_one [] (f ∷ fs) gs h k e = absurd h
stores_one (w ∷ ws) [] gs h k e = absurd h
stores_one (w ∷ ws) (f ∷ fs) [] h k e = absurd k
stores_one (w ∷ ws) (f ∷ fs) (g ∷ gs) h k e =
    let wide : f.width ≡ g.width = h.0 ∙ sym k.0 in
    let n = little_length f.width f.value ∙ wide ∙ sym (little_length g.width g.value) in
    let c = cut (little f.width f.value) (little g.width g.value) n e in
    let b = sym (ap (λ (x : ℕ). little x f.value) h.0) ∙ c.0 ∙ ap (λ (x : ℕ). little x g.value) k.0 in
    let v = little_one w f.value g.value h.1 k.1 b in
    ap₂ ◌∷◌ (λ i. record { width = wide i; value = v i }) (stores_one ws fs gs h.2 k.2 c.1)

-- as many records of one kind, one after the other
pub records_one : {A : Type 0} (f : A → List Field) (ws : List ℕ) (xs ys : List A)
    → ((x : A) → In x xs → Fits ws (f x)) → ((y : A) → In y ys → Fits ws (f y))
    → length xs ≡ length ys → flat (λ x. stores (f x)) xs ≡ flat (λ y. stores (f y)) ys → map f xs ≡ map f ys
records_one f ws [] [] h k n e = refl
records_one f ws [] (y ∷ ys) h k n e = absurd (omega arith)
records_one f ws (x ∷ xs) [] h k n e = absurd (omega arith)
records_one f ws (x ∷ xs) (y ∷ ys) h k n e =
    let c = cut (stores (f x)) (stores (f y)) (fits_length ws (f x) (h x here) ∙ sym (fits_length ws (f y) (k y here))) e in
    ap₂ ◌∷◌ (stores_one ws (f x) (f y) (h x here) (k y here) c.0)
    (records_one f ws xs ys (λ z i. h z (later i)) (λ z i. k z (later i)) (omega arith) c.1)
