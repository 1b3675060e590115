-- Equal lists that are cut at one place have equal parts. Assumes nothing.
use mathlib.Core.Path.{◌≡◌, refl, sym, ap₂, ◌∙◌}
use mathlib.Core.List.{List, [], ◌∷◌, ◌++◌, map, map-append, head-eq_of_cons-eq, tail-eq_of_cons-eq, nil≢cons, cons≢nil}
use native.Mathlib.Omega.{arith}
use lib.ListN.{length, length-map}

pub cut : {A : Type 0} (xs ys : List A) {us vs : List A} → length xs ≡ length ys → xs ++ us ≡ ys ++ vs → (xs ≡ ys) × (us ≡ vs)
cut [] [] n e = (refl, e)
cut [] (y ∷ ys) n e = absurd (omega arith)
cut (x ∷ xs) [] n e = absurd (omega arith)
cut (x ∷ xs) (y ∷ ys) n e =
    let r = cut xs ys (omega arith) (tail-eq_of_cons-eq e) in
    (ap₂ ◌∷◌ (head-eq_of_cons-eq e) r.0, r.1)

-- the same of what a function makes of each member
pub cut_map : {A B : Type 0} (f : A → B) (xs us ys vs : List A) → length xs ≡ length ys → map f (xs ++ us) ≡ map f (ys ++ vs)
    → (map f xs ≡ map f ys) × (map f us ≡ map f vs)
cut_map f xs us ys vs n e =
    cut (map f xs) (map f ys) (omega (arith, length-map xs f, length-map ys f)) (sym (map-append f xs us) ∙ e ∙ map-append f ys vs)

-- what a function that tells its arguments apart makes of each member tells the list
pub map_one : {A B : Type 0} (f : A → B) → ((x y : A) → f x ≡ f y → x ≡ y) → (xs ys : List A) → map f xs ≡ map f ys → xs ≡ ys
map_one f one [] [] e = refl
map_one f one [] (y ∷ ys) e = absurd (nil≢cons e)
map_one f one (x ∷ xs) [] e = absurd (cons≢nil e)
map_one f one (x ∷ xs) (y ∷ ys) e = ap₂ ◌∷◌ (one x y (head-eq_of_cons-eq e)) (map_one f one xs ys (tail-eq_of_cons-eq e))
