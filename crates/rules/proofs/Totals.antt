-- Sums over the members of a list: lengths of lists laid one after the other, bounds, and that the order does not matter.
-- Assumes nothing.
use Prim.Native.Nat.{ℕ, suc, ◌+◌, ◌*◌, ◌≤◌}
use mathlib.Core.Path.{◌≡◌, refl, sym, ap, ◌∙◌}
use mathlib.Core.List.{List, [], ◌∷◌, ◌++◌, map}
use native.Mathlib.Omega.{arith}
use native.Mathlib.Nat.{mul-zero, mul-suc, mul-add}
use lib.ListN.{length, length-append}
use Rattle.lang.specs.Parts.{flat}
use Rattle.lang.specs.Mark.{In, here, later}
use Rattle.lang.specs.Order.{Perm, same, swap, keep, then}

abbrev pub total : {A : Type 0} → (A → ℕ) → List A → ℕ
total w [] = 0
total w (x ∷ xs) = w x + total w xs

pub length_flat : {A B : Type 0} (f : A → List B) (xs : List A) → length (flat f xs) ≡ total (λ x. length (f x)) xs
length_flat f [] = refl
length_flat f (x ∷ xs) = omega (arith, length-append (f x) (flat f xs), length_flat f xs)

-- lists of one length
pub length_flat_each : {A B : Type 0} (f : A → List B) (n : ℕ) (xs : List A) → ((x : A) → In x xs → length (f x) ≡ n)
    → length (flat f xs) ≡ n * length xs
length_flat_each f n [] h = sym (mul-zero n)
length_flat_each f n (x ∷ xs) h =
    omega (arith, length-append (f x) (flat f xs), h x here, length_flat_each f n xs (λ y i. h y (later i)), mul-suc n (length xs))

pub total_le : {A : Type 0} (w : A → ℕ) (n : ℕ) (xs : List A) → ((x : A) → In x xs → w x ≤ n) → total w xs ≤ n * length xs
total_le w n [] h = omega arith
total_le w n (x ∷ xs) h = omega (arith, h x here, total_le w n xs (λ y i. h y (later i)), mul-suc n (length xs))

pub total_add : {A : Type 0} (v w : A → ℕ) (xs : List A) → total (λ x. v x + w x) xs ≡ total v xs + total w xs
total_add v w [] = refl
total_add v w (x ∷ xs) = omega (arith, total_add v w xs)

pub total_times : {A : Type 0} (n : ℕ) (w : A → ℕ) (xs : List A) → total (λ x. n * w x) xs ≡ n * total w xs
total_times n w [] = sym (mul-zero n)
total_times n w (x ∷ xs) = omega (arith, total_times n w xs, mul-add n (w x) (total w xs))

-- ---- members of lists that are made of others

pub in_none : {A : Type 0} {x : A} → In x [] → ⊥
in_none = elim [ ]

pub in_cons : {A : Type 0} (P : A → Type 0) {x : A} {xs : List A} → P x → ((y : A) → In y xs → P y) → (y : A) → In y (x ∷ xs) → P y
in_cons P p h y here = p
in_cons P p h y (later i) = h y i

pub in_map : {A B : Type 0} (f : A → B) (P : B → Type 0) (xs : List A) → ((x : A) → In x xs → P (f x))
    → (y : B) → In y (map f xs) → P y
in_map f P [] h y i = elim i [ ]
in_map f P (x ∷ xs) h y here = h x here
in_map f P (x ∷ xs) h y (later i) = in_map f P xs (λ z j. h z (later j)) y i

pub in_append : {A : Type 0} (P : A → Type 0) (xs ys : List A)
    → ((x : A) → In x xs → P x) → ((x : A) → In x ys → P x) → (x : A) → In x (xs ++ ys) → P x
in_append P [] ys h g y i = g y i
in_append P (x ∷ xs) ys h g y here = h x here
in_append P (x ∷ xs) ys h g y (later i) = in_append P xs ys (λ z j. h z (later j)) g y i

pub in_flat : {A B : Type 0} (f : A → List B) (P : B → Type 0) (xs : List A) → ((x : A) → In x xs → (y : B) → In y (f x) → P y)
    → (y : B) → In y (flat f xs) → P y
in_flat f P [] h y i = absurd (in_none i)
in_flat f P (x ∷ xs) h y i = in_append P (f x) (flat f xs) (h x here) (in_flat f P xs (λ z j. h z (later j))) y i

-- ---- another order

pub perm_total : {A : Type 0} (w : A → ℕ) {l m : List A} → Perm l m → total w l ≡ total w m
perm_total w same = refl
perm_total w swap = omega arith
perm_total w (keep {a = a} p) = ap (λ (n : ℕ). w a + n) (perm_total w p)
perm_total w (then p q) = perm_total w p ∙ perm_total w q

pub perm_length : {A : Type 0} {l m : List A} → Perm l m → length l ≡ length m
perm_length same = refl
perm_length swap = refl
perm_length (keep p) = ap suc (perm_length p)
perm_length (then p q) = perm_length p ∙ perm_length q

pub perm_flat : {A B : Type 0} (f : A → List B) {l m : List A} → Perm l m → length (flat f l) ≡ length (flat f m)
perm_flat f {l} {m} p = length_flat f l ∙ perm_total (λ x. length (f x)) p ∙ sym (length_flat f m)

-- the members of the other were members of the one
pub perm_in : {A : Type 0} {l m : List A} → Perm l m → (x : A) → In x m → In x l
perm_in same x i = i
perm_in swap x here = later here
perm_in swap x (later here) = here
perm_in swap x (later (later i)) = later (later i)
perm_in (keep p) x here = here
perm_in (keep p) x (later i) = later (perm_in p x i)
perm_in (then p q) x i = perm_in p x (perm_in q x i)
