-- Lists fed to insertion one by one: in order, and with the same members. Assumes nothing.
use mathlib.Core.Path.{◌≡◌, refl, subst}
use mathlib.Core.Bool.{Bool, true, false, true≢false, false≢true}
use mathlib.Core.List.{List, [], ◌∷◌, ◌++◌, append-nil}
use lib.Dec.{T}
use Rattle.lang.specs.Order.{Perm, same, swap, keep, then, rising, Each, none, next, insert}
use Rattle.lang.proofs.Sort.{Order, insert_perm, sorted_rising, sorted_same}
use Rattle.sort_slots.specs.Slots.{fed_into}

-- ---- the same members

-- one in front, or behind
middle : {A : Type 0} (x : A) (ys s : List A) → Perm (x ∷ (ys ++ s)) (ys ++ (x ∷ s))
middle x [] s = same
middle x (y ∷ ys) s = then swap (keep (middle x ys s))

behind : {A : Type 0} (ys : List A) {s t : List A} → Perm s t → Perm (ys ++ s) (ys ++ t)
behind [] p = p
behind (y ∷ ys) p = keep (behind ys p)

module _ {A : Type 0} (before : A → A → Bool) where
  fed_into_perm : (s xs : List A) → Perm (xs ++ s) (fed_into before s xs)
  fed_into_perm s [] = same
  fed_into_perm s (x ∷ xs) = then (then (middle x xs s) (behind xs (insert_perm before x s))) (fed_into_perm (insert before x s) xs)

  pub fed_perm : (xs : List A) → Perm xs (fed_into before [] xs)
  fed_perm xs = subst (λ (l : List A). Perm l (fed_into before [] xs)) (append-nil xs) (fed_into_perm [] xs)

  -- ---- one more

  fed_into_last : (s xs : List A) (x : A) → fed_into before s (xs ++ (x ∷ [])) ≡ insert before x (fed_into before s xs)
  fed_into_last s [] x = refl
  fed_into_last s (y ∷ xs) x = fed_into_last (insert before y s) xs x

  pub fed_last : (xs : List A) (x : A) → fed_into before [] (xs ++ (x ∷ [])) ≡ insert before x (fed_into before [] xs)
  fed_last xs x = fed_into_last [] xs x

-- ---- in order

module _ {A : Type 0} {before : A → A → Bool} (o : Order before) where
  -- what is in order is sorted, and so is what is inserted into it
  pub insert_rises : (x : A) (l : List A) → T (rising before l) → T (rising before (insert before x l))
  insert_rises x l t = subst (λ (s : List A). T (rising before (insert before x s))) (sorted_same before l t) (sorted_rising o (x ∷ l))

  fed_into_rises : (s xs : List A) → T (rising before s) → T (rising before (fed_into before s xs))
  fed_into_rises s [] t = t
  fed_into_rises s (x ∷ xs) t = fed_into_rises (insert before x s) xs (insert_rises x s t)

  pub fed_rises : (xs : List A) → T (rising before (fed_into before [] xs))
  fed_rises xs = fed_into_rises [] xs tt

-- ---- two lists side by side

module _ {A B : Type 0} (R : A → B → Type 0) (f : A → A → Bool) (g : B → B → Bool)
    (alike : (a c : A) (b d : B) → R a b → R c d → f a c ≡ g b d) where
  insert_both : {a : A} {b : B} {s : List A} {t : List B} → R a b → Each R s t → Each R (insert f a s) (insert g b t)
  insert_both r none = next r none
  insert_both {a} {b} r (next {a = c} {b = d} {l = s} {m = t} q w) = by (insert_both r w) (f a c) (g b d) (alike a c b d r q)
    where
      by : Each R (insert f a s) (insert g b t) → (x y : Bool) → x ≡ y
          → Each R (elim x [ true ↦ a ∷ c ∷ s | false ↦ c ∷ insert f a s ]) (elim y [ true ↦ b ∷ d ∷ t | false ↦ d ∷ insert g b t ])
      by ih true true e = next r (next q w)
      by ih false false e = next q ih
      by ih true false e = absurd (true≢false e)
      by ih false true e = absurd (false≢true e)

  fed_into_both : {s : List A} {t : List B} {xs : List A} {ys : List B} → Each R s t → Each R xs ys → Each R (fed_into f s xs) (fed_into g t ys)
  fed_into_both w none = w
  fed_into_both {s = s} {t = t} w (next {a = a} {b = b} r q) = fed_into_both {s = insert f a s} {t = insert g b t} (insert_both r w) q

  pub fed_both : {xs : List A} {ys : List B} → Each R xs ys → Each R (fed_into f [] xs) (fed_into g [] ys)
  fed_both q = fed_into_both none q
