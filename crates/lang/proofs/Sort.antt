-- Sorting by insertion: it keeps the members, its list is in order, and a list in order is the only one with its members.
-- Assumes nothing.
use mathlib.Core.Path.{◌≡◌, refl, sym, ap, ◌∙◌}
use mathlib.Core.Bool.{Bool, true, false}
use mathlib.Core.List.{List, [], ◌∷◌}
use mathlib.Core.Logic.{◌⊎◌, inl, inr}
use lib.Dec.{T}
use Rattle.lang.specs.Re.{either}
use Rattle.lang.specs.Order.{Perm, same, swap, keep, then, leads, rising, insert}
use Rattle.lang.proofs.Deriv.{and_0, and_1, and_i}
use Rattle.lang.proofs.Tests.{is_t, not_t, t_is, Case, case}

module _ {A : Type 0} (before : A → A → Bool) where
  abbrev pub sorted : List A → List A
  sorted [] = []
  sorted (a ∷ l) = insert before a (sorted l)

-- ---- the same members

pub perm_sym : {A : Type 0} {l m : List A} → Perm l m → Perm m l
perm_sym same = same
perm_sym swap = swap
perm_sym (keep p) = keep (perm_sym p)
perm_sym (then p q) = then (perm_sym q) (perm_sym p)

-- two lists with the members of a third have one another's
pub perm_joined : {A : Type 0} {l m n : List A} → Perm l m → Perm l n → Perm m n
perm_joined p q = then (perm_sym p) q

-- ---- sorting keeps the members

module _ {A : Type 0} (before : A → A → Bool) where
  pub insert_perm : (a : A) (l : List A) → Perm (a ∷ l) (insert before a l)
  insert_perm a [] = same
  insert_perm a (b ∷ l) = by (before a b) (insert_perm a l)
    where
      by : (x : Bool) → Perm (a ∷ l) (insert before a l) → Perm (a ∷ b ∷ l) (elim x [ true ↦ a ∷ b ∷ l | false ↦ b ∷ insert before a l ])
      by true p = same
      by false p = then swap (keep p)

  pub sorted_perm : (l : List A) → Perm l (sorted before l)
  sorted_perm [] = same
  sorted_perm (a ∷ l) = then (keep (sorted_perm l)) (insert_perm a (sorted before l))

-- ---- sorting puts in order

-- an order in which any two can be compared
pub record Order {A : Type 0} (before : A → A → Bool) : Type 0 where
  pub total : (a b : A) → T (before a b) ⊎ T (before b a)
  pub trans : (a b c : A) → T (before a b) → T (before b c) → T (before a c)

module _ {A : Type 0} {before : A → A → Bool} (o : Order before) where
  -- where the test fails the order is the other way
  other : (a b : A) → before a b ≡ false → T (before b a)
  other a b e = either (λ t. absurd (not_t e t)) (λ t. t) (o.total a b)

  -- what leads a list and comes before a leads the list with a inserted
  leads_insert : (b a : A) (l : List A) → T (before b a) → T (leads before b l) → T (leads before b (insert before a l))
  leads_insert b a [] h t = h
  leads_insert b a (c ∷ l) h t = by (before a c)
    where
      by : (x : Bool) → T (leads before b (elim x [ true ↦ a ∷ c ∷ l | false ↦ c ∷ insert before a l ]))
      by true = h
      by false = t

  insert_rising : (a : A) (l : List A) → T (rising before l) → T (rising before (insert before a l))
  insert_rising a [] t = tt
  insert_rising a (b ∷ l) t = by (before a b) refl (insert_rising a l (and_1 (leads before b l) (rising before l) t))
    where
      by : (x : Bool) → before a b ≡ x → T (rising before (insert before a l)) → T (rising before (elim x [ true ↦ a ∷ b ∷ l | false ↦ b ∷ insert before a l ]))
      by true e ih = and_i (before a b) (rising before (b ∷ l)) (is_t e) t
      by false e ih =
          and_i (leads before b (insert before a l)) (rising before (insert before a l))
          (leads_insert b a l (other a b e) (and_0 (leads before b l) (rising before l) t)) ih

  pub sorted_rising : (l : List A) → T (rising before (sorted before l))
  sorted_rising [] = tt
  sorted_rising (a ∷ l) = insert_rising a (sorted before l) (sorted_rising l)

-- ---- what is in order is sorted

module _ {A : Type 0} (before : A → A → Bool) where
  insert_here : (a b : A) (l : List A) → before a b ≡ true → insert before a (b ∷ l) ≡ a ∷ b ∷ l
  insert_here a b l e = rw (e, insert)

  insert_on : (a b : A) (l : List A) → before a b ≡ false → insert before a (b ∷ l) ≡ b ∷ insert before a l
  insert_on a b l e = rw (e, insert)

  insert_first : (a : A) (l : List A) → T (leads before a l) → insert before a l ≡ a ∷ l
  insert_first a [] t = refl
  insert_first a (b ∷ l) t = insert_here a b l (t_is (before a b) t)

  pub sorted_same : (l : List A) → T (rising before l) → sorted before l ≡ l
  sorted_same [] t = refl
  sorted_same (a ∷ l) t =
      ap (insert before a) (sorted_same l (and_1 (leads before a l) (rising before l) t))
      ∙ insert_first a l (and_0 (leads before a l) (rising before l) t)

-- ---- one list in order for all the lists with its members

module _ {A : Type 0} {before : A → A → Bool} (o : Order before) (anti : (a b : A) → T (before a b) → T (before b a) → a ≡ b) where
  -- two in front of a list that neither passes
  front : (a b : A) (l : List A) → insert before a l ≡ a ∷ l → insert before b l ≡ b ∷ l → Case (before a b) → Case (before b a)
      → insert before a (b ∷ l) ≡ insert before b (a ∷ l)
  front a b l f g (inl p) (inl q) =
      let e = anti a b (is_t p) (is_t q) in
      insert_here before a b l p ∙ ap (λ (x : A). x ∷ b ∷ l) e ∙ ap (λ (x : A). b ∷ x ∷ l) (sym e) ∙ sym (insert_here before b a l q)
  front a b l f g (inl p) (inr q) = insert_here before a b l p ∙ ap (λ (x : List A). a ∷ x) (sym g) ∙ sym (insert_on before b a l q)
  front a b l f g (inr p) (inl q) = insert_on before a b l p ∙ ap (λ (x : List A). b ∷ x) f ∙ sym (insert_here before b a l q)
  front a b l f g (inr p) (inr q) = absurd (not_t q (other o a b p))

  -- where b comes before c, and a does not, a does not come before b
  chain : (a b c : A) → before b c ≡ true → before a c ≡ false → before a b ≡ false
  chain a b c p q = by (case (before a b))
    where
      by : Case (before a b) → before a b ≡ false
      by (inl r) = absurd (not_t q (o.trans a b c (is_t r) (is_t p)))
      by (inr r) = r

  -- a passes c, and b does not: both lists are b, c and the rest with a
  past : (a b c : A) (l : List A) → before b c ≡ true → before a c ≡ false
      → insert before a (insert before b (c ∷ l)) ≡ insert before b (insert before a (c ∷ l))
  past a b c l p q =
      ap (insert before a) (insert_here before b c l p) ∙ insert_on before a b (c ∷ l) (chain a b c p q)
      ∙ ap (λ (x : List A). b ∷ x) (insert_on before a c l q) ∙ sym (insert_here before b c (insert before a l) p)
      ∙ ap (insert before b) (sym (insert_on before a c l q))

  -- insertion in either order
  insert_insert : (a b : A) (l : List A) → insert before a (insert before b l) ≡ insert before b (insert before a l)
  insert_insert a b [] = front a b [] refl refl (case (before a b)) (case (before b a))
  insert_insert a b (c ∷ l) = by (case (before b c)) (case (before a c)) (insert_insert a b l)
    where
      by : Case (before b c) → Case (before a c) → insert before a (insert before b l) ≡ insert before b (insert before a l)
          → insert before a (insert before b (c ∷ l)) ≡ insert before b (insert before a (c ∷ l))
      by (inl p) (inl q) ih =
          ap (insert before a) (insert_here before b c l p)
          ∙ front a b (c ∷ l) (insert_here before a c l q) (insert_here before b c l p) (case (before a b)) (case (before b a))
          ∙ ap (insert before b) (sym (insert_here before a c l q))
      by (inl p) (inr q) ih = past a b c l p q
      by (inr p) (inl q) ih = sym (past b a c l q p)
      by (inr p) (inr q) ih =
          ap (insert before a) (insert_on before b c l p) ∙ insert_on before a c (insert before b l) q ∙ ap (λ (x : List A). c ∷ x) ih
          ∙ sym (insert_on before b c (insert before a l) p) ∙ ap (insert before b) (sym (insert_on before a c l q))

  pub sorted_one : {l m : List A} → Perm l m → sorted before l ≡ sorted before m
  sorted_one same = refl
  sorted_one (swap {a = a} {b = b} {l = l}) = insert_insert a b (sorted before l)
  sorted_one (keep {a = a} p) = ap (insert before a) (sorted_one p)
  sorted_one (then p q) = sorted_one p ∙ sorted_one q

  pub rising_one : {l m : List A} → T (rising before l) → T (rising before m) → Perm l m → l ≡ m
  rising_one {l} {m} s t p = sym (sorted_same before l s) ∙ sorted_one p ∙ sorted_same before m t
