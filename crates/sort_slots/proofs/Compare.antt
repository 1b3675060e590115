-- Ranks of two texts compared, then signs and counts: what the answers come to is the order of the keys. Assumes nothing.
use Prim.Native.Nat.{ℕ, ◌+◌, ◌<◌}
use mathlib.Core.Path.{◌≡◌, refl, ap, ap₂, ◌∙◌}
use mathlib.Core.Bool.{Bool, true, false, cond, ◌&&◌, ◌||◌}
use mathlib.Core.List.{List, [], ◌∷◌, map}
use native.Mathlib.Omega.{arith}
use borrow.Author.Tests.{lt-ltb, le-ltb, ne_eqb}
use lib.Dec.{ltb, eqb}
use Rattle.std.specs.Cmp.Lexicographic.{slice_cmp}
use Rattle.std.specs.Ordering.{ordering_then, is_le, nat_cmp}
use Rattle.std.proofs.Common.{Ordering}
use Rattle.std.specs.declared.cmp.Ordering.TheVariants.{Less, Equal, Greater}
use Rattle.lang.specs.Order.{lex_le}
use Rattle.rules.specs.Preferred.{rank}
use Rattle.changes.specs.Signs.{sign_number}
use Rattle.sort_slots.specs.declared.Slot.{Slot}
use Rattle.sort_slots.specs.Slots.{slot_text, slot_le}
use Rattle.sort_slots.specs.Steps.{ranks_of, TextsBefore}

-- what an ordering of two texts tells, where `same` is the answer for two equal ones
abbrev pub told : Bool → Ordering → Bool
told same Less = true
told same Equal = same
told same Greater = false

-- ---- what the first numbers of two lists decide

module _ (a b : ℕ) (s t : List ℕ) where
  -- where a further answer decides what the two leave open
  first : (same : Bool) (q : Ordering) → told same q ≡ lex_le s t → told same (ordering_then (nat_cmp a b) q) ≡ lex_le (a ∷ s) (b ∷ t)
  first same q e = by (ltb a b) (eqb a b)
    where
      by : (x y : Bool) → told same (ordering_then (cond x Less (cond y Equal Greater)) q) ≡ (x || (y && lex_le s t))
      by true y = refl
      by false true = e
      by false false = refl

-- ---- texts

-- no byte has the rank of the end
rank_some : (b : ℕ) → 0 < rank b
rank_some b = by (eqb b 91)
  where
    by : (x : Bool) → 0 < elim x [ true ↦ 1 | false ↦ b + 2 ]
    by true = omega arith
    by false = omega arith

module _ (u v : List ℕ) (same : Bool) (e : same ≡ lex_le u v) where
  ranks_told : (a b : List ℕ) → told same (slice_cmp nat_cmp (map rank a) (map rank b)) ≡ lex_le (ranks_of a u) (ranks_of b v)
  ranks_told [] [] = e
  ranks_told [] (y ∷ b) = let h = rank_some y in rw (lt-ltb 0 (rank y) h)
  ranks_told (x ∷ a) [] = let h = rank_some x in rw (le-ltb (rank x) 0 (omega arith), ne_eqb (rank x) 0 (λ z. omega arith))
  ranks_told (x ∷ a) (y ∷ b) = first (rank x) (rank y) (ranks_of a u) (ranks_of b v) same (slice_cmp nat_cmp (map rank a) (map rank b)) (ranks_told a b)

pub texts_told : (a b : List ℕ) {same r : Bool} {o : Ordering} → o ≡ slice_cmp nat_cmp (map rank a) (map rank b) → r ≡ told same o → TextsBefore a b same r
texts_told a b {same} e f = record { is = λ u v g. f ∙ ap (told same) e ∙ ranks_told u v same g a b }

-- ---- signs and counts

le_told : (o : Ordering) → is_le o ≡ told true o
le_told Less = refl
le_told Equal = refl
le_told Greater = refl

rest_told : (s m t n : ℕ) → is_le (ordering_then (nat_cmp s t) (nat_cmp m n)) ≡ lex_le (s ∷ m ∷ []) (t ∷ n ∷ [])
rest_told s m t n = le_told _ ∙ first s t (m ∷ []) (n ∷ []) true (nat_cmp m n) (last (ltb m n) (eqb m n))
  where
    last : (x y : Bool) → told true (cond x Less (cond y Equal Greater)) ≡ (x || (y && true))
    last true y = refl
    last false true = refl
    last false false = refl

-- ---- two slots

pub slots_told : (keys : List ℕ) (x y : Slot) {a b : List ℕ} {same r : Bool} → a ≡ slot_text keys x → b ≡ slot_text keys y
    → same ≡ is_le (ordering_then (nat_cmp (sign_number x.sign) (sign_number y.sign)) (nat_cmp x.count y.count)) → TextsBefore a b same r → r ≡ slot_le keys x y
unfolding slot_le
slots_told keys x y e f g t =
    let u = sign_number x.sign ∷ x.count ∷ [] in
    let v = sign_number y.sign ∷ y.count ∷ [] in
    t.is u v (g ∙ rest_told (sign_number x.sign) x.count (sign_number y.sign) y.count) ∙ ap₂ (λ (s w : List ℕ). lex_le (ranks_of s u) (ranks_of w v)) e f

-- the three orderings, one behind the other
then_told : (q s c : Ordering) → is_le (ordering_then (ordering_then q s) c) ≡ told (is_le (ordering_then s c)) q
then_told Less s c = refl
then_told Equal s c = refl
then_told Greater s c = refl

pub compared : (keys : List ℕ) (x y : Slot) {a b : List ℕ} → a ≡ slot_text keys x → b ≡ slot_text keys y
    → is_le (ordering_then (ordering_then (slice_cmp nat_cmp (map rank a) (map rank b)) (nat_cmp (sign_number x.sign) (sign_number y.sign))) (nat_cmp x.count y.count)) ≡ slot_le keys x y
compared keys x y {a} {b} e f =
    let q = slice_cmp nat_cmp (map rank a) (map rank b) in
    let s = nat_cmp (sign_number x.sign) (sign_number y.sign) in
    then_told q s (nat_cmp x.count y.count) ∙ slots_told keys x y e f refl (texts_told a b refl refl)
