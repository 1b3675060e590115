-- What the code finds of a series, of an internal ion, and of the first byte. Assumes nothing.
use Prim.Native.Nat.{ℕ, ◌+◌, ◌-◌, ◌≤◌, min}
use mathlib.Core.Path.{◌≡◌, refl, sym, ap, ◌∙◌}
use mathlib.Core.List.{List, [], ◌∷◌}
use lib.ListN.{length, get_or, drop, get_or-eq_default}
use borrow.Author.Tests.{ne_eqb}
use Rattle.std.specs.Prelude.{Option, Some, None}
use Rattle.read_ion.specs.declared.IonKind.TheVariants as kinds
use Rattle.read_ion.specs.Letters.{one_letter, two_letters, letters_of}
use Rattle.rules.specs.Limits.{max_position, number_mark}
use Rattle.numbers.specs.declared.Number.{Number}
use Rattle.numbers.specs.Leading.{number_of}
use Rattle.faults.specs.declared.Refusal.{Refusal}
use Rattle.faults.specs.Faults.{after}
use Rattle.read_opening.specs.declared.Enclosed.{Enclosed}
use Rattle.read_opening.specs.Enclosed.{text_of}
use Rattle.read_ion.specs.declared.IonRead.{IonRead}
use Rattle.read_ion.specs.declared.CutRead.{CutRead}
use Rattle.read_ion.specs.Cuts.{cut_of}
use Rattle.read_ion.specs.Kinds.{with_text, series_of, internal_of}
use Rattle.read_ion.specs.Ions.{ion_by, ion_of}

-- ---- letters

pub byte_past : (s : List ℕ) (i : ℕ) → length s ≤ i → 0 ≡ get_or s i 0
byte_past s i h = sym (get_or-eq_default s 0 h)

-- a byte is none of those of a list, as the last arm of a match tells it: the last key outermost
abbrev pub NoneOf : ℕ → List ℕ → Type 0
NoneOf b [] = Unit {0}
NoneOf b (k ∷ ks) = NoneOf b ks × (b ≡ k → ⊥)

module _ (s : List ℕ) {a b : ℕ} {two : Option ℕ} (pa : a ≡ get_or s 0 0) (pb : b ≡ get_or s 1 0) (pt : two ≡ two_letters a b) where
  pub letters_two : {n : ℕ} → two ≡ Some n → record { letter = Some n; len = 2 } ≡ letters_of s
  unfolding letters_of
  letters_two h = rw (← pa, ← pb, ← pt, h)

  pub letters_one : {one : Option ℕ} {n : ℕ} → two ≡ None → one ≡ one_letter a → one ≡ Some n → record { letter = Some n; len = 1 } ≡ letters_of s
  unfolding letters_of
  letters_one z po h = rw (← pa, ← pb, ← pt, z, ← po, h)

  pub letters_none : {one : Option ℕ} → two ≡ None → one ≡ one_letter a → one ≡ None → record { letter = None; len = 0 } ≡ letters_of s
  unfolding letters_of
  letters_none z po h = rw (← pa, ← pb, ← pt, z, ← po, h)

-- ---- an internal ion, call by call

module _ (s : List ℕ) (end : ℕ) (f : Option Refusal) {u r q t : List ℕ} {c : CutRead} {a b : Number} {g h : Option Refusal} {from l m l₂ m₂ colon p at : ℕ} {x : Enclosed} {i : IonRead}
    (pu : u ≡ drop 1 s) (pk : c ≡ cut_of u) (po : from ≡ min (1 + c.len) (length s))
    (pr : r ≡ drop from s) (pa : a ≡ number_of r) (pl : l ≡ length s - from) (pm : m ≡ end - l) (pg : g ≡ after f (number_mark max_position a.value m))
    (pc : colon ≡ min (from + a.len) (length s)) (pp : p ≡ min (colon + 1) (length s)) (pq : q ≡ drop p s) (pb : b ≡ number_of q)
    (pl₂ : l₂ ≡ length s - p) (pm₂ : m₂ ≡ end - l₂) (ph : h ≡ after g (number_mark max_position b.value m₂))
    (pat : at ≡ min (p + b.len) (length s)) (pt : t ≡ drop at s) (px : x ≡ text_of end t h) where
  pub internal_is : i ≡ with_text kinds.Internal c.held a.value b.value at x (length s) → i ≡ internal_of end s f
  unfolding internal_of
  internal_is pi = pi ∙ rw (← pu, ← pk, ← po, ← pr, ← pa, ← pl, ← pm, ← pg, ← pc, ← pp, ← pq, ← pb, ← pl₂, ← pm₂, ← ph, ← pat, ← pt, ← px)

-- ---- ions, by the first byte

module _ (s : List ℕ) (end : ℕ) (f : Option Refusal) {b : ℕ} (pb : b ≡ get_or s 0 0) where
  pub first_is : (k : ℕ) → b ≡ k → ion_by k end s f ≡ ion_of end s f
  unfolding ion_of
  first_is k e = ap (λ (x : ℕ). ion_by x end s f) (sym e ∙ pb)

  pub first_other : NoneOf b (63 ∷ 115 ∷ 102 ∷ 95 ∷ 114 ∷ 112 ∷ 73 ∷ 109 ∷ []) → series_of end s f ≡ ion_of end s f
  unfolding ion_by
  first_other ((((((((u, n1), n2), n3), n4), n5), n6), n7), n8) =
      (let e : series_of end s f ≡ ion_by b end s f = rw (ne_eqb b 109 n1, ne_eqb b 73 n2, ne_eqb b 112 n3, ne_eqb b 114 n4, ne_eqb b 95 n5, ne_eqb b 102 n6, ne_eqb b 115 n7, ne_eqb b 63 n8) in e)
      ∙ first_is b refl
