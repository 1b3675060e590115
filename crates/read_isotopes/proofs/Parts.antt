-- What the code finds of an isotope is what its model says. Assumes nothing.
use Prim.Native.Nat.{ℕ, ◌+◌, ◌-◌, ◌≤◌, min}
use mathlib.Core.Path.{◌≡◌, sym, ap, ap₂, ◌∙◌}
use mathlib.Core.Bool.{true, false}
use mathlib.Core.List.{List, [], ◌∷◌}
use native.Mathlib.Omega.{arith}
use lib.ListN.{length, take, drop}
use Rattle.std.specs.Prelude.{Option}
use Rattle.rules.specs.Bytes.{bytes, digit}
use Rattle.rules.specs.Texts.{first_in, starts_with}
use Rattle.rules.specs.Stored.{little}
use Rattle.put_bytes.specs.Puts.{Put}
use Rattle.put_bytes.proofs.Putting.{put_then, put_as}
use Rattle.numbers.specs.declared.Number.{Number}
use Rattle.numbers.specs.Leading.{number_of}
use Rattle.elements.specs.declared.Element.{Element}
use Rattle.elements.specs.Symbols.{element_of}
use Rattle.faults.specs.declared.Refusal.{Refusal}
use Rattle.print_count.specs.Heads.{head_text}
use Rattle.read_opening.specs.declared.Head.{Head}
use Rattle.read_opening.specs.Heads.{head_of}
use Rattle.read_isotopes.specs.declared.IsotopeKind.TheVariants as kind
use Rattle.read_isotopes.specs.declared.IsotopeRead.{IsotopeRead}
use Rattle.read_isotopes.specs.Isotopes.{isotope_fault, isotope_with, isotope_in, isotope_of}
use Rattle.read_isotopes.specs.Spelled.{isotope_spelled}

-- a byte as a field of one byte
pub byte_kept : (n : ℕ) → n ≤ 255 → n ∷ [] ≡ little 1 n
byte_kept n h = ap (λ (m : ℕ). m ∷ []) (omega arith)

-- behind sign, count and `i`
module _ (i end : ℕ) (s : List ℕ) (h : Head) (at : ℕ) (f : Option Refusal) where
  pub in_specific : first_in digit (drop at s) ≡ true
      → isotope_in i end s h at f
      ≡ isotope_with h (kind.Specific (number_of (drop at s)).value (element_of (drop (number_of (drop at s)).len (drop at s))).number)
      (min (min (at + (number_of (drop at s)).len) (length s) + (element_of (drop (number_of (drop at s)).len (drop at s))).len) (length s))
      (isotope_fault i h (number_of (drop at s)).value at end (length s) f)
  unfolding isotope_in
  in_specific d = rw d

  pub in_average : first_in digit (drop at s) ≡ false → starts_with (bytes "A") (drop at s) ≡ true
      → isotope_in i end s h at f ≡ isotope_with h kind.Average (min (at + 1) (length s)) (isotope_fault i h 0 at end (length s) f)
  unfolding isotope_in
  in_average d a = rw (d, a)

  pub in_plain : first_in digit (drop at s) ≡ false → starts_with (bytes "A") (drop at s) ≡ false
      → isotope_in i end s h at f ≡ isotope_with h kind.Plain at (isotope_fault i h 0 at end (length s) f)
  unfolding isotope_in
  in_plain d a = rw (d, a)

-- what the code reads
module _ (i end : ℕ) (s : List ℕ) (f : Option Refusal) {h : Head} {at : ℕ} {t : List ℕ} (ph : h ≡ head_of s) (pa : at ≡ min (h.len + 1) (length s)) (pt : t ≡ drop at s) where
  as_read : isotope_in i end s h at f ≡ isotope_of i end s f
  unfolding isotope_of
  as_read = rw (pa, ph)

  pub specific_is : {a : Number} {r : List ℕ} {e : Element} {m n : ℕ} {g : Option Refusal} → first_in digit t ≡ true → a ≡ number_of t → r ≡ drop a.len t → e ≡ element_of r
      → m ≡ min (at + a.len) (length s) → n ≡ min (m + e.len) (length s) → g ≡ isotope_fault i h a.value at end (length s) f
      → isotope_with h (kind.Specific a.value e.number) n g ≡ isotope_of i end s f
  specific_is d pn pr pe pm pl pg = rw (pl, pm, pg, pe, pr, pn, pt) (sym (in_specific i end s h at f (rw pt at d))) ∙ as_read

  pub average_is : {n : ℕ} {g : Option Refusal} → first_in digit t ≡ false → starts_with (bytes "A") t ≡ true → n ≡ min (at + 1) (length s) → g ≡ isotope_fault i h 0 at end (length s) f
      → isotope_with h kind.Average n g ≡ isotope_of i end s f
  average_is d a pl pg = ap₂ (isotope_with h kind.Average) pl pg ∙ sym (in_average i end s h at f (rw pt at d) (rw pt at a)) ∙ as_read

  pub plain_is : {g : Option Refusal} → first_in digit t ≡ false → starts_with (bytes "A") t ≡ false → g ≡ isotope_fault i h 0 at end (length s) f → isotope_with h kind.Plain at g ≡ isotope_of i end s f
  plain_is d a pg = ap (isotope_with h kind.Plain at) pg ∙ sym (in_plain i end s h at f (rw pt at d) (rw pt at a)) ∙ as_read

-- what the code puts of an isotope that is spelled anew
pub spelled_is : (s : List ℕ) (x : IsotopeRead) {h : Head} {n : ℕ} {w d e f : List ℕ} {to at r : ℕ}
    → h ≡ head_of s → n ≡ x.len - h.len → w ≡ take n (drop h.len s)
    → Put d to (head_text x.sign x.count) e at → Put e at w f r → Put d to (isotope_spelled s x) f r
unfolding isotope_spelled
spelled_is s x {h} ph pn pw u v =
    let e = ap (λ (n : ℕ). take n (drop h.len s)) pn ∙ ap (λ (h : Head). take (x.len - h.len) (drop h.len s)) ph in
    put_then u (put_as v (pw ∙ e))
