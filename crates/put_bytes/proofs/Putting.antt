-- Laws of what is put at a cursor, for whoever puts one thing after the other. Assumes nothing.
use Prim.Native.Nat.{ℕ, zero, suc, ◌+◌, ◌-◌, ◌*◌, ◌≤◌, min}
use mathlib.Core.Path.{◌≡◌, refl, sym, ap, ap₂, ◌∙◌, subst}
use mathlib.Core.List.{List, [], ◌∷◌, ◌++◌, append-nil, append_assoc}
use native.Mathlib.Omega.{arith}
use native.Mathlib.Nat.{add-zero, zero-add, sub-zero}
use native.Mathlib.Decide.{dec_le}
use lib.ListN.{length, take, drop, set, replicate, length-append, length-replicate}
use lib.Seq.{sets, sets-eq, set_out, length-sets, drop-length, drop-drop}
use Rattle.lang.specs.Parts.{flat}
use Rattle.rules.specs.Stored.{little}
use Rattle.put_bytes.specs.Puts.{max_place, Put}

-- ---- stores

sets_then : (d : List ℕ) (at : ℕ) (l m : List ℕ) → sets (sets d at l) (at + length l) m ≡ sets d at (l ++ m)
sets_then d at [] m = ap (λ (n : ℕ). sets d n m) (add-zero at)
sets_then d at (b ∷ l) m = ap (λ (n : ℕ). sets (sets (set d at b) (suc at) l) n m) (omega arith) ∙ sets_then (set d at b) (suc at) l m

-- past the end
sets_out : (d : List ℕ) (at : ℕ) (l : List ℕ) → length d ≤ at → sets d at l ≡ d
sets_out d at [] h = refl
sets_out d at (b ∷ l) h = ap (λ (x : List ℕ). sets x (suc at) l) (set_out d at b h) ∙ sets_out d (suc at) l (omega arith)

-- from two places past the end
sets_past : (d : List ℕ) (i j : ℕ) (l : List ℕ) → length d ≤ i → length d ≤ j → sets d i l ≡ sets d j l
sets_past d i j l h g = sets_out d i l h ∙ sym (sets_out d j l g)

-- from the place where the cursor stops as from the place where it would stand
sets_min : (d : List ℕ) (i : ℕ) (l : List ℕ) → length d ≤ max_place → Dec (i ≤ max_place) → sets d (min i max_place) l ≡ sets d i l
sets_min d i l h (yes g) = let e : min i max_place ≡ i = omega arith in ap (λ (n : ℕ). sets d n l) e
sets_min d i l h (no g) = sets_past d (min i max_place) i l (omega arith) (omega arith)

drop_zeros : (n m : ℕ) → drop {A = ℕ} m (replicate n 0) ≡ replicate (n - m) 0
drop_zeros n zero = rw (sub-zero n)
drop_zeros zero (suc m) = let e : 0 - suc m ≡ 0 = omega arith in rw e
drop_zeros (suc n) (suc m) = let e : suc n - suc m ≡ n - m = omega arith in rw e (drop_zeros n m)

-- ---- puts

pub put_none : {d : List ℕ} {at : ℕ} → length d ≤ max_place → at ≤ max_place → Put d at [] d at
put_none {d} {at} h g = record { small = h; next = omega arith; made = refl }

-- a byte inside, and one past the end
pub put_in : {d : List ℕ} {at : ℕ} (b : ℕ) → length d ≤ max_place → suc at ≤ max_place → Put d at (b ∷ []) (set d at b) (at + 1)
put_in {d} {at} b h g = record { small = h; next = omega arith; made = refl }

pub put_out : {d : List ℕ} {at r : ℕ} (b : ℕ) → length d ≤ max_place → length d ≤ at → r ≡ min (at + 1) max_place → Put d at (b ∷ []) d r
put_out {d} {at} b h g e = record { small = h; next = e; made = sym (set_out d at b g) }

-- the output keeps its length
pub put_length : {d e : List ℕ} {at r : ℕ} {l : List ℕ} → Put d at l e r → length e ≡ length d
put_length {d} {e} {at} {r} {l} p = ap length p.made ∙ length-sets d at l

-- one after the other
pub put_then : {d e f : List ℕ} {at p r : ℕ} {l m : List ℕ} → Put d at l e p → Put e p m f r → Put d at (l ++ m) f r
put_then {d} {e} {f} {at} {p} {r} {l} {m} a b =
    let z : length (sets d at l) ≤ max_place = omega (arith, length-sets d at l, a.small) in
    record {
      small = a.small;
      next = omega (arith, a.next, b.next, length-append l m);
      made =
          b.made ∙ ap₂ (λ (x : List ℕ) (n : ℕ). sets x n m) a.made a.next
          ∙ sets_min (sets d at l) (at + length l) m z (dec_le (at + length l) max_place) ∙ sets_then d at l m;
    }

-- the same bytes, said otherwise
pub put_as : {d e : List ℕ} {at r : ℕ} {l m : List ℕ} → Put d at l e r → l ≡ m → Put d at m e r
put_as {d} {e} {at} {r} p q = subst (λ (x : List ℕ). Put d at x e r) q p

-- the cursor, where it does not stop
pub put_place : {d e : List ℕ} {at r : ℕ} {l : List ℕ} → Put d at l e r → at + length l ≤ max_place → r ≡ at + length l
put_place p h = omega (arith, p.next)

-- from the start of a cleared output
pub over_zeros : {n r : ℕ} {l e : List ℕ} → Put (replicate n 0) 0 l e r → length l ≤ n → e ≡ l ++ replicate (n - length l) 0
over_zeros {n} {r} {l} {e} p h =
    p.made ∙ sets-eq l (replicate n 0) 0 (omega (arith, length-replicate {A = ℕ} n 0)) ∙ simp (zero-add, drop_zeros)

-- over all that there is
pub put_over : {d l e : List ℕ} {r : ℕ} → Put d 0 l e r → length l ≡ length d → e ≡ l
put_over {d} {l} {e} p h =
    p.made ∙ sets-eq l d 0 (omega arith) ∙ ap (λ (n : ℕ). l ++ drop n d) (zero-add (length l) ∙ h)
    ∙ ap (λ (x : List ℕ). l ++ x) (drop-length d) ∙ append-nil l

-- over a part of n bytes, where e came to stand
pub put_part : {d e l : List ℕ} {at n k : ℕ} → length d ≤ max_place → at + n ≤ length d → k ≡ n → length l ≡ n → e ≡ l
    → Put d at l (take at d ++ (e ++ drop k (drop at d))) (at + n)
put_part {d} {e} {l} {at} {n} {k} h g q z w =
    record {
      small = h;
      next = omega arith;
      made =
          ap₂ (λ (x : List ℕ) (i : ℕ). take at d ++ (x ++ drop i (drop at d))) w (q ∙ sym z)
          ∙ ap (λ (x : List ℕ). take at d ++ (l ++ x)) (drop-drop (length l) at d)
          ∙ sym (append_assoc (take at d) l (drop (at + length l) d)) ∙ sym (sets-eq l d at (omega arith));
    }

-- a cleared output, filled
pub filled : {n r : ℕ} {l e : List ℕ} → Put (replicate n 0) 0 l e r → length l ≡ n → e ≡ l
filled {n} {r} {l} {e} p h = put_over p (h ∙ sym (length-replicate n 0))

-- words are of eight bytes
pub words_length : (s : List ℕ) → length (flat (little 8) s) ≡ length s * 8
words_length [] = refl
words_length (v ∷ s) = omega (arith, length-append (little 8 v) (flat (little 8) s), words_length s)
