-- The loops that put one thing after the other: what is left to put makes the whole. Assumes nothing.
use Prim.Native.Nat.{ℕ, suc, ◌+◌, ◌-◌, ◌/◌, ◌%◌, ◌≤◌, ◌<◌}
use mathlib.Core.Path.{◌≡◌, refl, sym, ap, ◌∙◌}
use mathlib.Core.List.{List, [], ◌∷◌, ◌++◌}
use native.Mathlib.Omega.{arith}
use native.Mathlib.Numerals.{add-one}
use lib.ListN.{length, get_or, drop, drop_of_length-le}
use lib.Seq.{drop-cons}
use Rattle.lang.specs.Parts.{flat}
use Rattle.rules.specs.Stored.{little}
use Rattle.put_bytes.specs.Puts.{max_place, Put}
use Rattle.put_bytes.proofs.Putting.{put_none, put_then, put_as, put_length}

-- from d at a place, l is put by whoever goes on at place p of e and puts m
pub record PutSoFar (d : List ℕ) (at : ℕ) (l e : List ℕ) (p : ℕ) (m : List ℕ) : Type 0 where
  pub small : length d ≤ max_place
  pub same : length e ≡ length d
  pub place : p ≤ max_place
  pub on : (f : List ℕ) (r : ℕ) → Put e p m f r → Put d at l f r

module _ {d : List ℕ} {at : ℕ} {l : List ℕ} where
  pub begin : {m : List ℕ} → length d ≤ max_place → at ≤ max_place → m ≡ l → PutSoFar d at l d at m
  begin h g q = record { small = h; same = refl; place = g; on = λ f r p. put_as p q }

  -- the first of what is left: a byte, or any run of bytes
  pub more : {e f j k m : List ℕ} {p r : ℕ} → PutSoFar d at l e p m → Put e p j f r → m ≡ j ++ k → PutSoFar d at l f r k
  more g a q =
      record {
        small = g.small;
        same = put_length a ∙ g.same;
        place = omega (arith, a.next);
        on = λ h s z. g.on h s (put_as (put_then a z) (sym q));
      }

  pub ends : {e : List ℕ} {p : ℕ} {m : List ℕ} → PutSoFar d at l e p m → m ≡ [] → Put d at l e p
  ends {e} {p} g q = g.on e p (put_as (put_none (omega (arith, g.small, g.same)) g.place) (sym q))

-- the bytes of a number that are left
pub little_more : (i n v : ℕ) → i < n → little (n - i) v ≡ v % 256 ∷ little (n - (i + 1)) (v / 256)
little_more i n v h = let e : n - i ≡ suc (n - (i + 1)) = omega arith in rw e

pub little_none : (i n v : ℕ) → n ≤ i → little (n - i) v ≡ []
little_none i n v h = let e : n - i ≡ 0 = omega arith in rw e

-- the bytes of a run that are left
pub run_more : (s : List ℕ) (i : ℕ) → i < length s → drop i s ≡ get_or s i 0 ∷ drop (i + 1) s
run_more s i h = drop-cons s i 0 h ∙ ap (λ (n : ℕ). get_or s i 0 ∷ drop n s) (sym (add-one i))

-- the words of a run that are left
pub words_more : (s : List ℕ) (i : ℕ) → i < length s → flat (little 8) (drop i s) ≡ little 8 (get_or s i 0) ++ flat (little 8) (drop (i + 1) s)
words_more s i h = ap (flat (little 8)) (run_more s i h)

pub words_none : (s : List ℕ) (i : ℕ) → length s ≤ i → flat (little 8) (drop i s) ≡ []
words_none s i h = ap (flat (little 8)) (drop_of_length-le s h)
