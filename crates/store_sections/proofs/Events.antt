-- Laws of events, for whoever stores one thing after the other. Assumes nothing.
use Prim.Native.Nat.{ℕ, zero, suc, ◌+◌, ◌≤◌, min}
use mathlib.Core.Path.{◌≡◌, refl, sym, ap, ap₂, ◌∙◌, subst}
use mathlib.Core.List.{List, [], ◌∷◌, ◌++◌, append_assoc}
use native.Mathlib.Omega.{arith}
use lib.ListN.{length, set, length-append}
use lib.Seq.{sets, length-sets}
use Rattle.lang.specs.Parts.{flat}
use Rattle.put_bytes.specs.Puts.{max_place, Put}
use Rattle.put_bytes.proofs.Putting.{put_then}
use Rattle.store_sections.specs.declared.Cursors.{Cursors}
use Rattle.store_sections.specs.Pages.{places, at, moved, Event, bytes_for, bytes_of, next, ends, run, Ran}

-- ---- one cursor

pub places_moved : (j r : ℕ) (c : Cursors) → places (moved j r c) ≡ set (places c) j r
places_moved zero r c = refl
places_moved (suc zero) r c = refl
places_moved (suc (suc zero)) r c = refl
places_moved (suc (suc (suc zero))) r c = refl
places_moved (suc (suc (suc (suc zero)))) r c = refl
places_moved (suc (suc (suc (suc (suc zero))))) r c = refl
places_moved (suc (suc (suc (suc (suc (suc j)))))) r c = refl

-- ---- events

pub ran_none : {d : List ℕ} {c : Cursors} → length d ≤ max_place → Ran d c [] d c
unfolding run ends
ran_none h = record { small = h; made = refl; place = refl }

pub ran_put : {d e : List ℕ} {c : Cursors} {l : List ℕ} {r : ℕ} (j : ℕ) → Put d (at j c) l e r → Ran d c ((j, l) ∷ []) e (moved j r c)
unfolding run ends
ran_put {c = c} j p = record { small = p.small; made = p.made; place = ap (λ (n : ℕ). moved j n c) p.next }

-- the output keeps its length
run_length : (es : List Event) (d : List ℕ) (c : Cursors) → length (run d c es) ≡ length d
unfolding run
run_length [] d c = refl
run_length (x ∷ es) d c = run_length es (sets d (at x.0 c) x.1) (next c x) ∙ length-sets d (at x.0 c) x.1

pub ran_length : {d e : List ℕ} {c c' : Cursors} {es : List Event} → Ran d c es e c' → length e ≡ length d
ran_length {d} {e} {c} {c'} {es} a = ap length a.made ∙ run_length es d c

-- one after the other
ends_then : (es fs : List Event) (c : Cursors) → ends (ends c es) fs ≡ ends c (es ++ fs)
unfolding ends
ends_then [] fs c = refl
ends_then (x ∷ es) fs c = ends_then es fs (next c x)

run_then : (es fs : List Event) (d : List ℕ) (c : Cursors) → run (run d c es) (ends c es) fs ≡ run d c (es ++ fs)
unfolding ends run
run_then [] fs d c = refl
run_then (x ∷ es) fs d c = run_then es fs (sets d (at x.0 c) x.1) (next c x)

pub ran_then : {d e f : List ℕ} {c c₁ c₂ : Cursors} {es fs : List Event} → Ran d c es e c₁ → Ran e c₁ fs f c₂ → Ran d c (es ++ fs) f c₂
ran_then {d} {e} {f} {c} {c₁} {c₂} {es} {fs} a b =
    record {
      small = a.small;
      made = b.made ∙ ap₂ (λ (x : List ℕ) (k : Cursors). run x k fs) a.made a.place ∙ run_then es fs d c;
      place = b.place ∙ ap (λ (k : Cursors). ends k fs) a.place ∙ ends_then es fs c;
    }

-- the same events, said otherwise
pub ran_as : {d e : List ℕ} {c c' : Cursors} {es fs : List Event} → Ran d c es e c' → es ≡ fs → Ran d c fs e c'
ran_as {d} {e} {c} {c'} a q = subst (λ (x : List Event). Ran d c x e c') q a

-- ---- events of one section that follow each other

at_next : (j n : ℕ) (c : Cursors) → at j (moved j (min (at j c + n) max_place) c) ≡ min (at j c + n) max_place
at_next zero n c = refl
at_next (suc zero) n c = refl
at_next (suc (suc zero)) n c = refl
at_next (suc (suc (suc zero))) n c = refl
at_next (suc (suc (suc (suc zero)))) n c = refl
at_next (suc (suc (suc (suc (suc zero))))) n c = refl
at_next (suc (suc (suc (suc (suc (suc j)))))) n c = omega arith

moved_again : (j q r : ℕ) (c : Cursors) → moved j r (moved j q c) ≡ moved j r c
moved_again zero q r c = refl
moved_again (suc zero) q r c = refl
moved_again (suc (suc zero)) q r c = refl
moved_again (suc (suc (suc zero))) q r c = refl
moved_again (suc (suc (suc (suc zero)))) q r c = refl
moved_again (suc (suc (suc (suc (suc zero))))) q r c = refl
moved_again (suc (suc (suc (suc (suc (suc j)))))) q r c = refl

next_join : (j : ℕ) (l m : List ℕ) (c : Cursors) → next (next c (j, l)) (j, m) ≡ next c (j, l ++ m)
next_join j l m c =
    let p = min (at j c + length l) max_place in
    let q = at j (moved j p c) in
    let e : min (q + length m) max_place ≡ min (at j c + length (l ++ m)) max_place = omega (arith, at_next j (length l) c, length-append l m) in
    moved_again j p (min (q + length m) max_place) c ∙ ap (λ (n : ℕ). moved j n c) e

-- a store from where the cursor stands behind the one before
pub sets_join : (d : List ℕ) (p : ℕ) (l m : List ℕ) → length d ≤ max_place → sets (sets d p l) (min (p + length l) max_place) m ≡ sets d p (l ++ m)
sets_join d p l m h =
    let q = min (p + length l) max_place in
    let e = sets d p l in
    let g : length e ≤ max_place = omega (arith, length-sets d p l) in
    let a : Put d p l e q = record { small = h; next = refl; made = refl } in
    let b : Put e q m (sets e q m) (min (q + length m) max_place) = record { small = g; next = refl; made = refl } in
    (put_then a b).made

ends_join : (j : ℕ) (l m : List ℕ) (es : List Event) (c : Cursors) → ends c ((j, l) ∷ (j, m) ∷ es) ≡ ends c ((j, l ++ m) ∷ es)
unfolding ends
ends_join j l m es c = ap (λ (k : Cursors). ends k es) (next_join j l m c)

run_join : (j : ℕ) (l m : List ℕ) (es : List Event) (d : List ℕ) (c : Cursors) → length d ≤ max_place
    → run d c ((j, l) ∷ (j, m) ∷ es) ≡ run d c ((j, l ++ m) ∷ es)
unfolding run
run_join j l m es d c h =
    let q = ap (λ (n : ℕ). sets (sets d (at j c) l) n m) (at_next j (length l) c) ∙ sets_join d (at j c) l m h in
    ap₂ (λ (x : List ℕ) (k : Cursors). run x k es) q (next_join j l m c)

module _ {d e : List ℕ} {c c' : Cursors} {es : List Event} {j : ℕ} {l m : List ℕ} where
  -- they are one
  pub ran_join : Ran d c ((j, l) ∷ (j, m) ∷ es) e c' → Ran d c ((j, l ++ m) ∷ es) e c'
  ran_join a = record { small = a.small; made = a.made ∙ run_join j l m es d c a.small; place = a.place ∙ ends_join j l m es c }

  -- and the other way
  pub ran_cut : Ran d c ((j, l ++ m) ∷ es) e c' → Ran d c ((j, l) ∷ (j, m) ∷ es) e c'
  ran_cut a = record { small = a.small; made = a.made ∙ sym (run_join j l m es d c a.small); place = a.place ∙ sym (ends_join j l m es c) }

-- ---- the bytes of a section

pub flat_append : {A B : Type 0} (f : A → List B) (xs ys : List A) → flat f (xs ++ ys) ≡ flat f xs ++ flat f ys
flat_append f [] ys = refl
flat_append {B = B} f (x ∷ xs) ys =
    ap (λ (l : List B). f x ++ l) (flat_append f xs ys) ∙ sym (append_assoc (f x) (flat f xs) (flat f ys))

pub bytes_append : (j : ℕ) (es fs : List Event) → bytes_of j (es ++ fs) ≡ bytes_of j es ++ bytes_of j fs
bytes_append j es fs = flat_append (bytes_for j) es fs

-- of events in a row
pub bytes_each : {A : Type 0} (j : ℕ) (f : A → List Event) (g : A → List ℕ) → ((x : A) → bytes_of j (f x) ≡ g x)
    → (xs : List A) → bytes_of j (flat f xs) ≡ flat g xs
bytes_each j f g h [] = refl
bytes_each j f g h (x ∷ xs) = bytes_append j (f x) (flat f xs) ∙ ap₂ ◌++◌ (h x) (bytes_each j f g h xs)

pub bytes_none : {A : Type 0} (j : ℕ) (f : A → List Event) → ((x : A) → bytes_of j (f x) ≡ []) → (xs : List A) → bytes_of j (flat f xs) ≡ []
bytes_none j f h [] = refl
bytes_none j f h (x ∷ xs) = bytes_append j (f x) (flat f xs) ∙ ap₂ ◌++◌ (h x) (bytes_none j f h xs)
