-- The steps of telling whether an annotation stays as it is, and of spelling it anew. Assumes nothing.
use Prim.Native.Nat.{ℕ, ◌-◌, ◌≤◌}
use mathlib.Core.Path.{◌≡◌, refl, sym, ap, ap₂, ◌∙◌}
use mathlib.Core.Bool.{Bool, true, false, not, ◌||◌}
use mathlib.Core.List.{List, [], ◌∷◌, ◌++◌}
use lib.Dec.{eqb}
use lib.ListN.{length, take, drop}
use borrow.Author.Tests.{eq-eqb, ne_eqb, le-leb}
use Rattle.std.specs.List.{list_any}
use Rattle.rules.specs.Bytes.{bytes}
use Rattle.rules.specs.Texts.{starts_with}
use Rattle.put_bytes.specs.Puts.{max_place, Put}
use Rattle.put_bytes.proofs.Putting.{put_none, put_then, put_as}
use Rattle.counts.specs.declared.Counts.{Counts}
use Rattle.print_count.specs.declared.Respelled.{Respelled}
use Rattle.put_formula.specs.Preferred.{preferred_units}
use Rattle.read_ion.specs.declared.IonRead.{IonRead}
use Rattle.read_isotopes.specs.Spelled.{spelled_isotopes, SpellsIsotopes}
use Rattle.read_tail.specs.declared.DecimalPart.{DecimalPart}
use Rattle.sort_changes.specs.Gathered.{gathered}
use Rattle.sort_changes.specs.Events.{no_keys, behind_changes}
use Rattle.sort_changes.specs.Spelled.{changes_spelled, SpellsChanges}
use Rattle.read_annotation.specs.declared.Parts.{Parts}
use Rattle.read_annotation.specs.Measured.{is_free, behind_ion, annotation_size}
use Rattle.respell_annotation.specs.Kept.{has_one, is_kept}
use Rattle.respell_annotation.specs.Annotations.{ion_spelled, adduct_spelled, tail_spelled, parts_spelled, annotation_spelled, SpellsAnnotation}

-- ---- what is kept

-- a `1` in a part, as the library looks for it
pub one_told : (s : List ℕ) → list_any (λ b. eqb b 49) s ≡ has_one s
unfolding has_one
one_told [] = refl
one_told (b ∷ s) = ap (λ (t : Bool). eqb b 49 || t) (one_told s)

pub by_bytes : (x : IonRead) (n : Counts) (free : Bool) (s : List ℕ) {t : Bool} → x.units ≡ 0 → n.losses ≤ 1 → n.items ≤ 1 → free ≡ false
    → t ≡ list_any (λ b. eqb b 49) s → not t ≡ is_kept x n free s
unfolding is_kept
by_bytes x n free s u l d b e = rw (eq-eqb x.units 0 u, le-leb n.losses 1 l, le-leb n.items 1 d, b) (ap not (e ∙ one_told s))

-- ---- the ion

module _ (s : List ℕ) (x : IonRead) {d : List ℕ} {to : ℕ} where
  pub ion_without : {t w d1 e : List ℕ} {a r : ℕ} → starts_with (bytes "myb") s ≡ true → Put d to (109 ∷ []) d1 a → t ≡ take x.len s → w ≡ drop 3 t
      → Put d1 a w e r → Put d to (ion_spelled s x) e r
  unfolding ion_spelled
  ion_without y m q v p = rw y (put_as (put_then m p) (ap (λ (l : List ℕ). 109 ∷ l) (v ∙ ap (drop 3) q)))

  pub ion_alone : {t e : List ℕ} {r : ℕ} → starts_with (bytes "myb") s ≡ false → x.units ≡ 0 → t ≡ take x.len s → Put d to t e r → Put d to (ion_spelled s x) e r
  unfolding ion_spelled
  ion_alone y u q p = rw (y, eq-eqb x.units 0 u) (put_as p q)

  pub ion_formula : {t w d1 d2 e : List ℕ} {a b r : ℕ} → starts_with (bytes "myb") s ≡ false → (x.units ≡ 0 → ⊥) → t ≡ take x.start s → Put d to t d1 a → w ≡ drop x.start s
      → Put d1 a (preferred_units x.units w) d2 b → Put d2 b (125 ∷ []) e r → Put d to (ion_spelled s x) e r
  unfolding ion_spelled
  ion_formula y u q p v units end =
      rw (y, ne_eqb x.units 0 u) (put_as (put_then p (put_then units end)) (λ i. q i ++ (preferred_units x.units (v i) ++ (125 ∷ []))))

-- ---- the adduct

module _ (s : List ℕ) {d : List ℕ} {to : ℕ} where
  pub adduct_none : length d ≤ max_place → to ≤ max_place → starts_with (bytes "[M") s ≡ false → Put d to (adduct_spelled s) d to
  unfolding adduct_spelled
  adduct_none h g e = rw e (put_none h g)

  pub adduct_some : {t w d1 d2 e : List ℕ} {a r : ℕ} {x : Respelled} → starts_with (bytes "[M") s ≡ true → t ≡ take 2 s → Put d to t d1 a → w ≡ drop 2 s
      → SpellsChanges w d1 a d2 x → Put d2 x.to (93 ∷ []) e r → Put d to (adduct_spelled s) e r
  unfolding adduct_spelled
  adduct_some f q p v items end = rw f (put_as (put_then p (put_then items.put end)) (λ i. q i ++ (changes_spelled (v i) ++ (93 ∷ []))))

-- ---- charge, deviation, confidence

module _ (s : List ℕ) (c : DecimalPart) {d e : List ℕ} {to r : ℕ} where
  pub tail_kept : c.bare ≡ false → Put d to s e r → Put d to (tail_spelled s c) e r
  unfolding tail_spelled
  tail_kept b p = rw b p

  pub tail_filled : {t w d1 d2 : List ℕ} {n at a b : ℕ} → c.bare ≡ true → n ≡ c.len - 1 → at ≡ length s - n → t ≡ take at s → Put d to t d1 a
      → Put d1 a (48 ∷ []) d2 b → w ≡ drop at s → Put d2 b w e r → Put d to (tail_spelled s c) e r
  unfolding tail_spelled
  tail_filled h pn pa pt p zero pw q =
      let i = pa ∙ ap (λ (m : ℕ). length s - m) pn in
      rw h (put_as (put_then p (put_then zero q)) (λ j. (pt ∙ ap (λ (m : ℕ). take m s) i) j ++ ((48 ∷ []) ++ (pw ∙ ap (λ (m : ℕ). drop m s) i) j)))

-- ---- the annotation

module _ (s : List ℕ) (p : Parts) where
  pub parts_put : {d t0 ta t1 t2 t3 u v d1 d2 d3 d4 d5 e : List ℕ} {l y : Respelled} {to a0 a1 a2 r : ℕ} → t0 ≡ take p.front.at s → Put d to t0 d1 a0
      → ta ≡ drop p.front.at s → Put d1 a0 (ion_spelled ta p.front.ion) d2 a1 → t1 ≡ drop p.front.len s → SpellsChanges t1 d2 a1 d3 l
      → t2 ≡ drop l.len t1 → SpellsIsotopes t2 d3 l.to d4 y → t3 ≡ drop y.len t2 → Put d4 y.to (adduct_spelled t3) d5 a2
      → u ≡ drop p.middle.len t1 → v ≡ take p.tail.len u → Put d5 a2 (tail_spelled v p.tail.confidence) e r → Put d to (parts_spelled s p) e r
  unfolding parts_spelled
  parts_put {l = l} {y = y} q0 prefix qa ion q1 losses e2 isotopes e3 adduct eu ev tail =
      let z2 : l.len ≡ (gathered no_keys (behind_ion s p)).at = losses.len ∙ (λ j. (gathered no_keys (q1 j)).at) in
      let q2 = e2 ∙ (λ j. drop (z2 j) (q1 j)) in
      let z3 : y.len ≡ length (behind_changes (behind_ion s p)) - length (spelled_isotopes (behind_changes (behind_ion s p))).rest =
      isotopes.len ∙ (λ j. length (q2 j) - length (spelled_isotopes (q2 j)).rest) in
      let q3 = e3 ∙ (λ j. drop (z3 j) (q2 j)) in
      let qv = ev ∙ ap (take p.tail.len) (eu ∙ ap (drop p.middle.len) q1) in
      put_as (put_then prefix (put_then ion (put_then losses.put (put_then isotopes.put (put_then adduct tail)))))
      (λ j. q0 j ++ (ion_spelled (qa j) p.front.ion ++ (changes_spelled (q1 j) ++ ((spelled_isotopes (q2 j)).known ++ (adduct_spelled (q3 j) ++ tail_spelled (qv j) p.tail.confidence)))))

  module _ {t1 u v x w : List ℕ} {free b : Bool} {len : ℕ} (q1 : t1 ≡ drop p.front.len s) (qu : u ≡ drop p.middle.len t1) (qv : v ≡ drop p.tail.len u)
      (ql : len ≡ length s - length v) (qx : x ≡ drop p.front.at s) (qf : free ≡ is_free p.tail.confidence.bare x)
      (qw : w ≡ take p.middle.len t1) (qb : b ≡ is_kept p.front.ion p.middle.counts free w) where
    size_is : len ≡ annotation_size s p
    unfolding annotation_size
    size_is = ql ∙ ap (λ (r : List ℕ). length s - length r) (qv ∙ ap (drop p.tail.len) (qu ∙ ap (drop p.middle.len) q1))

    kept_is : is_kept p.front.ion p.middle.counts (is_free p.tail.confidence.bare (drop p.front.at s)) (take p.middle.len (behind_ion s p)) ≡ b
    kept_is = sym (qb ∙ ap₂ (is_kept p.front.ion p.middle.counts) (qf ∙ ap (is_free p.tail.confidence.bare) qx) (qw ∙ ap (take p.middle.len) q1))

    pub put_kept : {d t e : List ℕ} {to r : ℕ} → b ≡ true → t ≡ take len s → Put d to t e r → SpellsAnnotation s p d to e (record { to = r; len = len })
    unfolding annotation_spelled
    put_kept k q x = record { len = size_is; put = rw (kept_is ∙ k) (put_as x (q ∙ ap (λ (n : ℕ). take n s) size_is)) }

    pub put_anew : {d e : List ℕ} {to r : ℕ} → b ≡ false → Put d to (parts_spelled s p) e r → SpellsAnnotation s p d to e (record { to = r; len = len })
    unfolding annotation_spelled
    put_anew k x = record { len = size_is; put = rw (kept_is ∙ k) x }
