-- A text has at most one tree: by the machine's states, as lists of stacks, with one test each that antt computes. Assumes nothing.
use Prim.Native.Nat.{ℕ, ◌<◌, ◌≤◌}
use mathlib.Core.Path.{◌≡◌, refl, sym, ap, ap₂, ◌∙◌, subst}
use mathlib.Core.Bool.{Bool, true, false, not, ◌&&◌, ◌||◌}
use mathlib.Core.List.{List, [], ◌∷◌, ◌++◌, head-eq_of_cons-eq, tail-eq_of_cons-eq, nil≢cons, cons≢nil, is_set}
use mathlib.Core.Logic.{◌⊎◌, inl, inr}
use mathlib.Core.HLevel.{Σ_prop_path, hedberg}
use native.Mathlib.Omega.{arith}
use native.Mathlib.Decide.{ℕ_discrete, dec_le}
use lib.Dec.{T, T_prop, leb, leb→le, T_not}
use Rattle.lang.specs.Re.{Rng, rng, in_c, Brackets, none_open, paired, Nested, Re, eps, cls, seq, alt, star, nest, Tree, texts, either, text}
use Rattle.lang.proofs.Deriv.{null, Stack, STree, stext, LS, Edge, when_n, lf, lfs, Le, le_left, le_right, le_split, le_when, when_le, and_0, and_1, and_i, or_e, or_l, or_r, empty, sound, sound_stack, nulls, nulls_complete, next_nest}
use Rattle.lang.proofs.Same.{LA}
use Rattle.lang.proofs.Lits.{byte_path}
use Rattle.lang.proofs.Machine.{edges, takes, edges_sound, cons_if_l, cons_if_r, cons_if_e, takes_in, takes_out, acc, acc_complete}

-- each empty text has one tree, and no list has an empty member
abbrev pub ok : Re → Bool
ok eps = true
ok (cls c) = true
ok (seq r s) = ok r && ok s
ok (alt r s) = (ok r && ok s) && not (null r && null s)
ok (star r) = ok r && not (null r)
ok (nest B d) = true

split_left : (es fs : List Edge) (b : ℕ) (w : List ℕ) (x : Le es b w) → le_split es fs b w (le_left es fs b w x) ≡ inl x
unfolding le_split le_left
split_left [] fs b w x = absurd x
split_left (e ∷ es) fs b w (inl x) = refl
split_left (e ∷ es) fs b w (inr x) = ap (either (λ y. inl (inr y)) inr) (split_left es fs b w x)

split_right : (es fs : List Edge) (b : ℕ) (w : List ℕ) (x : Le fs b w) → le_split es fs b w (le_right es fs b w x) ≡ inr x
unfolding le_split le_right
split_right [] fs b w x = refl
split_right (e ∷ es) fs b w x = ap (either (λ y. inl (inr y)) inr) (split_right es fs b w x)

when_when : (n : Bool) (fs : List Edge) (b : ℕ) (w : List ℕ) (t : T n) (x : Le fs b w) → le_when n fs b w (when_le n fs b w t x) ≡ (t, x)
unfolding le_when when_le
when_when true fs b w t x = refl
when_when false fs b w t x = absurd t

or_e_l : (a b : Bool) (t : T (a || b)) (n : T a) → or_e a b t ≡ inl n
or_e_l true b t n = refl
or_e_l false b t n = absurd n

or_e_r : (a b : Bool) (t : T (a || b)) (m : T b) → T (not (a && b)) → or_e a b t ≡ inr m
or_e_r true true t m h = absurd h
or_e_r true false t m h = absurd m
or_e_r false b t m h = ap inr (T_prop b t m)

empty_same : (r : Re) (n m : T (null r)) → (empty r n).0 ≡ (empty r m).0
empty_same r n m = ap (λ (x : T (null r)). (empty r x).0) (T_prop (null r) n m)

empty_l : (r s : Re) (m : T (null (alt r s))) (n : T (null r)) → (empty (alt r s) m).0 ≡ inl (empty r n).0
unfolding empty
empty_l r s m n = rw (or_e_l (null r) (null s) m n)

empty_r : (r s : Re) (m : T (null (alt r s))) (n : T (null s)) → T (not (null r && null s)) → (empty (alt r s) m).0 ≡ inr (empty s n).0
unfolding empty
empty_r r s m n h = rw (or_e_r (null r) (null s) m n h)

abbrev Comp⁺ : Re → Type 0
Comp⁺ r =
    (k : Stack) (b : ℕ) (w : List ℕ) (t : Tree r) (u : STree k) → text r t (stext k u) ≡ b ∷ w
    → ((x : Le (lf r k) b w) × ((sound r k b w x).0 ≡ (t, u))) ⊎ ((n : T (null r)) × (t ≡ (empty r n).0) × (stext k u ≡ b ∷ w))

comp_star⁺ : (r : Re) → T (not (null r)) → Comp⁺ r → (k : Stack) (b : ℕ) (w : List ℕ) (t : List (Tree r)) (u : STree k) → texts (text r) t (stext k u) ≡ b ∷ w
    → ((x : Le (lf r (star r ∷ k)) b w) × ((sound (star r) k b w x).0 ≡ (t, u))) ⊎ ((n : Unit {0}) × (t ≡ []) × (stext k u ≡ b ∷ w))
unfolding sound
comp_star⁺ r no-null h k b w [] u e = inr (tt, refl, e)
comp_star⁺ r no-null h k b w (x ∷ xs) u e =
    either
    (λ y. inl (y.0, ap (λ (z : STree (r ∷ star r ∷ k)). (z.0 ∷ z.1.0, z.1.1)) y.1))
    (λ y. absurd (T_not (null r) no-null y.0))
    (h (star r ∷ k) b w x (xs, u) e)

comp_nest⁺ : (B : Brackets) (d : ℕ) (k : Stack) (b : ℕ) (w : List ℕ) (l : List ℕ) (p : T (paired B l d)) (u : STree k) → l ++ stext k u ≡ b ∷ w
    → ((x : Le (lf (nest B d) k) b w) × ((sound (nest B d) k b w x).0 ≡ (record { bytes = l; pair = p }, u))) ⊎ ((n : T (none_open d)) × (◌≡◌ {A = Nested B d} (record { bytes = l; pair = p }) (record { bytes = []; pair = n })) × (stext k u ≡ b ∷ w))
comp_nest⁺ B d k b w [] p u e = inr (p, refl, e)
comp_nest⁺ B d k b w (x ∷ xs) p u e = inl (next_nest B k b w x xs u e d p)

complete⁺ : (r : Re) → T (ok r) → Comp⁺ r
unfolding sound empty
complete⁺ eps o k b w t u e = inr (tt, refl, e)
complete⁺ (cls c) o k b w t u e =
    inl (
      inl (subst (λ (x : ℕ). T (in_c c x)) (head-eq_of_cons-eq e) t.is_in, (u, tail-eq_of_cons-eq e)),
      λ i. (byte_path (record { val = b; is_in = subst (λ (x : ℕ). T (in_c c x)) (head-eq_of_cons-eq e) t.is_in }) t (sym (head-eq_of_cons-eq e)) i, u),
    )
complete⁺ (seq r s) o k b w t u e =
    either
    (λ y.
    inl (
      le_left (lf r (s ∷ k)) (when_n (null r) (lf s k)) b w y.0,
      rw (split_left (lf r (s ∷ k)) (when_n (null r) (lf s k)) b w y.0)
          (ap (λ (z : STree (r ∷ s ∷ k)). ((z.0, z.1.0), z.1.1)) y.1),
    ))
    (λ y.
    either
    (λ z.
    inl (
      le_right (lf r (s ∷ k)) (when_n (null r) (lf s k)) b w (when_le (null r) (lf s k) b w y.0 z.0),
      rw (split_right (lf r (s ∷ k)) (when_n (null r) (lf s k)) b w (when_le (null r) (lf s k) b w y.0 z.0), when_when (null r) (lf s k) b w y.0 z.0)
          (ap₂ (λ (v : Tree r) (z : STree (s ∷ k)). ((v, z.0), z.1)) (sym y.1) z.1),
    ))
    (λ z. inr (and_i (null r) (null s) y.0 z.0, ap₂ (λ (v : Tree r) (v' : Tree s). (v, v')) (y.1 ∙ empty_same r _ _) (z.1 ∙ empty_same s _ _), z.2))
    (complete⁺ s (and_1 (ok r) (ok s) o) k b w t.1 u y.2))
    (complete⁺ r (and_0 (ok r) (ok s) o) (s ∷ k) b w t.0 (t.1, u) e)
complete⁺ (alt r s) o k b w (inl t) u e =
    either
    (λ y.
    inl (
      le_left (lf r k) (lf s k) b w y.0,
      rw (split_left (lf r k) (lf s k) b w y.0) (ap (λ (z : STree (r ∷ k)). (inl z.0, z.1)) y.1),
    ))
    (λ y. inr (or_l (null r) (null s) y.0, ap inl y.1 ∙ sym (empty_l r s (or_l (null r) (null s) y.0) y.0), y.2))
    (complete⁺ r (and_0 (ok r) (ok s) (and_0 (ok r && ok s) (not (null r && null s)) o)) k b w t u e)
complete⁺ (alt r s) o k b w (inr t) u e =
    either
    (λ y.
    inl (
      le_right (lf r k) (lf s k) b w y.0,
      rw (split_right (lf r k) (lf s k) b w y.0) (ap (λ (z : STree (s ∷ k)). (inr z.0, z.1)) y.1),
    ))
    (λ y. inr (or_r (null r) (null s) y.0, ap inr y.1 ∙ sym (empty_r r s (or_r (null r) (null s) y.0) y.0 (and_1 (ok r && ok s) (not (null r && null s)) o)), y.2))
    (complete⁺ s (and_1 (ok r) (ok s) (and_0 (ok r && ok s) (not (null r && null s)) o)) k b w t u e)
complete⁺ (star r) o k b w t u e = comp_star⁺ r (and_1 (ok r) (not (null r)) o) (complete⁺ r (and_0 (ok r) (not (null r)) o)) k b w t u e
complete⁺ (nest B d) o k b w t u e = comp_nest⁺ B d k b w t.bytes t.pair u e

abbrev pub ok_s : Stack → Bool
ok_s [] = true
ok_s (r ∷ k) = ok r && ok_s k

complete_stack⁺ : (k : Stack) → T (ok_s k) → (b : ℕ) (w : List ℕ) (u : STree k) → stext k u ≡ b ∷ w → (x : Le (lfs k) b w) × ((sound_stack k b w x).0 ≡ u)
unfolding sound_stack
complete_stack⁺ [] o b w u e = absurd (nil≢cons e)
complete_stack⁺ (r ∷ k) o b w u e =
    either
    (λ y. (
      le_left (lf r k) (when_n (null r) (lfs k)) b w y.0,
      rw (split_left (lf r k) (when_n (null r) (lfs k)) b w y.0) y.1,
    ))
    (λ y.
    let z = complete_stack⁺ k (and_1 (ok r) (ok_s k) o) b w u.1 y.2 in (
      le_right (lf r k) (when_n (null r) (lfs k)) b w (when_le (null r) (lfs k) b w y.0 z.0),
      rw (split_right (lf r k) (when_n (null r) (lfs k)) b w (when_le (null r) (lfs k) b w y.0 z.0), when_when (null r) (lfs k) b w y.0 z.0)
          (ap₂ (λ (v : Tree r) (v' : STree k). (v, v')) (sym y.1) z.1),
    ))
    (complete⁺ r (and_0 (ok r) (ok_s k) o) k b w u.0 u.1 e)

text_set : IsSet (List ℕ)
text_set = is_set (hedberg ℕ_discrete)

LS-path : (k : Stack) (w : List ℕ) (x y : LS k w) → x.0 ≡ y.0 → x ≡ y
LS-path k w x y p = Σ_prop_path (λ (t : STree k). text_set (stext k t) w) {u = x} {v = y} p

abbrev pub ok_ss : List Stack → Bool
ok_ss [] = true
ok_ss (k ∷ S) = ok_s k && ok_ss S

edges⁺ : (S : List Stack) → T (ok_ss S) → (b : ℕ) (w : List ℕ) (y : LA S (b ∷ w)) → (x : Le (edges S) b w) × (edges_sound S b w x ≡ y)
unfolding edges_sound
edges⁺ [] o b w y = absurd y
edges⁺ (k ∷ S) o b w (inl y) =
    let z = complete_stack⁺ k (and_0 (ok_s k) (ok_ss S) o) b w y.0 y.1 in (
      le_left (lfs k) (edges S) b w z.0,
      rw (split_left (lfs k) (edges S) b w z.0) (ap inl (LS-path k (b ∷ w) (sound_stack k b w z.0) y z.1)),
    )
edges⁺ (k ∷ S) o b w (inr y) =
    let z = edges⁺ S (and_1 (ok_s k) (ok_ss S) o) b w y in
    (le_right (lfs k) (edges S) b w z.0, rw (split_right (lfs k) (edges S) b w z.0) (ap inr z.1))

cons_if_el : (t : Bool) (k : Stack) (S : List Stack) (w : List ℕ) (h : T t) (x : LS k w) → cons_if_e t k S w (cons_if_l t k S w h x) ≡ inl (h, x)
unfolding cons_if_e cons_if_l
cons_if_el true k S w h x = refl
cons_if_el false k S w h x = absurd h

cons_if_er : (t : Bool) (k : Stack) (S : List Stack) (w : List ℕ) (x : LA S w) → cons_if_e t k S w (cons_if_r t k S w x) ≡ inr x
unfolding cons_if_e cons_if_r
cons_if_er true k S w x = refl
cons_if_er false k S w x = refl

takes_takes : (es : List Edge) (b : ℕ) (w : List ℕ) (x : Le es b w) → takes_out es b w (takes_in es b w x) ≡ x
unfolding takes_out takes_in
takes_takes [] b w x = absurd x
takes_takes (e ∷ es) b w (inl x) = rw (cons_if_el (in_c e.on b) e.to (takes es b) w x.0 x.1)
takes_takes (e ∷ es) b w (inr x) =
    rw (cons_if_er (in_c e.on b) e.to (takes es b) w (takes_in es b w x)) (ap inr (takes_takes es b w x))

-- a longer text has one tree if what follows its first byte has
pub prop_step : (S : List Stack) → T (ok_ss S) → (b : ℕ) (w : List ℕ) → IsProp (LA (takes (edges S) b) w) → IsProp (LA S (b ∷ w))
prop_step S o b w h y z =
    let p = edges⁺ S o b w y in
    let q = edges⁺ S o b w z in
    let f : LA (takes (edges S) b) w → LA S (b ∷ w) = λ v. edges_sound S b w (takes_out (edges S) b w v) in
    sym p.1 ∙ ap (edges_sound S b w) (sym (takes_takes (edges S) b w p.0))
    ∙ ap f (h (takes_in (edges S) b w p.0) (takes_in (edges S) b w q.0))
    ∙ ap (edges_sound S b w) (takes_takes (edges S) b w q.0) ∙ q.1

-- ---- the empty text

nil_star⁺ : (r : Re) (no-null : T (not (null r))) (h : (t : Tree r) (k : List ℕ) → text r t k ≡ [] → (n : T (null r)) × (t ≡ (empty r n).0) × (k ≡ [])) (t : List (Tree r)) (k : List ℕ) → texts (text r) t k ≡ [] → (n : Unit {0}) × (t ≡ []) × (k ≡ [])
nil_star⁺ r no-null h [] k e = (tt, refl, e)
nil_star⁺ r no-null h (x ∷ xs) k e = absurd (T_not (null r) no-null (h x (texts (text r) xs k) e).0)

nil_nest⁺ : (B : Brackets) (d : ℕ) (l : List ℕ) (p : T (paired B l d)) (k : List ℕ) → l ++ k ≡ [] → (n : T (none_open d)) × (◌≡◌ {A = Nested B d} (record { bytes = l; pair = p }) (record { bytes = []; pair = n })) × (k ≡ [])
nil_nest⁺ B d [] p k e = (p, refl, e)
nil_nest⁺ B d (x ∷ xs) p k e = absurd (cons≢nil e)

nil⁺ : (r : Re) → T (ok r) → (t : Tree r) (k : List ℕ) → text r t k ≡ [] → (n : T (null r)) × (t ≡ (empty r n).0) × (k ≡ [])
unfolding empty
nil⁺ eps o t k e = (tt, refl, e)
nil⁺ (cls c) o t k e = absurd (cons≢nil e)
nil⁺ (seq r s) o t k e =
    let x = nil⁺ r (and_0 (ok r) (ok s) o) t.0 (text s t.1 k) e in
    let y = nil⁺ s (and_1 (ok r) (ok s) o) t.1 k x.2 in
    (and_i (null r) (null s) x.0 y.0, ap₂ (λ (v : Tree r) (v' : Tree s). (v, v')) (x.1 ∙ empty_same r _ _) (y.1 ∙ empty_same s _ _), y.2)
nil⁺ (alt r s) o (inl t) k e =
    let x = nil⁺ r (and_0 (ok r) (ok s) (and_0 (ok r && ok s) (not (null r && null s)) o)) t k e in
    (or_l (null r) (null s) x.0, ap inl x.1 ∙ sym (empty_l r s (or_l (null r) (null s) x.0) x.0), x.2)
nil⁺ (alt r s) o (inr t) k e =
    let x = nil⁺ s (and_1 (ok r) (ok s) (and_0 (ok r && ok s) (not (null r && null s)) o)) t k e in
    (or_r (null r) (null s) x.0, ap inr x.1 ∙ sym (empty_r r s (or_r (null r) (null s) x.0) x.0 (and_1 (ok r && ok s) (not (null r && null s)) o)), x.2)
nil⁺ (star r) o t k e = nil_star⁺ r (and_1 (ok r) (not (null r)) o) (nil⁺ r (and_0 (ok r) (not (null r)) o)) t k e
nil⁺ (nest B d) o t k e = nil_nest⁺ B d t.bytes t.pair k e

nil-stack⁺ : (k : Stack) → T (ok_s k) → (u v : STree k) → stext k u ≡ [] → stext k v ≡ [] → u ≡ v
nil-stack⁺ [] o u v e f = refl
nil-stack⁺ (r ∷ k) o u v e f =
    let x = nil⁺ r (and_0 (ok r) (ok_s k) o) u.0 (stext k u.1) e in
    let y = nil⁺ r (and_0 (ok r) (ok_s k) o) v.0 (stext k v.1) f in
    let z = nil-stack⁺ k (and_1 (ok r) (ok_s k) o) u.1 v.1 x.2 y.2 in
    ap₂ (λ (a : Tree r) (c : STree k). (a, c)) (x.1 ∙ empty_same r _ _ ∙ sym y.1) z

-- at most one stack may be empty
abbrev pub once : List Stack → Bool
once [] = true
once (k ∷ S) = once S && not (nulls k && acc S)

pub prop_nil : (S : List Stack) → T (ok_ss S) → T (once S) → IsProp (LA S [])
prop_nil [] o h x y = absurd x
prop_nil (k ∷ S) o h (inl x) (inl y) = ap inl (LS-path k [] x y (nil-stack⁺ k (and_0 (ok_s k) (ok_ss S) o) x.0 y.0 x.1 y.1))
prop_nil (k ∷ S) o h (inl x) (inr y) = absurd (T_not (nulls k && acc S) (and_1 (once S) (not (nulls k && acc S)) h) (and_i (nulls k) (acc S) (nulls_complete k x) (acc_complete S y)))
prop_nil (k ∷ S) o h (inr x) (inl y) = absurd (T_not (nulls k && acc S) (and_1 (once S) (not (nulls k && acc S)) h) (and_i (nulls k) (acc S) (nulls_complete k y) (acc_complete S x)))
prop_nil (k ∷ S) o h (inr x) (inr y) = ap inr (prop_nil S (and_1 (ok_s k) (ok_ss S) o) (and_0 (once S) (not (nulls k && acc S)) h) x y)

-- ---- a byte of 256 or more begins nothing

abbrev pub low_c : List Rng → Bool
low_c [] = true
low_c (rng a b ∷ c) = leb b 255 && low_c c

abbrev pub low_e : List Edge → Bool
low_e [] = true
low_e (e ∷ es) = low_c e.on && low_e es

pub low_c→ : (c : List Rng) (b : ℕ) → T (low_c c) → 256 ≤ b → T (in_c c b) → ⊥
low_c→ [] b l h t = t
low_c→ (rng x y ∷ c) b l h t =
    either
    (λ u.
    let g = leb→le y 255 (and_0 (leb y 255) (low_c c) l) in
    let g' = leb→le b y (and_1 (leb x b) (leb b y) u) in
    omega arith)
    (λ u. low_c→ c b (and_1 (leb y 255) (low_c c) l) h u)
    (or_e (leb x b && leb b y) (in_c c b) t)

low_e→ : (es : List Edge) (b : ℕ) (w : List ℕ) → T (low_e es) → 256 ≤ b → Le es b w → ⊥
low_e→ [] b w l h x = x
low_e→ (e ∷ es) b w l h (inl x) = low_c→ e.on b (and_0 (low_c e.on) (low_e es) l) h x.0
low_e→ (e ∷ es) b w l h (inr x) = low_e→ es b w (and_1 (low_c e.on) (low_e es) l) h x

pub prop_high : (S : List Stack) → T (ok_ss S) → T (low_e (edges S)) → (b : ℕ) (w : List ℕ) → 256 ≤ b → IsProp (LA S (b ∷ w))
prop_high S o l b w h x y = absurd (low_e→ (edges S) b w l h (edges⁺ S o b w x).0)

-- the test of a state
abbrev pub plain : List Stack → Bool
plain S = (ok_ss S && once S) && low_e (edges S)

-- sets of stacks that pass the test, and that a byte leads to others of or to none: a text has one tree in each
module _ (Good : List Stack → Type 0) (test : (S : List Stack) → Good S → T (plain S)) (next : (S : List Stack) (b : ℕ) → Good S → b < 256 → Good (takes (edges S) b) ⊎ (takes (edges S) b ≡ [])) where
  is_ok : (S : List Stack) → Good S → T (ok_ss S)
  is_ok S g = and_0 (ok_ss S) (once S) (and_0 (ok_ss S && once S) (low_e (edges S)) (test S g))

  by_byte : (S : List Stack) (b : ℕ) (w : List ℕ) (g : Good S) → (Good (takes (edges S) b) → IsProp (LA (takes (edges S) b) w)) → Dec (256 ≤ b) → IsProp (LA S (b ∷ w))
  by_byte S b w g ih (yes big) = prop_high S (is_ok S g) (and_1 (ok_ss S && once S) (low_e (edges S)) (test S g)) b w big
  by_byte S b w g ih (no small) =
      prop_step S (is_ok S g) b w (either ih (λ e x y. absurd (subst (λ (Z : List Stack). LA Z w) e x)) (next S b g (omega arith)))

  pub one_tree : (w : List ℕ) (S : List Stack) → Good S → IsProp (LA S w)
  one_tree [] S g = prop_nil S (is_ok S g) (and_1 (ok_ss S) (once S) (and_0 (ok_ss S && once S) (low_e (edges S)) (test S g)))
  one_tree (b ∷ w) S g = by_byte S b w g (λ h. one_tree w (takes (edges S) b) h) (dec_le 256 b)
