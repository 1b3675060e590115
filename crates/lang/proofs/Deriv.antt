-- Antimirov's linear forms: which byte may come next, and what stack of grammars may follow it. Assumes nothing.
use Prim.Native.Nat.{ℕ, zero, suc}
use mathlib.Core.Path.{◌≡◌, refl, sym, ap, ◌∙◌, subst}
use mathlib.Core.Bool.{Bool, true, false, ◌&&◌, ◌||◌}
use mathlib.Core.List.{List, [], ◌∷◌, ◌++◌, head-eq_of_cons-eq, tail-eq_of_cons-eq, nil≢cons, cons≢nil}
use mathlib.Core.Logic.{◌⊎◌, inl, inr}
use mathlib.Core.HLevel.{is_prop→PathP}
use lib.Dec.{T, T_prop}
use Rattle.lang.specs.Re.{Rng, in_c, Brackets, none_open, one_fewer, paired, Nested, Re, eps, cls, seq, alt, star, nest, Tree, texts, either, text}

-- may be empty
abbrev pub null : Re → Bool
null eps = true
null (cls c) = false
null (seq r s) = null r && null s
null (alt r s) = null r || null s
null (star r) = true
null (nest B d) = none_open d

-- a stack of grammars, one after the other
abbrev pub Stack : Type 0
Stack = List Re

abbrev pub STree : Stack → Type 0
STree [] = Unit {0}
STree (r ∷ k) = Tree r × STree k

abbrev pub stext : (k : Stack) → STree k → List ℕ
stext [] t = []
stext (r ∷ k) t = text r t.0 (stext k t.1)

-- w is of the stack's language
abbrev pub LS : Stack → List ℕ → Type 0
LS k w = (t : STree k) × (stext k t ≡ w)

pub record Edge : Type 0 where
  pub on : List Rng
  pub to : Stack

abbrev pub when_n : Bool → List Edge → List Edge
when_n true es = es
when_n false es = []

abbrev pub closing : Brackets → ℕ → Stack → List Edge
closing B zero k = []
closing B (suc d) k = record { on = B.closes; to = nest B d ∷ k } ∷ []

-- the linear form of r, then k
abbrev pub lf : Re → Stack → List Edge
lf eps k = []
lf (cls c) k = record { on = c; to = k } ∷ []
lf (seq r s) k = lf r (s ∷ k) ++ when_n (null r) (lf s k)
lf (alt r s) k = lf r k ++ lf s k
lf (star r) k = lf r (star r ∷ k)
lf (nest B d) k = record { on = B.plain; to = nest B d ∷ k } ∷ record { on = B.opens; to = nest B (suc d) ∷ k } ∷ closing B d k

abbrev pub lfs : Stack → List Edge
lfs [] = []
lfs (r ∷ k) = lf r k ++ when_n (null r) (lfs k)

-- some edge takes b, and w is of what follows
abbrev pub Le : List Edge → ℕ → List ℕ → Type 0
Le [] b w = ⊥
Le (e ∷ es) b w = (T (in_c e.on b) × LS e.to w) ⊎ Le es b w

unfoldable pub le_left : (es fs : List Edge) (b : ℕ) (w : List ℕ) → Le es b w → Le (es ++ fs) b w
le_left [] fs b w x = absurd x
le_left (e ∷ es) fs b w (inl x) = inl x
le_left (e ∷ es) fs b w (inr x) = inr (le_left es fs b w x)

unfoldable pub le_right : (es fs : List Edge) (b : ℕ) (w : List ℕ) → Le fs b w → Le (es ++ fs) b w
le_right [] fs b w x = x
le_right (e ∷ es) fs b w x = inr (le_right es fs b w x)

unfoldable pub le_split : (es fs : List Edge) (b : ℕ) (w : List ℕ) → Le (es ++ fs) b w → Le es b w ⊎ Le fs b w
le_split [] fs b w x = inr x
le_split (e ∷ es) fs b w (inl x) = inl (inl x)
le_split (e ∷ es) fs b w (inr x) = either (λ y. inl (inr y)) inr (le_split es fs b w x)

unfoldable pub le_when : (n : Bool) (fs : List Edge) (b : ℕ) (w : List ℕ) → Le (when_n n fs) b w → T n × Le fs b w
le_when true fs b w x = (tt, x)
le_when false fs b w x = absurd x

unfoldable pub when_le : (n : Bool) (fs : List Edge) (b : ℕ) (w : List ℕ) → T n → Le fs b w → Le (when_n n fs) b w
when_le true fs b w t x = x
when_le false fs b w t x = absurd t

abbrev pub and_0 : (a b : Bool) → T (a && b) → T a
and_0 true b t = tt
and_0 false b t = t

abbrev pub and_1 : (a b : Bool) → T (a && b) → T b
and_1 true b t = t
and_1 false b t = absurd t

abbrev pub and_i : (a b : Bool) → T a → T b → T (a && b)
and_i true b s t = t
and_i false b s t = s

abbrev pub or_e : (a b : Bool) → T (a || b) → T a ⊎ T b
or_e true b t = inl tt
or_e false b t = inr t

abbrev pub or_l : (a b : Bool) → T a → T (a || b)
or_l true b t = tt
or_l false b t = absurd t

abbrev pub or_r : (a b : Bool) → T b → T (a || b)
or_r true b t = tt
or_r false b t = t

-- a tree with no text
unfoldable pub empty : (r : Re) → T (null r) → (t : Tree r) × ((k : List ℕ) → text r t k ≡ k)
empty eps n = (tt, λ k. refl)
empty (cls c) n = absurd n
empty (seq r s) n =
    let x = empty r (and_0 (null r) (null s) n) in
    let y = empty s (and_1 (null r) (null s) n) in
    ((x.0, y.0), λ k. x.1 (text s y.0 k) ∙ y.1 k)
empty (alt r s) n =
    either (λ m. let x = empty r m in (inl x.0, x.1)) (λ m. let y = empty s m in (inr y.0, y.1)) (or_e (null r) (null s) n)
empty (star r) n = ([], λ k. refl)
empty (nest B d) n = (record { bytes = []; pair = n }, λ k. refl)

-- the three ways for a byte to go on among brackets
module _ (B : Brackets) (b : ℕ) (w : List ℕ) (d : ℕ) where
  abbrev pub plain_in : T (in_c B.plain b) → T (paired B w d) → T (paired B (b ∷ w) d)
  plain_in s t = or_l (in_c B.plain b && paired B w d) ((in_c B.opens b && paired B w (suc d)) || (in_c B.closes b && one_fewer (paired B w) d)) (and_i (in_c B.plain b) (paired B w d) s t)

  abbrev pub opens_in : T (in_c B.opens b) → T (paired B w (suc d)) → T (paired B (b ∷ w) d)
  opens_in s t =
      or_r (in_c B.plain b && paired B w d) ((in_c B.opens b && paired B w (suc d)) || (in_c B.closes b && one_fewer (paired B w) d))
      (or_l (in_c B.opens b && paired B w (suc d)) (in_c B.closes b && one_fewer (paired B w) d) (and_i (in_c B.opens b) (paired B w (suc d)) s t))

  abbrev pub closes_in : T (in_c B.closes b) → T (one_fewer (paired B w) d) → T (paired B (b ∷ w) d)
  closes_in s t =
      or_r (in_c B.plain b && paired B w d) ((in_c B.opens b && paired B w (suc d)) || (in_c B.closes b && one_fewer (paired B w) d))
      (or_r (in_c B.opens b && paired B w (suc d)) (in_c B.closes b && one_fewer (paired B w) d) (and_i (in_c B.closes b) (one_fewer (paired B w) d) s t))

-- and there is no other: it stands for itself, opens a bracket, or closes one of the d that are open
pub some_way : {X : Type 0} (B : Brackets) (b : ℕ) (w : List ℕ) (d : ℕ) → T (paired B (b ∷ w) d)
    → (T (in_c B.plain b) → T (paired B w d) → X) → (T (in_c B.opens b) → T (paired B w (suc d)) → X) → ((n : ℕ) → d ≡ suc n → T (in_c B.closes b) → T (paired B w n) → X)
    → X
some_way {X} B b w d p plain opens closes =
    either
    (λ y. plain (and_0 (in_c B.plain b) (paired B w d) y) (and_1 (in_c B.plain b) (paired B w d) y))
    (λ z.
    either
    (λ y. opens (and_0 (in_c B.opens b) (paired B w (suc d)) y) (and_1 (in_c B.opens b) (paired B w (suc d)) y))
    (λ y. closed d refl (and_0 (in_c B.closes b) (one_fewer (paired B w) d) y) (and_1 (in_c B.closes b) (one_fewer (paired B w) d) y))
    (or_e (in_c B.opens b && paired B w (suc d)) (in_c B.closes b && one_fewer (paired B w) d) z))
    (or_e (in_c B.plain b && paired B w d) ((in_c B.opens b && paired B w (suc d)) || (in_c B.closes b && one_fewer (paired B w) d)) p)
  where
    closed : (n : ℕ) → d ≡ n → T (in_c B.closes b) → T (one_fewer (paired B w) n) → X
    closed zero e i t = absurd t
    closed (suc n) e i t = closes n e i t

unfoldable pub sound_closing : (B : Brackets) (d : ℕ) (k : Stack) (b : ℕ) (w : List ℕ) → Le (closing B d k) b w → LS (nest B d ∷ k) (b ∷ w)
sound_closing B zero k b w x = absurd x
sound_closing B (suc d) k b w (inl x) = ((record { bytes = b ∷ x.1.0.0.bytes; pair = closes_in B b x.1.0.0.bytes (suc d) x.0 x.1.0.0.pair }, x.1.0.1), ap (λ (l : List ℕ). b ∷ l) x.1.1)
sound_closing B (suc d) k b w (inr x) = absurd x

-- what the linear form says may follow does
unfoldable pub sound : (r : Re) (k : Stack) (b : ℕ) (w : List ℕ) → Le (lf r k) b w → LS (r ∷ k) (b ∷ w)
sound eps k b w x = absurd x
sound (cls c) k b w (inl x) = ((record { val = b; is_in = x.0 }, x.1.0), ap (λ (l : List ℕ). b ∷ l) x.1.1)
sound (cls c) k b w (inr x) = absurd x
sound (seq r s) k b w x =
    either
    (λ y. let z = sound r (s ∷ k) b w y in (((z.0.0, z.0.1.0), z.0.1.1), z.1))
    (λ y.
    let nl = le_when (null r) (lf s k) b w y in
    let z = sound s k b w nl.1 in
    let o = empty r nl.0 in
    (((o.0, z.0.0), z.0.1), o.1 (stext (s ∷ k) z.0) ∙ z.1))
    (le_split (lf r (s ∷ k)) (when_n (null r) (lf s k)) b w x)
sound (alt r s) k b w x =
    either
    (λ y. let z = sound r k b w y in ((inl z.0.0, z.0.1), z.1))
    (λ y. let z = sound s k b w y in ((inr z.0.0, z.0.1), z.1))
    (le_split (lf r k) (lf s k) b w x)
sound (star r) k b w x =
    let z = sound r (star r ∷ k) b w x in ((z.0.0 ∷ z.0.1.0, z.0.1.1), z.1)
sound (nest B d) k b w (inl x) = ((record { bytes = b ∷ x.1.0.0.bytes; pair = plain_in B b x.1.0.0.bytes d x.0 x.1.0.0.pair }, x.1.0.1), ap (λ (l : List ℕ). b ∷ l) x.1.1)
sound (nest B d) k b w (inr (inl x)) = ((record { bytes = b ∷ x.1.0.0.bytes; pair = opens_in B b x.1.0.0.bytes d x.0 x.1.0.0.pair }, x.1.0.1), ap (λ (l : List ℕ). b ∷ l) x.1.1)
sound (nest B d) k b w (inr (inr x)) = sound_closing B d k b w x

-- brackets: a text is a tree, and the way that a byte goes on leads to it
pub nested_path : {B : Brackets} {d : ℕ} (x y : Nested B d) → x.bytes ≡ y.bytes → x ≡ y
nested_path {B} {d} x y p = λ i. record { bytes = p i; pair = is_prop→PathP (λ j. T (paired B (p j) d)) (λ j. T_prop (paired B (p j) d)) x.pair y.pair i }

module _ (B : Brackets) (k : Stack) (b : ℕ) (w : List ℕ) (x : ℕ) (xs : List ℕ) (u : STree k) (e : x ∷ (xs ++ stext k u) ≡ b ∷ w) where
  moved : (c : List Rng) → T (in_c c x) → T (in_c c b)
  moved c t = subst (λ (y : ℕ). T (in_c c y)) (head-eq_of_cons-eq e) t

  same : (d : ℕ) (p : T (paired B (b ∷ xs) d)) (q : T (paired B (x ∷ xs) d)) → ◌≡◌ {A = STree (nest B d ∷ k)} (record { bytes = b ∷ xs; pair = p }, u) (record { bytes = x ∷ xs; pair = q }, u)
  same d p q = λ i. (nested_path (record { bytes = b ∷ xs; pair = p }) (record { bytes = x ∷ xs; pair = q }) (ap (λ (y : ℕ). y ∷ xs) (sym (head-eq_of_cons-eq e))) i, u)

  next_closing : (d : ℕ) → T (in_c B.closes x) → T (one_fewer (paired B xs) d) → (q : T (paired B (x ∷ xs) d)) → (y : Le (closing B d k) b w) × ((sound_closing B d k b w y).0 ≡ (record { bytes = x ∷ xs; pair = q }, u))
  unfolding sound_closing
  next_closing zero s t q = absurd t
  next_closing (suc d) s t q = (inl (moved B.closes s, ((record { bytes = xs; pair = t }, u), tail-eq_of_cons-eq e)), same (suc d) _ q)

  pub next_nest : (d : ℕ) (q : T (paired B (x ∷ xs) d)) → (y : Le (lf (nest B d) k) b w) × ((sound (nest B d) k b w y).0 ≡ (record { bytes = x ∷ xs; pair = q }, u))
  unfolding sound
  next_nest d q =
      either
      (λ y.
      (inl (moved B.plain (and_0 (in_c B.plain x) (paired B xs d) y), ((record { bytes = xs; pair = and_1 (in_c B.plain x) (paired B xs d) y }, u), tail-eq_of_cons-eq e)), same d _ q))
      (λ z.
      either
      (λ y.
      (inr (inl (moved B.opens (and_0 (in_c B.opens x) (paired B xs (suc d)) y), ((record { bytes = xs; pair = and_1 (in_c B.opens x) (paired B xs (suc d)) y }, u), tail-eq_of_cons-eq e))), same d _ q))
      (λ y.
      let r = next_closing d (and_0 (in_c B.closes x) (one_fewer (paired B xs) d) y) (and_1 (in_c B.closes x) (one_fewer (paired B xs) d) y) q in
      (inr (inr r.0), r.1))
      (or_e (in_c B.opens x && paired B xs (suc d)) (in_c B.closes x && one_fewer (paired B xs) d) z))
      (or_e (in_c B.plain x && paired B xs d) ((in_c B.opens x && paired B xs (suc d)) || (in_c B.closes x && one_fewer (paired B xs) d)) q)

-- and nothing else
abbrev Comp : Re → Type 0
Comp r = (k : Stack) (b : ℕ) (w : List ℕ) (t : Tree r) (u : STree k) → text r t (stext k u) ≡ b ∷ w → Le (lf r k) b w ⊎ (T (null r) × (stext k u ≡ b ∷ w))

comp_star : (r : Re) → Comp r → (k : Stack) (b : ℕ) (w : List ℕ) (t : List (Tree r)) (u : STree k) → texts (text r) t (stext k u) ≡ b ∷ w → Le (lf r (star r ∷ k)) b w ⊎ (Unit {0} × (stext k u ≡ b ∷ w))
comp_star r h k b w [] u e = inr (tt, e)
comp_star r h k b w (x ∷ xs) u e = either inl (λ y. comp_star r h k b w xs u y.1) (h (star r ∷ k) b w x (xs, u) e)

comp_nest : (B : Brackets) (d : ℕ) (k : Stack) (b : ℕ) (w : List ℕ) (l : List ℕ) (p : T (paired B l d)) (u : STree k) → l ++ stext k u ≡ b ∷ w → Le (lf (nest B d) k) b w ⊎ (T (none_open d) × (stext k u ≡ b ∷ w))
comp_nest B d k b w [] p u e = inr (p, e)
comp_nest B d k b w (x ∷ xs) p u e = inl (next_nest B k b w x xs u e d p).0

complete : (r : Re) → Comp r
complete eps k b w t u e = inr (tt, e)
complete (cls c) k b w t u e =
    inl (inl (subst (λ (x : ℕ). T (in_c c x)) (head-eq_of_cons-eq e) t.is_in, (u, tail-eq_of_cons-eq e)))
complete (seq r s) k b w t u e =
    either
    (λ y. inl (le_left (lf r (s ∷ k)) (when_n (null r) (lf s k)) b w y))
    (λ y.
    either
    (λ z. inl (le_right (lf r (s ∷ k)) (when_n (null r) (lf s k)) b w (when_le (null r) (lf s k) b w y.0 z)))
    (λ z. inr (and_i (null r) (null s) y.0 z.0, z.1))
    (complete s k b w t.1 u y.1))
    (complete r (s ∷ k) b w t.0 (t.1, u) e)
complete (alt r s) k b w (inl t) u e =
    either
    (λ y. inl (le_left (lf r k) (lf s k) b w y))
    (λ y. inr (or_l (null r) (null s) y.0, y.1))
    (complete r k b w t u e)
complete (alt r s) k b w (inr t) u e =
    either
    (λ y. inl (le_right (lf r k) (lf s k) b w y))
    (λ y. inr (or_r (null r) (null s) y.0, y.1))
    (complete s k b w t u e)
complete (star r) k b w t u e = comp_star r (complete r) k b w t u e
complete (nest B d) k b w t u e = comp_nest B d k b w t.bytes t.pair u e

unfoldable pub sound_stack : (k : Stack) (b : ℕ) (w : List ℕ) → Le (lfs k) b w → LS k (b ∷ w)
sound_stack [] b w x = absurd x
sound_stack (r ∷ k) b w x =
    either
    (sound r k b w)
    (λ y.
    let nl = le_when (null r) (lfs k) b w y in
    let z = sound_stack k b w nl.1 in
    let o = empty r nl.0 in
    ((o.0, z.0), o.1 (stext k z.0) ∙ z.1))
    (le_split (lf r k) (when_n (null r) (lfs k)) b w x)

pub complete_stack : (k : Stack) (b : ℕ) (w : List ℕ) (u : STree k) → stext k u ≡ b ∷ w → Le (lfs k) b w
complete_stack [] b w u e = absurd (nil≢cons e)
complete_stack (r ∷ k) b w u e =
    either
    (λ y. le_left (lf r k) (when_n (null r) (lfs k)) b w y)
    (λ y. le_right (lf r k) (when_n (null r) (lfs k)) b w (when_le (null r) (lfs k) b w y.0 (complete_stack k b w u.1 y.1)))
    (complete r k b w u.0 u.1 e)

-- the empty text
abbrev pub nulls : Stack → Bool
nulls [] = true
nulls (r ∷ k) = null r && nulls k

nil_star : (r : Re) (h : (t : Tree r) (k : List ℕ) → text r t k ≡ [] → T (null r) × (k ≡ [])) (t : List (Tree r)) (k : List ℕ) → texts (text r) t k ≡ [] → k ≡ []
nil_star r h [] k e = e
nil_star r h (x ∷ xs) k e = nil_star r h xs k (h x (texts (text r) xs k) e).1

nil_nest : (B : Brackets) (d : ℕ) (l : List ℕ) (p : T (paired B l d)) (k : List ℕ) → l ++ k ≡ [] → T (none_open d) × (k ≡ [])
nil_nest B d [] p k e = (p, e)
nil_nest B d (x ∷ xs) p k e = absurd (cons≢nil e)

nil : (r : Re) (t : Tree r) (k : List ℕ) → text r t k ≡ [] → T (null r) × (k ≡ [])
nil eps t k e = (tt, e)
nil (cls c) t k e = absurd (cons≢nil e)
nil (seq r s) t k e =
    let x = nil r t.0 (text s t.1 k) e in
    let y = nil s t.1 k x.1 in
    (and_i (null r) (null s) x.0 y.0, y.1)
nil (alt r s) (inl t) k e = let x = nil r t k e in (or_l (null r) (null s) x.0, x.1)
nil (alt r s) (inr t) k e = let x = nil s t k e in (or_r (null r) (null s) x.0, x.1)
nil (star r) t k e = (tt, nil_star r (nil r) t k e)
nil (nest B d) t k e = nil_nest B d t.bytes t.pair k e

pub nulls_sound : (k : Stack) → T (nulls k) → LS k []
nulls_sound [] n = (tt, refl)
nulls_sound (r ∷ k) n =
    let o = empty r (and_0 (null r) (nulls k) n) in
    let z = nulls_sound k (and_1 (null r) (nulls k) n) in
    ((o.0, z.0), o.1 (stext k z.0) ∙ z.1)

pub nulls_complete : (k : Stack) → LS k [] → T (nulls k)
nulls_complete [] x = tt
nulls_complete (r ∷ k) x =
    let y = nil r x.0.0 (stext k x.0.1) x.1 in
    and_i (null r) (nulls k) y.0 (nulls_complete k (x.0.1, y.1))
