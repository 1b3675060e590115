-- A certified machine after a text that some text of its language begins with, and after bytes that are no brackets: the table alone says whether it
-- goes on. Assumes nothing.
use Prim.Native.Nat.{ℕ, ◌-◌, ◌<◌}
use mathlib.Core.Path.{◌≡◌, refl, subst}
use mathlib.Core.Bool.{Bool, true, false, cond, not, ◌&&◌, ◌||◌}
use mathlib.Core.List.{List, [], ◌∷◌, ◌++◌}
use lib.Dec.{T, ltb, ltb→lt, lt→ltb}
use Rattle.lang.specs.Re.{in_c}
use Rattle.lang.specs.Scan.{moved}
use Rattle.lang.proofs.Deriv.{Stack, and_0, and_1, and_i}
use Rattle.lang.proofs.Same.{LA}
use Rattle.lang.proofs.Machine.{acc_complete}
use Rattle.lang.proofs.Certify.{Tables, Certified, step, deep, accepting}
use Rattle.lang.proofs.Deep.{Stands, move, res_at, goes_in, dead_at, law, ends}
use Rattle.editions.proofs.Bytes.{each_b, low}

-- a machine that stood in state q, with d brackets more open, stands somewhere after the text p
pub record Stood (M : Tables) (q d : ℕ) (p : List ℕ) : Type 0 where
  pub state : ℕ
  pub depth : ℕ
  pub stand : Stands M state depth
  pub goes : (w : List ℕ) → LA (res_at M q d) (p ++ w) → LA (res_at M state depth) w

-- no bracket is counted at bytes that are none
moved_level : (x o z : Bool) (q d t : ℕ) → T (not (o || z)) → moved x o z q d t ≡ (t, d)
moved_level false o z q d t h = refl
moved_level true true z q d t h = absurd h
moved_level true false true q d t h = absurd h
moved_level true false false q d t h = by (ltb 0 d)
  where
    by : (y : Bool) → ◌≡◌ {A = ℕ × ℕ} (cond (y && false) (q, d - 1) (t, d)) (t, d)
    by true = refl
    by false = refl

module _ (M : Tables) where
  abbrev bracket : ℕ → Bool
  bracket b = in_c M.brackets.opens b || in_c M.brackets.closes b

  -- a byte that is no bracket
  abbrev pub level : ℕ → Bool
  level b = low b && not (bracket b)

  -- by the table these bytes lead from state q to the end of a text
  abbrev pub taken : ℕ → List ℕ → Bool
  taken q [] = accepting M q
  taken q (b ∷ w) = ltb (step M q b) M.states && taken (step M q b) w

module _ (M : Tables) (C : Certified M) where
  -- where something follows, the machine is not dead
  not_dead : (q d : ℕ) (w : List ℕ) → LA (res_at M q d) w → q ≡ M.states → ⊥
  not_dead q d w x e = subst (λ (S : List Stack). LA S w) (dead_at M C q d e) x

  pub after : (p : List ℕ) → T (each_b low p) → (q d : ℕ) → Stands M q d → (w : List ℕ) → LA (res_at M q d) (p ++ w) → Stood M q d p
  after [] t q d s w x = record { state = q; depth = d; stand = s; goes = λ v y. y }
  after (b ∷ p) t q d s w x =
      let hb = ltb→lt b 256 (and_0 (low b) (each_b low p) t) in
      let y = (law M C q d b s hb (p ++ w)).1 x in
      let s' = goes_in M C q d b s hb (not_dead (move M q d b).0 (move M q d b).1 (p ++ w) y) in
      let r = after p (and_1 (low b) (each_b low p) t) (move M q d b).0 (move M q d b).1 s' w y in
      record { state = r.state; depth = r.depth; stand = r.stand; goes = λ v z. r.goes v ((law M C q d b s hb (p ++ v)).1 z) }

  -- one byte that is no bracket
  module _ (q d b : ℕ) (s : Stands M q d) (h : T (level M b)) (w : List ℕ) (x : LA (res_at M q d) (b ∷ w)) where
    hb : b < 256
    hb = ltb→lt b 256 (and_0 (low b) (not (bracket M b)) h)

    moves : move M q d b ≡ (step M q b, d)
    moves =
        moved_level (deep M q) (in_c M.brackets.opens b) (in_c M.brackets.closes b) q d (step M q b) (and_1 (low b) (not (bracket M b)) h)

    follows : LA (res_at M (step M q b) d) w
    follows = subst (λ (p : ℕ × ℕ). LA (res_at M p.0 p.1) w) moves ((law M C q d b s hb w).1 x)

    pub stands : Stands M (step M q b) d
    stands =
        subst (λ (p : ℕ × ℕ). Stands M p.0 p.1) moves
        (goes_in M C q d b s hb (not_dead (move M q d b).0 (move M q d b).1 w ((law M C q d b s hb w).1 x)))

  pub taken_all : (w : List ℕ) → T (each_b (level M) w) → (q d : ℕ) → Stands M q d → LA (res_at M q d) w → T (taken M q w)
  taken_all [] t q d s x = subst T (ends M C q d s) (acc_complete (res_at M q d) x)
  taken_all (b ∷ w) t q d s x =
      let h = and_0 (level M b) (each_b (level M) w) t in
      let s' = stands q d b s h w x in
      and_i (ltb (step M q b) M.states) (taken M (step M q b) w) (lt→ltb (step M q b) M.states s'.small)
      (taken_all w (and_1 (level M b) (each_b (level M) w) t) (step M q b) d s' (follows q d b s h w x))
