-- Text before its first line feed, and text without one. Assumes nothing.
use Prim.Native.Nat.{ℕ, zero, suc, ◌+◌}
use mathlib.Core.Path.{◌≡◌, refl, sym, ap, ap₂, ◌∙◌}
use mathlib.Core.Bool.{Bool, true, false, cond}
use mathlib.Core.List.{List, [], ◌∷◌, ◌++◌}
use native.Mathlib.Omega.{arith}
use lib.Dec.{eqb}
use lib.ListN.{length, take, length-append}
use borrow.Author.Tests.{eqb-true, eq-eqb}
use Rattle.io_parts.specs.Feeds.{before_feed}
use Rattle.io_lines.specs.Found.{Unfed}

-- the first byte of a text without line feed is none, and the rest has none
module _ (w : List ℕ) where
  first_by : (t : Bool) → cond t 0 (suc (before_feed w)) ≡ suc (length w) → t ≡ false
  first_by true e = absurd (omega (arith, e))
  first_by false e = refl

  rest_by : (t : Bool) → cond t 0 (suc (before_feed w)) ≡ suc (length w) → before_feed w ≡ length w
  rest_by true e = absurd (omega (arith, e))
  rest_by false e = omega (arith, e)

pub unfed_first : {b : ℕ} {w : List ℕ} → Unfed (b ∷ w) → eqb b 10 ≡ false
unfolding before_feed
unfed_first {b} {w} u = first_by w (eqb b 10) u.is

pub unfed_rest : {b : ℕ} {w : List ℕ} → Unfed (b ∷ w) → Unfed w
unfolding before_feed
unfed_rest {b} {w} u = record { is = rest_by w (eqb b 10) u.is }

before_cons : (b : ℕ) (w : List ℕ) → eqb b 10 ≡ false → before_feed (b ∷ w) ≡ suc (before_feed w)
unfolding before_feed
before_cons b w e = rw e

pub unfed_cons : {b : ℕ} {w : List ℕ} → eqb b 10 ≡ false → Unfed w → Unfed (b ∷ w)
unfed_cons {b} {w} e u = record { is = before_cons b w e ∙ ap suc u.is }

pub unfed_none : Unfed []
unfolding before_feed
unfed_none = record { is = refl }

-- behind a text without line feed the next one is found
pub before_append : (a c : List ℕ) → Unfed a → before_feed (a ++ c) ≡ length a + before_feed c
before_append [] c u = omega arith
before_append (b ∷ a) c u = omega (arith, before_append a c (unfed_rest u), before_cons b (a ++ c) (unfed_first u))

pub unfed_joined : {a c : List ℕ} → Unfed a → Unfed c → Unfed (a ++ c)
unfed_joined {a} {c} u v = record { is = omega (arith, before_append a c u, length-append a c, v.is) }

pub unfed_behind : {a c : List ℕ} → Unfed a → Unfed (a ++ c) → Unfed c
unfed_behind {a} {c} u v = record { is = omega (arith, before_append a c u, length-append a c, v.is) }

pub unfed_front : (k : ℕ) (a : List ℕ) → Unfed a → Unfed (take k a)
unfed_front zero a u = unfed_none
unfed_front (suc k) [] u = unfed_none
unfed_front (suc k) (b ∷ a) u = unfed_cons (unfed_first u) (unfed_front k a (unfed_rest u))

-- a text is cut at its first line feed: what stands before it, and what behind
pub record Fed (l : List ℕ) : Type 0 where
  pub before : List ℕ
  pub rest : List ℕ
  pub is : l ≡ before ++ (10 ∷ rest)
  pub unfed : Unfed before

pub data View (l : List ℕ) : Type 0 where
  feed_in : Fed l → View l
  no_feed : Unfed l → View l

module _ (b : ℕ) (w : List ℕ) where
  view_on : eqb b 10 ≡ false → View w → View (b ∷ w)
  view_on e (feed_in f) =
      feed_in
      (record {
        before = b ∷ f.before;
        rest = f.rest;
        is = ap (◌∷◌ b) f.is;
        unfed = unfed_cons e f.unfed;
      })
  view_on e (no_feed u) = no_feed (unfed_cons e u)

  view_by : (t : Bool) → eqb b 10 ≡ t → View w → View (b ∷ w)
  view_by true e v = feed_in (record { before = []; rest = w; is = ap (λ (x : ℕ). x ∷ w) (eqb-true b 10 e); unfed = unfed_none })
  view_by false e v = view_on e v

pub view : (l : List ℕ) → View l
view [] = no_feed unfed_none
view (b ∷ w) = view_by b w (eqb b 10) refl (view w)

pub before_fed : {l : List ℕ} (f : Fed l) → before_feed l ≡ length f.before
unfolding before_feed
before_fed f =
    let z : before_feed (10 ∷ f.rest) ≡ 0 = refl in
    ap before_feed f.is ∙ omega (arith, before_append f.before (10 ∷ f.rest) f.unfed)

-- the unfed beginning of a text that is cut at a line feed stands before it
pub record Split (k came line rest : List ℕ) : Type 0 where
  pub part : List ℕ
  pub joined : line ≡ k ++ part
  pub behind : came ≡ part ++ (10 ∷ rest)
  pub unfed : Unfed part

head_of : {a b : ℕ} {l m : List ℕ} → a ∷ l ≡ b ∷ m → a ≡ b
head_of e = cc

tail_of : {a b : ℕ} {l m : List ℕ} → a ∷ l ≡ b ∷ m → l ≡ m
tail_of e = cc

not_feed : (b : ℕ) → b ≡ 10 → eqb b 10 ≡ false → ⊥
not_feed b e f = let g : eqb b 10 ≡ true = eq-eqb b 10 e in let t : true ≡ false = cc in let z : ◌≡◌ {A = ℕ} 0 1 = cc in omega arith

split_on : {x y : ℕ} {k came line rest : List ℕ} → x ≡ y → Split k came line rest → Split (x ∷ k) came (y ∷ line) rest
split_on e s = record { part = s.part; joined = ap₂ ◌∷◌ (sym e) s.joined; behind = s.behind; unfed = s.unfed }

pub split : (k came line rest : List ℕ) → Unfed k → Unfed line → k ++ came ≡ line ++ (10 ∷ rest) → Split k came line rest
split [] came line rest u v e = record { part = line; joined = refl; behind = e; unfed = v }
split (x ∷ k) came [] rest u v e = absurd (not_feed x (head_of e) (unfed_first u))
split (x ∷ k) came (y ∷ line) rest u v e = split_on (head_of e) (split k came line rest (unfed_rest u) (unfed_rest v) (tail_of e))
