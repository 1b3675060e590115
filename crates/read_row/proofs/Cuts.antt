-- Bytes are cut at their first tab in one way, and in some way. Assumes nothing.
use Prim.Native.Nat.{ℕ, ◌+◌}
use mathlib.Core.Path.{◌≡◌, refl, sym, ap, ap₂, ◌∙◌, subst}
use mathlib.Core.Bool.{Bool, true, false, not}
use mathlib.Core.List.{List, [], ◌∷◌, ◌++◌, head-eq_of_cons-eq, tail-eq_of_cons-eq, cons≢nil}
use lib.Dec.{T, eqb}
use lib.ListN.{length}
use borrow.Author.Tests.{eqb-true, eq-eqb, ne_eqb}
use Rattle.lang.proofs.Deriv.{and_0, and_1, and_i}
use Rattle.rules.specs.RowAnswers.{lacks, Cut, at_tab, no_tab}

-- ---- bytes that lack one

-- the first of them is another
pub lacked : (b c : ℕ) (w : List ℕ) → T (lacks b (c ∷ w)) → c ≡ b → ⊥
lacked b c w t e = subst (λ (x : Bool). T (not x)) (eq-eqb c b e) (and_0 (not (eqb c b)) (lacks b w) t)

pub lacks_rest : (b c : ℕ) (w : List ℕ) → T (lacks b (c ∷ w)) → T (lacks b w)
lacks_rest b c w t = and_1 (not (eqb c b)) (lacks b w) t

other : (b c : ℕ) → (c ≡ b → ⊥) → T (not (eqb c b))
other b c n = subst (λ (x : Bool). T (not x)) (sym (ne_eqb c b n)) tt

pub lacks_more : (b c : ℕ) (w : List ℕ) → (c ≡ b → ⊥) → T (lacks b w) → T (lacks b (c ∷ w))
lacks_more b c w n t = and_i (not (eqb c b)) (lacks b w) (other b c n) t

pub lacks_append : (b : ℕ) (v w : List ℕ) → T (lacks b v) → T (lacks b w) → T (lacks b (v ++ w))
lacks_append b [] w f g = g
lacks_append b (c ∷ v) w f g = lacks_more b c (v ++ w) (lacked b c v f) (lacks_append b v w (lacks_rest b c v f) g)

-- ---- in one way

pub cut_same : (b : ℕ) (v w x y : List ℕ) → T (lacks b v) → T (lacks b w) → v ++ (b ∷ x) ≡ w ++ (b ∷ y) → (v ≡ w) × (x ≡ y)
cut_same b [] [] x y f g e = (refl, tail-eq_of_cons-eq e)
cut_same b [] (c ∷ w) x y f g e = absurd (lacked b c w g (sym (head-eq_of_cons-eq e)))
cut_same b (a ∷ v) [] x y f g e = absurd (lacked b a v f (head-eq_of_cons-eq e))
cut_same b (a ∷ v) (c ∷ w) x y f g e =
    let r = cut_same b v w x y (lacks_rest b a v f) (lacks_rest b c w g) (tail-eq_of_cons-eq e) in
    (ap₂ ◌∷◌ (head-eq_of_cons-eq e) r.0, r.1)

-- what lacks a byte has no place to be cut at
pub no_cut : (b : ℕ) (v w x : List ℕ) → T (lacks b w) → v ++ (b ∷ x) ≡ w → ⊥
no_cut b [] [] x g e = cons≢nil e
no_cut b [] (c ∷ w) x g e = lacked b c w g (sym (head-eq_of_cons-eq e))
no_cut b (a ∷ v) [] x g e = cons≢nil e
no_cut b (a ∷ v) (c ∷ w) x g e = no_cut b v w x (lacks_rest b c w g) (tail-eq_of_cons-eq e)

-- one column, one rest, one place
pub record SameCut (v w x y : List ℕ) (p q : ℕ) : Type 0 where
  pub column : v ≡ w
  pub more : x ≡ y
  pub place : p ≡ q

pub cut_one : {s v w x y : List ℕ} {p q : ℕ} → Cut s v x p → Cut s w y q → SameCut v w x y p q
cut_one (at_tab v x f e) (at_tab w y g d) =
    let r = cut_same 9 v w x y f g (e ∙ sym d) in
    record { column = r.0; more = r.1; place = ap (λ (l : List ℕ). length l + 1) r.0 }
cut_one {s} (at_tab v x f e) (no_tab g) = absurd (no_cut 9 v s x g e)
cut_one {s} (no_tab f) (at_tab w y g d) = absurd (no_cut 9 w s y f d)
cut_one (no_tab f) (no_tab g) = record { column = refl; more = refl; place = refl }

-- ---- in some way

pub record Columns (s : List ℕ) : Type 0 where
  pub column : List ℕ
  pub more : List ℕ
  pub place : ℕ
  pub is : Cut s column more place

pub cut_some : (s : List ℕ) → Columns s
cut_some [] = record { column = []; more = []; place = 0; is = no_tab tt }
cut_some (b ∷ s) = by (eqb b 9) refl (cut_some s)
  where
    go : {v x : List ℕ} {p : ℕ} → (b ≡ 9 → ⊥) → Cut s v x p → Columns (b ∷ s)
    go n (at_tab v x f e) =
        record { column = b ∷ v; more = x; place = length (b ∷ v) + 1; is = at_tab (b ∷ v) x (lacks_more 9 b v n f) (ap (λ (l : List ℕ). b ∷ l) e) }
    go n (no_tab f) = record { column = b ∷ s; more = []; place = length (b ∷ s); is = no_tab (lacks_more 9 b s n f) }

    by : (t : Bool) → eqb b 9 ≡ t → Columns s → Columns (b ∷ s)
    by true e c = record { column = []; more = s; place = 1; is = at_tab [] s tt (ap (λ (x : ℕ). x ∷ s) (sym (eqb-true b 9 e))) }
    by false e c = go (λ q. absurd (subst T (sym (eq-eqb b 9 q) ∙ e) tt)) c.is
