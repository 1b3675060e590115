-- A certified machine that counts brackets: in state q, with d brackets more open than q says. What a project proves of its machine comes from here.
-- Assumes nothing.
use Prim.Native.Nat.{ℕ, zero, suc, ◌+◌, ◌-◌, ◌<◌, ◌≤◌}
use mathlib.Core.Path.{◌≡◌, refl, sym, ap, ◌∙◌, subst}
use mathlib.Core.Bool.{Bool, true, false, cond, ◌&&◌}
use mathlib.Core.List.{List, [], ◌∷◌}
use mathlib.Core.Logic.{◌↔◌, ◌⊎◌, inl, inr}
use native.Mathlib.Omega.{arith}
use native.Mathlib.Nat.{eq-or-lt_of_le, not-suc-le-zero}
use native.Mathlib.Numerals.{add-one}
use lib.Dec.{T, ltb, ltb→lt, lt→ltb}
use Rattle.lang.specs.Re.{in_c, either}
use Rattle.lang.specs.Scan.{counted, moved}
use Rattle.lang.proofs.Deriv.{Stack, and_0, and_1, and_i}
use Rattle.lang.proofs.Same.{LA}
use Rattle.lang.proofs.Lits.{live, live→}
use Rattle.lang.proofs.Machine.{edges, takes, derive_in, derive_out, acc}
use Rattle.lang.proofs.Unique.{plain, one_tree as one-tree-of}
use Rattle.lang.proofs.Inside.{inner, inside, raise, raise_nil, raise_inside, opened, closed, same, stays}
use Rattle.lang.proofs.Certify.{Tables, Certified, res, step, deep, accepting, within, is_inner, deep_at_lem, goes as flat_goes, step_le, live_at, plain_at, acc_at}

-- the machine may be in state q with d brackets more open
pub record Stands (M : Tables) (q d : ℕ) : Type 0 where
  pub small : q < M.states
  pub flat : (d ≡ 0) ⊎ T (deep M q)

module _ (M : Tables) where
  abbrev pub move : ℕ → ℕ → ℕ → ℕ × ℕ
  move q d b = moved (deep M q) (in_c M.brackets.opens b) (in_c M.brackets.closes b) q d (step M q b)

  -- what may follow in state q with d brackets more open
  abbrev pub res_at : ℕ → ℕ → List Stack
  res_at q d = raise M.brackets d (res M q)

  is_deep : (q d : ℕ) → Stands M q d → 0 < d → T (deep M q)
  is_deep q d s h = either (λ e. absurd (omega arith)) (λ t. t) s.flat

module _ (M : Tables) (C : Certified M) where
  at_inside : (q : ℕ) (h : q < M.states) (t : T (deep M q)) (d : ℕ) → res_at M q d ≡ inside M.brackets (within M C q h t).0 d
  at_inside q h t d = ap (raise M.brackets d) (within M C q h t).1 ∙ raise_inside M.brackets (within M C q h t).0 d

  -- what holds of a state's stacks, and of any number of open brackets if of one, holds at each depth
  at_depth : (P : List Stack → Type 0) → ((k : Stack) (d : ℕ) → P (inside M.brackets k 0) → P (inside M.brackets k d)) → (q d : ℕ) → Stands M q d → P (res M q) → P (res_at M q d)
  at_depth P h q d s p =
      either
      (λ e. subst (λ (n : ℕ). P (res_at M q n)) (sym e) p)
      (λ t. let w = within M C q s.small t in subst P (sym (at_inside q s.small t d)) (h w.0 d (subst P w.1 p)))
      s.flat

  -- the three ways to go on
  module _ (q b : ℕ) (hb : b < 256) where
    goes_open : (d : ℕ) → Stands M q d → T (deep M q) → T (in_c M.brackets.opens b) → takes (edges (res_at M q d)) b ≡ res_at M q (d + 1)
    goes_open d s t o =
        ap (λ (S : List Stack). takes (edges S) b) (at_inside q s.small t d) ∙ opened M.brackets (within M C q s.small t).0 d b o (C.apart_ok b hb)
        ∙ sym (at_inside q s.small t (suc d)) ∙ ap (res_at M q) (sym (add-one d))

    goes_close : (d : ℕ) → Stands M q d → 0 < d → T (in_c M.brackets.closes b) → takes (edges (res_at M q d)) b ≡ res_at M q (d - 1)
    goes_close zero s h o = absurd (not-suc-le-zero h)
    goes_close (suc d) s h o =
        let t = is_deep M q (suc d) s h in
        let e : d ≡ suc d - 1 = omega arith in
        ap (λ (S : List Stack). takes (edges S) b) (at_inside q s.small t (suc d)) ∙ closed M.brackets (within M C q s.small t).0 d b o (C.apart_ok b hb)
        ∙ sym (at_inside q s.small t d) ∙ ap (res_at M q) e

    module _ (no-open : T (deep M q) → T (in_c M.brackets.opens b) → ⊥) where
      goes_on_lem : (d : ℕ) → Stands M q d → (0 < d → T (in_c M.brackets.closes b) → ⊥) → takes (edges (res_at M q d)) b ≡ res_at M (step M q b) d
      goes_on_lem zero s g = flat_goes M C q b s.small hb no-open
      goes_on_lem (suc d) s g =
          let h : 0 < suc d = omega arith in
          let t = is_deep M q (suc d) s h in
          let w = within M C q s.small t in
          ap (λ (S : List Stack). takes (edges S) b) (at_inside q s.small t (suc d)) ∙ same M.brackets w.0 (suc d) b (no-open t) (g h)
          ∙ ap (λ (S : List Stack). raise M.brackets (suc d) (takes (edges S) b)) (sym w.1) ∙ ap (raise M.brackets (suc d)) (flat_goes M C q b s.small hb no-open)

      -- and then the table's next state is dead, or a bracket is open in it too
      stands : (d : ℕ) → Stands M q d → (0 < d → T (in_c M.brackets.closes b) → ⊥) → step M q b < M.states → Stands M (step M q b) d
      stands zero s g new = record { small = new; flat = inl refl }
      stands (suc d) s g new =
          let h : 0 < suc d = omega arith in
          let t = is_deep M q (suc d) s h in
          let w = within M C q s.small t in
          let p = sym (flat_goes M C q b s.small hb no-open) ∙ ap (λ (S : List Stack). takes (edges S) b) w.1 in
          record {
            small = new;
            flat =
                either
                (λ e. inr (subst T (ap (inner M.brackets) (w.1 ∙ sym e ∙ sym p) ∙ deep_at_lem M C (step M q b) new) (is_inner M C q s.small t)))
                (λ e. absurd (subst (λ (S : List Stack). T (live S)) (p ∙ e) (live_at M C (step M q b) new)))
                (stays M.brackets w.0 b (no-open t) (g h));
          }

  -- a bracket less, or as many
  lower : (q d : ℕ) → Stands M q d → Stands M q (d - 1)
  lower q d s = record { small = s.small; flat = either (λ e. inl (omega arith)) inr s.flat }

  cond_case : {A : Type 0} (P : A → Type 0) (x : Bool) (a b : A) → (T x → P a) → ((T x → ⊥) → P b) → P (cond x a b)
  cond_case P true a b f g = f tt
  cond_case P false a b f g = g (λ t. t)

  -- a move leads to the stacks that may follow, and to a state that is dead or may be stood in
  abbrev Leads : ℕ → ℕ → ℕ → ℕ × ℕ → Type 0
  Leads q d b p = (takes (edges (res_at M q d)) b ≡ res_at M p.0 p.1) × ((p.0 ≡ M.states) ⊎ Stands M p.0 p.1)

  module _ (q d b : ℕ) (s : Stands M q d) (hb : b < 256) where
    abbrev o : Bool
    o = in_c M.brackets.opens b

    abbrev z : Bool
    z = in_c M.brackets.closes b

    -- by the table: no bracket is counted
    leads_on : (T (deep M q) → T o → ⊥) → (0 < d → T z → ⊥) → Leads q d b (step M q b, d)
    leads_on f g = (goes_on_lem q b hb f d s g, either inl (λ l. inr (stands q b hb f d s g l)) (eq-or-lt_of_le (step_le M C q b s.small hb)))

    leads_deep : T (deep M q) → Leads q d b (counted o z q d (step M q b))
    leads_deep t =
        cond_case (Leads q d b) o (q, d + 1) (cond (ltb 0 d && z) (q, d - 1) (step M q b, d))
        (λ u. (goes_open q b hb d s t u, inr (record { small = s.small; flat = inr t })))
        (λ n.
        cond_case (Leads q d b) (ltb 0 d && z) (q, d - 1) (step M q b, d)
        (λ u. (goes_close q b hb d s (ltb→lt 0 d (and_0 (ltb 0 d) z u)) (and_1 (ltb 0 d) z u), inr (lower q d s)))
        (λ m. leads_on (λ t' u. n u) (λ h u. m (and_i (ltb 0 d) z (lt→ltb 0 d h) u))))

    leads : Leads q d b (move M q d b)
    leads =
        cond_case (Leads q d b) (deep M q) (counted o z q d (step M q b)) (step M q b, d) leads_deep
        (λ n. leads_on (λ t u. n t) (λ h u. n (is_deep M q d s h)))

  -- THE INTERFACE: where a move leads; what a state goes on to, accepts and tells apart
  pub goes : (q d b : ℕ) → Stands M q d → b < 256 → takes (edges (res_at M q d)) b ≡ res_at M (move M q d b).0 (move M q d b).1
  goes q d b s hb = (leads q d b s hb).0

  pub goes_in : (q d b : ℕ) → Stands M q d → b < 256 → ((move M q d b).0 ≡ M.states → ⊥) → Stands M (move M q d b).0 (move M q d b).1
  goes_in q d b s hb ne = either (λ e. absurd (ne e)) (λ h. h) (leads q d b s hb).1

  pub move_le : (q d b : ℕ) → Stands M q d → b < 256 → (move M q d b).0 ≤ M.states
  move_le q d b s hb = either (λ e. omega arith) (λ h. omega (arith, h.small)) (leads q d b s hb).1

  pub dead_at : (q d : ℕ) → q ≡ M.states → res_at M q d ≡ []
  dead_at q d e = ap (raise M.brackets d) (ap (res M) e ∙ C.dead) ∙ raise_nil M.brackets d

  pub law : (q d b : ℕ) → Stands M q d → b < 256 → (w : List ℕ) → LA (res_at M (move M q d b).0 (move M q d b).1) w ↔ LA (res_at M q d) (b ∷ w)
  law q d b s hb w =
      let e = goes q d b s hb in (
        λ x. derive_out (res_at M q d) b w (subst (λ (S : List Stack). LA S w) (sym e) x),
        λ x. subst (λ (S : List Stack). LA S w) e (derive_in (res_at M q d) b w x),
      )

  -- each state goes on to some end, at each depth
  pub alive : (q d : ℕ) → Stands M q d → (w : List ℕ) × LA (res_at M q d) w
  alive q d s = live→ (res_at M q d) (at_depth (λ S. T (live S)) (λ k n t. t) q d s (live_at M C q s.small))

  -- and accepts at each depth what it accepts at one: nothing, where a bracket is open
  pub ends : (q d : ℕ) → Stands M q d → acc (res_at M q d) ≡ accepting M q
  ends q d s = at_depth (λ S. acc S ≡ accepting M q) (λ k n t. t) q d s (acc_at M C q s.small)

  -- a text has one tree
  abbrev Met : List Stack → Type 0
  Met S = (q : ℕ) × (d : ℕ) × Stands M q d × (S ≡ res_at M q d)

  met_test : (S : List Stack) → Met S → T (plain S)
  met_test S (q, d, s, e) = subst (λ (Z : List Stack). T (plain Z)) (sym e) (at_depth (λ Z. T (plain Z)) (λ k n t. t) q d s (plain_at M C q s.small))

  met_next : (S : List Stack) (b : ℕ) → Met S → b < 256 → Met (takes (edges S) b) ⊎ (takes (edges S) b ≡ [])
  met_next S b (q, d, s, e) hb =
      let p = ap (λ (Z : List Stack). takes (edges Z) b) e ∙ goes q d b s hb in
      either (λ z. inr (p ∙ dead_at (move M q d b).0 (move M q d b).1 z)) (λ z. inl ((move M q d b).0, (move M q d b).1, z, p)) (leads q d b s hb).1

  pub one_tree : (w : List ℕ) (q d : ℕ) → Stands M q d → IsProp (LA (res_at M q d) w)
  one_tree w q d s = one-tree-of Met met_test met_next w (res_at M q d) (q, d, s, refl)
