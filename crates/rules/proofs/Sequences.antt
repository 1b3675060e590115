-- The test for sequences is the rule. Where it passes, what it takes from a phase on is what is left of a sequence there (`Left`), byte by byte
-- from the end; that it passes the text of a sequence is proved beside the count (Residues). Assumes nothing.
use Prim.Native.Nat.{ℕ, zero, suc, ◌-◌}
use mathlib.Core.Path.{◌≡◌, refl, sym, ap, ap₂, ◌∙◌, subst}
use mathlib.Core.Bool.{Bool, true, false, cond}
use mathlib.Core.List.{List, [], ◌∷◌, ◌++◌, append_assoc, append-nil}
use mathlib.Core.Logic.{◌↔◌}
use native.Mathlib.Omega.{arith}
use lib.Dec.{T, eqb}
use borrow.Author.Tests.{eqb-true}
use Rattle.lang.specs.Re.{in_c, paired, none_open}
use Rattle.lang.specs.Parts.{Opt, silent, written, opt_text, Some, items, flat}
use Rattle.lang.proofs.Deriv.{plain_in, opens_in, closes_in}
use Rattle.lang.proofs.Ranges.{in_range}
use Rattle.lang.proofs.Tests.{t_is, is_t}
use Rattle.rules.specs.Bytes.{bytes, capital}
use Rattle.rules.specs.Texts.{name_brackets, Name, is_name, bracket_text}
use Rattle.rules.specs.Sequences.{Residue, residue_text, back_text, IsSequence, Phase, nothing, front_name, front_dash, residue, back_dash, back_name, broken, leads, depth_behind, outside_names, behind_closing, phase_behind, count_behind, read_from, is_sequence}
use Rattle.rules.proofs.Residues.{opens, closes, plain, sequence_passes}

-- ---- what is left of a sequence in each phase

abbrev Left : Phase → List ℕ → Type 0
Left nothing w = IsSequence w
Left front_name w = (rs : Some Residue) × (back : Opt Name) × (bytes "-" ++ (flat residue_text (items rs) ++ opt_text back_text back) ≡ w)
Left front_dash w = (rs : Some Residue) × (back : Opt Name) × (flat residue_text (items rs) ++ opt_text back_text back ≡ w)
Left residue w = (ns : List Name) × (rs : List Residue) × (back : Opt Name) × (flat bracket_text ns ++ (flat residue_text rs ++ opt_text back_text back) ≡ w)
Left back_dash w = (n : Name) × (bracket_text n ≡ w)
Left back_name w = [] ≡ w
Left broken w = ⊥

module _ (b : ℕ) (w : List ℕ) (h : T (in_c capital b)) where
  -- the residue of a capital, with its names
  abbrev lettered : List Name → Residue
  lettered ns = record { letter = record { val = b; is_in = h }; names = ns }

  joined : (ns : List Name) (rs : List Residue) (back : Opt Name) → flat bracket_text ns ++ (flat residue_text rs ++ opt_text back_text back) ≡ w
      → flat residue_text (lettered ns ∷ rs) ++ opt_text back_text back ≡ b ∷ w
  joined ns rs back e = ap (λ (l : List ℕ). b ∷ l) (append_assoc (flat bracket_text ns) (flat residue_text rs) (opt_text back_text back) ∙ e)

  before_letter : (p : Phase) → Left (leads p).letter w → Left p (b ∷ w)
  before_letter nothing (ns, rs, back, e) = (record { front = silent; residues = record { first = lettered ns; more = rs }; back = back }, joined ns rs back e)
  before_letter front_name x = absurd x
  before_letter front_dash (ns, rs, back, e) = (record { first = lettered ns; more = rs }, back, joined ns rs back e)
  before_letter residue (ns, rs, back, e) = ([], lettered ns ∷ rs, back, joined ns rs back e)
  before_letter back_dash x = absurd x
  before_letter back_name x = absurd x
  before_letter broken x = absurd x

before_dash : (p : Phase) (w : List ℕ) → Left (leads p).dash w → Left p (45 ∷ w)
before_dash nothing w x = absurd x
before_dash front_name w (rs, back, e) = (rs, back, ap (λ (l : List ℕ). 45 ∷ l) e)
before_dash front_dash w x = absurd x
before_dash residue w (n, e) = ([], [], written n, ap (λ (l : List ℕ). 45 ∷ l) e)
before_dash back_dash w x = absurd x
before_dash back_name w x = absurd x
before_dash broken w x = absurd x

before_name : (p : Phase) (n : Name) (k : List ℕ) → Left (leads p).name k → Left p (bracket_text n ++ k)
before_name nothing n k (rs, back, e) = (
  record { front = written n; residues = rs; back = back },
  append_assoc (bracket_text n) (45 ∷ []) (flat residue_text (items rs) ++ opt_text back_text back) ∙ ap (λ (l : List ℕ). bracket_text n ++ l) e,
)
before_name front_name n k x = absurd x
before_name front_dash n k x = absurd x
before_name residue n k (ns, rs, back, e) =
    (n ∷ ns, rs, back, append_assoc (bracket_text n) (flat bracket_text ns) (flat residue_text rs ++ opt_text back_text back) ∙ ap (λ (l : List ℕ). bracket_text n ++ l) e)
before_name back_dash n k e = (n, sym (append-nil (bracket_text n)) ∙ ap (λ (l : List ℕ). bracket_text n ++ l) e)
before_name back_name n k x = absurd x
before_name broken n k x = absurd x

-- ---- the same with a name open

-- a name has a byte, where it must
abbrev Filled : Bool → List ℕ → Type 0
Filled false n = Unit {0}
Filled true [] = ⊥
Filled true (b ∷ n) = Unit {0}

-- d brackets are open beside the name's own: the rest of the name, its `]`, and what is left behind it
record Open (p : Phase) (d : ℕ) (empty : Bool) (w : List ℕ) : Type 0 where
  rest : List ℕ
  pairs : T (paired name_brackets rest d)
  filled : Filled empty rest
  behind : List ℕ
  left : Left (leads p).name behind
  is : rest ++ (93 ∷ behind) ≡ w

-- with d brackets open
abbrev LeftAt : Phase → ℕ → Bool → List ℕ → Type 0
LeftAt p zero empty w = Left p w
LeftAt p (suc d) empty w = Open p d empty w

name_of : (n : List ℕ) → Filled true n → T (paired name_brackets n 0) → T (is_name n)
name_of [] f h = absurd f
name_of (b ∷ n) f h = h

-- before the `[` of a name
before_open : (p : Phase) (b : ℕ) (w : List ℕ) → T (opens b) → Open p 0 true w → Left p (b ∷ w)
before_open p b w h o =
    let i = in_range 91 91 b (t_is (opens b) h) in
    let e : 91 ≡ b = omega arith in
    let n : Name = record { bytes = o.rest; good = name_of o.rest o.filled o.pairs } in
    subst (Left p) (ap₂ (λ (x : ℕ) (l : List ℕ). x ∷ l) e (append_assoc o.rest (93 ∷ []) o.behind ∙ o.is)) (before_name p n o.behind o.left)

-- before a byte that goes on with the name
before_inside : (p : Phase) (d m b : ℕ) (w : List ℕ) (empty : Bool) → ((l : List ℕ) → T (paired name_brackets l m) → T (paired name_brackets (b ∷ l) d)) → Open p m false w → Open p d empty (b ∷ w)
before_inside p d m b w empty f o =
    record { rest = b ∷ o.rest; pairs = f o.rest o.pairs; filled = some empty; behind = o.behind; left = o.left; is = ap (λ (l : List ℕ). b ∷ l) o.is }
  where
    some : (x : Bool) → Filled x (b ∷ o.rest)
    some true = tt
    some false = tt

-- ---- byte by byte

module _ (p : Phase) (b : ℕ) (w : List ℕ) where
  -- before a byte outside names
  before_outside : (empty : Bool) → LeftAt (phase_behind p 0 empty b) (depth_behind 0 b) true w → Left p (b ∷ w)
  before_outside empty = by (opens b) (closes b) refl
    where
      none_open_lem : (y : Bool) (q : Phase) → LeftAt q (cond y 0 0) true w → Left q w
      none_open_lem true q l = l
      none_open_lem false q l = l

      plainly : (u v : Bool) → in_c capital b ≡ u → eqb b 45 ≡ v → Left (cond u (leads p).letter (cond v (leads p).dash broken)) w → Left p (b ∷ w)
      plainly true v eu ev l = before_letter b w (is_t eu) p l
      plainly false true eu ev l = subst (λ (x : ℕ). Left p (x ∷ w)) (sym (eqb-true b 45 ev)) (before_dash p w l)
      plainly false false eu ev l = absurd l

      by : (x y : Bool) → opens b ≡ x → LeftAt (cond x p (outside_names p b)) (cond x 1 (cond y 0 0)) true w → Left p (b ∷ w)
      by true y ex l = before_open p b w (is_t ex) l
      by false y ex l = plainly (in_c capital b) (eqb b 45) refl refl (none_open_lem y (outside_names p b) l)

  -- before a `]`
  before_close : T (closes b) → (d : ℕ) (empty : Bool) → LeftAt (behind_closing p (suc d) empty) d false w → Open p d empty (b ∷ w)
  before_close h zero true l = absurd l
  before_close h zero false l =
      let i = in_range 93 93 b (t_is (closes b) h) in
      let e : 93 ≡ b = omega arith in
      record { rest = []; pairs = tt; filled = tt; behind = w; left = l; is = ap (λ (x : ℕ). x ∷ w) e }
  before_close h (suc d) empty l = before_inside p (suc d) d b w empty (λ r t. closes_in name_brackets b r (suc d) h t) l

  -- before a byte in a name
  before_in : (d : ℕ) (empty : Bool) → LeftAt (phase_behind p (suc d) empty b) (depth_behind (suc d) b) false w → Open p d empty (b ∷ w)
  before_in d empty = by (opens b) (closes b) (plain b) refl refl refl
    where
      one_less : suc d - 1 ≡ d
      one_less = omega arith

      by : (x y z : Bool) → opens b ≡ x → closes b ≡ y → plain b ≡ z
          → LeftAt (cond x p (cond y (behind_closing p (suc d) empty) (cond z p broken))) (cond x (suc (suc d)) (cond y (suc d - 1) (suc d))) false w
          → Open p d empty (b ∷ w)
      by true y z ex ey ez l = before_inside p d (suc d) b w empty (λ r t. opens_in name_brackets b r d (is_t ex) t) l
      by false true z ex ey ez l = before_close (is_t ey) d empty (subst (λ (m : ℕ). LeftAt (behind_closing p (suc d) empty) m false w) one_less l)
      by false false true ex ey ez l = before_inside p d d b w empty (λ r t. plain_in name_brackets b r d (is_t ez) t) l
      by false false false ex ey ez l = absurd l.left

before_byte : (p : Phase) (d : ℕ) (empty : Bool) (b : ℕ) (w : List ℕ) → LeftAt (phase_behind p d empty b) (depth_behind d b) (none_open d) w → LeftAt p d empty (b ∷ w)
before_byte p zero empty b w l = before_outside p b w empty l
before_byte p (suc d) empty b w l = before_in p b w d empty l

-- at the end
at_end : (p : Phase) → T (leads p).ends → Left p []
at_end nothing t = absurd t
at_end front_name t = absurd t
at_end front_dash t = absurd t
at_end residue t = ([], [], silent, refl)
at_end back_dash t = absurd t
at_end back_name t = refl
at_end broken t = absurd t

taken : (w : List ℕ) (p : Phase) (d : ℕ) (empty : Bool) (c : ℕ) → T (leads (read_from w p d empty c).phase).ends → LeftAt p d empty w
unfolding read_from
taken [] p zero empty c t = at_end p t
taken [] p (suc d) empty c t = absurd t
taken (b ∷ w) p d empty c t = before_byte p d empty b w (taken w (phase_behind p d empty b) (depth_behind d b) (none_open d) (count_behind c d b) t)

pub sequence_is : (w : List ℕ) → T (is_sequence w) ↔ IsSequence w
sequence_is w = (taken w nothing 0 true 0, λ x. subst (λ (v : List ℕ). T (is_sequence v)) x.1 (sequence_passes x.0))
