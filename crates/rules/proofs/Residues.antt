-- The test for sequences and its count, run over the text of a sequence, part by part: a name changes the phase at its end alone, and counts
-- for nothing. Assumes nothing.
use Prim.Native.Nat.{ℕ, zero, suc, ◌+◌, ◌≤◌}
use mathlib.Core.Path.{◌≡◌, refl, sym, ap, ap₂, ◌∙◌, subst}
use mathlib.Core.Bool.{Bool, true, false, cond, not, ◌&&◌, ◌||◌}
use mathlib.Core.List.{List, [], ◌∷◌, ◌++◌, append_assoc, append-nil}
use native.Mathlib.Omega.{arith}
use lib.Dec.{T}
use lib.ListN.{length}
use borrow.Author.Tests.{not-true}
use Rattle.lang.specs.Re.{Rng, in_c, paired, none_open}
use Rattle.lang.specs.Parts.{Opt, silent, written, opt_text, Some, items, flat}
use Rattle.lang.proofs.Deriv.{some_way}
use Rattle.lang.proofs.Machine.{all_b}
use Rattle.lang.proofs.Names.{cover}
use Rattle.lang.proofs.Tests.{t_is, is_t}
use Rattle.lang.proofs.Unique.{low_c}
use Rattle.rules.specs.Bytes.{capital}
use Rattle.rules.specs.Texts.{name_brackets, Name, is_name, bracket_text}
use Rattle.rules.specs.Sequences.{Residue, Sequence, residue_text, front_text, back_text, sequence_text, Phase, nothing, front_name, front_dash, residue, back_dash, back_name, leads, depth_behind, phase_behind, count_behind, Reading, read_from, reading, is_sequence, residues}

abbrev pub opens : ℕ → Bool
opens = in_c name_brackets.opens

abbrev pub closes : ℕ → Bool
closes = in_c name_brackets.closes

abbrev pub plain : ℕ → Bool
plain = in_c name_brackets.plain

-- ---- a byte in a name

-- a byte of one class is not in another that it has no byte with
not_in : (c e : List Rng) → T (low_c c) → T (all_b (λ b. not (in_c c b) || not (in_c e b)) 256) → (b : ℕ) → T (in_c c b) → in_c e b ≡ false
not_in c e l t b h = not-true (in_c e b) (t_is (not (in_c e b)) (cover c (λ b. not (in_c e b)) l t b h))

-- a byte in a name, with d brackets open beside the name's own: it leaves the phase as it is, and n of them open
record Inside (d b n : ℕ) : Type 0 where
  depth : depth_behind (suc d) b ≡ suc n
  stays : (p : Phase) (empty : Bool) → phase_behind p (suc d) empty b ≡ p

by_plain : (d b : ℕ) → T (plain b) → Inside d b d
by_plain d b h =
    let o = not_in name_brackets.plain name_brackets.opens tt tt b h in
    let c = not_in name_brackets.plain name_brackets.closes tt tt b h in
    record { depth = rw (o, c); stays = λ p e. rw (o, c, t_is (plain b) h) }

by_opens : (d b : ℕ) → T (opens b) → Inside d b (suc d)
by_opens d b h = record { depth = rw (t_is (opens b) h); stays = λ p e. rw (t_is (opens b) h) }

by_closes : (n b : ℕ) → T (closes b) → Inside (suc n) b n
by_closes n b h =
    let o = not_in name_brackets.closes name_brackets.opens tt tt b h in
    record { depth = rw (o, t_is (closes b) h) (omega arith); stays = λ p e. rw (o, t_is (closes b) h) }

-- each byte of a name is one, and the rest of the name goes on behind it
inside : (b : ℕ) (w : List ℕ) (d : ℕ) → T (paired name_brackets (b ∷ w) d) → (n : ℕ) × Inside d b n × T (paired name_brackets w n)
inside b w d h =
    some_way name_brackets b w d h
    (λ i q. (d, by_plain d b i, q))
    (λ i q. (suc d, by_opens d b i, q))
    (λ n e i q. (n, subst (λ (m : ℕ). Inside m b n) (sym e) (by_closes n b i), q))

-- ---- the parts of a sequence

-- outside names it is all one whether a name is empty
any : (w : List ℕ) (p : Phase) (x y : Bool) (c : ℕ) → read_from w p 0 x c ≡ read_from w p 0 y c
unfolding read_from
any [] p x y c = refl
any (b ∷ w) p x y c = refl

turn : (b : ℕ) (w : List ℕ) (p : Phase) (empty : Bool) (c : ℕ) {d n : ℕ} → Inside d b n → read_from (b ∷ w) p (suc d) empty c ≡ read_from w p (suc n) false c
unfolding read_from
turn b w p empty c i = ap₂ (λ (q : Phase) (m : ℕ). read_from w q m false c) (i.stays p empty) i.depth

-- from a byte of a name on, other than the first
rest_on : (w k : List ℕ) (p : Phase) (d c : ℕ) → T (paired name_brackets w d) → read_from (w ++ (93 ∷ k)) p (suc d) false c ≡ read_from k (leads p).name 0 true c
unfolding read_from
rest_on [] k p zero c h = any k (leads p).name false true c
rest_on [] k p (suc d) c h = absurd h
rest_on (b ∷ w) k p d c h = let x = inside b w d h in turn b (w ++ (93 ∷ k)) p false c x.1 ∙ rest_on w k p x.0 c x.2

-- from behind the `[` of a name on
name_on : (w k : List ℕ) (p : Phase) (c : ℕ) → T (is_name w) → read_from (w ++ (93 ∷ k)) p 1 true c ≡ read_from k (leads p).name 0 true c
name_on [] k p c h = absurd h
name_on (b ∷ w) k p c h = let x = inside b w 0 h in turn b (w ++ (93 ∷ k)) p true c x.1 ∙ rest_on w k p x.0 c x.2

-- from outside names on
abbrev from : List ℕ → Phase → ℕ → Reading
from w p c = read_from w p 0 true c

brackets_on : (n : Name) (k : List ℕ) (p : Phase) (c : ℕ) → from (bracket_text n ++ k) p c ≡ from k (leads p).name c
unfolding read_from
brackets_on n k p c = ap (λ (w : List ℕ). read_from w p 1 true c) (append_assoc n.bytes (93 ∷ []) k) ∙ name_on n.bytes k p c n.good

letter_on : (b : ℕ) (k : List ℕ) (p : Phase) (c : ℕ) → T (in_c capital b) → from (b ∷ k) p c ≡ from k (leads p).letter (c + 1)
unfolding read_from
letter_on b k p c h = rw (not_in capital name_brackets.opens tt tt b h, not_in capital name_brackets.closes tt tt b h, t_is (in_c capital b) h)

dash_on : (k : List ℕ) (p : Phase) (c : ℕ) → from (45 ∷ k) p c ≡ from k (leads p).dash c
unfolding read_from
dash_on k p c = refl

names_on : (ns : List Name) (k : List ℕ) (c : ℕ) → from (flat bracket_text ns ++ k) residue c ≡ from k residue c
names_on [] k c = refl
names_on (n ∷ ns) k c =
    ap (λ (w : List ℕ). from w residue c) (append_assoc (bracket_text n) (flat bracket_text ns) k) ∙ brackets_on n (flat bracket_text ns ++ k) residue c ∙ names_on ns k c

residue_on : (r : Residue) (k : List ℕ) (p : Phase) (c : ℕ) → (leads p).letter ≡ residue → from (residue_text r ++ k) p c ≡ from k residue (c + 1)
residue_on r k p c e =
    letter_on r.letter.val (flat bracket_text r.names ++ k) p c r.letter.is_in ∙ ap (λ (q : Phase). from (flat bracket_text r.names ++ k) q (c + 1)) e
    ∙ names_on r.names k (c + 1)

more_on : (rs : List Residue) (k : List ℕ) (c : ℕ) → from (flat residue_text rs ++ k) residue c ≡ from k residue (c + length rs)
more_on [] k c = ap (from k residue) (omega arith)
more_on (r ∷ rs) k c =
    ap (λ (w : List ℕ). from w residue c) (append_assoc (residue_text r) (flat residue_text rs) k) ∙ residue_on r (flat residue_text rs ++ k) residue c refl
    ∙ more_on rs k (c + 1) ∙ ap (from k residue) (omega arith)

residues_on : (rs : Some Residue) (k : List ℕ) (p : Phase) → (leads p).letter ≡ residue → from (flat residue_text (items rs) ++ k) p 0 ≡ from k residue (length (items rs))
residues_on rs k p e =
    ap (λ (w : List ℕ). from w p 0) (append_assoc (residue_text rs.first) (flat residue_text rs.more) k)
    ∙ residue_on rs.first (flat residue_text rs.more ++ k) p 0 e ∙ more_on rs.more k 1 ∙ ap (from k residue) (omega arith)

front_on : (f : Opt Name) (rs : Some Residue) (k : List ℕ) → from (opt_text front_text f ++ (flat residue_text (items rs) ++ k)) nothing 0 ≡ from k residue (length (items rs))
front_on silent rs k = residues_on rs k nothing refl
front_on (written n) rs k =
    ap (λ (w : List ℕ). from w nothing 0) (append_assoc (bracket_text n) (45 ∷ []) (flat residue_text (items rs) ++ k))
    ∙ brackets_on n (45 ∷ (flat residue_text (items rs) ++ k)) nothing 0 ∙ dash_on (flat residue_text (items rs) ++ k) front_name 0 ∙ residues_on rs k front_dash refl

-- the phase that a sequence comes to
abbrev last_phase : Opt Name → Phase
last_phase silent = residue
last_phase (written n) = back_name

back_on : (f : Opt Name) (c : ℕ) → from (opt_text back_text f) residue c ≡ record { phase = last_phase f; count = c }
unfolding read_from
back_on silent c = refl
back_on (written n) c =
    dash_on (bracket_text n) residue c ∙ ap (λ (w : List ℕ). from w back_dash c) (sym (append-nil (bracket_text n))) ∙ brackets_on n [] back_dash c

sequence_on : (q : Sequence) → reading (sequence_text q) ≡ record { phase = last_phase q.back; count = length (items q.residues) }
sequence_on q = front_on q.front q.residues (opt_text back_text q.back) ∙ back_on q.back (length (items q.residues))

pub residues_are : (q : Sequence) → residues (sequence_text q) ≡ length (items q.residues)
residues_are q = ap (λ (r : Reading). r.count) (sequence_on q)

may_end : (f : Opt Name) → (leads (last_phase f)).ends ≡ true
may_end silent = refl
may_end (written n) = refl

pub sequence_passes : (q : Sequence) → T (is_sequence (sequence_text q))
sequence_passes q = is_t (ap (λ (r : Reading). (leads r.phase).ends) (sequence_on q) ∙ may_end q.back)

-- ---- a byte is one residue at most

pub count_few : (n d b : ℕ) → count_behind n d b ≤ n + 1
count_few n d b = by (none_open d && in_c capital b)
  where
    by : (x : Bool) → cond x (n + 1) n ≤ n + 1
    by true = omega arith
    by false = omega arith

from_few : (w : List ℕ) (p : Phase) (d : ℕ) (empty : Bool) (n : ℕ) → (read_from w p d empty n).count ≤ n + length w
unfolding read_from
from_few [] p d empty n = omega arith
from_few (b ∷ w) p d empty n =
    omega (arith, count_few n d b, from_few w (phase_behind p d empty b) (depth_behind d b) (none_open d) (count_behind n d b))

pub residues_few : (w : List ℕ) → residues w ≤ length w
residues_few w = omega (arith, from_few w nothing 0 true 0)
