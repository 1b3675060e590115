-- The walk over a text: what is known behind its first bytes, and what it is found to be at its end. Assumes nothing.
use Prim.Native.Nat.{ℕ, suc, ◌+◌, ◌-◌, ◌≤◌, ◌<◌}
use mathlib.Core.Path.{◌≡◌, sym, ap, ◌∙◌}
use mathlib.Core.Bool.{Bool, true, false, cond}
use mathlib.Core.List.{List}
use native.Mathlib.Numerals.{add-one}
use native.Mathlib.Omega.{arith}
use lib.ListN.{length, get_or, drop, drop_of_length-le}
use lib.Seq.{drop-cons}
use Rattle.lang.specs.Re.{in_c, none_open}
use Rattle.rules.specs.Texts.{name_brackets}
use Rattle.rules.specs.Sequences.{broken, leads, depth_behind, phase_behind, count_behind, Reading, read_from, reading}
use Rattle.rules.proofs.Residues.{count_few}
use Rattle.sequences.specs.declared.Progress.{Progress}
use Rattle.sequences.specs.declared.SequenceRead.{SequenceRead}
use Rattle.sequences.specs.Reads.{phase_of, sequence_of}

-- what is read of the rest of a text
abbrev read_on : List ℕ → Progress → Reading
read_on w p = read_from w (phase_of p.phase) p.depth p.empty p.residues

-- the first `at` bytes come to p
pub record Passed (s : List ℕ) (p : Progress) (at : ℕ) : Type 0 where
  pub few : p.depth ≤ at
  pub fewer : p.residues ≤ at
  pub is : reading s ≡ read_on (drop at s) p

-- a byte opens one bracket at most
depth_few : (d b : ℕ) → depth_behind d b ≤ d + 1
depth_few d b = by (in_c name_brackets.opens b) (in_c name_brackets.closes b)
  where
    by : (x y : Bool) → cond x (suc d) (cond y (d - 1) d) ≤ d + 1
    by true y = omega arith
    by false true = omega arith
    by false false = omega arith

-- what a text is found to be by what it comes to
abbrev found : Reading → SequenceRead
found r = record { formed = (leads r.phase).ends; residues = r.count }

module _ {s : List ℕ} {p : Progress} {at : ℕ} (w : Passed s p at) where
  abbrev byte : ℕ
  byte = get_or s at 0

  pub turn : at < length s → {q : Progress} → phase_of q.phase ≡ phase_behind (phase_of p.phase) p.depth p.empty byte → q.depth ≡ depth_behind p.depth byte
      → q.empty ≡ none_open p.depth → q.residues ≡ count_behind p.residues p.depth byte → Passed s q (at + 1)
  unfolding read_from
  turn h {q} to_phase to_depth to_empty to_residues =
      record {
        few = omega (arith, w.few, depth_few p.depth byte);
        fewer = omega (arith, w.fewer, count_few p.residues p.depth byte);
        is =
            w.is ∙ ap (λ (l : List ℕ). read_on l p) (drop-cons s at 0 h)
            ∙ (λ i. read_from (drop (sym (add-one at) i) s) (sym to_phase i) (sym to_depth i) (sym to_empty i) (sym to_residues i));
      }

  module _ (h : length s ≤ at) {f : Bool} where
    -- where f tells whether a sequence may end so
    last : f ≡ (leads (cond (none_open p.depth) (phase_of p.phase) broken)).ends → record { formed = f; residues = p.residues } ≡ sequence_of s
    unfolding read_from
    last e =
        ap (λ (x : Bool). record { formed = x; residues = p.residues }) e
        ∙ sym (ap found (w.is ∙ ap (λ (l : List ℕ). read_on l p) (drop_of_length-le s h)))

    pub left_open : none_open p.depth ≡ false → f ≡ false → record { formed = f; residues = p.residues } ≡ sequence_of s
    left_open z e = last (e ∙ rw z)

    pub ends : none_open p.depth ≡ true → f ≡ (leads (phase_of p.phase)).ends → record { formed = f; residues = p.residues } ≡ sequence_of s
    ends z e = last (e ∙ rw z)
