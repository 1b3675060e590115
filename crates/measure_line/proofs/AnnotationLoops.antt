-- The loops over the annotations of a line: what is left to do makes the whole. Assumes nothing.
use Prim.Native.Nat.{ℕ, ◌+◌, ◌-◌, ◌<◌, ◌≤◌, min}
use mathlib.Core.Path.{◌≡◌, refl, sym, ap, ◌∙◌}
use mathlib.Core.Bool.{Bool, true, false}
use mathlib.Core.List.{List}
use native.Mathlib.Omega.{arith}
use borrow.Author.Tests.{ne_eqb}
use lib.Dec.{leb}
use lib.ListN.{length, drop}
use Rattle.std.specs.Prelude.{Option, None}
use Rattle.rules.specs.Bytes.{bytes}
use Rattle.rules.specs.Texts.{starts_with}
use Rattle.rules.specs.Editions.{Edition}
use Rattle.rules.specs.House.{one}
use Rattle.counts.specs.Sums.{no_counts, plus}
use Rattle.counts.proofs.Sums.{none_plus}
use Rattle.numbers.specs.Shares.{largest}
use Rattle.faults.specs.declared.Refusal.{Refusal}
use Rattle.read_annotation.specs.declared.Parts.{Parts}
use Rattle.read_annotation.specs.declared.Measured.{Measured}
use Rattle.read_annotation.specs.Measured.{own_counts, parts_of, measured_of}
use Rattle.measure_line.specs.declared.Totals.{Totals}
use Rattle.measure_line.specs.Totals.{nothing, noted, summed, goes_on, behind_comma, added_by, add_of, add_next, totals_from, totals_by}
use Rattle.measure_line.proofs.Loops.{loop_on, loop_ends}
use Rattle.measure_line.proofs.Steps.{add_falls}

-- a sum that was taken fits
measured_fits : (edition : Edition) (s : List ℕ) (p : Parts) {m : Measured} → m ≡ measured_of edition s p → plus no_counts m.counts ≡ m.counts
unfolding measured_of
measured_fits edition s p e =
    let q = ap (λ (m : Measured). m.counts) e in ap (plus no_counts) q ∙ none_plus (own_counts p.front.ion) p.middle.counts ∙ sym q

-- the first annotation, of which m was measured: a sum with nothing is what was measured
pub first_added_lem : (edition : Edition) (line : List ℕ) (p : Parts) {m : Measured} {form breach excess : Option Refusal} {at : ℕ} → m ≡ measured_of edition line p
    → m.share ≤ largest
    → form ≡ noted None 11 0 m.formed → breach ≡ noted None 6 0 m.kept → excess ≡ noted None 7 0 (leb m.share one) → at ≡ min (0 + m.len) (length line)
    → record { counts = m.counts; free = m.free; sum = m.share; limit = m.fault; form = form; breach = breach; excess = excess; at = at } ≡ added_by edition line nothing 0 p
first_added_lem edition line p {m} pm hs pf pb pe pa =
    let z : length line - length line ≡ 0 = omega arith in
    let c : plus no_counts m.counts ≡ m.counts = measured_fits edition line p pm in
    let s : summed 0 m.share ≡ m.share = omega arith in
    rw (pf, pb, pe, pa, ← pm, z, c, s)

-- one annotation more, behind a comma
pub next_added : (edition : Edition) (line : List ℕ) (t : Totals) {u : Totals} {from : ℕ} {r : List ℕ} {p : Parts} → from ≡ behind_comma line t.at → r ≡ drop from line
    → p ≡ parts_of t.counts.annotations (length line) r t.limit → u ≡ added_by edition line t from p → u ≡ add_next edition line t
unfolding add_of
next_added edition line t {from = from} pf pr pp pu =
    pu ∙ ap (added_by edition line t from) (pp ∙ ap (λ (r : List ℕ). parts_of t.counts.annotations (length line) r t.limit) pr) ∙ ap (add_of edition line t) pf

-- an empty line
pub empty_totals : (edition : Edition) (line : List ℕ) (p : Parts) {n : Totals} → length line < 1 → n ≡ nothing → n ≡ totals_by edition line p
unfolding totals_by
empty_totals edition line p h e = let z : length line ≡ 0 = omega arith in e ∙ rw z

-- from t₀ on: the annotations counted in t, and those that are left
pub record Counting (edition : Edition) (line : List ℕ) (t₀ t : Totals) : Type 0 where
  pub is : totals_from edition line (length line) t ≡ totals_from edition line (length line) t₀

module _ (edition : Edition) (line : List ℕ) where
  pub counting_begins : (t : Totals) → Counting edition line t t
  counting_begins t = record { is = refl }

  module _ {t₀ t : Totals} {r : List ℕ} (c : Counting edition line t₀ t) (pr : r ≡ drop t.at line) where
    goes : {b : Bool} → starts_with (bytes ",") r ≡ b → goes_on line t.at ≡ b
    goes e = ap (starts_with (bytes ",")) (sym pr) ∙ e

    -- the first annotation began at 0
    pub counting_ends : (p : Parts) → 1 ≤ length line → t₀ ≡ added_by edition line nothing 0 p → starts_with (bytes ",") r ≡ false → t ≡ totals_by edition line p
    unfolding totals_by
    counting_ends p h e₀ e =
        let z : (length line ≡ 0 → ⊥) = λ q. omega arith in
        sym (loop_ends (λ (t : Totals). goes_on line t.at) (add_next edition line) (length line) t (goes e)) ∙ c.is
        ∙ ap (totals_from edition line (length line)) e₀ ∙ rw (ne_eqb (length line) 0 z)

    module _ {u : Totals} (e : starts_with (bytes ",") r ≡ true) (pu : u ≡ add_next edition line t) where
      pub counting_turns : Counting edition line t₀ u
      counting_turns =
          record {
            is =
                ap (totals_from edition line (length line)) pu
                ∙ sym (loop_on (λ (t : Totals). goes_on line t.at) (add_next edition line) (λ (t : Totals). length line - t.at) (add_falls edition line) (length line) t (omega arith) (goes e))
                ∙ c.is;
          }

      pub counting_falls : length line - u.at < length line - t.at
      counting_falls = let f = add_falls edition line t (goes e) in omega (arith, ap (λ (v : Totals). v.at) pu)
