-- What is answered to a line is what the rules say of it. Assumes nothing.
use Prim.Native.Nat.{ℕ, ◌-◌, ◌≤◌}
use mathlib.Core.Path.{◌≡◌, refl, sym, ap, ap₂, ◌∙◌, subst}
use mathlib.Core.Bool.{Bool, true, false, cond}
use mathlib.Core.List.{List, ◌++◌}
use native.Mathlib.Omega.{arith}
use lib.Dec.{leb, ltb}
use lib.ListN.{length, replicate, length-replicate}
use lib.Seq.{sets, length-sets}
use borrow.Author.Tests.{leb-true, leb-false, ltb-true, ltb-false}
use Rattle.std.specs.Prelude.{Option, Some, None, is_none}
use Rattle.lang.specs.Parts.{Opt, silent, written}
use Rattle.lang.specs.Mark.{Mark, Kept, Wins}
use Rattle.lang.specs.Order.{Each}
use Rattle.lang.proofs.Tests.{is_t}
use Rattle.lang.proofs.FirstBroken.{first_broken}
use Rattle.rules.specs.Lines.{Spelling, line_text}
use Rattle.rules.specs.Fields.{Table, Says}
use Rattle.rules.specs.Limits.{max_line, line_marks}
use Rattle.rules.specs.House.{first_foreign, first_breach, first_excess}
use Rattle.rules.specs.Stored.{stored}
use Rattle.rules.specs.Answers as rules
use Rattle.rules.specs.Answers.{refuses, Delivers, no_room, done, SoundIn, ReadsSum, ReadsRules, ReadsForm, ReadsSpelling, Reads}
use Rattle.rules.specs.Editions.{Edition, current, LineEdition, second_lines}
use Rattle.rules.proofs.FirstBroken.{first_wins, first_keeps}
use Rattle.rules.proofs.Rises.{line_rises}
use Rattle.rules.proofs.OneAnswer.{written_not_silent}
use Rattle.rules.proofs.OneShape.{judged_shape, judged_misshapen}
use Rattle.put_bytes.specs.Puts.{max_place}
use Rattle.faults.specs.declared.Refusal.{Refusal}
use Rattle.faults.specs.Refusals.{number_of, why_of, refused_by}
use Rattle.faults.specs.declared.Why.TheVariants.{PastBound, TooMany}
use Rattle.faults.proofs.Refusals.{number_of_why}
use Rattle.counts.specs.declared.Counts.{Counts}
use Rattle.store_sections.specs.Pages.{Ran, ends}
use Rattle.store_sections.specs.Headers.{starts_of, end_at, header_bytes, Headed, counts_of}
use Rattle.store_sections.specs.Fills.{Fills}
use Rattle.store_sections.proofs.Tables.{table_stored}
use Rattle.scan_line.specs.declared.Verdict.{Verdict}
use Rattle.scan_line.specs.declared.Verdict.TheVariants.{Fine, Short, Stray}
use Rattle.scan_line.specs.Verdicts.{JudgedBy}
use Rattle.measure_line.specs.declared.Totals.{Totals}
use Rattle.measure_line.specs.Totals.{totals_of}
use Rattle.read_line.specs.Stores.{line_events}
use Rattle.measure_line.specs.Refusals.{first_of}
use Rattle.read_line.specs.Readings.{table_over, stored_over, counted_over, spelled_over, keeps_all, any_over, read_of}
use Rattle.measure_line.proofs.Folds as folds
use Rattle.measure_line.proofs.Folds.{form_told, breach_told, excess_seen}
use Rattle.measure_line.proofs.Through.{TotalsRead, totals_read}
use Rattle.read_line.proofs.Filled.{line_filled}
use Rattle.measure_line.proofs.FirstLimit.{told, line_first}
use Rattle.read_line.proofs.Counted.{counts_are, end_is}
use Rattle.measure_line.proofs.Firsts.{first_limit, first_form, first_breach_lem, first_excess_lem}

-- ---- the table, over a cleared output

module _ (edition : Edition) (room : ℕ) (small : room ≤ max_place) (line : List ℕ) (s : Spelling) (t : Table) (says : Each Says s t) (sound : SoundIn second_lines edition t)
    (fills : Fills edition t (line_events edition line)) where
  abbrev zeros : List ℕ
  zeros = replicate room 0

  zeros_small : length zeros ≤ max_place
  zeros_small = omega (arith, length-replicate {A = ℕ} room 0)

  header_put : (n : Counts) → Headed edition zeros n (sets zeros 0 (header_bytes edition n)) (starts_of edition n)
  header_put n = record { put = record { small = zeros_small; next = refl; made = refl }; starts = refl }

  sections_ran : (n : Counts) → length (sets zeros 0 (header_bytes edition n)) ≤ max_place
      → Ran (sets zeros 0 (header_bytes edition n)) (starts_of edition n) (line_events edition line) (table_over edition zeros line n) (ends (starts_of edition n) (line_events edition line))
  sections_ran n h = record { small = h; made = refl; place = refl }

  -- how many there are in each section is counted
  module _ (n : Counts) (is : n ≡ counts_of t) where
    size_is : end_at edition n ≡ length (stored edition t)
    size_is = ap (end_at edition) is ∙ end_is edition t sound

    table_is : length (stored edition t) ≤ room → table_over edition zeros line n ≡ stored edition t ++ replicate (room - length (stored edition t)) 0
    table_is h =
        let k : length (sets zeros 0 (header_bytes edition n)) ≤ max_place = omega (arith, length-sets zeros 0 (header_bytes edition n), zeros_small) in
        table_stored room t refl is (header_put n) (sections_ran n k) fills h

    delivered : Delivers room (stored edition t) (stored_over edition zeros line n)
    delivered = by (ltb (length zeros) (end_at edition n)) refl
      where
        by : (b : Bool) → ltb (length zeros) (end_at edition n) ≡ b
            → Delivers room (stored edition t)
            (cond b (record { number = 8; place = end_at edition n; size = 0; out = zeros }) (record { number = 0; place = 0; size = end_at edition n; out = table_over edition zeros line n }))
        by true e =
            subst (λ (k : ℕ). Delivers room (stored edition t) (record { number = 8; place = k; size = 0; out = zeros })) (sym size_is)
            (no_room (omega (arith, ltb-true (length zeros) (end_at edition n) e, size_is, length-replicate {A = ℕ} room 0)))
        by false e =
            let h : length (stored edition t) ≤ room = omega (arith, ltb-false (length zeros) (end_at edition n) e, size_is, length-replicate {A = ℕ} room 0) in
            subst (λ (a : rules.Answer). Delivers room (stored edition t) a)
            (ap₂ (λ (k : ℕ) (o : List ℕ). record { number = 0; place = 0; size = k; out = o }) (sym size_is) (sym (table_is h)))
            (done h)

-- ---- a line with a shape

-- a refusal is answered by its number and place; without one the table is delivered
refused : (edition : Edition) (room : ℕ) (line : List ℕ) (t : Totals) (r : Refusal) → first_of t ≡ Some r
    → refuses room (number_of r.why) r.place ≡ counted_over edition (replicate room 0) line t
refused edition room line t r e = rw e

granted : (edition : Edition) (room : ℕ) (line : List ℕ) (t : Totals) → first_of t ≡ None
    → stored_over edition (replicate room 0) line t.counts ≡ counted_over edition (replicate room 0) line t
granted edition room line t e = rw e

-- a limit of a line has the number 4 or 5
wins_told : (s : Spelling) (m : Mark) → Wins (line_marks s) m → number_of (why_of m.number) ≡ m.number
wins_told s m w = let l = (line_rises s).within m w.is_in w.broken in by l.least l.number (leb m.number 4) refl
  where
    by : 4 ≤ m.number → m.number ≤ 5 → (t : Bool) → leb m.number 4 ≡ t → number_of (why_of m.number) ≡ m.number
    by h k true e = number_of_why PastBound m.number (omega (arith, leb-true m.number 4 e))
    by h k false e = number_of_why TooMany m.number (omega (arith, leb-false m.number 4 e))

-- the limits, the form and the rules of an edition are kept
pub record KeepsAll (e : Edition) (s : Spelling) : Type 0 where
  pub limits : Kept (line_marks s)
  pub form : first_foreign e 0 s ≡ silent
  pub rules : first_breach e 0 s ≡ silent
  pub sum : first_excess 0 0 s ≡ silent

-- the first refusal of a spelling, or none
data Found (e : Edition) (s : Spelling) : Option Refusal → Type 0 where
  limit : (m : Mark) → Wins (line_marks s) m → Found e s (refused_by m.number m.place)
  form : Kept (line_marks s) → (p : ℕ) → first_foreign e 0 s ≡ written p → Found e s (refused_by 11 p)
  breach : Kept (line_marks s) → first_foreign e 0 s ≡ silent → (p : ℕ) → first_breach e 0 s ≡ written p → Found e s (refused_by 6 p)
  excess : Kept (line_marks s) → first_foreign e 0 s ≡ silent → first_breach e 0 s ≡ silent → (p : ℕ) → first_excess 0 0 s ≡ written p → Found e s (refused_by 7 p)
  nothing : KeepsAll e s → Found e s None

module _ (edition : Edition) (s : Spelling) (u : Totals) (r : TotalsRead edition s u) where
  limit_is : (o : Opt Mark) → first_broken (line_marks s) ≡ o → u.limit ≡ told o
  limit_is o e = r.finds.limit ∙ line_first s ∙ ap told e

  -- within the limits
  module _ (kept : Kept (line_marks s)) (e : u.limit ≡ None) where
    form_is : (o : Opt ℕ) → first_foreign edition 0 s ≡ o → u.form ≡ folds.told 11 o
    form_is o q = r.finds.form kept ∙ form_told edition 0 s ∙ ap (folds.told 11) q

    breach_is : (o : Opt ℕ) → first_breach edition 0 s ≡ o → u.breach ≡ folds.told 6 o
    breach_is o q = r.finds.breach kept ∙ breach_told edition 0 s ∙ ap (folds.told 6) q

    excess_is : (o : Opt ℕ) → first_excess 0 0 s ≡ o → u.excess ≡ folds.told 7 o
    excess_is o q = r.finds.excess kept ∙ excess_seen 0 0 s ∙ ap (folds.told 7) q

    -- with sequences of the form that the edition asks for
    module _ (formed : first_foreign edition 0 s ≡ silent) (g : u.form ≡ None) where
      -- and within the rules for one annotation
      found_sum : first_breach edition 0 s ≡ silent → u.breach ≡ None → (o : Opt ℕ) → first_excess 0 0 s ≡ o → Found edition s (first_of u)
      found_sum rules q (written p) z = subst (Found edition s) (sym (first_excess_lem u e g q ∙ excess_is (written p) z)) (excess kept formed rules p z)
      found_sum rules q silent z =
          subst (Found edition s) (sym (first_excess_lem u e g q ∙ excess_is silent z)) (nothing (record { limits = kept; form = formed; rules = rules; sum = z }))

      found_rules : (o : Opt ℕ) → first_breach edition 0 s ≡ o → Found edition s (first_of u)
      found_rules (written p) z =
          subst (Found edition s) (sym (first_breach_lem u e g (breach_is (written p) z))) (breach kept formed p z)
      found_rules silent z = found_sum z (breach_is silent z) (first_excess 0 0 s) refl

    found_form : (o : Opt ℕ) → first_foreign edition 0 s ≡ o → Found edition s (first_of u)
    found_form (written p) z =
        subst (Found edition s) (sym (first_form u e (form_is (written p) z))) (form kept p z)
    found_form silent z = found_rules z (form_is silent z) (first_breach edition 0 s) refl

  found_limit : (o : Opt Mark) → first_broken (line_marks s) ≡ o → Found edition s (first_of u)
  found_limit (written m) z =
      subst (Found edition s) (sym (first_limit u (limit_is (written m) z))) (limit m (first_wins s m z))
  found_limit silent z =
      let kept = first_keeps s z in found_form kept (limit_is silent z) (first_foreign edition 0 s) refl

  found : Found edition s (first_of u)
  found = found_limit (first_broken (line_marks s)) refl

-- ---- what is read

module _ (edition : Edition) (room : ℕ) (small : room ≤ max_place) (s : Spelling) (fits : length (line_text s) ≤ max_place) (u : Totals) (r : TotalsRead edition s u) where
  abbrev line : List ℕ
  line = line_text s

  abbrev answer : rules.Answer
  answer = counted_over edition (replicate room 0) line u

  refused_so : {r : Refusal} → first_of u ≡ Some r → ReadsSpelling edition s room (refuses room (number_of r.why) r.place) → ReadsSpelling edition s room answer
  refused_so {r} e x = subst (ReadsSpelling edition s room) (refused edition room line u r e) x

  spelling_read : (f : Option Refusal) → first_of u ≡ f → Found edition s f → ReadsSpelling edition s room answer
  spelling_read f e (limit m w) = refused_so e (subst (λ (n : ℕ). ReadsSpelling edition s room (refuses room n m.place)) (sym (wins_told s m w)) (ReadsSpelling.limit m w))
  spelling_read f e (form k p z) = refused_so e (ReadsSpelling.kept k (ReadsForm.foreign p z))
  spelling_read f e (breach k g p z) = refused_so e (ReadsSpelling.kept k (ReadsForm.kept g (ReadsRules.breach p z)))
  spelling_read f e (excess k g q p z) = refused_so e (ReadsSpelling.kept k (ReadsForm.kept g (ReadsRules.kept q (ReadsSum.excess p z))))
  spelling_read f e (nothing a) =
      let y = line_filled edition s fits a.limits in
      let t = y.table in
      let w : SoundIn second_lines edition t = record { spelling = s; edition = tt; says = y.says; limits = a.limits; form = a.form; rules = a.rules; sum = a.sum } in
      let c = counts_are y.says w r.counts in
      let fills = subst (Fills edition t) (sym y.are) y.fills in
      subst (ReadsSpelling edition s room) (granted edition room line u e)
      (ReadsSpelling.kept a.limits (ReadsForm.kept a.form (ReadsRules.kept a.rules
      (ReadsSum.kept a.sum t y.says (delivered edition room small line s t y.says w fills u.counts c)))))

pub spelled_right : (edition : Edition) (room : ℕ) → room ≤ max_place → (s : Spelling) → length (line_text s) ≤ max_place
    → ReadsSpelling edition s room (spelled_over edition (replicate room 0) (line_text s))
unfolding spelled_over
spelled_right edition room small s l =
    let u = totals_of edition (line_text s) in
    let r = totals_read edition s l in
    spelling_read edition room small s l u r (first_of u) refl (found edition s u r)

-- ---- whether everything is kept

told_kept : {e : Edition} {s : Spelling} {f : Option Refusal} → Found e s f → is_none f ≡ true → KeepsAll e s
told_kept (limit m w) z = absurd (is_t z)
told_kept (form k p q) z = absurd (is_t z)
told_kept (breach k g p q) z = absurd (is_t z)
told_kept (excess k g h p q) z = absurd (is_t z)
told_kept (nothing a) z = a

kept_told : {e : Edition} {s : Spelling} {f : Option Refusal} → Found e s f → KeepsAll e s → is_none f ≡ true
kept_told (limit m w) a = absurd (a.limits m w.is_in w.broken)
kept_told (form k p q) a = absurd (written_not_silent _ q a.form)
kept_told (breach k g p q) a = absurd (written_not_silent _ q a.rules)
kept_told (excess k g h p q) a = absurd (written_not_silent _ q a.sum)
kept_told (nothing b) a = refl

module _ (edition : Edition) (s : Spelling) (fits : length (line_text s) ≤ max_place) where
  first_found : Found edition s (first_of (totals_of edition (line_text s)))
  first_found = found edition s (totals_of edition (line_text s)) (totals_read edition s fits)

  pub keeps_told : keeps_all edition (line_text s) ≡ true → KeepsAll edition s
  unfolding keeps_all
  keeps_told e = told_kept first_found e

  pub keeps_all_lem : KeepsAll edition s → keeps_all edition (line_text s) ≡ true
  unfolding keeps_all
  keeps_all_lem a = kept_told first_found a

-- ---- any line, in an edition of lines

verdict_right : (l : LineEdition) (line : List ℕ) (room : ℕ) → room ≤ max_place → length line ≤ max_line → (v : Verdict) → JudgedBy l line v
    → Reads l line room (any_over current (replicate room 0) v line)
verdict_right l line room small h Fine j =
    let x = judged_shape j refl in
    let s = x.0 in
    let q : line_text s ≡ line = x.1.1 in
    let n : length (line_text s) ≤ max_place = omega (arith, ap length q) in
    subst (λ (w : List ℕ). Reads l w room (spelled_over current (replicate room 0) w)) q
    (Reads.spelled (omega (arith, ap length q)) s x.1.0 refl (spelled_right current room small s n))
verdict_right l line room small h Short j = Reads.misshapen h (judged_misshapen j (λ e. omega arith))
verdict_right l line room small h (Stray p) j = Reads.misshapen h (judged_misshapen j (λ e. omega arith))

pub read_right : (l : LineEdition) (line : List ℕ) (room : ℕ) → room ≤ max_place → (v : Verdict) → JudgedBy l line v → Reads l line room (read_of v line room)
unfolding read_of
read_right l line room small v j = by (ltb max_line (length line)) refl
  where
    by : (b : Bool) → ltb max_line (length line) ≡ b → Reads l line room (cond b (refuses room 1 max_line) (any_over current (replicate room 0) v line))
    by true e = Reads.long (ltb-true max_line (length line) e)
    by false e = verdict_right l line room small (ltb-false max_line (length line) e) v j
