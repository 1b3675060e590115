-- A line reads to bytes exactly where these are a table and the line is one of its spellings. Assumes nothing.
use Prim.Native.Nat.{ℕ, ◌-◌, ◌≤◌}
use mathlib.Core.Path.{◌≡◌, refl, sym, ap, ◌∙◌, subst}
use mathlib.Core.Bool.{true}
use mathlib.Core.List.{List, ◌++◌}
use native.Mathlib.Omega.{arith}
use lib.Dec.{T, eqb}
use lib.ListN.{length, take, replicate}
use lib.Seq.{take-append_seam}
use borrow.Author.Tests.{eqb-true}
use Rattle.lang.specs.Parts.{Opt, silent, written}
use Rattle.lang.specs.Mark.{Kept}
use Rattle.lang.specs.Order.{Each}
use Rattle.lang.proofs.Tests.{is_t, t_is}
use Rattle.lang.proofs.Deriv.{and_0, and_1}
use Rattle.rules.specs.Lines.{Spelling, line_text, within, Shape, Misshapen}
use Rattle.rules.specs.Fields.{Table, Says}
use Rattle.rules.specs.Limits.{line_marks}
use Rattle.rules.specs.House.{first_foreign, first_breach}
use Rattle.rules.specs.Preferred.{preferred, preferred_spelling}
use Rattle.rules.specs.Stored.{stored}
use Rattle.rules.specs.Answers.{Answer, gives, Delivers, no_room, done, ReadsSum, ReadsRules, ReadsForm, ReadsSpelling, SoundIn}
use Rattle.rules.specs.Editions.{Edition, LineEdition}
use Rattle.rules.proofs.OneShape.{judged_shape, judged_misshapen}
use Rattle.rules.proofs.FirstBroken.{wins_number}
use Rattle.rules.proofs.OneShape.{misshapen_no_shape}
use Rattle.rules.proofs.OneTable as OneTable
use Rattle.put_bytes.specs.Puts.{max_place}
use Rattle.scan_line.specs.declared.Verdict.{Verdict}
use Rattle.scan_line.specs.declared.Verdict.TheVariants.{Fine, Short, Stray}
use Rattle.scan_line.specs.Verdicts.{JudgedBy}
use Rattle.read_line.specs.Readings.{spelled_over, any_over}
use Rattle.shape.proofs.OneSpelling.{one_spelling}
use Rattle.read_line.proofs.Right.{spelled_right}
use Rattle.read_line.specs.Same.{same_bytes, all_bytes}
use Rattle.read_line.specs.Back.{is_read, reads_to, zeros}
use Rattle.rules.proofs.PreferredSpells.{said_in_order, preferred_says, preferred_within}
use Rattle.write_table.proofs.Low.{line_bytes}
use Rattle.write_table.proofs.Prefers.{preferred_kept, preferred_form, preferred_rules, preferred_sum}
use Rattle.read_line.proofs.Same.{same_is, same_refl}

written_silent : {p : ℕ} → ◌≡◌ {A = Opt ℕ} (written p) silent → ⊥
written_silent {p} e = subst There e tt
  where
    There : Opt ℕ → Type 0
    There silent = ⊥
    There (written p) = Unit {0}

-- ---- what is read: a table, if the number is 0

-- the answer's number is 0: it gives the stored bytes of a table that the spelling says, within limits and rules
pub record ReadAs (l : LineEdition) (e : Edition) (s : Spelling) (room : ℕ) (a : Answer) : Type 0 where
  pub table : Table
  pub says : Each Says s table
  pub limits : Kept (line_marks s)
  pub sound : SoundIn l e table
  pub is : a ≡ gives room (stored e table)

module _ {l : LineEdition} {edition : Edition} (s : Spelling) (room : ℕ) (own : T (within l s)) where
  delivered : (t : Table) → Each Says s t → Kept (line_marks s) → SoundIn l edition t → {a : Answer} → Delivers room (stored edition t) a → a.number ≡ 0 → ReadAs l edition s room a
  delivered t y k w (no_room h) e = absurd (omega arith)
  delivered t y k w (done h) e = record { table = t; says = y; limits = k; sound = w; is = refl }

  sum_as : Kept (line_marks s) → first_foreign edition 0 s ≡ silent → first_breach edition 0 s ≡ silent → {a : Answer} → ReadsSum edition s room a → a.number ≡ 0 → ReadAs l edition s room a
  sum_as k f r (ReadsSum.excess p z) e = absurd (omega arith)
  sum_as k f r (ReadsSum.kept z t y d) e = delivered t y k (record { spelling = s; edition = own; says = y; limits = k; form = f; rules = r; sum = z }) d e

  rules_as : Kept (line_marks s) → first_foreign edition 0 s ≡ silent → {a : Answer} → ReadsRules edition s room a → a.number ≡ 0 → ReadAs l edition s room a
  rules_as k f (ReadsRules.breach p z) e = absurd (omega arith)
  rules_as k f (ReadsRules.kept z r) e = sum_as k f z r e

  form_as : Kept (line_marks s) → {a : Answer} → ReadsForm edition s room a → a.number ≡ 0 → ReadAs l edition s room a
  form_as k (ReadsForm.foreign p z) e = absurd (omega arith)
  form_as k (ReadsForm.kept z r) e = rules_as k z r e

  pub spelling_as : {a : Answer} → ReadsSpelling edition s room a → a.number ≡ 0 → ReadAs l edition s room a
  spelling_as (ReadsSpelling.limit m w) e = absurd (omega (arith, wins_number s m w))
  spelling_as (ReadsSpelling.kept k r) e = form_as k r e

-- ---- what is read of the preferred spelling of a sound table: the table

module _ {l : LineEdition} (edition : Edition) (t : Table) (sound : SoundIn l edition t) (room : ℕ) (fits : length (stored edition t) ≤ room) where
  abbrev s : Spelling
  s = preferred_spelling t

  delivers_it : {a : Answer} (u : Table) → u ≡ t → Delivers room (stored edition u) a → a ≡ gives room (stored edition t)
  delivers_it u q (no_room h) = absurd (omega (arith, ap (λ (x : Table). length (stored edition x)) q))
  delivers_it u q (done h) = ap (λ (x : Table). gives room (stored edition x)) q

  sum_it : {a : Answer} → ReadsSum edition s room a → a ≡ gives room (stored edition t)
  sum_it (ReadsSum.excess p z) = absurd (written_silent (sym z ∙ preferred_sum t sound))
  sum_it (ReadsSum.kept z u y d) = delivers_it u (OneTable.one_table one_spelling y (preferred_says (said_in_order sound.says))) d

  rules_it : {a : Answer} → ReadsRules edition s room a → a ≡ gives room (stored edition t)
  rules_it (ReadsRules.breach p z) = absurd (written_silent (sym z ∙ preferred_rules edition t sound))
  rules_it (ReadsRules.kept z r) = sum_it r

  form_it : {a : Answer} → ReadsForm edition s room a → a ≡ gives room (stored edition t)
  form_it (ReadsForm.foreign p z) = absurd (written_silent (sym z ∙ preferred_form edition t sound))
  form_it (ReadsForm.kept z r) = rules_it r

  spelling_it : {a : Answer} → ReadsSpelling edition s room a → a ≡ gives room (stored edition t)
  spelling_it (ReadsSpelling.limit m w) = absurd (preferred_kept t sound m w.is_in w.broken)
  spelling_it (ReadsSpelling.kept k r) = form_it r

-- ---- shape

pub no_number : {l : LineEdition} {line : List ℕ} {n p : ℕ} → Misshapen l line n p → n ≡ 0 → ⊥
no_number (Misshapen.stray p x) e = omega arith
no_number (Misshapen.short x y) e = omega arith

shape_fine : {l : LineEdition} (line : List ℕ) (v : Verdict) → JudgedBy l line v → Shape l line → v ≡ Fine
shape_fine line Fine j x = refl
shape_fine line Short j x = absurd (misshapen_no_shape (judged_misshapen j (λ e. omega arith)) x)
shape_fine line (Stray p) j x = absurd (misshapen_no_shape (judged_misshapen j (λ e. omega arith)) x)

-- ---- for callers: a line reads to the bytes

-- bytes are those of a table of an edition, which lines of an edition of lines spell
pub record HoldsIn (l : LineEdition) (e : Edition) (bytes : List ℕ) (t : Table) : Type 0 where
  pub sound : SoundIn l e t
  pub is : stored e t ≡ bytes

pub take_given : (room : ℕ) (w : List ℕ) → take (length w) (w ++ replicate (room - length w) 0) ≡ w
take_given room w = take-append_seam w (replicate (room - length w) 0)

-- the line, read again, is that of a table of the edition: these bytes are one
module _ (l : LineEdition) (edition : Edition) (w table : List ℕ) (room : ℕ) (small : room ≤ max_place) (fits : length w ≤ max_place) where
  read_as : (v : Verdict) → JudgedBy l w v → (any_over edition (zeros room) v w).number ≡ 0
      → (t : Table) × (SoundIn l edition t × (take (any_over edition (zeros room) v w).size (any_over edition (zeros room) v w).out ≡ stored edition t))
  read_as Fine j e =
      let x = judged_shape j refl in
      let s = x.0 in
      let q : line_text s ≡ w = x.1.1 in
      let r = subst (λ (l : List ℕ). ReadsSpelling edition s room (spelled_over edition (zeros room) l)) q (spelled_right edition room small s (omega (arith, ap length q))) in
      let y = spelling_as s room x.1.0 r e in
      let t = y.table in
      (t, (y.sound, ap (λ (a : Answer). take a.size a.out) y.is ∙ take_given room (stored edition t)))
  read_as Short j e = absurd (omega arith)
  read_as (Stray p) j e = absurd (omega arith)

  pub reads_holds : (v : Verdict) → (all_bytes w ≡ true → JudgedBy l w v) → reads_to edition v (zeros room) w table ≡ true → (t : Table) × HoldsIn l edition table t
  unfolding reads_to
  reads_holds v j e =
      let a = any_over edition (zeros room) v w in
      let b = t_is (all_bytes w) (and_0 (all_bytes w) (is_read a table) (is_t e)) in
      let i = and_1 (all_bytes w) (is_read a table) (is_t e) in
      let n = eqb-true a.number 0 (t_is (eqb a.number 0) (and_0 (eqb a.number 0) (same_bytes (take a.size a.out) table) i)) in
      let m = same_is (take a.size a.out) table (t_is (same_bytes (take a.size a.out) table) (and_1 (eqb a.number 0) (same_bytes (take a.size a.out) table) i)) in
      let x = read_as v (j b) n in
      (x.0, record { sound = x.1.0; is = sym x.1.1 ∙ m })

-- the preferred line of a table reads to its bytes
pub holds_reads : (l : LineEdition) (edition : Edition) (t : Table) → SoundIn l edition t → (room : ℕ) → room ≤ max_place → length (stored edition t) ≤ room → length (preferred t) ≤ max_place
    → (v : Verdict) → (all_bytes (preferred t) ≡ true → JudgedBy l (preferred t) v) → reads_to edition v (zeros room) (preferred t) (stored edition t) ≡ true
unfolding reads_to
holds_reads l edition t sound room small fits short v j =
    let s = preferred_spelling t in
    let b = line_bytes s in
    let f = shape_fine (preferred t) v (j b) (s, (preferred_within l sound.says sound.edition, refl)) in
    let g : spelled_over edition (zeros room) (preferred t) ≡ gives room (stored edition t) = spelling_it edition t sound room fits (spelled_right edition room small s short) in
    let a : any_over edition (zeros room) v (preferred t) ≡ gives room (stored edition t) = ap (λ (v : Verdict). any_over edition (zeros room) v (preferred t)) f ∙ g in
    let i : is_read (gives room (stored edition t)) (stored edition t) ≡ true = ap (λ (l : List ℕ). same_bytes l (stored edition t)) (take_given room (stored edition t)) ∙ same_refl (stored edition t) in
    rw (b, a) i
