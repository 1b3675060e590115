-- What is answered to bytes that may be a table is what the rules say of them: of its line, and of its conversion. Assumes nothing.
use Prim.Native.Nat.{ℕ, ◌≤◌}
use mathlib.Core.Path.{◌≡◌, refl, sym, ap, ◌∙◌, subst}
use mathlib.Core.Bool.{Bool, true, false, cond, ◌||◌}
use mathlib.Core.List.{List}
use native.Mathlib.Omega.{arith}
use lib.Dec.{T, ltb}
use lib.ListN.{length}
use borrow.Author.Tests.{ltb-true, ltb-false}
use Rattle.lang.proofs.Tests.{not_t}
use Rattle.rules.specs.Fields as Fields
use Rattle.rules.specs.Lines.{within}
use Rattle.rules.specs.Limits.{max_line}
use Rattle.rules.specs.Preferred.{preferred, preferred_spelling}
use Rattle.rules.specs.Stored.{stored}
use Rattle.rules.specs.Answers as rules
use Rattle.rules.specs.Answers.{refuses, gives, no_room, done, ReadsSpelling, Sound, SoundIn, Holds, Takes, Writes, long, fits, Converts, held}
use Rattle.rules.specs.Largest.{max_any_table}
use Rattle.rules.specs.Editions.{Edition, ed1, ed2, current, LineEdition, first_lines, second_lines}
use Rattle.rules.proofs.Sizes.{sizes_fit}
use Rattle.rules.proofs.PreferredSpells.{said_in_order, preferred_says, preferred_within}
use Rattle.put_bytes.specs.Puts.{max_place}
use Rattle.scan_line.specs.Steps.{machine_bytes, takes_letters, scanned_by}
use Rattle.scan_line.proofs.Letters.{is_second, takes_letters_lem}
use Rattle.scan_line.proofs.Scans.{by_machine}
use Rattle.scan_line.specs.Verdicts.{JudgedBy}
use Rattle.layout.specs.Editions.{edition_of}
use Rattle.print_table.specs.Parts.{edition_in}
use Rattle.print_table.specs.Tables.{printed_table}
use Rattle.print_table.proofs.PrintedTable.{table_printed}
use Rattle.print_table.proofs.Sections.{edition_stored}
use Rattle.print_table.proofs.Short.{line_short}
use Rattle.read_line.specs.Readings.{spelled_over, keeps_all}
use Rattle.read_line.specs.Same.{all_bytes}
use Rattle.read_line.specs.Back.{reads_to, few, zeros}
use Rattle.read_line.proofs.Right.{spelled_right, keeps_told, keeps_all_lem}
use Rattle.answers.specs.Delivered.{line_over}
use Rattle.write_table.specs.Writings.{edition_for, first_number, unheld_number, judged_first, judged_for, line_of, handed_of, found_of, found_in, longest_printed, answer_of, written_of, converted_of}
use Rattle.write_table.specs.declared.Wanted.{Wanted}
use Rattle.write_table.specs.declared.Wanted.TheVariants.{Line, Table}
use Rattle.write_table.proofs.Prefers.{preferred_kept, preferred_form, preferred_rules, preferred_sum}
use Rattle.write_table.proofs.Low.{bytes_each}
use Rattle.write_table.proofs.Holds.{HoldsIn, reads_holds, holds_reads}

-- ---- bytes that are a table

-- they are printed as its preferred line
pub printed_is : {e : Edition} (table : List ℕ) (t : Fields.Table) → Holds e table t → printed_table table ≡ preferred t
printed_is {e} table t h = ap printed_table (sym h.is) ∙ table_printed e t h.sound

-- and name their edition
pub edition_is : {e : Edition} (table : List ℕ) (t : Fields.Table) → Holds e table t → edition_of (edition_in table) ≡ e
edition_is {e} table t h = ap (λ (x : List ℕ). edition_of (edition_in x)) (sym h.is) ∙ edition_stored e t

-- ---- by lines of an edition

-- a machine that judges by lines of an edition
pub record Lent (l : LineEdition) (machine : List ℕ) : Type 0 where
  pub letters : takes_letters machine ≡ is_second l
  pub judged : (line : List ℕ) → all_bytes line ≡ true → length line ≤ max_place → JudgedBy l line (scanned_by machine line)

pub lent : (l : LineEdition) → Lent l (machine_bytes l)
lent l = record { letters = takes_letters_lem l; judged = λ line b h. by_machine l line (bytes_each line b) (omega arith) }

-- by the lines that are the edition's own, and by others that its preferred line is one of
own_holds : (e : Edition) (l : LineEdition) → (e ≡ ed1 → l ≡ first_lines) → {table : List ℕ} {t : Fields.Table} → HoldsIn l e table t → Holds e table t
own_holds ed1 l own {t = t} h = record { sound = subst (λ (x : LineEdition). SoundIn x ed1 t) (own refl) h.sound; is = h.is }
own_holds ed2 l own h =
    let s = h.sound in
    record {
      sound = record { spelling = s.spelling; edition = tt; says = s.says; limits = s.limits; form = s.form; rules = s.rules; sum = s.sum };
      is = h.is;
    }

holds_in : (e : Edition) (l : LineEdition) {table : List ℕ} (t : Fields.Table) → Holds e table t → T (within l (preferred_spelling t)) → HoldsIn l e table t
holds_in e l t h w =
    let s = h.sound in
    record {
      sound =
          record {
            spelling = preferred_spelling t;
            edition = w;
            says = preferred_says (said_in_order s.says);
            limits = preferred_kept t s;
            form = preferred_form e t s;
            rules = preferred_rules e t s;
            sum = preferred_sum t s;
          };
      is = h.is;
    }

-- bytes that are a table are found to be one
found : (e : Edition) (l : LineEdition) (machine table : List ℕ) → Lent l machine → (size : ℕ) → size ≤ max_place → length (printed_table table) ≤ max_place
    → (t : Fields.Table) → Holds e table t → T (within l (preferred_spelling t)) → length (stored e t) ≤ size
    → reads_to e (scanned_by machine (printed_table table)) (zeros size) (printed_table table) table ≡ true
found e l machine table m size n fit t h w f =
    let q = printed_is table t h in
    let r = holds_reads l e t (holds_in e l t h w).sound size n f (omega (arith, ap length q)) (scanned_by machine (preferred t))
    (λ b. m.judged (preferred t) b (omega (arith, ap length q))) in
    subst (λ (x : List ℕ). reads_to e (scanned_by machine (printed_table table)) (zeros size) (printed_table table) x ≡ true) h.is
    (subst (λ (x : List ℕ). reads_to e (scanned_by machine x) (zeros size) x (stored e t) ≡ true) (sym q) r)

-- bytes that are not found to be one are none, or the lines of the edition lack its letters
unheld : (e : Edition) (l : LineEdition) (machine table : List ℕ) → Lent l machine → (e ≡ ed1 → l ≡ first_lines) → length (printed_table table) ≤ max_place
    → ((t : Fields.Table) → Holds e table t → T (within l (preferred_spelling t)) → ⊥) → (Q : ℕ → Type 0) → (((t : Fields.Table) → Holds e table t → ⊥) → Q 9)
    → ((t : Fields.Table) → Holds e table t → (T (within l (preferred_spelling t)) → ⊥) → e ≡ ed2 → Q 20) → Q (unheld_number e machine (printed_table table) table)
unheld ed1 l machine table m own fit never Q none lettered =
    none (λ t h. never t h (subst (λ (x : LineEdition). T (within x (preferred_spelling t))) (sym (own refl)) (preferred_within first_lines h.sound.says h.sound.edition)))
unheld ed2 second_lines machine table m own fit never Q none lettered = rw m.letters (none (λ t h. never t h tt))
unheld ed2 first_lines machine table m own fit never Q none lettered =
    rw m.letters (by (reads_to current (scanned_by (machine_bytes second_lines) (printed_table table)) (zeros max_any_table) (printed_table table) table) refl)
  where
    by : (b : Bool) → reads_to current (scanned_by (machine_bytes second_lines) (printed_table table)) (zeros max_any_table) (printed_table table) table ≡ b → Q (cond b 20 9)
    by true q =
        let x = reads_holds second_lines ed2 (printed_table table) table max_any_table (omega arith) fit (scanned_by (machine_bytes second_lines) (printed_table table))
        (λ b. (lent second_lines).judged (printed_table table) b fit) q in
        let h : Holds ed2 table x.0 = record { sound = x.1.sound; is = x.1.is } in
        lettered x.0 h (never x.0 h) refl
    by false q =
        none (λ t h. not_t {x = true} (sym (found ed2 second_lines (machine_bytes second_lines) table (lent second_lines) max_any_table (omega arith) fit t h tt (sizes_fit ed2 t h.sound)) ∙ q) tt)

-- ---- whatever is wanted of them

module _ (wanted : Wanted) (machine table : List ℕ) (room : ℕ) (l : LineEdition) (m : Lent l machine) where
  abbrev w : List ℕ
  w = printed_table table

  -- the edition that they have to be of
  abbrev e : Edition
  e = edition_of (edition_for wanted table)

  -- P is what the answer has to be: 9 for bytes that are no table of that edition, 20 for those of one that no line of the edition asked for spells, and what is
  -- wanted for the others
  module _ (own : e ≡ ed1 → l ≡ first_lines) (P : rules.Answer → Type 0) (none : ((t : Fields.Table) → Holds e table t → ⊥) → P (refuses room 9 0))
      (lettered : (t : Fields.Table) → Holds e table t → (T (within l (preferred_spelling t)) → ⊥) → e ≡ ed2 → P (refuses room 20 0))
      (handed : (t : Fields.Table) → Holds e table t → T (within l (preferred_spelling t)) → length w ≤ max_place → P (handed_of wanted e w room)) where
    -- buffers that hold the line and the bytes, if the bytes are a table
    module _ (most size : ℕ) (small : most ≤ max_place) (n : size ≤ max_place) (line_fits : (t : Fields.Table) → Holds e table t → length (preferred t) ≤ most)
        (table_fits : (t : Fields.Table) → Holds e table t → length (stored e t) ≤ size) where
      found_right : P (found_in wanted machine most (zeros size) w table room)
      unfolding found_in found_of
      found_right = by (ltb most (length w)) refl
        where
          holds : length w ≤ max_place → (b : Bool) → reads_to e (scanned_by machine w) (zeros size) w table ≡ b
              → P (cond b (handed_of wanted e w room) (refuses room (unheld_number e machine w table) 0))
          holds fit true q =
              let x = reads_holds l e w table size n fit (scanned_by machine w) (λ b. m.judged w b fit) q in
              let s = x.1.sound in
              handed x.0 (own_holds e l own x.1) (preferred_within l s.says s.edition) fit
          holds fit false q =
              unheld e l machine table m own fit (λ t h i. not_t {x = true} (sym (found e l machine table m size n fit t h i (table_fits t h)) ∙ q) tt)
              (λ k. P (refuses room k 0)) none lettered

          by : (a : Bool) → ltb most (length w) ≡ a
              → P (cond a (refuses room 9 0) (cond (reads_to e (scanned_by machine w) (zeros size) w table) (handed_of wanted e w room) (refuses room (unheld_number e machine w table) 0)))
          by true q = none (λ t h. let z = ltb-true most (length w) q in let y = line_fits t h in absurd (omega (arith, ap length (printed_is table t h))))
          by false q = let z = ltb-false most (length w) q in holds (omega arith) (reads_to e (scanned_by machine w) (zeros size) w table) refl

    answer_right : P (answer_of wanted machine table room)
    unfolding answer_of
    answer_right = by (ltb few (length w)) refl (ltb few (length table)) refl
      where
        all : P (found_in wanted machine longest_printed (zeros max_any_table) w table room)
        all = found_right longest_printed max_any_table (omega arith) (omega arith) (λ t h. omega (arith, line_short t h.sound)) (λ t h. sizes_fit e t h.sound)

        by : (a : Bool) → ltb few (length w) ≡ a → (b : Bool) → ltb few (length table) ≡ b
            → P (cond (a || b) (found_in wanted machine longest_printed (zeros max_any_table) w table room) (found_in wanted machine few (zeros few) w table room))
        by true q b f = all
        by false q true f = all
        by false q false f =
            found_right few few (omega arith) (omega arith)
            (λ t h. let z = ltb-false few (length w) q in omega (arith, ap length (printed_is table t h)))
            (λ t h. let z = ltb-false few (length table) f in omega (arith, ap length h.is))

-- ---- its line

-- against its bound and the output
pub line_right : (l : LineEdition) (table : List ℕ) (room : ℕ) (t : Fields.Table) → Holds current table t → T (within l (preferred_spelling t)) → (w : List ℕ) → w ≡ preferred t
    → Writes l table room (line_over w room)
unfolding line_over
line_right l table room t h i w q = subst (λ (x : List ℕ). Writes l table room (line_over x room)) (sym q) (by (ltb max_line (length (preferred t))) refl (ltb room (length (preferred t))) refl)
  where
    by : (a : Bool) → ltb max_line (length (preferred t)) ≡ a → (b : Bool) → ltb room (length (preferred t)) ≡ b
        → Writes l table room (cond a (refuses room 1 max_line) (cond b (refuses room 8 (length (preferred t))) (gives room (preferred t))))
    by true e b f = long t h i (ltb-true max_line (length (preferred t)) e)
    by false e true f = fits t h i (ltb-false max_line (length (preferred t)) e) (no_room (ltb-true room (length (preferred t)) f))
    by false e false f = fits t h i (ltb-false max_line (length (preferred t)) e) (done (ltb-false room (length (preferred t)) f))

-- of a sound table the preferred line keeps everything
line_keeps : (t : Fields.Table) → Sound current t → length (preferred t) ≤ max_place → keeps_all current (preferred t) ≡ true
line_keeps t s l =
    keeps_all_lem current (preferred_spelling t) l
    (record { limits = preferred_kept t s; form = preferred_form current t s; rules = preferred_rules current t s; sum = preferred_sum t s })

-- and where it does, the table is sound
keeps_sound : {e : Edition} (t : Fields.Table) → Sound e t → length (preferred t) ≤ max_place → keeps_all current (preferred t) ≡ true → Sound current t
keeps_sound t s l k =
    let a = keeps_told current (preferred_spelling t) l k in
    record { spelling = preferred_spelling t; edition = tt; says = preferred_says (said_in_order s.says); limits = a.limits; form = a.form; rules = a.rules; sum = a.sum }

-- of an edition 1 table: 10 where it can be read today, else 9
first_right : (l : LineEdition) (table : List ℕ) (room : ℕ) (t : Fields.Table) → Holds ed1 table t → length (printed_table table) ≤ max_place
    → Writes l table room (refuses room (first_number (printed_table table)) 0)
unfolding first_number
first_right l table room t h fit = by (keeps_all current (printed_table table)) refl
  where
    by : (b : Bool) → keeps_all current (printed_table table) ≡ b → Writes l table room (refuses room (cond b 10 9) 0)
    by true k =
        let q = printed_is table t h in
        Writes.old t h (keeps_sound t h.sound (omega (arith, ap length q)) (ap (keeps_all current) (sym q) ∙ k))
    by false k =
        Writes.no_table (λ u g.
        let q = printed_is table u g.holds in
        not_t {x = true} (sym (line_keeps u g.also (omega (arith, ap length q))) ∙ ap (keeps_all current) (sym q) ∙ k) tt)

-- ---- by a lent machine

-- a table of edition 1 is judged by lines of the first edition, one of edition 2 by those that are asked for
record Judge (e : Edition) (l : LineEdition) (machine : List ℕ) : Type 0 where
  lines : LineEdition
  machine_is : Lent lines (judged_for e machine)
  own : e ≡ ed1 → lines ≡ first_lines
  asked : e ≡ ed2 → lines ≡ l

ed1_ed2 : ed1 ≡ ed2 → ⊥
ed1_ed2 q = subst First q tt
  where
    First : Edition → Type 0
    First ed1 = Unit {0}
    First ed2 = ⊥

judge : (e : Edition) (l : LineEdition) (machine : List ℕ) → Lent l machine → Judge e l machine
unfolding judged_first
judge ed1 first_lines machine m = record { lines = first_lines; machine_is = rw m.letters m; own = λ q. refl; asked = λ q. absurd (ed1_ed2 q) }
judge ed1 second_lines machine m = record { lines = first_lines; machine_is = rw m.letters (lent first_lines); own = λ q. refl; asked = λ q. absurd (ed1_ed2 q) }
judge ed2 l machine m = record { lines = l; machine_is = m; own = λ q. absurd (ed1_ed2 (sym q)); asked = λ q. refl }

pub write_right : (l : LineEdition) (machine table : List ℕ) (room : ℕ) → Lent l machine → Writes l table room (written_of machine table room)
write_right l machine table room m = answer_right Line (judged_for (edition_of (edition_in table)) machine) table room j.lines j.machine_is j.own (Writes l table room) none lettered handed
  where
    j : Judge (edition_of (edition_in table)) l machine
    j = judge (edition_of (edition_in table)) l machine m

    none : ((t : Fields.Table) → Holds (edition_of (edition_in table)) table t → ⊥) → Writes l table room (refuses room 9 0)
    none n = Writes.no_table (λ t h. n t (subst (λ (e : Edition). Holds e table t) (sym (edition_is table t h.holds)) h.holds))

    lettered : (t : Fields.Table) → Holds (edition_of (edition_in table)) table t → (T (within j.lines (preferred_spelling t)) → ⊥) → edition_of (edition_in table) ≡ ed2 → Writes l table room (refuses room 20 0)
    lettered t h n q =
        Writes.lettered t (subst (λ (e : Edition). Holds e table t) q h) (λ i. n (subst (λ (x : LineEdition). T (within x (preferred_spelling t))) (sym (j.asked q)) i))

    by : (x : Edition) (t : Fields.Table) → Holds x table t → (x ≡ ed2 → T (within l (preferred_spelling t))) → length (printed_table table) ≤ max_place
        → Writes l table room (line_of x (printed_table table) room)
    by ed1 t h i fit = first_right l table room t h fit
    by ed2 t h i fit = line_right l table room t h (i refl) (printed_table table) (printed_is table t h)

    handed : (t : Fields.Table) → Holds (edition_of (edition_in table)) table t → T (within j.lines (preferred_spelling t)) → length (printed_table table) ≤ max_place
        → Writes l table room (line_of (edition_of (edition_in table)) (printed_table table) room)
    handed t h i fit = by (edition_of (edition_in table)) t h (λ q. subst (λ (x : LineEdition). T (within x (preferred_spelling t))) (j.asked q) i) fit

-- ---- its conversion

pub convert_right : (l : LineEdition) (machine table : List ℕ) (room : ℕ) → room ≤ max_place → Lent l machine → Converts table room (converted_of machine table room)
convert_right l machine table room small m =
    answer_right Table (judged_first machine) table room j.lines j.machine_is j.own (Converts table room) Converts.no_table (λ t h n q. absurd (ed1_ed2 q)) handed
  where
    j : Judge ed1 l machine
    j = judge ed1 l machine m

    -- its preferred line is within the limits
    read : (t : Fields.Table) → Holds ed1 table t → {a : rules.Answer} → ReadsSpelling current (preferred_spelling t) room a → Converts table room a
    read t h (ReadsSpelling.limit m w) = absurd (preferred_kept t h.sound m w.is_in w.broken)
    read t h (ReadsSpelling.kept k r) = held t h r

    handed : (t : Fields.Table) → Holds ed1 table t → T (within j.lines (preferred_spelling t)) → length (printed_table table) ≤ max_place
        → Converts table room (spelled_over current (zeros room) (printed_table table))
    handed t h i fit =
        let q = printed_is table t h in
        subst (λ (x : List ℕ). Converts table room (spelled_over current (zeros room) x)) (sym q)
        (read t h (spelled_right current room small (preferred_spelling t) (omega (arith, ap length q))))
