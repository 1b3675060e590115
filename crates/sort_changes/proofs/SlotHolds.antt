-- What the slot of a spelled loss or adduct item holds: the text by which it is put in order, and what it stores. Assumes nothing.
use Prim.Native.Nat.{ℕ, ◌+◌, ◌-◌, ◌≤◌}
use mathlib.Core.Path.{◌≡◌, refl, sym, ap, ◌∙◌}
use mathlib.Core.List.{List, [], ◌∷◌, ◌++◌, map, map-map, append_assoc}
use native.Mathlib.Omega.{arith}
use lib.ListN.{length, take, drop, length-append}
use lib.Seq.{take-append_seam}
use Rattle.std.specs.Prelude.{Option, None}
use Rattle.lang.specs.Parts.{Opt, silent, written, opt_text, items, flat}
use Rattle.rules.specs.Bytes.{bytes}
use Rattle.rules.specs.Numbers.{From, number_text}
use Rattle.rules.specs.Texts.{bracket_text}
use Rattle.rules.specs.Formulas.{Written, FormulaUnit, unit_text, unit_map, formula_text, formula_map}
use Rattle.rules.specs.Losses.{sign_text}
use Rattle.rules.specs.Preferred.{sign_rank, key, shortened}
use Rattle.rules.specs.Fields.{filled}
use Rattle.rules.specs.Stored.{Field, u8, u16, stores, unit_record}
use Rattle.rules.specs.Limits.{max_text}
use Rattle.rules.specs.Layout.{unit_section, text_section}
use Rattle.changes.specs.Signs.{sign_number}
use Rattle.changes.specs.Contents.{content_number, content_size}
use Rattle.changes.proofs.Signs.{sign_read, sign_ranked}
use Rattle.print_count.specs.Heads.{head_text}
use Rattle.faults.specs.declared.Refusal.{Refusal}
use Rattle.read_formula.proofs.Ends.{EndsFormula}
use Rattle.put_formula.proofs.Chains.{AllOf}
use Rattle.put_formula.proofs.PutUnits.{EndsUnits, UnitTold, preferred_read, records_read}
use Rattle.read_opening.proofs.SpelledOpenings.{count_told, drop_read}
use Rattle.read_changes.proofs.Spelled.{What, a_formula, a_name, an_electron, content_text, what_content, Spelled, change_text}
use Rattle.read_changes.proofs.Begins.{change_text_lem}
use Rattle.read_opening.proofs.SpelledOpenings.{sign_long}
use Rattle.read_changes.proofs.OneChange.{change_read, change_read_lem}
use Rattle.sort_slots.specs.declared.Slot.{Slot}
use Rattle.store_sections.specs.Pages.{Event}
use Rattle.sort_changes.specs.Keys.{content_key, key_text}
use Rattle.sort_changes.specs.Gathered.{change_here}
use Rattle.sort_changes.specs.Events.{content_events, slot_events}

-- ---- as it is spelled

abbrev pub what_units : What → List (FormulaUnit Written)
what_units (a_formula x) = items x
what_units (a_name n) = []
what_units an_electron = []

-- the preferred text
abbrev pub what_key : What → List ℕ
what_key (a_formula x) = formula_text (formula_map shortened (formula_map filled x))
what_key (a_name n) = bracket_text n
what_key an_electron = bytes "e"

abbrev pub count_value : {m : ℕ} → Opt (From m) → ℕ
count_value silent = 1
count_value (written n) = n.value

abbrev pub change_key : {m : ℕ} → Spelled m → List ℕ
change_key x = key (what_key x.what) x.sign (count_value x.count)

-- as it is spelled anew
abbrev pub change_spelled : {m : ℕ} → Spelled m → List ℕ
change_spelled x = head_text (sign_read x.sign) (count_value x.count) ++ what_key x.what

-- what is stored of it in section j, and of its units or its name
abbrev pub change_record : {m : ℕ} → Spelled m → List Field
change_record x = u8 (sign_rank x.sign) ∷ u8 (content_number (what_content x.what)) ∷ u16 (count_value x.count) ∷ u16 (content_size (what_content x.what)) ∷ []

abbrev pub what_events : What → List Event
what_events (a_formula x) = (unit_section, flat (λ u. stores (unit_record u)) (map (unit_map filled) (items x))) ∷ []
what_events (a_name n) = (text_section, n.bytes) ∷ []
what_events an_electron = []

abbrev pub spelled_events : {m : ℕ} → ℕ → Spelled m → List Event
spelled_events j x = (j, stores (change_record x)) ∷ what_events x.what

-- its numbers are read as they are, and its key has no more bytes than a name with brackets
pub record ChangeFits {m : ℕ} (x : Spelled m) : Type 0 where
  pub count : count_value x.count ≤ 1000000
  pub units : AllOf UnitTold (what_units x.what)
  pub short : length (what_key x.what) ≤ max_text + 2

-- ---- behind sign and count

abbrev only : ℕ → List ℕ → List Event
only j l = (j, l) ∷ []

ends_units : (k : List ℕ) → EndsFormula k → EndsUnits k
ends_units k e = record { no_digit = e.no_digit; no_small = e.no_small }

module _ (k : List ℕ) (e : EndsFormula k) where
  what_key_lem : (w : What) (n : ℕ) → AllOf UnitTold (what_units w) → n ≡ length (content_text w)
      → content_key n (content_text w ++ k) (what_content w) ≡ what_key w
  what_key_lem (a_formula x) n a h =
      preferred_read (items x) k a (ends_units k e)
      ∙ ap (λ (l : List (FormulaUnit Written)). unit_text (unit_map shortened (unit_map filled x.first)) ++ flat unit_text l)
      (sym (map-map (unit_map shortened) (unit_map filled) x.more))
  what_key_lem (a_name b) n a h = ap (λ (i : ℕ). take i (bracket_text b ++ k)) h ∙ take-append_seam (bracket_text b) k
  what_key_lem an_electron n a h = ap (λ (i : ℕ). take i (bytes "e" ++ k)) h

  what_events_lem : (w : What) → AllOf UnitTold (what_units w)
      → content_events (content_text w ++ k) (what_content w) ≡ what_events w
  what_events_lem (a_formula x) a = ap (only unit_section) (records_read (items x) k a (ends_units k e))
  what_events_lem (a_name n) a =
      ap (only text_section)
      (ap (take (length n.bytes)) (append_assoc n.bytes (93 ∷ []) k) ∙ take-append_seam n.bytes (93 ∷ k))
  what_events_lem an_electron a = refl

-- ---- what is read

pub count_told_lem : {m : ℕ} (c : Opt (From m)) → count_value c ≤ 1000000 → count_told c ≡ count_value c
count_told_lem silent h = refl
count_told_lem (written n) h = omega arith

module _ {m : ℕ} (x : Spelled m) (k : List ℕ) (e : EndsFormula k) where
  abbrev start_of : ℕ
  start_of = 1 + length (opt_text number_text x.count)

  -- what stands behind its sign and count
  pub behind_head_lem : drop start_of (change_text x ++ k) ≡ content_text x.what ++ k
  behind_head_lem = ap (drop start_of) (change_text_lem x k) ∙ drop_read x.sign x.count (content_text x.what ++ k)

  pub start_within : start_of + length (content_text x.what) ≡ length (change_text x)
  start_within =
      let a = length-append (sign_text x.sign) (opt_text number_text x.count ++ content_text x.what) in
      let b = length-append (opt_text number_text x.count) (content_text x.what) in
      omega (arith, a, b, sign_long x.sign)

  pub here_told : (g : Option Refusal) × (change_here (change_text x ++ k) ≡ change_read x g)
  here_told = (_, change_read_lem x k 0 0 (length (change_text x ++ k)) None e (omega arith))

  pub key_told : (g : Option Refusal) → AllOf UnitTold (what_units x.what) → key_text (change_text x ++ k) (change_read x g) ≡ what_key x.what
  unfolding key_text
  key_told g a =
      let n = length (change_text x) - start_of in
      let l = start_within in
      ap (λ (t : List ℕ). content_key n t (what_content x.what)) behind_head_lem
      ∙ what_key_lem k e x.what n a (omega arith)

  pub events_told : (j : ℕ) (all : List ℕ) (y : Slot) → y.sign ≡ sign_read x.sign → y.count ≡ count_value x.count → y.content ≡ what_content x.what
      → drop y.start all ≡ content_text x.what ++ k → AllOf UnitTold (what_units x.what)
      → slot_events j all y ≡ spelled_events j x
  unfolding slot_events
  events_told j all y es ec ek er a =
      let g : sign_number y.sign ≡ sign_rank x.sign = ap sign_number es ∙ sign_ranked x.sign in
      (λ i. (j, stores (u8 (g i) ∷ u8 (content_number (ek i)) ∷ u16 (ec i) ∷ u16 (content_size (ek i)) ∷ [])) ∷ content_events (er i) (ek i))
      ∙ ap (λ (l : List Event). (j, stores (change_record x)) ∷ l) (what_events_lem k e x.what a)
