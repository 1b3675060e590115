-- What is printed of changes in a row: losses, or adduct items. Assumes nothing.
use Prim.Native.Nat.{ℕ, suc, ◌+◌, ◌*◌, ◌/◌, ◌%◌, ◌≤◌, min}
use mathlib.Core.Path.{◌≡◌, refl, sym, ap, ap₂, ◌∙◌}
use mathlib.Core.List.{List, [], ◌∷◌, ◌++◌, append_assoc, map}
use native.Mathlib.Omega.{arith}
use lib.ListN.{length, drop, take, length-append}
use lib.Seq.{drop-append_seam, take-append_seam}
use Rattle.lang.specs.Parts.{flat}
use Rattle.lang.specs.Mark.{In, here, later}
use Rattle.rules.specs.Bytes.{bytes}
use Rattle.rules.specs.Numbers.{Number}
use Rattle.rules.specs.Texts.{in_brackets}
use Rattle.rules.specs.Formulas.{FormulaUnit, unit_text, unit_map}
use Rattle.rules.specs.Losses.{Sign, minus, plus, sign_text}
use Rattle.rules.specs.Preferred.{shortened, sign_rank}
use Rattle.rules.specs.Stored.{Field, u8, u16, stores, unit_record}
use Rattle.rules.specs.Limits.{max_units, max_text}
use Rattle.rules.specs.Layout.{loss_width, unit_width, content_size_at}
use Rattle.slices.specs.Numbers.{u16_at}
use Rattle.put_formula.specs.Preferred.{printed_units}
use Rattle.put_formula.proofs.Chains.{AllOf, all_none, all_more}
use Rattle.put_formula.proofs.PutUnits.{UnitUpTo, printed_read}
use Rattle.rules.proofs.Lengths.{unit_length}
use Rattle.changes.specs.Signs.{sign_of_byte}
use Rattle.print_count.specs.Heads.{sign_bytes, count_text}
use Rattle.print_parts.specs.Changes.{change_units, change_name, content_printed, change_printed, changes_printed, unit_bytes, name_bytes}
use Rattle.slices.proofs.StoredNumbers.{word_stored}

-- ---- lists

pub all_in : {A : Type 0} {P : A → Type 0} (xs : List A) → ((x : A) → In x xs → P x) → AllOf P xs
all_in [] h = all_none
all_in (x ∷ xs) h = all_more (h x here) (all_in xs (λ y i. h y (later i)))

flat_append : {A B : Type 0} (f : A → List B) (xs ys : List A) → flat f (xs ++ ys) ≡ flat f xs ++ flat f ys
flat_append f [] ys = refl
flat_append f (x ∷ xs) ys = ap (λ l. f x ++ l) (flat_append f xs ys) ∙ sym (append_assoc (f x) (flat f xs) (flat f ys))

-- without a part of a known length
drop_part : (n : ℕ) (l m : List ℕ) → n ≡ length l → drop n (l ++ m) ≡ m
drop_part n l m e = ap (λ (k : ℕ). drop k (l ++ m)) e ∙ drop-append_seam l m

-- ---- units

abbrev pub unit_rows : List (FormulaUnit Number) → List ℕ
unit_rows us = flat (λ u. stores (unit_record u)) us

unit_rows_lem : (us : List (FormulaUnit Number)) → length (unit_rows us) ≡ unit_width * length us
unit_rows_lem [] = refl
unit_rows_lem (u ∷ us) = omega (arith, length-append (stores (unit_record u)) (unit_rows us), unit_length u, unit_rows_lem us)

-- ---- one change

-- bytes are the record of a change that has these units, this name and this text, whatever follows them
pub record Tells (row : List ℕ) (us : List (FormulaUnit Number)) (name text : List ℕ) : Type 0 where
  pub long : loss_width ≡ length row
  pub units : (l : List ℕ) → change_units (row ++ l) ≡ length us
  pub names : (l : List ℕ) → change_name (row ++ l) ≡ length name
  pub texts : (l u t : List ℕ) → change_printed (row ++ l) (unit_rows us ++ u) (name ++ t) ≡ text

-- sign, kind, count, units or name bytes
abbrev pub change_record : ℕ → ℕ → ℕ → ℕ → List Field
change_record sign kind count size = u8 sign ∷ u8 kind ∷ u16 count ∷ u16 size ∷ []

pub sign_told : (s : Sign) → sign_bytes (sign_of_byte (sign_rank s % 256)) ≡ sign_text s
sign_told minus = refl
sign_told plus = refl

module _ (sign : Sign) (count : ℕ) (h : count ≤ 65535) (c : List ℕ) (says : count_text count ≡ c) where
  told : (kind size : ℕ) (l u t w : List ℕ) → content_printed (stores (change_record (sign_rank sign) kind count size) ++ l) u t ≡ w
      → change_printed (stores (change_record (sign_rank sign) kind count size) ++ l) u t ≡ sign_text sign ++ (c ++ w)
  unfolding change_printed
  told kind size l u t w e =
      ap₂ (λ (a b : List ℕ). a ++ b) (sign_told sign)
      (ap₂ (λ (a b : List ℕ). a ++ b)
      (ap count_text (word_stored count (drop content_size_at (stores (change_record (sign_rank sign) kind count size) ++ l)) h) ∙ says) e)

  pub formula_told : (us : List (FormulaUnit Number)) (size : ℕ) → size ≡ length us → length us ≤ max_units → AllOf (UnitUpTo 65535) us
      → Tells (stores (change_record (sign_rank sign) 0 count size)) us [] (sign_text sign ++ (c ++ flat unit_text (map (unit_map shortened) us)))
  unfolding change_units change_name content_printed
  formula_told us size e few a =
      let n : (l : List ℕ) → min (u16_at (size % 256 ∷ size / 256 % 256 ∷ l)) max_units ≡ length us = λ l. omega (arith, word_stored size l (omega arith)) in
      record {
        long = refl;
        units = n;
        names = λ l. refl;
        texts = λ l u t.
            told 0 size l (unit_rows us ++ u) t (flat unit_text (map (unit_map shortened) us))
            (ap (λ (m : ℕ). printed_units m (unit_rows us ++ u)) (n l) ∙ printed_read us u a);
      }

  pub name_told : (name : List ℕ) (size : ℕ) → size ≡ length name → length name ≤ max_text
      → Tells (stores (change_record (sign_rank sign) 1 count size)) [] name (sign_text sign ++ (c ++ in_brackets name))
  unfolding change_units change_name content_printed
  name_told name size e short =
      let n : (l : List ℕ) → min (u16_at (size % 256 ∷ size / 256 % 256 ∷ l)) max_text ≡ length name = λ l. omega (arith, word_stored size l (omega arith)) in
      record {
        long = refl;
        units = λ l. refl;
        names = n;
        texts = λ l u t.
            told 1 size l u (name ++ t) (in_brackets name)
            (ap in_brackets (ap (λ (m : ℕ). take m (name ++ t)) (n l) ∙ take-append_seam name t));
      }

  pub electron_told : Tells (stores (change_record (sign_rank sign) 2 count 0)) [] [] (sign_text sign ++ (c ++ bytes "e"))
  unfolding change_units change_name content_printed
  electron_told = record { long = refl; units = λ l. refl; names = λ l. refl; texts = λ l u t. told 2 0 l u t (bytes "e") refl }

-- ---- changes in a row

-- n changes whose records l begins with, and what they have
pub record Printed (n : ℕ) (l u t : List ℕ) (us : List (FormulaUnit Number)) (w text : List ℕ) : Type 0 where
  pub texts : changes_printed n l u t ≡ text
  pub units : unit_bytes n l ≡ unit_width * length us
  pub names : name_bytes n l ≡ length w

-- the first and the others, each as bytes laid before what follows
more_printed : (n : ℕ) (r l u t : List ℕ) (us vs : List (FormulaUnit Number)) (w names one many : List ℕ) → Tells r us w one
    → Printed n l u t vs names many → Printed (suc n) (r ++ l) (unit_rows us ++ u) (w ++ t) (us ++ vs) (w ++ names) (one ++ many)
unfolding changes_printed unit_bytes name_bytes
more_printed n r l u t us vs w names one many p q =
    let dl = drop_part loss_width r l p.long in
    let k = p.units l in
    let m = p.names l in
    let du : drop (unit_width * change_units (r ++ l)) (unit_rows us ++ u) ≡ u = drop_part (unit_width * change_units (r ++ l)) (unit_rows us) u (omega (arith, unit_rows_lem us, k)) in
    let dt : drop (change_name (r ++ l)) (w ++ t) ≡ t = drop_part (change_name (r ++ l)) w t m in
    record {
      texts =
          ap₂ (λ (a b : List ℕ). a ++ b) (p.texts l u t)
          (ap (λ (z : List ℕ). changes_printed n z (drop (unit_width * change_units (r ++ l)) (unit_rows us ++ u)) (drop (change_name (r ++ l)) (w ++ t))) dl
          ∙ ap₂ (changes_printed n l) du dt ∙ q.texts);
      units =
          ap (λ (z : List ℕ). unit_width * change_units (r ++ l) + unit_bytes n z) dl ∙ omega (arith, k, q.units, length-append us vs);
      names =
          ap (λ (z : List ℕ). change_name (r ++ l) + name_bytes n z) dl ∙ omega (arith, m, q.names, length-append w names);
    }

module _ {X : Type 0} (row : X → List ℕ) (units : X → List (FormulaUnit Number)) (name text : X → List ℕ) where
  pub changes_printed_lem : (xs : List X) (kl ku kt : List ℕ) → ((x : X) → In x xs → Tells (row x) (units x) (name x) (text x))
      → Printed (length xs) (flat row xs ++ kl) (unit_rows (flat units xs) ++ ku) (flat name xs ++ kt) (flat units xs) (flat name xs) (flat text xs)
  unfolding changes_printed unit_bytes name_bytes
  changes_printed_lem [] kl ku kt h = record { texts = refl; units = refl; names = refl }
  changes_printed_lem (x ∷ xs) kl ku kt h =
      let us = unit_rows (units x) in
      let vs = unit_rows (flat units xs) in
      rw (append_assoc (row x) (flat row xs) kl, flat_append (λ u. stores (unit_record u)) (units x) (flat units xs), append_assoc us vs ku, append_assoc (name x) (flat name xs) kt)
      (more_printed (length xs) (row x) (flat row xs ++ kl) (vs ++ ku) (flat name xs ++ kt) (units x) (flat units xs) (name x) (flat name xs) (text x) (flat text xs)
      (h x here) (changes_printed_lem xs kl ku kt (λ y i. h y (later i))))
