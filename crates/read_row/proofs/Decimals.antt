-- The column that bytes begin with is good where it is a decimal within its bounds, and nowhere else. Assumes nothing.
use Prim.Native.Nat.{ℕ, zero, suc, ◌+◌, ◌-◌, ◌*◌, ◌≤◌, min}
use mathlib.Core.Path.{◌≡◌, refl, sym, ap, ap₂, ◌∙◌, subst}
use mathlib.Core.Bool.{Bool, true, false, cond, not, ◌&&◌}
use mathlib.Core.List.{List, [], ◌∷◌, ◌++◌, append_assoc, append-nil}
use mathlib.Core.Logic.{◌⊎◌, inl, inr}
use native.Mathlib.Omega.{arith}
use lib.Dec.{T, eqb, leb}
use lib.ListN.{length, drop, length-append}
use lib.Seq.{drop-append_seam, drop-drop}
use borrow.Author.Tests.{eqb-true, leb-true}
use Rattle.lang.specs.Re.{in_c}
use Rattle.lang.specs.Digits.{value_from}
use Rattle.lang.specs.Parts.{all}
use Rattle.lang.proofs.Deriv.{and_0, and_1, and_i}
use Rattle.lang.proofs.Lits.{in→, →in}
use Rattle.lang.proofs.Ranges.{in_range}
use Rattle.lang.proofs.Tests.{is_t, t_is}
use Rattle.rules.specs.Bytes.{bytes, ◌to◌, digit}
use Rattle.rules.specs.Numbers.{digits}
use Rattle.rules.specs.Decimals as rules
use Rattle.rules.specs.Decimals.{whole, last_digits, point_text, decimal_text, digit_count}
use Rattle.rules.specs.Limits.{fits}
use Rattle.rules.specs.Texts.{first_in, starts_with}
use Rattle.rules.specs.RowAnswers.{lacks, Cut, at_tab, no_tab, GoodColumn, BadColumn}
use Rattle.rules.proofs.Digits as D
use Rattle.rules.proofs.Digits.{digits_small, digits_all, read_back}
use Rattle.rules.proofs.Fractions.{whole_from, last_from, last_digits_lem, last_length}
use Rattle.numbers.specs.declared.Decimal.{Decimal}
use Rattle.numbers.specs.declared.DecimalRead.{DecimalRead}
use Rattle.numbers.specs.declared.FirstByte.TheVariants.{Digit}
use Rattle.std.specs.Prelude.{Result, Option, Some, None, Ok, Err, is_some, is_ok}
use Rattle.numbers.specs.Leading.{leading}
use Rattle.numbers.specs.Making.{ruled, made_of, made_decimal}
use Rattle.numbers.specs.Points.{point, fraction, pointed, decimal_from, decimal_of}
use Rattle.numbers.proofs.Leads.{leading_silent}
use Rattle.numbers.proofs.SpelledNumbers.{decimal_read}
use Rattle.read_row.specs.declared.Column.{Column}
use Rattle.read_row.specs.Columns.{begins_decimal, ends_column, is_column, good_column, column_in, column_of}
use Rattle.read_row.proofs.Cuts.{lacks_more, lacks_append}

-- ---- a decimal has no tab

digits_lack : (w : List ℕ) → T (all digit w) → T (lacks 9 w)
digits_lack [] t = tt
digits_lack (b ∷ w) t =
    let g = in→ 48 57 b (and_0 (in_c digit b) (all digit w) t) in
    lacks_more 9 b w (λ e. omega arith) (digits_lack w (and_1 (in_c digit b) (all digit w) t))

point_lacks : (n v : ℕ) → T (lacks 9 (point_text n v))
unfolding point_text
point_lacks zero v = tt
point_lacks (suc n) v = digits_lack (last_digits (suc n) v) (last_digits_lem (suc n) v)

pub decimal_lacks : (d : rules.Decimal) → T (lacks 9 (decimal_text d))
decimal_lacks d =
    let w = whole d.places d.value in
    lacks_append 9 (digits w) (point_text d.places d.value) (digits_lack (digits w) (digits_all w)) (point_lacks d.places d.value)

-- ---- a column that is good is read as it is

no_digit : (n v : ℕ) (k : List ℕ) → first_in digit k ≡ false → first_in digit (point_text n v ++ k) ≡ false
unfolding point_text
no_digit zero v k e = e
no_digit (suc n) v k e = refl

begins_number : (n : ℕ) (k : List ℕ) → first_in digit k ≡ false → begins_decimal (digits n ++ k) ≡ true
unfolding begins_decimal
begins_number zero k e = rw (digits_small 0 (omega arith), e)
begins_number (suc n) k e =
    let l = D.leading (suc n) (omega arith) in
    rw (l.is, t_is (in_c ("1" to "9" ∷ []) l.first) l.nonzero)

begins_text : (d : rules.Decimal) (k : List ℕ) → first_in digit k ≡ false → begins_decimal (decimal_text d ++ k) ≡ true
begins_text d k e =
    let w = digits (whole d.places d.value) in
    let t = point_text d.places d.value in
    ap begins_decimal (append_assoc w t k) ∙ begins_number (whole d.places d.value) (t ++ k) (no_digit d.places d.value k e)

-- the decimal of a column
abbrev pub kept : rules.Decimal → Decimal
kept d = record { value = d.value; places = d.places }

pub fits_made : (d : rules.Decimal) → T (fits d) → made_of d.value d.places ≡ Some (kept d)
unfolding made_of
fits_made d t = rw (t_is (fits d) t)

module _ (d : rules.Decimal) (f : T (fits d)) (k : List ℕ) (n : first_in digit k ≡ false) (p : first_in point k ≡ false) (z : ends_column k ≡ true) where
  abbrev w : List ℕ
  w = decimal_text d

  read : decimal_of Digit (w ++ k) ≡ record { made = Some (kept d); len = length w }
  read = decimal_read Digit d k n p ∙ ap (λ (m : Option Decimal). record { made = m; len = length w }) (fits_made d f)

  pub column_read : column_of (w ++ k) ≡ Ok (record { decimal = kept d; len = length w; next = min (length w + 1) (length (w ++ k)) })
  unfolding good_column column_in is_column
  column_read = rw (read, begins_text d k n, drop-append_seam w k, z)

-- where the column ends
pub good_read : {s column more : List ℕ} {place : ℕ} {d : rules.Decimal} → Cut s column more place → GoodColumn column d
    → column_of s ≡ Ok (record { decimal = kept d; len = length column; next = place })
unfolding ends_column
good_read {d = d} (at_tab column more l e) g =
    let w = decimal_text d in
    let q : length w + 1 ≤ length (w ++ (9 ∷ more)) = omega (arith, length-append w (9 ∷ more)) in
    let m : min (length w + 1) (length (w ++ (9 ∷ more))) ≡ length column + 1 = omega (arith, ap length g.text) in
    ap column_of (sym e ∙ ap (λ (x : List ℕ). x ++ (9 ∷ more)) (sym g.text)) ∙ column_read d g.bounds (9 ∷ more) refl refl refl
    ∙ ap₂ (λ (n x : ℕ). Ok (record { decimal = kept d; len = n; next = x })) (ap length g.text) m
good_read {s} {d = d} (no_tab l) g =
    let w = decimal_text d in
    let m : min (length w + 1) (length (w ++ [])) ≡ length s = omega (arith, length-append {A = ℕ} w [], ap length g.text) in
    ap column_of (sym (append-nil w ∙ g.text)) ∙ column_read d g.bounds [] refl refl refl
    ∙ ap₂ (λ (n x : ℕ). Ok (record { decimal = kept d; len = n; next = x })) (ap length g.text) m

-- ---- and none else is

leading_front : (s : List ℕ) → leading s ++ drop (length (leading s)) s ≡ s
unfolding leading
leading_front [] = refl
leading_front (b ∷ s) = go (in_c digit b) (leading_front s)
  where
    go : (t : Bool) → leading s ++ drop (length (leading s)) s ≡ s
        → cond t (b ∷ leading s) [] ++ drop (length (cond t (b ∷ leading s) [])) (b ∷ s) ≡ b ∷ s
    go true h = ap (λ (l : List ℕ). b ∷ l) h
    go false h = refl

leading_all : (s : List ℕ) → T (all digit (leading s))
unfolding leading
leading_all [] = tt
leading_all (b ∷ s) = go (in_c digit b) refl (leading_all s)
  where
    go : (t : Bool) → in_c digit b ≡ t → T (all digit (leading s)) → T (all digit (cond t (b ∷ leading s) []))
    go true e h = and_i (in_c digit b) (all digit (leading s)) (is_t e) h
    go false e h = tt

-- a point and digits, or nothing
abbrev pub dotted : List ℕ → List ℕ
dotted [] = []
dotted (b ∷ w) = 46 ∷ b ∷ w

fraction_all : (s : List ℕ) → T (all digit (fraction s))
unfolding fraction
fraction_all [] = tt
fraction_all (b ∷ s) = go (in_c point b)
  where
    go : (t : Bool) → T (all digit (cond t (leading s) []))
    go true = leading_all s
    go false = tt

fraction_front : (s : List ℕ) → dotted (fraction s) ++ drop (pointed (fraction s)) s ≡ s
unfolding fraction pointed
fraction_front [] = refl
fraction_front (b ∷ s) = go (in_c point b) refl (leading s) (leading_front s)
  where
    go : (t : Bool) → in_c point b ≡ t → (w : List ℕ) → w ++ drop (length w) s ≡ s
        → dotted (cond t w []) ++ drop (pointed (cond t w [])) (b ∷ s) ≡ b ∷ s
    go true e [] h = refl
    go true e (c ∷ w) h = let g = in→ 46 46 b (is_t e) in let q : 46 ≡ b = omega arith in ap₂ ◌∷◌ q h
    go false e w h = refl

pub point_dotted : (n v : ℕ) → dotted (last_digits n v) ≡ point_text n v
unfolding last_digits point_text
point_dotted zero v = refl
point_dotted (suc n) v = refl

-- digits as decimals begin with are those of a number
number_text_lem : (s : List ℕ) → begins_decimal s ≡ true → digits (value_from 0 (leading s)) ≡ leading s
unfolding begins_decimal leading value_from
number_text_lem [] e = absurd (subst T (sym e) tt)
number_text_lem (b ∷ s) e = by (in_c ("1" to "9" ∷ []) b) refl (eqb 48 b) refl (first_in digit s) refl e
  where
    by : (t : Bool) → in_c ("1" to "9" ∷ []) b ≡ t → (u : Bool) → eqb 48 b ≡ u → (v : Bool) → first_in digit s ≡ v
        → cond t true (cond (u && true) (not v) false) ≡ true → digits (value_from 0 (leading (b ∷ s))) ≡ leading (b ∷ s)
    by true q u z v n h =
        let g = in→ 49 57 b (is_t q) in
        let i : in_c digit b ≡ true = t_is (in_c digit b) (→in 48 57 b (omega arith) (omega arith)) in
        let y : 0 * 10 + (b - 48) ≡ b - 48 = omega arith in
        let l : leading (b ∷ s) ≡ b ∷ leading s = ap (λ (x : Bool). cond x (b ∷ leading s) []) i in
        ap (λ (x : List ℕ). digits (value_from 0 x)) l ∙ ap (λ (x : ℕ). digits (value_from x (leading s))) y
        ∙ read_back b (leading s) g.0 g.1 (leading_all s) ∙ sym l
    by false q true z false n h =
        subst (λ (x : ℕ). digits (value_from 0 (leading (x ∷ s))) ≡ leading (x ∷ s)) (eqb-true 48 b z)
        (rw (leading_silent s n) (digits_small 0 (omega arith)))
    by false q true z true n h = absurd (subst T (sym h) tt)
    by false q false z v n h = absurd (subst T (sym h) tt)

-- what was read of bytes that begin as decimals do
module _ (s : List ℕ) where
  abbrev front : List ℕ
  front = leading s

  abbrev behind : List ℕ
  behind = fraction (drop (length front) s)

  -- without bounds
  abbrev found : rules.Decimal
  found = record { value = value_from (value_from 0 front) behind; places = length behind }

  found_text : begins_decimal s ≡ true → decimal_text found ≡ front ++ dotted behind
  found_text e =
      let v = value_from 0 front in
      let a = fraction_all (drop (length front) s) in
      ap₂ (λ (x y : List ℕ). x ++ y) (ap digits (whole_from v behind a) ∙ number_text_lem s e)
      (sym (point_dotted (length behind) (value_from v behind)) ∙ ap dotted (last_from v behind a))

  dotted_length : (w : List ℕ) → length (dotted w) ≡ pointed w
  unfolding pointed
  dotted_length [] = refl
  dotted_length (b ∷ w) = refl

  found_length : begins_decimal s ≡ true → length (decimal_text found) ≡ (decimal_from s).len
  unfolding decimal_from
  found_length e = ap length (found_text e) ∙ length-append front (dotted behind) ∙ ap (λ (n : ℕ). length front + n) (dotted_length behind)

  found_front : begins_decimal s ≡ true → decimal_text found ++ drop (decimal_from s).len s ≡ s
  unfolding decimal_from
  found_front e =
      let r = drop (length front) s in
      ap₂ (λ (x y : List ℕ). x ++ y) (found_text e) (sym (drop-drop (pointed behind) (length front) s))
      ∙ append_assoc front (dotted behind) (drop (pointed behind) r) ∙ ap (λ (x : List ℕ). front ++ x) (fraction_front r) ∙ leading_front s

-- two tests that pass
pub both : (a b : Bool) → cond a b false ≡ true → (a ≡ true) × (b ≡ true)
both true b e = (refl, e)
both false b e = absurd (subst T (sym e) tt)

pub made_some : (v p : ℕ) → is_some (made_of v p) ≡ true
    → T (fits (record { value = v; places = p })) × (made_decimal (made_of v p) ≡ record { value = v; places = p })
unfolding made_of
made_some v p e = by (fits (record { value = v; places = p })) refl e
  where
    by : (t : Bool) → fits (record { value = v; places = p }) ≡ t
        → is_some (cond {A = Option Decimal} t (Some (record { value = v; places = p })) None) ≡ true
        → T (fits (record { value = v; places = p })) × (made_decimal (cond {A = Option Decimal} (fits (record { value = v; places = p })) (Some (record { value = v; places = p })) None) ≡ record { value = v; places = p })
    by true q h = (is_t q, rw q)
    by false q h = absurd (subst T (sym h) tt)

-- a good column, and what stands behind its tab
pub record ColumnRead (s : List ℕ) (c : Column) : Type 0 where
  pub column : List ℕ
  pub more : List ℕ
  pub cut : Cut s column more c.next
  pub size : length column ≡ c.len
  pub text : GoodColumn column (ruled c.decimal)

ends_either : (k : List ℕ) → ends_column k ≡ true → (k ≡ []) ⊎ ((m : List ℕ) × (k ≡ 9 ∷ m))
unfolding ends_column
ends_either [] e = inl refl
ends_either (b ∷ m) e = inr (m, ap (λ (x : ℕ). x ∷ m) (eqb-true b 9 e))

cut_as : {s column more : List ℕ} {p q : ℕ} → p ≡ q → Cut s column more p → Cut s column more q
cut_as {s} {column} {more} e c = subst (Cut s column more) e c

cut_here : (s w k : List ℕ) → w ++ k ≡ s → T (lacks 9 w) → (k ≡ []) ⊎ ((m : List ℕ) × (k ≡ 9 ∷ m))
    → (more : List ℕ) × Cut s w more (min (length w + 1) (length s))
cut_here s w k e l (inl q) =
    let z : w ≡ s = sym (append-nil w) ∙ ap (λ (x : List ℕ). w ++ x) (sym q) ∙ e in
    let m : length s ≡ min (length w + 1) (length s) = omega (arith, ap length z) in
    ([], cut_as m (subst (λ (x : List ℕ). Cut s x [] (length s)) (sym z) (no_tab (subst (λ (x : List ℕ). T (lacks 9 x)) z l))))
cut_here s w k e l (inr (more, q)) =
    let z : w ++ (9 ∷ more) ≡ s = ap (λ (x : List ℕ). w ++ x) (sym q) ∙ e in
    let m : length w + 1 ≡ min (length w + 1) (length s) = omega (arith, length-append w (9 ∷ more), ap length z) in
    (more, cut_as m (at_tab w more l z))

found_made : (s : List ℕ) → is_some (decimal_from s).made ≡ true → T (fits (found s)) × (made_decimal (decimal_from s).made ≡ kept (found s))
unfolding decimal_from
found_made s e = made_some (found s).value (found s).places e

-- what begins as decimals do begins with the digit that is needed
begins_digit : (s : List ℕ) → begins_decimal s ≡ true → first_in digit s ≡ true
unfolding begins_decimal
begins_digit [] e = absurd (subst T (sym e) tt)
begins_digit (b ∷ s) e = by (in_c ("1" to "9" ∷ []) b) refl e
  where
    by : (t : Bool) → in_c ("1" to "9" ∷ []) b ≡ t → cond t true (cond (starts_with (bytes "0") (b ∷ s)) (not (first_in digit s)) false) ≡ true → in_c digit b ≡ true
    by true q h = let r = in_range 49 57 b q in t_is (in_c digit b) (→in 48 57 b (omega arith) (omega arith))
    by false q h =
        let z = (both (eqb 48 b && true) (not (first_in digit s)) h).0 in
        ap (in_c digit) (sym (eqb-true 48 b (t_is (eqb 48 b) (and_0 (eqb 48 b) true (is_t z)))))

digit_first : (s : List ℕ) → first_in digit s ≡ true → decimal_of Digit s ≡ decimal_from s
unfolding decimal_of
digit_first s e = rw e

pub read_good : (s : List ℕ) → good_column s ≡ true → ColumnRead s (column_in s)
unfolding good_column column_in is_column
read_good s e =
    let x = decimal_of Digit s in
    let a = both (begins_decimal s) (cond (is_some x.made) (ends_column (drop x.len s)) false) e in
    let b = both (is_some x.made) (ends_column (drop x.len s)) a.1 in
    let q = digit_first s (begins_digit s a.0) in
    let d = found s in
    let made = subst (λ (y : DecimalRead). is_some y.made ≡ true) q b.0 in
    let m = found_made s made in
    let size = ap (λ (y : DecimalRead). made_decimal y.made) q ∙ m.1 in
    let len : length (decimal_text d) ≡ x.len = found_length s a.0 ∙ ap (λ (y : DecimalRead). y.len) (sym q) in
    let w = decimal_text d in
    let front = subst (λ (y : DecimalRead). w ++ drop y.len s ≡ s) (sym q) (found_front s a.0) in
    let c = cut_here s w (drop x.len s) front (decimal_lacks d) (ends_either (drop x.len s) b.1) in
    record {
      column = w;
      more = c.0;
      cut = cut_as (ap (λ (n : ℕ). min (n + 1) (length s)) len) c.1;
      size = len;
      text = record { text = ap (λ (x : Decimal). decimal_text (ruled x)) size; bounds = subst (λ (x : Decimal). T (fits (ruled x))) (sym size) m.0 };
    }

-- no other column is good
pub read_bad : (s : List ℕ) → good_column s ≡ false → {column more : List ℕ} {place : ℕ} → Cut s column more place → BadColumn column
read_bad s e c d g =
    let bad : is_ok (column_of s) ≡ false = ap (λ (t : Bool). is_ok (cond {A = Result Column Column} t (Ok (column_in s)) (Err (column_in s)))) e in
    subst T (sym (ap is_ok (good_read c g)) ∙ bad) tt

-- ---- how long it may be

point_length : (n v : ℕ) → length (point_text n v) ≤ n + 1
unfolding point_text
point_length zero v = omega arith
point_length (suc n) v = omega (arith, last_length (suc n) v)

pub decimal_short : (d : rules.Decimal) → T (fits d) → length (decimal_text d) ≤ 13
decimal_short d t =
    let w = digits (whole d.places d.value) in
    let h = leb-true (digit_count d) 12 (t_is (leb (digit_count d) 12) (and_1 (leb d.places 9) (leb (digit_count d) 12) t)) in
    omega (arith, length-append w (point_text d.places d.value), point_length d.places d.value)
