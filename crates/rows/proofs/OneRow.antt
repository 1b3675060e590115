-- Demand 3 for rows: no row spells two rows. Reading a row, and writing or converting a stored one, has one answer. Assumes nothing.
use Prim.Native.Nat.{ℕ, zero, suc, ◌+◌, ◌-◌, ◌≤◌, ◌<◌}
use mathlib.Core.Path.{◌≡◌, refl, sym, ap, ap₂, ◌∙◌, subst}
use mathlib.Core.Bool.{false}
use mathlib.Core.List.{List, [], ◌∷◌, ◌++◌, append-nil, tail-eq_of_cons-eq, nil≢cons, cons≢nil}
use native.Mathlib.Omega.{arith}
use lib.Dec.{T}
use lib.ListN.{length}
use Rattle.lang.specs.Digits.{value_from}
use Rattle.lang.specs.Parts.{Opt, silent, written, opt_text}
use Rattle.lang.specs.Order.{Each, none}
use Rattle.rules.specs.Bytes.{digit}
use Rattle.rules.specs.Numbers.{digits}
use Rattle.rules.specs.Texts.{first_in}
use Rattle.rules.specs.Decimals.{Decimal, whole, last_digits, point_text, decimal_text}
use Rattle.rules.specs.Lines.{Spelling, line_text, within}
use Rattle.rules.specs.Limits.{max_line}
use Rattle.rules.specs.Fields.{Table, Says, Spells}
use Rattle.rules.specs.Stored.{stores}
use Rattle.rules.specs.Preferred.{preferred, preferred_spelling}
use Rattle.rules.specs.Answers.{Answer, Delivers, Sound, ReadsForm}
use Rattle.rules.specs.Rows.{third_text, Row, annotations, SpellsRow, preferred_third, preferred_row_spelling, preferred_row, row_head_size, row_head}
use Rattle.rules.specs.RowAnswers.{GoodColumn, BadColumn, Moves, done, no_room, refused, ReadsThird, line, ReadsIntensity, ReadsRow, HoldsRow, TakesRow, WritesRow, third_at, ConvertsRow}
use Rattle.rules.specs.Editions.{Edition, ed1, current, LineEdition}
use Rattle.rules.proofs.Cuts as rules
use Rattle.rules.proofs.Digits.{one_number}
use Rattle.rules.proofs.Fractions.{value_back, last_length}
use Rattle.rules.proofs.OneAnswer.{delivers_one, form_one}
use Rattle.rules.proofs.WritesOne.{holds_one, two_editions}
use Rattle.rules.proofs.PreferredSpells.{said_in_order, preferred_says}
use Rattle.shape.proofs.OneSpelling.{one_spelling}
use Rattle.shape.proofs.Unambiguous.{unambiguous, reads_one}
use Rattle.numbers.specs.Leading.{leading}
use Rattle.numbers.proofs.Leads.{leading_read, all_digits_lem}
use Rattle.read_row.proofs.Cuts.{cut_same, no_cut, cut_one}
use Rattle.read_row.proofs.Decimals.{decimal_lacks, dotted, point_dotted}
use Rattle.write_row.proofs.Heads.{head_one}
use Rattle.write_row.proofs.Held.{rest_holds}

-- ---- a decimal is one by its text

point_begins : (n v : ℕ) → first_in digit (point_text n v) ≡ false
unfolding point_text
point_begins zero v = refl
point_begins (suc n) v = refl

dotted_one : (v w : List ℕ) → dotted v ≡ dotted w → v ≡ w
dotted_one [] [] e = refl
dotted_one [] (b ∷ w) e = absurd (nil≢cons e)
dotted_one (a ∷ v) [] e = absurd (cons≢nil e)
dotted_one (a ∷ v) (b ∷ w) e = tail-eq_of_cons-eq e

-- the whole number, and the digits after the point
abbrev front : Decimal → List ℕ
front d = digits (whole d.places d.value)

abbrev behind : Decimal → List ℕ
behind d = last_digits d.places d.value

pub one_decimal : (d e : Decimal) → decimal_text d ≡ decimal_text e → d ≡ e
one_decimal d e q = λ i. record { value = values i; places = places i }
  where
    read : (d : Decimal) → leading (decimal_text d) ≡ front d
    read d = leading_read (front d) (point_text d.places d.value) (all_digits_lem (whole d.places d.value)) (point_begins d.places d.value)

    fronts : front d ≡ front e
    fronts = sym (read d) ∙ ap leading q ∙ read e

    behinds : behind d ≡ behind e
    behinds =
        dotted_one (behind d) (behind e)
        (point_dotted d.places d.value ∙ (rules.cut (front d) (front e) (ap length fronts) q).1 ∙ sym (point_dotted e.places e.value))

    places : d.places ≡ e.places
    places = sym (last_length d.places d.value) ∙ ap length behinds ∙ last_length e.places e.value

    values : d.value ≡ e.value
    values =
        sym (value_back d.places d.value)
        ∙ ap₂ value_from (one_number (whole d.places d.value) (whole e.places e.value) fronts) behinds
        ∙ value_back e.places e.value

-- ---- no row spells two rows

-- the intensity and the third column are told apart by the tab
module _ (d e : Decimal) where
  pub thirds : (x y : Opt Spelling) → decimal_text d ++ opt_text third_text x ≡ decimal_text e ++ opt_text third_text y
      → (decimal_text d ≡ decimal_text e) × (line_text (annotations x) ≡ line_text (annotations y))
  thirds silent silent q = (sym (append-nil (decimal_text d)) ∙ q ∙ append-nil (decimal_text e), refl)
  thirds silent (written s) q = absurd (no_cut 9 (decimal_text e) (decimal_text d) (line_text s) (decimal_lacks d) (sym q ∙ append-nil (decimal_text d)))
  thirds (written s) silent q = absurd (no_cut 9 (decimal_text d) (decimal_text e) (line_text s) (decimal_lacks e) (q ∙ append-nil (decimal_text e)))
  thirds (written s) (written u) q = cut_same 9 (decimal_text d) (decimal_text e) (line_text s) (line_text u) (decimal_lacks d) (decimal_lacks e) q

pub unambiguous_row : {l : LineEdition} {r u : Row} {bytes : List ℕ} → SpellsRow l r bytes → SpellsRow l u bytes → r ≡ u
unambiguous_row {l} {r} {u} x y =
    let s = x.spelling in
    let z = y.spelling in
    let a = cut_same 9 (decimal_text s.mz) (decimal_text z.mz) (decimal_text s.intensity ++ opt_text third_text s.third)
    (decimal_text z.intensity ++ opt_text third_text z.third) (decimal_lacks s.mz) (decimal_lacks z.mz) (x.text ∙ sym y.text) in
    let b = thirds s.intensity z.intensity s.third z.third a.1 in
    let mz : r.mz ≡ u.mz = sym x.says.mz ∙ one_decimal s.mz z.mz a.0 ∙ y.says.mz in
    let intensity : r.intensity ≡ u.intensity = sym x.says.intensity ∙ one_decimal s.intensity z.intensity b.0 ∙ y.says.intensity in
    let p : Spells l r.table (line_text (annotations z.third)) = record { spelling = annotations s.third; edition = x.edition; text = b.1; says = x.says.table } in
    let q : Spells l u.table (line_text (annotations z.third)) = record { spelling = annotations z.third; edition = y.edition; text = refl; says = y.says.table } in
    let table = unambiguous p q in
    λ i. record { mz = mz i; intensity = intensity i; table = table i }

-- the preferred row of a sound table spells it
third_says : {e : Edition} {t : Table} → Sound e t → Each Says (annotations (preferred_third t)) t
third_says {t = []} s = none
third_says {t = a ∷ t} s = preferred_says (said_in_order s.says)

-- and is of the editions of lines that its line is of
third_within : (l : LineEdition) (t : Table) → T (within l (preferred_spelling t)) → T (within l (annotations (preferred_third t)))
third_within l [] i = i
third_within l (a ∷ t) i = i

pub row_preferred : {l : LineEdition} {e : Edition} (r : Row) → Sound e r.table → T (within l (preferred_spelling r.table)) → SpellsRow l r (preferred_row r)
row_preferred {l} r s i =
    record {
      spelling = preferred_row_spelling r;
      edition = third_within l r.table i;
      text = refl;
      says = record { mz = refl; intensity = refl; table = third_says s };
    }

-- ---- reading has one answer

column_one : {v w : List ℕ} {d e : Decimal} → v ≡ w → GoodColumn v d → GoodColumn w e → d ≡ e
column_one {d = d} {e = e} q x y = one_decimal d e (x.text ∙ q ∙ sym y.text)

not_bad : {v w : List ℕ} {d : Decimal} → v ≡ w → GoodColumn v d → BadColumn w → ⊥
not_bad {d = d} q x n = n d (record { text = x.text ∙ q; bounds = x.bounds })

moves_one : {head : List ℕ} {at room : ℕ} {b a c : Answer} → Moves head at room b a → Moves head at room b c → a ≡ c
moves_one (done e) (done f) = refl
moves_one (done e) (no_room f) = absurd (omega arith)
moves_one (done e) (refused f g) = absurd (f e)
moves_one (no_room e) (done f) = absurd (omega arith)
moves_one (no_room e) (no_room f) = refl
moves_one (no_room e) (refused f g) = absurd (g e)
moves_one (refused d e) (done f) = absurd (d f)
moves_one (refused d e) (no_room f) = absurd (e f)
moves_one (refused d e) (refused f g) = refl

third_one : {l : LineEdition} {mz intensity : Decimal} {third : List ℕ} {at room : ℕ} {a c : Answer}
    → ReadsThird l mz intensity third at room a → ReadsThird l mz intensity third at room c → a ≡ c
third_one {mz} {intensity} {at = at} {room = room} {c = c} (line r m) (line s n) =
    moves_one m (subst (λ (b : Answer). Moves (stores (row_head mz intensity)) at room b c) (reads_one s r) n)

intensity_one : {l : LineEdition} {mz : Decimal} {bytes : List ℕ} {at room : ℕ} {a c : Answer}
    → ReadsIntensity l mz bytes at room a → ReadsIntensity l mz bytes at room c → a ≡ c
intensity_one (ReadsIntensity.bad x n) (ReadsIntensity.bad y m) = refl
intensity_one (ReadsIntensity.bad x n) (ReadsIntensity.good y g s) = absurd (not_bad (cut_one y x).column g n)
intensity_one (ReadsIntensity.good x f r) (ReadsIntensity.bad y m) = absurd (not_bad (cut_one x y).column f m)
intensity_one {l} {mz} {at = at} {room = room} {c = c} (ReadsIntensity.good {third = more} {place = p} x {intensity = d} f r) (ReadsIntensity.good {third = third} {place = o} x2 {intensity = e} g s) =
    let q = cut_one x2 x in
    third_one r
    (subst (λ (n : ℕ). ReadsThird l mz d more (at + n) room c) q.place
    (subst (λ (w : List ℕ). ReadsThird l mz d w (at + o) room c) q.more
    (subst (λ (i : Decimal). ReadsThird l mz i third (at + o) room c) (column_one q.column g f) s)))

pub reads_row_one : {l : LineEdition} {row : List ℕ} {room : ℕ} {a c : Answer} → ReadsRow l row room a → ReadsRow l row room c → a ≡ c
reads_row_one (ReadsRow.long h) (ReadsRow.long g) = refl
reads_row_one (ReadsRow.long h) (ReadsRow.bad g y m) = absurd (omega arith)
reads_row_one (ReadsRow.long h) (ReadsRow.good g y f s) = absurd (omega arith)
reads_row_one (ReadsRow.bad h x n) (ReadsRow.long g) = absurd (omega arith)
reads_row_one (ReadsRow.bad h x n) (ReadsRow.bad g y m) = refl
reads_row_one (ReadsRow.bad h x n) (ReadsRow.good g y f s) = absurd (not_bad (cut_one y x).column f n)
reads_row_one (ReadsRow.good h x f r) (ReadsRow.long g) = absurd (omega arith)
reads_row_one (ReadsRow.good h x f r) (ReadsRow.bad g y m) = absurd (not_bad (cut_one x y).column f m)
reads_row_one {l} {room = room} {c = c} (ReadsRow.good h {more = more} {place = place} x {mz = d} f r) (ReadsRow.good g {more = rest} {place = p} y {mz = e} k s) =
    let q = cut_one y x in
    intensity_one r
    (subst (λ (n : ℕ). ReadsIntensity l d more n room c) q.place
    (subst (λ (w : List ℕ). ReadsIntensity l d w p room c) q.more (subst (λ (m : Decimal). ReadsIntensity l m rest p room c) (column_one q.column k f) s)))

-- ---- writing has one answer

pub holds_row_one : {e f : Edition} {bytes : List ℕ} {r u : Row} → HoldsRow e bytes r → HoldsRow f bytes u → r ≡ u
holds_row_one {e} {f} {r = r} {u = u} x y =
    let q = head_one r.mz r.intensity x.mz x.intensity x.rest u.mz u.intensity y.mz y.intensity y.rest (x.is ∙ sym y.is) in
    let table = holds_one e f (rest_holds x) (rest_holds y) in
    λ i. record { mz = q.0 i; intensity = q.1 i; table = table i }

-- a row of an edition that can be read today
taken : {e : Edition} {bytes : List ℕ} {r : Row} → HoldsRow e bytes r → Sound current r.table → TakesRow bytes r
taken {e} h o = record { edition = e; holds = h; also = o }

-- as every row of the current edition can
taken_now : {bytes : List ℕ} {r : Row} → HoldsRow current bytes r → TakesRow bytes r
taken_now h = taken h h.table.sound

-- no bytes are of two editions
two_editions_row : {bytes : List ℕ} {r u : Row} → HoldsRow ed1 bytes r → HoldsRow current bytes u → ⊥
two_editions_row h g = two_editions (rest_holds h) (rest_holds g)

-- a line is not too long and short enough
one_size : {r u : Row} → r ≡ u → max_line < length (preferred r.table) → length (preferred u.table) ≤ max_line → ⊥
one_size e h g = let p = ap (λ (x : Row). length (preferred x.table)) e in omega arith

-- and has letters of an edition or has not
one_edition : (l : LineEdition) {r u : Row} → r ≡ u → (T (within l (preferred_spelling r.table)) → ⊥) → T (within l (preferred_spelling u.table)) → ⊥
one_edition l e n i = n (subst (λ (x : Row). T (within l (preferred_spelling x.table))) (sym e) i)

pub writes_row_one : {l : LineEdition} {bytes : List ℕ} {room : ℕ} {a c : Answer} → WritesRow l bytes room a → WritesRow l bytes room c → a ≡ c
writes_row_one (WritesRow.no_row n) (WritesRow.no_row m) = refl
writes_row_one (WritesRow.no_row n) (WritesRow.old u g o) = absurd (n u (taken g o))
writes_row_one (WritesRow.no_row n) (WritesRow.lettered u g j) = absurd (n u (taken_now g))
writes_row_one (WritesRow.no_row n) (WritesRow.long u g j k) = absurd (n u (taken_now g))
writes_row_one (WritesRow.no_row n) (WritesRow.fits u g j k y) = absurd (n u (taken_now g))
writes_row_one (WritesRow.old r h o) (WritesRow.no_row m) = absurd (m r (taken h o))
writes_row_one (WritesRow.old r h o) (WritesRow.old u g p) = refl
writes_row_one (WritesRow.old r h o) (WritesRow.lettered u g j) = absurd (two_editions_row h g)
writes_row_one (WritesRow.old r h o) (WritesRow.long u g j k) = absurd (two_editions_row h g)
writes_row_one (WritesRow.old r h o) (WritesRow.fits u g j k y) = absurd (two_editions_row h g)
writes_row_one (WritesRow.lettered r h i) (WritesRow.no_row m) = absurd (m r (taken_now h))
writes_row_one (WritesRow.lettered r h i) (WritesRow.old u g p) = absurd (two_editions_row g h)
writes_row_one (WritesRow.lettered r h i) (WritesRow.lettered u g j) = refl
writes_row_one {l} (WritesRow.lettered r h i) (WritesRow.long u g j k) = absurd (one_edition l (holds_row_one h g) i j)
writes_row_one {l} (WritesRow.lettered r h i) (WritesRow.fits u g j k y) = absurd (one_edition l (holds_row_one h g) i j)
writes_row_one (WritesRow.long r h i n) (WritesRow.no_row m) = absurd (m r (taken_now h))
writes_row_one (WritesRow.long r h i n) (WritesRow.old u g p) = absurd (two_editions_row g h)
writes_row_one {l} (WritesRow.long r h i n) (WritesRow.lettered u g j) = absurd (one_edition l (holds_row_one g h) j i)
writes_row_one (WritesRow.long r h i n) (WritesRow.long u g j k) = refl
writes_row_one (WritesRow.long r h i n) (WritesRow.fits u g j k y) = absurd (one_size (holds_row_one h g) n k)
writes_row_one (WritesRow.fits r h i n x) (WritesRow.no_row m) = absurd (m r (taken_now h))
writes_row_one (WritesRow.fits r h i n x) (WritesRow.old u g p) = absurd (two_editions_row g h)
writes_row_one {l} (WritesRow.fits r h i n x) (WritesRow.lettered u g j) = absurd (one_edition l (holds_row_one g h) j i)
writes_row_one (WritesRow.fits r h i n x) (WritesRow.long u g j k) = absurd (one_size (holds_row_one g h) k n)
writes_row_one {room = room} {c = c} (WritesRow.fits r h i n x) (WritesRow.fits u g j k y) =
    delivers_one x (subst (λ (z : Row). Delivers room (preferred_row z) c) (holds_row_one g h) y)

-- ---- and so has converting

pub converts_row_one : {bytes : List ℕ} {room : ℕ} {a c : Answer} → ConvertsRow bytes room a → ConvertsRow bytes room c → a ≡ c
converts_row_one (ConvertsRow.no_row n) (ConvertsRow.no_row m) = refl
converts_row_one (ConvertsRow.no_row n) (ConvertsRow.held u g y m) = absurd (n u g)
converts_row_one (ConvertsRow.held r h x k) (ConvertsRow.no_row m) = absurd (m r h)
converts_row_one {room = room} {c = c} (ConvertsRow.held r h {b = b} x k) (ConvertsRow.held u g {b = d} y m) =
    let q = holds_row_one g h in
    let z = form_one one_spelling (subst (λ (v : Row). ReadsForm current (preferred_spelling v.table) (room - row_head_size) d) q y) x in
    moves_one k
    (subst (λ (o : Answer). Moves (stores (row_head r.mz r.intensity)) (third_at r) room o c) z
    (subst (λ (v : Row). Moves (stores (row_head v.mz v.intensity)) (third_at v) room d c) q m))
