-- One bad row costs only itself: replace a row by other bytes without a line feed, and every other row's answer is unchanged, while the
-- replaced one gets what it would alone. And a list written row by row reads back to the bytes of its rows. Assumes nothing.
use Prim.Native.Nat.{ℕ, ◌≤◌}
use mathlib.Core.Path.{◌≡◌, refl, sym, ap, ap₂, ◌∙◌, subst}
use mathlib.Core.Bool.{Bool, not}
use mathlib.Core.List.{List, [], ◌∷◌, ◌++◌, map, append_assoc, append-nil}
use lib.Dec.{T}
use lib.ListN.{length, take}
use Rattle.lang.specs.Re.{Rng, in_c, Re, Tree, text}
use Rattle.lang.specs.Parts.{Opt, silent, written, opt_text}
use Rattle.lang.specs.Order.{Each, none, next}
use Rattle.lang.proofs.EachByte.{each_class, each_text}
use Rattle.lang.proofs.Tests.{t_is}
use Rattle.rules.specs.Elements.{symbols}
use Rattle.rules.specs.Decimals.{Decimal, decimal_text}
use Rattle.rules.specs.Lines.{Spelling, line_text}
use Rattle.rules.specs.Answers.{Answer, gives}
use Rattle.rules.specs.Rows.{tab, RowSpelling, third_text, row_text, Row, preferred_row_spelling}
use Rattle.rules.specs.RowAnswers.{lacks, ReadsRow, HoldsRow, WritesRow}
use Rattle.rules.specs.Editions.{LineEdition, current}
use Rattle.rules.specs.Lists.{feed, RowsOf, no_rows, last_row, next_row, list_text, ReadsList}
use Rattle.shape.proofs.Grammar.{line_re, letters_re, symbol_re, decimal_re}
use Rattle.shape.proofs.MeansNumbers.{means_decimal}
use Rattle.shape.proofs.MeansLine.{means_line}
use Rattle.read_row.proofs.Cuts.{lacks_more, lacks_append}
use Rattle.rows.proofs.OneRow.{reads_row_one}
use Rattle.rows.proofs.RowBack.{wrote, read_back_row}
use Rattle.rows.proofs.Lists.{rows_one, rows_some}

-- ---- answers to rows, one by one

abbrev Answers : LineEdition → ℕ → List (List ℕ) → List Answer → Type 0
Answers l room rows us = Each (λ (row : List ℕ) (a : Answer). ReadsRow l row room a) rows us

answers_one : {l : LineEdition} {room : ℕ} {rows : List (List ℕ)} {us vs : List Answer} → Answers l room rows us → Answers l room rows vs → us ≡ vs
answers_one none none = refl
answers_one (next x e) (next y f) = ap₂ ◌∷◌ (reads_row_one x y) (answers_one e f)

-- the answers to a list are one
pub reads_list_one : {l : LineEdition} {list : List ℕ} {room : ℕ} {us vs : List Answer} → ReadsList l list room us → ReadsList l list room vs → us ≡ vs
reads_list_one {l} {room = room} {vs = vs} x y = answers_one x.each (subst (λ (w : List (List ℕ)). Answers l room w vs) (rows_one y.are x.are) y.each)

-- ---- rows without line feeds, and then other rows

pub data NoFeeds : List (List ℕ) → Type 0 where
  no_more : NoFeeds []
  also : {row : List ℕ} {rows : List (List ℕ)} → T (lacks 10 row) → NoFeeds rows → NoFeeds (row ∷ rows)

pub rows_then : {before rows : List (List ℕ)} {rest : List ℕ} → NoFeeds before → RowsOf rest rows → RowsOf (list_text before ++ rest) (before ++ rows)
rows_then no_more r = r
rows_then {rest = rest} (also {row = row} {rows = more} t n) r =
    next_row row t (sym (append_assoc (row ++ feed) (list_text more) rest ∙ append_assoc row feed (list_text more ++ rest))) (rows_then n r)

-- a list with a row in the middle
pub rows_around : {before rows : List (List ℕ)} {after : List ℕ} (row : List ℕ) → NoFeeds before → T (lacks 10 row) → RowsOf after rows
    → RowsOf (list_text before ++ (row ++ (feed ++ after))) (before ++ (row ∷ rows))
rows_around row n t r = rows_then n (next_row row t refl r)

-- ---- one row replaced

record Split (l : LineEdition) (room : ℕ) (before : List (List ℕ)) (row : List ℕ) (rows : List (List ℕ)) (us : List Answer) : Type 0 where
  front : List Answer
  one : Answer
  back : List Answer
  is : us ≡ front ++ (one ∷ back)
  fronts : Answers l room before front
  alone : ReadsRow l row room one
  backs : Answers l room rows back

split : {l : LineEdition} (room : ℕ) (before : List (List ℕ)) (row : List ℕ) (rows : List (List ℕ)) {us : List Answer} → Answers l room (before ++ (row ∷ rows)) us
    → Split l room before row rows us
split room [] row rows (next {b = a} {m = m} x e) = record { front = []; one = a; back = m; is = refl; fronts = none; alone = x; backs = e }
split room (v ∷ before) row rows (next {b = a} x e) =
    let s = split room before row rows e in
    record {
      front = a ∷ s.front;
      one = s.one;
      back = s.back;
      is = ap (λ (w : List Answer). a ∷ w) s.is;
      fronts = next x s.fronts;
      alone = s.alone;
      backs = s.backs;
    }

-- the answers to a list and to the list with one row replaced: the same but for that row's, which is what each gets alone
pub record OneReplaced (l : LineEdition) (row other : List ℕ) (room : ℕ) (before : List (List ℕ)) (us vs : List Answer) : Type 0 where
  pub front : List Answer
  pub back : List Answer
  pub was : Answer
  pub now : Answer
  pub many : Each (λ (v : List ℕ) (a : Answer). ReadsRow l v room a) before front
  pub before_are : us ≡ front ++ (was ∷ back)
  pub after_are : vs ≡ front ++ (now ∷ back)
  pub row_alone : ReadsRow l row room was
  pub other_alone : ReadsRow l other room now

pub one_replaced : {l : LineEdition} {before : List (List ℕ)} {room : ℕ} {us vs : List Answer} (row other after : List ℕ) → NoFeeds before → T (lacks 10 row)
    → T (lacks 10 other) → ReadsList l (list_text before ++ (row ++ (feed ++ after))) room us
    → ReadsList l (list_text before ++ (other ++ (feed ++ after))) room vs → OneReplaced l row other room before us vs
one_replaced {l} {before} {room} {us} {vs} row other after n t u x y =
    let r = rows_some after in
    let p = rows_one x.are (rows_around row n t r.are) in
    let q = rows_one y.are (rows_around other n u r.are) in
    let s = split room before row r.rows (subst (λ (w : List (List ℕ)). Answers l room w us) p x.each) in
    let z = split room before other r.rows (subst (λ (w : List (List ℕ)). Answers l room w vs) q y.each) in
    record {
      front = s.front;
      back = s.back;
      was = s.one;
      now = z.one;
      many = s.fronts;
      before_are = s.is;
      after_are = z.is ∙ ap₂ (λ (v w : List Answer). v ++ (z.one ∷ w)) (answers_one z.fronts s.fronts) (answers_one z.backs s.backs);
      row_alone = s.alone;
      other_alone = z.alone;
    }

-- a line feed that is missing after a last row is added: the rows are the same
pub last_fed : {before : List (List ℕ)} (row : List ℕ) → NoFeeds before → T (lacks 10 row) → (row ≡ [] → ⊥)
    → RowsOf (list_text before ++ row) (before ++ (row ∷ [])) × RowsOf (list_text before ++ (row ++ feed)) (before ++ (row ∷ []))
last_fed row n t h = (rows_then n (last_row h t), rows_around row n t no_rows)

-- ---- no line feed is ever written

abbrev free : List Rng → Bool
free c = not (in_c c 10)

byte_other : (c : List Rng) (b : ℕ) → T (free c) → T (in_c c b) → b ≡ 10 → ⊥
byte_other c b n i e = subst (λ (x : Bool). T (not x)) (t_is (in_c c 10) (subst (λ (x : ℕ). T (in_c c x)) e i)) n

-- no class of a grammar has a line feed: no text of it has one
text_lacks : (r : Re) → T (each_class free r) → (t : Tree r) (k : List ℕ) → T (lacks 10 k) → T (lacks 10 (text r t k))
text_lacks r g t k e = each_text free (λ l. T (lacks 10 l)) (λ c b l n i m. lacks_more 10 b l (byte_other c b n i) m) r g t k e

line_free : T (each_class free (line_re letters_re))
unfolding symbol_re symbols
line_free = tt

pub line_lacks : (s : Spelling) → T (lacks 10 (line_text s))
line_lacks s =
    subst (λ (w : List ℕ). T (lacks 10 w)) (means_line.enc_text s [] ∙ append-nil (line_text s)) (text_lacks (line_re letters_re) line_free (means_line.enc s) [] tt)

decimal_free : (d : Decimal) → T (lacks 10 (decimal_text d))
decimal_free d =
    subst (λ (w : List ℕ). T (lacks 10 w)) (means_decimal.enc_text d [] ∙ append-nil (decimal_text d)) (text_lacks decimal_re tt (means_decimal.enc d) [] tt)

third_free : (x : Opt Spelling) → T (lacks 10 (opt_text third_text x))
third_free silent = tt
third_free (written s) = lacks_append 10 tab (line_text s) tt (line_lacks s)

pub row_free : (r : RowSpelling) → T (lacks 10 (row_text r))
row_free r =
    let w = decimal_text r.intensity ++ opt_text third_text r.third in
    lacks_append 10 (decimal_text r.mz) (tab ++ w) (decimal_free r.mz)
    (lacks_append 10 tab w tt (lacks_append 10 (decimal_text r.intensity) (opt_text third_text r.third) (decimal_free r.intensity) (third_free r.third)))

-- ---- a list written row by row

-- a stored row that was written
pub record Done (l : LineEdition) (room : ℕ) (bytes : List ℕ) (a : Answer) : Type 0 where
  pub writes : WritesRow l bytes room a
  pub done : a.number ≡ 0

-- what was written
abbrev pub written_row : Answer → List ℕ
written_row a = take a.size a.out

-- outputs that hold each of the stored rows
pub data AllFit (room : ℕ) : List (List ℕ) → Type 0 where
  no_other : AllFit room []
  fits_too : {bytes : List ℕ} {held : List (List ℕ)} → length bytes ≤ room → AllFit room held → AllFit room (bytes ∷ held)

written_free : {l : LineEdition} {room : ℕ} {held : List (List ℕ)} {us : List Answer} → Each (Done l room) held us → NoFeeds (map written_row us)
written_free none = no_more
written_free (next x e) =
    let w = wrote x.writes x.done in
    also (subst (λ (v : List ℕ). T (lacks 10 v)) (sym w.is) (row_free (preferred_row_spelling w.row))) (written_free e)

written_answers : {l : LineEdition} {room room' : ℕ} {held : List (List ℕ)} {us : List Answer} → Each (Done l room) held us → AllFit room' held
    → Answers l room' (map written_row us) (map (gives room') held)
written_answers none no_other = none
written_answers {room' = room'} (next x e) (fits_too l f) = next (read_back_row x.writes x.done room' l) (written_answers e f)

-- a line feed behind each row: the list reads back to the very bytes of the stored rows
pub list_back : {l : LineEdition} {room room' : ℕ} {held : List (List ℕ)} {us : List Answer} → Each (Done l room) held us → AllFit room' held
    → ReadsList l (list_text (map written_row us)) room' (map (gives room') held)
list_back {us = us} e f =
    let rows = map written_row us in
    let r : RowsOf (list_text rows) rows =
    subst (λ (w : List ℕ). RowsOf w rows) (append-nil (list_text rows)) (subst (λ (w : List (List ℕ)). RowsOf (list_text rows ++ []) w) (append-nil rows) (rows_then (written_free e) no_rows)) in
    record { rows = rows; are = r; each = written_answers e f }

-- what was written was held, as rows of the current edition
pub rows_held : {l : LineEdition} {room : ℕ} {held : List (List ℕ)} {us : List Answer} → Each (Done l room) held us → (rows : List Row) × Each (HoldsRow current) held rows
rows_held none = ([], none)
rows_held (next x e) =
    let w = wrote x.writes x.done in
    let more = rows_held e in
    (w.row ∷ more.0, next w.holds more.1)
