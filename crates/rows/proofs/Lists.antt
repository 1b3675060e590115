-- The rows of a list: every list has them, in one way, and a walk hands them out. Assumes nothing.
use Prim.Native.Nat.{ℕ, zero, suc, ◌+◌, ◌≤◌, ◌<◌, min}
use mathlib.Core.Path.{◌≡◌, refl, sym, ap, ap₂, ◌∙◌, subst}
use mathlib.Core.Bool.{Bool, true, false, cond}
use mathlib.Core.List.{List, [], ◌∷◌, ◌++◌, cons≢nil}
use native.Mathlib.Omega.{arith}
use lib.Dec.{T, eqb, leb}
use lib.ListN.{length, take, drop, length-drop, drop_of_length-le}
use lib.Seq.{drop-drop, take_all}
use borrow.Author.Tests.{eqb-true, eqb-false, leb-true, leb-false}
use Rattle.rules.specs.RowAnswers.{lacks}
use Rattle.rules.specs.Lists.{RowsOf, no_rows, last_row, next_row}
use Rattle.io_parts.specs.Feeds.{before_feed}
use Rattle.std.specs.Prelude.{Option, Some, None, is_some}
use Rattle.rows.specs.declared.Row.{Row}
use Rattle.rows.specs.Walks.{next_row_of}
use Rattle.read_row.proofs.Cuts.{lacks_more, cut_same, no_cut}

-- ---- in one way

rows_same : {l m : List ℕ} {rows more : List (List ℕ)} → RowsOf l rows → RowsOf m more → l ≡ m → rows ≡ more
rows_same no_rows no_rows e = refl
rows_same no_rows (last_row n t) e = absurd (n (sym e))
rows_same no_rows (next_row {more = y} w u p s) e = absurd (no_cut 10 w [] y tt (p ∙ sym e))
rows_same (last_row n t) no_rows e = absurd (n e)
rows_same (last_row n t) (last_row m u) e = ap (λ (x : List ℕ). x ∷ []) e
rows_same (last_row {row = v} n t) (next_row {more = y} w u p s) e = absurd (no_cut 10 w v y t (p ∙ sym e))
rows_same (next_row {more = x} v t q r) no_rows e = absurd (no_cut 10 v [] x tt (q ∙ e))
rows_same (next_row {more = x} v t q r) (last_row {row = w} m u) e = absurd (no_cut 10 v w x u (q ∙ e))
rows_same (next_row {more = x} v t q r) (next_row {more = y} w u p s) e =
    let z = cut_same 10 v w x y t u (q ∙ e ∙ sym p) in ap₂ ◌∷◌ z.0 (rows_same r s z.1)

pub rows_one : {list : List ℕ} {rows more : List (List ℕ)} → RowsOf list rows → RowsOf list more → rows ≡ more
rows_one r s = rows_same r s refl

-- ---- in some way

pub record Rows (list : List ℕ) : Type 0 where
  pub rows : List (List ℕ)
  pub are : RowsOf list rows

pub rows_some : (list : List ℕ) → Rows list
rows_some [] = record { rows = []; are = no_rows }
rows_some (b ∷ l) = by (eqb b 10) refl (rows_some l)
  where
    whole : (b ≡ 10 → ⊥) → T (lacks 10 l) → Rows (b ∷ l)
    whole n t = record { rows = (b ∷ l) ∷ []; are = last_row cons≢nil (lacks_more 10 b l n t) }

    go : {m : List ℕ} {rows : List (List ℕ)} → (b ≡ 10 → ⊥) → m ≡ l → RowsOf m rows → Rows (b ∷ l)
    go n e no_rows = whole n (subst (λ (x : List ℕ). T (lacks 10 x)) e tt)
    go n e (last_row h t) = whole n (subst (λ (x : List ℕ). T (lacks 10 x)) e t)
    go n e (next_row {rows = rows} row t q r) =
        record { rows = (b ∷ row) ∷ rows; are = next_row (b ∷ row) (lacks_more 10 b row n t) (ap (λ (x : List ℕ). b ∷ x) (q ∙ e)) r }

    by : (t : Bool) → eqb b 10 ≡ t → Rows l → Rows (b ∷ l)
    by true e r = record { rows = [] ∷ r.rows; are = next_row [] tt (ap (λ (x : ℕ). x ∷ l) (sym (eqb-true b 10 e))) r.are }
    by false e r = go (eqb-false b 10 e) refl r.are

-- ---- up to the first line feed

pub record Ended (s : List ℕ) (n : ℕ) : Type 0 where
  pub free : T (lacks 10 (take n s))
  pub fed : n < length s → take n s ++ (10 ∷ drop (n + 1) s) ≡ s
  pub inside : n ≤ length s

ended : (s : List ℕ) → Ended s (before_feed s)
unfolding before_feed
ended [] = record { free = tt; fed = λ h. absurd (omega arith); inside = omega arith }
ended (b ∷ s) = by (eqb b 10) refl (ended s)
  where
    by : (t : Bool) → eqb b 10 ≡ t → Ended s (before_feed s) → Ended (b ∷ s) (cond t 0 (suc (before_feed s)))
    by true e x = record { free = tt; fed = λ h. ap (λ (y : ℕ). y ∷ s) (sym (eqb-true b 10 e)); inside = omega arith }
    by false e x =
        let n = before_feed s in
        let q : suc n + 1 ≡ suc (n + 1) = omega arith in
        record {
          free = lacks_more 10 b (take n s) (eqb-false b 10 e) x.free;
          fed = λ h. ap (λ (m : ℕ). b ∷ (take n s ++ (10 ∷ drop m (b ∷ s)))) q ∙ ap (λ (l : List ℕ). b ∷ l) (x.fed (omega arith));
          inside = omega (arith, x.inside);
        }

-- ---- the walk

-- the rows that `next_row` hands out from a place on
pub data Walked (list : List ℕ) : ℕ → List (List ℕ) → Type 0 where
  ends : {at : ℕ} → next_row_of list at ≡ None → Walked list at []
  goes : {at : ℕ} {row : Row} {rows : List (List ℕ)} → next_row_of list at ≡ Some row → Walked list row.next rows → Walked list at (take row.len (drop at list) ∷ rows)

-- a row that was found
pub record FoundAt (list : List ℕ) (at : ℕ) (row : Row) : Type 0 where
  pub before : at < length list
  pub len : row.len ≡ before_feed (drop at list)
  pub after : row.next ≡ min (min (at + row.len) (length list) + 1) (length list)

-- the row that begins at a place within the list
abbrev row_at : List ℕ → ℕ → Row
row_at list at =
    let n = before_feed (drop at list) in record { len = n; next = min (min (at + n) (length list) + 1) (length list) }

abbrev or_none : Option Row → Row
or_none (Some row) = row
or_none None = record { len = 0; next = 0 }

pub found_at : (list : List ℕ) (at : ℕ) (row : Row) → next_row_of list at ≡ Some row → FoundAt list at row
unfolding next_row_of
found_at list at row e = by (leb (length list) at) refl e
  where
    by : (t : Bool) → leb (length list) at ≡ t → cond {A = Option Row} t None (Some (row_at list at)) ≡ Some row → FoundAt list at row
    by true q h = absurd (subst T (sym (ap is_some h)) tt)
    by false q h = subst (FoundAt list at) (ap or_none h) (record { before = leb-false (length list) at q; len = refl; after = refl })

at_end : (list : List ℕ) (at : ℕ) → next_row_of list at ≡ None → length list ≤ at
unfolding next_row_of
at_end list at e = by (leb (length list) at) refl e
  where
    by : (t : Bool) → leb (length list) at ≡ t → cond {A = Option Row} t None (Some (row_at list at)) ≡ None → length list ≤ at
    by true q h = leb-true (length list) at q
    by false q h = absurd (subst T (ap is_some h) tt)

-- each row goes further, so that a walk ends
pub goes_further : (list : List ℕ) (at : ℕ) (row : Row) → next_row_of list at ≡ Some row → (at < row.next) × (row.next ≤ length list)
goes_further list at row e =
    let x = found_at list at row e in
    let h = x.before in
    (omega (arith, x.after), omega (arith, x.after))

-- what a walk hands out are the rows
pub walk_rows : {list : List ℕ} {at : ℕ} {rows : List (List ℕ)} → Walked list at rows → RowsOf (drop at list) rows
walk_rows {list} {at} (ends e) = subst (λ (l : List ℕ). RowsOf l []) (sym (drop_of_length-le list {i = at} (at_end list at e))) no_rows
walk_rows {list} {at} (goes {row = f} {rows = rows} e w) = by (found_at list at f e) (walk_rows w)
  where
    by : FoundAt list at f → RowsOf (drop f.next list) rows → RowsOf (drop at list) (take f.len (drop at list) ∷ rows)
    by x r =
        let s = drop at list in
        let y = subst (Ended s) (sym x.len) (ended s) in
        go x r y (leb (length s) f.len) refl
      where
        go : FoundAt list at f → RowsOf (drop f.next list) rows → Ended (drop at list) f.len → (t : Bool) → leb (length (drop at list)) f.len ≡ t
            → RowsOf (drop at list) (take f.len (drop at list) ∷ rows)
        go x r y true q =
            let s = drop at list in
            let b = x.before in
            let k = leb-true (length s) f.len q in
            let l = length-drop at list in
            let a : take f.len s ≡ s = take_all f.len s k in
            let d : length list ≤ f.next = omega (arith, x.after) in
            let z : rows ≡ [] = rows_same r no_rows (drop_of_length-le list {i = f.next} d) in
            subst (λ (v : List ℕ). RowsOf s (v ∷ rows)) (sym a) (subst (λ (v : List (List ℕ)). RowsOf s (s ∷ v)) (sym z)
            (last_row (λ c. absurd (omega (arith, ap length c))) (subst (λ (v : List ℕ). T (lacks 10 v)) a y.free)))
        go x r y false q =
            let s = drop at list in
            let k = leb-false (length s) f.len q in
            let l = length-drop at list in
            let b = x.before in
            let d : f.next ≡ at + (f.len + 1) = omega (arith, x.after) in
            let z : drop f.next list ≡ drop (f.len + 1) s = ap (λ (m : ℕ). drop m list) d ∙ sym (drop-drop (f.len + 1) at list) in
            next_row (take f.len s) y.free (y.fed k) (subst (λ (v : List ℕ). RowsOf v rows) z r)

-- every walk comes to its end
walk_in_lem : (list : List ℕ) (f at : ℕ) → length list ≤ at + f → (rows : List (List ℕ)) × Walked list at rows
walk_in_lem list zero at h = by (next_row_of list at) refl
  where
    by : (x : Option Row) → next_row_of list at ≡ x → (rows : List (List ℕ)) × Walked list at rows
    by None e = ([], ends e)
    by (Some row) e = absurd (omega (arith, (found_at list at row e).before))
walk_in_lem list (suc f) at h = by (λ m g. walk_in_lem list f m g) (next_row_of list at) refl
  where
    by : ((m : ℕ) → length list ≤ m + f → (rows : List (List ℕ)) × Walked list m rows) → (x : Option Row) → next_row_of list at ≡ x
        → (rows : List (List ℕ)) × Walked list at rows
    by more None e = ([], ends e)
    by more (Some row) e =
        let g = (goes_further list at row e).0 in
        let w = more row.next (omega arith) in
        (take row.len (drop at list) ∷ w.0, goes e w.1)

pub walk_some : (list : List ℕ) → (rows : List (List ℕ)) × Walked list 0 rows
walk_some list = walk_in_lem list (length list) 0 (omega arith)

-- a walk from the start hands out the rows of the list, all and in order
pub walk_all : {list : List ℕ} {rows : List (List ℕ)} → Walked list 0 rows → RowsOf list rows
walk_all w = walk_rows w
