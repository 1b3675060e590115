-- What each step of relabelling a row gives, in the words of its model. Assumes nothing.
use Prim.Native.Nat.{ℕ, ◌+◌, ◌-◌, ◌≤◌, ◌<◌, min}
use mathlib.Core.Path.{◌≡◌, refl, sym, ap, ap₂, ◌∙◌, subst}
use mathlib.Core.Bool.{Bool, true, false, cond}
use mathlib.Core.List.{List, ◌++◌}
use native.Mathlib.Omega.{arith}
use lib.Dec.{ltb}
use lib.ListN.{length, take, drop, replicate, length-take, take-append-drop}
use lib.Seq.{take-append_seam}
use borrow.Author.Tests.{ltb-false, lt-ltb, le-ltb, le-leb, lt-leb, ne_eqb}
use Rattle.rules.specs.Limits.{max_line}
use Rattle.std.specs.Prelude.{Result, Ok, Err}
use Rattle.rules.specs.Answers as rules
use Rattle.rules.specs.Answers.{refuses}
use Rattle.rules.specs.RowAnswers.{max_row}
use Rattle.slices.proofs.Parts.{drop_min}
use Rattle.put_bytes.specs.Puts.{max_place, Put}
use Rattle.put_bytes.proofs.Putting.{put_length}
use Rattle.scan_line.specs.Steps.{scanned_by}
use Rattle.faults.specs.declared.Why.TheVariants.{LineTooLong, OutputTooShort}
use Rattle.faults.specs.declared.Why.{Why}
use Rattle.faults.specs.declared.Refusal.{Refusal}
use Rattle.faults.specs.Refusals.{number_of}
use Rattle.answers.specs.Delivered.{Answer, answered, refused_of}
use Rattle.answers.specs.Behind.{capped, Behind}
use Rattle.answers.proofs.Behind.{capped_more, over_front, refused_is}
use Rattle.answers.proofs.One.{number_not_0, why_one}
use Rattle.lines.specs.Relabels.{relabelled_of}
use Rattle.read_row.specs.declared.Column.{Column}
use Rattle.read_row.specs.Columns.{column_of}
use Rattle.write_row.specs.Writings.{bare_over, bare_of}
use Rattle.write_row.proofs.Over.{bare_stands}
use Rattle.respell_row.specs.Relabelled.{place_of, refused_over, finished_over, spelled_of, third_of, columns_of, intensity_in, intensity_of, mz_in, relabelled_row_of}

-- ---- the place of a refusal

module _ (why : Why) (place n at : ℕ) where
  pub place_moved : {r : ℕ} → (why ≡ LineTooLong → ⊥) → r ≡ capped at place → r ≡ place_of (number_of why) place n at
  unfolding place_of
  place_moved h e = rw (ne_eqb (number_of why) 1 (λ w. h (why_one why LineTooLong w))) e

  pub place_long : {r : ℕ} → why ≡ LineTooLong → max_line < n → r ≡ capped at place → r ≡ place_of (number_of why) place n at
  unfolding place_of
  place_long q h e = rw (q, lt-ltb max_line n h) e

  pub place_kept : why ≡ LineTooLong → n ≤ max_line → place ≡ place_of (number_of why) place n at
  unfolding place_of
  place_kept q h = rw (q, le-ltb max_line n h)

-- ---- the answer to the line

-- zeros over the first bytes of an output
pub line_refused : (d : List ℕ) (at n : ℕ) (r : Refusal) {to p : ℕ} {z : List ℕ} {a : Answer} → to ≡ min (0 + at) (length d)
    → z ≡ replicate (length (take to d)) 0 → p ≡ place_of (number_of r.why) r.place n at → a ≡ refused_of r.why p
    → answered a (z ++ drop to d) ≡ refused_over d at n r
unfolding refused_over
line_refused d at n r {to} {p} {z} t q e f =
    let m : to ≡ min at (length d) = omega arith in
    let l : length (take to d) ≡ min at (length d) = length-take to d ∙ omega arith in
    let o : z ++ drop to d ≡ replicate (min at (length d)) 0 ++ drop at d =
    ap₂ (λ (x y : List ℕ). x ++ y) (q ∙ ap (λ (i : ℕ). replicate i 0) l) (ap (λ (i : ℕ). drop i d) m ∙ drop_min d at) in
    ap (λ (x : Answer). answered x (z ++ drop to d)) (f ∙ ap (refused_of r.why) e)
    ∙ ap (answered (refused_of r.why (place_of (number_of r.why) r.place n at))) o

module _ (d : List ℕ) (at n : ℕ) {r : Answer} where
  pub finished_refused : {x : Refusal} {b : rules.Answer} → r ≡ Err x → b ≡ refused_over d at n x → b ≡ finished_over d at n r
  unfolding finished_over
  finished_refused i e = rw i e

  pub finished_short : {m size : ℕ} {e : List ℕ} {a : Answer} → r ≡ Ok m → size ≡ capped at m → length d < size
      → e ≡ replicate (length d) 0 → a ≡ refused_of OutputTooShort size → answered a e ≡ finished_over d at n r
  unfolding finished_over
  finished_short {m} i s h z f =
      let g : length d < capped at m = omega arith in
      rw (i, lt-ltb (length d) (capped at m) g) (refused_is (length d) OutputTooShort (capped at m) (f ∙ ap (refused_of OutputTooShort) s) z)

  pub finished_done : {m size : ℕ} → r ≡ Ok m → size ≡ capped at m → size ≤ length d → answered (Ok size) d ≡ finished_over d at n r
  unfolding finished_over
  finished_done {m} i s h =
      let g : capped at m ≤ length d = omega arith in
      rw (i, le-ltb (length d) (capped at m) g) (ap (λ (k : ℕ). record { number = 0; place = 0; size = k; out = d }) s)

-- ---- what stands before the third column was put, and the line behind it

-- the first bytes stand there still
front_stands : {front d d1 : List ℕ} {to : ℕ} → Put d 0 front d1 to → length front ≤ length d → take (length front) d1 ≡ front
front_stands {front} {d} p h = ap (take (length front)) (p.made ∙ over_front front d h) ∙ take-append_seam front (drop (length front) d)

module _ {front d d1 e : List ℕ} {b : rules.Answer} {r : Answer} {to : ℕ} (n : ℕ) (small : length front ≤ max_place) (p : Put d 0 front d1 to)
    (w : Behind (length front) d1 e b r) where
  abbrev k : ℕ
  k = length front

  stands : (m : ℕ) → capped k m ≤ length d → e ≡ front ++ drop k e
  stands m h =
      let g : k ≤ length d = omega (arith, capped_more k m small) in
      sym (take-append-drop k e) ∙ ap (λ (l : List ℕ). l ++ drop k e) (w.kept ∙ front_stands p g)

  same : length e ≡ length d
  same = w.same ∙ put_length p

  done_is : (m : ℕ) (t : Bool) → ltb (length d) (capped k m) ≡ t
      → cond t (refuses (length d) 8 (capped k m)) (record { number = 0; place = 0; size = capped k m; out = e })
      ≡ cond t (refuses (length d) 8 (capped k m)) (record { number = 0; place = 0; size = capped k m; out = front ++ drop k e })
  done_is m true q = refl
  done_is m false q = ap (λ (l : List ℕ). record { number = 0; place = 0; size = capped k m; out = l }) (stands m (ltb-false (length d) (capped k m) q))

  by_answer : (r : Answer) → finished_over e k n r ≡ spelled_of front n (length d) (answered r (drop k e))
  unfolding finished_over refused_over spelled_of
  by_answer (Ok m) =
      ap (λ (i : ℕ). cond (ltb i (capped k m)) (refuses i 8 (capped k m)) (record { number = 0; place = 0; size = capped k m; out = e })) same
      ∙ done_is m (ltb (length d) (capped k m)) refl
  by_answer (Err x) =
      rw (ne_eqb (number_of x.why) 0 (number_not_0 x.why))
      (ap (λ (i : ℕ). record { number = number_of x.why; place = place_of (number_of x.why) x.place n k; size = 0; out = replicate (min k i) 0 ++ drop k e }) same)

  pub spelled_is : finished_over e k n r ≡ spelled_of front n (length d) b
  spelled_is = by_answer r ∙ ap (spelled_of front n (length d)) w.is

-- the cursor stands behind them
cursor : {front d d1 : List ℕ} {to : ℕ} → length front ≤ max_place → Put d 0 front d1 to → to ≡ length front
cursor h p = omega (arith, p.next)

module _ (machine row d : List ℕ) (small : length row ≤ max_place) where
  short : (n : ℕ) → length (take n row) ≤ max_place
  short n = omega (arith, length-take n row)

  pub third_is : (at : ℕ) {third front d1 e : List ℕ} {to : ℕ} {r : Answer} → third ≡ drop at row → front ≡ take at row → Put d 0 front d1 to
      → Behind to d1 e (relabelled_of (scanned_by machine third) third (length d1 - to)) r
      → finished_over e to (length third) r ≡ third_of machine row at (length d)
  unfolding third_of
  third_is at {third} {front} {d1} {e} {to} {r} q f p w =
      let s : length front ≤ max_place = subst (λ (l : List ℕ). length l ≤ max_place) (sym f) (short at) in
      let c = cursor s p in
      let b = relabelled_of (scanned_by machine third) third (length d1 - length front) in
      let v : Behind (length front) d1 e b r =
      subst (λ (m : ℕ). Behind m d1 e (relabelled_of (scanned_by machine third) third (length d1 - m)) r) c w in
      ap (λ (m : ℕ). finished_over e m (length third) r) c ∙ spelled_is (length third) s p v
      ∙ ap (λ (m : ℕ). spelled_of front (length third) (length d) (relabelled_of (scanned_by machine third) third (m - length front))) (put_length p)
      ∙ ap₂ (λ (x y : List ℕ). spelled_of y (length x) (length d) (relabelled_of (scanned_by machine x) x (length d - length y))) q f

  pub columns_bare : (end at : ℕ) {front d1 : List ℕ} {to : ℕ} {b : rules.Answer} → length row ≤ at → front ≡ take end row → Put d 0 front d1 to
      → b ≡ bare_over d1 to → b ≡ columns_of machine row end at (length d)
  unfolding columns_of
  columns_bare end at {front} {d1} {to} h f p e =
      let s : length front ≤ max_place = subst (λ (l : List ℕ). length l ≤ max_place) (sym f) (short end) in
      let c = cursor s p in
      rw (le-leb (length row) at h)
      (e ∙ ap (bare_over d1) c ∙ bare_stands front d1 (length front) (length d) (put_length p) (λ g. front_stands p g)
      ∙ ap (λ (l : List ℕ). bare_of l (length l) (length d)) f)

module _ (machine row : List ℕ) (room : ℕ) where
  pub columns_third : (end at : ℕ) → at < length row → third_of machine row at room ≡ columns_of machine row end at room
  unfolding columns_of
  columns_third end at h = rw (lt-leb (length row) at h)

  -- ---- the columns

  pub intensity_bad : (at : ℕ) {s : List ℕ} {o : Result Column Column} {x : Column} → s ≡ drop at row → o ≡ column_of s → o ≡ Err x → refuses room 13 at ≡ intensity_of machine row at room
  unfolding intensity_of
  intensity_bad at q e g = ap (intensity_in machine row at room) (sym g ∙ e ∙ ap column_of q)

  pub intensity_good : (at : ℕ) {end to : ℕ} {s : List ℕ} {o : Result Column Column} {x : Column} → s ≡ drop at row → o ≡ column_of s → o ≡ Ok x
      → end ≡ min (at + x.len) (length row) → to ≡ min (at + x.next) (length row)
      → columns_of machine row end to room ≡ intensity_of machine row at room
  unfolding intensity_of
  intensity_good at q e g m t = ap₂ (λ (i j : ℕ). columns_of machine row i j room) m t ∙ ap (intensity_in machine row at room) (sym g ∙ e ∙ ap column_of q)

  pub row_long : max_row < length row → refuses room 1 max_row ≡ relabelled_row_of machine row room
  unfolding relabelled_row_of
  row_long h = rw (lt-ltb max_row (length row) h)

  row_in : {o : Result Column Column} → length row ≤ max_row → o ≡ column_of row → mz_in machine row room o ≡ relabelled_row_of machine row room
  unfolding relabelled_row_of
  row_in h e = ap (mz_in machine row room) e ∙ rw (le-ltb max_row (length row) h)

  pub row_bad : {o : Result Column Column} {x : Column} → length row ≤ max_row → o ≡ column_of row → o ≡ Err x → refuses room 12 0 ≡ relabelled_row_of machine row room
  row_bad h e g = ap (mz_in machine row room) (sym g) ∙ row_in h e

  pub row_good : {o : Result Column Column} {x : Column} → length row ≤ max_row → o ≡ column_of row → o ≡ Ok x
      → intensity_of machine row x.next room ≡ relabelled_row_of machine row room
  row_good h e g = ap (mz_in machine row room) (sym g) ∙ row_in h e
