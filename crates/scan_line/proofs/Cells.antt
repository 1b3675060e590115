-- The machine's bytes are its tables, laid out one after the other; those of the first edition of lines are the second's but for three cells. Assumes nothing.
use Prim.Native.Nat.{ℕ, ◌+◌, ◌*◌, ◌<◌, ◌≤◌, min}
use mathlib.Core.Path.{◌≡◌, refl, sym, ap, ◌∙◌, subst}
use mathlib.Core.Bool.{Bool, true, false, cond, ◌&&◌, ◌||◌}
use mathlib.Core.List.{List, [], ◌++◌, map}
use native.Mathlib.Omega.{arith}
use lib.Dec.{T, eqb, leb, ltb, ltb→lt}
use lib.ListN.{length, get_or, replicate, get_or-append}
use lib.Seq.{get_or-append-add}
use borrow.Author.Tests.{eqb-true, leb-true}
use Rattle.lang.proofs.Tests.{t_is}
use Rattle.lang.proofs.Deriv.{and_0, and_1}
use Rattle.lang.proofs.Machine.{all_b, all→}
use Rattle.lang.proofs.Flat.{laid, laid_at}
use Rattle.lang.proofs.Certify.{step, accepting, kind_lt, step_le}
use Rattle.put_bytes.specs.Puts.{Put}
use Rattle.put_bytes.proofs.Putting.{filled}
use Rattle.rules.specs.Editions.{LineEdition, first_lines, second_lines}
use Rattle.shape.specs.Tables.{states, flats, kinds, rows_at, ends_at, size, classes, rows, accepts, packed}
use Rattle.scan_line.specs.Steps.{second_bytes, machine_bytes, step_by, ends_by}
use Rattle.shape.proofs.TableMachine.{machine, rows1, machine1, machine_of}
use Rattle.shape.proofs.OneSpelling.{certified}

-- bytes that step and end as the machine of an edition of lines does, where every state from its last on is nowhere
pub record Steps (l : LineEdition) (m : List ℕ) : Type 0 where
  pub long : size ≤ length m
  pub steps : (q b : ℕ) → q < (machine_of l).states → b < 256 → min (step_by m q b) (machine_of l).states ≡ step (machine_of l) q b
  pub apart : (q b : ℕ) → q < (machine_of l).states → b < 256 → step_by m q b < states → step_by m q b < (machine_of l).states
  pub ends : (q : ℕ) → q < (machine_of l).states → ends_by m q ≡ accepting (machine_of l) q

-- ---- five lists one after the other: what stands in the first, the second and the fourth

module _ (cs ls zs es ys : List ℕ) where
  abbrev parts : List ℕ
  parts = cs ++ (ls ++ (zs ++ (es ++ ys)))

  in_first : (i : ℕ) → i < length cs → get_or parts i 0 ≡ get_or cs i 0
  in_first i h = get_or-append cs (ls ++ (zs ++ (es ++ ys))) 0 i h

  in_second : (i : ℕ) → i < length ls → get_or parts (length cs + i) 0 ≡ get_or ls i 0
  in_second i h = get_or-append-add cs (ls ++ (zs ++ (es ++ ys))) i 0 ∙ get_or-append ls (zs ++ (es ++ ys)) 0 i h

  in_fourth : (i : ℕ) → i < length es → get_or parts (length cs + (length ls + (length zs + i))) 0 ≡ get_or es i 0
  in_fourth i h =
      get_or-append-add cs (ls ++ (zs ++ (es ++ ys))) (length ls + (length zs + i)) 0 ∙ get_or-append-add ls (zs ++ (es ++ ys)) (length zs + i) 0
      ∙ get_or-append-add zs (es ++ ys) i 0 ∙ get_or-append es ys 0 i h

-- ---- the machine's: 22 rows and 22 marks belong to no state

unfoldable no_rows : List ℕ
no_rows = replicate 1562 0

unfoldable no_marks : List ℕ
no_marks = replicate 22 0

-- in the first edition a first letter leads nowhere
unfoldable own_rows : LineEdition → List (List ℕ)
own_rows first_lines = map (map (λ q. cond (eqb q flats) states q)) rows
own_rows second_lines = rows

unfoldable all_rows : LineEdition → List ℕ
all_rows l = laid (own_rows l)

laid_out : (l : LineEdition) → machine_bytes l ≡ parts classes (all_rows l) no_rows accepts no_marks
unfolding machine_bytes second_bytes packed classes rows accepts own_rows all_rows no_rows no_marks
laid_out first_lines = refl
laid_out second_lines = refl

classes_length : length classes ≡ rows_at
unfolding classes
classes_length = refl

rows_length : (l : LineEdition) → length (all_rows l) ≡ states * kinds
unfolding all_rows own_rows rows
rows_length first_lines = refl
rows_length second_lines = refl

none_length : length no_rows ≡ 22 * kinds
unfolding no_rows
none_length = refl

accepts_length : length accepts ≡ states
unfolding accepts
accepts_length = refl

pub size_is : (l : LineEdition) → length (machine_bytes l) ≡ size
unfolding machine_bytes second_bytes packed
size_is first_lines = refl
size_is second_lines = refl

-- what is put over that many zeros
pub made : {e : List ℕ} {r : ℕ} → Put (replicate size 0) 0 second_bytes e r → e ≡ second_bytes
unfolding machine_bytes
made p = filled p (size_is second_lines)

class_at : (l : LineEdition) (b : ℕ) → b < 256 → get_or (machine_bytes l) b 0 ≡ get_or classes b 0
class_at l b h =
    ap (λ (m : List ℕ). get_or m b 0) (laid_out l) ∙ in_first classes (all_rows l) no_rows accepts no_marks b (omega (arith, classes_length))

row_at : (l : LineEdition) (q c : ℕ) → q < states → c < kinds → get_or (all_rows l) (q * kinds + c) 0 ≡ get_or (get_or (own_rows l) q []) c 0
unfolding all_rows own_rows rows
row_at first_lines q c h g = laid_at kinds (own_rows first_lines) tt q c h g
row_at second_lines q c h g = laid_at kinds (own_rows second_lines) tt q c h g

cell_at : (l : LineEdition) (q c : ℕ) → q < states → c < kinds → get_or (machine_bytes l) (rows_at + q * kinds + c) 0 ≡ get_or (get_or (own_rows l) q []) c 0
cell_at l q c h g =
    let e : rows_at + q * kinds + c ≡ length classes + (q * kinds + c) = omega (arith, classes_length) in
    ap (λ (m : List ℕ). get_or m (rows_at + q * kinds + c) 0) (laid_out l)
    ∙ ap (λ (i : ℕ). get_or (parts classes (all_rows l) no_rows accepts no_marks) i 0) e
    ∙ in_second classes (all_rows l) no_rows accepts no_marks (q * kinds + c) (omega (arith, rows_length l)) ∙ row_at l q c h g

mark_at : (l : LineEdition) (q : ℕ) → q < states → get_or (machine_bytes l) (ends_at + q) 0 ≡ get_or accepts q 0
mark_at l q h =
    let e : ends_at + q ≡ length classes + (length (all_rows l) + (length no_rows + q)) = omega (arith, classes_length, rows_length l, none_length) in
    ap (λ (m : List ℕ). get_or m (ends_at + q) 0) (laid_out l)
    ∙ ap (λ (i : ℕ). get_or (parts classes (all_rows l) no_rows accepts no_marks) i 0) e
    ∙ in_fourth classes (all_rows l) no_rows accepts no_marks q (omega (arith, accepts_length))

-- by the byte's class
step_at : (l : LineEdition) (q b : ℕ) → q < states → b < 256 → get_or classes b 0 < kinds → step_by (machine_bytes l) q b ≡ get_or (get_or (own_rows l) q []) (get_or classes b 0) 0
unfolding step_by
step_at l q b h g k = ap (λ (c : ℕ). get_or (machine_bytes l) (rows_at + q * kinds + c) 0) (class_at l b g) ∙ cell_at l q (get_or classes b 0) h k

-- ---- the first edition's cells, tested one by one: nowhere is nowhere, and no step leads to letters

abbrev cell_t : ℕ → ℕ → Bool
cell_t q c =
    let to = get_or (get_or (own_rows first_lines) q []) c 0 in
    eqb (min to flats) (get_or (get_or rows1 q []) c 0) && (leb states to || ltb to flats)

first_cells : T (all_b (λ q. all_b (cell_t q) kinds) flats)
unfolding own_rows rows rows1
first_cells = tt

first_cell : (q c : ℕ) → q < flats → c < kinds → T (cell_t q c)
first_cell q c h g = all→ (cell_t q) kinds (all→ (λ q. all_b (cell_t q) kinds) flats first_cells q h) c g

inside : (to : ℕ) → T (leb states to || ltb to flats) → to < states → to < flats
inside to t h = by (leb states to) refl t
  where
    by : (x : Bool) → leb states to ≡ x → T (x || ltb to flats) → to < flats
    by true e u = absurd (let g = leb-true states to e in omega arith)
    by false e u = ltb→lt to flats u

pub machine_steps : (l : LineEdition) → Steps l (machine_bytes l)
unfolding machine machine1 own_rows ends_by
machine_steps first_lines =
    record {
      long = omega (arith, size_is first_lines);
      steps = λ q b h g.
          let k = kind_lt machine1 (certified first_lines) b g in
          let to = get_or (get_or (own_rows first_lines) q []) (get_or classes b 0) 0 in
          ap (λ (x : ℕ). min x flats) (step_at first_lines q b (omega arith) g k)
          ∙ eqb-true _ _ (t_is _ (and_0 (eqb (min to flats) (get_or (get_or rows1 q []) (get_or classes b 0) 0)) (leb states to || ltb to flats) (first_cell q (get_or classes b 0) h k)));
      apart = λ q b h g n.
          let k = kind_lt machine1 (certified first_lines) b g in
          let to = get_or (get_or (own_rows first_lines) q []) (get_or classes b 0) 0 in
          let e = step_at first_lines q b (omega arith) g k in
          subst (λ (x : ℕ). x < flats) (sym e)
          (inside to (and_1 (eqb (min to flats) (get_or (get_or rows1 q []) (get_or classes b 0) 0)) (leb states to || ltb to flats) (first_cell q (get_or classes b 0) h k)) (subst (λ (x : ℕ). x < states) e n));
      ends = λ q h. ap (λ (x : ℕ). eqb x 1) (mark_at first_lines q (omega arith));
    }
machine_steps second_lines =
    record {
      long = omega (arith, size_is second_lines);
      steps = λ q b h g.
          let k = kind_lt machine (certified second_lines) b g in
          let e = step_at second_lines q b h g k in
          let n = step_le machine (certified second_lines) q b h g in
          omega (arith, e);
      apart = λ q b h g n. n;
      ends = λ q h. ap (λ (x : ℕ). eqb x 1) (mark_at second_lines q h);
    }
