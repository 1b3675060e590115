-- An answer other than 8 is the answer for every larger room, and a result is no longer than its room. Assumes nothing.
use Prim.Native.Nat.{ℕ, ◌+◌, ◌-◌, ◌≤◌, min}
use mathlib.Core.Path.{◌≡◌, refl, sym, ◌∙◌}
use mathlib.Core.List.{List}
use native.Mathlib.Omega.{arith}
use lib.ListN.{length, take, replicate, length-append, length-replicate}
use lib.Seq.{take-append_seam}
use Rattle.rules.specs.Limits.{max_line, max_annotations}
use Rattle.rules.specs.Editions.{LineEdition}
use Rattle.rules.specs.Answers.{Answer, refuses, gives, Delivers, no_room, done, Writes}
use Rattle.rules.specs.RowAnswers.{max_row, WritesRow}
use Rattle.lines.specs.Relabels.{refused, relabelled}
use Rattle.lines.proofs.Back.{relabel_enough}
use Rattle.rows.specs.Relabels.{RelabelsRow}
use Rattle.rows.proofs.RelabelBack.{relabel_row_enough}
use Rattle.run_program.specs.declared.Input.{Input}
use Rattle.run_relabel.specs.Spelled.{RelabelsAs, a_line_lem, a_row, Answers}

-- ---- the same but for the zeros behind the result

pub record Same (a b : Answer) : Type 0 where
  pub number : a.number ≡ b.number
  pub place : a.place ≡ b.place
  pub size : a.size ≡ b.size
  pub result : take a.size a.out ≡ take b.size b.out

-- an answer of a kind that is the same
pub record Also (Is : Answer → Type 0) (a : Answer) : Type 0 where
  pub answer : Answer
  pub is : Is answer
  pub same : Same a answer

-- of one kind, so of another
also_as : {Is Has : Answer → Type 0} {a : Answer} → ((b : Answer) → Is b → Has b) → Also Is a → Also Has a
also_as f x = record { answer = x.answer; is = f x.answer x.is; same = x.same }

module _ (room room' : ℕ) where
  refuses_also : {Is : Answer → Type 0} {number place : ℕ} → Is (refuses room' number place) → Also Is (refuses room number place)
  refuses_also {Is} {number} {place} h =
      record { answer = refuses room' number place; is = h; same = record { number = refl; place = refl; size = refl; result = refl } }

  gives_also : {Is : Answer → Type 0} (w : List ℕ) → Is (gives room' w) → Also Is (gives room w)
  gives_also {Is} w h =
      let e = take-append_seam w (replicate (room - length w) 0) ∙ sym (take-append_seam w (replicate (room' - length w) 0)) in
      record { answer = gives room' w; is = h; same = record { number = refl; place = refl; size = refl; result = e } }

-- ---- in a larger room

module _ {room room' : ℕ} (larger : room ≤ room') where
  delivers_also : {w : List ℕ} {a : Answer} → Delivers room w a → (a.number ≡ 8 → ⊥) → Also (Delivers room' w) a
  delivers_also (no_room h) n = absurd (n refl)
  delivers_also {w} (done h) n = gives_also room room' w (done (omega arith))

  writes_also : {l : LineEdition} {bytes : List ℕ} {a : Answer} → Writes l bytes room a → (a.number ≡ 8 → ⊥) → Also (Writes l bytes room') a
  writes_also (Writes.no_table h) n = refuses_also room room' (Writes.no_table h)
  writes_also (Writes.old t h o) n = refuses_also room room' (Writes.old t h o)
  writes_also (Writes.lettered t h i) n = refuses_also room room' (Writes.lettered t h i)
  writes_also (Writes.long t h i s) n = refuses_also room room' (Writes.long t h i s)
  writes_also (Writes.fits t h i s d) n = also_as (λ b y. Writes.fits t h i s y) (delivers_also d n)

  writes_row_also : {l : LineEdition} {bytes : List ℕ} {a : Answer} → WritesRow l bytes room a → (a.number ≡ 8 → ⊥) → Also (WritesRow l bytes room') a
  writes_row_also (WritesRow.no_row h) n = refuses_also room room' (WritesRow.no_row h)
  writes_row_also (WritesRow.old r h o) n = refuses_also room room' (WritesRow.old r h o)
  writes_row_also (WritesRow.lettered r h i) n = refuses_also room room' (WritesRow.lettered r h i)
  writes_row_also (WritesRow.long r h i s) n = refuses_also room room' (WritesRow.long r h i s)
  writes_row_also (WritesRow.fits r h i s d) n = also_as (λ b y. WritesRow.fits r h i s y) (delivers_also d n)

-- ---- within its room

-- the output has room bytes, and the result no more
pub record Roomy (room : ℕ) (a : Answer) : Type 0 where
  pub all : length a.out ≡ room
  pub result : a.size ≤ room

refuses_roomy : (room number place : ℕ) → Roomy room (refuses room number place)
refuses_roomy room number place = record { all = length-replicate room 0; result = omega arith }

delivers_roomy : {room : ℕ} {w : List ℕ} {a : Answer} → Delivers room w a → Roomy room a
delivers_roomy {room} {w} (no_room h) = refuses_roomy room 8 (length w)
delivers_roomy {room} {w} (done h) =
    let z = length-append w (replicate (room - length w) 0) in
    record { all = omega (arith, z, length-replicate {A = ℕ} (room - length w) 0); result = h }

writes_roomy : {l : LineEdition} {bytes : List ℕ} {room : ℕ} {a : Answer} → Writes l bytes room a → Roomy room a
writes_roomy {room = room} (Writes.no_table h) = refuses_roomy room 9 0
writes_roomy {room = room} (Writes.old t h o) = refuses_roomy room 10 0
writes_roomy {room = room} (Writes.lettered t h i) = refuses_roomy room 20 0
writes_roomy {room = room} (Writes.long t h i s) = refuses_roomy room 1 max_line
writes_roomy (Writes.fits t h i s d) = delivers_roomy d

writes_row_roomy : {l : LineEdition} {bytes : List ℕ} {room : ℕ} {a : Answer} → WritesRow l bytes room a → Roomy room a
writes_row_roomy {room = room} (WritesRow.no_row h) = refuses_roomy room 9 0
writes_row_roomy {room = room} (WritesRow.old r h o) = refuses_roomy room 10 0
writes_row_roomy {room = room} (WritesRow.lettered r h i) = refuses_roomy room 20 0
writes_row_roomy {room = room} (WritesRow.long r h i s) = refuses_roomy room 1 max_line
writes_row_roomy (WritesRow.fits r h i s d) = delivers_roomy d

pub relabels_roomy : {l : LineEdition} {input : Input} {line : List ℕ} {room : ℕ} {a : Answer} → RelabelsAs l input line room a → Roomy room a
relabels_roomy {room = room} (a_line_lem (refused {a} r n)) = refuses_roomy room a.number a.place
relabels_roomy (a_line_lem (relabelled r n w)) = writes_roomy w
relabels_roomy {room = room} (a_row (RelabelsRow.refused {a} r n)) = refuses_roomy room a.number a.place
relabels_roomy (a_row (RelabelsRow.relabelled r n w)) = writes_row_roomy w

-- ---- read and written

-- a byte more for each annotation is enough, and so is what a row may have
pub relabels_enough : {l : LineEdition} {input : Input} (line : List ℕ) {room : ℕ} {a : Answer} → RelabelsAs l input line room a
    → min (length line + max_annotations) max_row ≤ room → a.number ≡ 8 → ⊥
relabels_enough line (a_line_lem r) large = relabel_enough line r (λ h. omega arith)
relabels_enough line (a_row r) large = relabel_row_enough r large

answers_by : {l : LineEdition} {input : Input} {line : List ℕ} {a : Answer} → RelabelsAs l input line max_row a → Answers l input line a
answers_by {line = line} r = record { relabels = r; enough = relabels_enough line r (omega arith) }

pub relabels_also : {l : LineEdition} {input : Input} {line : List ℕ} {room : ℕ} {a : Answer} → room ≤ max_row → RelabelsAs l input line room a → (a.number ≡ 8 → ⊥)
    → Also (Answers l input line) a
relabels_also {room = room} large (a_line_lem (refused r n)) h = refuses_also room max_row (answers_by (a_line_lem (refused r n)))
relabels_also large (a_line_lem (relabelled r n w)) h = also_as (λ b y. answers_by (a_line_lem (relabelled r n y))) (writes_also large w h)
relabels_also {room = room} large (a_row (RelabelsRow.refused r n)) h = refuses_also room max_row (answers_by (a_row (RelabelsRow.refused r n)))
relabels_also large (a_row (RelabelsRow.relabelled r n w)) h = also_as (λ b y. answers_by (a_row (RelabelsRow.relabelled r n y))) (writes_row_also large w h)
