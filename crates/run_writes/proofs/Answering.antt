-- A table's answer: by its digits, into a part of the line or all of it, and as text. Assumes nothing.
use Prim.Native.Nat.{ℕ, ◌≤◌}
use mathlib.Core.Path.{◌≡◌, sym, ap, ◌∙◌, subst, subst₂}
use mathlib.Core.Bool.{Bool, true, false, cond}
use mathlib.Core.List.{List, [], ◌∷◌, ◌++◌}
use native.Mathlib.Omega.{arith}
use lib.Dec.{eqb}
use lib.ListN.{length, take, drop, replicate}
use lib.Seq.{length-take-le, take_all, take-take, take_at, drop_at, drop-length, take-append-le, drop-append-le}
use Rattle.std.proofs.lemmas.List.{take-append-drop}
use Rattle.rules.specs.Answers as rules
use Rattle.rules.specs.Answers.{refuses}
use Rattle.rules.specs.Largest.{max_any_table}
use Rattle.lang.specs.Parts.{flat}
use Rattle.put_bytes.specs.Puts.{Put}
use Rattle.put_bytes.proofs.Putting.{put_as}
use Rattle.io_hex.specs.Hexes.{spelled, unhexed}
use Rattle.faults.specs.declared.Why.TheVariants.{NoTable}
use Rattle.answers.specs.Delivered.{Answer, number_in, place_in, size_in, answered, refused_of}
use Rattle.write_table.specs.Writings.{written_of, converted_of}
use Rattle.write_row.specs.Writings.{write_row_of}
use Rattle.io_lines.specs.declared.Stream.{Stream}
use Rattle.io_lines.specs.Streams.{waiting_of, Roomed}
use Rattle.run_program.proofs.Waiting.{waits_by}
use Rattle.io_answers.specs.Asked.{behind_size, asked_in, room_in}
use Rattle.io_answers.specs.Tells.{hex_byte, field, shown, refused_text, longest_answer}
use Rattle.run_writes.specs.declared.Task.{Task}
use Rattle.run_writes.specs.declared.Task.TheVariants.{WriteTable, WriteRow, ConvertTable}
use Rattle.run_writes.specs.declared.Form.{Form}
use Rattle.run_writes.specs.declared.Form.TheVariants.{Fields, Digits}
use Rattle.run_writes.specs.Answered.{answer_as, hex_of, answer_to, Written, told_as, told_of, Answered}
use Rattle.run_writes.proofs.Fits.{Fits, hex_fits}

-- ---- by the digits

module _ (task : Task) (machine digits : List ℕ) (tableRoom room : ℕ) where
  abbrev answer_by : Bool → rules.Answer
  answer_by b = cond b (answer_as task machine (take tableRoom (unhexed digits)) room) (refuses room 9 0)

  pub hex_refused : {out : List ℕ} {r : Answer} → spelled digits ≡ false → out ≡ replicate room 0 → r ≡ refused_of NoTable 0
      → answered r out ≡ hex_of task machine digits tableRoom room
  unfolding hex_of
  hex_refused {out} {r} h z e = ap (λ (x : Answer). answered x out) e ∙ ap (answered (refused_of NoTable 0)) z ∙ ap answer_by (sym h)

  pub hex_written : {p : List ℕ} {a : rules.Answer} → spelled digits ≡ true → p ≡ take tableRoom (unhexed digits) → a ≡ answer_as task machine p room
      → a ≡ hex_of task machine digits tableRoom room
  unfolding hex_of
  hex_written h e q = q ∙ ap (λ (l : List ℕ). answer_as task machine l room) e ∙ ap answer_by (sym h)

-- what is to be done was tested

module _ {task : Task} (m stored : List ℕ) (room : ℕ) {a : rules.Answer} where
  pub as_line : task ≡ WriteTable → a ≡ written_of m stored room → a ≡ answer_as task m stored room
  unfolding answer_as
  as_line h e = e ∙ ap (λ (t : Task). answer_as t m stored room) (sym h)

  pub as_row : task ≡ WriteRow → a ≡ write_row_of m stored room → a ≡ answer_as task m stored room
  unfolding answer_as
  as_row h e = e ∙ ap (λ (t : Task). answer_as t m stored room) (sym h)

  pub as_table : task ≡ ConvertTable → a ≡ converted_of m stored room → a ≡ answer_as task m stored room
  unfolding answer_as
  as_table h e = e ∙ ap (λ (t : Task). answer_as t m stored room) (sym h)

-- ---- into the line

-- a part of the line is lent
written_part : (task : Task) (machine digits : List ℕ) (tableRoom : ℕ) {d p e : List ℕ} {n : ℕ} {r : Answer} → n ≤ length d → length p ≡ length (take n d)
    → answered r p ≡ hex_of task machine digits tableRoom (length (take n d)) → e ≡ p ++ drop n d
    → Written n (hex_of task machine digits tableRoom n) d e r
written_part task machine digits tableRoom {d} {p} {e} {n} {r} h same q made =
    let k = length-take-le n d h in
    record {
      is = ap (answered r) (ap (take n) made ∙ take_at p (drop n d) n (same ∙ k)) ∙ q ∙ ap (hex_of task machine digits tableRoom) k;
      rest = ap (drop n) made ∙ drop_at p (drop n d) n (same ∙ k);
    }

pub written_sized : (task : Task) (machine asked : List ℕ) (tableRoom : ℕ) {t d p e : List ℕ} {n : ℕ} {r : Answer} → t ≡ behind_size asked → n ≡ room_in true asked (length d)
    → length p ≡ length (take n d) → answered r p ≡ hex_of task machine t tableRoom (length (take n d)) → e ≡ p ++ drop n d
    → Written (room_in true asked (length d)) (answer_to task machine true asked tableRoom (length d)) d e r
written_sized task machine asked tableRoom {t} {d} {p} {e} {n} {r} digits room same q made =
    subst₂ (λ (l : List ℕ) (m : ℕ). Written m (hex_of task machine l tableRoom m) d e r) digits room
    (written_part task machine t tableRoom (omega (arith, room)) same q made)

-- all of the line is lent
written_whole : (task : Task) (machine digits : List ℕ) (tableRoom : ℕ) {d e : List ℕ} {r : Answer} → length e ≡ length d
    → answered r e ≡ hex_of task machine digits tableRoom (length d) → Written (length d) (hex_of task machine digits tableRoom (length d)) d e r
written_whole task machine digits tableRoom {d} {e} {r} same q =
    record {
      is = ap (answered r) (take_all (length d) e (omega (arith, same))) ∙ q;
      rest = ap (λ (n : ℕ). drop n e) (sym same) ∙ drop-length e ∙ sym (drop-length d);
    }

module _ (task : Task) (machine : List ℕ) (sized : Bool) (asked : List ℕ) (tableRoom : ℕ) where
  abbrev WrittenBy : Bool → List ℕ → List ℕ → Answer → Type 0
  WrittenBy b d e r = Written (room_in b asked (length d)) (answer_to task machine b asked tableRoom (length d)) d e r

  pub one_sized : {d e : List ℕ} {r : Answer} → sized ≡ true → WrittenBy true d e r → WrittenBy sized d e r
  one_sized {d} {e} {r} h w = subst (λ (b : Bool). WrittenBy b d e r) (sym h) w

  pub one_plain : {d e : List ℕ} {r : Answer} → sized ≡ false → length e ≡ length d → answered r e ≡ hex_of task machine asked tableRoom (length d)
      → WrittenBy sized d e r
  one_plain {d} {e} {r} h same q = subst (λ (b : Bool). WrittenBy b d e r) (sym h) (written_whole task machine asked tableRoom same q)

-- as much of the line is lent as is answered at most
room_small : (b : Bool) (asked : List ℕ) (all : ℕ) → room_in b asked all ≤ all
room_small true asked all = omega arith
room_small false asked all = omega arith

written_front : {room n : ℕ} {a : rules.Answer} {d p : List ℕ} {r : Answer} → room ≤ n → n ≤ length d → length p ≡ n → Written room a (take n d) p r
    → Written room a d (p ++ drop n d) r
written_front {room} {n} {a} {d} {p} {r} small h same w =
    record {
      is = ap (answered r) (take-append-le room p (drop n d) (omega (arith, same))) ∙ w.is;
      rest =
          drop-append-le room p (drop n d) (omega (arith, same))
          ∙ ap (λ (l : List ℕ). l ++ drop n d) w.rest
          ∙ sym (drop-append-le room (take n d) (drop n d) (omega (arith, length-take-le n d h)))
          ∙ ap (drop room) (take-append-drop n d);
    }

pub written_most : (task : Task) (machine : List ℕ) (sized : Bool) (asked : List ℕ) (tableRoom most : ℕ) {n : ℕ} {d p : List ℕ} {r : Answer} → n ≡ most → most ≤ length d
    → length p ≡ length (take n d)
    → Written (room_in sized asked (length (take n d))) (answer_to task machine sized asked tableRoom (length (take n d))) (take n d) p r
    → Written (room_in sized asked most) (answer_to task machine sized asked tableRoom most) d (p ++ drop n d) r
written_most task machine sized asked tableRoom most {n} {d} {p} {r} q h same w =
    let k : length (take n d) ≡ most = length-take-le n d (omega (arith, q)) ∙ q in
    written_front (omega (arith, room_small sized asked most, q)) (omega (arith, q)) (same ∙ k ∙ sym q)
    (subst (λ (m : ℕ). Written (room_in sized asked m) (answer_to task machine sized asked tableRoom m) (take n d) p r) k w)

-- ---- as text

-- the form was tested

pub in_fields : {form : Form} (a : Answer) (line : List ℕ) {d e : List ℕ} {at end : ℕ} → form ≡ Fields → Put d at (told_as Fields a line) e end → Put d at (told_as form a line) e end
in_fields a line {d} {e} {at} {end} h p = subst (λ (f : Form). Put d at (told_as f a line) e end) (sym h) p

pub in_digits : {form : Form} (a : Answer) (line : List ℕ) {d e : List ℕ} {at end : ℕ} → form ≡ Digits → Put d at (told_as Digits a line) e end → Put d at (told_as form a line) e end
in_digits a line {d} {e} {at} {end} h p = subst (λ (f : Form). Put d at (told_as f a line) e end) (sym h) p

-- of the line its beginning alone is told
told_start : (form : Form) (r : Answer) (l m : List ℕ) → take (size_in r) l ≡ take (size_in r) m → told_as form r l ≡ told_as form r m
told_start Fields r l m h = ap (λ (k : List ℕ). field (number_in r) ++ (field (place_in r) ++ (field (size_in r) ++ (shown k ++ (10 ∷ []))))) h
told_start Digits r l m h = ap (λ (k : List ℕ). cond (eqb (number_in r) 0) (flat hex_byte k) (refused_text (number_in r) (place_in r)) ++ (10 ∷ [])) h

-- what is told of the line is told of its part
told_by : (form : Form) {room : ℕ} {a : rules.Answer} {d e : List ℕ} {r : Answer} → Written room a d e r → Fits room a → told_as form r e ≡ told_of form a
told_by form {room} {a} {d} {e} {r} w h =
    let k : size_in r ≤ room = omega (arith, h.is, ap (λ (x : rules.Answer). x.size) w.is) in
    told_start form r e (take room e) (sym (take-take (size_in r) room e k)) ∙ ap (told_of form) w.is

pub answered_by : (task : Task) (form : Form) (machine : List ℕ) (sized : Bool) (asked : List ℕ) (tableRoom all : ℕ) {w l m d e : List ℕ} {end : ℕ} {a : Answer} {s v r : Stream}
    → Roomed (length d) (longest_answer max_any_table) s v → w ≡ asked → Written (room_in sized w all) (answer_to task machine sized w tableRoom all) l m a
    → Put d v.waiting (told_as form a m) e end → r ≡ waiting_of v end → Answered form (answer_to task machine sized asked tableRoom all) s d e r
answered_by task form machine sized asked tableRoom all {w = w} p i x q y =
    let t = told_by form x (hex_fits task machine (asked_in sized w) tableRoom (room_in sized w all)) ∙ ap (λ (l : List ℕ). told_of form (answer_to task machine sized l tableRoom all)) i in
    waits_by p (put_as q t) y
