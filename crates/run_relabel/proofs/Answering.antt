-- The answer to a line, or to a row, stands behind what waited, with its line feed. Assumes nothing.
use Prim.Native.Nat.{ℕ, ◌+◌, ◌<◌, ◌≤◌, ◌^◌}
use mathlib.Core.Path.{◌≡◌, refl, sym, ap, ap₂, ◌∙◌, subst, subst₂}
use mathlib.Core.Bool.{Bool, true, false, cond}
use mathlib.Core.List.{List, [], ◌∷◌, ◌++◌, append_assoc}
use native.Mathlib.Omega.{arith}
use lib.Dec.{eqb}
use lib.ListN.{length, take, drop, length-take, length-drop, length-append}
use lib.Seq.{length-take-le, take_at, take-add, sets-eq}
use borrow.Author.Tests.{eqb-true, eqb-false}
use Rattle.rules.specs.Editions.{LineEdition}
use Rattle.rules.specs.RowAnswers.{max_row}
use Rattle.put_bytes.specs.Puts.{Put}
use Rattle.put_bytes.proofs.Putting.{put_length, put_place}
use Rattle.answers.specs.Delivered.{Answer, number_in, place_in, size_in}
use Rattle.io_lines.specs.declared.Stream.{Stream}
use Rattle.io_lines.specs.Streams.{waiting_of, Roomed}
use Rattle.io_lines.proofs.Rooms.{room_at}
use Rattle.io_answers.specs.Tells.{refused_text}
use Rattle.run_program.specs.declared.Input.{Input}
use Rattle.run_relabel.specs.AnswerPut.{AnswerPut}
use Rattle.run_relabel.specs.Spelled.{Answers, Spelled}
use Rattle.run_relabel.specs.Answered.{answer_text, answer_line, Answered}
use Rattle.run_relabel.proofs.Rooms.{relabels_roomy}
use Rattle.run_relabel.proofs.Short.{refusal_short, room_fits}

-- what stands up to a place of an output as long as it was: what stood before, and a text behind it
pub record Stands (d₀ : List ℕ) (at : ℕ) (text e : List ℕ) (end : ℕ) : Type 0 where
  pub behind : end ≡ at + length text
  pub is : take end e ≡ take at d₀ ++ text
  pub same : length e ≡ length d₀

-- a text that is put
put_stands : {d e l : List ℕ} {at r : ℕ} → Put d at l e r → at + length l ≤ length d → Stands d at l e r
put_stands {d} {e} {l} {at} {r} p h =
    let t = take at d in
    let q = put_place p (omega (arith, p.small)) in
    let n : length (t ++ l) ≡ r = omega (arith, length-append t l, length-take-le at d (omega arith)) in
    record {
      behind = q;
      is = ap (take r) (p.made ∙ sets-eq l d at h) ∙ take_at (t ++ l) (drop (at + length l) d) r n;
      same = put_length p;
    }

-- one behind the other
stands_then : {d e f l m : List ℕ} {at i r : ℕ} → Stands d at l e i → Stands e i m f r → Stands d at (l ++ m) f r
stands_then {d} {e} {f} {l} {m} {at} x y =
    record {
      behind = omega (arith, x.behind, y.behind, length-append l m);
      is = y.is ∙ ap (λ (t : List ℕ). t ++ m) x.is ∙ append_assoc (take at d) l m;
      same = y.same ∙ x.same;
    }

module _ {l : LineEdition} {input : Input} {line d e : List ℕ} {at : ℕ} {a : Answer} (s : Spelled l input line d at e a) (room : at + (max_row + 1) ≤ length d) (same : length e ≡ length d) where
  short : size_in a ≤ max_row
  short = omega (arith, s.len, (relabels_roomy s.answers.relabels).result)

  -- the result, or the refusal
  abbrev text_by : Bool → List ℕ
  text_by b = cond b (take s.answer.size s.answer.out) (refused_text s.answer.number s.answer.place)

  -- the spelling stands already
  spelling_stands : Stands d at (text_by true) e (at + size_in a)
  spelling_stands =
      let l = take (size_in a) (drop at e) in
      let n : length l ≡ size_in a = omega (arith, short, length-take (size_in a) (drop at e), length-drop at e) in
      record {
        behind = ap (λ (k : ℕ). at + k) (sym n ∙ ap length s.stands);
        is = take-add at (size_in a) e ∙ ap₂ (λ (x y : List ℕ). x ++ y) s.before s.stands;
        same = same;
      }

  -- or the refusal is put there
  told_stands : {f : List ℕ} {end : ℕ} → number_in a < 2 ^ 64 → place_in a < 2 ^ 64 → AnswerPut e at a f end → Stands d at (answer_text s.answer) f end
  told_stands {f} {end} h g t = by (eqb s.answer.number 0) refl
    where
      by : (b : Bool) → eqb s.answer.number 0 ≡ b → Stands d at (text_by b) f end
      by true q =
          let z = s.number ∙ eqb-true s.answer.number 0 q in
          let i : end ≡ at + size_in a = omega (arith, short, t.behind z) in
          subst₂ (λ (x : List ℕ) (k : ℕ). Stands d at (text_by true) x k) (sym (t.spelled z)) (sym i) spelling_stands
      by false q =
          let p = t.refused (λ z. eqb-false s.answer.number 0 q (sym s.number ∙ z)) in
          let l : refused_text (number_in a) (place_in a) ≡ text_by false = rw (s.number, s.place) in
          let x = put_stands p (omega (arith, refusal_short (number_in a) (place_in a) h g)) in
          record {
            behind = x.behind ∙ ap (λ (w : List ℕ). at + length w) l;
            is = x.is ∙ ap₂ (λ (y w : List ℕ). y ++ w) s.before l;
            same = x.same ∙ same;
          }

  text_short : number_in a < 2 ^ 64 → place_in a < 2 ^ 64 → length (answer_text s.answer) ≤ max_row
  text_short h g = by (eqb s.answer.number 0)
    where
      by : (b : Bool) → length (text_by b) ≤ max_row
      by true = omega (arith, short, s.len, length-take s.answer.size s.answer.out)
      by false = omega (arith, refusal_short s.answer.number s.answer.place (omega (arith, s.number)) (omega (arith, s.place)))

  -- and a line feed behind it
  pub line_stands : {f x : List ℕ} {end r : ℕ} → number_in a < 2 ^ 64 → place_in a < 2 ^ 64 → AnswerPut e at a f end → Put f end (10 ∷ []) x r
      → Stands d at (answer_line s.answer) x r
  line_stands h g t p =
      let y = told_stands h g t in
      stands_then y (put_stands p (omega (arith, y.behind, y.same, text_short h g)))

pub answered_by : {l : LineEdition} {input : Input} {w line d e f x : List ℕ} {end n : ℕ} {a : Answer} {s t r : Stream} → Roomed (length d) (max_row + 1) s t → max_row + 1 ≤ length d
    → w ≡ line → length e ≡ length d → number_in a < 2 ^ 64 → place_in a < 2 ^ 64
    → Spelled l input w d t.waiting e a → AnswerPut e t.waiting a f end → Put f end (10 ∷ []) x n → r ≡ waiting_of t n → Answered l input line s d x r
answered_by {l} {input} {d = d} {x = x} {s = s} {t = v} roomed room i same h g y t q e =
    let p = room_at roomed in
    let fits = room_fits (length d) s.waiting (max_row + 1) room in
    let z = line_stands y (omega (arith, p)) same h g t q in
    let text = answer_line y.answer in
    record {
      answer = y.answer;
      answers = subst (λ (w : List ℕ). Answers l input w y.answer) i y.answers;
      room = v;
      roomed = roomed;
      waits = e ∙ ap (waiting_of v) (z.behind ∙ ap (λ (k : ℕ). k + length text) p);
      stands = ap (λ (w : Stream). take w.waiting x) e ∙ z.is ∙ ap (λ (k : ℕ). take k d ++ text) p;
    }
