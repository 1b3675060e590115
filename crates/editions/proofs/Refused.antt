-- Document 02, M-113: first-edition reading refuses a line of the second edition's shape that has letters, at the first of them. Assumes nothing.
use Prim.Native.Nat.{ℕ, ◌+◌}
use mathlib.Core.Path.{◌≡◌, refl, sym, ap, ◌∙◌, subst, subst₂}
use mathlib.Core.Bool.{Bool, true, false, cond}
use mathlib.Core.List.{List, [], ◌∷◌, ◌++◌, append_assoc}
use mathlib.Core.Logic.{inl}
use native.Mathlib.Omega.{arith}
use lib.Dec.{T, leb}
use lib.ListN.{length, take, length-append}
use lib.Seq.{take-append_seam}
use borrow.Author.Tests.{leb-true, leb-false}
use Rattle.lang.specs.Parts.{items}
use Rattle.lang.specs.Scan.{Begins, Stray}
use Rattle.lang.proofs.Same.{LA}
use Rattle.lang.proofs.Certify.{res}
use Rattle.lang.proofs.Deep.{Stands}
use Rattle.rules.specs.Editions.{first_lines}
use Rattle.rules.specs.Lines.{Spelling, line_text, Shape, stray}
use Rattle.rules.specs.Limits.{max_line}
use Rattle.rules.specs.Answers.{Answer, refuses, Reads, long, misshapen}
use Rattle.shape.proofs.TableMachine.{machine1}
use Rattle.shape.proofs.OneSpelling.{certified, from_start}
use Rattle.shape.proofs.Unambiguous.{reads_one}
use Rattle.editions.specs.Letters.{RefusesLetters}
use Rattle.editions.proofs.Bytes.{each_b, low, each_front, line_bytes}
use Rattle.editions.proofs.Walk.{Stood, after}
use Rattle.editions.proofs.Cells.{positions, no_letter}
use Rattle.editions.proofs.Split.{Split, split}

-- a byte behind a beginning, with which no text of the language goes on
stray_behind : (L : List ℕ → Type 0) (p : List ℕ) (b : ℕ) (w : List ℕ) → Begins L p → ((v : List ℕ) → L (p ++ (b ∷ v)) → ⊥)
    → Stray L (p ++ (b ∷ w)) (length p)
stray_behind L p b w x n =
    let one : take (length p + 1) (p ++ (b ∷ w)) ≡ p ++ (b ∷ []) =
    ap (λ (k : ℕ). take k (p ++ (b ∷ w))) (sym (length-append p (b ∷ []))) ∙ ap (take (length (p ++ (b ∷ [])))) (sym (append_assoc p (b ∷ []) w))
    ∙ take-append_seam (p ++ (b ∷ [])) w in
    record {
      inside = omega (arith, length-append p (b ∷ w));
      begins = subst (Begins L) (sym (take-append_seam p (b ∷ w))) x;
      stops = λ z. n z.0 (subst L (ap (λ (v : List ℕ). v ++ z.0) one ∙ append_assoc p (b ∷ []) z.0) z.1);
    }

-- ---- the first letter is such a byte

module _ {s : Spelling} {place : ℕ} (x : Split s 0 place) where
  bare_shape : Shape first_lines (x.front ++ positions)
  bare_shape = (items x.bare, (x.unlettered_bare, x.bare_text))

  bare_follows : LA (res machine1 0) (x.front ++ positions)
  bare_follows = (from_start first_lines (x.front ++ positions)).1 bare_shape

  start : Stands machine1 0 0
  unfolding machine1
  start = record { small = omega arith; flat = inl refl }

  front_bytes : T (each_b low x.front)
  front_bytes = each_front low x.front positions (subst (λ (w : List ℕ). T (each_b low w)) x.bare_text (line_bytes (items x.bare)))

  stood : Stood machine1 0 0 x.front
  stood = after machine1 (certified first_lines) x.front front_bytes 0 0 start positions bare_follows

  goes_no_further : (v : List ℕ) → Shape first_lines (x.front ++ (x.letter ∷ v)) → ⊥
  goes_no_further v z =
      no_letter stood.state stood.depth stood.stand (stood.goes positions bare_follows) x.letter x.known v
      (stood.goes (x.letter ∷ v) ((from_start first_lines (x.front ++ (x.letter ∷ v))).1 z))

  letter_stray : Stray (Shape first_lines) (line_text s) place
  letter_stray =
      let at : length x.front ≡ place = omega (arith, x.counts) in
      subst₂ (Stray (Shape first_lines)) (sym x.text) at
      (stray_behind (Shape first_lines) x.front x.letter x.back (positions, bare_shape) goes_no_further)

-- ---- the answer

-- by whether the line is short enough
abbrev answer : (place room : ℕ) → Bool → Answer
answer place room fits = cond fits (refuses room 2 place) (refuses room 1 max_line)

refused : (s : Spelling) (place room : ℕ) → Split s 0 place → Reads first_lines (line_text s) room (answer place room (leb (length (line_text s)) max_line))
refused s place room x = by (leb (length (line_text s)) max_line) refl
  where
    by : (fits : Bool) → leb (length (line_text s)) max_line ≡ fits → Reads first_lines (line_text s) room (answer place room fits)
    by true e = misshapen (leb-true (length (line_text s)) max_line e) (stray place (letter_stray x))
    by false e = long (leb-false (length (line_text s)) max_line e)

pub refuses_letters : RefusesLetters
refuses_letters s place e room a =
    let r = refused s place room (split 0 place s e) in
    (λ z. reads_one z r, λ q. subst (Reads first_lines (line_text s) room) (sym q) r)
