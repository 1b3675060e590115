-- What is answered to a line, and where it waits to be written. Assumes nothing.
use Rattle.std.specs.Prelude.{ℕ, ◌≡◌, Bool, true, false, cond, List, [], ◌∷◌, ◌++◌, eqb, ltb, length}
use Rattle.rules.specs.Bytes.{bytes}
use Rattle.rules.specs.Numbers.{digits}
use Rattle.scan_line.specs.declared.Progress.{Progress}
use Rattle.scan_line.specs.declared.Verdict.{Verdict}
use Rattle.scan_line.specs.Steps.{standing, taken_by, verdict_by}
use Rattle.scan_line.specs.Verdicts.{number_of, place_of}
use Rattle.io_lines.specs.declared.Stream.{Stream}
use Rattle.run_program.specs.Waits.{Waits}
use Rattle.io_lines.specs.Streams.{is_fed}

-- a number, a blank, a place and a line feed
abbrev pub place_text : ℕ → ℕ → List ℕ
place_text number place = digits number ++ ((32 ∷ []) ++ (digits place ++ (10 ∷ [])))

-- the paper's number and place of the verdict on a line, and `fine` for 0
abbrev pub verdict_text : List ℕ → Verdict → List ℕ
verdict_text line v = cond (eqb (number_of v) 0) (bytes "fine" ++ (10 ∷ [])) (place_text (number_of v) (place_of line v))

-- output d is e, and s is r: the answer to a line whose scan stands at p waits; such an answer has at most 23 bytes
pub record Shown (machine : List ℕ) (p : Progress) (s : Stream) (d e : List ℕ) (r : Stream) : Type 0 where
  pub waits : (line : List ℕ) → length line ≡ p.at → Waits 23 (verdict_text line (verdict_by machine p)) s d e r

-- a part is scanned on from p to q: where a line feed ends it the answer to its line waits and the next scan begins, and else nothing is put
pub record Parted (machine part : List ℕ) (s : Stream) (p : Progress) (d e : List ℕ) (q : Progress) (r : Stream) : Type 0 where
  pub fresh : is_fed s ≡ true → q ≡ standing 0 0 0
  pub shown : is_fed s ≡ true → Shown machine (taken_by machine p part) s d e r
  pub scanned : is_fed s ≡ false → q ≡ taken_by machine p part
  pub same : is_fed s ≡ false → r ≡ s
  pub kept : is_fed s ≡ false → e ≡ d

-- whether anything was scanned
abbrev pub is_begun : Progress → Bool
is_begun p = cond (eqb p.state 0) (ltb 0 p.at) true

-- at the end of the input: a line that was begun is answered, and else nothing is put
pub record Last (machine : List ℕ) (s : Stream) (p : Progress) (d e : List ℕ) (r : Stream) : Type 0 where
  pub shown : is_begun p ≡ true → Shown machine p s d e r
  pub same : is_begun p ≡ false → r ≡ s
  pub kept : is_begun p ≡ false → e ≡ d
