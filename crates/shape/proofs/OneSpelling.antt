-- No line has two spellings, and the machine of each edition of lines begins where every shape of it does. Assumes nothing.
use Prim.Native.Nat.{ℕ}
use mathlib.Core.Path.{◌≡◌, refl, ap, ◌∙◌}
use mathlib.Core.List.{List}
use mathlib.Core.Logic.{◌↔◌, inl}
use native.Mathlib.Omega.{arith}
use Rattle.lang.proofs.Same.{LA}
use Rattle.lang.proofs.Certify.{Certified, res}
use Rattle.lang.proofs.Deep.{one_tree}
use Rattle.lang.proofs.Whole as Whole
use Rattle.rules.specs.Editions.{LineEdition, first_lines, second_lines}
use Rattle.rules.specs.Lines.{Spelling, line_text, Shape}
use Rattle.shape.specs.Tables.{words}
use Rattle.shape.proofs.TableMachine.{machine, words1, machine1, machine_of}
use Rattle.shape.proofs.Certificate as Second
use Rattle.shape.proofs.FirstCertificate as First
use Rattle.shape.proofs.MeansLine.{means_line, means_bare, Bare, spelled_bare, bare_unlettered, line_bare}

pub certified : (l : LineEdition) → Certified (machine_of l)
certified first_lines = First.certified
certified second_lines = Second.certified

-- what the machine's first state goes on to are the shapes
second_start : (line : List ℕ) → LA (res machine 0) line ↔ ((s : Spelling) × (line_text s ≡ line))
unfolding machine words
second_start = Whole.from_start means_line

first_start : (line : List ℕ) → LA (res machine1 0) line ↔ ((x : Bare) × (line_text (spelled_bare x) ≡ line))
unfolding machine1 words words1
first_start = Whole.from_start means_bare

pub from_start : (l : LineEdition) (line : List ℕ) → LA (res (machine_of l) 0) line ↔ Shape l line
from_start first_lines line = (
  λ z. let x = (first_start line).0 z in (spelled_bare x.0, (bare_unlettered x.0, x.1)),
  λ s. let x = line_bare s.0 s.1.0 in (first_start line).1 (x.0, ap line_text x.1 ∙ s.1.1),
)
from_start second_lines line = (λ z. let x = (second_start line).0 z in (x.0, (tt, x.1)), λ s. (second_start line).1 (s.0, s.1.1))

-- of both editions: the spellings of the first are some of the second's
pub one_spelling : (s u : Spelling) → line_text s ≡ line_text u → s ≡ u
unfolding machine words
one_spelling = Whole.unambiguous means_line (λ line. one_tree machine Second.certified line 0 0 (record { small = omega arith; flat = inl refl }))
