-- A line read back, by what the code found: its answer's number, and the bytes that were compared. Assumes nothing.
use Prim.Native.Nat.{ℕ}
use mathlib.Core.Path.{◌≡◌, sym, ap, ◌∙◌}
use mathlib.Core.Bool.{Bool, true, false, ◌&&◌}
use mathlib.Core.List.{List}
use lib.Dec.{eqb}
use lib.ListN.{take}
use borrow.Author.Tests.{ne_eqb}
use Rattle.std.specs.Prelude.{Ok, Err}
use Rattle.rules.specs.Answers as rules
use Rattle.faults.specs.declared.Refusal.{Refusal}
use Rattle.faults.specs.Refusals.{number_of}
use Rattle.answers.proofs.One.{number_not_0}
use Rattle.rules.specs.Editions.{Edition}
use Rattle.scan_line.specs.declared.Verdict.{Verdict}
use Rattle.answers.specs.Delivered.{Answer, number_in, size_in, answered}
use Rattle.read_line.specs.Readings.{any_over}
use Rattle.read_line.specs.Same.{same_bytes, all_bytes}
use Rattle.read_line.specs.Back.{is_read, reads_to}

-- as far as an answer with the bytes e goes
abbrev read_by : List ℕ → List ℕ → Answer → Bool
read_by table e r = eqb (number_in r) 0 && same_bytes (take (size_in r) e) table

module _ (edition : Edition) (v : Verdict) (d line table : List ℕ) (all : all_bytes line ≡ true) where
  reads_is : (e : List ℕ) (r : Answer) → answered r e ≡ any_over edition d v line → reads_to edition v d line table ≡ read_by table e r
  unfolding reads_to
  reads_is e r q = ap (λ (x : Bool). x && is_read (any_over edition d v line) table) all ∙ ap (λ (a : rules.Answer). is_read a table) (sym q)

  pub reads_not : {e : List ℕ} {r : Answer} {x : Refusal} → r ≡ Err x → answered r e ≡ any_over edition d v line → false ≡ reads_to edition v d line table
  reads_not {e} {r} {x} h q =
      sym (reads_is e r q ∙ ap (read_by table e) h ∙ ap (λ (b : Bool). b && same_bytes (take 0 e) table) (ne_eqb (number_of x.why) 0 (number_not_0 x.why)))

  pub reads_same : {e s : List ℕ} {r : Answer} {n : ℕ} {b : Bool} → r ≡ Ok n → answered r e ≡ any_over edition d v line → s ≡ take n e → b ≡ same_bytes s table
      → b ≡ reads_to edition v d line table
  reads_same {e} {r = r} h q ps pb = pb ∙ ap (λ (s : List ℕ). same_bytes s table) ps ∙ sym (reads_is e r q ∙ ap (read_by table e) h)
