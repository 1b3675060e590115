-- Two answers that meet a contract of this crate are equal. Assumes nothing.
use mathlib.Core.Path.{◌≡◌}
use mathlib.Core.List.{List}
use Prim.Native.Nat.{ℕ}
use Rattle.rules.specs.Editions.{LineEdition}
use Rattle.rules.specs.Answers.{Reads, Writes, Converts}
use Rattle.rules.proofs.WritesOne as rules
use Rattle.shape.proofs.Unambiguous as shape
use Rattle.answers.specs.Delivered.{Answer, answered}
use Rattle.answers.proofs.One.{answered_one}
use Rattle.lines.specs.Relabels.{Relabels}
use Rattle.lines.proofs.Back as back

module _ {room : ℕ} {e f : List ℕ} (r q : Answer) where
  pub reads_one : {l : LineEdition} (line : List ℕ) → Reads l line room (answered r e) → Reads l line room (answered q f) → (e ≡ f) × (r ≡ q)
  reads_one line a b = answered_one (shape.reads_one a b)

  pub writes_one : {l : LineEdition} (table : List ℕ) → Writes l table room (answered r e) → Writes l table room (answered q f) → (e ≡ f) × (r ≡ q)
  writes_one table a b = answered_one (rules.writes_one a b)

  pub converts_one : (table : List ℕ) → Converts table room (answered r e) → Converts table room (answered q f) → (e ≡ f) × (r ≡ q)
  converts_one table a b = answered_one (shape.converts_one a b)

  pub relabels_one : {l : LineEdition} (line : List ℕ) → Relabels l line room (answered r e) → Relabels l line room (answered q f) → (e ≡ f) × (r ≡ q)
  relabels_one line a b = answered_one (back.relabels_one line a b)
