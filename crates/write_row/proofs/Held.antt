-- Bytes are a stored row exactly where a head is found in them and a table stands behind it. Assumes nothing.
use Prim.Native.Nat.{ℕ}
use mathlib.Core.Path.{◌≡◌, sym, ap, ◌∙◌, subst}
use mathlib.Core.Bool.{true}
use mathlib.Core.List.{List}
use lib.ListN.{drop}
use Rattle.rules.specs.Fields.{Table}
use Rattle.rules.specs.Answers.{Holds}
use Rattle.rules.specs.Editions.{Edition}
use Rattle.rules.specs.Rows.{Row, row_head_size}
use Rattle.rules.specs.RowAnswers.{HoldsRow}
use Rattle.numbers.specs.declared.Decimal.{Decimal}
use Rattle.numbers.specs.Making.{ruled}
use Rattle.write_row.specs.declared.Head.{Head}
use Rattle.write_row.specs.Writings.{good_head, head_of}
use Rattle.write_row.proofs.Heads.{HeadRead, head_is, head_found}

-- the row of two numbers, as the code has them, and a table
abbrev pub row_of : Decimal → Decimal → Table → Row
row_of mz intensity t = record { mz = ruled mz; intensity = ruled intensity; table = t }

pub head_holds : {e : Edition} {s : List ℕ} {h : Head} → HeadRead s h → {t : Table} → Holds e (drop row_head_size s) t → HoldsRow e s (row_of h.mz h.intensity t)
head_holds {s = s} x g = record { mz = x.mz; intensity = x.intensity; rest = drop row_head_size s; table = g; is = x.is }

pub rest_holds : {e : Edition} {s : List ℕ} {r : Row} → HoldsRow e s r → Holds e (drop row_head_size s) r.table
rest_holds {e} {r = r} g = subst (λ (l : List ℕ). Holds e l r.table) (ap (drop row_head_size) g.is) g.table

pub head_there : {e : Edition} {s : List ℕ} {r : Row} → HoldsRow e s r → good_head s ≡ true
head_there {s = s} {r} g = (head_is s (ap head_of (sym g.is) ∙ head_found r.mz r.intensity g.mz g.intensity g.rest)).0
