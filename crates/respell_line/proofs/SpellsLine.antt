-- What the tests of what was counted come to, and the line that is copied or spelled anew by them. Assumes nothing.
use Prim.Native.Nat.{ℕ}
use mathlib.Core.Path.{◌≡◌, sym, ap, ◌∙◌, subst}
use mathlib.Core.Bool.{Bool, true, false, cond}
use mathlib.Core.List.{List}
use lib.Dec.{eqb}
use borrow.Author.Tests.{eq-eqb}
use Rattle.put_bytes.specs.Puts.{Put}
use Rattle.counts.specs.declared.Counts.{Counts}
use Rattle.read_annotation.specs.declared.Parts.{Parts}
use Rattle.measure_line.specs.declared.Totals.{Totals}
use Rattle.respell_line.specs.Plain.{is_plain, line_spelled, spelling_of}

-- ---- what was counted, where no test before the last fails

pub by_units : (n : Counts) (free : Bool) → free ≡ false → n.losses ≡ 0 → n.isotopes ≡ 0 → n.items ≡ 0 → eqb n.units 0 ≡ is_plain n free
unfolding is_plain
by_units n free f l i x = rw (f, eq-eqb n.losses 0 l, eq-eqb n.isotopes 0 i, eq-eqb n.items 0 x)

-- ---- the line

module _ (line : List ℕ) (t : Totals) (p : Parts) {b : Bool} (told : b ≡ is_plain t.counts t.free) where
  spelling_is : (v : Bool) → b ≡ v → cond v line (line_spelled line p) ≡ spelling_of line t p
  unfolding spelling_of
  spelling_is v h = ap (λ (x : Bool). cond x line (line_spelled line p)) (sym h ∙ told)

  pub copied : {d e : List ℕ} {n : ℕ} → b ≡ true → Put d 0 line e n → Put d 0 (spelling_of line t p) e n
  copied {d} {e} {n} h = subst (λ (w : List ℕ). Put d 0 w e n) (spelling_is true h)

  pub anew : {d e : List ℕ} {n : ℕ} → b ≡ false → Put d 0 (line_spelled line p) e n → Put d 0 (spelling_of line t p) e n
  anew {d} {e} {n} h = subst (λ (w : List ℕ). Put d 0 w e n) (spelling_is false h)
