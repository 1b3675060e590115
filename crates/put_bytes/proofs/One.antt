-- Two answers that meet a contract of this crate are equal. Assumes nothing.
use Prim.Native.Nat.{ℕ}
use mathlib.Core.Path.{◌≡◌, sym, ◌∙◌}
use mathlib.Core.List.{List}
use Rattle.put_bytes.specs.Puts.{Put}

-- the output, and the place behind what was put
pub put_one : {d e f : List ℕ} {at r q : ℕ} {l : List ℕ} → Put d at l e r → Put d at l f q → (e ≡ f) × (r ≡ q)
put_one p q = (p.made ∙ sym q.made, p.next ∙ sym q.next)
