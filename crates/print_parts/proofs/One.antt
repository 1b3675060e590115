-- Two answers that meet a contract of this crate are equal. Assumes nothing.
use Prim.Native.Nat.{ℕ}
use mathlib.Core.Path.{◌≡◌, sym, ◌∙◌}
use mathlib.Core.List.{List}
use Rattle.put_bytes.specs.Puts.{Put}
use Rattle.put_bytes.proofs.One.{put_one}
use Rattle.print_parts.specs.declared.PrintedTo.{PrintedTo}
use Rattle.print_parts.specs.Changes.{PrintsChanges}

-- what was printed, and how far units and text were used: for every contract that says no more than this
pub run_one : {d e f l : List ℕ} {to m n : ℕ} {r q : PrintedTo} → Put d to l e r.to → r.units ≡ m → r.text ≡ n
    → Put d to l f q.to → q.units ≡ m → q.text ≡ n → (e ≡ f) × (r ≡ q)
run_one p u t q v w =
    let e = put_one p q in
    let units = u ∙ sym v in
    let text = t ∙ sym w in
    (e.0, λ i. record { to = e.1 i; units = units i; text = text i })

pub prints_changes_one : {n : ℕ} {l u t d e f : List ℕ} {to : ℕ} {r q : PrintedTo} → PrintsChanges n l u t d to e r → PrintsChanges n l u t d to f q → (e ≡ f) × (r ≡ q)
prints_changes_one a b = run_one a.put a.units a.text b.put b.units b.text
