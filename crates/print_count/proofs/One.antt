-- Two answers that meet a contract of this crate are equal. Assumes nothing.
use Prim.Native.Nat.{ℕ}
use mathlib.Core.Path.{◌≡◌, sym, ◌∙◌}
use mathlib.Core.List.{List}
use Rattle.put_bytes.specs.Puts.{Put}
use Rattle.put_bytes.proofs.One.{put_one}
use Rattle.print_count.specs.declared.Respelled.{Respelled}

-- what was spelled anew, of how many bytes of the line: for every contract that says no more than this
pub respelled_one : {d e f l : List ℕ} {to n : ℕ} {r q : Respelled} → r.len ≡ n → Put d to l e r.to → q.len ≡ n → Put d to l f q.to → (e ≡ f) × (r ≡ q)
respelled_one n p m q =
    let e = put_one p q in
    let len = n ∙ sym m in
    (e.0, λ i. record { to = e.1 i; len = len i })
