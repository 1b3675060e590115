-- Two answers that meet a contract of this crate are equal. Assumes nothing.
use Prim.Native.Nat.{ℕ}
use mathlib.Core.Path.{◌≡◌, sym, ap, ◌∙◌}
use mathlib.Core.List.{List}
use lib.ListN.{drop}
use lib.Seq.{paste}
use Rattle.io_parts.specs.Feeds.{LineEnd, Kept}

pub line_end_one : {l : List ℕ} {r q : ℕ} → LineEnd l r → LineEnd l q → r ≡ q
line_end_one a b = a.is ∙ sym b.is

pub kept_one : {d e f : List ℕ} {from n r q : ℕ} → Kept d from n e r → Kept d from n f q → (e ≡ f) × (r ≡ q)
kept_one {d} {from = from} a b =
    let same = a.is ∙ sym b.is in
    (a.made ∙ ap (λ (k : ℕ). paste d 0 (drop from d) k) same ∙ sym b.made, same)
