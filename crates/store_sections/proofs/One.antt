-- Two answers that meet a contract of this crate are equal. Assumes nothing.
use Prim.Native.Nat.{ℕ}
use mathlib.Core.Path.{◌≡◌, sym, ◌∙◌}
use mathlib.Core.List.{List}
use Rattle.put_bytes.proofs.One.{put_one}
use Rattle.counts.specs.declared.Counts.{Counts}
use Rattle.store_sections.specs.declared.Cursors.{Cursors}
use Rattle.store_sections.specs.Pages.{Event, Ran}
use Rattle.store_sections.specs.Headers.{Headed}
use Rattle.rules.specs.Editions.{Edition}

pub ran_one : {d e f : List ℕ} {c k l : Cursors} {es : List Event} → Ran d c es e k → Ran d c es f l → (e ≡ f) × (k ≡ l)
ran_one a b = (a.made ∙ sym b.made, a.place ∙ sym b.place)

pub headed_one : {edition : Edition} {d e f : List ℕ} {n : Counts} {c k : Cursors} → Headed edition d n e c → Headed edition d n f k → (e ≡ f) × (c ≡ k)
headed_one a b = ((put_one a.put b.put).0, a.starts ∙ sym b.starts)
