-- Two answers that meet a contract of this crate are equal. Assumes nothing.
use mathlib.Core.Path.{◌≡◌, sym, ap₂, ◌∙◌}
use mathlib.Core.List.{List, ◌++◌}
use lib.ListN.{take, drop, take-append-drop}
use Prim.Native.Nat.{ℕ}
use Rattle.rules.specs.Answers as rules
use Rattle.rules.specs.Editions.{Edition}
use Rattle.store_sections.specs.declared.Cursors.{Cursors}
use Rattle.store_sections.proofs.One.{ran_one}
use Rattle.read_annotation.specs.declared.Parts.{Parts}
use Rattle.read_line.specs.declared.StoredTo.{StoredTo}
use Rattle.read_line.specs.Stores.{StoresNext, StoresLine}
use Rattle.answers.specs.Delivered.{Answer, answered}
use Rattle.answers.proofs.One.{answered_one}
use Rattle.read_line.specs.Readings.{ReadsSpelled}

pub stores_next_one : {edition : Edition} {line d e f : List ℕ} {from : ℕ} {p : Parts} {c : Cursors} {r q : StoredTo}
    → StoresNext edition line from p d c e r → StoresNext edition line from p d c f q → (e ≡ f) × (r ≡ q)
stores_next_one a b =
    let e = ran_one a.ran b.ran in
    let at = a.at ∙ sym b.at in
    (e.0, λ i. record { at = at i; cursors = e.1 i })

-- it has no result but the output
pub stores_line_one : {edition : Edition} {line d e f : List ℕ} {p : Parts} {c : Cursors} → StoresLine edition line p d c e → StoresLine edition line p d c f → e ≡ f
stores_line_one a b = (ran_one a.ran b.ran).0

-- an answer in the first n bytes of an output, and the bytes behind them
pub answered_in_one : (n : ℕ) {r q : Answer} {rest e f : List ℕ} {a : rules.Answer} → answered r (take n e) ≡ a → drop n e ≡ rest
    → answered q (take n f) ≡ a → drop n f ≡ rest → (e ≡ f) × (r ≡ q)
answered_in_one n {e = e} {f = f} x k y l =
    let z = answered_one (x ∙ sym y) in
    (sym (take-append-drop n e) ∙ ap₂ (λ (s t : List ℕ). s ++ t) z.0 (k ∙ sym l) ∙ take-append-drop n f, z.1)

pub reads_spelled_one : {edition : Edition} {line d e f : List ℕ} {r q : Answer} → ReadsSpelled edition line d e r → ReadsSpelled edition line d f q → (e ≡ f) × (r ≡ q)
reads_spelled_one a b = answered_one (a.is ∙ sym b.is)
