-- The needs of the functions that store the header. Assumes nothing.
use Prim.Native.Nat.{ℕ}
use mathlib.Core.Path.{◌≡◌, refl, ap, ap₂, ◌∙◌}
use mathlib.Core.List.{List}
use lib.Seq.{sets}
use Rattle.rules.specs.Stored.{stores}
use Rattle.rules.specs.Editions.{Edition}
use Rattle.put_bytes.specs.Puts.{Put}
use Rattle.counts.specs.declared.Counts.{Counts}
use Rattle.store_sections.specs.declared.Cursors.{Cursors}
use Rattle.store_sections.specs.Headers.{behind, starts_of, end_at, header_fields, Headed}

pub headed : {edition : Edition} {d e : List ℕ} {n : Counts} {c : Cursors} {end r : ℕ} → c ≡ starts_of edition n → end ≡ behind c.text n.text 1
    → Put d 0 (stores (header_fields edition n c end)) e r → Headed edition d n e c
headed {edition} {d} {e} {n} {c} {end} q z p =
    let y : end ≡ end_at edition n = z ∙ ap (λ (k : Cursors). behind k.text n.text 1) q in
    let w = ap₂ (λ (k : Cursors) (m : ℕ). sets d 0 (stores (header_fields edition n k m))) q y in
    record { put = record { small = p.small; next = refl; made = p.made ∙ w }; starts = q }
