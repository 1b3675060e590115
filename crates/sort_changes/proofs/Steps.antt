-- The steps of storing slots, and the text by which a loss or an adduct item is put in order. Assumes nothing.
use Prim.Native.Nat.{ℕ, ◌-◌}
use mathlib.Core.Path.{◌≡◌, sym, ap, ◌∙◌, subst}
use mathlib.Core.Logic.{◌⊎◌, inl, inr}
use mathlib.Core.List.{List, [], ◌∷◌}
use lib.ListN.{take, drop}
use Rattle.rules.specs.Layout.{unit_section, text_section}
use Rattle.changes.specs.declared.Content.{Content}
use Rattle.changes.specs.declared.Content.TheVariants.{Formula, Name, Electron}
use Rattle.put_bytes.specs.Puts.{Put}
use Rattle.put_formula.specs.Records.{records_of}
use Rattle.put_formula.specs.Preferred.{preferred_units}
use Rattle.sort_slots.specs.declared.Slot.{Slot}
use Rattle.store_sections.specs.declared.Cursors.{Cursors}
use Rattle.store_sections.specs.Pages.{at, moved, Ran}
use Rattle.store_sections.proofs.Events.{ran_put}
use Rattle.read_changes.specs.declared.ChangeRead.{ChangeRead}
use Rattle.sort_changes.specs.Keys.{content_key, key_text}
use Rattle.sort_changes.specs.Events.{slot_record, content_events, slot_events}

-- ---- keys

pub key_units : (s : List ℕ) (x : ChangeRead) {u : ℕ} {r : List ℕ} → x.content ≡ Formula u → r ≡ drop x.start s → preferred_units u r ≡ key_text s x
unfolding key_text
key_units s x {u} z e = ap (preferred_units u) e ∙ ap (content_key (x.len - x.start) (drop x.start s)) (sym z)

-- a name in its brackets, or `e`
pub key_rest : (s : List ℕ) (x : ChangeRead) {r : List ℕ} {n : ℕ} → ((b : ℕ) × (x.content ≡ Name b)) ⊎ (x.content ≡ Electron)
    → n ≡ x.len - x.start → r ≡ take n (drop x.start s) → r ≡ key_text s x
unfolding key_text
key_rest s x {r} {n} z m e = by z
  where
    t : r ≡ take (x.len - x.start) (drop x.start s)
    t = e ∙ ap (λ (k : ℕ). take k (drop x.start s)) m

    by : ((b : ℕ) × (x.content ≡ Name b)) ⊎ (x.content ≡ Electron) → r ≡ content_key (x.len - x.start) (drop x.start s) x.content
    by (inl (b, y)) = t ∙ ap (content_key (x.len - x.start) (drop x.start s)) (sym y)
    by (inr y) = t ∙ ap (content_key (x.len - x.start) (drop x.start s)) (sym y)

-- ---- one slot

-- bytes put at the cursor of a section, which is moved behind them
pub ran_at : {d e l : List ℕ} {c c' : Cursors} {k r : ℕ} (j : ℕ) → k ≡ at j c → Put d k l e r → c' ≡ moved j r c → Ran d c ((j, l) ∷ []) e c'
ran_at {d} {e} {l} {c} {c'} {k} {r} j q p m =
    subst (λ (x : Cursors). Ran d c ((j, l) ∷ []) e x) (sym m) (ran_put j (subst (λ (n : ℕ). Put d n l e r) q p))

module _ (j : ℕ) (s : List ℕ) (x : Slot) where
  pub slot_units : {u : ℕ} {r : List ℕ} → x.content ≡ Formula u → r ≡ drop x.start s → (j, slot_record x) ∷ (unit_section, records_of u r) ∷ [] ≡ slot_events j s x
  unfolding slot_events
  slot_units {u} z e =
      ap (λ (t : List ℕ). (j, slot_record x) ∷ (unit_section, records_of u t) ∷ []) e
      ∙ ap (λ (c : Content). (j, slot_record x) ∷ content_events (drop x.start s) c) (sym z)

  pub slot_name : {b : ℕ} {r t : List ℕ} → x.content ≡ Name b → r ≡ drop x.start s → t ≡ take b (drop 1 r) → (j, slot_record x) ∷ (text_section, t) ∷ [] ≡ slot_events j s x
  unfolding slot_events
  slot_name {b} z e f =
      ap (λ (t : List ℕ). (j, slot_record x) ∷ (text_section, t) ∷ []) (f ∙ ap (λ (r : List ℕ). take b (drop 1 r)) e)
      ∙ ap (λ (c : Content). (j, slot_record x) ∷ content_events (drop x.start s) c) (sym z)

  pub slot_bare : x.content ≡ Electron → (j, slot_record x) ∷ [] ≡ slot_events j s x
  unfolding slot_events
  slot_bare z = ap (λ (c : Content). (j, slot_record x) ∷ content_events (drop x.start s) c) (sym z)
