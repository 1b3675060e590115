-- Document 01, "One table, several spellings": what is spelled is one table. If a line has one spelling then it spells one table,
-- and tables in preferred order with losses and adduct items that are permutations of one another's are equal. Assumes nothing.
use Prim.Native.Nat.{ℕ}
use mathlib.Core.Path.{◌≡◌, refl, sym, ap₂, ◌∙◌, subst}
use mathlib.Core.List.{List, ◌∷◌}
use lib.Dec.{T}
use Rattle.lang.specs.Order.{rising, Each, none, next}
use Rattle.lang.proofs.Deriv.{and_0, and_1}
use Rattle.lang.proofs.Sort.{perm_joined, rising_one}
use Rattle.rules.specs.Annotations.{TableAnnotation}
use Rattle.rules.specs.Editions.{LineEdition}
use Rattle.rules.specs.Lines.{Spelling, line_text}
use Rattle.rules.specs.Preferred.{loss_le, item_le}
use Rattle.rules.specs.Fields.{Table, in_order, SameFields, Says, Spells}
use Rattle.rules.proofs.Meant.{loss_order, item_order}
use Rattle.rules.proofs.PreferredSpells.{AllInOrder, no_more, one_more, same_self}
use Rattle.rules.proofs.Anti.{loss_anti, item_anti}

-- the two halves of the order of an annotation
losses_rise : (a : TableAnnotation) → T (in_order a) → T (rising loss_le a.losses)
losses_rise a h = and_0 (rising loss_le a.losses) (rising item_le a.adduct) h

items_rise : (a : TableAnnotation) → T (in_order a) → T (rising item_le a.adduct)
items_rise a h = and_1 (rising loss_le a.losses) (rising item_le a.adduct) h

module _ (one_spelling : (s u : Spelling) → line_text s ≡ line_text u → s ≡ u) where
  pub same_fields_one : (a b c : TableAnnotation) → SameFields a b → SameFields a c → T (in_order b) → T (in_order c) → b ≡ c
  same_fields_one a b c p q h g =
      λ i. record {
        marked = (sym p.marked ∙ q.marked) i;
        analyte = (sym p.analyte ∙ q.analyte) i;
        ion = (sym p.ion ∙ q.ion) i;
        losses = rising_one loss_order (loss_anti one_spelling) (losses_rise b h) (losses_rise c g) (perm_joined p.losses q.losses) i;
        isotopes = (sym p.isotopes ∙ q.isotopes) i;
        adduct = rising_one item_order (item_anti one_spelling) (items_rise b h) (items_rise c g) (perm_joined p.adduct q.adduct) i;
        charge = (sym p.charge ∙ q.charge) i;
        deviation = (sym p.deviation ∙ q.deviation) i;
        confidence = (sym p.confidence ∙ q.confidence) i;
      }

  -- a spelling means one table
  pub one_table : {s : Spelling} {t u : Table} → Each Says s t → Each Says s u → t ≡ u
  one_table none none = refl
  one_table (next {b = b} x e) (next {b = c} y f) = ap₂ ◌∷◌ (same_fields_one _ b c x.fields y.fields x.order y.order) (one_table e f)

  -- a line spells one table, in each edition: the spellings of the first are some of the second's
  pub unambiguous : {l : LineEdition} {t u : Table} {line : List ℕ} → Spells l t line → Spells l u line → t ≡ u
  unambiguous {u = u} x y =
      let e = one_spelling y.spelling x.spelling (y.text ∙ sym x.text) in
      one_table x.says (subst (λ (s : Spelling). Each Says s u) e y.says)

  -- tables in preferred order with the same fields are equal
  pub rearranged_one : {t u : Table} → Each SameFields t u → AllInOrder t → AllInOrder u → t ≡ u
  rearranged_one none no_more no_more = refl
  rearranged_one (next {a = a} {b = b} x e) (one_more h o) (one_more g p) = ap₂ ◌∷◌ (same_fields_one a a b (same_self a) x h g) (rearranged_one e o p)
