-- Events that store the sections of a table: of none, of one annotation, and of one table after the other. Assumes nothing.
use Prim.Native.Nat.{ℕ}
use mathlib.Core.Path.{◌≡◌, refl, sym, ap, ap₂, ◌∙◌}
use mathlib.Core.List.{List, [], ◌∷◌, ◌++◌, append-nil}
use Rattle.lang.specs.Parts.{flat}
use Rattle.rules.specs.Annotations.{TableAnnotation}
use Rattle.rules.specs.Fields.{Table}
use Rattle.rules.specs.Editions.{Edition}
use Rattle.rules.specs.Stored.{stores, annotation_record, loss_record, isotope_records, item_record, unit_record, annotation_units, annotation_texts}
use Rattle.rules.specs.Layout.{annotation_section, loss_section, isotope_section, item_section, unit_section, text_section}
use Rattle.store_sections.specs.Pages.{Event, bytes_of, parts}
use Rattle.store_sections.specs.Fills.{bytes_in, Fills}
use Rattle.store_sections.proofs.Events.{flat_append, bytes_append}

pub fills_none : {e : Edition} → Fills e [] []
fills_none = record { annotations = refl; losses = refl; isotopes = refl; items = refl; units = refl; text = refl }

-- the events of one annotation
pub fills_one : {e : Edition} {es : List Event} (a : TableAnnotation) → bytes_of annotation_section es ≡ stores (annotation_record e a)
    → bytes_of loss_section es ≡ flat (λ l. stores (loss_record l)) a.losses → bytes_of isotope_section es ≡ flat (λ x. stores x) (isotope_records a.isotopes)
    → bytes_of item_section es ≡ flat (λ x. stores (item_record x)) a.adduct → bytes_of unit_section es ≡ flat (λ u. stores (unit_record u)) (annotation_units a)
    → bytes_of text_section es ≡ annotation_texts a → Fills e (a ∷ []) es
fills_one {e} a n l i x u t =
    record {
      annotations = n ∙ sym (append-nil (stores (annotation_record e a)));
      losses = l ∙ ap (flat (λ l. stores (loss_record l))) (sym (append-nil a.losses));
      isotopes = i ∙ ap (flat (λ x. stores x)) (sym (append-nil (isotope_records a.isotopes)));
      items = x ∙ ap (flat (λ x. stores (item_record x))) (sym (append-nil a.adduct));
      units = u ∙ ap (flat (λ u. stores (unit_record u))) (sym (append-nil (annotation_units a)));
      text = t ∙ sym (append-nil (annotation_texts a));
    }

-- one after the other
both : (j : ℕ) (es fs : List Event) {x y z : List ℕ} → bytes_of j es ≡ x → bytes_of j fs ≡ y → z ≡ x ++ y → bytes_of j (es ++ fs) ≡ z
both j es fs p q r = bytes_append j es fs ∙ ap₂ ◌++◌ p q ∙ sym r

flats : {A B C : Type 0} (g : B → List C) (h : A → List B) (xs ys : List A) → flat g (flat h (xs ++ ys)) ≡ flat g (flat h xs) ++ flat g (flat h ys)
flats g h xs ys = ap (flat g) (flat_append h xs ys) ∙ flat_append g (flat h xs) (flat h ys)

pub fills_then : {e : Edition} {t u : Table} {es fs : List Event} → Fills e t es → Fills e u fs → Fills e (t ++ u) (es ++ fs)
fills_then {e} {t} {u} {es} {fs} a b =
    record {
      annotations = both annotation_section es fs a.annotations b.annotations (flat_append (λ a. stores (annotation_record e a)) t u);
      losses = both loss_section es fs a.losses b.losses (flats (λ l. stores (loss_record l)) (λ a. a.losses) t u);
      isotopes = both isotope_section es fs a.isotopes b.isotopes (flats (λ x. stores x) (λ a. isotope_records a.isotopes) t u);
      items = both item_section es fs a.items b.items (flats (λ x. stores (item_record x)) (λ a. a.adduct) t u);
      units = both unit_section es fs a.units b.units (flats (λ u. stores (unit_record u)) annotation_units t u);
      text = both text_section es fs a.text b.text (flat_append annotation_texts t u);
    }

pub fills_parts : {e : Edition} {t : Table} {es : List Event} → Fills e t es → parts es ≡ bytes_in e t
fills_parts f = λ i. f.annotations i ∷ f.losses i ∷ f.isotopes i ∷ f.items i ∷ f.units i ∷ f.text i ∷ []
