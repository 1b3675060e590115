-- What is stored, and what is spelled anew, of a row of spelled things that are losses or adduct items. Assumes nothing.
use Prim.Native.Nat.{ℕ, ◌<◌}
use mathlib.Core.Path.{◌≡◌, refl, sym, ap, ap₂, ◌∙◌, subst}
use mathlib.Core.Bool.{Bool, false, ◌&&◌}
use mathlib.Core.List.{List, [], ◌∷◌, ◌++◌, map}
use lib.Dec.{T, eqb}
use lib.ListN.{length, length-map}
use Rattle.lang.specs.Parts.{flat}
use Rattle.lang.specs.Order.{Perm, same, swap, keep, then, leads, rising, Each, none, next}
use Rattle.rules.specs.Numbers.{Number}
use Rattle.rules.specs.Formulas.{FormulaUnit, unit_map}
use Rattle.rules.specs.Fields.{filled}
use Rattle.rules.specs.Preferred.{rank}
use Rattle.rules.specs.Stored.{Field, stores, unit_record}
use Rattle.rules.specs.Layout.{unit_section, text_section}
use Rattle.rules.proofs.Bounds.{each_length}
use Rattle.changes.specs.Signs.{sign_number}
use Rattle.changes.proofs.Signs.{sign_ranked}
use Rattle.put_formula.proofs.Chains.{flat_map}
use Rattle.sort_slots.specs.declared.Slot.{Slot}
use Rattle.sort_slots.specs.Slots.{slot_key}
use Rattle.sort_slots.proofs.Arranged.{by_key, fed_arranged}
use Rattle.print_count.specs.Heads.{head_text}
use Rattle.store_sections.specs.Pages.{Event, bytes_of}
use Rattle.store_sections.proofs.Events.{flat_append, bytes_each, bytes_none}
use Rattle.read_changes.proofs.Spelled.{Spelled, change_text}
use Rattle.read_changes.proofs.Sums.{EndsChanges}
use Rattle.sort_changes.specs.Gathered.{gathered}
use Rattle.sort_changes.specs.Events.{slot_events, no_keys, change_events}
use Rattle.sort_changes.specs.Spelled.{slot_spelled, many_spelled}
use Rattle.sort_changes.proofs.SlotHolds.{what_units, change_key, change_spelled, change_record, spelled_events}
use Rattle.sort_changes.proofs.Sections.{what_name, bytes_record, bytes_units, bytes_name, bytes_other}
use Rattle.sort_changes.proofs.SlotsInserted.{Stands, fed_count, After, RowFits, gathered_fed}

-- ---- lists

perm_map : {A B : Type 0} (f : A → B) {l n : List A} → Perm l n → Perm (map f l) (map f n)
perm_map f same = same
perm_map f swap = swap
perm_map f (keep p) = keep (perm_map f p)
perm_map f (then p q) = then (perm_map f p) (perm_map f q)

leads_map : {A B : Type 0} (f : A → B) (before : B → B → Bool) (a : A) (l : List A) → leads (λ a b. before (f a) (f b)) a l ≡ leads before (f a) (map f l)
leads_map f before a [] = refl
leads_map f before a (b ∷ l) = refl

rising_map : {A B : Type 0} (f : A → B) (before : B → B → Bool) (l : List A) → rising (λ a b. before (f a) (f b)) l ≡ rising before (map f l)
rising_map f before [] = refl
rising_map f before (a ∷ l) = ap₂ ◌&&◌ (leads_map f before a l) (rising_map f before l)

each_unmap : {X A B : Type 0} (R : X → B → Type 0) (f : A → B) (ys : List X) (xs : List A) → Each R ys (map f xs) → Each (λ y a. R y (f a)) ys xs
each_unmap R f [] [] none = none
each_unmap R f [] (x ∷ xs) e = elim e [ ]
each_unmap R f (y ∷ ys) [] e = elim e [ ]
each_unmap R f (y ∷ ys) (x ∷ xs) (next r e) = next r (each_unmap R f ys xs e)

flat_flat : {A B C : Type 0} (g : B → List C) (h : A → List B) (xs : List A) → flat (λ x. flat g (h x)) xs ≡ flat g (flat h xs)
flat_flat g h [] = refl
flat_flat g h (x ∷ xs) = ap (λ l. flat g (h x) ++ l) (flat_flat g h xs) ∙ sym (flat_append g (h x) (flat h xs))

each_flat : {X A C : Type 0} (R : X → A → Type 0) (f : X → List C) (g : A → List C) → ((x : X) (a : A) → R x a → f x ≡ g a) → {xs : List X} {l : List A}
    → Each R xs l → flat f xs ≡ flat g l
each_flat R f g h none = refl
each_flat R f g h (next {a = x} {b = a} r e) = ap₂ ◌++◌ (h x a r) (each_flat R f g h e)

-- the same of each member
pub flat_each : {A B : Type 0} (f g : A → List B) → ((x : A) → f x ≡ g x) → (xs : List A) → flat f xs ≡ flat g xs
flat_each f g h [] = refl
flat_each f g h (x ∷ xs) = ap₂ ◌++◌ (h x) (flat_each f g h xs)

-- the texts of things that are spelled so
pub texts_of_lem : {A : Type 0} {m : ℕ} (of : A → Spelled m) (text : A → List ℕ) → ((a : A) → text a ≡ change_text (of a)) → (xs : List A)
    → flat text xs ≡ flat change_text (map of xs)
texts_of_lem of text text_of xs = flat_each text (λ a. change_text (of a)) text_of xs ∙ flat_map change_text of xs

-- ---- what is stored

-- the bytes `all` begin with bs in some order of reading, and section j gets their records in preferred order
pub record StoredRow {B : Type 0} (before : B → B → Bool) (fields : B → List Field) (units : B → List (FormulaUnit Number)) (name : B → List ℕ)
    (j : ℕ) (bs : List B) (all : List ℕ) (long : ℕ) : Type 0 where
  pub ls : List B
  pub same : Perm bs ls
  pub rise : T (rising before ls)
  pub n : length (gathered no_keys all).slots ≡ length bs
  pub len : (gathered no_keys all).at ≡ long
  pub own : bytes_of j (change_events j all) ≡ flat (λ b. stores (fields b)) ls
  pub units_are : bytes_of unit_section (change_events j all) ≡ flat (λ u. stores (unit_record u)) (flat units ls)
  pub text : bytes_of text_section (change_events j all) ≡ flat name ls
  -- every other section gets nothing
  pub others : (i : ℕ) → eqb i j ≡ false → eqb i unit_section ≡ false → eqb i text_section ≡ false → bytes_of i (change_events j all) ≡ []

-- things of a type A, spelled so; each means one of a type B, which has a key
module _ {A B : Type 0} {m : ℕ} (of : A → Spelled m) (fill : A → B) (key : B → List ℕ) (key_of : (a : A) → change_key (of a) ≡ key (fill a)) (j : ℕ) where
  abbrev StandsAs : List ℕ → List ℕ → Slot → A → Type 0
  StandsAs all keys y a = Stands j all keys y (of a)

  same_key : (all keys : List ℕ) (y : Slot) (a : A) → StandsAs all keys y a → slot_key keys y ≡ key (fill a)
  same_key all keys y a t =
      let g = ap sign_number t.sign ∙ sign_ranked (of a).sign in
      (λ i. map rank (t.text i) ++ (0 ∷ g i ∷ t.count i ∷ [])) ∙ key_of a

  slot_spelled_lem : (all keys : List ℕ) (y : Slot) (a : A) → StandsAs all keys y a → slot_spelled keys y ≡ change_spelled (of a)
  unfolding slot_spelled
  slot_spelled_lem all keys y a t = λ i. head_text (t.sign i) (t.count i) ++ t.text i

  -- what the slots hold, in their order
  pub record Rowed (all : List ℕ) (xs : List A) : Type 0 where
    pub list : List A
    pub same : Perm (map fill xs) (map fill list)
    pub rise : T (rising (by_key key) (map fill list))
    pub n : length (gathered no_keys all).slots ≡ length xs
    pub events : change_events j all ≡ flat (λ a. spelled_events j (of a)) list
    pub spelled : many_spelled all ≡ flat (λ a. change_spelled (of a)) list

  pub rowed : {all : List ℕ} {at : ℕ} (xs : List A) → After j all (gathered no_keys all) (map of xs) at → Rowed all xs
  unfolding change_events many_spelled
  rowed {all} xs z =
      let keys = (gathered no_keys all).keys in
      let f = z.fed in
      let r = fed_arranged (λ a. key (fill a)) keys (StandsAs all keys) (same_key all keys) (each_unmap (Stands j all keys) of z.read xs f.each) in
      record {
        list = r.list;
        same = perm_map fill r.same;
        rise = subst (λ (t : Bool). T t) (rising_map fill (by_key key) r.list) r.rise;
        n = fed_count f ∙ each_length f.each ∙ length-map xs of;
        events =
            ap (flat (slot_events j all)) f.slots
            ∙ each_flat (StandsAs all keys) (slot_events j all) (λ a. spelled_events j (of a)) (λ y a t. t.events) r.stand;
        spelled =
            ap (flat (slot_spelled keys)) f.slots
            ∙ each_flat (StandsAs all keys) (slot_spelled keys) (λ a. change_spelled (of a)) (slot_spelled_lem all keys) r.stand;
      }

  module _ (h : j < unit_section) (fields : B → List Field) (units : B → List (FormulaUnit Number)) (name : B → List ℕ)
      (fields-of : (a : A) → stores (change_record (of a)) ≡ stores (fields (fill a)))
      (units_of : (a : A) → map (unit_map filled) (what_units (of a).what) ≡ units (fill a))
      (name_of : (a : A) → what_name (of a).what ≡ name (fill a)) where
    abbrev unit_bytes : List (FormulaUnit Number) → List ℕ
    unit_bytes us = flat (λ u. stores (unit_record u)) us

    row_gathered : {all : List ℕ} {at : ℕ} (xs : List A) → After j all (gathered no_keys all) (map of xs) at
        → StoredRow (by_key key) fields units name j (map fill xs) all at
    row_gathered {all} xs z =
        let r = rowed xs z in
        let l = r.list in
        let f : A → List Event = λ a. spelled_events j (of a) in
        record {
          ls = map fill l;
          same = r.same;
          rise = r.rise;
          n = r.n ∙ sym (length-map xs fill);
          len = z.at_is;
          own =
              ap (bytes_of j) r.events ∙ bytes_each j f (λ a. stores (fields (fill a))) (λ a. bytes_record j h (of a) ∙ fields-of a) l
              ∙ flat_map (λ b. stores (fields b)) fill l;
          units_are =
              ap (bytes_of unit_section) r.events ∙ bytes_each unit_section f (λ a. unit_bytes (units (fill a))) (λ a. bytes_units j h (of a) ∙ ap unit_bytes (units_of a)) l
              ∙ flat_map (λ b. unit_bytes (units b)) fill l ∙ flat_flat (λ u. stores (unit_record u)) units (map fill l);
          text =
              ap (bytes_of text_section) r.events ∙ bytes_each text_section f (λ a. name (fill a)) (λ a. bytes_name j h (of a) ∙ name_of a) l
              ∙ flat_map name fill l;
          others = λ i e p q. ap (bytes_of i) r.events ∙ bytes_none i f (λ a. bytes_other j h (of a) i e p q) l;
        }

    -- as their texts are written
    pub row_stored : (text : A → List ℕ) → ((a : A) → text a ≡ change_text (of a)) → (xs : List A) (k : List ℕ) → EndsChanges k → RowFits (map of xs)
        → StoredRow (by_key key) fields units name j (map fill xs) (flat text xs ++ k) (length (flat text xs))
    row_stored text text_of xs k e fits =
        subst (λ (s : List ℕ). StoredRow (by_key key) fields units name j (map fill xs) (s ++ k) (length s)) (sym (texts_of_lem of text text_of xs))
        (row_gathered xs (gathered_fed j (map of xs) k e fits))
