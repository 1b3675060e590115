-- The preferred spelling of a table that some line spells within limits and house rules is within them too: it has the same numbers, or
-- leaves out a 1, and as many of everything. Assumes nothing.
use Prim.Native.Nat.{ℕ, ◌+◌}
use mathlib.Core.Path.{◌≡◌, refl, sym, ap, ap₂, ◌∙◌, subst}
use mathlib.Core.Bool.{Bool, not, ◌&&◌}
use mathlib.Core.List.{List, [], ◌∷◌, map}
use lib.Dec.{T, leb}
use Rattle.lang.specs.Parts.{Opt, silent, opt_map}
use Rattle.lang.specs.Mark.{Kept}
use Rattle.lang.specs.Order.{Perm, same, swap, keep, then, Each, none, next}
use Rattle.rules.specs.Decimals.{Decimal}
use Rattle.rules.specs.Ions.{Ion, series, internal, immonium, precursor, reference, named, composed, smiles, unknown, ion_map, TableIon}
use Rattle.rules.specs.Adducts.{Item, item_map}
use Rattle.rules.specs.Confidences.{meant_decimal}
use Rattle.rules.specs.Annotations.{TableAnnotation, SpelledAnnotation, Deviation}
use Rattle.rules.specs.Lines.{Spelling}
use Rattle.rules.specs.Preferred.{shortened_annotation, shortened, preferred_spelling, shortened_cut}
use Rattle.rules.specs.Fields.{Table, filled, filled_cut, SameFields, Says}
use Rattle.rules.specs.Texts.{Text}
use Rattle.rules.specs.Sequences.{is_sequence, residues}
use Rattle.rules.specs.Limits.{line_marks}
use Rattle.rules.specs.House.{is_empty, ion_rule, sequence_in, covered, if_there, deviation_rule, confidence_of, share, one, formed, common_rules, long_enough, annotation_rules, first_failing, first_foreign, first_breach, first_excess}
use Rattle.rules.specs.Editions.{Edition, LineEdition, ed1, ed2}
use Rattle.rules.specs.Answers.{SoundIn}
use Rattle.rules.proofs.Shortened.{confidence_back}
use Rattle.rules.proofs.FitAnnotations.{passed}
use Rattle.rules.proofs.SoundEditions.{passes}
use Rattle.write_table.proofs.Limited.{table_within}
use Rattle.write_table.proofs.Unbroken.{line_kept}

-- ---- limits

pub preferred_kept : {l : LineEdition} {e : Edition} (t : Table) → SoundIn l e t → Kept (line_marks (preferred_spelling t))
preferred_kept t s = line_kept t (table_within t s)

-- ---- rules for one annotation do not look at free counts and letters, nor at the order of losses and items

ion_rule_map : {A B C D : Type 0} (f : A → B) (g : C → D) (x : Ion A C) (adduct : Bool) → ion_rule (ion_map f g x) adduct ≡ ion_rule x adduct
ion_rule_map f g (series s n t) adduct = refl
ion_rule_map f g (internal c m n t) adduct = refl
ion_rule_map f g (immonium a m) adduct = refl
ion_rule_map f g precursor adduct = refl
ion_rule_map f g (reference n) adduct = refl
ion_rule_map f g (named t) adduct = refl
ion_rule_map f g (composed x) adduct = refl
ion_rule_map f g (smiles t) adduct = refl
ion_rule_map f g (unknown n) adduct = refl

empty_map : {A B : Type 0} (f : A → B) (xs : List A) → is_empty (map f xs) ≡ is_empty xs
empty_map f [] = refl
empty_map f (x ∷ xs) = refl

empty_perm : {A : Type 0} {l m : List A} → Perm l m → is_empty l ≡ is_empty m
empty_perm same = refl
empty_perm swap = refl
empty_perm (keep p) = refl
empty_perm (then p q) = empty_perm p ∙ empty_perm q

-- the rules, of what they look at
abbrev rules_of : {Free Cut : Type 0} → Ion Free Cut → Bool → Opt Deviation → Opt Decimal → Bool
rules_of x empty d c = ion_rule x (not empty) && (deviation_rule d && leb (confidence_of c) one)

-- the counts, filled or shortened, are not looked at
rules_map : {A B C D : Type 0} (f : A → B) (g : C → D) (x : Ion A C) (xs : List (Item A)) (d : Opt Deviation) (c : Opt Decimal)
    → rules_of (ion_map f g x) (is_empty (map (item_map f) xs)) d c ≡ rules_of x (is_empty xs) d c
rules_map f g x xs d c =
    ap (λ (e : Bool). rules_of (ion_map f g x) e d c) (empty_map (item_map f) xs)
    ∙ ap (λ (r : Bool). r && (deviation_rule d && leb (confidence_of c) one)) (ion_rule_map f g x (not (is_empty xs)))

-- of an annotation as a table has it
abbrev table_rules : TableAnnotation → Bool
table_rules a = rules_of a.ion (is_empty a.adduct) a.deviation a.confidence

rules_same : {a b : TableAnnotation} → SameFields a b → table_rules a ≡ table_rules b
rules_same {a} {b} e =
    ap (λ (x : TableIon). rules_of x (is_empty a.adduct) a.deviation a.confidence) e.ion
    ∙ ap (λ (x : Bool). rules_of b.ion x a.deviation a.confidence) (empty_perm e.adduct)
    ∙ ap (λ (x : Opt Deviation). rules_of b.ion (is_empty b.adduct) x a.confidence) e.deviation
    ∙ ap (λ (x : Opt Decimal). rules_of b.ion (is_empty b.adduct) b.deviation x) e.confidence

common_kept : {a : SpelledAnnotation} {b : TableAnnotation} → Says a b → common_rules a ≡ common_rules (shortened_annotation b)
common_kept {a} {b} s =
    sym (rules_map filled filled_cut a.ion a.adduct a.deviation (opt_map meant_decimal a.confidence)) ∙ rules_same s.fields
    ∙ sym (rules_map shortened shortened_cut b.ion b.adduct b.deviation b.confidence)
    ∙ ap (rules_of (ion_map shortened shortened_cut b.ion) (is_empty (map (item_map shortened) b.adduct)) b.deviation) (sym (confidence_back b.confidence))

-- ---- nor do those on its sequence, which is a text of the ion

sequence_map : {A B C D : Type 0} (f : A → B) (g : C → D) (x : Ion A C) → (sequence_in (ion_map f g x) ≡ sequence_in x) × (covered (ion_map f g x) ≡ covered x)
sequence_map f g (series s n t) = (refl, refl)
sequence_map f g (internal c m n t) = (refl, refl)
sequence_map f g (immonium a m) = (refl, refl)
sequence_map f g precursor = (refl, refl)
sequence_map f g (reference n) = (refl, refl)
sequence_map f g (named t) = (refl, refl)
sequence_map f g (composed x) = (refl, refl)
sequence_map f g (smiles t) = (refl, refl)
sequence_map f g (unknown n) = (refl, refl)

formed_map : (e : Edition) {A B C D : Type 0} (f : A → B) (g : C → D) (x : Ion A C) → formed e (ion_map f g x) ≡ formed e x
formed_map ed1 f g x = refl
formed_map ed2 f g x = ap (if_there is_sequence) (sequence_map f g x).0

long_map : (e : Edition) {A B C D : Type 0} (f : A → B) (g : C → D) (x : Ion A C) → long_enough e (ion_map f g x) ≡ long_enough e x
long_map ed1 f g x = refl
long_map ed2 f g x =
    ap₂ (λ (o : Opt Text) (n : ℕ). if_there (λ w. leb n (residues w)) o) (sequence_map f g x).0 (sequence_map f g x).1

form_kept : (e : Edition) {a : SpelledAnnotation} {b : TableAnnotation} → Says a b → formed e a.ion ≡ formed e (shortened_annotation b).ion
form_kept e {a} {b} s = sym (formed_map e filled filled_cut a.ion) ∙ ap (formed e) s.fields.ion ∙ sym (formed_map e shortened shortened_cut b.ion)

rules_kept : (e : Edition) {a : SpelledAnnotation} {b : TableAnnotation} → Says a b → annotation_rules e a ≡ annotation_rules e (shortened_annotation b)
rules_kept e {a} {b} s =
    ap₂ ◌&&◌ (common_kept s) (sym (long_map e filled filled_cut a.ion) ∙ ap (long_enough e) s.fields.ion ∙ sym (long_map e shortened shortened_cut b.ion))

-- ---- a search for a place

-- by a test that does not look at what is free in a spelling
all_pass : (test : SpelledAnnotation → Bool) → ((a : SpelledAnnotation) (b : TableAnnotation) → Says a b → test a ≡ test (shortened_annotation b))
    → (s : Spelling) (t : Table) → Each Says s t → (p q : ℕ) → first_failing test p s ≡ silent → first_failing test q (preferred_spelling t) ≡ silent
all_pass test k s t none p q e = refl
all_pass test k s t (next {a = a} {b = b} {l = l} {m = m} r x) p q e =
    let h = passed (test a) (first_failing test _ l) p e in
    passes (test (shortened_annotation b)) (first_failing test _ (preferred_spelling m)) q (subst T (k a b r) h.0) (all_pass test k l m x _ _ h.1)

pub preferred_form : (e : Edition) (t : Table) {l : LineEdition} → SoundIn l e t → first_foreign e 0 (preferred_spelling t) ≡ silent
preferred_form e t s = all_pass (λ a. formed e a.ion) (λ a b. form_kept e) s.spelling t s.says 0 0 s.form

pub preferred_rules : (e : Edition) (t : Table) {l : LineEdition} → SoundIn l e t → first_breach e 0 (preferred_spelling t) ≡ silent
preferred_rules e t s = all_pass (annotation_rules e) (λ a b. rules_kept e) s.spelling t s.says 0 0 s.rules

-- ---- the sum of the confidences, which are the same one by one

sum_each : {s : Spelling} {t : Table} → Each Says s t → (m n p q : ℕ) → m ≡ n
    → first_excess m p s ≡ silent → first_excess n q (preferred_spelling t) ≡ silent
sum_each none m n p q i e = refl
sum_each (next {a = a} {b = b} {l = s} {m = t} r x) m n p q i e =
    let sum : m + share a ≡ n + share (shortened_annotation b)
    = ap₂ (λ (y z : ℕ). y + z) i (ap confidence_of (r.fields.confidence ∙ sym (confidence_back b.confidence))) in
    let h = passed (leb (m + share a) one) (first_excess _ _ s) p e in
    passes (leb (n + share (shortened_annotation b)) one) (first_excess _ _ (preferred_spelling t)) q
    (subst (λ (y : ℕ). T (leb y one)) sum h.0) (sum_each x _ _ _ _ sum h.1)

pub preferred_sum : {l : LineEdition} {e : Edition} (t : Table) → SoundIn l e t → first_excess 0 0 (preferred_spelling t) ≡ silent
preferred_sum t s = sum_each s.says 0 0 0 0 refl s.sum
