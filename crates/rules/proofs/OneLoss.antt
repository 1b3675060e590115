-- What is stored of losses and of adduct items tells them. Their units and names stand elsewhere, one after the other: the records
-- tell how many are whose, and so what stands after them. Assumes nothing.
use Prim.Native.Nat.{ℕ, ◌+◌}
use mathlib.Core.Path.{◌≡◌, refl, sym, ap, ap₂, ◌∙◌}
use mathlib.Core.List.{List, [], ◌∷◌, ◌++◌, map, append_assoc, head-eq_of_cons-eq, tail-eq_of_cons-eq, nil≢cons, cons≢nil}
use native.Mathlib.Omega.{arith}
use lib.ListN.{length}
use Rattle.lang.specs.Parts.{items, flat}
use Rattle.lang.proofs.Means.{such_path}
use Rattle.rules.specs.Numbers.{Number}
use Rattle.rules.specs.Formulas.{FormulaUnit}
use Rattle.rules.specs.Losses.{Lost, lost_formula, lost_name_lem, Loss}
use Rattle.rules.specs.Adducts.{Added, added_formula, electron, Item}
use Rattle.rules.specs.Stored.{lost_kind, lost_units, lost_name, loss_record, added_kind, added_units, item_record}
use Rattle.rules.proofs.Shortened.{from_path}
use Rattle.rules.proofs.Keys.{sign_one, count_one}
use Rattle.rules.proofs.Cuts.{cut}
use Rattle.rules.proofs.OnePart.{value_at, some_one}

-- behind the first of a row stands the rest of the row, and then what follows the row
along : {A B : Type 0} (f : A → List B) (x y : A) (xs ys : List A) (us vs : List B)
    → flat f (x ∷ xs) ++ us ≡ flat f (y ∷ ys) ++ vs → f x ++ (flat f xs ++ us) ≡ f y ++ (flat f ys ++ vs)
along f x y xs ys us vs e = sym (append_assoc (f x) (flat f xs) us) ∙ e ∙ append_assoc (f y) (flat f ys) vs

-- ---- losses

lost_one : (x y : Lost Number) (us vs : List (FormulaUnit Number)) (ws zs : List ℕ) → lost_kind x ≡ lost_kind y
    → length (lost_units x) + length (lost_name x) ≡ length (lost_units y) + length (lost_name y)
    → lost_units x ++ us ≡ lost_units y ++ vs → lost_name x ++ ws ≡ lost_name y ++ zs → (x ≡ y) × (us ≡ vs) × (ws ≡ zs)
lost_one (lost_formula f) (lost_formula g) us vs ws zs k n e d =
    let c = cut (items f) (items g) (omega arith) e in
    (ap lost_formula (some_one f g c.0), c.1, d)
lost_one (lost_formula f) (lost_name_lem m) us vs ws zs k n e d = absurd (omega arith)
lost_one (lost_name_lem l) (lost_formula g) us vs ws zs k n e d = absurd (omega arith)
lost_one (lost_name_lem l) (lost_name_lem m) us vs ws zs k n e d =
    let c = cut l.bytes m.bytes (omega arith) d in
    (ap lost_name_lem (such_path l m c.0), e, c.1)

pub losses_one : (ls ms : List (Loss Number)) (us vs : List (FormulaUnit Number)) (ws zs : List ℕ) → map loss_record ls ≡ map loss_record ms
    → flat (λ l. lost_units l.what) ls ++ us ≡ flat (λ l. lost_units l.what) ms ++ vs
    → flat (λ l. lost_name l.what) ls ++ ws ≡ flat (λ l. lost_name l.what) ms ++ zs → (ls ≡ ms) × (us ≡ vs) × (ws ≡ zs)
losses_one [] [] us vs ws zs r e d = (refl, e, d)
losses_one [] (m ∷ ms) us vs ws zs r e d = absurd (nil≢cons r)
losses_one (l ∷ ls) [] us vs ws zs r e d = absurd (cons≢nil r)
losses_one (l ∷ ls) (m ∷ ms) us vs ws zs r e d =
    let f = head-eq_of_cons-eq r in
    let du = along (λ l. lost_units l.what) l m ls ms us vs e in
    let dn = along (λ l. lost_name l.what) l m ls ms ws zs d in
    let x = lost_one l.what m.what _ _ _ _ (ap (value_at 1) f) (ap (value_at 3) f) du dn in
    let more = losses_one ls ms us vs ws zs (tail-eq_of_cons-eq r) x.1 x.2 in
    let one : l ≡ m = λ i. record {
      sign = sign_one l.sign m.sign (ap (value_at 0) f) i;
      count = count_one l.count m.count (ap (value_at 2) f) i;
      what = x.0 i;
    } in
    (ap₂ ◌∷◌ one more.0, more.1, more.2)

-- ---- adduct items

added_one : (x y : Added Number) (us vs : List (FormulaUnit Number)) → added_kind x ≡ added_kind y → length (added_units x) ≡ length (added_units y)
    → added_units x ++ us ≡ added_units y ++ vs → (x ≡ y) × (us ≡ vs)
added_one (added_formula f) (added_formula g) us vs k n e = let c = cut (items f) (items g) n e in (ap added_formula (some_one f g c.0), c.1)
added_one (added_formula f) electron us vs k n e = absurd (omega arith)
added_one electron (added_formula g) us vs k n e = absurd (omega arith)
added_one electron electron us vs k n e = (refl, e)

pub items_one : (xs ys : List (Item Number)) (us vs : List (FormulaUnit Number)) → map item_record xs ≡ map item_record ys
    → flat (λ x. added_units x.what) xs ++ us ≡ flat (λ x. added_units x.what) ys ++ vs → (xs ≡ ys) × (us ≡ vs)
items_one [] [] us vs r e = (refl, e)
items_one [] (y ∷ ys) us vs r e = absurd (nil≢cons r)
items_one (x ∷ xs) [] us vs r e = absurd (cons≢nil r)
items_one (x ∷ xs) (y ∷ ys) us vs r e =
    let f = head-eq_of_cons-eq r in
    let a = added_one x.what y.what _ _ (ap (value_at 1) f) (ap (value_at 3) f) (along (λ x. added_units x.what) x y xs ys us vs e) in
    let more = items_one xs ys us vs (tail-eq_of_cons-eq r) a.1 in
    let one : x ≡ y = λ i. record {
      sign = sign_one x.sign y.sign (ap (value_at 0) f) i;
      count = from_path x.count y.count (ap (value_at 2) f) i;
      what = a.0 i;
    } in
    (ap₂ ◌∷◌ one more.0, more.1)
