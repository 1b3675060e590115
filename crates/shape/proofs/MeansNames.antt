-- Texts and names are what the grammar says: bytes of a class, or bytes in which brackets pair up, with a say in the first of them. Assumes nothing.
use Prim.Native.Nat.{ℕ}
use mathlib.Core.Path.{◌≡◌, refl, sym, ap, ap₂, subst}
use mathlib.Core.Bool.{Bool, true, false, not, ◌&&◌, ◌||◌}
use mathlib.Core.List.{List, [], ◌∷◌, ◌++◌}
use mathlib.Core.Logic.{◌⊎◌, inl, inr}
use lib.Dec.{T, T_not, not_T, eqb, eqb→eq}
use Rattle.lang.specs.Re.{Rng, in_c, paired, Re, Tree, text, either}
use Rattle.lang.specs.Parts.{all}
use Rattle.lang.proofs.Deriv.{and_0, and_1, and_i, or_e, or_l, or_r, plain_in}
use Rattle.lang.proofs.Lits.{one_eq}
use Rattle.lang.proofs.Means.{Means, opt_re, means_such, means_pair, means_as, means_word}
use Rattle.lang.proofs.Names.{head_re, head_enc, head_dec, cover}
use Rattle.lang.proofs.NestedNames.{nested_re, first_byte, nested_enc, nested_dec}
use Rattle.rules.specs.Bytes.{bytes, letter, text_byte, name_byte}
use Rattle.rules.specs.Texts.{some_of, starts_with, name_brackets, is_text, is_name, is_loss_name, is_modification, Text, Name, LossName, Modification}
use Rattle.shape.proofs.Grammar.{text_re, name_re, loss_name_re, not_m, not_sign, modification_re, closed_re, braces_re, brackets_re}

-- l has a tree; a tree has an l that passes the test
abbrev Has : Re → List ℕ → Type 0
Has r l = (t : Tree r) × ((k : List ℕ) → text r t k ≡ l ++ k)

abbrev Gives : (List ℕ → Bool) → (r : Re) → Tree r → Type 0
Gives f r t = (l : List ℕ) × T (f l) × ((k : List ℕ) → text r t k ≡ l ++ k)

-- ---- one or more bytes of a class

some_enc : (c : List Rng) (l : List ℕ) → T (some_of c l) → Has (head_re c c) l
some_enc c [] g = absurd g
some_enc c (b ∷ w) g = head_enc c c b w (and_0 (in_c c b) (all c w) g) (and_1 (in_c c b) (all c w) g)

some_dec : (c : List Rng) (t : Tree (head_re c c)) → Gives (some_of c) (head_re c c) t
some_dec c t = let x = head_dec c c (λ b p. p) t in (x.0 ∷ x.1, x.2, x.4)

pub means_text : Means Text (λ x. x.bytes) text_re
means_text = means_such is_text text_re (some_enc text_byte) (some_dec text_byte)

-- ---- brackets that pair up

abbrev pairs : List ℕ → Bool
pairs w = paired name_brackets w 0

name_enc : (l : List ℕ) → T (is_name l) → Has name_re l
name_enc [] g = absurd g
name_enc (b ∷ w) g = nested_enc name_brackets name_byte b w (λ p. p) g

name_dec : (t : Tree name_re) → Gives is_name name_re t
name_dec t = let x = nested_dec name_brackets name_byte (λ b p. p) t in (x.0 ∷ x.1, x.2, x.4)

pub means_name : Means Name (λ x. x.bytes) name_re
means_name = means_such is_name name_re name_enc name_dec

-- ---- a letter first, which opens no bracket

loss_enc : (l : List ℕ) → T (is_loss_name l) → Has loss_name_re l
loss_enc [] g = absurd g
loss_enc (b ∷ w) g =
    let h = and_1 (pairs (b ∷ w)) (in_c letter b) g in
    either
    (λ y. ((record { val = b; is_in = h }, record { bytes = w; pair = y.1 }), λ k. refl))
    (λ y. absurd (T_not (in_c name_brackets.opens b) (cover letter (λ z. not (in_c name_brackets.opens z)) tt tt b h) y.0))
    (first_byte name_brackets b w (and_0 (pairs (b ∷ w)) (in_c letter b) g))

loss_dec : (t : Tree loss_name_re) → Gives is_loss_name loss_name_re t
loss_dec t =
    let b = t.0.val in
    let w = t.1.bytes in
    (b ∷ w, and_i (pairs (b ∷ w)) (in_c letter b) (plain_in name_brackets b w 0 (cover letter (in_c name_byte) tt tt b t.0.is_in) t.1.pair) t.0.is_in, λ k. refl)

pub means_loss_name : Means LossName (λ x. x.bytes) loss_name_re
means_loss_name = means_such is_loss_name loss_name_re loss_enc loss_dec

-- ---- neither M+ nor M- first

abbrev plus_or_minus : List ℕ → Bool
plus_or_minus w = starts_with (bytes "+") w || starts_with (bytes "-") w

abbrev after_m : Re
after_m = opt_re (nested_re name_brackets not_sign)

-- a byte of a name that is no sign
no_sign : (a : ℕ) (v : List ℕ) → T (in_c name_byte a) → T (not (plus_or_minus (a ∷ v))) → T (in_c not_sign a)
no_sign a v i n =
    either
    (λ s.
    absurd
    (T_not (plus_or_minus (a ∷ v)) n
    (either (λ p. or_l (eqb 43 a && true) (eqb 45 a && true) (and_i (eqb 43 a) true p tt)) (λ m. or_r (eqb 43 a && true) (eqb 45 a && true) (and_i (eqb 45 a) true m tt))
    (or_e (eqb 43 a) (eqb 45 a) s))))
    (λ y. y)
    (or_e (eqb 43 a || eqb 45 a) (in_c not_sign a) (cover name_byte (λ z. (eqb 43 z || eqb 45 z) || in_c not_sign z) tt tt a i))

after_enc : (w : List ℕ) → T (pairs w) → T (not (plus_or_minus w)) → Has after_m w
after_enc [] p n = (inl tt, λ k. refl)
after_enc (a ∷ v) p n = let x = nested_enc name_brackets not_sign a v (λ i. no_sign a v i n) p in (inr x.0, x.1)

-- after M: what begins with M+ or M- goes on with + or -
abbrev Adduct : ℕ → List ℕ → Bool
Adduct b w = (eqb 77 b && starts_with (bytes "+") w) || (eqb 77 b && starts_with (bytes "-") w)

begins-M : (m p q : Bool) → T ((m && p) || (m && q)) → T m × T (p || q)
begins-M true p q t = (tt, t)
begins-M false p q t = absurd t

after-M : (m p q : Bool) → T m → T (p || q) → T ((m && p) || (m && q))
after-M true p q s t = t
after-M false p q s t = absurd s

dec_t : (x : Bool) → T x ⊎ T (not x)
dec_t true = inl tt
dec_t false = inr tt

-- M opens no bracket, so that brackets pair up behind it
behind-M : (b : ℕ) (w : List ℕ) → T (eqb 77 b) → T (pairs (b ∷ w)) → T (pairs w)
behind-M b w m p =
    either (λ y. y.1) (λ y. absurd (subst (λ (z : ℕ). T (in_c name_brackets.opens z)) (sym (eqb→eq 77 b m)) y.0)) (first_byte name_brackets b w p)

modification_enc : (l : List ℕ) → T (is_modification l) → Has modification_re l
modification_enc [] g = absurd g
modification_enc (b ∷ w) g = by (dec_t (eqb 77 b))
  where
    p : T (pairs (b ∷ w))
    p = and_0 (pairs (b ∷ w)) (not (Adduct b w)) g

    n : T (Adduct b w) → ⊥
    n = T_not (Adduct b w) (and_1 (pairs (b ∷ w)) (not (Adduct b w)) g)

    by : T (eqb 77 b) ⊎ T (not (eqb 77 b)) → Has modification_re (b ∷ w)
    by (inl m) =
        let x = after_enc w (behind-M b w m p) (not_T (plus_or_minus w) (λ s. n (after-M (eqb 77 b) (starts_with (bytes "+") w) (starts_with (bytes "-") w) m s))) in
        (inr (record { val = 77; is_in = tt }, x.0), λ k. ap₂ ◌∷◌ (eqb→eq 77 b m) (x.1 k))
    by (inr m) =
        let no-M : T (in_c name_byte b) → T (in_c not_m b) = λ i. either (λ y. absurd (T_not (eqb 77 b) m y)) (λ y. y) (or_e (eqb 77 b) (in_c not_m b) (cover name_byte (λ z. eqb 77 z || in_c not_m z) tt tt b i)) in
        let x = nested_enc name_brackets not_m b w no-M p in
        (inl x.0, x.1)

-- neither a byte of not_m nor one that opens a bracket is M
first-no-M : (b : ℕ) → T (in_c not_m b) ⊎ T (in_c name_brackets.opens b) → T (not (eqb 77 b))
first-no-M b (inl i) = cover not_m (λ z. not (eqb 77 z)) tt tt b i
first-no-M b (inr i) = cover name_brackets.opens (λ z. not (eqb 77 z)) tt tt b i

-- nor is a byte of not_sign or one that opens a bracket a sign
first_no_sign : (a : ℕ) → T (in_c not_sign a) ⊎ T (in_c name_brackets.opens a) → T (not (eqb 43 a || eqb 45 a))
first_no_sign a (inl i) = cover not_sign (λ z. not (eqb 43 z || eqb 45 z)) tt tt a i
first_no_sign a (inr i) = cover name_brackets.opens (λ z. not (eqb 43 z || eqb 45 z)) tt tt a i

modification_dec : (t : Tree modification_re) → Gives is_modification modification_re t
modification_dec (inl t) =
    let x = nested_dec name_brackets not_m (cover not_m (in_c name_byte) tt tt) t in
    let b = x.0 in
    let w = x.1 in (
      b ∷ w,
      and_i (pairs (b ∷ w)) (not (Adduct b w)) x.2
          (not_T (Adduct b w) (λ a. T_not (eqb 77 b) (first-no-M b x.3) (begins-M (eqb 77 b) (starts_with (bytes "+") w) (starts_with (bytes "-") w) a).0)),
      x.4,
    )
modification_dec (inr (m, inl u)) = (77 ∷ [], tt, λ k. ap (λ (x : ℕ). x ∷ k) (one_eq 77 m.val m.is_in))
modification_dec (inr (m, inr t)) =
    let x = nested_dec name_brackets not_sign (cover not_sign (in_c name_byte) tt tt) t in
    let a = x.0 in (
      77 ∷ a ∷ x.1,
      and_i (pairs (77 ∷ a ∷ x.1)) (not (plus_or_minus (a ∷ x.1))) (plain_in name_brackets 77 (a ∷ x.1) 0 tt x.2)
          (not_T (plus_or_minus (a ∷ x.1))
          (λ s.
          T_not (eqb 43 a || eqb 45 a) (first_no_sign a x.3)
          (either (λ p. or_l (eqb 43 a) (eqb 45 a) (and_0 (eqb 43 a) true p)) (λ q. or_r (eqb 43 a) (eqb 45 a) (and_0 (eqb 45 a) true q)) (or_e (eqb 43 a && true) (eqb 45 a && true) s)))),
      λ k. ap₂ ◌∷◌ (one_eq 77 m.val m.is_in) (x.4 k),
    )

pub means_modification : Means Modification (λ x. x.bytes) modification_re
means_modification = means_such is_modification modification_re modification_enc modification_dec

-- ---- between an opening and a closing word

pub means_closed : (opening closing : List ℕ) {X : Type 0} {tx : X → List ℕ} {r : Re} → Means X tx r → Means X (λ x. opening ++ (tx x ++ closing)) (closed_re opening r closing)
means_closed opening closing m =
    means_as (means_pair (means_word opening) (means_pair m (means_word closing))) (λ x. (tt, (x, tt))) (λ p. p.1.0) (λ x. refl) (λ x. refl) (λ p. refl)

abbrev pub means_braces : {X : Type 0} {tx : X → List ℕ} {r : Re} → Means X tx r → Means X (λ x. bytes "{" ++ (tx x ++ bytes "}")) (braces_re r)
means_braces m = means_closed (bytes "{") (bytes "}") m

abbrev pub means_brackets : {X : Type 0} {tx : X → List ℕ} {r : Re} → Means X tx r → Means X (λ x. bytes "[" ++ (tx x ++ bytes "]")) (brackets_re r)
means_brackets m = means_closed (bytes "[") (bytes "]") m
