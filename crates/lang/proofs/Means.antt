-- A type X with its text, and a grammar: each x has a tree, and each tree an x, with the same text. Assumes nothing.
use Prim.Native.Nat.{ℕ, ◌<◌}
use mathlib.Core.Path.{◌≡◌, refl, sym, ap, ap₂, ◌∙◌}
use mathlib.Core.Bool.{Bool}
use mathlib.Core.List.{List, [], ◌∷◌, ◌++◌, append_assoc, append-nil}
use mathlib.Core.HLevel.{is_prop→PathP}
use lib.Dec.{T, T_prop, ltb, ltb→lt, lt→ltb}
use lib.ListN.{length}
use mathlib.Core.Logic.{◌⊎◌, inl, inr}
use Rattle.lang.specs.Re.{Rng, Brackets, Nested, Re, eps, cls, seq, alt, star, nest, Byte, Tree, texts, text, either}
use Rattle.lang.proofs.Lits.{lit_re, lit_tree, lit_text, lits_re, lits_tree, lits_text, lits_back}
use Rattle.lang.specs.Parts.{Opt, silent, written, opt_text, flat, Such, Listed, word_of}

pub record Means (X : Type 0) (tx : X → List ℕ) (r : Re) : Type 0 where
  pub enc : X → Tree r
  pub enc_text : (x : X) (k : List ℕ) → text r (enc x) k ≡ tx x ++ k
  pub dec : Tree r → X
  pub dec_text : (t : Tree r) (k : List ℕ) → text r t k ≡ tx (dec t) ++ k
  pub back : (x : X) → dec (enc x) ≡ x

abbrev pub opt_re : Re → Re
opt_re r = alt eps r

-- a byte of a class
abbrev pub means_byte : (c : List Rng) → Means (Byte c) (λ b. b.val ∷ []) (cls c)
means_byte c = record { enc = λ x. x; enc_text = λ x k. refl; dec = λ x. x; dec_text = λ x k. refl; back = λ x. refl }

-- brackets that pair up
abbrev pub means_nest : (B : Brackets) (d : ℕ) → Means (Nested B d) (λ n. n.bytes) (nest B d)
means_nest B d = record { enc = λ x. x; enc_text = λ x k. refl; dec = λ x. x; dec_text = λ x k. refl; back = λ x. refl }

module _ {X : Type 0} {tx : X → List ℕ} {r : Re} (m : Means X tx r) where
  abbrev pub many_enc : List X → List (Tree r)
  many_enc [] = []
  many_enc (x ∷ xs) = m.enc x ∷ many_enc xs

  abbrev pub many_dec : List (Tree r) → List X
  many_dec [] = []
  many_dec (x ∷ xs) = m.dec x ∷ many_dec xs

  pub many_enc_text : (xs : List X) (k : List ℕ) → texts (text r) (many_enc xs) k ≡ flat tx xs ++ k
  many_enc_text [] k = refl
  many_enc_text (x ∷ xs) k = m.enc_text x (texts (text r) (many_enc xs) k) ∙ ap (λ (l : List ℕ). tx x ++ l) (many_enc_text xs k) ∙ sym (append_assoc (tx x) (flat tx xs) k)

  pub many_dec_text : (ts : List (Tree r)) (k : List ℕ) → texts (text r) ts k ≡ flat tx (many_dec ts) ++ k
  many_dec_text [] k = refl
  many_dec_text (t ∷ ts) k = m.dec_text t (texts (text r) ts k) ∙ ap (λ (l : List ℕ). tx (m.dec t) ++ l) (many_dec_text ts k) ∙ sym (append_assoc (tx (m.dec t)) (flat tx (many_dec ts)) k)

  pub many_back : (xs : List X) → many_dec (many_enc xs) ≡ xs
  many_back [] = refl
  many_back (x ∷ xs) = ap₂ ◌∷◌ (m.back x) (many_back xs)

  abbrev pub means_many : Means (List X) (flat tx) (star r)
  means_many = record { enc = many_enc; enc_text = many_enc_text; dec = many_dec; dec_text = many_dec_text; back = many_back }

  abbrev pub opt_enc : Opt X → Tree (opt_re r)
  opt_enc silent = inl tt
  opt_enc (written x) = inr (m.enc x)

  abbrev pub opt_dec : Tree (opt_re r) → Opt X
  opt_dec (inl t) = silent
  opt_dec (inr t) = written (m.dec t)

  pub opt_enc_text : (x : Opt X) (k : List ℕ) → text (opt_re r) (opt_enc x) k ≡ opt_text tx x ++ k
  opt_enc_text silent k = refl
  opt_enc_text (written x) k = m.enc_text x k

  pub opt_dec_text : (t : Tree (opt_re r)) (k : List ℕ) → text (opt_re r) t k ≡ opt_text tx (opt_dec t) ++ k
  opt_dec_text (inl t) k = refl
  opt_dec_text (inr t) k = m.dec_text t k

  pub opt_back : (x : Opt X) → opt_dec (opt_enc x) ≡ x
  opt_back silent = refl
  opt_back (written x) = ap written (m.back x)

  abbrev pub means_opt : Means (Opt X) (opt_text tx) (opt_re r)
  means_opt = record { enc = opt_enc; enc_text = opt_enc_text; dec = opt_dec; dec_text = opt_dec_text; back = opt_back }

-- one of two
module _ {X Y : Type 0} {tx : X → List ℕ} {ty : Y → List ℕ} {r s : Re} (m : Means X tx r) (n : Means Y ty s) where
  abbrev pub alt_enc : X ⊎ Y → Tree (alt r s)
  alt_enc (inl x) = inl (m.enc x)
  alt_enc (inr y) = inr (n.enc y)

  abbrev pub alt_dec : Tree (alt r s) → X ⊎ Y
  alt_dec (inl t) = inl (m.dec t)
  alt_dec (inr t) = inr (n.dec t)

  pub alt_enc_text : (x : X ⊎ Y) (k : List ℕ) → text (alt r s) (alt_enc x) k ≡ either tx ty x ++ k
  alt_enc_text (inl x) k = m.enc_text x k
  alt_enc_text (inr y) k = n.enc_text y k

  pub alt_dec_text : (t : Tree (alt r s)) (k : List ℕ) → text (alt r s) t k ≡ either tx ty (alt_dec t) ++ k
  alt_dec_text (inl t) k = m.dec_text t k
  alt_dec_text (inr t) k = n.dec_text t k

  pub alt_back : (x : X ⊎ Y) → alt_dec (alt_enc x) ≡ x
  alt_back (inl x) = ap inl (m.back x)
  alt_back (inr y) = ap inr (n.back y)

  abbrev pub means_alt : Means (X ⊎ Y) (either tx ty) (alt r s)
  means_alt = record { enc = alt_enc; enc_text = alt_enc_text; dec = alt_dec; dec_text = alt_dec_text; back = alt_back }

-- where no two have the same text, it is enough that each has a tree with its text, and each tree the text of one
pub means_one : {X : Type 0} {tx : X → List ℕ} {r : Re} → ((x y : X) → tx x ≡ tx y → x ≡ y)
    → ((x : X) → (t : Tree r) × ((k : List ℕ) → text r t k ≡ tx x ++ k)) → ((t : Tree r) → (x : X) × ((k : List ℕ) → text r t k ≡ tx x ++ k)) → Means X tx r
means_one {tx = tx} one e d =
    record {
      enc = λ x. (e x).0;
      enc_text = λ x. (e x).1;
      dec = λ t. (d t).0;
      dec_text = λ t. (d t).1;
      back = λ x.
          let t = e x in
          let y = d t.0 in
          one y.0 x (sym (append-nil (tx y.0)) ∙ sym (y.1 []) ∙ t.1 [] ∙ append-nil (tx x));
    }

-- the lists that pass a test
pub such_path : {f : List ℕ → Bool} (x y : Such f) → x.bytes ≡ y.bytes → x ≡ y
such_path {f} x y p = λ i. record { bytes = p i; good = is_prop→PathP (λ j. T (f (p j))) (λ j. T_prop (f (p j))) x.good y.good i }

pub means_such : (f : List ℕ → Bool) (r : Re) → ((l : List ℕ) → T (f l) → (t : Tree r) × ((k : List ℕ) → text r t k ≡ l ++ k)) → ((t : Tree r) → (l : List ℕ) × T (f l) × ((k : List ℕ) → text r t k ≡ l ++ k)) → Means (Such f) (λ x. x.bytes) r
means_such f r e d = means_one such_path (λ x. e x.bytes x.good) (λ t. (record { bytes = (d t).0; good = (d t).1 }, (d t).2))

-- two in a row
module _ {X Y : Type 0} {tx : X → List ℕ} {ty : Y → List ℕ} {r s : Re} (m : Means X tx r) (n : Means Y ty s) where
  abbrev pub means_pair : Means (X × Y) (λ p. tx p.0 ++ ty p.1) (seq r s)
  means_pair =
      record {
        enc = λ p. (m.enc p.0, n.enc p.1);
        enc_text = λ p k. m.enc_text p.0 (text s (n.enc p.1) k) ∙ ap (λ (l : List ℕ). tx p.0 ++ l) (n.enc_text p.1 k) ∙ sym (append_assoc (tx p.0) (ty p.1) k);
        dec = λ t. (m.dec t.0, n.dec t.1);
        dec_text = λ t k. m.dec_text t.0 (text s t.1 k) ∙ ap (λ (l : List ℕ). tx (m.dec t.0) ++ l) (n.dec_text t.1 k) ∙ sym (append_assoc (tx (m.dec t.0)) (ty (n.dec t.1)) k);
        back = λ p i. (m.back p.0 i, n.back p.1 i);
      }

-- the same trees for a type that is X under another name: to and fro, with the same text
module _ {X Y : Type 0} {tx : X → List ℕ} {ty : Y → List ℕ} {r : Re} (m : Means X tx r) where
  abbrev pub means_as : (f : Y → X) (g : X → Y) → ((y : Y) → g (f y) ≡ y) → ((y : Y) → tx (f y) ≡ ty y) → ((x : X) → tx x ≡ ty (g x)) → Means Y ty r
  means_as f g gf tf tg =
      record {
        enc = λ y. m.enc (f y);
        enc_text = λ y k. m.enc_text (f y) k ∙ ap (λ (l : List ℕ). l ++ k) (tf y);
        dec = λ t. g (m.dec t);
        dec_text = λ t k. m.dec_text t k ∙ ap (λ (l : List ℕ). l ++ k) (tg (m.dec t));
        back = λ y. ap g (m.back (f y)) ∙ gf y;
      }

-- a word, which says nothing
abbrev pub means_word : (w : List ℕ) → Means (Unit {0}) (λ u. w) (lit_re w)
means_word w =
    record { enc = λ u. (lit_tree w).0; enc_text = λ u. (lit_tree w).1; dec = λ t. tt; dec_text = λ t. lit_text w t; back = λ u. refl }

-- one of the words of a list
pub listed_path : {ws : List (List ℕ)} (x y : Listed ws) → x.which ≡ y.which → x ≡ y
listed_path {ws} x y p =
    λ i. record { which = p i; known = is_prop→PathP (λ j. T (ltb (p j) (length ws))) (λ j. T_prop (ltb (p j) (length ws))) x.known y.known i }

pub means_listed : (ws : List (List ℕ)) → Means (Listed ws) word_of (lits_re ws)
means_listed ws =
    record {
      enc = λ x. (lits_tree ws x.which (small x)).0;
      enc_text = λ x. (lits_tree ws x.which (small x)).1;
      dec = λ t. found t;
      dec_text = λ t. (lits_text ws t).2;
      back = λ x. listed_path (found (lits_tree ws x.which (small x)).0) x (lits_back ws x.which (small x));
    }
  where
    small : (x : Listed ws) → x.which < length ws
    small x = ltb→lt x.which (length ws) x.known

    found : Tree (lits_re ws) → Listed ws
    found t = record { which = (lits_text ws t).0; known = lt→ltb (lits_text ws t).0 (length ws) (lits_text ws t).1 }
