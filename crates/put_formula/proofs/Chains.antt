-- What spelled things in a row give. Assumes nothing.
use Prim.Native.Nat.{ℕ}
use mathlib.Core.Path.{◌≡◌, refl, ap, ap₂, ◌∙◌}
use mathlib.Core.List.{List, [], ◌∷◌, ◌++◌, append_assoc, map}
use lib.ListN.{length, drop}
use lib.Seq.{drop-append_seam}
use Rattle.lang.specs.Parts.{flat}
use Rattle.put_formula.specs.Chains.{chain}

-- each member has the property
pub data AllOf {A : Type 0} (P : A → Type 0) : List A → Type 0 where
  all_none : AllOf P []
  all_more : {x : A} {xs : List A} → P x → AllOf P xs → AllOf P (x ∷ xs)

-- each is told by what it gives and by its size, whatever of them and of the end follows it
module _ {X : Type 0} (give : List ℕ → List ℕ) (size : List ℕ → ℕ) (text g : X → List ℕ) (Good : X → Type 0) (Ends : List ℕ → Type 0)
    (gives : (x : X) (xs : List X) (k : List ℕ) → Good x → Ends k → give (text x ++ (flat text xs ++ k)) ≡ g x)
    (long : (x : X) (xs : List X) (k : List ℕ) → Good x → Ends k → size (text x ++ (flat text xs ++ k)) ≡ length (text x)) where
  pub chain_spelled : (xs : List X) (k : List ℕ) → AllOf Good xs → Ends k → chain give size (length xs) (flat text xs ++ k) ≡ flat g xs
  unfolding chain
  chain_spelled [] k a e = refl
  chain_spelled (x ∷ xs) k (all_more p a) e =
      let s = text x ++ (flat text xs ++ k) in
      ap (chain give size (length (x ∷ xs))) (append_assoc (text x) (flat text xs) k)
      ∙ ap (λ (n : ℕ). give s ++ chain give size (length xs) (drop n s)) (long x xs k p e)
      ∙ ap (λ (z : List ℕ). give s ++ chain give size (length xs) z) (drop-append_seam (text x) (flat text xs ++ k))
      ∙ ap₂ (λ (a b : List ℕ). a ++ b) (gives x xs k p e) (chain_spelled xs k a e)

pub flat_map : {X Y Z : Type 0} (f : Y → List Z) (g : X → Y) (xs : List X) → flat (λ x. f (g x)) xs ≡ flat f (map g xs)
flat_map f g [] = refl
flat_map f g (x ∷ xs) = ap (λ l. f (g x) ++ l) (flat_map f g xs)
