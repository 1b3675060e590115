-- Two answers that meet a contract of this crate are equal. Assumes nothing.
use Prim.Native.Nat.{ℕ}
use mathlib.Core.Path.{◌≡◌, refl, sym, ◌∙◌}
use mathlib.Core.Bool.{Bool, true, false}
use mathlib.Core.List.{List, [], ◌∷◌}
use Rattle.sort_slots.specs.Steps.{TextsBefore}

-- some lists are told apart as `same` says, so what is compared behind the texts is not left open
pub texts_before_one : {a b : List ℕ} {same r q : Bool} → TextsBefore a b same r → TextsBefore a b same q → r ≡ q
texts_before_one {same = true} t w = t.is [] [] refl ∙ sym (w.is [] [] refl)
texts_before_one {same = false} t w = t.is (1 ∷ []) (0 ∷ []) refl ∙ sym (w.is (1 ∷ []) (0 ∷ []) refl)
