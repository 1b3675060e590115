-- Each of a list is carried to the place of the next, and the last to the first place. Assumes nothing.
use Prim.Native.Nat.{ℕ, suc, ◌+◌, ◌-◌, ◌≤◌, ◌<◌}
use mathlib.Core.Path.{◌≡◌, refl, sym, ap, ap₂, ◌∙◌}
use mathlib.Core.List.{List, [], ◌∷◌, ◌++◌}
use native.Mathlib.Omega.{arith}
use native.Mathlib.Nat.{add-zero}
use native.Mathlib.Numerals.{add-one}
use lib.ListN.{length, get_or, take, drop, set, drop_of_length-le}
use lib.Seq.{take-suc, take-suc-set, drop-set-lt, drop-drop, take-length, get_or-drop}
use Rattle.std.proofs.Common.{length-set}
use Rattle.std.proofs.lemmas.List.{drop_more}

-- of `old`, i are carried on, and the next one is carried; `now` is what stands
pub record Carrying {A : Type 0} (last : A) (old now : List A) (i : ℕ) (carried : A) : Type 0 where
  pub same : length now ≡ length old
  pub front : take i now ≡ take i (last ∷ old)
  pub behind : drop i now ≡ drop i old
  pub held : drop i (last ∷ old) ≡ carried ∷ drop i old

module _ {A : Type 0} {last : A} {old : List A} where
  pub begin : Carrying last old old 0 last
  begin = record { same = refl; front = refl; behind = refl; held = refl }

  -- one more
  pub carry : {now : List A} {i : ℕ} {carried x next : A} (d : A) → Carrying last old now i carried → i < length now → x ≡ carried → next ≡ get_or now i d
      → Carrying last old (set now i x) (i + 1) next
  carry {now} {i} {carried} {x} {next} d c h put e =
      let all = last ∷ old in
      let there : x ≡ get_or all i last =
      put ∙ sym (ap (λ (s : List A). get_or s 0 last) c.held) ∙ get_or-drop i all 0 last ∙ ap (λ (n : ℕ). get_or all n last) (add-zero i)
      in
      let left : drop (i + 1) now ≡ drop (i + 1) old = sym (drop-drop 1 i now) ∙ ap (drop 1) c.behind ∙ drop-drop 1 i old in
      record {
        same = length-set now i x ∙ c.same;
        front =
            ap (λ (n : ℕ). take n (set now i x)) (add-one i) ∙ take-suc-set now i x h
            ∙ ap₂ (λ (s : List A) (a : A). s ++ (a ∷ [])) c.front there
            ∙ sym (take-suc all i last (omega (arith, c.same))) ∙ ap (λ (n : ℕ). take n all) (sym (add-one i));
        behind = drop-set-lt (i + 1) now i x (omega arith) ∙ left;
        held =
            ap (λ (n : ℕ). drop n all) (add-one i) ∙ sym c.behind ∙ drop_more now i d h
            ∙ ap₂ (λ (a : A) (s : List A). a ∷ s) (sym e) left;
      }

-- where all are carried: the list rotated by one
pub rotated : {A : Type 0} {last : A} {old now : List A} {i : ℕ} {carried : A} (d : A) → Carrying last old now i carried → i ≡ length now → 1 ≤ length old
    → last ≡ get_or old (length old - 1) d → now ≡ drop (length old - 1) old ++ take (length old - 1) old
rotated {A} {last} {old} {now} {i} d c e h g =
    let n = length old - 1 in
    let more : i ≡ suc n = omega (arith, c.same) in
    let only : drop n old ≡ last ∷ [] =
    drop_more old n d (omega arith) ∙ ap₂ (λ (a : A) (s : List A). a ∷ s) (sym g) (drop_of_length-le old {i = n + 1} (omega arith))
    in
    sym (take-length now) ∙ ap (λ (k : ℕ). take k now) (sym e) ∙ c.front ∙ ap (λ (k : ℕ). take k (last ∷ old)) more
    ∙ ap (λ (s : List A). s ++ take n old) (sym only)
