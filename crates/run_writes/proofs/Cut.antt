-- What is put at the front of a list, as far as it fits. Assumes nothing.
use Prim.Native.Nat.{ℕ, zero, suc, ◌+◌, ◌<◌, ◌≤◌, min}
use mathlib.Core.Path.{◌≡◌, refl, sym, ap, ◌∙◌}
use mathlib.Core.List.{List, [], ◌∷◌}
use native.Mathlib.Omega.{arith}
use native.Mathlib.Decide.{dec_le}
use lib.ListN.{length, take, drop, set, length-take, length-set}
use lib.Seq.{sets, sets-eq, set_out, length-sets, take_all, take_at}
use Rattle.put_bytes.specs.Puts.{Put, max_place}
use Rattle.put_bytes.proofs.Putting.{put_over}

-- what does not fit changes nothing
sets_cut : (d l : List ℕ) (i k : ℕ) → length d ≤ i + k → sets d i l ≡ sets d i (take k l)
sets_cut d [] i zero h = refl
sets_cut d [] i (suc k) h = refl
sets_cut d (b ∷ l) i zero h = sets_cut (set d i b) l (suc i) zero (omega (arith, length-set d i b)) ∙ set_out d i b (omega arith)
sets_cut d (b ∷ l) i (suc k) h = sets_cut (set d i b) l (suc i) k (omega (arith, length-set d i b))

-- a text that fits stands in front; one that just fits is all
front : (d m : List ℕ) (n : ℕ) → length d ≤ max_place → length m ≤ length d → length m ≤ n → (length m < length d → n ≡ length m) → Dec (length d ≤ length m)
    → take n (sets d 0 m) ≡ m
front d m n small h g e (no x) = ap (take n) (sets-eq m d 0 (omega arith)) ∙ take_at m (drop (0 + length m) d) n (sym (e (omega arith)))
front d m n small h g e (yes x) =
    take_all n (sets d 0 m) (omega (arith, length-sets d 0 m))
    ∙ put_over {d = d} {l = m} {e = sets d 0 m} {r = min (0 + length m) max_place} (record { small = small; next = refl; made = refl }) (omega arith)

-- as many bytes from the front as were put
pub put_front : {d l e p : List ℕ} {n : ℕ} → Put d 0 l e n → p ≡ take n e → p ≡ take (length d) l
put_front {d} {l} {e} {p} {n} q h =
    let m = take (length d) l in
    let k = length-take (length d) l in
    h ∙ ap (take n) (q.made ∙ sets_cut d l 0 (length d) (omega arith))
    ∙ front d m n q.small (omega (arith, k)) (omega (arith, k, q.next, q.small)) (λ x. omega (arith, k, x, q.next, q.small)) (dec_le (length d) (length m))
