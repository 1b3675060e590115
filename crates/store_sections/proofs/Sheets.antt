-- Stores at places one behind the other, with room between them: what comes first does not matter. Assumes nothing.
use Prim.Native.Nat.{ℕ, zero, suc, ◌+◌, ◌≤◌, ◌<◌, min}
use mathlib.Core.Path.{◌≡◌, refl, ap, ◌∙◌, subst}
use mathlib.Core.List.{List, [], ◌∷◌, ◌++◌}
use native.Mathlib.Omega.{arith}
use lib.ListN.{length, get_or, set, length-append}
use lib.Seq.{sets, set_out, set_comm, length-sets}
use Rattle.put_bytes.specs.Puts.{max_place}
use Rattle.store_sections.specs.Pages.{joined, begins, stops}
use Rattle.store_sections.proofs.Events.{sets_join}

-- ---- two stores

set_first : (m d : List ℕ) (p b q : ℕ) → p < q → set (sets d q m) p b ≡ sets (set d p b) q m
set_first [] d p b q h = refl
set_first (a ∷ m) d p b q h =
    let n : q ≡ p → ⊥ = omega arith in
    set_first m (set d q a) p b (suc q) (omega arith) ∙ ap (λ (x : List ℕ). sets x (suc q) m) (set_comm d q p a b n)

pub sets_swap : (l d : List ℕ) (p q : ℕ) (m : List ℕ) → p + length l ≤ q → sets (sets d q m) p l ≡ sets (sets d p l) q m
sets_swap [] d p q m h = refl
sets_swap (b ∷ l) d p q m h =
    ap (λ (x : List ℕ). sets x (suc p) l) (set_first m d p b q (omega arith)) ∙ sets_swap l (set d p b) (suc p) q m (omega arith)

sets_behind : (l d : List ℕ) (p : ℕ) → length d ≤ p → sets d p l ≡ d
sets_behind [] d p h = refl
sets_behind (b ∷ l) d p h = ap (λ (x : List ℕ). sets x (suc p) l) (set_out d p b h) ∙ sets_behind l d (suc p) (omega arith)

-- ---- a store at each of several places

abbrev pub inked : List ℕ → List ℕ → List (List ℕ) → List ℕ
inked d [] ls = d
inked d (p ∷ ps) [] = d
inked d (p ∷ ps) (l ∷ ls) = inked (sets d p l) ps ls

-- each place is where the bytes before it end, or behind that; none is past the largest
abbrev pub Apart : ℕ → List ℕ → List (List ℕ) → Type 0
Apart b [] [] = b ≤ max_place
Apart b [] (l ∷ ls) = ⊥
Apart b (p ∷ ps) [] = ⊥
Apart b (p ∷ ps) (l ∷ ls) = (b ≤ p) × Apart (p + length l) ps ls

-- bytes that come before those of place j
abbrev pub given : ℕ → List ℕ → List (List ℕ) → List (List ℕ)
given j m [] = []
given zero m (l ∷ ls) = (m ++ l) ∷ ls
given (suc j) m (l ∷ ls) = l ∷ given j m ls

-- place j, behind m bytes
abbrev pub shifted : ℕ → List ℕ → List ℕ → List ℕ
shifted j m ps = set ps j (min (get_or ps j max_place + length m) max_place)

apart_end : (b : ℕ) (ps : List ℕ) (ls : List (List ℕ)) → Apart b ps ls → b ≤ max_place
apart_end b [] [] h = h
apart_end b [] (l ∷ ls) h = absurd h
apart_end b (p ∷ ps) [] h = absurd h
apart_end b (p ∷ ps) (l ∷ ls) h = omega (arith, apart_end (p + length l) ps ls h.1)

apart_at : (j b : ℕ) (ps : List ℕ) (ls : List (List ℕ)) → Apart b ps ls → b ≤ get_or ps j max_place
apart_at j b [] [] h = h
apart_at j b [] (l ∷ ls) h = absurd h
apart_at j b (p ∷ ps) [] h = absurd h
apart_at zero b (p ∷ ps) (l ∷ ls) h = h.0
apart_at (suc j) b (p ∷ ps) (l ∷ ls) h = omega (arith, apart_at j (p + length l) ps ls h.1)

pub apart_shift : (j b : ℕ) (m ps : List ℕ) (ls : List (List ℕ)) → Apart b ps (given j m ls) → Apart b (shifted j m ps) ls
apart_shift j b m [] [] h = h
apart_shift zero b m [] (l ∷ ls) h = absurd h
apart_shift (suc j) b m [] (l ∷ ls) h = absurd h
apart_shift j b m (p ∷ ps) [] h = absurd h
apart_shift zero b m (p ∷ ps) (l ∷ ls) h =
    let g : p + length (m ++ l) ≤ max_place = apart_end (p + length (m ++ l)) ps ls h.1 in
    let e : p + length (m ++ l) ≡ min (p + length m) max_place + length l = omega (arith, length-append m l) in
    let f : b ≤ min (p + length m) max_place = omega (arith, h.0, length-append m l) in
    (f, subst (λ (n : ℕ). Apart n ps ls) e h.1)
apart_shift (suc j) b m (p ∷ ps) (l ∷ ls) h = (h.0, apart_shift j (p + length l) m ps ls h.1)

-- bytes stored at place j first are the first of those stored there
pub put_page : (j b : ℕ) (m ps : List ℕ) (ls : List (List ℕ)) (d : List ℕ) → length d ≤ max_place → Apart b ps (given j m ls)
    → inked (sets d (get_or ps j max_place) m) (shifted j m ps) ls ≡ inked d ps (given j m ls)
put_page j b m [] [] d s h = sets_behind m d max_place s
put_page zero b m [] (l ∷ ls) d s h = absurd h
put_page (suc j) b m [] (l ∷ ls) d s h = absurd h
put_page j b m (p ∷ ps) [] d s h = absurd h
put_page zero b m (p ∷ ps) (l ∷ ls) d s h = ap (λ (x : List ℕ). inked x ps ls) (sets_join d p m l s)
put_page (suc j) b m (p ∷ ps) (l ∷ ls) d s h =
    let q = get_or ps j max_place in
    let g : p + length l ≤ q = apart_at j (p + length l) ps (given j m ls) h.1 in
    let z : length (sets d p l) ≤ max_place = omega (arith, length-sets d p l) in
    ap (λ (x : List ℕ). inked x (shifted j m ps) ls) (sets_swap l d p q m g) ∙ put_page j (p + length l) m ps ls (sets d p l) z h.1

-- where the bytes of each place end
abbrev pub reached : List ℕ → List (List ℕ) → List ℕ
reached [] ls = []
reached (p ∷ ps) [] = p ∷ ps
reached (p ∷ ps) (l ∷ ls) = (p + length l) ∷ reached ps ls

pub shift_reached : (j b : ℕ) (m ps : List ℕ) (ls : List (List ℕ)) → Apart b ps (given j m ls) → reached (shifted j m ps) ls ≡ reached ps (given j m ls)
shift_reached j b m [] [] h = refl
shift_reached zero b m [] (l ∷ ls) h = absurd h
shift_reached (suc j) b m [] (l ∷ ls) h = absurd h
shift_reached j b m (p ∷ ps) [] h = absurd h
shift_reached zero b m (p ∷ ps) (l ∷ ls) h =
    let g : p + length (m ++ l) ≤ max_place = apart_end (p + length (m ++ l)) ps ls h.1 in
    let e : min (p + length m) max_place + length l ≡ p + length (m ++ l) = omega (arith, length-append m l) in
    ap (λ (n : ℕ). n ∷ reached ps ls) e
shift_reached (suc j) b m (p ∷ ps) (l ∷ ls) h = ap (λ (x : List ℕ). (p + length l) ∷ x) (shift_reached j (p + length l) m ps ls h.1)

-- ---- with no room between them

pub begins_apart : (b : ℕ) (ls : List (List ℕ)) → b + length (joined ls) ≤ max_place → Apart b (begins b ls) ls
begins_apart b [] h = omega arith
begins_apart b (l ∷ ls) h = (omega arith, begins_apart (b + length l) ls (omega (arith, length-append l (joined ls))))

pub begins_inked : (b : ℕ) (ls : List (List ℕ)) (d : List ℕ) → length d ≤ max_place → b + length (joined ls) ≤ max_place
    → inked d (begins b ls) ls ≡ sets d b (joined ls)
begins_inked b [] d s h = refl
begins_inked b (l ∷ ls) d s h =
    let z : length (sets d b l) ≤ max_place = omega (arith, length-sets d b l) in
    let g : b + length l + length (joined ls) ≤ max_place = omega (arith, length-append l (joined ls)) in
    let e : b + length l ≡ min (b + length l) max_place = omega arith in
    begins_inked (b + length l) ls (sets d b l) z g ∙ ap (λ (n : ℕ). sets (sets d b l) n (joined ls)) e ∙ sets_join d b l (joined ls) s

pub begins_reached : (b : ℕ) (ls : List (List ℕ)) → reached (begins b ls) ls ≡ stops b ls
begins_reached b [] = refl
begins_reached b (l ∷ ls) = ap (λ (x : List ℕ). (b + length l) ∷ x) (begins_reached (b + length l) ls)
