-- The head of a stored row, read again: bytes begin with a head within its bounds exactly where that is found. Assumes nothing.
use Prim.Native.Nat.{ℕ, suc, ◌+◌, ◌*◌, ◌/◌, ◌%◌, ◌^◌, ◌≤◌, ◌<◌}
use mathlib.Core.Path.{◌≡◌, refl, sym, ap, ap₂, ◌∙◌, subst}
use mathlib.Core.Bool.{Bool, true, false, cond}
use mathlib.Core.List.{List, [], ◌∷◌, ◌++◌}
use native.Mathlib.Omega.{arith}
use lib.Dec.{T, eqb, ltb}
use lib.ListN.{length, get_or, drop, length-append, length-drop, get_or-append}
use lib.Seq.{drop-cons, drop-drop, get_or-drop}
use borrow.Author.Tests.{ltb-false, le-ltb, eqb-true}
use Rattle.lang.proofs.Tests.{t_is}
use Rattle.rules.specs.Decimals as rules
use Rattle.rules.specs.Limits.{fits}
use Rattle.rules.specs.Stored.{little, stores}
use Rattle.rules.specs.Rows.{row_head_size, row_head}
use Rattle.slices.specs.Numbers.{u16_at, u32_at, u64_at}
use Rattle.slices.proofs.StoredNumbers.{oct_stored}
use Rattle.numbers.specs.declared.Decimal.{Decimal}
use Rattle.std.specs.Prelude.{Result, Some, Ok, Err, is_some, is_ok}
use Rattle.std.proofs.lemmas.Bool.{false≢true}
use Rattle.numbers.specs.Making.{ruled, made_of}
use Rattle.numbers.proofs.Bounds.{fits_within}
use Rattle.write_row.specs.declared.Head.{Head}
use Rattle.write_row.specs.Writings.{is_head, mz_in, intensity_in, good_head, head_in, head_of}
use Rattle.read_row.proofs.Decimals.{kept, fits_made, both, made_some}

-- ---- eight bytes, as a number and back

abbrev pub Bytes : List ℕ → Type 0
Bytes s = (i : ℕ) → i < length s → get_or s i 0 < 256

pub bytes_drop : (s : List ℕ) (n : ℕ) → Bytes s → Bytes (drop n s)
bytes_drop s n y i h = subst (λ (b : ℕ). b < 256) (sym (get_or-drop n s i 0)) (y (n + i) (omega (arith, length-drop n s)))

little_cons : (n b r : ℕ) → b < 256 → little (suc n) (b + 256 * r) ≡ b ∷ little n r
little_cons n b r h =
    let p : (b + 256 * r) % 256 ≡ b = omega arith in
    let q : (b + 256 * r) / 256 ≡ r = omega arith in
    ap₂ (λ (x y : ℕ). x ∷ little n y) p q

-- the number of bytes, the lowest first
abbrev value_of : List ℕ → ℕ
value_of [] = 0
value_of (b ∷ w) = b + 256 * value_of w

little_back : (w : List ℕ) → Bytes w → little (length w) (value_of w) ≡ w
little_back [] y = refl
little_back (b ∷ w) y =
    little_cons (length w) b (value_of w) (y 0 (omega arith)) ∙ ap (λ (l : List ℕ). b ∷ l) (little_back w (λ i h. y (suc i) (omega arith)))

oct_value : (a b c d e f g h : ℕ) (k : List ℕ)
    → u64_at (a ∷ b ∷ c ∷ d ∷ e ∷ f ∷ g ∷ h ∷ k) ≡ value_of (a ∷ b ∷ c ∷ d ∷ e ∷ f ∷ g ∷ h ∷ [])
unfolding u64_at u32_at u16_at
oct_value a b c d e f g h k = omega arith

pub oct_back : (s : List ℕ) → Bytes s → 8 ≤ length s → little 8 (u64_at s) ++ drop 8 s ≡ s
oct_back [] y n = absurd (omega arith)
oct_back (a ∷ []) y n = absurd (omega arith)
oct_back (a ∷ b ∷ []) y n = absurd (omega arith)
oct_back (a ∷ b ∷ c ∷ []) y n = absurd (omega arith)
oct_back (a ∷ b ∷ c ∷ d ∷ []) y n = absurd (omega arith)
oct_back (a ∷ b ∷ c ∷ d ∷ e ∷ []) y n = absurd (omega arith)
oct_back (a ∷ b ∷ c ∷ d ∷ e ∷ f ∷ []) y n = absurd (omega arith)
oct_back (a ∷ b ∷ c ∷ d ∷ e ∷ f ∷ g ∷ []) y n = absurd (omega arith)
oct_back (a ∷ b ∷ c ∷ d ∷ e ∷ f ∷ g ∷ h ∷ k) y n =
    let w = a ∷ b ∷ c ∷ d ∷ e ∷ f ∷ g ∷ h ∷ [] in
    let z : Bytes w = bytes_front w k y in
    ap (λ (v : ℕ). little 8 v ++ k) (oct_value a b c d e f g h k) ∙ ap (λ (x : List ℕ). x ++ k) (little_back w z)
  where
    bytes_front : (w k : List ℕ) → Bytes (w ++ k) → Bytes w
    bytes_front w k y i h = subst (λ (b : ℕ). b < 256) (get_or-append w k 0 i h) (y i (omega (arith, length-append w k)))

-- ---- the last four bytes of a head

one_byte : (v : ℕ) → v < 256 → v ∷ [] ≡ little 1 v
one_byte v h = let e : v ≡ v % 256 = omega arith in ap (λ (x : ℕ). x ∷ []) e

last_four : (s : List ℕ) → Bytes s → 20 ≤ length s → u16_at (drop 18 s) ≡ 0
    → little 1 (get_or s 16 0) ++ (little 1 (get_or s 17 0) ++ (little 2 0 ++ drop 20 s)) ≡ drop 16 s
unfolding u16_at
last_four s y n e =
    let p : get_or s 16 0 % 256 ≡ get_or s 16 0 = omega (arith, y 16 (omega arith)) in
    let q : get_or s 17 0 % 256 ≡ get_or s 17 0 = omega (arith, y 17 (omega arith)) in
    let u : 0 ≡ get_or s 18 0 = omega (arith, get_or-drop 18 s 0 0) in
    let v : 0 ≡ get_or s 19 0 = omega (arith, get_or-drop 18 s 1 0) in
    ap₂ (λ (x y : ℕ). x ∷ y ∷ 0 ∷ 0 ∷ drop 20 s) p q ∙ ap₂ (λ (x y : ℕ). get_or s 16 0 ∷ get_or s 17 0 ∷ x ∷ y ∷ drop 20 s) u v
    ∙ sym (drop-cons s 16 0 (omega arith) ∙ ap (λ (l : List ℕ). get_or s 16 0 ∷ l)
    (drop-cons s 17 0 (omega arith) ∙ ap (λ (l : List ℕ). get_or s 17 0 ∷ l)
    (drop-cons s 18 0 (omega arith) ∙ ap (λ (l : List ℕ). get_or s 18 0 ∷ l) (drop-cons s 19 0 (omega arith)))))

-- ---- a head that was found

pub record HeadRead (s : List ℕ) (h : Head) : Type 0 where
  pub mz : T (fits (ruled h.mz))
  pub intensity : T (fits (ruled h.intensity))
  pub is : stores (row_head (ruled h.mz) (ruled h.intensity)) ++ drop row_head_size s ≡ s

not_both : (a b : Bool) → cond a false b ≡ true → (a ≡ false) × (b ≡ true)
not_both true b e = absurd (subst T (sym e) tt)
not_both false b e = (refl, e)

pub head_good : (s : List ℕ) → Bytes s → good_head s ≡ true → HeadRead s (head_in s)
unfolding good_head head_in is_head
head_good s y e =
    let mz = mz_in s in
    let intensity = intensity_in s in
    let last = eqb (u16_at (drop 18 s)) 0 in
    let a = not_both (ltb (length s) row_head_size) (cond (is_some mz) (cond (is_some intensity) last false) false) e in
    let n = ltb-false (length s) row_head_size a.0 in
    let b = both (is_some mz) (cond (is_some intensity) last false) a.1 in
    let c = both (is_some intensity) last b.1 in
    let p = made_some (u64_at s) (get_or s 16 0) b.0 in
    let q = made_some (u64_at (drop 8 s)) (get_or s 17 0) c.0 in
    let r = last_four s y n (eqb-true (u16_at (drop 18 s)) 0 c.1) in
    let k = drop 8 s in
    let t : little 8 (u64_at k) ++ drop 16 s ≡ k = ap (λ (l : List ℕ). little 8 (u64_at k) ++ l) (sym (drop-drop 8 8 s)) ∙ oct_back k (bytes_drop s 8 y) (omega (arith, length-drop 8 s)) in
    record {
      mz = subst (λ (d : Decimal). T (fits (ruled d))) (sym p.1) p.0;
      intensity = subst (λ (d : Decimal). T (fits (ruled d))) (sym q.1) q.0;
      is =
          ap₂ (λ (x z : Decimal). stores (row_head (ruled x) (ruled z)) ++ drop row_head_size s) p.1 q.1
          ∙ ap (λ (l : List ℕ). little 8 (u64_at s) ++ (little 8 (u64_at k) ++ l)) r
          ∙ ap (λ (l : List ℕ). little 8 (u64_at s) ++ l) t ∙ oct_back s y (omega arith);
    }

-- the head, as it was read, or what was read of a bad one
abbrev told : Result Head Head → Head
told (Ok h) = h
told (Err h) = h

-- the head that was found
pub head_is : (s : List ℕ) {h : Head} → head_of s ≡ Ok h → (good_head s ≡ true) × (head_in s ≡ h)
head_is s {h} e = by (good_head s) e
  where
    by : (t : Bool) → cond {A = Result Head Head} t (Ok (head_in s)) (Err (head_in s)) ≡ Ok h → (t ≡ true) × (head_in s ≡ h)
    by true q = (refl, ap told q)
    by false q = absurd (false≢true (ap is_ok q))

-- both numbers of a head that was found are within their bounds
pub head_fits : (s : List ℕ) → good_head s ≡ true → T (fits (ruled (head_in s).mz)) × T (fits (ruled (head_in s).intensity))
unfolding good_head head_in is_head
head_fits s e =
    let mz = mz_in s in
    let intensity = intensity_in s in
    let last = eqb (u16_at (drop 18 s)) 0 in
    let a = not_both (ltb (length s) row_head_size) (cond (is_some mz) (cond (is_some intensity) last false) false) e in
    let b = both (is_some mz) (cond (is_some intensity) last false) a.1 in
    let c = both (is_some intensity) last b.1 in
    let p = made_some (u64_at s) (get_or s 16 0) b.0 in
    let q = made_some (u64_at (drop 8 s)) (get_or s 17 0) c.0 in
    (subst (λ (d : Decimal). T (fits (ruled d))) (sym p.1) p.0, subst (λ (d : Decimal). T (fits (ruled d))) (sym q.1) q.0)

-- ---- and a head that is there is found

module _ (mz intensity : rules.Decimal) (f : T (fits mz)) (g : T (fits intensity)) (k : List ℕ) where
  abbrev held : List ℕ
  held = stores (row_head mz intensity) ++ k

  value_small : (d : rules.Decimal) → T (fits d) → (d.value < 2 ^ 64) × (d.places % 256 ≡ d.places)
  value_small d t = let x = fits_within d.value d.places (t_is (fits d) t) in (omega (arith, x.0), omega (arith, x.1))

  made_head : (d : rules.Decimal) → T (fits d) → (v p : ℕ) → v ≡ d.value → p ≡ d.places → made_of v p ≡ Some (kept d)
  made_head d t v p e q = ap₂ made_of e q ∙ fits_made d t

  pub head_found : head_of held ≡ Ok (record { mz = kept mz; intensity = kept intensity })
  unfolding good_head head_in is_head u16_at
  head_found =
      let a = value_small mz f in
      let b = value_small intensity g in
      let behind = little 8 intensity.value ++ (little 1 mz.places ++ (little 1 intensity.places ++ (little 2 0 ++ k))) in
      let x = made_head mz f (u64_at held) (get_or held 16 0) (oct_stored mz.value behind a.0) a.1 in
      let y = made_head intensity g (u64_at (drop 8 held)) (get_or held 17 0)
      (oct_stored intensity.value (little 1 mz.places ++ (little 1 intensity.places ++ (little 2 0 ++ k))) b.0) b.1 in
      rw (x, y, le-ltb (length held) row_head_size (omega arith))

  pub head_rest : drop row_head_size held ≡ k
  head_rest = refl

-- bytes begin with one head
pub head_one : (mz intensity : rules.Decimal) → T (fits mz) → T (fits intensity) → (k : List ℕ)
    → (mz2 intensity2 : rules.Decimal) → T (fits mz2) → T (fits intensity2) → (l : List ℕ)
    → stores (row_head mz intensity) ++ k ≡ stores (row_head mz2 intensity2) ++ l → (mz ≡ mz2) × (intensity ≡ intensity2)
head_one mz intensity f g k mz2 intensity2 x y l e =
    let q = sym (head_found mz intensity f g k) ∙ ap head_of e ∙ head_found mz2 intensity2 x y l in
    (ap (λ (o : Result Head Head). ruled (told o).mz) q, ap (λ (o : Result Head Head). ruled (told o).intensity) q)
