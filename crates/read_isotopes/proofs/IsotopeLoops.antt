-- The walks over isotopes. Assumes nothing.
use Prim.Native.Nat.{ℕ, ◌+◌, ◌-◌, ◌≤◌}
use mathlib.Core.Path.{◌≡◌, refl, sym, ap, ap₂, ◌∙◌}
use mathlib.Core.Bool.{true, false}
use mathlib.Core.List.{List, [], ◌++◌}
use native.Mathlib.Omega.{arith}
use lib.ListN.{length, drop, length-drop}
use lib.Seq.{drop-drop}
use Rattle.std.specs.Prelude.{Option, None}
use Rattle.lang.specs.Walk.{Walked, walked, walk}
use Rattle.lang.proofs.Walks.{walk_on, walk_ends}
use Rattle.put_bytes.specs.Puts.{max_place, Put}
use Rattle.put_bytes.proofs.Putting.{put_none, put_then, put_as}
use Rattle.faults.specs.declared.Refusal.{Refusal}
use Rattle.read_formula.specs.Formulas.{counted}
use Rattle.read_opening.specs.Heads.{begins_isotope}
use Rattle.read_isotopes.specs.declared.IsotopeRead.{IsotopeRead}
use Rattle.read_isotopes.specs.Isotopes.{isotope_of}
use Rattle.read_isotopes.specs.Rows.{isotope_size, count_isotope, isotopes_of}
use Rattle.read_isotopes.specs.Records.{record_of, Filed, file_isotope, filed_isotopes, StoresIsotopes}
use Rattle.read_isotopes.specs.Spelled.{isotope_spelled, spell_isotope, spelled_isotopes, SpellsIsotopes}
use Rattle.read_isotopes.proofs.Measures.{isotope_len, isotope_moves}

-- the first `at` bytes are n isotopes, and b is known after them where a was known before
pub record Passed {S : Type 0} (step : S → List ℕ → S) (s : List ℕ) (a : S) (at n : ℕ) (b : S) : Type 0 where
  pub inside : at ≤ length s
  pub few : n ≤ at
  pub is : walk begins_isotope isotope_size step s a ≡ walk begins_isotope isotope_size step (drop at s) b

pub begin : {S : Type 0} {step : S → List ℕ → S} {s : List ℕ} {a : S} → Passed step s a 0 0 a
begin = record { inside = omega arith; few = omega arith; is = refl }

module _ {S : Type 0} {step : S → List ℕ → S} {s : List ℕ} {a : S} {at n : ℕ} {b : S} (p : Passed step s a at n b) {r : List ℕ} (pr : r ≡ drop at s) where
  -- an isotope stands here, and takes up a byte or more of what is left
  module _ (i end : ℕ) (f : Option Refusal) {q : List ℕ} {x : IsotopeRead} (e : begins_isotope r ≡ true) (pq : q ≡ drop at s) (px : x ≡ isotope_of i end q f) where
    long : x.len ≡ isotope_size (drop at s)
    long = ap (λ (x : IsotopeRead). x.len) px ∙ isotope_len i end q f ∙ ap isotope_size pq

    pub moves : (at + 1 ≤ at + x.len) × (at + x.len ≤ length s)
    moves =
        let m = isotope_moves (drop at s) (rw pr at e) in
        let l = long in
        let i = p.inside in
        (omega arith, omega (arith, length-drop at s))

    pub turn : {c : S} → c ≡ step b (drop at s) → Passed step s a (at + x.len) (n + 1) c
    turn {c} pc =
        let t = drop at s in
        let m = moves in
        let o = p.few in
        record {
          inside = m.1;
          few = omega arith;
          is = p.is ∙ walk_on begins_isotope isotope_size step isotope_moves t b (rw pr at e)
              ∙ ap₂ (λ (z : List ℕ) (c : S). walk begins_isotope isotope_size step z c) (drop-drop (isotope_size t) at s ∙ ap (λ (l : ℕ). drop (at + l) s) (sym long)) (sym pc);
        }

  stops : begins_isotope r ≡ false → walk begins_isotope isotope_size step s a ≡ walked (drop at s) b
  stops e = p.is ∙ walk_ends begins_isotope isotope_size step isotope_moves (drop at s) b (rw pr at e)

  -- how far the walk went
  long_all : begins_isotope r ≡ false → length s - length (walk begins_isotope isotope_size step s a).rest ≡ at
  long_all e = let i = p.inside in ap (λ (w : Walked S). length s - length w.rest) (stops e) ∙ omega (arith, length-drop at s)

-- ---- measured

module _ (end : ℕ) {s : List ℕ} {f : Option Refusal} {at n : ℕ} {g : Option Refusal} (p : Passed (count_isotope end) s (counted 0 f) at n (counted n g)) {r : List ℕ} (pr : r ≡ drop at s) where
  pub counts : {q : List ℕ} {x : IsotopeRead} → begins_isotope r ≡ true → q ≡ drop at s → x ≡ isotope_of n end q g
      → Passed (count_isotope end) s (counted 0 f) (at + x.len) (n + 1) (counted (n + 1) x.fault)
  unfolding count_isotope
  counts {q} {x} e pq px = turn p pr n end g e pq px (ap (λ (x : IsotopeRead). counted (n + 1) x.fault) (px ∙ ap (λ (q : List ℕ). isotope_of n end q g) pq))

  pub counted_all : begins_isotope r ≡ false → record { n = n; len = at; fault = g } ≡ isotopes_of end s f
  unfolding isotopes_of
  counted_all e = sym (rw (long_all p pr e, stops p pr e))

-- ---- bytes put for each

-- the bytes for the first n isotopes are put; `known` is what is known after n isotopes for which certain bytes were put
pub record Putting {S : Type 0} (step : S → List ℕ → S) (known : ℕ → List ℕ → S) (s d : List ℕ) (to at n : ℕ) (e : List ℕ) (next : ℕ) : Type 0 where
  pub done : List ℕ
  pub passed : Passed step s (known 0 []) at n (known n done)
  pub put : Put d to done e next

pub puts_none : {S : Type 0} {step : S → List ℕ → S} {known : ℕ → List ℕ → S} {s d : List ℕ} {to : ℕ} → length d ≤ max_place → to ≤ max_place
    → Putting step known s d to 0 0 d to
puts_none h g = record { done = []; passed = begin; put = put_none h g }

-- w is what is put for the isotope that stands here
puts_one : {S : Type 0} {step : S → List ℕ → S} {known : ℕ → List ℕ → S} {s d : List ℕ} {to at n : ℕ} {e : List ℕ} {next : ℕ}
    → (p : Putting step known s d to at n e next)
    → {r q w : List ℕ} {x : IsotopeRead} {e₂ : List ℕ} {next₂ : ℕ} → r ≡ drop at s → begins_isotope r ≡ true → q ≡ drop at s → x ≡ isotope_of 0 0 q None
    → known (n + 1) (p.done ++ w) ≡ step (known n p.done) (drop at s) → Put e next w e₂ next₂ → Putting step known s d to (at + x.len) (n + 1) e₂ next₂
puts_one p {w} pr b pq px k u = record { done = p.done ++ w; passed = turn p.passed pr 0 0 None b pq px k; put = put_then p.put u }

read_here : {q t : List ℕ} {x : IsotopeRead} → q ≡ t → x ≡ isotope_of 0 0 q None → x ≡ isotope_of 0 0 t None
read_here pq px = px ∙ ap (λ (q : List ℕ). isotope_of 0 0 q None) pq

-- ---- stored

abbrev pub filed : ℕ → List ℕ → Filed
filed n b = record { n = n; bytes = b }

-- the records of the first isotopes are put
abbrev pub Filing : List ℕ → List ℕ → ℕ → ℕ → ℕ → List ℕ → ℕ → Type 0
Filing = Putting file_isotope filed

module _ {s d : List ℕ} {to at n : ℕ} {e : List ℕ} {next : ℕ} (p : Filing s d to at n e next) {r : List ℕ} (pr : r ≡ drop at s) where
  pub files : {q : List ℕ} {x : IsotopeRead} {e₂ : List ℕ} {next₂ : ℕ} → begins_isotope r ≡ true → q ≡ drop at s → x ≡ isotope_of 0 0 q None → Put e next (record_of x) e₂ next₂
      → Filing s d to (at + x.len) (n + 1) e₂ next₂
  unfolding file_isotope
  files b pq px u = puts_one p pr b pq px (ap (λ (x : IsotopeRead). filed (n + 1) (p.done ++ record_of x)) (read_here pq px)) u

  pub filed_all : begins_isotope r ≡ false → StoresIsotopes s d to e (record { n = n; len = at; next = next })
  unfolding filed_isotopes
  filed_all b =
      let w = stops p.passed pr b in
      record {
        n = sym (ap (λ (w : Walked Filed). w.known.n) w);
        len = sym (long_all p.passed pr b);
        put = put_as p.put (sym (ap (λ (w : Walked Filed). w.known.bytes) w));
      }

-- ---- spelled anew

-- what is known is what was put, however many there were
abbrev spelled : ℕ → List ℕ → List ℕ
spelled n b = b

-- the first isotopes are spelled
pub record Spelling (s d : List ℕ) (to at : ℕ) (e : List ℕ) (next : ℕ) : Type 0 where
  pub n : ℕ
  pub puts : Putting spell_isotope spelled s d to at n e next

pub spells_none : {s d : List ℕ} {to : ℕ} → length d ≤ max_place → to ≤ max_place → Spelling s d to 0 d to
spells_none h g = record { n = 0; puts = puts_none h g }

module _ {s d : List ℕ} {to at : ℕ} {e : List ℕ} {next : ℕ} (p : Spelling s d to at e next) {r : List ℕ} (pr : r ≡ drop at s) where
  pub spells : {q t : List ℕ} {x : IsotopeRead} {e₂ : List ℕ} {next₂ : ℕ} → begins_isotope r ≡ true → q ≡ drop at s → x ≡ isotope_of 0 0 q None
      → t ≡ drop at s → Put e next (isotope_spelled t x) e₂ next₂ → Spelling s d to (at + x.len) e₂ next₂
  unfolding spell_isotope
  spells b pq px pt u =
      let k = ap₂ (λ (t : List ℕ) (x : IsotopeRead). p.puts.done ++ isotope_spelled t x) pt (read_here pq px) in
      record { n = p.n + 1; puts = puts_one p.puts pr b pq px k u }

  pub spelled_all : begins_isotope r ≡ false → SpellsIsotopes s d to e (record { to = next; len = at })
  unfolding spelled_isotopes
  spelled_all b =
      let w = stops p.puts.passed pr b in
      record { len = sym (long_all p.puts.passed pr b); put = put_as p.puts.put (sym (ap (λ (w : Walked (List ℕ)). w.known) w)) }
