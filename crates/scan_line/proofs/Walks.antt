-- The walk of a machine over a part of a line: the loop's invariant, and what it comes to. Assumes nothing.
use Prim.Native.Nat.{ℕ, ◌+◌, ◌<◌, ◌≤◌, ◌^◌}
use mathlib.Core.Path.{◌≡◌, sym, ap, ap₂, ◌∙◌}
use mathlib.Core.List.{List, ◌∷◌}
use native.Mathlib.Omega.{arith}
use native.Mathlib.Numerals.{add-one}
use lib.ListN.{length, get_or, drop, drop_of_length-le}
use lib.Seq.{drop-cons}
use borrow.Author.Tests.{lt-ltb, le-ltb, le-leb, lt-leb}
use Rattle.lang.specs.Re.{in_c}
use Rattle.lang.specs.Scan.{moved}
use Rattle.lang.proofs.Moved.{moved_le}
use Rattle.rules.specs.Texts.{name_brackets}
use Rattle.shape.specs.Tables.{states, size}
use Rattle.scan_line.specs.declared.Progress.{Progress}
use Rattle.scan_line.specs.declared.Stand.{Stand}
use Rattle.scan_line.specs.Steps.{deep_at, step_by, move_by, stand_of, standing, run_by, taken_by}

-- a list from its byte i on
pub from_byte : (l : List ℕ) (i : ℕ) → i < length l → drop i l ≡ get_or l i 0 ∷ drop (i + 1) l
from_byte l i h = drop-cons l i 0 h ∙ ap (λ (n : ℕ). get_or l i 0 ∷ drop n l) (sym (add-one i))

module _ (m : List ℕ) where
  -- one byte goes one deeper at most
  pub move_le : (q d b : ℕ) → (move_by m q d b).1 ≤ d + 1
  unfolding move_by
  move_le q d b = moved_le (deep_at q) (in_c name_brackets.opens b) (in_c name_brackets.closes b) q d (step_by m q b)

  -- machines that step alike move alike
  pub moves_alike : (n : List ℕ) (q d b : ℕ) → step_by m q b ≡ step_by n q b → move_by m q d b ≡ move_by n q d b
  unfolding move_by
  moves_alike n q d b e = ap (moved (deep_at q) (in_c name_brackets.opens b) (in_c name_brackets.closes b) q d) e

  -- one byte more: it goes on, or stops
  pub run_on : (q d at b : ℕ) (w : List ℕ) → (move_by m q d b).0 < states → run_by m q d at (b ∷ w) ≡ run_by m (move_by m q d b).0 (move_by m q d b).1 (at + 1) w
  unfolding run_by
  run_on q d at b w h = simp (lt-ltb (move_by m q d b).0 states h)

  pub run_stops : (q d at b : ℕ) (w : List ℕ) → states ≤ (move_by m q d b).0 → run_by m q d at (b ∷ w) ≡ standing states 0 at
  unfolding run_by
  run_stops q d at b w h = simp (le-ltb (move_by m q d b).0 states h)

  -- too few bytes of a machine, a stopped scan, more brackets than bytes, and a place that would not fit, stay
  pub stays_few : (s : Progress) (part : List ℕ) → length m < size → s ≡ taken_by m s part
  unfolding taken_by
  stays_few s part h = simp (lt-leb size (length m) h)

  pub stays_dead : (s : Progress) (part : List ℕ) → size ≤ length m → states ≤ s.state → s ≡ taken_by m s part
  unfolding taken_by
  stays_dead s part l h = simp (le-leb size (length m) l, le-ltb s.state states h)

  pub stays_deep : (s : Progress) (part : List ℕ) → size ≤ length m → s.state < states → s.at < s.depth → s ≡ taken_by m s part
  unfolding taken_by
  stays_deep s part l h g = simp (le-leb size (length m) l, lt-ltb s.state states h, lt-leb s.depth s.at g)

  pub stays_full : (s : Progress) (part : List ℕ) → size ≤ length m → s.state < states → s.depth ≤ s.at → 2 ^ 64 ≤ s.at + length part → s ≡ taken_by m s part
  unfolding taken_by
  stays_full s part l h d g = simp (le-leb size (length m) l, lt-ltb s.state states h, le-leb s.depth s.at d, le-ltb (s.at + length part) (2 ^ 64) g)

  pub taken_run : (s : Progress) (part : List ℕ) → size ≤ length m → s.state < states → s.depth ≤ s.at → s.at + length part < 2 ^ 64
      → taken_by m s part ≡ run_by m s.state s.depth s.at part
  unfolding taken_by
  taken_run s part l h d g = simp (le-leb size (length m) l, lt-ltb s.state states h, le-leb s.depth s.at d, lt-ltb (s.at + length part) (2 ^ 64) g)

-- the walk stands before the byte i of the part, in state q with d brackets more open; it began in state q₀ with d₀ at a place
pub record Walking (m part : List ℕ) (start q₀ d₀ q d i : ℕ) : Type 0 where
  pub long : size ≤ length m
  pub begun : q₀ < states
  pub shallow : d₀ ≤ start
  pub small : q < states
  pub below : d ≤ start + i
  pub inside : i ≤ length part
  pub room : start + length part < 2 ^ 64
  pub same : run_by m q₀ d₀ start part ≡ run_by m q d (start + i) (drop i part)

module _ {m part : List ℕ} {start q₀ d₀ : ℕ} where
  pub begin : size ≤ length m → q₀ < states → d₀ ≤ start → start + length part < 2 ^ 64 → Walking m part start q₀ d₀ q₀ d₀ 0
  begin l h d r =
      let e : start ≡ start + 0 = omega arith in
      record {
        long = l;
        begun = h;
        shallow = d;
        small = h;
        below = omega arith;
        inside = omega arith;
        room = r;
        same = ap (λ (n : ℕ). run_by m q₀ d₀ n part) e;
      }

  module _ {q d i : ℕ} {s : Stand} (w : Walking m part start q₀ d₀ q d i) (h : i < length part) (p : s ≡ stand_of (move_by m q d (get_or part i 0))) where
    abbrev byte : ℕ
    byte = get_or part i 0

    to_state : s.state ≡ (move_by m q d byte).0
    to_state = ap (λ (x : Stand). x.state) p

    to_depth : s.depth ≡ (move_by m q d byte).1
    to_depth = ap (λ (x : Stand). x.depth) p

    one_more : run_by m q₀ d₀ start part ≡ run_by m q d (start + i) (byte ∷ drop (i + 1) part)
    one_more = w.same ∙ ap (run_by m q d (start + i)) (from_byte part i h)

    pub stops : states ≤ s.state → run_by m q₀ d₀ start part ≡ standing states 0 (start + i)
    stops g = one_more ∙ run_stops m q d (start + i) byte (drop (i + 1) part) (omega (arith, to_state))

    pub turn : s.state < states → Walking m part start q₀ d₀ s.state s.depth (i + 1)
    turn g =
        let e : start + i + 1 ≡ start + (i + 1) = omega arith in
        record {
          long = w.long;
          begun = w.begun;
          shallow = w.shallow;
          small = g;
          below = omega (arith, to_depth, move_le m q d byte, w.below);
          inside = omega arith;
          room = w.room;
          same =
              one_more ∙ run_on m q d (start + i) byte (drop (i + 1) part) (omega (arith, to_state))
              ∙ ap₂ (λ (x y : ℕ). run_by m x y (start + i + 1) (drop (i + 1) part)) (sym to_state) (sym to_depth)
              ∙ ap (λ (n : ℕ). run_by m s.state s.depth n (drop (i + 1) part)) e;
        }

  whole : {q d i : ℕ} → Walking m part start q₀ d₀ q d i → taken_by m (standing q₀ d₀ start) part ≡ run_by m q₀ d₀ start part
  whole w = taken_run m (standing q₀ d₀ start) part w.long w.begun w.shallow w.room

  -- what the loop leaves
  pub stopped : {q d i : ℕ} {s : Stand} → Walking m part start q₀ d₀ q d i → i < length part → s ≡ stand_of (move_by m q d (get_or part i 0)) → states ≤ s.state
      → standing states 0 (start + i) ≡ taken_by m (standing q₀ d₀ start) part
  stopped w h p g = sym (stops w h p g) ∙ sym (whole w)

  pub ends : {q d i : ℕ} → Walking m part start q₀ d₀ q d i → length part ≤ i → standing q d (start + length part) ≡ taken_by m (standing q₀ d₀ start) part
  unfolding run_by
  ends {q} {d} {i} w h =
      let all : i ≡ length part = omega (arith, w.inside) in
      ap (λ (n : ℕ). standing q d (start + n)) (sym all)
      ∙ sym (w.same ∙ ap (run_by m q d (start + i)) (drop_of_length-le part h)) ∙ sym (whole w)
