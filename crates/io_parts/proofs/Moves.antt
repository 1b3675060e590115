-- The loop that moves a stretch to the front: each byte is read before a store reaches it. Assumes nothing.
use Prim.Native.Nat.{ℕ, suc, ◌+◌, ◌-◌, ◌≤◌, ◌<◌, min}
use mathlib.Core.Path.{◌≡◌, refl, sym, ap, ap₂, ◌∙◌}
use mathlib.Core.List.{List, ◌++◌}
use native.Mathlib.Omega.{arith}
use native.Mathlib.Numerals.{add-one}
use native.Mathlib.Nat.{zero-add}
use lib.ListN.{length, get_or, take, drop, set, length-set, length-drop}
use lib.Seq.{paste, paste-zero, paste-suc, get_or-append-add, get_or-drop, length-take-le}
use Rattle.io_parts.specs.Feeds.{Kept}

-- the first `at` bytes of `kept` were moved
pub record Moving (d : List ℕ) (from kept at : ℕ) (e : List ℕ) : Type 0 where
  pub room : kept ≤ length d - from
  pub inside : at ≤ kept
  pub same : length e ≡ length d
  pub made : e ≡ paste d 0 (drop from d) at

-- what stands behind the moved bytes is as it was
behind_moved : (d : List ℕ) (from at : ℕ) → at < length d - from → get_or (paste d 0 (drop from d) at) (from + at) 0 ≡ get_or (drop from d) at 0
behind_moved d from at h =
    let s : List ℕ = drop from d in
    let n : length (take at s) ≡ at = length-take-le at s (omega (arith, length-drop from d)) in
    let p : from + at ≡ length (take at s) + from = omega arith in
    let q : 0 + at + from ≡ from + at = omega arith in
    ap (λ (k : ℕ). get_or (take at s ++ drop (0 + at) d) k 0) p
    ∙ get_or-append-add (take at s) (drop (0 + at) d) from 0
    ∙ get_or-drop (0 + at) d from 0
    ∙ ap (λ (k : ℕ). get_or d k 0) q
    ∙ sym (get_or-drop from d at 0)

module _ {d : List ℕ} {from kept : ℕ} where
  pub begin : kept ≤ length d - from → Moving d from kept 0 d
  begin h = record { room = h; inside = omega arith; same = refl; made = paste-zero d 0 (drop from d) }

  pub turn : {at : ℕ} {e : List ℕ} → Moving d from kept at e → at < kept → Moving d from kept (at + 1) (set e at (get_or e (from + at) 0))
  turn {at} {e} m h =
      let s : List ℕ = drop from d in
      let b : get_or e (from + at) 0 ≡ get_or s at 0 = ap (λ (x : List ℕ). get_or x (from + at) 0) m.made ∙ behind_moved d from at (omega (arith, m.room)) in
      let z : 0 + at ≡ at = zero-add at in
      let next : set (paste d 0 s at) at (get_or s at 0) ≡ paste d 0 s (suc at) =
      ap (λ (k : ℕ). set (paste d 0 s at) k (get_or s at 0)) (sym z) ∙ paste-suc d 0 s at 0 (omega (arith, m.room)) (omega (arith, m.room, length-drop from d)) in
      record {
        room = m.room;
        inside = omega arith;
        same = length-set e at (get_or e (from + at) 0) ∙ m.same;
        made = ap₂ (λ (x : List ℕ) (y : ℕ). set x at y) m.made b ∙ next ∙ ap (paste d 0 s) (sym (add-one at));
      }

  pub ends : {n at : ℕ} {e : List ℕ} → Moving d from kept at e → kept ≤ at → kept ≡ min (length d - from) n → Kept d from n e kept
  ends {n} {at} {e} m h q =
      let z : at ≡ kept = omega (arith, m.inside) in
      record { is = q; made = m.made ∙ ap (paste d 0 (drop from d)) z }
