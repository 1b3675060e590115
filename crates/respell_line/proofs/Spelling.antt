-- The loop that spells the annotations of a line anew. Assumes nothing.
use Prim.Native.Nat.{ℕ, ◌+◌, ◌-◌, ◌<◌, ◌≤◌, min}
use mathlib.Core.Path.{◌≡◌, refl, sym, ap, ◌∙◌, subst}
use mathlib.Core.Bool.{true, false}
use mathlib.Core.List.{List, [], ◌++◌}
use native.Mathlib.Omega.{arith}
use lib.ListN.{length, drop}
use Rattle.rules.specs.Bytes.{bytes}
use Rattle.rules.specs.Texts.{starts_with}
use Rattle.put_bytes.specs.Puts.{max_place, Put}
use Rattle.put_bytes.proofs.Putting.{put_none, put_length, put_then, put_as}
use Rattle.print_count.specs.declared.Respelled.{Respelled}
use Rattle.read_annotation.specs.declared.Parts.{Parts}
use Rattle.read_annotation.specs.Measured.{annotation_size}
use Rattle.respell_annotation.specs.Annotations.{annotation_spelled, SpellsAnnotation}
use Rattle.measure_line.specs.Totals.{parts_at}
use Rattle.measure_line.specs.Walks.{behind_by}
use Rattle.measure_line.proofs.Walking.{walked_none, Walking, walking_begins, walking_turns, walking_falls, walking_ends}
use Rattle.respell_line.specs.Plain.{next_spelled, line_spelled}

-- from output d and places to₀ and at₀ of output and line on, the annotations up to `at` are spelled
pub record Spelling (line d : List ℕ) (to₀ at₀ : ℕ) (e : List ℕ) (to at : ℕ) : Type 0 where
  pub xs : List ℕ
  pub put : Put d to₀ xs e to
  pub walk : Walking next_spelled line at₀ xs at

pub spelling_begins : (line : List ℕ) {d : List ℕ} {to at : ℕ} → length d ≤ max_place → to ≤ max_place → Spelling line d to at d to at
spelling_begins line {at = at} h g = record { xs = []; put = put_none h g; walk = walking_begins next_spelled line at }

pub spelling_length : {line d e : List ℕ} {to₀ at₀ to at : ℕ} → Spelling line d to₀ at₀ e to at → length e ≡ length d
spelling_length s = put_length s.put

-- the place behind the annotation that begins at `from`
behind_is : (line : List ℕ) (from : ℕ) (p : Parts) {r d e : List ℕ} {to at : ℕ} {x : Respelled} → r ≡ drop from line → SpellsAnnotation r p d to e x
    → at ≡ min (from + x.len) (length line) → at ≡ behind_by line from p
behind_is line from p pr h pa = pa ∙ ap (λ (n : ℕ). min (from + n) (length line)) (h.len ∙ ap (λ (s : List ℕ). annotation_size s p) pr)

module _ (line : List ℕ) {d e r : List ℕ} {to₀ at₀ to at : ℕ} (s : Spelling line d to₀ at₀ e to at) (pr : r ≡ drop at line) where
  -- a comma, and the annotation that begins behind it
  module _ {f g w : List ℕ} {from begin to' : ℕ} {p : Parts} {x : Respelled} (q : starts_with (bytes ",") r ≡ true) (pf : from ≡ min (at + 1) (length line))
      (pp : p ≡ parts_at line from) (pw : w ≡ drop from line) (comma : Put e to (bytes ",") f begin) (h : SpellsAnnotation w p f begin g x)
      (pa : to' ≡ min (from + x.len) (length line)) where
    pub spelling_turns : Spelling line d to₀ at₀ g x.to to'
    spelling_turns =
        record {
          xs = s.xs ++ next_spelled (drop from line) p;
          put = put_then s.put (put_then comma (put_as h.put (ap (λ (w : List ℕ). annotation_spelled w p) pw)));
          walk = walking_turns next_spelled line s.walk pr q pf pp (behind_is line from p pw h pa);
        }

    pub spelling_falls : length line - to' < length line - at
    spelling_falls = walking_falls next_spelled line s.walk pr q pf pp (behind_is line from p pw h pa)

  -- the first annotation began at 0
  pub spelling_ends : (p : Parts) {d₀ : List ℕ} {x : Respelled} → 1 ≤ length line → SpellsAnnotation line p d₀ 0 d x → to₀ ≡ x.to
      → at₀ ≡ min (0 + x.len) (length line) → starts_with (bytes ",") r ≡ false → Put d₀ 0 (line_spelled line p) e to
  spelling_ends p {d₀} {x} h y pt pa q =
      let first = subst (λ (n : ℕ). Put d₀ 0 (annotation_spelled line p) d n) (sym pt) y.put in
      put_as (put_then first s.put)
      (sym (walking_ends next_spelled line s.walk pr annotation_spelled p h (behind_is line 0 p refl y pa) q))

-- an empty line
pub empty_spelled : (line : List ℕ) (p : Parts) {d : List ℕ} → length d ≤ max_place → length line < 1 → Put d 0 (line_spelled line p) d 0
empty_spelled line p h e = put_as (put_none h (omega arith)) (sym (walked_none annotation_spelled next_spelled line p e))
