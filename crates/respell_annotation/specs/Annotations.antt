-- An annotation spelled anew, from the bytes that begin with it and what was read of them. Assumes nothing.
use Rattle.std.specs.Prelude.{ℕ, ◌-◌, ◌≡◌, cond, List, [], ◌++◌, eqb, length, take, drop}
use Rattle.rules.specs.Bytes.{bytes}
use Rattle.rules.specs.Texts.{starts_with}
use Rattle.put_bytes.specs.Puts.{Put}
use Rattle.print_count.specs.declared.Respelled.{Respelled}
use Rattle.put_formula.specs.Preferred.{preferred_units}
use Rattle.read_ion.specs.declared.IonRead.{IonRead}
use Rattle.read_isotopes.specs.Spelled.{spelled_isotopes}
use Rattle.read_tail.specs.declared.DecimalPart.{DecimalPart}
use Rattle.sort_changes.specs.Events.{behind_changes}
use Rattle.sort_changes.specs.Spelled.{changes_spelled}
use Rattle.read_annotation.specs.declared.Parts.{Parts}
use Rattle.read_annotation.specs.Measured.{is_free, behind_ion, annotation_size}
use Rattle.respell_annotation.specs.Kept.{is_kept}

-- letters that say yb are left out; a formula, between `f{` and `}`, may be spelled in two ways
unfoldable pub ion_spelled : List ℕ → IonRead → List ℕ
ion_spelled s x =
    cond (starts_with (bytes "myb") s) (bytes "m" ++ drop 3 (take x.len s))
    (cond (eqb x.units 0) (take x.len s) (take x.start s ++ (preferred_units x.units (drop x.start s) ++ bytes "}")))

unfoldable pub adduct_spelled : List ℕ → List ℕ
adduct_spelled s = cond (starts_with (bytes "[M") s) (take 2 s ++ (changes_spelled (drop 2 s) ++ bytes "]")) []

-- charge, deviation and confidence: a 0 stands before the point that a confidence begins with. The point and its digits are the last bytes.
unfoldable pub tail_spelled : List ℕ → DecimalPart → List ℕ
tail_spelled s c = let at = length s - (c.len - 1) in cond c.bare (take at s ++ (bytes "0" ++ drop at s)) s

-- ---- the annotation, by what is left behind each of its parts

abbrev pub behind_spelled_isotopes : List ℕ → List ℕ
behind_spelled_isotopes s = drop (length s - length (spelled_isotopes s).rest) s

-- s1 is left behind the ion, s2 behind the losses, s3 behind the isotopes
abbrev pub spelled_with : List ℕ → List ℕ → List ℕ → List ℕ → Parts → List ℕ
spelled_with s s1 s2 s3 p =
    take p.front.at s ++ (ion_spelled (drop p.front.at s) p.front.ion
    ++ (changes_spelled s1 ++ ((spelled_isotopes s2).known ++ (adduct_spelled s3
    ++ tail_spelled (take p.tail.len (drop p.middle.len s1)) p.tail.confidence))))

unfoldable pub parts_spelled : List ℕ → Parts → List ℕ
parts_spelled s p = spelled_with s (behind_ion s p) (behind_changes (behind_ion s p)) (behind_spelled_isotopes (behind_changes (behind_ion s p))) p

-- as it stands, or part by part
unfoldable pub annotation_spelled : List ℕ → Parts → List ℕ
annotation_spelled s p =
    cond (is_kept p.front.ion p.middle.counts (is_free p.tail.confidence.bare (drop p.front.at s)) (take p.middle.len (behind_ion s p)))
    (take (annotation_size s p) s) (parts_spelled s p)

pub record SpellsAnnotation (s : List ℕ) (p : Parts) (d : List ℕ) (to : ℕ) (e : List ℕ) (r : Respelled) : Type 0 where
  pub len : r.len ≡ annotation_size s p
  pub put : Put d to (annotation_spelled s p) e r.to
