-- A scan of a whole line, in one part, by the machine's bytes comes to the verdict that the rules say. Assumes nothing.
use Prim.Native.Nat.{ℕ, ◌+◌, ◌-◌, ◌<◌, ◌≤◌, ◌^◌}
use mathlib.Core.Path.{◌≡◌, refl, sym, ap, ◌∙◌, subst}
use mathlib.Core.Bool.{Bool, true, false}
use mathlib.Core.List.{List, [], ◌∷◌, head-eq_of_cons-eq, tail-eq_of_cons-eq, nil≢cons}
use native.Mathlib.Omega.{arith}
use native.Mathlib.Decide.{dec_le}
use lib.ListN.{length, length-drop, get_or, drop, drop_of_length-le}
use borrow.Author.Tests.{lt-ltb, le-ltb, le-leb, lt-leb}
use Rattle.lang.proofs.Certify.{Tables}
use Rattle.lang.proofs.Deep.{move}
use Rattle.lang.proofs.Loop as Loop
use Rattle.lang.proofs.Loop.{Reading}
use Rattle.rules.specs.Editions.{LineEdition}
use Rattle.rules.specs.Lines.{Shape, stray, short, fine, misshapen}
use Rattle.shape.specs.Tables.{states, size}
use Rattle.scan_line.specs.declared.Progress.{Progress}
use Rattle.scan_line.specs.declared.Verdict.TheVariants.{Fine, Short, Stray}
use Rattle.scan_line.specs.Steps.{machine_bytes, move_by, ends_by, standing, run_by, verdict_by, scanned_by}
use Rattle.scan_line.specs.Verdicts.{JudgedBy}
use Rattle.shape.proofs.TableMachine.{machine_of}
use Rattle.shape.proofs.OneSpelling.{certified, from_start}
use Rattle.scan_line.proofs.Cells.{Steps, machine_steps}
use Rattle.scan_line.proofs.Editions.{few, some, Moved, moves}
use Rattle.scan_line.proofs.Walks.{run_on, run_stops, taken_run, from_byte}

-- ---- the verdict of a scan that stands somewhere

module _ (m : List ℕ) (s : Progress) where
  pub verdict_few : length m < size → verdict_by m s ≡ Stray 0
  unfolding verdict_by
  verdict_few l = simp (lt-leb size (length m) l)

  pub verdict_fine : size ≤ length m → s.state < states → ends_by m s.state ≡ true → verdict_by m s ≡ Fine
  unfolding verdict_by
  verdict_fine l h a = simp (le-leb size (length m) l, lt-ltb s.state states h, a)

  pub verdict_short : size ≤ length m → s.state < states → ends_by m s.state ≡ false → verdict_by m s ≡ Short
  unfolding verdict_by
  verdict_short l h a = simp (le-leb size (length m) l, lt-ltb s.state states h, a)

  pub verdict_stray : size ≤ length m → states ≤ s.state → verdict_by m s ≡ Stray s.at
  unfolding verdict_by
  verdict_stray l h = simp (le-leb size (length m) l, le-ltb s.state states h)

-- ---- by bytes that step and end as the machine of an edition does, over a line of bytes

module _ (l : LineEdition) (m : List ℕ) (o : Steps l m) (line : List ℕ) (bytes : (i : ℕ) → i < length line → get_or line i 0 < 256) where
  abbrev M : Tables
  M = machine_of l

  abbrev Reads : ℕ → ℕ → ℕ → Type 0
  Reads q d i = Reading (Shape l) M line q d i

  at_end : (q d i : ℕ) → Reads q d i → length line ≤ i → (a : Bool) → ends_by m q ≡ a → JudgedBy l line (verdict_by m (standing q d i))
  at_end q d i r h true e =
      subst (JudgedBy l line) (sym (verdict_fine m (standing q d i) o.long (few l q r.stand.small) e))
      (fine (Loop.fine (Shape l) M (certified l) line q d i r h true (sym e ∙ o.ends q r.stand.small) refl))
  at_end q d i r h false e =
      let x = Loop.short (Shape l) M (certified l) line q d i r h false (sym e ∙ o.ends q r.stand.small) refl in
      subst (JudgedBy l line) (sym (verdict_short m (standing q d i) o.long (few l q r.stand.small) e)) (misshapen (short x.0 x.1))

  past : (i : ℕ) → drop i line ≡ [] → length line ≤ i
  past i e = let p : length line - i ≡ 0 = sym (length-drop i line) ∙ ap length e in omega arith

  inside : (i b : ℕ) (w : List ℕ) → drop i line ≡ b ∷ w → Dec (length line ≤ i) → i < length line
  inside i b w e (yes h) = absurd (nil≢cons (sym (drop_of_length-le line h) ∙ e))
  inside i b w e (no h) = omega arith

  walk : (w : List ℕ) (q d i : ℕ) → drop i line ≡ w → Reads q d i → JudgedBy l line (verdict_by m (run_by m q d i w))
  unfolding run_by
  walk [] q d i e r = at_end q d i r (past i e) (ends_by m q) refl
  walk (b ∷ w) q d i e r = by (λ q' d' r'. walk w q' d' (i + 1) t r') (dec_le states (move_by m q d b).0)
    where
      h : i < length line
      h = inside i b w e (dec_le (length line) i)

      t : drop (i + 1) line ≡ w
      t = tail-eq_of_cons-eq (sym (from_byte line i h) ∙ e)

      same : get_or line i 0 ≡ b
      same = head-eq_of_cons-eq (sym (from_byte line i h) ∙ e)

      k : b < 256
      k = subst (λ (x : ℕ). x < 256) same (bytes i h)

      moved : Moved l m q d b
      moved = moves l o q d b r.stand.small k

      to_line : move M q d b ≡ move M q d (get_or line i 0)
      to_line = ap (move M q d) (sym same)

      by : ((q' d' : ℕ) → Reads q' d' (i + 1) → JudgedBy l line (verdict_by m (run_by m q' d' (i + 1) w)))
          → Dec (states ≤ (move_by m q d b).0) → JudgedBy l line (verdict_by m (run_by m q d i (b ∷ w)))
      by ih (yes x) =
          let z = moved.dead x in
          subst (λ (s : Progress). JudgedBy l line (verdict_by m s)) (sym (run_stops m q d i b w x))
          (subst (JudgedBy l line) (sym (verdict_stray m (standing states 0 i) o.long (omega arith)))
          (misshapen (stray i (Loop.dies (Shape l) M (certified l) line q d i (move M q d b).0 (move M q d b).1 r h (bytes i h)
          (ap (λ (x : ℕ × ℕ). x.0) to_line) (ap (λ (x : ℕ × ℕ). x.1) to_line) z))))
      by ih (no x) =
          let z = moved.goes (omega arith) in
          subst (λ (s : Progress). JudgedBy l line (verdict_by m s)) (sym (run_on m q d i b w (omega arith)))
          (ih (move_by m q d b).0 (move_by m q d b).1
          (Loop.turn (Shape l) M (certified l) line q d i (move_by m q d b).0 (move_by m q d b).1 r h (bytes i h)
          (ap (λ (x : ℕ × ℕ). x.0) (z.0 ∙ to_line)) (ap (λ (x : ℕ × ℕ). x.1) (z.0 ∙ to_line)) (λ e. let h = z.1 in omega arith)))

  judged : length line < 2 ^ 64 → JudgedBy l line (scanned_by m line)
  unfolding scanned_by
  judged h =
      subst (λ (s : Progress). JudgedBy l line (verdict_by m s)) (sym (taken_run m (standing 0 0 0) line o.long (omega arith) (omega arith) (omega arith)))
      (walk line 0 0 0 refl (Loop.begin (Shape l) M (certified l) line (some l) (from_start l)))

-- the verdicts by the machine's bytes are what the rules say
pub by_machine : (l : LineEdition) (line : List ℕ) → ((i : ℕ) → i < length line → get_or line i 0 < 256) → length line < 2 ^ 64 → JudgedBy l line (scanned_by (machine_bytes l) line)
by_machine l line bytes h = judged l (machine_bytes l) (machine_steps l) line bytes h
