-- The answer to a line, and a part of a line that ends it or does not. Assumes nothing.
use Prim.Native.Nat.{ℕ}
use mathlib.Core.Path.{◌≡◌, refl, sym, ap, ◌∙◌, subst}
use mathlib.Core.Bool.{true, false, true≢false}
use mathlib.Core.List.{List}
use lib.ListN.{length}
use Rattle.put_bytes.specs.Puts.{Put}
use Rattle.put_bytes.proofs.Putting.{put_as}
use Rattle.scan_line.specs.declared.Progress.{Progress}
use Rattle.scan_line.specs.declared.Verdict.{Verdict}
use Rattle.scan_line.specs.declared.Verdict.TheVariants.{Short}
use Rattle.scan_line.specs.Steps.{standing, taken_by, verdict_by}
use Rattle.io_lines.specs.declared.Stream.{Stream}
use Rattle.io_lines.specs.Streams.{waiting_of, is_fed, Roomed}
use Rattle.run_program.proofs.Waiting.{waits_by}
use Rattle.shapes.specs.Shown.{place_text, verdict_text, is_begun, Shown, Parted, Last}

-- the verdict that is meant, by what is put of it for a line
pub verdict_as : {d e : List ℕ} {at n r : ℕ} {v w : Verdict} → v ≡ w → ((line : List ℕ) → length line ≡ n → Put d at (verdict_text line v) e r)
    → (line : List ℕ) → length line ≡ n → Put d at (verdict_text line w) e r
verdict_as {d} {e} {at} {r = r} q x line h = subst (λ (w : Verdict). Put d at (verdict_text line w) e r) q (x line h)

-- a line that ends too soon is told with its length
pub short_as : {d e : List ℕ} {at n r : ℕ} → Put d at (place_text 3 n) e r → (line : List ℕ) → length line ≡ n → Put d at (verdict_text line Short) e r
short_as x line h = put_as x (ap (place_text 3) (sym h))

pub shown_by : (m : List ℕ) (p : Progress) {d e : List ℕ} {v : Verdict} {s t r : Stream} {end : ℕ} → Roomed (length d) 23 s t → v ≡ verdict_by m p
    → ((line : List ℕ) → length line ≡ p.at → Put d t.waiting (verdict_text line v) e end) → r ≡ waiting_of t end → Shown m p s d e r
shown_by m p roomed q x y = record { waits = λ line h. waits_by roomed (verdict_as q x line h) y }

pub part_ends : {m part w d e : List ℕ} {s r : Stream} {p q fresh : Progress} → is_fed s ≡ true → w ≡ part → q ≡ taken_by m p w
    → Shown m q s d e r → fresh ≡ standing 0 0 0 → Parted m part s p d e fresh r
part_ends {m} {d = d} {e} {s} {r} {p} t i j x f =
    let k = j ∙ ap (taken_by m p) i in
    record {
      fresh = λ _. f;
      shown = λ _. subst (λ (q : Progress). Shown m q s d e r) k x;
      scanned = λ q. absurd (true≢false (sym t ∙ q));
      same = λ q. absurd (true≢false (sym t ∙ q));
      kept = λ q. absurd (true≢false (sym t ∙ q));
    }

pub part_goes_on : {m part w d : List ℕ} {s : Stream} {p q : Progress} → is_fed s ≡ false → w ≡ part → q ≡ taken_by m p w
    → Parted m part s p d d q s
part_goes_on {m} {p = p} t i j =
    record {
      fresh = λ q. absurd (true≢false (sym q ∙ t));
      shown = λ q. absurd (true≢false (sym q ∙ t));
      scanned = λ _. j ∙ ap (taken_by m p) i;
      same = λ _. refl;
      kept = λ _. refl;
    }

pub last_shown : {m d e : List ℕ} {s r : Stream} {p : Progress} → is_begun p ≡ true → Shown m p s d e r → Last m s p d e r
last_shown t x =
    record {
      shown = λ _. x;
      same = λ q. absurd (true≢false (sym t ∙ q));
      kept = λ q. absurd (true≢false (sym t ∙ q));
    }

pub last_none : {m d : List ℕ} {s : Stream} {p : Progress} → is_begun p ≡ false → Last m s p d d s
last_none t =
    record {
      shown = λ q. absurd (true≢false (sym q ∙ t));
      same = λ _. refl;
      kept = λ _. refl;
    }
