-- What is read of a spelled loss or adduct item. Assumes nothing.
use Prim.Native.Nat.{ℕ, ◌+◌, ◌-◌, ◌≤◌, min}
use mathlib.Core.Path.{◌≡◌, refl, sym, ap, ap₂, ◌∙◌}
use mathlib.Core.Bool.{false}
use mathlib.Core.List.{List, ◌++◌, append-nil}
use native.Mathlib.Omega.{arith}
use lib.ListN.{length, drop, length-append}
use Rattle.std.specs.Prelude.{Option}
use Rattle.lang.specs.Parts.{Opt, silent, written, opt_text}
use Rattle.lang.specs.Mark.{Mark}
use Rattle.rules.specs.Numbers.{From, number_text}
use Rattle.rules.specs.Losses.{sign_text}
use Rattle.rules.specs.Limits.{max_count, many_mark, opt_part, number_part}
use Rattle.changes.specs.declared.Sign.{Sign}
use Rattle.changes.proofs.Signs.{sign_read}
use Rattle.texts.proofs.NameEnds.{loss_is_name}
use Rattle.faults.specs.declared.Refusal.{Refusal}
use Rattle.faults.specs.Faults.{join, after}
use Rattle.faults.proofs.Marks.{join_kept, after_append}
use Rattle.read_formula.proofs.Limits.{mark_told}
use Rattle.read_formula.proofs.Ends.{EndsFormula}
use Rattle.read_formula.proofs.Formulas.{formula_read, begins_formula}
use Rattle.read_opening.specs.declared.Head.{Head}
use Rattle.read_opening.proofs.SpelledOpenings.{count_told, head_read_lem, drop_read, name_here, sign_long}
use Rattle.read_changes.specs.declared.ChangeRead.{ChangeRead}
use Rattle.read_changes.specs.Changes.{head_fault, content_of, change_of}
use Rattle.read_changes.proofs.Spelled.{What, a_formula, a_name, an_electron, content_text, what_part, what_content, Spelled, change_text, change_marks}
use Rattle.read_changes.proofs.Begins.{what_no_digit, name_no_unit, electron_no_unit, change_text_lem}

-- with a fault after it
abbrev pub change_read : {m : ℕ} → Spelled m → Option Refusal → ChangeRead
change_read x g =
    record {
      sign = sign_read x.sign;
      count = count_told x.count;
      start = 1 + length (opt_text number_text x.count);
      content = what_content x.what;
      len = length (change_text x);
      fault = g;
    }

-- ---- behind sign and count

module _ (s : List ℕ) (h : Head) (k : List ℕ) (end : ℕ) (f : Option Refusal) (e : EndsFormula k) where
  abbrev what_read : What → ℕ → ChangeRead
  what_read w len = record { sign = h.sign; count = h.count; start = h.len; content = what_content w; len = len; fault = after f ((what_part w).marks (end - length (content_text w ++ k))) }

  what_read_lem : (w : What) → drop h.len s ≡ content_text w ++ k → length (content_text w ++ k) ≤ end → content_of end s h f ≡ what_read w (min (h.len + length (content_text w)) (length s))
  unfolding content_of
  what_read_lem (a_formula x) p g = rw (p, begins_formula x k, formula_read x k end f e g)
  what_read_lem (a_name n) p g = rw (p, name_no_unit n k, name_here n (loss_is_name n.bytes n.good) k end f g)
  what_read_lem an_electron p g = rw (p, electron_no_unit k)

-- ---- limits

count_text_lem : {m : ℕ} (c : Opt (From m)) → (opt_part (number_part max_count) c).text ≡ opt_text number_text c
count_text_lem silent = refl
count_text_lem (written n) = refl

-- of sign and count, by how many bytes are left
head_told : {m : ℕ} (bound i : ℕ) (sign : Sign) (c : Opt (From m)) (len end left : ℕ) (f : Option Refusal) → 1 ≤ left → left ≤ end
    → head_fault bound i (record { sign = sign; count = count_told c; len = len }) end left f
    ≡ after (join f (many_mark bound i (end - left))) ((opt_part (number_part max_count) c).marks (end - left + 1))
unfolding head_fault
head_told bound i sign silent len end left f h g = join_kept (join f (many_mark bound i (end - left))) (record { place = end - (left - 1); number = 4; broken = false }) refl
head_told bound i sign (written n) len end left f h g =
    mark_told (join f (many_mark bound i (end - left))) max_count n.value (end - (left - 1)) (end - left + 1) (omega arith) (omega arith)

-- of the whole: those of sign and count, and then of what stands behind them
marks_told : {m : ℕ} (bound i : ℕ) (x : Spelled m) (at : ℕ) (f : Option Refusal)
    → after (after (join f (many_mark bound i at)) ((opt_part (number_part max_count) x.count).marks (at + 1))) ((what_part x.what).marks (at + 1 + length (opt_text number_text x.count)))
    ≡ after f (change_marks bound i x at)
marks_told bound i x at f =
    let c = opt_part (number_part max_count) x.count in
    let w = what_part x.what in
    sym (after_append (join f (many_mark bound i at)) (c.marks (at + 1)) (w.marks (at + 1 + length (opt_text number_text x.count))))
    ∙ ap (λ (t : List ℕ). after (join f (many_mark bound i at)) (c.marks (at + 1) ++ w.marks (at + 1 + length t))) (sym (count_text_lem x.count))
    ∙ ap (λ (n : ℕ). after (join f (many_mark bound i at)) (c.marks (at + n) ++ w.marks (at + n + length c.text))) (sym (sign_long x.sign))
    ∙ ap (λ (l : List Mark). after (join f (many_mark bound i at)) (c.marks (at + length (sign_text x.sign)) ++ l)) (sym (append-nil (w.marks (at + length (sign_text x.sign) + length c.text))))

-- ---- the whole

module _ {m : ℕ} (x : Spelled m) (k : List ℕ) (bound i end : ℕ) (f : Option Refusal) (e : EndsFormula k) (h : length (change_text x ++ k) ≤ end) where
  -- the text from left to right
  abbrev behind_head : List ℕ
  behind_head = content_text x.what ++ k

  abbrev spread : List ℕ
  spread = sign_text x.sign ++ (opt_text number_text x.count ++ behind_head)

  abbrev head_read : Head
  head_read = record { sign = sign_read x.sign; count = count_told x.count; len = 1 + length (opt_text number_text x.count) }

  spread_long : length spread ≡ 1 + length (opt_text number_text x.count) + length behind_head
  spread_long =
      let a = length-append (sign_text x.sign) (opt_text number_text x.count ++ behind_head) in
      let b = length-append (opt_text number_text x.count) behind_head in
      omega (arith, a, b, sign_long x.sign)

  change_length : length (change_text x) ≡ 1 + length (opt_text number_text x.count) + length (content_text x.what)
  change_length =
      let a = length-append (sign_text x.sign) (opt_text number_text x.count ++ content_text x.what) in
      let b = length-append (opt_text number_text x.count) (content_text x.what) in
      omega (arith, a, b, sign_long x.sign)

  pub change_read_lem : change_of bound i end (change_text x ++ k) f ≡ change_read x (after f (change_marks bound i x (end - length (change_text x ++ k))))
  unfolding change_of
  change_read_lem =
      let at = end - length (change_text x ++ k) in
      let t = change_text_lem x k in
      let u : length (change_text x ++ k) ≡ length spread = ap length t in
      let v = spread_long in
      let l = change_length in
      let y = length-append (content_text x.what) k in
      let q : end - length spread ≡ at = omega arith in
      let g = head_fault bound i head_read end (length spread) f in
      let o : end - length behind_head ≡ at + 1 + length (opt_text number_text x.count) = omega arith in
      let n : min (head_read.len + length (content_text x.what)) (length spread) ≡ length (change_text x) = omega arith in
      let j : g ≡ after (join f (many_mark bound i at)) ((opt_part (number_part max_count) x.count).marks (at + 1)) =
      head_told bound i (sign_read x.sign) x.count head_read.len end (length spread) f (omega arith) (omega arith)
      ∙ ap (λ (p : ℕ). after (join f (many_mark bound i p)) ((opt_part (number_part max_count) x.count).marks (p + 1))) q in
      ap (λ (s : List ℕ). change_of bound i end s f) t
      ∙ ap (λ (h : Head). content_of end spread h (head_fault bound i h end (length spread) f)) (head_read_lem x.sign x.count behind_head (what_no_digit x.what k))
      ∙ what_read_lem spread head_read k end g e x.what (drop_read x.sign x.count behind_head) (omega arith)
      ∙ ap₂ (λ (len : ℕ) (z : Option Refusal). record { sign = sign_read x.sign; count = count_told x.count; start = head_read.len; content = what_content x.what; len = len; fault = z }) n
      (ap₂ (λ (z : Option Refusal) (p : ℕ). after z ((what_part x.what).marks p)) j o ∙ marks_told bound i x at f)
