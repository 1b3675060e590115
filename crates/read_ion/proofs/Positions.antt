-- What is read of a series and of an internal ion that are spelled. Assumes nothing.
use Prim.Native.Nat.{ℕ, ◌+◌, ◌-◌, ◌≤◌, min}
use mathlib.Core.Path.{◌≡◌, refl, sym, ap, ap₂, ◌∙◌}
use mathlib.Core.List.{List, [], ◌∷◌, ◌++◌}
use native.Mathlib.Omega.{arith}
use lib.ListN.{length, drop, length-append}
use lib.Seq.{drop-drop, drop-append_seam, drop-append-add}
use Rattle.std.specs.Prelude.{Option}
use Rattle.lang.specs.Parts.{Opt, opt_text, word_of}
use Rattle.lang.specs.Mark.{marks_of}
use Rattle.rules.specs.Numbers.{Number, number_text}
use Rattle.rules.specs.Texts.{Text, braced_text}
use Rattle.rules.specs.Ions.{Series, Letters, series, internal, ion_text}
use Rattle.rules.specs.Fields.{filled_cut}
use Rattle.rules.specs.Stored.{bytes_of, held_cut}
use Rattle.rules.specs.Limits.{max_position, number_mark, opt_part, closed_part, ion_parts}
use Rattle.numbers.proofs.SpelledNumbers.{number_begins, number_read}
use Rattle.faults.specs.declared.Refusal.{Refusal}
use Rattle.faults.specs.Faults.{after}
use Rattle.read_formula.proofs.Spelled.{capped}
use Rattle.read_formula.proofs.Limits.{mark_told}
use Rattle.read_opening.proofs.SpelledOpenings.{text_read}
use Rattle.read_ion.specs.declared.IonKind.TheVariants as kinds
use Rattle.read_ion.specs.Kinds.{series_of, internal_of}
use Rattle.read_ion.specs.Ions.{ion_by, ion_of}
use Rattle.read_ion.proofs.OneIon.{ion_read, ended}
use Rattle.read_ion.proofs.Cuts.{cut_read}
use Rattle.read_ion.proofs.Words.{letters_read, series_first}
use Rattle.read_ion.proofs.Ends.{EndsIon, text_no_digit}

-- ---- series

module _ (s : Series) (n : Number) (t : Opt Text) (k : List ℕ) where
  -- the text behind the number, and from the first letter on
  abbrev text_on : List ℕ
  text_on = opt_text braced_text t ++ k

  abbrev pub series_on : List ℕ
  series_on = word_of s ++ (number_text n ++ text_on)

  pub series_long : length series_on ≡ length (word_of s) + (length (number_text n) + length text_on)
  series_long = length-append (word_of s) (number_text n ++ text_on) ∙ ap (λ (l : ℕ). length (word_of s) + l) (length-append (number_text n) text_on)

  pub series_start : drop (length (word_of s) + length (number_text n)) series_on ≡ text_on
  series_start =
      sym (drop-drop (length (number_text n)) (length (word_of s)) series_on) ∙ ap (drop (length (number_text n))) (drop-append_seam (word_of s) (number_text n ++ text_on))
      ∙ drop-append_seam (number_text n) text_on

  module _ (end : ℕ) (f : Option Refusal) where
    abbrev series_mark : ℕ → Option Refusal
    series_mark at = after f (number_mark max_position n.value at)

    series_fault : length series_on ≤ end
        → after (after f (number_mark max_position (capped n.value) (end - (length series_on - length (word_of s))))) ((opt_part (closed_part braced_text) t).marks (end - length text_on))
        ≡ after f (marks_of (end - length series_on) (ion_parts (series s n t)))
    series_fault h =
        let l = series_long in
        ap₂ (λ (g : Option Refusal) (at : ℕ). after g ((opt_part (closed_part braced_text) t).marks at))
        (mark_told f max_position n.value (end - (length series_on - length (word_of s))) (end - length series_on + length (word_of s)) (omega arith) (omega arith))
        (let a : end - length text_on ≡ end - length series_on + length (word_of s) + length (number_text n) = omega arith in a)
        ∙ ended (series_mark (end - length series_on + length (word_of s))) ((opt_part (closed_part braced_text) t).marks (end - length series_on + length (word_of s) + length (number_text n)))

    series_of_lem : EndsIon k → length series_on ≤ end → series_of end series_on f ≡ ion_read (series s n t) (after f (marks_of (end - length series_on) (ion_parts (series s n t))))
    unfolding series_of
    series_of_lem e h =
        let l = series_long in
        let m : min (length (word_of s) + length (number_text n)) (length series_on) ≡ length (word_of s) + length (number_text n) = omega arith in
        let o : length text_on ≤ end = omega arith in
        let b = length-append (opt_text braced_text t) k in
        let w : length (ion_text (series s n t)) ≡ length (word_of s) + (length (number_text n) + length (opt_text braced_text t)) =
        length-append (word_of s) (number_text n ++ opt_text braced_text t) ∙ ap (λ (l : ℕ). length (word_of s) + l) (length-append (number_text n) (opt_text braced_text t)) in
        rw (
          letters_read s (number_text n ++ text_on) (number_begins n.value text_on),
          drop-append_seam (word_of s) (number_text n ++ text_on),
          number_read n.value text_on (text_no_digit t k e.no_digit),
          m,
          series_start,
          text_read t k end (after f (number_mark max_position (capped n.value) (end - (length series_on - length (word_of s))))) e.no_brace o,
        )
        (ap₂ (λ (l : ℕ) (g : Option Refusal).
        record { kind = kinds.Series; letter = s.which + 1; position = capped n.value; last = 0; start = length (word_of s) + length (number_text n); units = 0; text = length (bytes_of t); len = l; fault = g })
        (let z : min (length (word_of s) + length (number_text n) + length (opt_text braced_text t)) (length series_on) ≡ length (ion_text (series s n t)) = omega arith in z)
        (series_fault h))

    pub series_read : EndsIon k → length series_on ≤ end → ion_of end series_on f ≡ ion_read (series s n t) (after f (marks_of (end - length series_on) (ion_parts (series s n t))))
    series_read e h = sym (series_first s (number_text n ++ text_on) end f) ∙ series_of_lem e h

-- ---- internal ions

module _ (c : Letters) (m n : Number) (t : Opt Text) (k : List ℕ) where
  -- the text behind the second number, from that number on, from the first on, and from the first letter on
  abbrev tail_on : List ℕ
  tail_on = opt_text braced_text t ++ k

  abbrev second_on : List ℕ
  second_on = number_text n ++ tail_on

  abbrev first_on : List ℕ
  first_on = number_text m ++ (58 ∷ second_on)

  abbrev letters : List ℕ
  letters = opt_text word_of c

  abbrev pub internal_on : List ℕ
  internal_on = 109 ∷ (letters ++ first_on)

  internal_long : length internal_on ≡ 2 + length letters + length (number_text m) + (length (number_text n) + length tail_on)
  internal_long = omega (arith, length-append letters first_on, length-append (number_text m) (58 ∷ second_on), length-append (number_text n) tail_on)

  first_start : drop (1 + length letters) internal_on ≡ first_on
  first_start = drop-append-add (109 ∷ []) (letters ++ first_on) (length letters) ∙ drop-append_seam letters first_on

  second_start : drop (1 + length letters + length (number_text m) + 1) internal_on ≡ second_on
  second_start =
      sym (drop-drop 1 (1 + length letters + length (number_text m)) internal_on)
      ∙ ap (drop 1) (sym (drop-drop (length (number_text m)) (1 + length letters) internal_on) ∙ ap (drop (length (number_text m))) first_start ∙ drop-append_seam (number_text m) (58 ∷ second_on))

  pub internal_start : drop (1 + length letters + length (number_text m) + 1 + length (number_text n)) internal_on ≡ tail_on
  internal_start =
      sym (drop-drop (length (number_text n)) (1 + length letters + length (number_text m) + 1) internal_on) ∙ ap (drop (length (number_text n))) second_start ∙ drop-append_seam (number_text n) tail_on

  module _ (end : ℕ) (f : Option Refusal) where
    -- the fault behind each number
    abbrev first_told : ℕ → ℕ → Option Refusal
    first_told v at = after f (number_mark max_position v at)

    abbrev both_told : ℕ → ℕ → ℕ → ℕ → Option Refusal
    both_told v at w at₂ = after (first_told v at) (number_mark max_position w at₂)

    abbrev first_place : ℕ
    first_place = end - (length internal_on - (1 + length letters))

    abbrev second_place : ℕ
    second_place = end - (length internal_on - (1 + length letters + length (number_text m) + 1))

    internal_fault : length internal_on ≤ end
        → after (both_told (capped m.value) first_place (capped n.value) second_place) ((opt_part (closed_part braced_text) t).marks (end - length tail_on))
        ≡ after f (marks_of (end - length internal_on) (ion_parts (internal c m n t)))
    internal_fault h =
        let l = internal_long in
        let p = end - length internal_on + 1 + length letters in
        let q = p + length (number_text m) + 1 in
        let a : end - length tail_on ≡ q + length (number_text n) = omega arith in
        let b : second_place ≡ q = omega arith in
        ap₂ (λ (g : Option Refusal) (at : ℕ). after g ((opt_part (closed_part braced_text) t).marks at))
        (ap (λ (g : Option Refusal). after g (number_mark max_position (capped n.value) second_place)) (mark_told f max_position m.value first_place p (omega arith) (omega arith))
        ∙ mark_told (first_told m.value p) max_position n.value second_place q (omega arith) b)
        a
        ∙ ended (both_told m.value p n.value q) ((opt_part (closed_part braced_text) t).marks (q + length (number_text n)))

    internal_of_lem : EndsIon k → length internal_on ≤ end → internal_of end internal_on f ≡ ion_read (internal c m n t) (after f (marks_of (end - length internal_on) (ion_parts (internal c m n t))))
    unfolding internal_of
    internal_of_lem e h =
        let l = internal_long in
        let u : min (1 + length letters) (length internal_on) ≡ 1 + length letters = omega arith in
        let p : min (min (1 + length letters + length (number_text m)) (length internal_on) + 1) (length internal_on) ≡ 1 + length letters + length (number_text m) + 1 = omega arith in
        let q : min (1 + length letters + length (number_text m) + 1 + length (number_text n)) (length internal_on) ≡ 1 + length letters + length (number_text m) + 1 + length (number_text n) = omega arith in
        let o : length tail_on ≤ end = omega arith in
        let z : min (1 + length letters + length (number_text m) + 1 + length (number_text n) + length (opt_text braced_text t)) (length internal_on) ≡ length (ion_text (internal c m n t)) =
        omega (
          arith,
          length-append (opt_text braced_text t) k,
          length-append letters (number_text m ++ (58 ∷ (number_text n ++ opt_text braced_text t))),
          length-append (number_text m) (58 ∷ (number_text n ++ opt_text braced_text t)),
          length-append (number_text n) (opt_text braced_text t),
        ) in
        rw (
          cut_read c first_on (number_begins m.value (58 ∷ second_on)),
          u,
          first_start,
          number_read m.value (58 ∷ second_on) refl,
          p,
          second_start,
          number_read n.value tail_on (text_no_digit t k e.no_digit),
          q,
          internal_start,
          text_read t k end (both_told (capped m.value) first_place (capped n.value) second_place) e.no_brace o,
        )
        (ap₂ (λ (l : ℕ) (g : Option Refusal).
        record { kind = kinds.Internal; letter = held_cut (filled_cut c); position = capped m.value; last = capped n.value; start = 1 + length letters + length (number_text m) + 1 + length (number_text n); units = 0; text = length (bytes_of t); len = l; fault = g })
        z (internal_fault h))

    pub internal_read : EndsIon k → length internal_on ≤ end → ion_of end internal_on f ≡ ion_read (internal c m n t) (after f (marks_of (end - length internal_on) (ion_parts (internal c m n t))))
    unfolding ion_of ion_by
    internal_read e h = internal_of_lem e h
