-- What is read of a sign and a count, a text in braces and a name in brackets that are spelled. Assumes nothing.
use Prim.Native.Nat.{ℕ, ◌+◌, ◌-◌, ◌≤◌, ◌<◌}
use mathlib.Core.Path.{◌≡◌, refl, sym, ap, ap₂, ◌∙◌}
use mathlib.Core.Bool.{Bool, true, false, not, ◌&&◌}
use mathlib.Core.List.{List, [], ◌∷◌, ◌++◌, append_assoc}
use native.Mathlib.Omega.{arith}
use lib.Dec.{T, ltb}
use lib.ListN.{length, drop, length-append}
use lib.Seq.{drop-append_seam, drop-append-add}
use borrow.Author.Tests.{ltb-true, ne_eqb}
use Rattle.std.specs.Prelude.{Option}
use Rattle.lang.specs.Parts.{Opt, silent, written, opt_text, Such}
use Rattle.rules.specs.Bytes.{bytes, digit, text_byte}
use Rattle.rules.specs.Texts.{first_in, starts_with, is_name, Text, braced_text, bracket_text}
use Rattle.rules.specs.Numbers.{From, number_text}
use Rattle.rules.specs.Losses.{Sign, minus, plus, sign_text}
use Rattle.rules.specs.Stored.{bytes_of}
use Rattle.rules.specs.Limits.{max_text, length_mark, opt_part, closed_part}
use Rattle.changes.proofs.Signs.{sign_read}
use Rattle.numbers.specs.declared.Number.{Number}
use Rattle.numbers.specs.Leading.{number_of}
use Rattle.numbers.proofs.SpelledNumbers.{number_read, number_silent}
use Rattle.numbers.proofs.Bounds.{some_digits}
use Rattle.texts.specs.Leading.{leading_in}
use Rattle.texts.specs.Names.{name_length}
use Rattle.texts.proofs.LeadingBytes.{text_ends}
use Rattle.texts.proofs.NameEnds.{name_ends}
use Rattle.faults.specs.declared.Refusal.{Refusal}
use Rattle.faults.specs.Faults.{join, after}
use Rattle.read_formula.specs.Units.{or_one}
use Rattle.faults.proofs.Marks.{join_kept}
use Rattle.read_formula.proofs.Spelled.{capped}
use Rattle.read_opening.specs.declared.Head.{Head}
use Rattle.read_opening.specs.Heads.{head_of, behind, begins_sign, begins_isotope, begins_change}
use Rattle.read_opening.specs.Enclosed.{long_mark, enclosed_of, text_of, name_of}

-- ---- sign and count

-- a count as it is read; a silent count is 1
abbrev pub count_told : {m : ℕ} → Opt (From m) → ℕ
count_told silent = 1
count_told (written n) = capped n.value

abbrev count_number : {m : ℕ} → Opt (From m) → Number
count_number silent = record { value = 0; len = 0 }
count_number (written n) = record { value = capped n.value; len = length (number_text n) }

count_number_lem : {m : ℕ} (c : Opt (From m)) (k : List ℕ) → first_in digit k ≡ false → number_of (opt_text number_text c ++ k) ≡ count_number c
count_number_lem silent k d = number_silent k d
count_number_lem (written n) k d = number_read n.value k d

count_one : {m : ℕ} (c : Opt (From m)) → or_one (count_number c) ≡ count_told c
count_one silent = refl
count_one (written n) = rw (ne_eqb (length (number_text n)) 0 (λ z. omega (arith, some_digits n.value)))

count_long : {m : ℕ} (c : Opt (From m)) → (count_number c).len ≡ length (opt_text number_text c)
count_long silent = refl
count_long (written n) = refl

pub sign_long : (g : Sign) → length (sign_text g) ≡ 1
sign_long minus = refl
sign_long plus = refl

sign_begins : (g : Sign) (k : List ℕ) → begins_sign (sign_text g ++ k) ≡ true
sign_begins minus k = refl
sign_begins plus k = refl

module _ {m : ℕ} (g : Sign) (c : Opt (From m)) (k : List ℕ) where
  -- what stands behind a sign and a count that are spelled
  pub drop_read : drop (1 + length (opt_text number_text c)) (sign_text g ++ (opt_text number_text c ++ k)) ≡ k
  drop_read = by g
    where
      by : (g : Sign) → drop (1 + length (opt_text number_text c)) (sign_text g ++ (opt_text number_text c ++ k)) ≡ k
      by minus = drop-append-add (45 ∷ []) (opt_text number_text c ++ k) (length (opt_text number_text c)) ∙ drop-append_seam (opt_text number_text c) k
      by plus = drop-append-add (43 ∷ []) (opt_text number_text c ++ k) (length (opt_text number_text c)) ∙ drop-append_seam (opt_text number_text c) k

  module _ (d : first_in digit k ≡ false) where
    pub head_read_lem : head_of (sign_text g ++ (opt_text number_text c ++ k)) ≡ record { sign = sign_read g; count = count_told c; len = 1 + length (opt_text number_text c) }
    unfolding head_of
    head_read_lem = by g
      where
        by : (g : Sign) → head_of (sign_text g ++ (opt_text number_text c ++ k)) ≡ record { sign = sign_read g; count = count_told c; len = 1 + length (opt_text number_text c) }
        by minus = rw (count_number_lem c k d, count_one c, count_long c)
        by plus = rw (count_number_lem c k d, count_one c, count_long c)

    pub behind_read : behind (sign_text g ++ (opt_text number_text c ++ k)) ≡ k
    behind_read = ap (λ (h : Head). drop h.len (sign_text g ++ (opt_text number_text c ++ k))) head_read_lem ∙ drop_read

    letter_behind : starts_with (bytes "i") (behind (sign_text g ++ (opt_text number_text c ++ k))) ≡ starts_with (bytes "i") k
    letter_behind = ap (starts_with (bytes "i")) behind_read

    isotope_if : begins_isotope (sign_text g ++ (opt_text number_text c ++ k)) ≡ starts_with (bytes "i") k
    unfolding begins_isotope
    isotope_if = ap₂ (λ (x y : Bool). x && y) (sign_begins g (opt_text number_text c ++ k)) letter_behind

    change_if : begins_change (sign_text g ++ (opt_text number_text c ++ k)) ≡ not (starts_with (bytes "i") k)
    unfolding begins_change
    change_if = ap₂ (λ (x y : Bool). x && not y) (sign_begins g (opt_text number_text c ++ k)) letter_behind

    pub change_begins : starts_with (bytes "i") k ≡ false → (begins_change (sign_text g ++ (opt_text number_text c ++ k)) ≡ true) × (begins_isotope (sign_text g ++ (opt_text number_text c ++ k)) ≡ false)
    change_begins e = (change_if ∙ ap not e, isotope_if ∙ e)

    pub isotope_begins : starts_with (bytes "i") k ≡ true → (begins_isotope (sign_text g ++ (opt_text number_text c ++ k)) ≡ true) × (begins_change (sign_text g ++ (opt_text number_text c ++ k)) ≡ false)
    isotope_begins e = (isotope_if ∙ e, change_if ∙ ap not e)

pub no_sign : (k : List ℕ) → begins_sign k ≡ false → (begins_change k ≡ false) × (begins_isotope k ≡ false)
unfolding begins_change begins_isotope
no_sign k e = (ap (λ (x : Bool). x && not (starts_with (bytes "i") (behind k))) e, ap (λ (x : Bool). x && starts_with (bytes "i") (behind k)) e)

-- ---- texts in braces, names in brackets

-- the place of a limit that is not broken does not matter
long_told : (f : Option Refusal) (n p q : ℕ) → (max_text < n → p ≡ q) → join f (long_mark n p) ≡ join f (long_mark n q)
long_told f n p q h = by (ltb max_text n) refl
  where
    by : (t : Bool) → ltb max_text n ≡ t → join f (long_mark n p) ≡ join f (long_mark n q)
    by true e = ap (λ (x : ℕ). join f (long_mark n x)) (h (ltb-true max_text n e))
    by false e = join_kept f (long_mark n p) e ∙ sym (join_kept f (long_mark n q) e)

-- what is read of n bytes between two, where these stand
closed_told : (n left end : ℕ) (f : Option Refusal) → n + 2 ≤ left → left ≤ end
    → enclosed_of n left end f ≡ record { size = n; len = n + 2; fault = join f (long_mark n (end - left + 1 + max_text)) }
unfolding enclosed_of
closed_told n left end f h g =
    ap₂ (λ (l : ℕ) (e : Option Refusal). record { size = n; len = l; fault = e }) (omega arith)
    (long_told f n (end - (left - 256)) (end - left + 1 + max_text) (λ m. omega arith))

module _ (a z : ℕ) (w k : List ℕ) where
  abbrev enclosed_by : List ℕ
  enclosed_by = (a ∷ []) ++ (w ++ (z ∷ []))

  enclosed_text : enclosed_by ++ k ≡ a ∷ (w ++ (z ∷ k))
  enclosed_text = simp append_assoc

  enclosed_long : length enclosed_by ≡ length w + 2
  enclosed_long = simp length-append (omega arith)

  -- the bytes as the rules measure and mark them
  enclosed_read : (end : ℕ) (f : Option Refusal) → length (enclosed_by ++ k) ≤ end
      → enclosed_of (length w) (length (enclosed_by ++ k)) end f
      ≡ record { size = length w; len = length enclosed_by; fault = after f (length_mark w (end - length (enclosed_by ++ k) + 1)) }
  enclosed_read end f h =
      let l = enclosed_long in
      let t : length (enclosed_by ++ k) ≡ length enclosed_by + length k = length-append enclosed_by k in
      closed_told (length w) (length (enclosed_by ++ k)) end f (omega arith) h
      ∙ ap (λ (x : ℕ). record { size = length w; len = x; fault = after f (length_mark w (end - length (enclosed_by ++ k) + 1)) }) (sym l)

pub text_here : (t : Text) (k : List ℕ) (end : ℕ) (f : Option Refusal) → length (braced_text t ++ k) ≤ end
    → text_of end (braced_text t ++ k) f
    ≡ record { size = length t.bytes; len = length (braced_text t); fault = after f ((closed_part braced_text t).marks (end - length (braced_text t ++ k))) }
unfolding text_of
text_here t k end f h =
    let e : leading_in text_byte (drop 1 (braced_text t ++ k)) ≡ length t.bytes = ap (λ (s : List ℕ). leading_in text_byte (drop 1 s)) (enclosed_text 123 125 t.bytes k) ∙ text_ends t k in
    ap (λ (n : ℕ). enclosed_of n (length (braced_text t ++ k)) end f) e ∙ enclosed_read 123 125 t.bytes k end f h

pub text_read : (t : Opt Text) (k : List ℕ) (end : ℕ) (f : Option Refusal) → starts_with (bytes "{") k ≡ false → length (opt_text braced_text t ++ k) ≤ end
    → text_of end (opt_text braced_text t ++ k) f
    ≡ record { size = length (bytes_of t); len = length (opt_text braced_text t); fault = after f ((opt_part (closed_part braced_text) t).marks (end - length (opt_text braced_text t ++ k))) }
unfolding text_of
text_read silent k end f e h = rw e
text_read (written t) k end f e h = text_here t k end f h

pub name_here : {test : List ℕ → Bool} (n : Such test) → T (is_name n.bytes) → (k : List ℕ) (end : ℕ) (f : Option Refusal) → length (bracket_text n ++ k) ≤ end
    → name_of end (bracket_text n ++ k) f
    ≡ record { size = length n.bytes; len = length (bracket_text n); fault = after f ((closed_part bracket_text n).marks (end - length (bracket_text n ++ k))) }
unfolding name_of
name_here n g k end f h =
    let e : name_length (drop 1 (bracket_text n ++ k)) ≡ length n.bytes = ap (λ (s : List ℕ). name_length (drop 1 s)) (enclosed_text 91 93 n.bytes k) ∙ name_ends n.bytes k g in
    ap (λ (x : ℕ). enclosed_of x (length (bracket_text n ++ k)) end f) e ∙ enclosed_read 91 93 n.bytes k end f h
