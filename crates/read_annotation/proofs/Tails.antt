-- What is read of charge, deviation and confidence that are spelled. Assumes nothing.
use Prim.Native.Nat.{ℕ, ◌+◌, ◌-◌, ◌≤◌}
use mathlib.Core.Path.{◌≡◌, refl, sym, ap, ◌∙◌}
use mathlib.Core.Bool.{false}
use mathlib.Core.List.{List}
use native.Mathlib.Omega.{arith}
use lib.ListN.{length, length-append}
use Rattle.std.specs.Prelude.{Option}
use Rattle.lang.specs.Parts.{Opt, silent, written, opt_text}
use Rattle.rules.specs.Bytes.{bytes, digit}
use Rattle.rules.specs.Texts.{first_in, starts_with}
use Rattle.rules.specs.Numbers.{From}
use Rattle.rules.specs.Confidences.{Confidence, confidence_text}
use Rattle.rules.proofs.Confidences.{zero_left_out}
use Rattle.rules.specs.Annotations.{Deviation, charge_text, deviation_text}
use Rattle.rules.specs.Limits.{opt_part, charge_part, deviation_part, confidence_part}
use Rattle.numbers.specs.Points.{point}
use Rattle.faults.specs.declared.Refusal.{Refusal}
use Rattle.faults.specs.Faults.{after}
use Rattle.read_tail.specs.Decimals.{confidence_of}
use Rattle.read_tail.proofs.SpelledTail.{charge_read, charge_read_lem, confidence_read, confidence_read_lem, deviation_read, deviation_read_lem}
use Rattle.read_annotation.specs.declared.Tail.{Tail}
use Rattle.read_annotation.specs.Groups.{tail_of}
use Rattle.read_annotation.proofs.Groups.{tail_is}
use Rattle.read_annotation.proofs.Ends.{EndsAnnotation, behind_adduct, behind_charge, behind_deviation, ends_keep, confidence_keep, deviation_keep}
use Rattle.read_annotation.proofs.Chains.{drop_is, inside}

pub deviation_long : (d : Opt Deviation) (g : Option Refusal) → (deviation_read d g).len ≡ length (opt_text deviation_text d)
deviation_long silent g = refl
deviation_long (written d) g = refl

pub confidence_long : (c : Opt Confidence) (g : Option Refusal) → (confidence_read c g).len ≡ length (opt_text confidence_text c)
confidence_long silent g = refl
confidence_long (written c) g = refl

pub deviation_fault_lem : (d : Opt Deviation) (g : Option Refusal) → (deviation_read d g).fault ≡ g
deviation_fault_lem silent g = refl
deviation_fault_lem (written d) g = refl

pub confidence_fault_lem : (c : Opt Confidence) (g : Option Refusal) → (confidence_read c g).fault ≡ g
confidence_fault_lem silent g = refl
confidence_fault_lem (written c) g = refl

pub confidence_bare : (c : Opt Confidence) (g : Option Refusal) → (confidence_read c g).bare ≡ zero_left_out c
confidence_bare silent g = refl
confidence_bare (written c) g = refl

module _ (g : Opt (From 2)) (d : Opt Deviation) (c : Opt Confidence) (k : List ℕ) (end : ℕ) (f : Option Refusal) where
  -- the first broken limit behind each
  abbrev pub charge_fault : Option Refusal
  charge_fault = after f ((opt_part charge_part g).marks (end - length (behind_adduct g d c k)))

  abbrev pub deviation_fault : Option Refusal
  deviation_fault = after charge_fault ((opt_part deviation_part d).marks (end - length (behind_charge g d c k)))

  abbrev pub confidence_fault : Option Refusal
  confidence_fault = after deviation_fault ((opt_part confidence_part c).marks (end - length (behind_deviation g d c k)))

  abbrev pub tail_read : Tail
  tail_read =
      record {
        charge = charge_read g;
        deviation = deviation_read d deviation_fault;
        confidence = confidence_read c confidence_fault;
        len = length (opt_text charge_text g) + length (opt_text deviation_text d) + length (opt_text confidence_text c);
      }

  module _ (e : EndsAnnotation k) (h : length (behind_adduct g d c k) ≤ end) where
    pub tail_read_lem : tail_of end (behind_adduct g d c k) f ≡ tail_read
    tail_read_lem =
        let t = behind_charge g d c k in
        let u = behind_deviation g d c k in
        let ht = inside (opt_text charge_text g) t h in
        let hu = inside (opt_text deviation_text d) u ht in
        let pc = charge_read_lem g t end f
        (deviation_keep g d c k (λ s. first_in digit s ≡ false) refl (λ s. refl) e (λ s. refl) (λ s. refl))
        (deviation_keep g d c k (λ s. starts_with (bytes "^") s ≡ false) refl (λ s. refl) e (λ s. refl) (λ s. refl)) h in
        let pd = deviation_read_lem d u end charge_fault
        (confidence_keep g d c k (λ s. first_in digit s ≡ false) refl (λ s. refl) e (λ s. refl))
        (confidence_keep g d c k (λ s. first_in point s ≡ false) refl (λ s. refl) e (λ s. refl))
        (confidence_keep g d c k (λ s. starts_with (bytes "p") s ≡ false) refl (λ s. refl) e (λ s. refl))
        (confidence_keep g d c k (λ s. starts_with (bytes "/") s ≡ false) refl (λ s. refl) e (λ s. refl)) ht in
        let pe = confidence_read_lem c k end deviation_fault
        (ends_keep g d c k (λ s. first_in digit s ≡ false) refl (λ s. refl) e)
        (ends_keep g d c k (λ s. first_in point s ≡ false) refl (λ s. refl) e)
        (ends_keep g d c k (λ s. starts_with (bytes "*") s ≡ false) refl (λ s. refl) e) hu in
        let n : length (opt_text charge_text g) + length (opt_text deviation_text d) + length (opt_text confidence_text c) ≡ length (behind_adduct g d c k) - length k =
        omega (arith, length-append (opt_text charge_text g) t, length-append (opt_text deviation_text d) u, length-append (opt_text confidence_text c) k) in
        sym (tail_is end (behind_adduct g d c k) f (sym pc) (sym (drop_is (opt_text charge_text g) t refl)) (sym pd)
        (sym (drop_is (opt_text deviation_text d) u (deviation_long d deviation_fault)))
        (sym pe ∙ ap (confidence_of end u) (sym (deviation_fault_lem d deviation_fault)))
        (sym (drop_is (opt_text confidence_text c) k (confidence_long c confidence_fault))) n)
