-- What the stacks that may follow say of the prefix that was read, for a language Sp that the first of them have. No machine here. Assumes nothing.
use Prim.Native.Nat.{ℕ, ◌+◌, ◌<◌, ◌≤◌}
use mathlib.Core.Path.{◌≡◌, sym, ap, ◌∙◌, subst}
use mathlib.Core.Bool.{true, false}
use mathlib.Core.List.{List, [], ◌∷◌, ◌++◌, append-nil, append_assoc}
use mathlib.Core.Logic.{◌↔◌}
use native.Mathlib.Omega.{arith}
use native.Mathlib.Numerals.{add-one}
use lib.Dec.{T}
use lib.ListN.{length, get_or, take}
use lib.Seq.{take-suc, take-length}
use Rattle.lang.specs.Scan.{Begins, Stray}
use Rattle.lang.proofs.Deriv.{Stack}
use Rattle.lang.proofs.Same.{LA}
use Rattle.lang.proofs.Machine.{edges, takes, derive_in, derive_out, acc, acc_sound, acc_complete}

take_more : (l w : List ℕ) (i : ℕ) → i < length l → take i l ++ (get_or l i 0 ∷ w) ≡ take (i + 1) l ++ w
take_more l w i h = rw (add-one, take-suc l i 0) (sym (append_assoc (take i l) (get_or l i 0 ∷ []) w))

-- the first i bytes of l were read, and what may still follow is the language of S
pub record Reads (Sp : List ℕ → Type 0) (l : List ℕ) (S : List Stack) (i : ℕ) : Type 0 where
  pub within : i ≤ length l
  pub says : (w : List ℕ) → LA S w ↔ Sp (take i l ++ w)

module _ (Sp : List ℕ → Type 0) (l : List ℕ) where
  pub begin : (S : List Stack) → ((w : List ℕ) → LA S w ↔ Sp w) → Reads Sp l S 0
  begin S e = record { within = omega arith; says = e }

  -- after one byte more
  pub turn : (S R : List Stack) (i : ℕ) → Reads Sp l S i → i < length l → takes (edges S) (get_or l i 0) ≡ R → Reads Sp l R (i + 1)
  turn S R i r h p =
      record {
        within = omega arith;
        says = λ w.
            let b = get_or l i 0 in
            let e = take_more l w i h in (
              λ x. subst Sp e ((r.says (b ∷ w)).0 (derive_out S b w (subst (λ (Z : List Stack). LA Z w) (sym p) x))),
              λ s. subst (λ (Z : List Stack). LA Z w) p (derive_in S b w ((r.says (b ∷ w)).1 (subst Sp (sym e) s))),
            );
      }

  viable : (S : List Stack) (i : ℕ) → Reads Sp l S i → (w : List ℕ) × LA S w → Begins Sp (take i l)
  viable S i r a = (a.0, (r.says a.0).0 a.1)

  pub dies : (S : List Stack) (i : ℕ) → Reads Sp l S i → i < length l → (w : List ℕ) × LA S w → takes (edges S) (get_or l i 0) ≡ [] → Stray Sp l i
  dies S i r h a p =
      record {
        inside = h;
        begins = viable S i r a;
        stops = λ v. ((turn S [] i r h p).says v.0).1 v.1;
      }

  -- at the end
  whole : (S : List Stack) (i : ℕ) → Reads Sp l S i → length l ≤ i → take i l ≡ l
  whole S i r h = let w = r.within in let e : i ≡ length l = omega arith in ap (λ (m : ℕ). take m l) e ∙ take-length l

  pub fine : (S : List Stack) (i : ℕ) → Reads Sp l S i → length l ≤ i → acc S ≡ true → Sp l
  fine S i r h t = subst Sp (append-nil (take i l) ∙ whole S i r h) ((r.says []).0 (acc_sound S (subst T (sym t) tt)))

  pub short : (S : List Stack) (i : ℕ) → Reads Sp l S i → length l ≤ i → (w : List ℕ) × LA S w → acc S ≡ false → Begins Sp l × (Sp l → ⊥)
  short S i r h a f = (
    subst (Begins Sp) (whole S i r h) (viable S i r a),
    λ s. subst T f (acc_complete S ((r.says []).1 (subst Sp (sym (append-nil (take i l) ∙ whole S i r h)) s))),
  )
