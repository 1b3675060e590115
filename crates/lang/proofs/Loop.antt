-- The loop that runs a certified machine over a line, for a language Sp that is the start state's: its invariant, and what it answers. Assumes nothing.
use Prim.Native.Nat.{ℕ, ◌+◌, ◌<◌, ◌≤◌}
use mathlib.Core.Path.{◌≡◌, refl, sym, ap₂, ◌∙◌, subst₂}
use mathlib.Core.Bool.{Bool, true, false}
use mathlib.Core.List.{List}
use mathlib.Core.Logic.{◌↔◌, inl}
use lib.ListN.{length, get_or}
use Rattle.lang.specs.Scan.{Begins, Stray}
use Rattle.lang.proofs.Same.{LA}
use Rattle.lang.proofs.Machine.{edges, takes}
use Rattle.lang.proofs.Certify.{Tables, Certified, res, accepting}
use Rattle.lang.proofs.Deep.{Stands, move, res_at, goes, goes_in, dead_at, alive, ends}
use Rattle.lang.proofs.Prefix as P
use Rattle.lang.proofs.Prefix.{Reads}

-- the first i bytes were read, and the machine is in state q with d brackets more open
pub record Reading (Sp : List ℕ → Type 0) (M : Tables) (l : List ℕ) (q d i : ℕ) : Type 0 where
  pub stand : Stands M q d
  pub reads : Reads Sp l (res_at M q d) i

module _ (Sp : List ℕ → Type 0) (M : Tables) (C : Certified M) (l : List ℕ) where
  pub begin : 0 < M.states → ((w : List ℕ) → LA (res M 0) w ↔ Sp w) → Reading Sp M l 0 0 0
  begin h e = record { stand = record { small = h; flat = inl refl }; reads = P.begin Sp l (res M 0) e }

  module _ (q d i q' d' : ℕ) (r : Reading Sp M l q d i) (h : i < length l) (hb : get_or l i 0 < 256) (eq : q' ≡ (move M q d (get_or l i 0)).0) (ed : d' ≡ (move M q d (get_or l i 0)).1) where
    leads : takes (edges (res_at M q d)) (get_or l i 0) ≡ res_at M q' d'
    leads = goes M C q d (get_or l i 0) r.stand hb ∙ ap₂ (res_at M) (sym eq) (sym ed)

    pub turn : (q' ≡ M.states → ⊥) → Reading Sp M l q' d' (i + 1)
    turn ne =
        record {
          stand = subst₂ (Stands M) (sym eq) (sym ed) (goes_in M C q d (get_or l i 0) r.stand hb (λ x. ne (eq ∙ x)));
          reads = P.turn Sp l (res_at M q d) (res_at M q' d') i r.reads h leads;
        }

    pub dies : q' ≡ M.states → Stray Sp l i
    dies e = P.dies Sp l (res_at M q d) i r.reads h (alive M C q d r.stand) (leads ∙ dead_at M C q' d' e)

  module _ (q d i : ℕ) (r : Reading Sp M l q d i) (h : length l ≤ i) (a : Bool) (ea : a ≡ accepting M q) where
    pub fine : a ≡ true → Sp l
    fine t = P.fine Sp l (res_at M q d) i r.reads h (ends M C q d r.stand ∙ sym ea ∙ t)

    pub short : a ≡ false → Begins Sp l × (Sp l → ⊥)
    short f = P.short Sp l (res_at M q d) i r.reads h (alive M C q d r.stand) (ends M C q d r.stand ∙ sym ea ∙ f)
