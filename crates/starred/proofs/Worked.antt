-- Lines that are read: what a worked line shows is all that reading and writing answer. Assumes nothing.
use Prim.Native.Nat.{ℕ, ◌≤◌}
use Prim.Native.String.{String}
use mathlib.Core.Path.{◌≡◌, sym, ap, ◌∙◌, subst}
use mathlib.Core.Bool.{Bool, true, false}
use mathlib.Core.List.{List, [], ◌∷◌, nil≢cons}
use mathlib.Core.Logic.{inl, inr}
use lib.Dec.{T}
use lib.ListN.{length}
use Rattle.lang.specs.Mark.{Mark, here, later, Kept}
use Rattle.lang.proofs.Tests.{Case, case, t_is}
use Rattle.lang.proofs.FirstBroken.{in_none}
use Rattle.rules.specs.Bytes.{bytes}
use Rattle.rules.specs.Lines.{Spelling, all_unlettered, within}
use Rattle.rules.specs.Limits.{max_line, line_marks}
use Rattle.rules.specs.Answers.{Answer, Delivers, ReadsSum, ReadsRules, ReadsForm, ReadsSpelling, Reads, Holds, Writes}
use Rattle.rules.proofs.TableOf.{table_of}
use Rattle.rules.proofs.Meant.{means_some}
use Rattle.rules.proofs.PreferredSpells.{preferred_within}
use Rattle.rules.specs.Editions.{LineEdition, first_lines, second_lines, current}
use Rattle.rules.proofs.WritesOne.{writes_one}
use Rattle.rules.proofs.worked.Row.{broken, Worked}
use Rattle.shape.proofs.Unambiguous.{reads_one}
use Rattle.starred.specs.Becomes.{ReadAs}
use Rattle.starred.proofs.Only.{only, some_delivery}

-- ---- the list of broken limits is empty

listed : (m : Mark) (ms : List Mark) → m.broken ≡ true → broken (m ∷ ms) ≡ m ∷ broken ms
listed m ms e = ap (λ (b : Bool). elim b as (λ x. List Mark) [ true ↦ m ∷ broken ms | false ↦ broken ms ]) e

unlisted : (m : Mark) (ms : List Mark) → m.broken ≡ false → broken (m ∷ ms) ≡ broken ms
unlisted m ms e = ap (λ (b : Bool). elim b as (λ x. List Mark) [ true ↦ m ∷ broken ms | false ↦ broken ms ]) e

pub none_broken : (ms : List Mark) → broken ms ≡ [] → Kept ms
none_broken [] e n i t = in_none i
none_broken (m ∷ ms) e n here t = nil≢cons (sym e ∙ listed m ms (t_is m.broken t))
none_broken (m ∷ ms) e n (later i) t = none_broken ms (by (case m.broken)) n i t
  where
    by : Case m.broken → broken ms ≡ []
    by (inl b) = absurd (nil≢cons (sym e ∙ listed m ms b))
    by (inr b) = sym (unlisted m ms b) ∙ e

-- a spelling without letters is one of each edition of lines
pub in_each : (s : Spelling) → T (all_unlettered s) → (l : LineEdition) → T (within l s)
in_each s u first_lines = u
in_each s u second_lines = tt

-- ---- a worked line without letters, neither it nor the line that is best too long

module _ {line : String} {s : Spelling} {size : ℕ} {table : List ℕ} {best : String} (w : Worked line s size table best) (u : T (all_unlettered s))
    (h : length (bytes line) ≤ max_line) (k : length (bytes best) ≤ max_line) where
  kept : Kept (line_marks s)
  kept = none_broken (line_marks s) w.limits

  read_so : (l : LineEdition) (room : ℕ) (a : Answer) → Delivers room table a → Reads l (bytes line) room a
  read_so l room a d =
      let e = subst (λ (t : List ℕ). Delivers room t a) (sym w.stores) d in
      Reads.spelled h s (in_each s u l) w.text
      (ReadsSpelling.kept kept (ReadsForm.kept w.form (ReadsRules.kept w.rules (ReadsSum.kept w.sum (table_of s) (means_some s) e))))

  held : Holds current table (table_of s)
  held =
      record {
        sound = record { spelling = s; edition = tt; says = means_some s; limits = kept; form = w.form; rules = w.rules; sum = w.sum };
        is = w.stores;
      }

  written_so : (l : LineEdition) (room : ℕ) (a : Answer) → Delivers room (bytes best) a → Writes l table room a
  written_so l room a d =
      let e = subst (λ (t : List ℕ). Delivers room t a) (sym w.writes) d in
      Writes.fits (table_of s) held (preferred_within l (means_some s) (in_each s u l)) (subst (λ (t : List ℕ). length t ≤ max_line) (sym w.writes) k) e

  pub read_as : ReadAs line size table best
  read_as =
      record {
        long = w.long;
        reads = λ l room.
            let d = some_delivery room table in
            only (Reads l (bytes line) room) (Delivers room table) (λ a b. reads_one) (read_so l room) d.0 d.1;
        writes = λ l room.
            let d = some_delivery room (bytes best) in
            only (Writes l table room) (Delivers room (bytes best)) (λ a b. writes_one) (written_so l room) d.0 d.1;
      }
