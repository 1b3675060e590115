-- Digits of bytes, one after the other, and answers by their number. Assumes nothing.
use Prim.Native.Nat.{ℕ, ◌+◌, ◌≤◌, ◌<◌}
use mathlib.Core.Path.{◌≡◌, sym, ap, ◌∙◌}
use mathlib.Core.List.{List, [], ◌∷◌, ◌++◌}
use lib.ListN.{length, get_or, take, drop, drop_of_length-le}
use borrow.Author.Tests.{ne_eqb}
use Rattle.lang.specs.Parts.{flat}
use Rattle.put_bytes.proofs.PutLoop.{run_more}
use Rattle.std.specs.Prelude.{Ok, Err}
use Rattle.faults.specs.declared.Refusal.{Refusal}
use Rattle.faults.specs.Refusals.{number_of}
use Rattle.answers.specs.Delivered.{Answer}
use Rattle.answers.proofs.One.{number_not_0}
use Rattle.io_answers.specs.Tells.{hex_byte, refusal_text, told_briefly}

pub hex_more : (s : List ℕ) (i : ℕ) → i < length s → flat hex_byte (drop i s) ≡ hex_byte (get_or s i 0) ++ flat hex_byte (drop (i + 1) s)
hex_more s i h = ap (flat hex_byte) (run_more s i h)

pub hex_none : (s : List ℕ) (i : ℕ) → length s ≤ i → flat hex_byte (drop i s) ≡ []
hex_none s i h = ap (flat hex_byte) (drop_of_length-le s h)

-- of a refusal, or of so many bytes
pub brief_refused : {a : Answer} {r : Refusal} (table : List ℕ) → a ≡ Err r → refusal_text r ++ (10 ∷ []) ≡ told_briefly a table
brief_refused {r = r} table h = rw (h, ne_eqb (number_of r.why) 0 (number_not_0 r.why))

pub brief_digits : {a : Answer} {n : ℕ} {p : List ℕ} (table : List ℕ) → a ≡ Ok n → p ≡ take n table → flat hex_byte p ++ (10 ∷ []) ≡ told_briefly a table
brief_digits table h e = ap (λ (l : List ℕ). flat hex_byte l ++ (10 ∷ [])) e ∙ ap (λ (x : Answer). told_briefly x table) (sym h)
