-- An answer in its buffer: the code's is the model's, and where two bytes hold its numbers the model's is what the rules say.
-- Assumes nothing.
use Prim.Native.Nat.{ℕ, ◌-◌, ◌<◌, ◌≤◌}
use mathlib.Core.Path.{◌≡◌, refl, sym, ap, ap₂, ◌∙◌, subst}
use mathlib.Core.List.{List, ◌++◌}
use native.Mathlib.Omega.{arith}
use native.Mathlib.Decide.{dec_le}
use lib.ListN.{length, replicate}
use borrow.Author.Tests.{lt-ltb, le-ltb}
use Rattle.rules.specs.Limits.{max_line}
use Rattle.rules.specs.Answers.{Answer}
use Rattle.put_bytes.specs.Puts.{Put, cleared}
use Rattle.put_bytes.proofs.Putting.{put_length}
use Rattle.answers.specs.Delivered.{line_over, closed_over}
use Rattle.answers.proofs.Lines.{line_closed}
use Rattle.pack_answer.specs.Handed.{Handed, handed, packed_size, packed_of, done, AtMost, most, Hands, too_few, packs, short, handed_of}

-- ---- the code's is the model's

-- a few bytes from the start on, and zeros behind them
cleared_put : {d l e : List ℕ} {n : ℕ} → Put d 0 l e n → length l ≤ max_line → length l ≤ length d → cleared e n ≡ l ++ replicate (length d - length l) 0
unfolding closed_over line_over
cleared_put {d} {l} {e} {n} p s h =
    ap (λ (a : Answer). a.out) (sym line_done ∙ line_closed p ∙ line_given)
  where
    line_done : closed_over e n ≡ record { number = 0; place = 0; size = n; out = cleared e n }
    line_done =
        let k : n ≡ length l = omega (arith, p.next, p.small) in
        let q : length e ≡ length d = put_length p in
        rw (le-ltb max_line n (omega arith), le-ltb (length e) n (omega arith))

    line_given : line_over l (length d) ≡ record { number = 0; place = 0; size = length l; out = l ++ replicate (length d - length l) 0 }
    line_given = rw (le-ltb max_line (length l) s, le-ltb (length d) (length l) h)

module _ (a : Answer) (room : ℕ) where
  pub few_handed : (n : ℕ) {out packed : List ℕ} → n < packed_size → out ≡ replicate room 0 → packed ≡ replicate n 0
      → handed 8 out packed ≡ handed_of room a n
  unfolding handed_of
  few_handed n h z y = rw (lt-ltb n packed_size h, z, y)

  pub all_handed : {d e f : List ℕ} {number place size end : ℕ} → packed_size ≤ length d → number ≡ short a.number → place ≡ short a.place
      → size ≡ short a.size → Put d 0 (packed_of number place size) e end → f ≡ cleared e end → handed number a.out f ≡ handed_of room a (length d)
  unfolding handed_of
  all_handed {d} {number = number} {place = place} {size = size} h x y z p c =
      rw (le-ltb (length d) packed_size h, sym x, sym y, sym z, c ∙ cleared_put p (omega arith) h)

-- an output keeps its length, and the answer is the model's
pub handed_on : (n : ℕ) {room left : ℕ} {a b : Answer} {x : Handed} → left ≡ room → a ≡ b → x ≡ handed_of left a n → x ≡ handed_of room b n
handed_on n l e x = x ∙ ap₂ (λ (k : ℕ) (a : Answer). handed_of k a n) l e

-- ---- the model's is what the rules say

module _ (a : Answer) where
  as_it_is : AtMost most a → (n : ℕ)
      → done (short a.number) (short a.place) (short a.size) a.out n ≡ done a.number a.place a.size a.out n
  as_it_is h n =
      let x : short a.number ≡ a.number = omega (arith, h.number) in
      let y : short a.place ≡ a.place = omega (arith, h.place) in
      let z : short a.size ≡ a.size = omega (arith, h.size) in
      rw (x, y, z)

  pub hands : {Answers : Answer → Type 0} {room left n : ℕ} {x : Handed} → Answers a → AtMost most a → left ≡ room → x ≡ handed_of left a n
      → Hands Answers room n x
  unfolding handed_of
  hands {Answers} {room} {left} {n} y h l e = subst (Hands Answers room n) (sym (handed_on n l refl e)) (by (dec_le packed_size n))
    where
      by : Dec (packed_size ≤ n) → Hands Answers room n (handed_of room a n)
      by (yes g) = rw (le-ltb n packed_size g) (subst (Hands Answers room n) (sym (as_it_is h n)) (packs g y h))
      by (no g) = rw (lt-ltb n packed_size (omega arith)) (too_few (omega arith))
