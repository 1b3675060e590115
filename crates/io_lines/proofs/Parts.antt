-- What a look at the bytes that are left finds, and what is left then. Assumes nothing.
use Prim.Native.Nat.{ℕ, ◌+◌, ◌-◌, ◌<◌}
use borrow.Author.Tests.{ltb-false}
use mathlib.Core.Path.{◌≡◌, refl, sym, ap, ◌∙◌, subst}
use mathlib.Core.Bool.{Bool, true, false, cond}
use Rattle.std.specs.Prelude.{Some, None}
use mathlib.Core.List.{List, [], ◌∷◌, ◌++◌}
use native.Mathlib.Omega.{arith}
use native.Mathlib.Decide.{dec_le}
use lib.Dec.{ltb}
use lib.ListN.{length, take, drop, length-take, length-append}
use lib.Seq.{take_at, drop_at, take-take, drop-drop, append_snoc}
use Rattle.io_parts.specs.Feeds.{before_feed}
use Rattle.io_lines.specs.declared.Stream.{Stream}
use Rattle.io_lines.specs.Streams.{line_of, is_found, is_fed, span_of, left, line_in, part_of, line_by, looked_at}
use Rattle.io_lines.specs.Found.{Unfed}
use Rattle.io_lines.proofs.Unfed.{Fed, View, feed_in, no_feed, view, before_fed}
use Rattle.io_lines.proofs.Looks.{take_least, drop_take, part_fed, part_all, look_fed, look_ended, look_on}

-- what a look leaves as it was
pub record Same (s r : Stream) : Type 0 where
  pub ended : r.ended ≡ s.ended
  pub waiting : r.waiting ≡ s.waiting
  pub failed : r.failed ≡ s.failed

-- r has what is left up to a line feed
pub record FedPart (d : List ℕ) (s r : Stream) : Type 0 where
  pub cut : left d s ≡ line_in d r ++ (10 ∷ left d r)
  pub unfed : Unfed (line_in d r)
  pub found : is_found r ≡ true
  pub fed : is_fed r ≡ true
  pub same : Same s r

-- r has all that is left, which has no line feed
pub record AllPart (d : List ℕ) (s r : Stream) : Type 0 where
  pub line : line_in d r ≡ left d s
  pub unfed : Unfed (left d s)
  pub none : left d r ≡ []
  pub found : is_found r ≡ ltb 0 (length (line_in d r))
  pub fed : is_fed r ≡ false
  pub same : Same s r

pub data Parts (d : List ℕ) (s r : Stream) : Type 0 where
  up_to_feed : FedPart d s r → Parts d s r
  up_to_end : AllPart d s r → Parts d s r

pub data Looked (d : List ℕ) (s r : Stream) : Type 0 where
  a_line : FedPart d s r → Looked d s r
  last_line : AllPart d s r → s.ended ≡ true → Looked d s r
  no_line : left d r ≡ left d s → Unfed (left d s) → is_found r ≡ false → s.ended ≡ false → Same s r → Looked d s r

-- a text whose first x bytes are cut after n: what stands before, and what behind
module _ (l : List ℕ) (x : ℕ) (a b : List ℕ) (is : take x l ≡ a ++ (10 ∷ b)) where
  cut_length : length a < x
  cut_length = omega (arith, length-take x l, ap length is, length-append a (10 ∷ b))

  cut_before : take (length a) l ≡ a
  cut_before =
      sym (take-take (length a) x l (omega (arith, cut_length))) ∙ ap (take (length a)) is ∙ take_at a (10 ∷ b) (length a) refl

  cut_behind : take (x - (length a + 1)) (drop (length a + 1) l) ≡ b
  cut_behind =
      sym (drop_take (length a + 1) x l)
      ∙ ap (drop (length a + 1)) (is ∙ sym (append_snoc a 10 b))
      ∙ drop_at (a ++ (10 ∷ [])) b (length a + 1) (omega (arith, length-append a (10 ∷ [])))

-- as many bytes as there are among the first x
all_front : (l : List ℕ) (x : ℕ) → take (length (take x l)) l ≡ take x l
all_front l x = ap (λ (k : ℕ). take k l) (length-take x l) ∙ take_least x (length l) l (omega arith) (dec_le x (length l))

none_long : (l : List ℕ) → length l ≡ 0 → l ≡ []
none_long [] e = refl
none_long (b ∷ l) e = absurd (omega (arith, e))

module _ (d : List ℕ) (s : Stream) where
  none_behind : take (s.filled - s.filled) (drop s.filled d) ≡ []
  none_behind = let z : s.filled - s.filled ≡ 0 = omega arith in ap (λ (k : ℕ). take k (drop s.filled d)) z

  fed_part : (n : ℕ) (f : Fed (left d s)) → n ≡ length f.before → FedPart d s (line_of s (Some (span_of s n true)) (s.next + n + 1))
  fed_part n f q =
      let l = drop s.next d in
      let x = s.filled - s.next in
      let a : take n l ≡ f.before = ap (λ (k : ℕ). take k l) q ∙ cut_before l x f.before f.rest f.is in
      let i : s.filled - (s.next + n + 1) ≡ x - (length f.before + 1) = omega (arith, q) in
      let j : s.next + n + 1 ≡ s.next + (length f.before + 1) = omega (arith, q) in
      let b : take (s.filled - (s.next + n + 1)) (drop (s.next + n + 1) d) ≡ f.rest =
      ap (λ (k : ℕ). take k (drop (s.next + n + 1) d)) i
      ∙ ap (λ (k : ℕ). take (x - (length f.before + 1)) (drop k d)) j
      ∙ ap (take (x - (length f.before + 1))) (sym (drop-drop (length f.before + 1) s.next d))
      ∙ cut_behind l x f.before f.rest f.is in
      record {
        cut = f.is ∙ ap (λ (k : List ℕ). k ++ (10 ∷ f.rest)) (sym a) ∙ ap (λ (k : List ℕ). take n l ++ (10 ∷ k)) (sym b);
        unfed = subst Unfed (sym a) f.unfed;
        found = refl;
        fed = refl;
        same = record { ended = refl; waiting = refl; failed = refl };
      }

  all_by : (n : ℕ) → Unfed (left d s) → n ≡ length (left d s) → (b : Bool) → ltb 0 n ≡ b
      → AllPart d s (line_of s (cond b (Some (span_of s n false)) None) s.filled)
  all_by n u q true e =
      let a : take n (drop s.next d) ≡ left d s = ap (λ (k : ℕ). take k (drop s.next d)) q ∙ all_front (drop s.next d) (s.filled - s.next) in
      record {
        line = a;
        unfed = u;
        none = none_behind;
        found = sym e ∙ ap (ltb 0) (q ∙ ap length (sym a));
        fed = refl;
        same = record { ended = refl; waiting = refl; failed = refl };
      }
  all_by n u q false e =
      record {
        line = sym (none_long (left d s) (omega (arith, q, ltb-false 0 n e)));
        unfed = u;
        none = none_behind;
        found = refl;
        fed = refl;
        same = record { ended = refl; waiting = refl; failed = refl };
      }

  all_part : (n : ℕ) → Unfed (left d s) → n ≡ length (left d s) → AllPart d s (line_of s (cond (ltb 0 n) (Some (span_of s n false)) None) s.filled)
  all_part n u q = all_by n u q (ltb 0 n) refl

  parts_by : View (left d s) → Parts d s (part_of s (left d s))
  parts_by (feed_in f) =
      let n = before_fed f in
      let h : before_feed (left d s) < length (left d s) = omega (arith, n, ap length f.is, length-append f.before (10 ∷ f.rest)) in
      subst (Parts d s) (part_fed s (left d s) (before_feed (left d s)) refl h) (up_to_feed (fed_part (before_feed (left d s)) f n))
  parts_by (no_feed u) =
      subst (Parts d s) (part_all s (left d s) (before_feed (left d s)) refl (omega (arith, u.is))) (up_to_end (all_part (before_feed (left d s)) u u.is))

  pub parts : Parts d s (part_of s (left d s))
  parts = parts_by (view (left d s))

  looked_by : (p : Stream) → Parts d s p → (b : Bool) → s.ended ≡ b → Looked d s (line_by s p)
  looked_by p (up_to_feed f) b e = subst (Looked d s) (look_fed s p f.fed) (a_line f)
  looked_by p (up_to_end a) true e = subst (Looked d s) (look_ended s p a.fed e) (last_line a e)
  looked_by p (up_to_end a) false e =
      subst (Looked d s) (look_on s p a.fed e) (no_line refl a.unfed refl e (record { ended = refl; waiting = refl; failed = refl }))

  pub looked : Looked d s (looked_at s (left d s))
  looked = looked_by (part_of s (left d s)) parts s.ended refl
