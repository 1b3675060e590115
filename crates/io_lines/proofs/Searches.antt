-- The search for a line, look by look, and for a part. Assumes nothing.
use Prim.Native.Nat.{ℕ, suc, ◌+◌, ◌/◌, ◌≤◌, ◌<◌}
use mathlib.Core.Path.{◌≡◌, refl, sym, ap, ◌∙◌, subst}
use mathlib.Core.Bool.{Bool, true, false, cond}
use mathlib.Core.List.{List, [], ◌∷◌, ◌++◌, append_assoc, append-nil}
use native.Mathlib.Omega.{arith}
use native.Mathlib.Decide.{dec_le}
use lib.Dec.{ltb}
use lib.ListN.{length, take, length-append}
use lib.Seq.{take_all, take-append-le, take-take, length-take-le, take-nil}
use borrow.Author.Tests.{ltb-true, ltb-false, le-ltb}
use Rattle.io_parts.specs.Feeds.{before_feed}
use Rattle.io_lines.specs.declared.Stream.{Stream}
use Rattle.io_lines.specs.declared.Failure.{Failure}
use Rattle.put_bytes.specs.Puts.{max_place}
use Rattle.io_lines.specs.Streams.{stopped_by, is_found, settled, left, line_in, part_of, looked_at}
use Rattle.io_lines.specs.Refills.{half, Refilled, more}
use Rattle.io_lines.specs.Refills as refills
use Rattle.io_lines.specs.Found.{Unfed, StandsFor, all, cut, Line, Ending, line, end, stops, goes_on, Search, Next, feed_of, PartEnding, part, NextPart}
use Rattle.io_lines.specs.Found as found
use Rattle.io_lines.proofs.Unfed.{unfed_joined, unfed_behind, unfed_front, Split, split}
use Rattle.io_lines.proofs.Parts.{Same, FedPart, AllPart, Parts, up_to_feed, up_to_end, parts, Looked, a_line, last_line, no_line, looked}

-- what is kept of a line that goes on, and what comes behind it
stands_front : {h : ℕ} {w k : List ℕ} → StandsFor h w k → take h k ≡ take h w
stands_front {h} (all e) = ap (take h) e
stands_front (cut a b e) = e

module _ (h : ℕ) (w k c : List ℕ) where
  cut_more : h < length w → h ≤ length k → take h k ≡ take h w → StandsFor h (w ++ c) (take h k ++ c)
  cut_more a b e =
      let n : length (take h k) ≡ h = length-take-le h k b in
      cut
      (omega (arith, length-append w c))
      (omega (arith, length-append (take h k) c, n))
      (take-append-le h (take h k) c (omega (arith, n)) ∙ take-take h h k (omega arith) ∙ e ∙ sym (take-append-le h w c (omega arith)))

  all_more : k ≡ w → Dec (length w ≤ h) → StandsFor h (w ++ c) (take h k ++ c)
  all_more e (yes a) = all (ap (λ (l : List ℕ). l ++ c) (take_all h k (omega (arith, ap length e)) ∙ e))
  all_more e (no a) = cut_more (omega arith) (omega (arith, ap length e)) (ap (take h) e)

  stands_more : StandsFor h w k → StandsFor h (w ++ c) (take h k ++ c)
  stands_more (all e) = all_more e (dec_le (length w) h)
  stands_more (cut a b e) = cut_more a b e

pub true_false : true ≡ false → ⊥
true_false e = let z : ◌≡◌ {A = ℕ} 0 1 = cc in omega arith

-- nothing is found in a stream that was stopped
stopped_look : (f : List ℕ) (x : Failure) → looked_at (stopped_by x) (left f (stopped_by x)) ≡ stopped_by x
unfolding before_feed
stopped_look f x = refl

stopped_part : (f : List ℕ) (x : Failure) → part_of (stopped_by x) (left f (stopped_by x)) ≡ stopped_by x
unfolding before_feed
stopped_part f x = refl

empty : (l : List ℕ) → ltb 0 (length l) ≡ false → l ≡ []
empty [] e = refl
empty (b ∷ l) e = absurd (omega (arith, ltb-false 0 (suc (length l)) e))

-- the first look
module _ (d : List ℕ) (s r : Stream) where
  none_came : left d s ++ [] ≡ left d s
  none_came = append-nil (left d s)

  first_ending : Looked d s r → Ending 0 d s [] d r
  first_ending (a_line p) =
      line (line_in d r) (none_came ∙ p.cut) (record { unfed = p.unfed; stands = all refl }) p.found p.fed p.same.ended p.same.failed
  first_ending (last_line p e) =
      end
      (record { unfed = subst Unfed (sym none_came) p.unfed; stands = all (p.line ∙ sym none_came) })
      p.none
      p.found
      p.fed
      (p.same.ended ∙ e)
      p.same.failed
  first_ending (no_line l u f e k) =
      goes_on
      (record { unfed = subst Unfed (sym none_came) u; stands = all (l ∙ sym none_came) })
      f
      (k.ended ∙ e)
      e
      k.failed
      (omega arith)

  same_look : Looked d s r → Same s r
  same_look (a_line p) = p.same
  same_look (last_line p e) = p.same
  same_look (no_line l u f e k) = k

  first_search : Looked d s r → Search 0 d s d r
  first_search l =
      record {
        came = [];
        asked = false;
        ending = first_ending l;
        same = refl;
        waits = (same_look l).waiting;
        unasked = λ e. refl;
        still = λ e. (same_look l).ended;
        over = λ e. refl;
      }

pub first : (d : List ℕ) {s r : Stream} → r ≡ looked_at s (left d s) → Search 0 d s d r
first d {s} {r} q = subst (Search 0 d s d) (sym q) (first_search d s (looked_at s (left d s)) (looked d s))

-- a look at more, behind a line that goes on: w is all that came of it and what was left before, t has what is kept of it
module _ (d e f : List ℕ) (s t u r : Stream) (came : List ℕ) {m : ℕ} (l : Line (half d) (left d s ++ came) (left e t)) (on : s.ended ≡ false)
    (kept : t.failed ≡ s.failed) (most : m ≤ length came) (same : length e ≡ length d) where
  same_half : take (half e) (left e t) ≡ take (half d) (left e t)
  same_half = ap (λ (n : ℕ). take (n / 2) (left e t)) same

  front_unfed : Unfed (take (half d) (left e t))
  front_unfed = subst Unfed (sym (stands_front l.stands)) (unfed_front (half d) (left d s ++ came) l.unfed)

  joined : (new : List ℕ) → left d s ++ (came ++ new) ≡ (left d s ++ came) ++ new
  joined new = sym (append_assoc (left d s) came new)

  module _ (new : List ℕ) (is : left f u ≡ take (half e) (left e t) ++ new) where
    left_is : left f u ≡ take (half d) (left e t) ++ new
    left_is = is ∙ ap (λ (k : List ℕ). k ++ new) same_half

    longer : {k : List ℕ} → k ≡ left f u → Unfed (left f u) → Line (half d) (left d s ++ (came ++ new)) k
    longer {k} q v =
        record {
          unfed = subst Unfed (sym (joined new)) (unfed_joined l.unfed (unfed_behind front_unfed (subst Unfed left_is v)));
          stands =
              subst (λ (x : List ℕ). StandsFor (half d) x k) (sym (joined new))
              (subst (StandsFor (half d) ((left d s ++ came) ++ new)) (sym (q ∙ left_is)) (stands_more (half d) (left d s ++ came) (left e t) new l.stands));
        }

    goes_on_lem : FedPart f u r → u.ended ≡ ltb (length new) 1 → Split (take (half d) (left e t)) new (line_in f r) (left f r) → r.ended ≡ s.ended
    goes_on_lem p over c =
        p.same.ended
        ∙ over
        ∙ le-ltb (length new) 1 (omega (arith, ap length c.behind, length-append c.part (10 ∷ left f r)))
        ∙ sym on

    ends_line : FedPart f u r → u.ended ≡ ltb (length new) 1 → r.failed ≡ s.failed → Ending (m + 1) d s (came ++ new) f r
    ends_line p over failed =
        let c = split (take (half d) (left e t)) new (line_in f r) (left f r) front_unfed p.unfed (sym left_is ∙ p.cut) in
        line
        ((left d s ++ came) ++ c.part)
        (joined new ∙ ap (λ (x : List ℕ). (left d s ++ came) ++ x) c.behind ∙ sym (append_assoc (left d s ++ came) c.part (10 ∷ left f r)))
        (record {
          unfed = unfed_joined l.unfed c.unfed;
          stands =
              subst (StandsFor (half d) ((left d s ++ came) ++ c.part)) (sym c.joined)
              (stands_more (half d) (left d s ++ came) (left e t) c.part l.stands);
        })
        p.found
        p.fed
        (goes_on_lem p over c)
        failed

    next_ending : u.ended ≡ ltb (length new) 1 → u.failed ≡ t.failed → Looked f u r → Ending (m + 1) d s (came ++ new) f r
    next_ending over failed (a_line p) = ends_line p over (p.same.failed ∙ failed ∙ kept)
    next_ending over failed (last_line p e) =
        end (longer p.line p.unfed) p.none p.found p.fed (p.same.ended ∙ e) (p.same.failed ∙ failed ∙ kept)
    next_ending over failed (no_line q v g e k) =
        goes_on (longer q v) g (k.ended ∙ e) on (k.failed ∙ failed ∙ kept)
        (omega (arith, length-append came new, ltb-false (length new) 1 (sym over ∙ e)))

  asked_search : {new : List ℕ} → length f ≡ length e → r.waiting ≡ 0 → Ending (m + 1) d s new f r → Search (m + 1) d s f r
  asked_search {new} long waits ending =
      record {
        came = new;
        asked = true;
        ending = ending;
        same = long ∙ same;
        waits = waits;
        unasked = λ g. absurd (true_false g);
        still = λ g. absurd (true_false g);
        over = λ g. absurd (true_false (sym g ∙ on));
      }

  next_search : Refilled e t f u → r ≡ looked_at u (left f u) → Search (m + 1) d s f r
  next_search (more new long is over failed waits) q =
      let k : Looked f u r = subst (Looked f u) (sym q) (looked f u) in
      asked_search {new = came ++ new} long ((same_look f u r k).waiting ∙ waits) (next_ending new is over failed k)
  next_search (refills.stops long x z) q =
      let g : r ≡ stopped_by x = q ∙ ap (λ (y : Stream). looked_at y (left f y)) z ∙ stopped_look f x in
      asked_search {new = came} long (ap (λ (y : Stream). y.waiting) g) (stops on x g)

-- a search that is over, and one that is not
module _ (t : Stream) where
  either : (a b : Bool) → b ≡ true → cond a true b ≡ true
  either true b e = refl
  either false b e = e

  found_settled : is_found t ≡ true → settled t ≡ true
  found_settled e = ap (λ (b : Bool). cond b true t.ended) e

  is_ended : t.ended ≡ true → settled t ≡ true
  is_ended e = either (is_found t) t.ended e

  none_found : is_found t ≡ false → settled t ≡ true → t.ended ≡ true
  none_found e g = ap (λ (b : Bool). cond b true t.ended) (sym e) ∙ g

  neither : (a b : Bool) → cond a true b ≡ false → a ≡ false
  neither true b e = e
  neither false b e = refl

  unfound : settled t ≡ false → is_found t ≡ false
  unfound e = neither (is_found t) t.ended e

  neither_second : (a b : Bool) → cond a true b ≡ false → b ≡ false
  neither_second true b e = absurd (true_false e)
  neither_second false b e = e

  unended : settled t ≡ false → t.ended ≡ false
  unended e = neither_second (is_found t) t.ended e

  is_stopped : {x : Failure} → t ≡ stopped_by x → settled t ≡ true
  is_stopped e = is_ended (ap (λ (y : Stream). y.ended) e)

  going_on : is_found t ≡ false → t.ended ≡ false → settled t ≡ true → ⊥
  going_on e g q = true_false (sym (none_found e q) ∙ g)

module _ {d : List ℕ} {s : Stream} {e : List ℕ} {t : Stream} {m : ℕ} where
  settled_by : {came : List ℕ} → settled t ≡ true → Ending m d s came e t → Ending max_place d s came e t
  settled_by q (line w p l f g o k) = line w p l f g o k
  settled_by q (end l n f g o k) = end l n f g o k
  settled_by q (stops o x p) = stops o x p
  settled_by q (goes_on l f o on k n) = absurd (going_on t f o q)

  pub settles : Search m d s e t → settled t ≡ true → Next d s e t
  settles k q =
      record {
        came = k.came;
        asked = k.asked;
        ending = settled_by q k.ending;
        same = k.same;
        waits = k.waits;
        unasked = k.unasked;
        still = k.still;
        over = k.over;
      }

  next_by : {f : List ℕ} {u r : Stream} {came : List ℕ} → settled t ≡ false → length e ≡ length d → Ending m d s came e t → Refilled e t f u → r ≡ looked_at u (left f u) → Search (m + 1) d s f r
  next_by q same (line w p l g h o k) x y = absurd (true_false (sym (found_settled t g) ∙ q))
  next_by q same (end l n g h o k) x y = absurd (true_false (sym (is_ended t o) ∙ q))
  next_by q same (stops o z p) x y = absurd (true_false (sym (is_stopped t p) ∙ q))
  next_by {f} {u} {r} {came} q same (goes_on l g o on k n) x y = next_search d e f s t u r came l on k n same x y

  pub next : {f : List ℕ} {u r : Stream} → Search m d s e t → settled t ≡ false → Refilled e t f u → r ≡ looked_at u (left f u) → Search (m + 1) d s f r
  next k q x y = next_by q k.same k.ending x y

-- as many turns as a loop takes
pub spent : {d : List ℕ} {s : Stream} {e : List ℕ} {t : Stream} {n : ℕ} → n ≡ max_place → Search n d s e t → Next d s e t
spent {d} {s} {e} {t} h k = subst (λ (m : ℕ). Search m d s e t) h k

-- a part
module _ {d : List ℕ} {s : Stream} {came : List ℕ} {e : List ℕ} {u r : Stream} (is : left d s ++ came ≡ left e u) (failed : r.failed ≡ s.failed)
    (on : is_found r ≡ true → r.ended ≡ s.ended) (over : is_found r ≡ false → r.ended ≡ true) where
  all_ending : AllPart e u r → (b : Bool) → is_found r ≡ b → PartEnding d s came e r
  all_ending p true g =
      part
      (is
      ∙ sym p.line
      ∙ sym (append-nil (line_in e r))
      ∙ ap (λ (x : List ℕ). line_in e r ++ x) (sym p.none)
      ∙ ap (λ (b : Bool). line_in e r ++ (feed_of b ++ left e r)) (sym p.fed))
      (subst Unfed (sym p.line) p.unfed)
      g
      (on g)
      failed
  all_ending p false g =
      found.end (is ∙ sym p.line ∙ empty (line_in e r) (sym p.found ∙ g)) p.none g (over g) failed

  part_ending : Parts e u r → PartEnding d s came e r
  part_ending (up_to_feed p) =
      part (is ∙ p.cut ∙ ap (λ (b : Bool). line_in e r ++ (feed_of b ++ left e r)) (sym p.fed)) p.unfed p.found (on p.found) failed
  part_ending (up_to_end p) = all_ending p (is_found r) refl

-- where nothing came the input is over
nothing_came : {e : List ℕ} {u r : Stream} (new : List ℕ) → left e u ≡ new → u.ended ≡ ltb (length new) 1 → is_found r ≡ false → Parts e u r → r.ended ≡ true
nothing_came new is over g (up_to_feed p) = absurd (true_false (sym p.found ∙ g))
nothing_came {e} {u} {r} new is over g (up_to_end p) =
    let z : new ≡ [] = sym is ∙ sym p.line ∙ empty (line_in e r) (sym p.found ∙ g) in
    p.same.ended ∙ over ∙ ap (λ (l : List ℕ). ltb (length l) 1) z

-- and where a part is found some did
something_came : {e : List ℕ} {u r : Stream} (new : List ℕ) → left e u ≡ new → u.ended ≡ ltb (length new) 1 → is_found r ≡ true → Parts e u r → r.ended ≡ false
something_came {e} {u} {r} new is over g (up_to_feed p) =
    p.same.ended ∙ over ∙ le-ltb (length new) 1 (omega (arith, ap length (sym is ∙ p.cut), length-append (line_in e r) (10 ∷ left e r)))
something_came {e} {u} {r} new is over g (up_to_end p) =
    p.same.ended ∙ over ∙ le-ltb (length new) 1 (omega (arith, ap length (sym is ∙ sym p.line), ltb-true 0 (length (line_in e r)) (sym p.found ∙ g)))

same_part : {d : List ℕ} {s r : Stream} → Parts d s r → Same s r
same_part (up_to_feed p) = p.same
same_part (up_to_end p) = p.same

module _ (d : List ℕ) {s t : Stream} (q : t ≡ part_of s (left d s)) where
  is_parts : Parts d s t
  is_parts = subst (Parts d s) (sym q) (parts d s)

  pub part_first : settled t ≡ true → NextPart d s d t
  part_first g =
      let k = same_part is_parts in
      record {
        came = [];
        asked = false;
        ending = part_ending {u = s} (append-nil (left d s)) k.failed (λ h. k.ended) (λ h. none_found t h g) is_parts;
        same = refl;
        waits = k.waiting;
        unasked = λ h. refl;
        still = λ h. k.ended;
        over = λ h. refl;
      }

  asked_part : (e : List ℕ) {came : List ℕ} {r : Stream} → settled t ≡ false → PartEnding d s came e r → length e ≡ length d → r.waiting ≡ 0 → NextPart d s e r
  asked_part e {came} g ending same waits =
      record {
        came = came;
        asked = true;
        ending = ending;
        same = same;
        waits = waits;
        unasked = λ h. absurd (true_false h);
        still = λ h. absurd (true_false h);
        over = λ h. absurd (true_false (sym (is_ended t ((same_part is_parts).ended ∙ h)) ∙ g));
      }

  -- nothing was left
  nothing_left : settled t ≡ false → Parts d s t → (left d s ≡ []) × (left d t ≡ [])
  nothing_left g (up_to_feed p) = absurd (true_false (sym (found_settled t p.found) ∙ g))
  nothing_left g (up_to_end p) = (sym p.line ∙ empty (line_in d t) (sym p.found ∙ unfound t g), p.none)

  pub part_next : (e : List ℕ) {u r : Stream} → settled t ≡ false → Refilled d t e u → r ≡ part_of u (left e u) → NextPart d s e r
  part_next e {u} {r} g (more new long is over failed waits) y =
      let p : Parts e u r = subst (Parts e u) (sym y) (parts e u) in
      let n = nothing_left g is_parts in
      let k = same_part p in
      let f : left e u ≡ new = is ∙ ap (λ (l : List ℕ). take (half d) l ++ new) n.1 ∙ ap (λ (l : List ℕ). l ++ new) (take-nil (half d)) in
      asked_part e {came = new} g
      (part_ending {u = u} (ap (λ (l : List ℕ). l ++ new) n.0 ∙ sym f) (k.failed ∙ failed ∙ (same_part is_parts).failed) (λ h. something_came new f over h p ∙ sym (unended t g) ∙ (same_part is_parts).ended) (λ h. nothing_came new f over h p) p)
      long
      (k.waiting ∙ waits)
  part_next e {u} {r} g (refills.stops long x z) y =
      let h : r ≡ stopped_by x = y ∙ ap (λ (v : Stream). part_of v (left e v)) z ∙ stopped_part e x in
      asked_part e {came = []} g (found.stops (sym (same_part is_parts).ended ∙ unended t g) x h) long (ap (λ (v : Stream). v.waiting) h)
