-- Document 01, "Numbers of refusal": writing has one answer, and so has converting, if stored bytes are one table. Assumes nothing.
use Prim.Native.Nat.{ℕ, ◌<◌, ◌≤◌}
use mathlib.Core.Path.{◌≡◌, refl, sym, ap, ◌∙◌, subst}
use mathlib.Core.List.{List}
use native.Mathlib.Omega.{arith}
use lib.Dec.{T}
use lib.ListN.{length}
use Rattle.rules.specs.Lines.{Spelling, line_text, within}
use Rattle.rules.specs.Fields.{Table}
use Rattle.rules.specs.Limits.{max_line}
use Rattle.rules.specs.Preferred.{preferred, preferred_spelling}
use Rattle.rules.specs.Stored.{stored}
use Rattle.rules.specs.Answers.{Answer, Delivers, ReadsForm, Sound, Holds, Takes, Writes, no_table, old, lettered, long, fits, Converts, held}
use Rattle.rules.specs.Editions.{Edition, ed1, ed2, current, LineEdition}
use Rattle.rules.proofs.OneAnswer.{delivers_one, form_one}

-- a table of an edition that can be read today
pub taken : {e : Edition} {bytes : List ℕ} {t : Table} → Holds e bytes t → Sound current t → Takes bytes t
taken {e} h o = record { edition = e; holds = h; also = o }

-- a line is not too long and short enough
one_size : {t u : Table} → t ≡ u → max_line < length (preferred t) → length (preferred u) ≤ max_line → ⊥
one_size e h g = let p = ap (λ (x : Table). length (preferred x)) e in omega arith

-- equal tables are written in the same editions of lines
same_lines : (l : LineEdition) {t u : Table} → t ≡ u → T (within l (preferred_spelling t)) → T (within l (preferred_spelling u))
same_lines l e w = subst (λ (z : Table). T (within l (preferred_spelling z))) e w

module _ (one_stored : (e : Edition) (t u : Table) → Sound e t → Sound e u → stored e t ≡ stored e u → t ≡ u)
    (apart : (t u : Table) → stored ed1 t ≡ stored ed2 u → ⊥) where
  pub holds_one : (e f : Edition) {bytes : List ℕ} {t u : Table} → Holds e bytes t → Holds f bytes u → t ≡ u
  holds_one ed1 ed1 {t = t} {u = u} h g = one_stored ed1 t u h.sound g.sound (h.is ∙ sym g.is)
  holds_one ed1 ed2 {t = t} {u = u} h g = absurd (apart t u (h.is ∙ sym g.is))
  holds_one ed2 ed1 {t = t} {u = u} h g = absurd (apart u t (g.is ∙ sym h.is))
  holds_one ed2 ed2 {t = t} {u = u} h g = one_stored ed2 t u h.sound g.sound (h.is ∙ sym g.is)

  pub takes_one : {bytes : List ℕ} {t u : Table} → Takes bytes t → Takes bytes u → t ≡ u
  takes_one h g = holds_one h.edition g.edition h.holds g.holds

  -- no bytes are of two editions
  pub two_editions : {bytes : List ℕ} {t u : Table} → Holds ed1 bytes t → Holds current bytes u → ⊥
  two_editions {t = t} {u = u} h g = apart t u (h.is ∙ sym g.is)

  pub writes_one : {l : LineEdition} {bytes : List ℕ} {room : ℕ} {a b : Answer} → Writes l bytes room a → Writes l bytes room b → a ≡ b
  writes_one (no_table n) (no_table m) = refl
  writes_one (no_table n) (old u g o) = absurd (n u (taken g o))
  writes_one (no_table n) (lettered u g w) = absurd (n u (taken g g.sound))
  writes_one (no_table n) (long u g w k) = absurd (n u (taken g g.sound))
  writes_one (no_table n) (fits u g w k y) = absurd (n u (taken g g.sound))
  writes_one (old t h o) (no_table m) = absurd (m t (taken h o))
  writes_one (old t h o) (old u g p) = refl
  writes_one (old t h o) (lettered u g w) = absurd (two_editions h g)
  writes_one (old t h o) (long u g w k) = absurd (two_editions h g)
  writes_one (old t h o) (fits u g w k y) = absurd (two_editions h g)
  writes_one (lettered t h v) (no_table m) = absurd (m t (taken h h.sound))
  writes_one (lettered t h v) (old u g p) = absurd (two_editions g h)
  writes_one (lettered t h v) (lettered u g w) = refl
  writes_one {l} (lettered t h v) (long u g w k) = absurd (v (same_lines l (holds_one current current g h) w))
  writes_one {l} (lettered t h v) (fits u g w k y) = absurd (v (same_lines l (holds_one current current g h) w))
  writes_one (long t h v k) (no_table m) = absurd (m t (taken h h.sound))
  writes_one (long t h v k) (old u g p) = absurd (two_editions g h)
  writes_one {l} (long t h v k) (lettered u g w) = absurd (w (same_lines l (holds_one current current h g) v))
  writes_one (long t h v k) (long u g w j) = refl
  writes_one (long t h v k) (fits u g w j y) = absurd (one_size (holds_one current current h g) k j)
  writes_one (fits t h v k x) (no_table m) = absurd (m t (taken h h.sound))
  writes_one (fits t h v k x) (old u g p) = absurd (two_editions g h)
  writes_one {l} (fits t h v k x) (lettered u g w) = absurd (w (same_lines l (holds_one current current h g) v))
  writes_one (fits t h v k x) (long u g w j) = absurd (one_size (holds_one current current g h) j k)
  writes_one {room = room} {b = b} (fits t h v k x) (fits u g w j y) =
      delivers_one x (subst (λ (z : Table). Delivers room (preferred z) b) (holds_one current current g h) y)

  pub converts_one : (one_spelling : (s u : Spelling) → line_text s ≡ line_text u → s ≡ u) → {bytes : List ℕ} {room : ℕ} {a b : Answer}
      → Converts bytes room a → Converts bytes room b → a ≡ b
  converts_one one_spelling (Converts.no_table n) (Converts.no_table m) = refl
  converts_one one_spelling (Converts.no_table n) (held u g y) = absurd (n u g)
  converts_one one_spelling (held t h x) (Converts.no_table m) = absurd (m t h)
  converts_one one_spelling {room = room} {b = b} (held t h x) (held u g y) =
      form_one one_spelling x (subst (λ (z : Table). ReadsForm current (preferred_spelling z) room b) (holds_one ed1 ed1 g h) y)
