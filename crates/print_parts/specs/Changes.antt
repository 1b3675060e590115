-- Losses and adduct items as their records say: l begins with a record, u with its units, t with its name. Assumes nothing.
use Rattle.std.specs.Prelude.{ℕ, zero, suc, ◌+◌, ◌*◌, min, ◌≡◌, cond, List, [], ◌++◌, eqb, length, get_or, take, drop}
use Rattle.rules.specs.Bytes.{bytes}
use Rattle.rules.specs.Texts.{in_brackets}
use Rattle.rules.specs.Limits.{max_units, max_text}
use Rattle.rules.specs.Layout.{loss_width, unit_width, sign_at, content_kind_at, count_at, content_size_at}
use Rattle.changes.specs.declared.Content.{Content}
use Rattle.changes.specs.declared.Content.TheVariants.{Formula, Name, Electron}
use Rattle.changes.specs.Signs.{sign_of_byte}
use Rattle.put_bytes.specs.Puts.{Put}
use Rattle.slices.specs.Numbers.{u16_at}
use Rattle.put_formula.specs.Preferred.{printed_units}
use Rattle.print_count.specs.Heads.{sign_bytes, count_text}
use Rattle.print_parts.specs.declared.PrintedTo.{PrintedTo}
use Rattle.print_parts.specs.Numbers.{number_at}

-- what stands behind sign and count; no more units or bytes of a name than the limits allow
unfoldable pub content_at : List ℕ → Content
content_at l =
    cond {A = Content} (eqb (get_or l content_kind_at 0) 0) (Formula (number_at l content_size_at max_units)) (cond {A = Content} (eqb (get_or l content_kind_at 0) 1) (Name (number_at l content_size_at max_text)) Electron)

-- how many units, and how many bytes of a name; no more than the limits allow
unfoldable pub change_units : List ℕ → ℕ
change_units l = cond (eqb (get_or l content_kind_at 0) 0) (number_at l content_size_at max_units) 0

unfoldable pub change_name : List ℕ → ℕ
change_name l = cond (eqb (get_or l content_kind_at 0) 1) (number_at l content_size_at max_text) 0

unfoldable pub content_printed : List ℕ → List ℕ → List ℕ → List ℕ
content_printed l u t =
    cond (eqb (get_or l content_kind_at 0) 0) (printed_units (change_units l) u) (cond (eqb (get_or l content_kind_at 0) 1) (in_brackets (take (change_name l) t)) (bytes "e"))

unfoldable pub change_printed : List ℕ → List ℕ → List ℕ → List ℕ
change_printed l u t = sign_bytes (sign_of_byte (get_or l sign_at 0)) ++ (count_text (u16_at (drop count_at l)) ++ content_printed l u t)

-- n of them
unfoldable pub changes_printed : ℕ → List ℕ → List ℕ → List ℕ → List ℕ
changes_printed zero l u t = []
changes_printed (suc n) l u t = change_printed l u t ++ changes_printed n (drop loss_width l) (drop (unit_width * change_units l) u) (drop (change_name l) t)

-- how many bytes of units, and of names, n of them have
unfoldable pub unit_bytes : ℕ → List ℕ → ℕ
unit_bytes zero l = 0
unit_bytes (suc n) l = unit_width * change_units l + unit_bytes n (drop loss_width l)

unfoldable pub name_bytes : ℕ → List ℕ → ℕ
name_bytes zero l = 0
name_bytes (suc n) l = change_name l + name_bytes n (drop loss_width l)

-- output d is e after n of them are printed at a place, as far as u and t go
pub record PrintsChanges (n : ℕ) (l u t d : List ℕ) (to : ℕ) (e : List ℕ) (r : PrintedTo) : Type 0 where
  pub put : Put d to (changes_printed n l u t) e r.to
  pub units : r.units ≡ min (unit_bytes n l) (length u)
  pub text : r.text ≡ min (name_bytes n l) (length t)
