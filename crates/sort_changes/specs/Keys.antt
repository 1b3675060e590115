-- The text by which a loss or an adduct item is put in order. Assumes nothing.
use Rattle.std.specs.Prelude.{ℕ, ◌-◌, List, take, drop}
use Rattle.changes.specs.declared.Content.{Content}
use Rattle.changes.specs.declared.Content.TheVariants.{Formula, Name, Electron}
use Rattle.read_changes.specs.declared.ChangeRead.{ChangeRead}
use Rattle.put_formula.specs.Preferred.{preferred_units}

-- of the bytes s behind sign and count: preferred units, or the n bytes that stand there, a name in its brackets or `e`
abbrev pub content_key : ℕ → List ℕ → Content → List ℕ
content_key n s (Formula units) = preferred_units units s
content_key n s (Name bytes) = take n s
content_key n s Electron = take n s

unfoldable pub key_text : List ℕ → ChangeRead → List ℕ
key_text s x = content_key (x.len - x.start) (drop x.start s) x.content
