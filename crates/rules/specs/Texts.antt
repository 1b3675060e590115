-- Document 01, "Shape of a line": texts and names, and which names may stand where. Assumes nothing.
use Rattle.std.specs.Prelude.{ℕ, Bool, true, false, not, ◌&&◌, ◌||◌, List, [], ◌∷◌, ◌++◌, eqb}
use Rattle.lang.specs.Re.{Rng, Brackets, brackets, paired}
use Rattle.lang.specs.Parts.{Such, all}
pub use Rattle.lang.specs.Parts.{first_in}
use Rattle.rules.specs.Bytes.{bytes, ◌to◌, letter, text_byte, name_byte}

-- one or more bytes of a class
abbrev pub some_of : List Rng → List ℕ → Bool
some_of c [] = false
some_of c (b ∷ w) = all c (b ∷ w)

abbrev pub starts_with : List ℕ → List ℕ → Bool
starts_with [] w = true
starts_with (a ∷ p) [] = false
starts_with (a ∷ p) (b ∷ w) = eqb a b && starts_with p w

abbrev pub is_text : List ℕ → Bool
is_text w = some_of text_byte w

-- `[` opens a bracket inside a name and `]` closes one (document 02, M-100); the other bytes 0x20 to 0x7E stand for themselves
abbrev pub name_brackets : Brackets
name_brackets = brackets name_byte ("[" to "[" ∷ []) ("]" to "]" ∷ [])

-- one or more bytes, in which brackets pair up
abbrev pub is_name : List ℕ → Bool
is_name [] = false
is_name (b ∷ w) = paired name_brackets (b ∷ w) 0

-- the name of a loss begins with a letter
abbrev pub is_loss_name : List ℕ → Bool
is_loss_name w = is_name w && first_in letter w

-- the name of an immonium ion's modification does not begin with `M+` or `M-`
abbrev pub is_modification : List ℕ → Bool
is_modification w = is_name w && not (starts_with (bytes "M+") w || starts_with (bytes "M-") w)

abbrev pub Text : Type 0
Text = Such is_text

abbrev pub Name : Type 0
Name = Such is_name

abbrev pub LossName : Type 0
LossName = Such is_loss_name

abbrev pub Modification : Type 0
Modification = Such is_modification

abbrev pub in_braces : List ℕ → List ℕ
in_braces w = bytes "{" ++ (w ++ bytes "}")

abbrev pub in_brackets : List ℕ → List ℕ
in_brackets w = bytes "[" ++ (w ++ bytes "]")

abbrev pub braced_text : {f : List ℕ → Bool} → Such f → List ℕ
braced_text t = in_braces t.bytes

abbrev pub bracket_text : {f : List ℕ → Bool} → Such f → List ℕ
bracket_text n = in_brackets n.bytes
