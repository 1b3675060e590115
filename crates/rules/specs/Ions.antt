-- Document 01, "Shape of a line": the nine kinds of ion (4.4); document 02, M-113: the letters of an internal ion. Assumes nothing.
use Rattle.std.specs.Prelude.{ℕ, List, [], ◌∷◌, ◌++◌, map}
use Prim.Native.String.{String}
use Rattle.lang.specs.Re.{Byte}
use Rattle.lang.specs.Parts.{Opt, opt_text, Listed, word_of}
use Rattle.rules.specs.Bytes.{bytes, capital}
use Rattle.rules.specs.Numbers.{Number, number_text}
use Rattle.rules.specs.Texts.{Text, Name, Modification, in_braces, braced_text, bracket_text}
use Rattle.rules.specs.Formulas.{Written, Formula, formula_text, formula_map}

abbrev pub series_names : List String
series_names = "a" ∷ "b" ∷ "c" ∷ "d" ∷ "v" ∷ "w" ∷ "x" ∷ "y" ∷ "z" ∷ "da" ∷ "db" ∷ "wa" ∷ "wb" ∷ []

abbrev pub Series : Type 0
Series = Listed (map bytes series_names)

-- the cleavages of an internal ion (7.2)
abbrev pub cleavage_names : List String
cleavage_names = "xa" ∷ "xb" ∷ "xc" ∷ "ya" ∷ "yb" ∷ "yc" ∷ "za" ∷ "zb" ∷ "zc" ∷ []

abbrev pub Cleavage : Type 0
Cleavage = Listed (map bytes cleavage_names)

-- as they are written: letters, or none, which are yb
abbrev pub Letters : Type 0
Letters = Opt Cleavage

-- what may be written in several ways has a type of its own in a spelling and in a table: the counts (Free), and the letters (Cut)
pub data Ion (Free Cut : Type 0) : Type 0 where
  series : Series → Number → Opt Text → Ion Free Cut
  internal : Cut → Number → Number → Opt Text → Ion Free Cut
  immonium : Byte capital → Opt Modification → Ion Free Cut
  precursor : Ion Free Cut
  reference : Name → Ion Free Cut
  named : Text → Ion Free Cut
  composed : Formula Free → Ion Free Cut
  smiles : Text → Ion Free Cut
  unknown : Opt Number → Ion Free Cut

-- an ion as it is spelled, and as a table has it
abbrev pub SpelledIon : Type 0
SpelledIon = Ion Written Letters

abbrev pub TableIon : Type 0
TableIon = Ion Number Cleavage

abbrev pub ion_text : SpelledIon → List ℕ
ion_text (series s n t) = word_of s ++ (number_text n ++ opt_text braced_text t)
ion_text (internal c m n t) = bytes "m" ++ (opt_text word_of c ++ (number_text m ++ (bytes ":" ++ (number_text n ++ opt_text braced_text t))))
ion_text (immonium a m) = bytes "I" ++ ((a.val ∷ []) ++ opt_text bracket_text m)
ion_text precursor = bytes "p"
ion_text (reference n) = bytes "r" ++ bracket_text n
ion_text (named t) = bytes "_" ++ braced_text t
ion_text (composed f) = bytes "f" ++ in_braces (formula_text f)
ion_text (smiles t) = bytes "s" ++ braced_text t
ion_text (unknown n) = bytes "?" ++ opt_text number_text n

abbrev pub ion_map : {A B C D : Type 0} → (A → B) → (C → D) → Ion A C → Ion B D
ion_map f g (series s n t) = series s n t
ion_map f g (internal c m n t) = internal (g c) m n t
ion_map f g (immonium a m) = immonium a m
ion_map f g precursor = precursor
ion_map f g (reference n) = reference n
ion_map f g (named t) = named t
ion_map f g (composed x) = composed (formula_map f x)
ion_map f g (smiles t) = smiles t
ion_map f g (unknown n) = unknown n
