-- Document 02, M-105: sequences, and how many residues one has. A sequence stands in the braces of a series or an internal ion, which take
-- any text: so it is no part of the shape. Its names are those of M-100; what a loss or an immonium ion asks of a name beyond that does not
-- hold here. Assumes nothing.
use Rattle.std.specs.Prelude.{ℕ, suc, ◌+◌, ◌-◌, ◌≡◌, Bool, true, false, cond, ◌&&◌, List, [], ◌∷◌, ◌++◌, eqb}
use Prim.Native.Char.{code}
use Rattle.lang.specs.Re.{Byte, in_c, none_open, one_fewer}
use Rattle.lang.specs.Parts.{Opt, opt_text, Some, items, flat}
use Rattle.rules.specs.Bytes.{bytes, capital}
use Rattle.rules.specs.Texts.{name_brackets, Name, bracket_text}

-- ---- from fields to text: this is the rule

-- "residues A to Z, each with any number of `[name]`"
pub record Residue : Type 0 where
  pub letter : Byte capital
  pub names : List Name

-- the letter, and then each name in its brackets
abbrev pub residue_text : Residue → List ℕ
residue_text r = (r.letter.val ∷ []) ++ flat bracket_text r.names

-- "an optional `[name]-`, then one or more residues .., then an optional `-[name]`"
pub record Sequence : Type 0 where
  pub front : Opt Name
  pub residues : Some Residue
  pub back : Opt Name

-- "`[name]-`"
abbrev pub front_text : Name → List ℕ
front_text n = bracket_text n ++ bytes "-"

-- "`-[name]`"
abbrev pub back_text : Name → List ℕ
back_text n = bytes "-" ++ bracket_text n

-- the three parts, one after the other
abbrev pub sequence_text : Sequence → List ℕ
sequence_text q = opt_text front_text q.front ++ (flat residue_text (items q.residues) ++ opt_text back_text q.back)

-- "the plain part of ProForma": the texts of sequences
abbrev pub IsSequence : List ℕ → Type 0
IsSequence w = (q : Sequence) × (sequence_text q ≡ w)

-- ---- the same as a test that computes, byte by byte, with a count

-- what a text has come to where no name is open: it stands behind nothing, behind the front name, behind the `-` of that, behind a residue or
-- a name of one, behind the `-` of the back name, behind the back name; or no sequence begins so
pub data Phase : Type 0 where
  nothing front_name front_dash residue back_dash back_name broken : Phase

-- the phases behind a capital, behind a `-`, behind a name in its brackets; and whether a sequence may end
pub record Leads : Type 0 where
  pub letter : Phase
  pub dash : Phase
  pub name : Phase
  pub ends : Bool

-- those, in this order
abbrev pub to : Phase → Phase → Phase → Bool → Leads
to letter dash name ends = record { letter = letter; dash = dash; name = name; ends = ends }

-- where each phase leads
abbrev pub leads : Phase → Leads
leads nothing = to residue broken front_name false
leads front_name = to broken front_dash broken false
leads front_dash = to residue broken broken false
leads residue = to residue back_dash residue true
leads back_dash = to broken broken back_name false
leads back_name = to broken broken broken true
leads broken = to broken broken broken false

-- the phase behind a byte outside names, other than `[`
abbrev pub outside_names : Phase → ℕ → Phase
outside_names p b = cond (in_c capital b) (leads p).letter (cond (eqb b (code "-")) (leads p).dash broken)

-- the phase behind a `]` in a name, with d brackets open before it: others stay open, or the name is closed, which must not be empty
abbrev pub behind_closing : Phase → ℕ → Bool → Phase
behind_closing p d empty = cond (one_fewer none_open d) (cond empty broken (leads p).name) p

-- the phase behind a byte in a name, other than `[`
abbrev pub inside_name : Phase → ℕ → Bool → ℕ → Phase
inside_name p d empty b = cond (in_c name_brackets.closes b) (behind_closing p d empty) (cond (in_c name_brackets.plain b) p broken)

-- the phase behind a byte: `[` opens a name, or a bracket in one
abbrev pub phase_behind : Phase → ℕ → Bool → ℕ → Phase
phase_behind p d empty b = cond (in_c name_brackets.opens b) p (cond (none_open d) (outside_names p b) (inside_name p d empty b))

-- how many brackets are open behind a byte, with d open before it
abbrev pub depth_behind : ℕ → ℕ → ℕ
depth_behind d b = cond (in_c name_brackets.opens b) (suc d) (cond (in_c name_brackets.closes b) (d - 1) d)

-- how many residues there are behind a byte, with n before it: a capital in a name is none
abbrev pub count_behind : ℕ → ℕ → ℕ → ℕ
count_behind n d b = cond (none_open d && in_c capital b) (n + 1) n

-- the phase that a text has come to, and how many residues it has
pub record Reading : Type 0 where
  pub phase : Phase
  pub count : ℕ

-- from a phase on, with d brackets open and n residues before; a name that is open is empty where the byte before stands outside names
unfoldable pub read_from : List ℕ → Phase → ℕ → Bool → ℕ → Reading
read_from [] p d empty n = record { phase = cond (none_open d) p broken; count = n }
read_from (b ∷ w) p d empty n = read_from w (phase_behind p d empty b) (depth_behind d b) (none_open d) (count_behind n d b)

-- from the first byte on
abbrev pub reading : List ℕ → Reading
reading w = read_from w nothing 0 true 0

-- whether a text is a sequence; that this is `IsSequence` is the law *sequence_is*
abbrev pub is_sequence : List ℕ → Bool
is_sequence w = (leads (reading w).phase).ends

-- "the residue count": how many capitals a text has outside names; that a sequence has so many residues is the law *residues_are*
abbrev pub residues : List ℕ → ℕ
residues w = (reading w).count
