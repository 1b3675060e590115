-- The classes of bytes and names, the lists of words, and the preferred order, in cases that are computed. Assumes nothing.
use Prim.Native.Nat.{ℕ, zero, suc, ◌-◌}
use mathlib.Core.Path.{◌≡◌, refl}
use mathlib.Core.Bool.{Bool, true, false, not, beq, ◌&&◌, ◌||◌}
use mathlib.Core.List.{List, [], ◌∷◌, map}
use lib.Dec.{T, leb, eqb}
use lib.ListN.{length, get_or}
use Rattle.lang.specs.Re.{Rng, in_c}
use Rattle.lang.specs.Parts.{Opt, silent}
use Rattle.rules.specs.Bytes.{bytes, digit, capital, letter, text_byte, name_byte}
use Rattle.rules.specs.Numbers.{From, digits}
use Rattle.rules.specs.Texts.{LossName, is_text, is_name, is_loss_name, is_modification}
use Rattle.rules.specs.Elements.{symbols}
use Rattle.rules.specs.Formulas.{Written, plain, labelled, Formula}
use Rattle.rules.specs.Ions.{series_names}
use Rattle.rules.specs.Losses.{Sign, minus, plus, lost_formula, lost_name_lem, Loss, loss_map}
use Rattle.rules.specs.Adducts.{added_formula, electron, Item, item_map}
use Rattle.rules.specs.Preferred.{loss_le, item_le}
use Rattle.rules.specs.Fields.{filled}
use Rattle.rules.proofs.worked.Spell.{num, times, several, loss_name, H, C, N, O, Na, formula, atom, H2O, NH3, CO}

-- ---- classes of bytes, over all 256

abbrev below : ℕ → (ℕ → Bool) → Bool
below zero test = true
below (suc n) test = test n && below n test

-- the class holds just the bytes that pass the test
abbrev holds : List Rng → (ℕ → Bool) → Bool
holds c test = below 256 (λ n. beq (in_c c n) (test n))

abbrev from : ℕ → ℕ → ℕ → Bool
from lo hi n = leb lo n && leb n hi

-- 0x20 to 0x7E without { (0x7B) and } (0x7D)
pub text_bytes : T (holds text_byte (λ n. from 0x20 0x7e n && not (eqb n 0x7b) && not (eqb n 0x7d)))
text_bytes = tt

-- 0x20 to 0x7E without [ (0x5B) and ] (0x5D)
pub name_bytes_lem : T (holds name_byte (λ n. from 0x20 0x7e n && not (eqb n 0x5b) && not (eqb n 0x5d)))
name_bytes_lem = tt

-- 0 to 9
pub digit_bytes : T (holds digit (from 0x30 0x39))
digit_bytes = tt

-- A to Z
pub capital_bytes : T (holds capital (from 0x41 0x5a))
capital_bytes = tt

-- A to Z or a to z
pub letter_bytes : T (holds letter (λ n. from 0x41 0x5a n || from 0x61 0x7a n))
letter_bytes = tt

-- ---- lists of words

abbrev same_word : List ℕ → List ℕ → Bool
same_word [] [] = true
same_word [] (b ∷ w) = false
same_word (a ∷ v) [] = false
same_word (a ∷ v) (b ∷ w) = eqb a b && same_word v w

abbrev every : {A : Type 0} → (A → Bool) → List A → Bool
every test [] = true
every test (x ∷ xs) = test x && every test xs

-- each passes the test with each after it
abbrev pairwise : {A : Type 0} → (A → A → Bool) → List A → Bool
pairwise test [] = true
pairwise test (x ∷ xs) = every (test x) xs && pairwise test xs

abbrev different : List ℕ → List ℕ → Bool
different v w = not (same_word v w)

-- a capital, or a capital and a small letter
abbrev symbol_shaped : List ℕ → Bool
symbol_shaped [] = false
symbol_shaped (a ∷ []) = from 0x41 0x5a a
symbol_shaped (a ∷ b ∷ []) = from 0x41 0x5a a && from 0x61 0x7a b
symbol_shaped (a ∷ b ∷ c ∷ w) = false

abbrev symbol_of : ℕ → List ℕ
symbol_of n = get_or symbols (n - 1) []

pub symbols_118 : length symbols ≡ 118
unfolding symbols
symbols_118 = refl

pub symbols_differ : T (pairwise different symbols)
unfolding symbols
symbols_differ = tt

pub symbols_shaped : T (every symbol_shaped symbols)
unfolding symbols
symbols_shaped = tt

-- columns of the periodic table, by atomic number
pub noble_gases : map symbol_of (2 ∷ 10 ∷ 18 ∷ 36 ∷ 54 ∷ 86 ∷ 118 ∷ []) ≡ map bytes ("He" ∷ "Ne" ∷ "Ar" ∷ "Kr" ∷ "Xe" ∷ "Rn" ∷ "Og" ∷ [])
unfolding symbols
noble_gases = refl

pub halogens : map symbol_of (9 ∷ 17 ∷ 35 ∷ 53 ∷ 85 ∷ 117 ∷ []) ≡ map bytes ("F" ∷ "Cl" ∷ "Br" ∷ "I" ∷ "At" ∷ "Ts" ∷ [])
unfolding symbols
halogens = refl

pub alkali_metals : map symbol_of (1 ∷ 3 ∷ 11 ∷ 19 ∷ 37 ∷ 55 ∷ 87 ∷ []) ≡ map bytes ("H" ∷ "Li" ∷ "Na" ∷ "K" ∷ "Rb" ∷ "Cs" ∷ "Fr" ∷ [])
unfolding symbols
alkali_metals = refl

pub coinage_metals : map symbol_of (29 ∷ 47 ∷ 79 ∷ 111 ∷ []) ≡ map bytes ("Cu" ∷ "Ag" ∷ "Au" ∷ "Rg" ∷ [])
unfolding symbols
coinage_metals = refl

pub series_13 : length series_names ≡ 13
series_13 = refl

pub series_differ : T (pairwise different (map bytes series_names))
series_differ = tt

-- ---- names

pub modifications : map is_modification (map bytes ("M" ∷ "M2" ∷ "m+x" ∷ "xM+" ∷ "+58.005" ∷ "A,B/C{D}" ∷ []))
    ≡ true ∷ true ∷ true ∷ true ∷ true ∷ true ∷ []
modifications = refl

pub no_modifications : map is_modification (map bytes ("M+x" ∷ "M+" ∷ "M-" ∷ "M-H" ∷ "" ∷ "a]" ∷ "a[b" ∷ []))
    ≡ false ∷ false ∷ false ∷ false ∷ false ∷ false ∷ false ∷ []
no_modifications = refl

pub loss_names_lem : map is_loss_name (map bytes ("Hex" ∷ "hex" ∷ "M+H" ∷ "M" ∷ "Z9 a" ∷ []))
    ≡ true ∷ true ∷ true ∷ true ∷ true ∷ []
loss_names_lem = refl

pub no_loss_names : map is_loss_name (map bytes ("2x" ∷ "+x" ∷ " Hex" ∷ "_" ∷ "" ∷ "a]b" ∷ []))
    ≡ false ∷ false ∷ false ∷ false ∷ false ∷ false ∷ []
no_loss_names = refl

pub names : map is_name (map bytes ("2H1" ∷ "M+H" ∷ " " ∷ "{~}" ∷ "" ∷ "[" ∷ "a]" ∷ "\t" ∷ "\u{7f}" ∷ []))
    ≡ true ∷ true ∷ true ∷ true ∷ false ∷ false ∷ false ∷ false ∷ false ∷ []
names = refl

pub texts : map is_text (map bytes ("CN=C=O" ∷ "a, b/c" ∷ "[~]" ∷ "" ∷ "{" ∷ "a}" ∷ "\n" ∷ "\u{7f}" ∷ []))
    ≡ true ∷ true ∷ true ∷ false ∷ false ∷ false ∷ false ∷ false ∷ []
texts = refl

-- ---- preferred order

abbrev loss_before : Loss Written → Loss Written → Bool
loss_before x y = loss_le (loss_map filled x) (loss_map filled y) && not (loss_le (loss_map filled y) (loss_map filled x))

abbrev item_before : Item Written → Item Written → Bool
item_before x y = item_le (item_map filled x) (item_map filled y) && not (item_le (item_map filled y) (item_map filled x))

abbrev loss : Sign → Opt (From 2) → Formula Written → Loss Written
loss sign count f = record { sign = sign; count = count; what = lost_formula f }

abbrev named_loss : Sign → Opt (From 2) → LossName → Loss Written
named_loss sign count n = record { sign = sign; count = count; what = lost_name_lem n }

abbrev item : Sign → Written → Formula Written → Item Written
item sign count f = record { sign = sign; count = count; what = added_formula f }

abbrev electrons : Sign → Written → Item Written
electrons sign count = record { sign = sign; count = count; what = electron }

-- losses, each of which stands before all after it
pub losses_in_order : T (pairwise loss_before
    (loss minus silent (formula (labelled (num 13) C (num 1)) [])  -- -[13C1]
    ∷ loss minus silent (formula (labelled (num 2) H (num 1)) [])  -- -[2H1]
    ∷ named_loss minus silent (loss_name "Hex2" tt)  -- -[Hex2]
    ∷ named_loss plus silent (loss_name "HexNAc" tt)  -- +[HexNAc]
    ∷ named_loss minus silent (loss_name "Hex" tt)  -- -[Hex]
    ∷ named_loss minus silent (loss_name "Hexose" tt)  -- -[Hexose]
    ∷ named_loss minus silent (loss_name "hex" tt)  -- -[hex]
    ∷ loss minus silent (atom C)  -- -C
    ∷ loss plus silent (formula (plain C (times 1)) (labelled (num 13) C (num 1) ∷ []))  -- +C1[13C1]
    ∷ loss minus silent (formula (plain C (times 2)) [])  -- -C2
    ∷ loss minus silent CO  -- -CO
    ∷ loss minus silent (atom H)  -- -H
    ∷ loss minus (several 2) (atom H)  -- -2H
    ∷ loss minus (several 10) (formula (plain H (times 1)) [])  -- -10H1
    ∷ loss plus silent (atom H)  -- +H
    ∷ loss plus (several 2) (atom H)  -- +2H
    ∷ loss minus silent (formula (plain H (times 2)) (labelled (num 18) O (num 1) ∷ []))  -- -H2[18O1]
    ∷ loss minus silent H2O  -- -H2O
    ∷ loss minus silent NH3  -- -NH3
    ∷ []))
unfolding digits symbols
losses_in_order = tt

-- adduct items, each of which stands before all after it
pub items_in_order : T (pairwise item_before
    (item plus silent (formula (labelled (num 2) H (num 1)) [])  -- +[2H1]
    ∷ item minus (times 1) (atom H)  -- -1H
    ∷ item minus (times 2) (formula (plain H (times 1)) [])  -- -2H1
    ∷ item minus (times 10) (atom H)  -- -10H
    ∷ item plus silent (atom H)  -- +H
    ∷ item plus (times 2) (atom H)  -- +2H
    ∷ item minus silent H2O  -- -H2O
    ∷ item plus silent (formula (plain N silent) (plain H (times 4) ∷ []))  -- +NH4
    ∷ item plus silent (atom Na)  -- +Na
    ∷ electrons minus silent  -- -e
    ∷ electrons minus (times 2)  -- -2e
    ∷ electrons plus (times 1)  -- +1e
    ∷ []))
unfolding digits symbols
items_in_order = tt

-- a written 1 does not matter
pub ones_left_out : loss_map filled (loss minus silent CO) ≡ loss_map filled (loss minus silent (formula (plain C (times 1)) (plain O (times 1) ∷ [])))
unfolding symbols
ones_left_out = refl
