-- If a line has one spelling then a text has one formula or name of a loss, and one formula or electron of an adduct item:
-- each text stands in a line. Assumes nothing.
use Prim.Native.Nat.{ℕ}
use mathlib.Core.Path.{◌≡◌, ap}
use mathlib.Core.Bool.{false}
use mathlib.Core.List.{List, [], ◌∷◌, ◌++◌}
use Rattle.lang.specs.Parts.{silent}
use Rattle.rules.specs.Bytes.{bytes}
use Rattle.rules.specs.Formulas.{Written}
use Rattle.rules.specs.Ions.{precursor}
use Rattle.rules.specs.Losses.{minus, plus, Lost, lost_text, Loss}
use Rattle.rules.specs.Isotopes.{no_isotope}
use Rattle.rules.specs.Adducts.{Added, added_text, Item}
use Rattle.rules.specs.Lines.{Spelling, line_text}

-- a precursor with losses and an adduct
abbrev line : List (Loss Written) → List (Item Written) → Spelling
line ls xs =
    record {
      marked = false;
      analyte = silent;
      ion = precursor;
      losses = ls;
      isotopes = no_isotope;
      adduct = xs;
      charge = silent;
      deviation = silent;
      confidence = silent;
    }
    ∷ []

-- `p-` and the text
abbrev loss_line : Lost Written → Spelling
loss_line x = line (record { sign = minus; count = silent; what = x } ∷ []) []

-- `p[M+`, the text and `]`
abbrev item_line : Added Written → Spelling
item_line x = line [] (record { sign = plus; count = silent; what = x } ∷ [])

-- what stands in the first place of a line, or the thing given where nothing does
abbrev first_lost : Lost Written → List (Loss Written) → Lost Written
first_lost x [] = x
first_lost x (l ∷ ls) = l.what

abbrev lost_in : Lost Written → Spelling → Lost Written
lost_in x [] = x
lost_in x (a ∷ s) = first_lost x a.losses

abbrev first_added : Added Written → List (Item Written) → Added Written
first_added x [] = x
first_added x (y ∷ ys) = y.what

abbrev added_in : Added Written → Spelling → Added Written
added_in x [] = x
added_in x (a ∷ s) = first_added x a.adduct

module _ (one_spelling : (s u : Spelling) → line_text s ≡ line_text u → s ≡ u) where
  pub one_lost : (x y : Lost Written) → lost_text x ≡ lost_text y → x ≡ y
  one_lost x y e = ap (lost_in x) (one_spelling (loss_line x) (loss_line y) (ap (λ (w : List ℕ). bytes "p-" ++ (w ++ [] ++ [] ++ [])) e))

  pub one_added : (x y : Added Written) → added_text x ≡ added_text y → x ≡ y
  one_added x y e = ap (added_in x) (one_spelling (item_line x) (item_line y) (ap (λ (w : List ℕ). bytes "p[M+" ++ (w ++ [] ++ bytes "]" ++ [] ++ [])) e))
