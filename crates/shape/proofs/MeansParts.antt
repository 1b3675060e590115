-- Formulas, ions, losses, isotopes and adducts are what the grammar says. Assumes nothing.
use Prim.Native.Nat.{ℕ}
use mathlib.Core.Path.{refl}
use mathlib.Core.List.{List, [], ◌∷◌, ◌++◌, map}
use mathlib.Core.Logic.{◌⊎◌, inl, inr}
use Rattle.lang.specs.Re.{Re, alt, Byte}
use Rattle.lang.specs.Parts.{Opt, silent, written, opt_text, Some, flat, word_of}
use Rattle.lang.proofs.Means.{Means, opt_re, means_byte, means_many, means_opt, means_pair, means_as, means_alt, means_word, means_listed}
use Rattle.rules.specs.Bytes.{bytes, capital}
use Rattle.rules.specs.Numbers.{Number}
use Rattle.rules.specs.Texts.{Text, Name, LossName, Modification, braced_text}
use Rattle.rules.specs.Elements.{symbols, Symbol}
use Rattle.rules.specs.Formulas.{Written, written_text, FormulaUnit, plain, labelled, unit_text, Formula, formula_text}
use Rattle.rules.specs.Ions.{series_names, Series, cleavage_names, Letters, Ion, SpelledIon, series, internal, immonium, precursor, reference, named, composed, smiles, unknown, ion_text}
use Rattle.rules.specs.Losses.{Sign, minus, plus, sign_text, Lost, lost_formula, lost_name_lem, lost_text, Loss, loss_text}
use Rattle.rules.specs.Isotopes.{Shift, shift_text, Specific, specific_text, Isotopes, no_isotope, plain_isotope, average_isotope, specific_isotopes, isotopes_text}
use Rattle.rules.specs.Adducts.{Added, added_formula, electron, added_text, Item, item_text, adduct_text}
use Rattle.shape.proofs.Grammar.{word, some_re, number_re, braces_re, brackets_re, text_re, loss_name_re, symbol_re, unit_re, formula_re, letters_re, ion_re, sign_re, loss_re, shift_re, specific_re, isotopes_re, item_re, adduct_re}
use Rattle.shape.proofs.MeansNumbers.{means_number, means_two}
use Rattle.shape.proofs.MeansNames.{means_text, means_name, means_loss_name, means_modification, means_closed, means_braces, means_brackets}

-- one or more in a row
pub means_some : {X : Type 0} {tx : X → List ℕ} {r : Re} → Means X tx r → Means (Some X) (λ s. tx s.first ++ flat tx s.more) (some_re r)
means_some m = means_as (means_pair m (means_many m)) (λ s. (s.first, s.more)) (λ p. record { first = p.0; more = p.1 }) (λ s. refl) (λ s. refl) (λ p. refl)

-- ---- formulas

means_symbol : Means Symbol word_of symbol_re
unfolding symbol_re
means_symbol = means_listed symbols

means_written : Means Written written_text (opt_re number_re)
means_written = means_opt means_number

abbrev Units : Type 0
Units = (Symbol × Written) ⊎ (Number × (Symbol × Number))

unit_to : FormulaUnit Written → Units
unit_to (plain s c) = inl (s, c)
unit_to (labelled a s c) = inr (a, (s, c))

unit_from : Units → FormulaUnit Written
unit_from (inl p) = plain p.0 p.1
unit_from (inr p) = labelled p.0 p.1.0 p.1.1

means_unit : Means (FormulaUnit Written) unit_text unit_re
unfolding unit_to unit_from
means_unit =
    means_as (means_alt (means_pair means_symbol means_written) (means_brackets (means_pair means_number (means_pair means_symbol means_number)))) unit_to unit_from
    (elim [ plain s c ↦ refl | labelled a s c ↦ refl ]) (elim [ plain s c ↦ refl | labelled a s c ↦ refl ]) (elim [ inl p ↦ refl | inr p ↦ refl ])

pub means_formula : Means (Formula Written) formula_text formula_re
means_formula = means_some means_unit

-- ---- ions

means_braced : Means (Opt Text) (opt_text braced_text) (opt_re (braces_re text_re))
means_braced = means_opt (means_braces means_text)

-- letters of any kind, each of which is spelled as one or none: what the edition of lines has behind the `m` of an internal ion
module _ {Cut : Type 0} (up : Cut → Letters) where
  abbrev pub lettered : Ion Written Cut → SpelledIon
  lettered (series s n t) = series s n t
  lettered (internal c m n t) = internal (up c) m n t
  lettered (immonium a m) = immonium a m
  lettered precursor = precursor
  lettered (reference n) = reference n
  lettered (named t) = named t
  lettered (composed f) = composed f
  lettered (smiles t) = smiles t
  lettered (unknown n) = unknown n

  abbrev Ions : Type 0
  Ions =
      (Series × (Number × Opt Text)) ⊎ ((Unit {0} × (Cut × (Number × (Unit {0} × (Number × Opt Text))))) ⊎ ((Unit {0} × (Byte capital × Opt Modification)) ⊎ (Unit {0}
      ⊎ ((Unit {0} × Name) ⊎ ((Unit {0} × Text) ⊎ ((Unit {0} × Formula Written) ⊎ ((Unit {0} × Text) ⊎ (Unit {0} × Opt Number))))))))

  ion_to : Ion Written Cut → Ions
  ion_to (series s n t) = inl (s, (n, t))
  ion_to (internal c m n t) = inr (inl (tt, (c, (m, (tt, (n, t))))))
  ion_to (immonium a m) = inr (inr (inl (tt, (a, m))))
  ion_to precursor = inr (inr (inr (inl tt)))
  ion_to (reference n) = inr (inr (inr (inr (inl (tt, n)))))
  ion_to (named t) = inr (inr (inr (inr (inr (inl (tt, t))))))
  ion_to (composed f) = inr (inr (inr (inr (inr (inr (inl (tt, f)))))))
  ion_to (smiles t) = inr (inr (inr (inr (inr (inr (inr (inl (tt, t))))))))
  ion_to (unknown n) = inr (inr (inr (inr (inr (inr (inr (inr (tt, n))))))))

  ion_from : Ions → Ion Written Cut
  ion_from (inl p) = series p.0 p.1.0 p.1.1
  ion_from (inr (inl p)) = internal p.1.0 p.1.1.0 p.1.1.1.1.0 p.1.1.1.1.1
  ion_from (inr (inr (inl p))) = immonium p.1.0 p.1.1
  ion_from (inr (inr (inr (inl p)))) = precursor
  ion_from (inr (inr (inr (inr (inl p))))) = reference p.1
  ion_from (inr (inr (inr (inr (inr (inl p)))))) = named p.1
  ion_from (inr (inr (inr (inr (inr (inr (inl p))))))) = composed p.1
  ion_from (inr (inr (inr (inr (inr (inr (inr (inl p)))))))) = smiles p.1
  ion_from (inr (inr (inr (inr (inr (inr (inr (inr p)))))))) = unknown p.1

  pub means_ion : {r : Re} → Means Cut (λ c. opt_text word_of (up c)) r → Means (Ion Written Cut) (λ x. ion_text (lettered x)) (ion_re r)
  unfolding ion_to ion_from
  means_ion letters =
      means_as
      (means_alt (means_pair (means_listed (map bytes series_names)) (means_pair means_number means_braced))
      (means_alt (means_pair (means_word (bytes "m")) (means_pair letters (means_pair means_number (means_pair (means_word (bytes ":")) (means_pair means_number means_braced)))))
      (means_alt (means_pair (means_word (bytes "I")) (means_pair (means_byte capital) (means_opt (means_brackets means_modification))))
      (means_alt (means_word (bytes "p"))
      (means_alt (means_pair (means_word (bytes "r")) (means_brackets means_name))
      (means_alt (means_pair (means_word (bytes "_")) (means_braces means_text))
      (means_alt (means_pair (means_word (bytes "f")) (means_braces means_formula))
      (means_alt (means_pair (means_word (bytes "s")) (means_braces means_text)) (means_pair (means_word (bytes "?")) (means_opt means_number))))))))))
      ion_to ion_from
      (elim [ series s n t ↦ refl | internal c m n t ↦ refl | immonium a m ↦ refl | precursor ↦ refl | reference n ↦ refl | named t ↦ refl | composed f ↦ refl | smiles t ↦ refl | unknown n ↦ refl ])
      (elim [ series s n t ↦ refl | internal c m n t ↦ refl | immonium a m ↦ refl | precursor ↦ refl | reference n ↦ refl | named t ↦ refl | composed f ↦ refl | smiles t ↦ refl | unknown n ↦ refl ])
      (elim [
        | inl p ↦ refl
        | inr (inl p) ↦ refl
        | inr (inr (inl p)) ↦ refl
        | inr (inr (inr (inl p))) ↦ refl
        | inr (inr (inr (inr (inl p)))) ↦ refl
        | inr (inr (inr (inr (inr (inl p))))) ↦ refl
        | inr (inr (inr (inr (inr (inr (inl p)))))) ↦ refl
        | inr (inr (inr (inr (inr (inr (inr (inl p))))))) ↦ refl
        | inr (inr (inr (inr (inr (inr (inr (inr p))))))) ↦ refl
      ])

-- the second edition's letters
pub means_letters : Means Letters (opt_text word_of) letters_re
means_letters = means_opt (means_listed (map bytes cleavage_names))

-- ---- losses

sign_to : Sign → Unit {0} ⊎ Unit {0}
sign_to minus = inl tt
sign_to plus = inr tt

sign_from : Unit {0} ⊎ Unit {0} → Sign
sign_from (inl p) = minus
sign_from (inr p) = plus

means_sign : Means Sign sign_text sign_re
unfolding sign_to sign_from
means_sign =
    means_as (means_alt (means_word (bytes "-")) (means_word (bytes "+"))) sign_to sign_from
    (elim [ minus ↦ refl | plus ↦ refl ]) (elim [ minus ↦ refl | plus ↦ refl ]) (elim [ inl p ↦ refl | inr p ↦ refl ])

lost_to : Lost Written → Formula Written ⊎ LossName
lost_to (lost_formula f) = inl f
lost_to (lost_name_lem n) = inr n

lost_from : Formula Written ⊎ LossName → Lost Written
lost_from (inl f) = lost_formula f
lost_from (inr n) = lost_name_lem n

means_lost : Means (Lost Written) lost_text (alt formula_re (brackets_re loss_name_re))
unfolding lost_to lost_from
means_lost =
    means_as (means_alt means_formula (means_brackets means_loss_name)) lost_to lost_from
    (elim [ lost_formula f ↦ refl | lost_name_lem n ↦ refl ]) (elim [ lost_formula f ↦ refl | lost_name_lem n ↦ refl ]) (elim [ inl f ↦ refl | inr n ↦ refl ])

pub means_loss : Means (Loss Written) loss_text loss_re
means_loss =
    means_as (means_pair means_sign (means_pair (means_opt means_two) means_lost))
    (λ l. (l.sign, (l.count, l.what))) (λ p. record { sign = p.0; count = p.1.0; what = p.1.1 }) (λ l. refl) (λ l. refl) (λ p. refl)

-- ---- isotopes

means_shift : Means (Shift Written) shift_text shift_re
means_shift =
    means_as (means_pair means_sign (means_pair means_written (means_word (bytes "i"))))
    (λ x. (x.sign, (x.count, tt))) (λ p. record { sign = p.0; count = p.1.0 }) (λ x. refl) (λ x. refl) (λ p. refl)

means_specific : Means (Specific Written) specific_text specific_re
means_specific =
    means_as (means_pair means_shift (means_pair means_number means_symbol))
    (λ x. (x.shift, (x.nucleons, x.symbol))) (λ p. record { shift = p.0; nucleons = p.1.0; symbol = p.1.1 }) (λ x. refl) (λ x. refl) (λ p. refl)

abbrev Kinds : Type 0
Kinds = Opt (Shift Written ⊎ ((Shift Written × Unit {0}) ⊎ Some (Specific Written)))

isotopes_to : Isotopes Written → Kinds
isotopes_to no_isotope = silent
isotopes_to (plain_isotope x) = written (inl x)
isotopes_to (average_isotope x) = written (inr (inl (x, tt)))
isotopes_to (specific_isotopes xs) = written (inr (inr xs))

isotopes_from_lem : Kinds → Isotopes Written
isotopes_from_lem silent = no_isotope
isotopes_from_lem (written (inl x)) = plain_isotope x
isotopes_from_lem (written (inr (inl p))) = average_isotope p.0
isotopes_from_lem (written (inr (inr xs))) = specific_isotopes xs

pub means_isotopes : Means (Isotopes Written) isotopes_text isotopes_re
unfolding isotopes_to isotopes_from_lem
means_isotopes =
    means_as (means_opt (means_alt means_shift (means_alt (means_pair means_shift (means_word (bytes "A"))) (means_some means_specific)))) isotopes_to isotopes_from_lem
    (elim [ no_isotope ↦ refl | plain_isotope x ↦ refl | average_isotope x ↦ refl | specific_isotopes xs ↦ refl ])
    (elim [ no_isotope ↦ refl | plain_isotope x ↦ refl | average_isotope x ↦ refl | specific_isotopes xs ↦ refl ])
    (elim [ silent ↦ refl | written (inl x) ↦ refl | written (inr (inl p)) ↦ refl | written (inr (inr xs)) ↦ refl ])

-- ---- adducts

added_to_lem : Added Written → Formula Written ⊎ Unit {0}
added_to_lem (added_formula f) = inl f
added_to_lem electron = inr tt

added_from : Formula Written ⊎ Unit {0} → Added Written
added_from (inl f) = added_formula f
added_from (inr p) = electron

means_added : Means (Added Written) added_text (alt formula_re (word (bytes "e")))
unfolding added_to_lem added_from
means_added =
    means_as (means_alt means_formula (means_word (bytes "e"))) added_to_lem added_from
    (elim [ added_formula f ↦ refl | electron ↦ refl ]) (elim [ added_formula f ↦ refl | electron ↦ refl ]) (elim [ inl f ↦ refl | inr p ↦ refl ])

means_item : Means (Item Written) item_text item_re
means_item =
    means_as (means_pair means_sign (means_pair means_written means_added))
    (λ x. (x.sign, (x.count, x.what))) (λ p. record { sign = p.0; count = p.1.0; what = p.1.1 }) (λ x. refl) (λ x. refl) (λ p. refl)

-- none, or one or more
unfoldable pub list_to : {X : Type 0} → List X → Opt (Some X)
list_to [] = silent
list_to (x ∷ xs) = written (record { first = x; more = xs })

unfoldable pub list_from : {X : Type 0} → Opt (Some X) → List X
list_from silent = []
list_from (written s) = s.first ∷ s.more

pub means_adduct : Means (List (Item Written)) adduct_text adduct_re
unfolding list_to list_from
means_adduct =
    means_as (means_opt (means_closed (bytes "[M") (bytes "]") (means_some means_item))) list_to list_from
    (elim [ [] ↦ refl | x ∷ xs ↦ refl ]) (elim [ [] ↦ refl | x ∷ xs ↦ refl ]) (elim [ silent ↦ refl | written s ↦ refl ])
