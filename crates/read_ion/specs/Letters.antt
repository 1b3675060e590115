-- The series that bytes begin with. Assumes nothing.
use Rattle.std.specs.Prelude.{ℕ, suc, cond, List, [], ◌∷◌, eqb, get_or, Option, Some, None}
use Rattle.rules.specs.Bytes.{bytes}
use Rattle.read_ion.specs.declared.SeriesRead.{SeriesRead}

-- where a byte stands in a list, counted from 1 behind n others
unfoldable pub place_from : ℕ → List ℕ → ℕ → Option ℕ
place_from n [] b = None
place_from n (a ∷ l) b = cond (eqb b a) (Some (suc n)) (place_from (suc n) l b)

-- the nine series of one letter
unfoldable pub one_letter : ℕ → Option ℕ
one_letter b = place_from 0 (bytes "abcdvwxyz") b

-- da, db, wa, wb
unfoldable pub two_letters : ℕ → ℕ → Option ℕ
two_letters a b =
    cond (eqb a 100) (cond (eqb b 97) (Some 10) (cond (eqb b 98) (Some 11) None)) (cond (eqb a 119) (cond (eqb b 97) (Some 12) (cond (eqb b 98) (Some 13) None)) None)

-- where the first two letters are a series they are it, else where the first is
abbrev pub series_with : Option ℕ → Option ℕ → SeriesRead
series_with (Some n) one = record { letter = Some n; len = 2 }
series_with None (Some n) = record { letter = Some n; len = 1 }
series_with None None = record { letter = None; len = 0 }

unfoldable pub letters_of : List ℕ → SeriesRead
letters_of s = series_with (two_letters (get_or s 0 0) (get_or s 1 0)) (one_letter (get_or s 0 0))
