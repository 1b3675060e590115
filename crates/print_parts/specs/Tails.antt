-- Charge, deviation and confidence as the record of an annotation says. Assumes nothing.
use Rattle.std.specs.Prelude.{ℕ, ◌-◌, cond, List, [], ◌++◌, eqb, leb, ltb, get_or, drop}
use Rattle.rules.specs.Bytes.{bytes}
use Rattle.rules.specs.Numbers.{digits}
use Rattle.rules.specs.Decimals.{decimal_text}
use Rattle.rules.specs.Layout.{charge_at, deviation_kind_at, deviation_places_at, confidence_present_at, confidence_places_at, deviation_at, confidence_at}
use Rattle.slices.specs.Numbers.{u32_at, u64_at}

-- a charge of 1 is left out
unfoldable pub charge_printed : List ℕ → List ℕ
charge_printed s = cond (leb (get_or s charge_at 0) 1) [] (bytes "^" ++ digits (get_or s charge_at 0))

-- a number in two's complement: its size, and its text behind its `-`
abbrev pub signed_size : ℕ → ℕ
signed_size v = cond (ltb v 9223372036854775808) v (18446744073709551616 - v)

unfoldable pub signed_printed : ℕ → ℕ → List ℕ
signed_printed v places =
    cond (ltb v 9223372036854775808) [] (bytes "-") ++ decimal_text (record { value = signed_size v; places = places })

-- 0 none, 1 m/z, and else ppm
unfoldable pub deviation_printed : List ℕ → List ℕ
deviation_printed s =
    cond (eqb (get_or s deviation_kind_at 0) 0) [] (bytes "/" ++ (signed_printed (u64_at (drop deviation_at s)) (get_or s deviation_places_at 0) ++ cond (eqb (get_or s deviation_kind_at 0) 1) [] (bytes "ppm")))

unfoldable pub confidence_printed : List ℕ → List ℕ
confidence_printed s = cond (eqb (get_or s confidence_present_at 0) 0) [] (bytes "*" ++ decimal_text (record { value = u32_at (drop confidence_at s); places = get_or s confidence_places_at 0 }))

abbrev pub tail_printed : List ℕ → List ℕ
tail_printed s = charge_printed s ++ (deviation_printed s ++ confidence_printed s)
