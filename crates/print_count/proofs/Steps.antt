-- What is put, as the tests of the code tell it apart. Assumes nothing.
use Prim.Native.Nat.{ℕ, ◌<◌, ◌≤◌}
use mathlib.Core.Path.{◌≡◌}
use mathlib.Core.List.{[]}
use borrow.Author.Tests.{le-leb, lt-leb}
use Rattle.rules.specs.Numbers.{digits}
use Rattle.print_count.specs.Heads.{count_text}

pub count_one : (n : ℕ) → n ≤ 1 → [] ≡ count_text n
unfolding count_text
count_one n h = rw (le-leb n 1 h)

pub count_more : (n : ℕ) → 1 < n → digits n ≡ count_text n
unfolding count_text
count_more n h = rw (lt-leb n 1 h)
