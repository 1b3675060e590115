-- A buffer that is to hold the machine: it is cleared, and the machine is put where there is room for it. Assumes nothing.
use Prim.Native.Nat.{ℕ, ◌<◌, ◌≤◌}
use mathlib.Core.Path.{◌≡◌, subst}
use mathlib.Core.List.{List}
use native.Mathlib.Omega.{arith}
use lib.ListN.{length, replicate}
use borrow.Author.Tests.{lt-ltb, le-ltb, ne_eqb}
use Rattle.rules.specs.Editions.{LineEdition, first_lines, second_lines}
use Rattle.shape.specs.Tables.{size}
use Rattle.put_bytes.specs.Puts.{Put}
use Rattle.put_bytes.proofs.Putting.{over_zeros}
use Rattle.scan_line.specs.Steps.{machine_bytes}
use Rattle.scan_line.proofs.Cells.{size_is}
use Rattle.capi.specs.Prepared.{Prepared, prepared, put_of, prepared_of}

module _ (l : LineEdition) (n : ℕ) where
  pub too_short : {e : List ℕ} → n < size → e ≡ replicate n 0 → prepared 8 e ≡ put_of l n
  unfolding put_of
  too_short h z = rw (lt-ltb n size h, z)

  pub enough : {d m e : List ℕ} {r : ℕ} → size ≤ n → d ≡ replicate n 0 → m ≡ machine_bytes l → Put d 0 m e r → prepared 0 e ≡ put_of l n
  unfolding put_of
  enough {d} {m} {e} {r} h z y p =
      let q : Put (replicate n 0) 0 (machine_bytes l) e r = subst (λ (x : List ℕ). Put x 0 (machine_bytes l) e r) z (subst (λ (x : List ℕ). Put d 0 x e r) y p) in
      let s = size_is l in
      rw (le-ltb n size h, over_zeros {n = n} q (omega arith), s)

-- ---- by the number of the edition

module _ (n : ℕ) where
  pub first_prepared : (lines : ℕ) → lines ≡ 1 → {p : Prepared} → p ≡ put_of first_lines n → p ≡ prepared_of lines n
  unfolding prepared_of
  first_prepared lines e q = rw e q

  pub second_prepared : (lines : ℕ) → lines ≡ 2 → {p : Prepared} → p ≡ put_of second_lines n → p ≡ prepared_of lines n
  unfolding prepared_of
  second_prepared lines e q = rw e q

  pub none_prepared : (lines : ℕ) → (lines ≡ 1 → ⊥) → (lines ≡ 2 → ⊥) → {e : List ℕ} → e ≡ replicate n 0 → prepared 9 e ≡ prepared_of lines n
  unfolding prepared_of
  none_prepared lines f g z = rw (ne_eqb lines 1 f, ne_eqb lines 2 g, z)
