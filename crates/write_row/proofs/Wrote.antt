-- A row whose head was found is written as its model says. Assumes nothing.
use Prim.Native.Nat.{ℕ, ◌-◌, ◌≤◌}
use mathlib.Core.Path.{◌≡◌, sym, ap, ap₂, ◌∙◌, subst}
use mathlib.Core.List.{List}
use native.Mathlib.Omega.{arith}
use lib.ListN.{length, drop}
use Rattle.std.specs.Prelude.{Result, Ok}
use Rattle.rules.specs.Answers as rules
use Rattle.rules.specs.Rows.{row_head_size}
use Rattle.put_bytes.specs.Puts.{Put}
use Rattle.put_bytes.proofs.Putting.{put_length}
use Rattle.answers.specs.Delivered.{Answer}
use Rattle.write_table.specs.Writings.{written_of}
use Rattle.write_row.specs.declared.Head.{Head}
use Rattle.answers.specs.Behind.{capped, Behind}
use Rattle.write_row.specs.Writings.{head_in, head_of, columns_text, finished_over, behind_of, headed_of, write_row_of}
use Rattle.write_row.proofs.Heads.{head_is, head_fits}
use Rattle.write_row.proofs.Right.{columns_short}
use Rattle.answers.proofs.Behind.{capped_is}
use Rattle.write_row.proofs.Over.{finished_is}

pub row_written : (machine s d : List ℕ) {t d1 e : List ℕ} {o : Result Head Head} {x : Head} {to at : ℕ} {r : Answer} → o ≡ head_of s → o ≡ Ok x
    → Put d 0 (columns_text x.mz x.intensity) d1 to → t ≡ drop row_head_size s → at ≡ capped to 1
    → Behind at d1 e (written_of machine t (length d1 - at)) r → finished_over e to r ≡ write_row_of machine s (length d)
unfolding write_row_of
row_written machine s d {t} {d1} {e} {x = x} {to} {at} {r} h g p q a w =
    let z = head_is s (sym h ∙ g) in
    let f = head_fits s z.0 in
    let c = columns_text x.mz x.intensity in
    let few : length c ≤ 27 =
    subst (λ (y : Head). length (columns_text y.mz y.intensity) ≤ 27) z.1 (columns_short (head_in s).mz (head_in s).intensity f.0 f.1) in
    let n : to ≡ capped 0 (length c) = omega (arith, p.next, capped_is 0 (length c) (omega arith)) in
    let v : Behind (capped to 1) d1 e (written_of machine t (length d1 - at)) r =
    subst (λ (m : ℕ). Behind m d1 e (written_of machine t (length d1 - at)) r) a w in
    let b : written_of machine t (length d1 - at) ≡ written_of machine (drop row_head_size s) (length d - capped (capped 0 (length c)) 1) =
    ap₂ (written_of machine) q (ap₂ (λ (i j : ℕ). i - j) (put_length p) (a ∙ ap (λ (m : ℕ). capped m 1) n)) in
    finished_is few p v ∙ ap₂ (λ (m : ℕ) (y : rules.Answer). behind_of c m (length d) y) n b
    ∙ ap (headed_of machine s (length d)) (sym g ∙ h)
