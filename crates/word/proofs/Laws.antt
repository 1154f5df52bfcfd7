-- A test against 0 in code is `holds`.
use Rattle.std.proofs.Common.{◌≡◌, ℕ, zero, suc, not, eqb, refl, arith, ne_eqb}
use Rattle.word.specs.Word.{holds}

pub isnt_zero : (v : ℕ) → not (eqb v 0) ≡ holds v
isnt_zero zero = refl
isnt_zero (suc v) = rw (ne_eqb (suc v) 0 (λ e. omega arith))
