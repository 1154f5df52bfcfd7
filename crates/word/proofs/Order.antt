-- Cmp is signed: -1 is below 0, and 2^63 is below 2^63 - 1.
use Rattle.std.proofs.Common.{◌≡◌, ◌-◌, ◌^◌, [], ◌∷◌, refl}
use Rattle.inst.specs.declared.CmpOp.TheVariants as c
use Rattle.word.specs.Word.{compares}

pub below :
    compares 0 0 c.Lt (2 ^ 64 - 1) 0 ∷ compares 0 0 c.Lt 0 (2 ^ 64 - 1) ∷ compares 2 2 c.Le (2 ^ 63) (2 ^ 63 - 1) ∷ []
    ≡ 1 ∷ 0 ∷ 1 ∷ []
unfolding compares
below = refl
