use Prim.Native.Nat.{ℕ}
use native.Mathlib.Omega.{arith}
use mathlib.Core.Path.{◌≡◌, subst}
use mathlib.Core.List.{List}
use Rattle.steps.specs.Told.{told}
use Rattle.steps.specs.Shorten.{shorten_within}
use Rattle.output.specs.Filed.{outcome}
use Rattle.shorten.proofs.Answers.{accepted-open}
use Rattle.shorten.proofs.shorten_accepted.Goals as goal

pub returns : goal.returns
returns c =
    let b = c.args.bytes.now in
    let s = c.shorten_limited in
    let read =
    accepted-open b c.open-file.result (λ (i : ℕ). omega (arith, c.type_inv.bytes i)) c.requires.0 c.open-file.ensures.bytes c.open-file.ensures.layout in
    subst (λ (d : List ℕ). outcome (told s.result) s.new.out ≡ shorten_within c.args.registers c.args.code d c.args.out.now) c.open-file.ensures.bytes
    (s.ensures read c.requires.1 c.requires.2)
