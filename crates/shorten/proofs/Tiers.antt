-- Storage of some size is enough for a file that fits it.
use Prim.Native.Nat.{ℕ, ◌*◌, ◌/◌, min}
use native.Mathlib.Omega.{arith}
use mathlib.Core.Path.{◌≡◌, ap}
use mathlib.Core.List.{List}
use lib.ListN.{length, take, replicate, length-replicate}
use lib.Seq.{length-take-le}
use Rattle.procedure.specs.Procedure.{Procedure}
use Rattle.procedure_parts.proofs.Laws.{registers-sent}
use Rattle.procedure_parts.specs.Opened.{Parts, Opened}
use Rattle.shortening.specs.Storage.{lent, Enough, Staging}
use Rattle.shorten.specs.Storage.{Room, Fits}

-- storage for so many registers, instructions and blocks, blank, and lent as far as the file needs it
module _ (x : Parts) {most blocks work table kinds words facts staged : ℕ} (room : Room most blocks work table kinds words facts staged)
    {nb nr : ℕ} {sent registers : List ℕ}
    (h : sent ≡ x.heads) (i : nb ≡ min (length sent / 32) blocks) (g : registers ≡ x.registers) (j : nr ≡ min (length registers / 32) most)
    (fits : Fits most blocks x) (p : Procedure) (o : Opened p x) where
  abbrev blank : ℕ → List ℕ
  blank n = replicate n 0

  pub enough : Enough x (lent (blank work) (take (32 * nb) (blank table)) (blank kinds) (take (5 * nr) (blank facts)) (length (blank words)) (length (blank words)))
  enough =
      let hs = ap (λ (y : List ℕ). length y) h in
      let rs = ap (λ (y : List ℕ). length y) g in
      let oh = o.parted.coded.heads-length in
      let or = registers-sent o.parted in
      let oc = o.parted.coded.code-length in
      let lw : length (blank work) ≡ work = length-replicate work 0 in
      let lt : length (blank table) ≡ table = length-replicate table 0 in
      let lk : length (blank kinds) ≡ kinds = length-replicate kinds 0 in
      let lf : length (blank facts) ≡ facts = length-replicate facts 0 in
      let lo : length (blank words) ≡ words = length-replicate words 0 in
      let ts = length-take-le (32 * nb) (blank table) (let t = room.all-heads in omega arith) in
      let fs = length-take-le (5 * nr) (blank facts) (let t = room.all-facts in omega arith) in
      record { work = omega arith; word = omega arith; table = omega arith; kinds = omega arith; facts = omega arith; known = omega arith; copy = omega arith }

  pub staging : Staging x (length (blank staged)) (length (take (32 * nb) (blank table)))
  staging =
      let hs = ap (λ (y : List ℕ). length y) h in
      let oh = o.parted.coded.heads-length in
      let oc = o.parted.coded.code-length in
      let lt : length (blank table) ≡ table = length-replicate table 0 in
      let ls : length (blank staged) ≡ staged = length-replicate staged 0 in
      let ts = length-take-le (32 * nb) (blank table) (let t = room.all-heads in omega arith) in
      record { code-room = omega arith; heads-room = omega arith }
