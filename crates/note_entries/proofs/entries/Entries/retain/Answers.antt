use mir.Val.{bool_byte}
use Rattle.std.proofs.Common.{◌≡◌, Bool, true, false, cond, arith, refl}
use Rattle.note_entries.proofs.Pairs.{packed-next}
use Rattle.note_entries.proofs.entries.Entries.retain.Goals as goal

byte : (b : Bool) → bool_byte b ≡ cond b 1 0
byte true = refl
byte false = refl

pub loop-k-preserved : goal.loop-k-preserved
loop-k-preserved g c =
    let v = c.loop-k in
    let x = c.index-self-k in
    let y = c.index-self-k-in-loop-k in
    let told = rw (← x.is, ← y.is) at c.kept.ensures in
    let long = v.invariant.0.long in
    let next = packed-next _ c.args.self.now.words.now v.self.words.now v.k v.z v.invariant.0 x.result y.result (omega arith) x.is y.is
    c.kept.result (byte c.kept.result) (λ p h. h x.result y.result c.kept.result told) in
    rw (← x.is, ← y.is) (next, omega arith, v.invariant.2)
