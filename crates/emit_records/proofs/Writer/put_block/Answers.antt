use native.Mathlib.Omega.{arith}
use mathlib.Core.Path.{refl}
use Rattle.put_record.specs.Store.{Bytes}
use Rattle.emit_records.proofs.Bytes.{puts-copied}
use Rattle.emit_records.proofs.Writer.put_block.Goals as goal

pub returns-then-n-room : goal.returns-then-n-room
returns-then-n-room c =
    let w = c.args.self.now in
    let code = c.args.code.now in
    let b : Bytes code = λ j. omega (arith, c.type_inv.code j) in
    record {
      same = refl;
      written = puts-copied code w.out.now w.at b (omega (arith, c.if-self-room.true, c.if-n-room.true)) c.copy.ensures (omega arith);
    }
