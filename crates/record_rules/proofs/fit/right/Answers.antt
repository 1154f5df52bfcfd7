use mathlib.Core.Path.{sym}
use Rattle.records.specs.declared.Class.TheVariants.{Register, Block, Body, Instruction, Operand, Arm}
use Rattle.records.proofs.Classes.{class_told, no_class_is}
use Rattle.record_rules.proofs.Laws.{plain_fits, plain-wrong, no_class, registers, blocks, bodies, operands, arms}
use Rattle.record_rules.proofs.fit.right.Goals as goal

pub instruction-requires : goal.instruction-requires
instruction-requires c = let i = c.in-Ok-Instruction in class_told c.args.r.class i.ensures i.field-0-is

pub returns-then-plain : goal.returns-then-plain
returns-then-plain c =
    let i = c.in-Ok-Register in
    plain_fits c.args.r registers (class_told c.args.r.class i.ensures i.field-0-is) c.plain.ensures c.if-plain.true c.blank.ensures

pub returns-else-plain : goal.returns-else-plain
returns-else-plain c =
    let i = c.in-Ok-Register in
    plain-wrong c.args.r registers (class_told c.args.r.class i.ensures i.field-0-is) c.plain.ensures c.if-plain.false

pub returns-then-plain-2 : goal.returns-then-plain-2
returns-then-plain-2 c =
    let i = c.in-Ok-Block in
    plain_fits c.args.r blocks (class_told c.args.r.class i.ensures i.field-0-is) c.plain-in-Ok-Block.ensures c.if-plain-2.true c.blank-then-plain-2.ensures

pub returns-else-plain-2 : goal.returns-else-plain-2
returns-else-plain-2 c =
    let i = c.in-Ok-Block in
    plain-wrong c.args.r blocks (class_told c.args.r.class i.ensures i.field-0-is) c.plain-in-Ok-Block.ensures c.if-plain-2.false

pub returns-then-plain-3 : goal.returns-then-plain-3
returns-then-plain-3 c =
    let i = c.in-Ok-Body in
    plain_fits c.args.r bodies (class_told c.args.r.class i.ensures i.field-0-is) c.plain-in-Ok-Body.ensures c.if-plain-3.true c.blank-then-plain-3.ensures

pub returns-else-plain-3 : goal.returns-else-plain-3
returns-else-plain-3 c =
    let i = c.in-Ok-Body in
    plain-wrong c.args.r bodies (class_told c.args.r.class i.ensures i.field-0-is) c.plain-in-Ok-Body.ensures c.if-plain-3.false

pub returns-then-plain-4 : goal.returns-then-plain-4
returns-then-plain-4 c =
    let i = c.in-Ok-Operand in
    plain_fits c.args.r operands (class_told c.args.r.class i.ensures i.field-0-is) c.plain-in-Ok-Operand.ensures c.if-plain-4.true c.blank-then-plain-4.ensures

pub returns-else-plain-4 : goal.returns-else-plain-4
returns-else-plain-4 c =
    let i = c.in-Ok-Operand in
    plain-wrong c.args.r operands (class_told c.args.r.class i.ensures i.field-0-is) c.plain-in-Ok-Operand.ensures c.if-plain-4.false

pub returns-then-plain-5 : goal.returns-then-plain-5
returns-then-plain-5 c =
    let i = c.in-Ok-Arm in
    plain_fits c.args.r arms (class_told c.args.r.class i.ensures i.field-0-is) c.plain-in-Ok-Arm.ensures c.if-plain-5.true c.arm_fits.ensures

pub returns-else-plain-5 : goal.returns-else-plain-5
returns-else-plain-5 c =
    let i = c.in-Ok-Arm in
    plain-wrong c.args.r arms (class_told c.args.r.class i.ensures i.field-0-is) c.plain-in-Ok-Arm.ensures c.if-plain-5.false

pub returns-in-Err : goal.returns-in-Err
returns-in-Err c =
    let r = c.args.r in
    let none = no_class_is r.class (sym c.in-Err.ensures) in
    no_class r (none Register) (none Block) (none Body) (none Instruction) (none Operand) (none Arm)
