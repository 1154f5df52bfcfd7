use Prim.Native.Nat.{ℕ, ◌+◌, ◌-◌}
use mathlib.Core.Path.{◌≡◌, refl, ap, ◌∙◌}
use native.Mathlib.Omega.{arith}
use native.Mathlib.Nat.{zero-add}
use Rattle.records.specs.Record.{records_of}
use Rattle.layout.specs.Walk.{walk}
use Rattle.read.specs.Structure.{State, tiles, next_block}
use Rattle.read.specs.Spans.{spanned}
use Rattle.read.proofs.Laws.{part_pass, part_stop, part_end, part_length, pair}
use Rattle.read.proofs.Laid.{refuse_at, pass_on}
use Rattle.read.proofs.blocks.tiled_blocks.Goals as goal

pub loop-k-init : goal.loop-k-init
loop-k-init c =
    let a = c.args.blocks in
    let size = part_length (records_of a.b.now) a.first a.count a.within in
    zero-add _ ∙ ap (λ (n : ℕ). walk (tiles c.args.n) next_block (0, n) (spanned a)) (omega (arith, size))

pub returns-then-not-tiles : goal.returns-then-not-tiles
returns-then-not-tiles c =
    let a = c.args.blocks in
    let s : State = (c.loop-k.due, a.count - c.loop-k.k) in
    let stop = part_stop (tiles c.args.n) next_block (records_of a.b.now) a.first a.count a.within c.loop-k.k s c.loop-k-test.true in
    let e = stop c.at-r.ensures c.if-not-tiles.ensures refl ∙ c.loop-k.invariant in
    refuse_at 4 a.first _ a.count _ c.refused.ensures (ap (λ (m : ℕ). a.first + m) e) (rw (← e) c.loop-k-test.true)

pub loop-k-preserved : goal.loop-k-preserved
loop-k-preserved c =
    let a = c.args.blocks in
    let s : State = (c.loop-k.due, a.count - c.loop-k.k) in
    let pass = part_pass (tiles c.args.n) next_block (records_of a.b.now) a.first a.count a.within c.loop-k.k s c.loop-k-test.true in
    let on = pass c.at-r.ensures c.if-not-tiles.ensures refl in
    on (pair refl (omega arith)) ∙ c.loop-k.invariant

pub returns : goal.returns
returns c =
    let a = c.args.blocks in
    let all : a.count ≡ c.loop-k.k = omega arith in
    let rs = records_of a.b.now in
    let s : State = (c.loop-k.due, a.count - c.loop-k.k) in
    let e = all ∙ part_end (tiles c.args.n) next_block rs a.first a.count a.within c.loop-k.k s c.loop-k-test.false ∙ c.loop-k.invariant in
    pass_on 4 a.first _ a.count (rw (← e) (omega arith)) refl
