use Rattle.std.proofs.Common.{length, refl, ◌∙◌}
use Rattle.pause.specs.Storage.{body_in}
use Rattle.thread.specs.Threading.{at_in}
use Rattle.thread.proofs.Laws.{cond_br_turns, edited, hop_br_lem, hop_cond_br_lem, hop_stay}
use Rattle.thread.proofs.hop.Goals as goal

pub returns-in-CondBr-clause-hopped : goal.returns-in-CondBr-clause-hopped
returns-in-CondBr-clause-hopped c =
    let a = c.args in
    let s = a.space.now in
    let x = a.added.now in
    let f = a.facts.now in
    let known = length a.room.now.known.now in
    let copy = length a.room.now.copy.now in
    let end = rw c.blocks-blocks.ensures.blocks at c.end_at.ensures in
    let z = c.hop_cond_br-n in
    let t = record s { work = record s.work { now = z.new.work }; table = record s.table { now = z.new.table } } in
    hop_cond_br_lem f.table.now (body_in f.pause) f.budget known copy
    s.work.now s.table.now x.kinds.now (at_in s x) a.a.0 c.end_at.result end c.in-CondBr.is
    (edited c.turned.ensures t
    ∙ cond_br_turns f.table.now (body_in f.pause) f.budget known copy
    s.work.now s.table.now x.kinds.now (at_in s x) a.a.0 _ _ _ z.ensures.table refl z.ensures.turned)

pub returns-in-Br-clause-hopped : goal.returns-in-Br-clause-hopped
returns-in-Br-clause-hopped c =
    let a = c.args in
    let s = a.space.now in
    let x = a.added.now in
    let f = a.facts.now in
    let known = length a.room.now.known.now in
    let copy = length a.room.now.copy.now in
    let end = rw c.blocks-blocks.ensures.blocks at c.end_at.ensures in
    hop_br_lem f.table.now (body_in f.pause) f.budget known copy
    s.work.now s.table.now x.kinds.now (at_in s x) a.a.0 c.end_at.result end c.in-Br.is (c.hop_br.ensures.hopped known copy)

pub returns-in-Case-clause-hopped : goal.returns-in-Case-clause-hopped
returns-in-Case-clause-hopped c =
    let a = c.args in
    let s = a.space.now in
    let x = a.added.now in
    let f = a.facts.now in
    let end = rw c.blocks-blocks.ensures.blocks at c.end_at.ensures in
    hop_stay f.table.now (body_in f.pause) f.budget (length a.room.now.known.now) (length a.room.now.copy.now)
    s.work.now s.table.now x.kinds.now (at_in s x) a.a.0 c.end_at.result end c.in-Case.is
