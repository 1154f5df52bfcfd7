use Rattle.std.proofs.Common.{◌≡◌, drop}
use Rattle.roles.specs.Roles.{numbers_of}
use Rattle.count_facts.specs.Filling.{over, counted}
use Rattle.count_facts.proofs.count.Column.bump_each.Given as goal

abbrev pub invariant-loop-r : goal.invariant-loop-r
invariant-loop-r l =
    over (counted l.self.at l.self.most) l.table (drop l.r-index (numbers_of l.regs)) ≡ over (counted l.self.at l.self.most) l.fn.table (numbers_of l.regs)
