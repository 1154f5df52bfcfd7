use Rattle.std.proofs.Common.{◌≡◌, length, arith, length-take, length-drop, length-append}
use Rattle.roles.specs.Roles.{no_list}
use Rattle.roles.proofs.Laws.{row_filled}
use Rattle.roles.proofs.row.Goals as goal

pub returns : goal.returns
returns g c =
    let a = c.copy_from_slice.ensures.len in
    let b = c.copy_from_slice-2.ensures.len in
    let h = c.requires in
    let i : length c.copy_from_slice.new.self ≡ g.row.D = grind (arith, length-take) in
    let j : length c.copy_from_slice-2.new.self ≡ g.row.U = grind (arith, length-take, length-drop, length-append) in
    rw (← c.copy_from_slice.ensures.after, ← c.copy_from_slice-2.ensures.after, c.no_list.ensures) (row_filled _ _ _ _ i j h no_list)
