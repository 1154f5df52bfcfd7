use Rattle.std.proofs.Common.{ℕ, sym, ap, ◌∙◌, arith, Ok, Err}
use Rattle.tidy.specs.Tidy.{Tidiness}
use Rattle.shorten.proofs.Answers.{refused-by-tidy, provisioned}
use Rattle.shorten.proofs.Tidied.{read_too, ok_number}
use Rattle.shorten.proofs.tidy_and_shorten.Goals as goal

pub returns-in-Err : goal.returns-in-Err
returns-in-Err c =
    let b = c.args.bytes.now in
    let o = c.args.out.now in
    let e = c.in-Err.e in
    provisioned b o (λ (k : ℕ). omega (arith, c.type_inv.bytes k)) (Err e) c.in-Err.ensures (Err e) o (refused-by-tidy b o e c.in-Err.ensures)

pub shorten_accepted-s-requires : goal.shorten_accepted-s-requires
shorten_accepted-s-requires c =
    let e = ap (λ (t : Tidiness). t.number) (sym c.in-Ok.ensures) ∙ ok_number c.in-Ok.lowest in
    (read_too c.args.bytes.now e, omega arith, omega arith)

pub returns-in-Ok : goal.returns-in-Ok
returns-in-Ok c =
    let b = c.args.bytes.now in
    let o = c.args.out.now in
    provisioned b o (λ (i : ℕ). omega (arith, c.type_inv.bytes i)) (Ok c.in-Ok.lowest) c.in-Ok.ensures
    c.shorten_accepted-s.result c.shorten_accepted-s.new.out c.shorten_accepted-s.ensures
