use Rattle.std.proofs.Common.{arith}
use Rattle.slice.proofs.Staged.{staged}
use Rattle.slice.proofs.slice.Goals as goal

pub returns-then-most-le64 : goal.returns-then-most-le64
returns-then-most-le64 c = λ p x kinds h o r.
    let a = c.args in
    staged 64 p x kinds a.code.now a.heads.now h (omega arith) o (c.slice_over.ensures (omega arith))

pub returns-then-most-le128 : goal.returns-then-most-le128
returns-then-most-le128 c = λ p x kinds h o r.
    let a = c.args in
    staged 128 p x kinds a.code.now a.heads.now h (omega arith) o (c.slice_over-then-most-le128.ensures (omega arith))

pub returns-then-most-le256 : goal.returns-then-most-le256
returns-then-most-le256 c = λ p x kinds h o r.
    let a = c.args in
    staged 256 p x kinds a.code.now a.heads.now h (omega arith) o (c.slice_over-then-most-le256.ensures (omega arith))

pub returns-then-most-le512 : goal.returns-then-most-le512
returns-then-most-le512 c = λ p x kinds h o r.
    let a = c.args in
    staged 512 p x kinds a.code.now a.heads.now h (omega arith) o (c.slice_over-then-most-le512.ensures (omega arith))

pub returns-else-most-le512 : goal.returns-else-most-le512
returns-else-most-le512 c = λ p x kinds h o r.
    let a = c.args in
    let few = h.well_formed.registers in
    let code = h.well_formed.code in
    let long = h.coded.code-length in
    staged 756 p x kinds a.code.now a.heads.now h few o (c.slice_over-else-most-le512.ensures (omega arith))
