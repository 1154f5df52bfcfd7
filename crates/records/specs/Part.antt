-- Storage, not the paper's: a part of a file's bytes.
use Rattle.std.specs.Prelude.{ℕ, ◌*◌, ◌-◌, ◌/◌, min, List, length, take, drop}

-- the bytes of the records from one place to another, as far as they exist
abbrev pub part_of : List ℕ → ℕ → ℕ → List ℕ
part_of b first end =
    let e = min end (length b / 32) in
    let s = min first e in
    take (32 * e - 32 * s) (drop (32 * s) b)
