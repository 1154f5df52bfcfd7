-- Storage, not the paper's: where the classes of a file start, by the classes of its records alone, and the bytes of each.
use Rattle.std.specs.Prelude.{ℕ, ◌+◌, List, ltb, length, drop}
use Rattle.records.specs.declared.Record.{Record}
use Rattle.records.specs.Part.{part_of}
use Rattle.layout.specs.declared.Layout.{Layout}
use Rattle.layout.specs.Walk.{lead}
use Rattle.parts.specs.declared.File.{File}

-- the end of the run of records, from a place on, whose class is below c
abbrev pub start_at : ℕ → ℕ → List Record → ℕ
start_at c first rs = first + lead (λ r. ltb r.class c) (drop first rs)

unfoldable pub starts_in : List Record → Layout
starts_in rs =
    let blocks = start_at 2 0 rs in
    let bodies = start_at 3 blocks rs in
    let code = start_at 4 bodies rs in
    let operands = start_at 5 code rs in
    let arms = start_at 6 operands rs in
    record { blocks = blocks; bodies = bodies; code = code; operands = operands; arms = arms; end = length rs }

-- the bytes of each class
pub record Parts : Type 0 where
  pub registers : List ℕ
  pub heads : List ℕ
  pub body : List ℕ
  pub code : List ℕ
  pub operands : List ℕ
  pub arms : List ℕ

abbrev pub parts_of : List ℕ → Layout → Parts
parts_of b l = record {
  registers = part_of b 0 l.blocks;
  heads = part_of b l.blocks l.bodies;
  body = part_of b l.bodies l.code;
  code = part_of b l.code l.operands;
  operands = part_of b l.operands l.arms;
  arms = part_of b l.arms l.end;
}

abbrev pub parts_in : File → Parts
parts_in f = parts_of f.bytes.now f.layout
