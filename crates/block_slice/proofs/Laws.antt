-- A lent slice of Block structs and a table of block records that hold the same blocks stand for the same blocks of a code.
use Prim.Native.Nat.{ℕ, ◌*◌, ◌-◌, ◌/◌, min}
use native.Mathlib.Omega.{arith}
use mathlib.Core.Path.{◌≡◌, refl, sym, ap, ◌∙◌}
use mathlib.Core.List.{List, [], ◌∷◌, map}
use lib.ListN.{length, get_or, take, drop, get_or-map}
use Rattle.records.specs.declared.Record.{Record}
use Rattle.records.specs.Record.{first_records, records_of, blank}
use Rattle.inst.specs.declared.Block.{Block}
use Rattle.codec.specs.Codec.{code_of}
use Rattle.items.specs.Items.{block_of, block_record}
use Rattle.procedure.specs.Procedure.{codes_of}
use Rattle.read.specs.Structure.{code_of as recordsOfBlock}
use Rattle.blocks.specs.Blocks.{blocks_of, block_bytes}
use Rattle.blocks.proofs.Parts.{records_in_lem}
use Rattle.block_slice.specs.Lent.{bytes_of_lent, none, lent_bytes, lent_blocks}

module _ (code : List ℕ) where
  no_bytes : bytes_of_lent code none ≡ []
  no_bytes =
      let n = length code / 32 in
      let e : 32 * min 0 n - 32 * min 0 (min 0 n) ≡ 0 = omega arith in
      ap (λ (i : ℕ). take i (drop (32 * min 0 (min 0 n)) code)) e

  -- the bytes of block k hold its instructions
  pub codes_at : (blocks : List Block) (k : ℕ) → codes_of (lent_bytes code blocks k) ≡ get_or (lent_blocks code blocks) k []
  unfolding records_of first_records
  codes_at blocks k =
      sym (get_or-map (λ (b : Block). codes_of (bytes_of_lent code b)) blocks k none)
      ∙ ap (λ (d : List ℕ). get_or (lent_blocks code blocks) k (codes_of d)) no_bytes

  each : (rs : List Record) → lent_blocks code (map block_of rs) ≡ map (map code_of) (map (recordsOfBlock (records_of code)) rs)
  each [] = refl
  each (r ∷ rs) = rw (records_in_lem code r, each rs)

read_back : (blocks : List Block) → map block_of (map block_record blocks) ≡ blocks
read_back [] = refl
read_back (b ∷ blocks) = ap (λ (l : List Block). b ∷ l) (read_back blocks)

-- a table that is written of the structs holds the same blocks
pub same_blocks : (table : List ℕ) (blocks : List Block) → records_of table ≡ map block_record blocks → map block_of (records_of table) ≡ blocks
same_blocks table blocks e = ap (map block_of) e ∙ read_back blocks

module _ (code table : List ℕ) (blocks : List Block) (same : map block_of (records_of table) ≡ blocks) where
  pub lent-blocks : lent_blocks code blocks ≡ blocks_of code table
  lent-blocks = ap (lent_blocks code) (sym same) ∙ each code (records_of table)

  pub lent-bytes : (k : ℕ) → lent_bytes code blocks k ≡ block_bytes code table k
  lent-bytes k =
      ap (λ (l : List Block). lent_bytes code l k) (sym same)
      ∙ ap (bytes_of_lent code) (get_or-map block_of (records_of table) k blank)
