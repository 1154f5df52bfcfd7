-- How a block ends, and that it holds one instruction alone, by where its record says that it starts and ends.
use Prim.Native.Nat.{ℕ, suc, ◌+◌, ◌-◌, ◌≤◌, ◌<◌, min}
use native.Mathlib.Omega.{arith}
use mathlib.Core.Path.{◌≡◌, sym, ap, ◌∙◌}
use mathlib.Core.Bool.{false}
use mathlib.Core.List.{List, []}
use mathlib.Core.Logic.{◌⊎◌, inl, inr}
use borrow.Author.Tests.{eq-eqb, ne_eqb, eqb-false}
use lib.Dec.{eqb}
use lib.ListN.{length, get_or}
use Rattle.general.proofs.Numbers.{order}
use Rattle.records.specs.declared.Record.{Record}
use Rattle.records.specs.Record.{record_at}
use Rattle.records.proofs.Laws.{length_records}
use Rattle.inst.specs.declared.Code.{Code}
use Rattle.codec.specs.Codec.{inst_of}
use Rattle.procedure.specs.Procedure.{codes_of}
use Rattle.ends.specs.declared.End.TheVariants as e
use Rattle.ends.specs.Ends.{view_of, end_of, lone_of}
use Rattle.ends.proofs.Laws.{length_codes, inst-there, end-last, end_none, lone_none}
use Rattle.blocks.specs.declared.Blocks.{Blocks}
use Rattle.blocks.specs.Blocks.{blocks_of, blocks_in, bytes_of_block, block_bytes}
use Rattle.blocks.proofs.Parts.{start-within, end-within, between_length, between_at, block_codes}

-- a block that doesn't hold one instruction alone has no lone end
pub not_lone : (c : List Code) → eqb (length c) 1 ≡ false → lone_of c ≡ e.Other
not_lone c h = lone_none c (eqb-false (length c) 1 h)

-- the code that is told for block k holds its instructions
pub codes_in : (b : Blocks) (k : ℕ) {code : List ℕ} → code ≡ block_bytes b.code.now b.table.now k → codes_of code ≡ get_or (blocks_in b) k []
codes_in b k e = ap codes_of e ∙ block_codes b.code.now b.table.now k

-- a block by its record
module _ (code : List ℕ) (r : Record) where
  size : length (codes_of (bytes_of_block code r)) ≡ end-within code r - start-within code r
  size = length_codes (bytes_of_block code r) ∙ sym (length_records (bytes_of_block code r)) ∙ between_length code r

  -- it ends where it starts, or before
  pub ends_nowhere : end-within code r ≤ r.p1 → e.Other ≡ end_of (codes_of (bytes_of_block code r))
  ends_nowhere h =
      let z : end-within code r - start-within code r ≡ 0 = omega arith in
      sym (end_none (codes_of (bytes_of_block code r)) (size ∙ z))

  -- else by the record before its end
  pub ends_there : r.p1 < end-within code r → {x : Record} → x ≡ record_at code (end-within code r - 1)
      → view_of (inst_of x) ≡ end_of (codes_of (bytes_of_block code r))
  ends_there h q =
      let b = bytes_of_block code r in
      let j = end-within code r - start-within code r - 1 in
      let at : start-within code r + j ≡ end-within code r - 1 = omega arith in
      let one : end-within code r - start-within code r ≡ suc j = omega arith in
      let there = between_at code r j (omega arith) ∙ ap (record_at code) at in
      ap view_of (inst-there b j (q ∙ sym there)) ∙ sym (end-last (codes_of b) j (size ∙ one))

module _ (code table : List ℕ) (k : ℕ) where
  -- what is told of a record's block, told of block k
  pub by_record : {r : Record} → r ≡ record_at table k → end_of (codes_of (bytes_of_block code r)) ≡ end_of (get_or (blocks_of code table) k [])
  by_record e = ap (λ (r : Record). end_of (codes_of (bytes_of_block code r))) e ∙ ap end_of (block_codes code table k)

  -- it ends one after its start
  pub lone_size : eqb ((record_at table k).p1 + 1) (end-within code (record_at table k)) ≡ eqb (length (get_or (blocks_of code table) k [])) 1
  lone_size =
      one (record_at table k).p1 (end-within code (record_at table k))
      ∙ ap (λ (n : ℕ). eqb n 1) (sym (size code (record_at table k)) ∙ ap length (block_codes code table k))
    where
      one : (s t : ℕ) → eqb (s + 1) t ≡ eqb (t - min s t) 1
      one s t = go (order (s + 1) t) (order t (s + 1))
        where
          go : (s + 1 < t) ⊎ (t ≤ s + 1) → (t < s + 1) ⊎ (s + 1 ≤ t) → eqb (s + 1) t ≡ eqb (t - min s t) 1
          go (inl h) q = ne_eqb (s + 1) t (λ i. omega arith) ∙ sym (ne_eqb (t - min s t) 1 (λ i. omega arith))
          go (inr h) (inl q) = ne_eqb (s + 1) t (λ i. omega arith) ∙ sym (ne_eqb (t - min s t) 1 (λ i. omega arith))
          go (inr h) (inr q) = eq-eqb (s + 1) t (omega arith) ∙ sym (eq-eqb (t - min s t) 1 (omega arith))
