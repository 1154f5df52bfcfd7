-- Laws of the edges of a table's blocks.
use Prim.Native.Nat.{ℕ, ◌/◌, ◌<◌, min}
use native.Mathlib.Omega.{arith}
use mathlib.Core.Path.{◌≡◌, sym, ap, ◌∙◌}
use mathlib.Core.List.{List, []}
use lib.ListN.{length, get_or, take, length-take, length-map, get_or-map}
use lib.Seq.{get_or-take}
use Rattle.records.specs.Record.{records_of}
use Rattle.inst.specs.declared.Code.{Code}
use Rattle.ends.specs.declared.End.{End}
use Rattle.ends.specs.Ends.{end_of}
use Rattle.blocks.specs.Blocks.{blocks_of}
use Rattle.blocks.proofs.Parts.{length-blocks}
use Rattle.reach.specs.Reached.{leads_in, edges_in}

module _ (code table arms : List ℕ) where
  -- of the first 160 blocks
  abbrev pub first : List (List ℕ)
  first = take 160 (edges_in code table arms)

  pub length_edges : length (edges_in code table arms) ≡ length table / 32
  length_edges = length-map (blocks_of code table) (λ c. leads_in (records_of arms) (end_of c)) ∙ length-blocks code table

  pub length_first : length first ≡ min (length (blocks_of code table)) 160
  length_first =
      let i = length-take 160 (edges_in code table arms) in
      let j = length-map (blocks_of code table) (λ c. leads_in (records_of arms) (end_of c)) in
      omega arith

  -- where block k leads, told by its end
  pub edge_at : (k : ℕ) {e : End} → e ≡ end_of (get_or (blocks_of code table) k []) → k < length first → get_or first k [] ≡ leads_in (records_of arms) e
  unfolding end_of
  edge_at k t h =
      let i = length-take 160 (edges_in code table arms) in
      get_or-take 160 (edges_in code table arms) k [] (omega arith)
      ∙ get_or-map (λ (c : List Code). leads_in (records_of arms) (end_of c)) (blocks_of code table) k []
      ∙ sym (ap (leads_in (records_of arms)) t)
