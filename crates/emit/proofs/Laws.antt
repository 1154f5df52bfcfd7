-- What Emit leaves in lent storage is what `emit` of the steps leaves.
use Prim.Native.Nat.{ℕ, ◌+◌, ◌*◌, ◌/◌, ◌≤◌, min}
use native.Mathlib.Omega.{arith}
use mathlib.Core.Path.{◌≡◌, sym, ap, subst, ◌∙◌}
use mathlib.Core.Bool.{Bool}
use mathlib.Core.List.{List, [], ◌++◌, map, append-nil}
use Rattle.std.proofs.Common.{Option}
use lib.ListN.{length, take, drop, length-append, length-map, drop_of_length-le}
use lib.Seq.{take_at}
use Rattle.records.specs.declared.Record.{Record}
use Rattle.records.specs.Record.{records_of}
use Rattle.put_record.specs.Store.{Bytes}
use Rattle.inst.specs.declared.Code.{Code}
use Rattle.codec.specs.Codec.{record_of}
use Rattle.procedure.specs.Procedure.{Procedure, Table, tables_from}
use Rattle.procedure.specs.Lists.{joined}
use Rattle.blocks.specs.Blocks.{blocks_of, block_records_in}
use Rattle.blocks.proofs.Parts.{length-blocks as length-table}
use Rattle.blocks.proofs.Bytes.{bytes-part}
use Rattle.steps.specs.Emit.{reached, rescues, empty_from, onto_front}
use Rattle.steps.specs.Thread.{Work}
use Rattle.steps.specs.Run.{Shortened, emit_marked, emit}
use Rattle.steps.specs.Write.{block_records, bytes_of}
use Rattle.facts.specs.Storage.{facts_in}
use Rattle.round_trips.proofs.Bytes.{bytes-length}
use Rattle.round_trips.proofs.Blocks.{length-blocks}
use Rattle.step_laws.proofs.Emits.{onto_length, empty_length}
use Rattle.reach.specs.Reached.{seen_in}
use Rattle.emit_records.specs.declared.Writer.{Writer}
use Rattle.emit_records.specs.Emitted.{place, puts, Wrote, rescues_in, empty_in, heads_from}
use Rattle.emit_records.proofs.Writing.{wrote_length, wrote_at, wrote_then}
use Rattle.emit_records.proofs.Bytes.{puts-front, wrote_front}
use Rattle.procedure_parts.proofs.Laws.{coded_by}
use Rattle.emit.specs.Stage.{Ready, Emitted}
use Rattle.emit.proofs.Emitting.{kept_in, left_in, kept-is, code_is, heads-is}

-- records written from the first place on, where all have room
module _ (rs : List Record) {w w' : Writer} (e : Wrote w rs w') (begun : w.at ≡ 0) (room : length rs ≤ length w.out.now / 32) where
  written_count : w'.at ≡ length rs
  written_count = wrote_at e (omega arith) ∙ omega arith

  written_first : take (32 * w'.at) w'.out.now ≡ bytes_of rs
  written_first =
      let c = written_count in
      let l = bytes-length rs in
      ap (take (32 * w'.at)) (wrote_front e begun room)
      ∙ take_at (bytes_of rs) (drop (length (bytes_of rs)) w.out.now) (32 * w'.at) (omega arith)

-- and where they have no more
put_all : (rs : List Record) (b : List ℕ) {b' : List ℕ} → b' ≡ (puts rs (place b 0)).bytes → length b ≡ 32 * length rs → b' ≡ bytes_of rs
put_all rs b e h =
    let l = bytes-length rs in
    e
    ∙ puts-front rs b (omega arith)
    ∙ ap (λ (l : List ℕ). bytes_of rs ++ l) (drop_of_length-le b {i = length (bytes_of rs)} (omega arith))
    ∙ append-nil (bytes_of rs)

module _ (work table arms facts code heads : List ℕ) (p : Procedure) (w : Work) (body : Option ℕ) (budget : ℕ)
    (h : Ready (emit (facts_in facts body budget) p w) p w work table arms (length code) (length heads)) where
  abbrev z : Shortened
  z = emit (facts_in facts body budget) p w

  abbrev R : List (List Record)
  R = block_records_in work table

  abbrev marks : List Bool
  marks = reached (tables_from [] (records_of arms)) (blocks_of work table)

  abbrev kept : List Code
  kept = rescues (facts_in facts body budget) marks (blocks_of work table)

  abbrev blocks : List (List Code)
  blocks = onto_front kept (empty_from 0 marks (blocks_of work table))

  blocks_are : blocks ≡ z.procedure.blocks
  unfolding emit
  blocks_are =
      ap (λ (t : List Table). (emit_marked (facts_in facts body budget) p (by_blocks (blocks_of work table)) (reached t (blocks_of work table))).procedure.blocks) h.tables
      ∙ ap (λ (P : List (List Code)). (emit_marked (facts_in facts body budget) p (by_blocks P) (reached p.tables P)).procedure.blocks) h.blocks
    where
      by_blocks : List (List Code) → Work
      by_blocks P = record { blocks = P; grown = w.grown; kinds = w.kinds; edited = w.edited }

  rescued-is : length kept ≡ z.rescued
  unfolding emit
  rescued-is =
      ap (λ (t : List Table). length (rescues (facts_in facts body budget) (reached t (blocks_of work table)) (blocks_of work table))) h.tables
      ∙ ap (λ (P : List (List Code)). length (rescues (facts_in facts body budget) (reached p.tables P) P)) h.blocks

  size : length (joined blocks) ≡ length (joined z.procedure.blocks)
  size = ap (λ (P : List (List Code)). length (joined P)) blocks_are

  -- as many blocks as the table has records
  same_blocks : length z.procedure.blocks ≡ length table / 32
  same_blocks =
      let rest = empty_from 0 marks (blocks_of work table) in
      sym (ap length blocks_are) ∙ onto_length kept rest ∙ empty_length 0 marks (blocks_of work table) ∙ length-table work table

  -- the records that are put into the code: what is rescued, then the rest
  all-code : kept_in work table arms facts ++ joined (left_in work table arms facts) ≡ map record_of (joined blocks)
  all-code = code_is work table arms facts body budget h.few h.numbered-arms h.canonical

  count : length (kept_in work table arms facts) + length (joined (left_in work table arms facts)) ≡ length (joined blocks)
  count =
      let l = length-append (kept_in work table arms facts) (joined (left_in work table arms facts)) in
      sym l ∙ ap length all-code ∙ length-map (joined blocks) record_of

  kept-count : length (kept_in work table arms facts) ≡ length kept
  kept-count = ap length (kept-is work table arms facts body budget h.few h.numbered-arms h.canonical) ∙ length-map kept record_of

  -- what was rescued and the rest written, and the block records
  pub emitted : {seen : List Bool} {w₀ w₁ w₂ : Writer} {code₂ heads₁ : List ℕ} {n r : ℕ} → seen ≡ seen_in work table arms
      → w₀.out.now ≡ code → w₀.at ≡ 0
      → Wrote w₀ (rescues_in facts seen R) w₁
      → r ≡ min w₁.at 4294967295
      → (w₁.at + length (joined (empty_in 0 seen R)) ≤ length w₁.out.now / 32 → length table / 32 ≤ length heads / 32
      → heads₁ ≡ (puts (heads_from 0 (min w₁.at 4294967295) (empty_in 0 seen R)) (place heads 0)).bytes)
      → Wrote w₁ (joined (empty_in 0 seen R)) w₂
      → n ≡ min w₂.at (length code / 32)
      → code₂ ≡ w₂.out.now → Bytes code₂ → Bytes heads₁
      → Emitted z (record { n = n; rescued = r }) code₂ heads₁
  emitted {seen} {w₀} {w₁} {w₂} {code₂} {heads₁} {n} {r} e is begun a d b c g last bc bh =
      let few = h.well_formed.code in
      let room = h.code-room in
      let s = size in
      let all = count in
      let K = kept_in work table arms facts in
      let L = left_in work table arms facts in
      let long = wrote_length a ∙ ap length is in
      let a' : Wrote w₀ K w₁ = subst (λ (m : List Bool). Wrote w₀ (rescues_in facts m R) w₁) e a in
      let c' : Wrote w₁ (joined L) w₂ = subst (λ (m : List Bool). Wrote w₁ (joined (empty_in 0 m R)) w₂) e c in
      let wide : length w₀.out.now ≡ length code = ap length is in
      let kc = written_count K a' begun (omega arith) in
      let r-is : r ≡ min (length K) 4294967295 = d ∙ ap (λ (k : ℕ). min k 4294967295) kc in
      let hr = h.heads-room in
      let nt = same_blocks in
      let left-size : length (joined (empty_in 0 seen R)) ≡ length (joined L) = ap (λ (m : List Bool). length (joined (empty_in 0 m R))) e in
      let b' : heads₁ ≡ (puts (block_records 0 blocks) (place heads 0)).bytes =
      b (omega arith) (omega arith)
      ∙ ap (λ (m : List Bool). (puts (heads_from 0 (min w₁.at 4294967295) (empty_in 0 m R)) (place heads 0)).bytes) e
      ∙ ap (λ (k : ℕ). (puts (heads_from 0 (min k 4294967295) L) (place heads 0)).bytes) kc
      ∙ ap (λ (l : List Record). (puts l (place heads 0)).bytes)
      (heads-is work table arms facts body budget h.few h.numbered-arms h.canonical (omega arith)) in
      let both : Wrote w₀ (map record_of (joined blocks)) w₂ = subst (λ (l : List Record). Wrote w₀ l w₂) all-code (wrote_then a' c') in
      let nc = length-map (joined blocks) record_of in
      let nh = length-blocks 0 blocks in
      let top = written_count (map record_of (joined blocks)) both begun (omega arith) in
      let n-is : n ≡ w₂.at = omega arith in
      let nb = ap length blocks_are in
      record {
        coded = coded_by z.procedure h.well_formed (take (32 * n) code₂) heads₁ (bytes-part (32 * n) 0 code₂ bc) bh
            (ap (take (32 * n)) last
            ∙ ap (λ (n : ℕ). take (32 * n) w₂.out.now) n-is
            ∙ written_first (map record_of (joined blocks)) both begun (omega arith)
            ∙ ap (λ (P : List (List Code)). bytes_of (map record_of (joined P))) blocks_are)
            (put_all (block_records 0 blocks) heads b' (omega arith) ∙ ap (λ (P : List (List Code)). bytes_of (block_records 0 P)) blocks_are);
        rescued = let q = kept-count in let t = rescued-is in omega arith;
      }
