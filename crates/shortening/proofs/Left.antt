-- What `run` leaves in storage that is enough holds the definition's result, or is ready for Emit.
use Prim.Native.Nat.{ℕ, ◌+◌, ◌*◌, ◌/◌, ◌≤◌, ◌<◌, min}
use native.Mathlib.Omega.{arith}
use mathlib.Core.Path.{◌≡◌, refl, sym, ap, subst, ◌∙◌}
use mathlib.Core.Bool.{Bool, true, false, not, ◌&&◌}
use mathlib.Core.List.{List, [], ◌++◌, map}
use mathlib.Core.Logic.{◌⊎◌, inl, inr}
use lib.Dec.{ltb}
use lib.ListN.{length, take, length-map}
use Rattle.std.proofs.Math.Bool.{and_assoc}
use lib.Seq.{take_all, length-take-le}
use Rattle.general.proofs.Numbers.{order}
use Rattle.records.specs.Record.{records_of}
use Rattle.records.proofs.Laws.{length_records}
use Rattle.inst.specs.declared.Code.{Code}
use Rattle.codec.specs.Codec.{record_of}
use Rattle.procedure.specs.Procedure.{Procedure, codes_of, first_of}
use Rattle.procedure.specs.Lists.{joined}
use Rattle.blocks.specs.Blocks.{blocks_of}
use Rattle.blocks.proofs.Parts.{records_part}
use Rattle.blocks.proofs.Bytes.{bytes-part}
use Rattle.steps.specs.Gate.{has_back_edge}
use Rattle.steps.specs.Slice.{has_lengths}
use Rattle.steps.specs.Run.{Shortened, arms_joined, emit, looped_in, short, threaded_form, slice_if, slices}
use Rattle.facts.specs.Storage.{facts_in}
use Rattle.thread.proofs.Refined.{work_of}
use Rattle.round_trips.specs.WellFormed.{WellFormed}
use Rattle.round_trips.proofs.Blocks.{length-blocks}
use Rattle.step_laws.proofs.Laws.{threaded_stage, stage_well_formed}
use Rattle.procedure_parts.specs.Opened.{Parts, recoded, Coded, Holds, Opened}
use Rattle.procedure_parts.proofs.Laws.{exchanged, codes-held, kinds-sent, registers-sent}
use Rattle.run.specs.Ran.{Left, slices_in}
use Rattle.run.proofs.Lent as r
use Rattle.run.proofs.Laws.{Still, Edited, still, edited, looped, unedited-form}
use Rattle.emit.specs.Stage.{Ready, Emitted}
use Rattle.emit.specs.declared.Staged.{Staged}
use Rattle.output.specs.Filed.{short as counted}
use Rattle.shortening.specs.Storage.{fronted, Lent, size_of, Enough, Staging, LeftOf, Tells, form_with}
use Rattle.shortening.proofs.Fronts.{fronted-length, fronted_first}

-- a part of whole records that would end past the last ends there
records_take : (b : List ℕ) (n : ℕ) → records_of (take (32 * min n (length b / 32)) b) ≡ records_of (take (32 * n) b)
records_take b n = by (order (length b / 32) n)
  where
    by : (length b / 32 < n) ⊎ (n ≤ length b / 32) → records_of (take (32 * min n (length b / 32)) b) ≡ records_of (take (32 * n) b)
    by (inl i) =
        let m : min n (length b / 32) ≡ length b / 32 = omega arith in
        let l = length_records b in
        ap (λ (k : ℕ). records_of (take (32 * k) b)) m
        ∙ records_part b 0 (length b / 32) (omega arith)
        ∙ take_all (length b / 32) (records_of b) (omega arith)
        ∙ ap records_of (sym (take_all (32 * n) b (omega arith)))
    by (inr i) = let m : min n (length b / 32) ≡ n = omega arith in ap (λ (k : ℕ). records_of (take (32 * k) b)) m

module _ (p : Procedure) (x : Parts) {l : Left} (h : LeftOf p x l) where
  abbrev o : Opened p x
  o = h.opened

  abbrev s : Lent
  s = h.storage

  abbrev e : Enough x s
  e = h.enough

  size : size_of x ≡ length (joined p.blocks)
  size = let c = o.parted.coded.code-length in omega arith

  code_fits : length x.code ≤ length s.work
  code_fits = let c = o.parted.coded.code-length in let n = size in let w = e.work in omega arith

  heads_are : fronted s.table x.heads ≡ x.heads
  heads_are =
      let t = e.table in
      let wide = fronted-length s.table x.heads (omega arith) in
      sym (take_all (length x.heads) (fronted s.table x.heads) (omega arith)) ∙ fronted_first s.table x.heads (omega arith)

  lent : r.Lent p x (first_of (map (λ r. r.p1) (records_of x.body))) s.known s.copy (size_of x)
      (fronted s.work x.code) (fronted s.table x.heads) s.kinds s.facts
  lent =
      let n = size in
      let long = fronted-length s.work x.code code_fits in
      let w = e.work in
      let v = e.word in
      let k = e.kinds in
      let f = e.facts in
      let g = registers-sent o.parted in
      let a = e.known in
      let c = e.copy in
      record {
        opened = o;
        body_is = o.parted.body;
        n-is = n;
        code = fronted_first s.work x.code code_fits;
        bytes = h.bytes;
        heads = heads_are;
        space = omega arith;
        words = omega arith;
        registers = omega arith;
        five = omega arith;
        known-words = omega arith;
        copy-words = omega arith;
      }

  well : WellFormed (threaded_form p).procedure
  well =
      let r = o.few-registers in
      let c = o.few-code in
      stage_well_formed p o.parted.well_formed (omega arith) (omega arith) (threaded_stage p o.parted.well_formed)

  -- by the gate of `slice_tests`, where it is wanted
  pub formed : (wanted : Bool) {b : Bool} → b ≡ (wanted && slices p) → (slice_if b (threaded_form p)).form ≡ form_with wanted p
  formed wanted e = ap (λ (b : Bool). (slice_if b (threaded_form p)).form) e

  -- nothing threaded
  module _ (off : l.store.at.edited ≡ false) where
    stays : Still p (threaded_form p) (fronted s.table x.heads) l
    stays =
        subst (λ (l : Left). l.store.at.edited ≡ false → Still p (threaded_form p) (fronted s.table x.heads) l) (sym h.is) (still lent) off

    abbrev code : List ℕ
    code = take (32 * min (size_of x) (length l.store.work / 32)) l.store.work

    same_coded : Coded (threaded_form p).procedure.blocks code l.store.table
    same_coded =
        let z = stays in
        let work = l.store.work in
        let B = blocks_of work (fronted s.table x.heads) in
        let is : B ≡ (threaded_form p).procedure.blocks = sym (ap (λ (q : Procedure). q.blocks) z.procedure) in
        let table : x.heads ≡ l.store.table = sym (z.same-table ∙ heads_are) in
        let c = o.parted.coded in
        let rs : records_of code ≡ map record_of (joined B) =
        records_take work (size_of x) ∙ ap (λ (n : ℕ). records_of (take (32 * n) work)) size ∙ z.coded.records in
        let long = length-take-le (32 * min (size_of x) (length work / 32)) work (omega arith) in
        let nr = length_records code in
        let nl = ap length rs ∙ length-map (joined B) record_of in
        let nb = sym (length-blocks 0 B) ∙ ap length z.coded.heads ∙ length-blocks 0 p.blocks in
        let hl = c.heads-length in
        subst (λ (P : List (List Code)). Coded P code l.store.table) is
        (subst (Coded B code) table
        (record {
          code-bytes = bytes-part (32 * min (size_of x) (length work / 32)) 0 work z.coded.bytes;
          heads-bytes = c.heads-bytes;
          code-length = omega arith;
          heads-length = omega arith;
          code_records_lem = rs;
          head_records = c.head_records ∙ sym z.coded.heads;
        }))

    pub same-held : Holds (threaded_form p).procedure (recoded x code l.store.table) []
    same-held =
        let q = stays.procedure in
        exchanged o.parted (threaded_form p).procedure well (o.parted.registers ∙ sym (ap (λ (q : Procedure). q.registers) q))
        (sym (ap (λ (q : Procedure). q.body) q)) (sym (ap (λ (q : Procedure). q.operands) q)) (sym (ap (λ (q : Procedure). q.tables) q)) same_coded

    pub same-tells : Tells (threaded_form p) (record { moved = l.joined; grown = 0; rescued = 0 }) 0
    same-tells = let z = stays in record { is-moved = z.moved; is-grown = z.grown; is-fresh = z.fresh; is-rescued = z.rescued }

    -- the gate of `slice_tests`
    arms-here : short p ≡ false → (threaded_form p).procedure.blocks ≡ (arms_joined p).procedure.blocks
    arms-here f =
        ap (λ (y : Shortened). y.procedure.blocks)
        (subst (λ (l : Left). l.store.at.edited ≡ false → short p ≡ false → threaded_form p ≡ arms_joined p) (sym h.is) (unedited-form lent) off f)

    pub same-slices : (not (ltb (size_of x) 6) && slices_in code l.store.table) ≡ slices p
    same-slices =
        ap (λ (n : ℕ). not (ltb n 6) && slices_in code l.store.table) size
        ∙ ap (λ (P : List (List Code)). not (short p) && (has_back_edge P && has_lengths (codes_of code))) same-held.blocks
        ∙ ap (λ (c : List Code). not (short p) && (has_back_edge (threaded_form p).procedure.blocks && has_lengths c)) (codes-held same-held)
        ∙ by (short p) refl
      where
        by : (b : Bool) → short p ≡ b
            → (not b && (has_back_edge (threaded_form p).procedure.blocks && has_lengths (joined (threaded_form p).procedure.blocks)))
            ≡ (not b && (looped_in p && has_lengths (joined (threaded_form p).procedure.blocks)))
        by true f = refl
        by false f = ap (λ (P : List (List Code)). has_back_edge P && has_lengths (joined (threaded_form p).procedure.blocks)) (arms-here f)

  -- some block edited
  module _ (on : l.store.at.edited ≡ true) where
    edits : Edited p (threaded_form p) (fronted s.work x.code) (fronted s.table x.heads) s.kinds s.facts l
    edits =
        subst
        (λ (l : Left). l.store.at.edited ≡ true
        → Edited p (threaded_form p) (fronted s.work x.code) (fronted s.table x.heads) s.kinds s.facts l)
        (sym h.is) (edited lent) on

    abbrev budget : ℕ
    budget = length (joined p.blocks) / 2 + 32

    abbrev q : Procedure
    q = (arms_joined p).procedure

    abbrev left : Shortened
    left = emit (facts_in l.facts p.body budget) q (work_of l.store)

    -- as Emit asks
    pub ready : (code heads : ℕ) {arms : List ℕ} → arms ≡ x.arms → Staging x code heads
        → Ready left q (work_of l.store) l.store.work l.store.table arms code heads
    ready code heads a g =
        let z = edits in
        let long = z.long.table in
        let wide = fronted-length s.table x.heads (let t = e.table in omega arith) in
        let t = e.table in
        let hl = o.parted.coded.heads-length in
        let few = o.parted.well_formed.blocks in
        let d = (threaded_stage p o.parted.well_formed).sized in
        let dc = d.code in
        let db = d.blocks in
        let n = size in
        let gc = g.code-room in
        let gh = g.heads-room in
        subst (λ (t : List ℕ). Ready left q (work_of l.store) l.store.work l.store.table t code heads) (sym a)
        (subst (λ (y : Shortened). Ready y q (work_of l.store) l.store.work l.store.table x.arms code heads) z.emitted
        (record {
          well_formed = well;
          blocks = refl;
          canonical = z.stored.canonical;
          few = omega arith;
          tables = o.parted.tables;
          numbered-arms = o.parted.numbered-arms;
          code-room = omega arith;
          heads-room = omega arith;
        }))

    fresh-fits : l.store.at.fresh ≤ length l.store.kinds
    fresh-fits = let z = edits in let a = z.long.kinds in let b = z.long.fresh in omega arith

    -- what is left then, with as many new registers as were given
    module _ {u : Staged} {code heads : List ℕ} (w : Emitted left u code heads) {m : ℕ} (e : m ≡ min l.store.at.fresh (length l.store.kinds)) where
      abbrev kinds : List ℕ
      kinds = take m l.store.kinds

      kinds_are : take l.store.at.fresh l.store.kinds ≡ kinds
      kinds_are = let i = fresh-fits in let n : l.store.at.fresh ≡ m = omega arith in ap (λ (n : ℕ). take n l.store.kinds) n

      here : Emitted (threaded_form p) u code heads
      here = subst (λ (y : Shortened). Emitted y u code heads) (sym edits.emitted) w

      registers_are : p.registers ++ kinds ≡ (threaded_form p).procedure.registers
      unfolding emit
      registers_are = sym (ap (λ (y : Shortened). y.procedure.registers) edits.emitted ∙ ap (λ (k : List ℕ). p.registers ++ k) kinds_are)

      pub emitted-held : Holds (threaded_form p).procedure (recoded x (take (32 * u.n) code) heads) kinds
      unfolding emit
      emitted-held =
          let i = edits.emitted in
          exchanged o.parted (threaded_form p).procedure well (ap (λ (k : List ℕ). k ++ kinds) (kinds-sent o.parted) ∙ registers_are)
          (sym (ap (λ (y : Shortened). y.procedure.body) i)) (sym (ap (λ (y : Shortened). y.procedure.operands) i))
          (sym (ap (λ (y : Shortened). y.procedure.tables) i)) here.coded

      pub emitted-tells : {grown : ℕ} → grown ≡ counted l.store.at.grown → Tells (threaded_form p) (record { moved = true; grown = grown; rescued = u.rescued }) (length kinds)
      unfolding emit
      emitted-tells n =
          let i = edits.emitted in
          let g = edits.grown in
          let few = o.few-code in
          let a = ap (λ (y : Shortened). y.grown) i in
          record {
            is-moved = ap (λ (y : Shortened). y.moved) i;
            is-grown = omega arith;
            is-fresh = ap (λ (y : Shortened). y.fresh) i ∙ ap length kinds_are;
            is-rescued = sym here.rescued;
          }

      -- the gate of `slice_tests`
      pub emitted-slices : has_lengths (codes_of (take (32 * u.n) code)) ≡ slices p
      emitted-slices =
          let g = subst (λ (l : Left). l.store.at.edited ≡ true → (not (short p) && looped_in p) ≡ true) (sym h.is) (looped lent) on in
          ap has_lengths (codes-held emitted-held)
          ∙ ap (λ (b : Bool). b && has_lengths (joined (threaded_form p).procedure.blocks)) (sym g)
          ∙ and_assoc (not (short p)) (looped_in p) (has_lengths (joined (threaded_form p).procedure.blocks))
