-- Laws of the passes over records: one record more.
use Rattle.std.proofs.Common.{ℕ, zero, suc, ◌+◌, ◌-◌, ◌/◌, ◌≡◌, ◌<◌, ◌≤◌, List, [], ◌∷◌, length, drop, Bool, true, false, ◌||◌, ◌&&◌, eqb}
use Rattle.std.proofs.Common.{Option, None, Some, arith, refl, sym, ap}
use mathlib.Core.Bool.{and-false}
use Rattle.std.proofs.lemmas.List.{drop_more, drop_all}
use Rattle.records.specs.declared.Record.{Record}
use Rattle.records.specs.Record.{records_of, record_at, blank}
use Rattle.records.proofs.Laws.{length_records}
use Rattle.put_record.specs.Store.{put_of}
use Rattle.inst.specs.declared.Reg.{Reg}
use Rattle.inst.specs.declared.CmpOp.{CmpOp}
use Rattle.inst.specs.declared.Inst.{Inst}
use Rattle.inst.specs.declared.Inst.TheVariants as i
use Rattle.codec.specs.Codec.{reg_of, inst_of, code_of, record_of, rewritten_record}
use Rattle.procedure.specs.Lists.{holds}
use Rattle.roles.specs.Roles.{defs_of}
use Rattle.steps.specs.Slice.{Measure, compares, makes, measures, spans, plain, measure_of, Lengths, no_lengths, entry, some, forget_all, is_made}
use Rattle.steps.specs.Slice.{is_turned, turned, test_if, first, second, rewritten, note, after, test_by, test_of}
use Rattle.lengths.specs.declared.Bounds.{Bounds}
use Rattle.lengths.specs.Storage.{bounds_in}
use Rattle.slice.specs.Sliced.{test_with, put_by, Pass, start, test_at, passed, passed_from, passed_block, passed_blocks}

-- the record of a Cmp that is rewritten
pub put_tested : (kc : ℕ → Option ℕ) (ops : List ℕ) (k : Lengths) (code : List ℕ) (at : ℕ)
    {r : Record} {op : CmpOp} {d a z : Reg} (l : ℕ) (b : Bounds)
    → r ≡ record_at code at → inst_of r ≡ i.Cmp op d a z → Some (test_with l b) ≡ test_of kc ops k (code_of r)
    → put_of code at (rewritten_record r (i.Cmp (turned op) d (reg_of (first (bounds_in b))) (reg_of (second (bounds_in b)))))
    ≡ put_by (test_at kc ops k code at) code at
unfolding measure_of
put_tested kc ops k code at {r} l b e c f =
    rw (← e, ← f, ← e) (ap (λ (x : Inst). put_of code at (record_of (rewritten (measure_of x) (bounds_in b) (code_of r)))) (sym c))

-- where nothing is known, nothing is tested, and only a MakeDope or BoundsLen adds something
module _ (kc : ℕ → Option ℕ) (ops : List ℕ) where
  untested : (m : Measure) → test_by kc ops no_lengths m ≡ None
  unfolding entry
  untested (compares op d a z) = by (holds (kc z.0) 0 && is_turned op)
    where
      by : (t : Bool) → test_if t a.0 None ≡ None
      by true = refl
      by false = refl
  untested (makes at parts) = refl
  untested (measures d at dim) = refl
  untested (spans d l r e) = refl
  untested plain = refl

  forgotten : (ds : List ℕ) → forget_all ds no_lengths ≡ no_lengths
  forgotten [] = refl
  forgotten (d ∷ ds) = forgotten ds

  unmade : (m : Measure) → is_made m ≡ false → note kc ops m no_lengths ≡ no_lengths
  unfolding entry
  unmade (compares op d a z) e = refl
  unmade (makes at parts) e = cc
  unmade (measures d at dim) e = rw (and-false (eqb dim 0))
  unmade (spans d l r e) f = cc
  unmade plain e = refl

  pub nothing_put : (k : ℕ) (code : List ℕ) {l : Lengths} → l ≡ no_lengths → code ≡ put_by (test_at kc ops l code k) code k
  nothing_put k code e = rw (e, untested (measure_of (inst_of (record_at code k))))

  pub nothing_tested : (k : ℕ) (code : List ℕ) {l : Lengths} → l ≡ no_lengths → false ≡ some (test_at kc ops l code k)
  nothing_tested k code e = rw (e, untested (measure_of (inst_of (record_at code k))))

  pub nothing_after : (x : Inst) {l : Lengths} → l ≡ no_lengths → is_made (measure_of x) ≡ false → l ≡ after kc ops l x
  nothing_after x e f = rw (e, forgotten (defs_of x), unmade (measure_of x) f)

module _ (kc : ℕ → Option ℕ) (ops : List ℕ) where
  -- record k
  pub passed_next : (k : ℕ) (code : List ℕ) (any : Bool) (l : Lengths) {b : List ℕ} {t : Bool} {m : Lengths}
      → b ≡ put_by (test_at kc ops l code k) code k → t ≡ some (test_at kc ops l code k) → m ≡ after kc ops l (code_of (record_at code k)).inst
      → (let s : Pass = record { code = b; any = any || t; known = m } in s) ≡ passed kc ops k (record { code = code; any = any; known = l })
  passed_next k code any l e f g = rw (e, f, g)

  -- what is left from record k on, up to an end
  pub passed_more : (k e : ℕ) (s : Pass) {z : Pass} → k < e → z ≡ passed kc ops k s
      → passed_from kc ops (e - (k + 1)) (k + 1) z ≡ passed_from kc ops (e - k) k s
  unfolding passed_from
  passed_more k e s h p = let n : e - k ≡ suc (e - (k + 1)) = omega arith in rw (n, p)

  pub passed_end : (k e : ℕ) (s : Pass) → e ≤ k → passed_from kc ops (e - k) k s ≡ s
  unfolding passed_from
  passed_end k e s h = let n : e - k ≡ zero = omega arith in rw n

  -- the blocks of a table from block k on
  pub blocks_next : (table : List ℕ) (k : ℕ) (code : List ℕ) (any : Bool) {b : List ℕ} {t : Bool} → k < length table / 32
      → b ≡ (passed_block kc ops (record_at table k) code).code → t ≡ (passed_block kc ops (record_at table k) code).any
      → passed_blocks kc ops (drop (k + 1) (records_of table)) (start b (any || t))
      ≡ passed_blocks kc ops (drop k (records_of table)) (start code any)
  unfolding passed_blocks
  blocks_next table k code any h e f =
      let n = length_records table in
      rw (e, f) (sym (ap (λ (rs : List Record). passed_blocks kc ops rs (start code any)) (drop_more (records_of table) k blank (omega arith))))

  pub blocks_end : (table : List ℕ) (k : ℕ) (s : Pass) → length table / 32 ≤ k → passed_blocks kc ops (drop k (records_of table)) s ≡ s
  unfolding passed_blocks
  blocks_end table k s h =
      let n = length_records table in
      ap (λ (rs : List Record). passed_blocks kc ops rs s) (drop_all k (records_of table) (omega arith))
