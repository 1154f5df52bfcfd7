-- `slice_tests` keeps the blocks sound: the registers that a rewritten Cmp names are those of instructions before it in its block.
use Prim.Native.Nat.{ℕ, ◌≤◌, ◌<◌, ◌^◌}
use native.Mathlib.Omega.{arith}
use mathlib.Core.Path.{◌≡◌, refl, ◌∙◌}
use mathlib.Core.Bool.{Bool, true, false, cond, ◌&&◌, ◌||◌}
use mathlib.Core.List.{List, [], ◌∷◌}
use borrow.Author.Tests.{lt-ltb}
use lib.Dec.{eqb}
use lib.ListN.{drop}
use Rattle.std.specs.Prelude.{filter, Option, None, Some}
use Rattle.record_rules.specs.declared.exist.Counts.{Counts}
use Rattle.inst.specs.declared.Reg.{Reg}
use Rattle.inst.specs.declared.CmpOp.{CmpOp}
use Rattle.inst.specs.declared.Code.{Code}
use Rattle.inst.specs.declared.Inst.{Inst}
use Rattle.inst.specs.declared.Inst.TheVariants as i
use Rattle.roles.specs.Roles.{defs_of, operands_of}
use Rattle.codec.specs.Codec.{inst_record, in_range, reg_of, with_inst}
use Rattle.procedure.specs.Procedure.{Procedure}
use Rattle.procedure.specs.Lists.{holds}
use Rattle.ends.specs.Ends.{terminator_of}
use Rattle.steps.specs.Slice.{Measure, compares, makes, measures, spans, plain, measure_of, Bounds, Lengths, no_lengths, entry, forget, forget_all}
use Rattle.steps.specs.Slice.{is_down, in_direction, with_made, with_known, bounds_by, bounds_of, Test, is_turned, turned, test_if, first, second}
use Rattle.steps.specs.Slice.{rewritten_by, note_parts, note, after, test_by, test_of, sliced_from, sliced_in}
use Rattle.steps.specs.Run.{with_blocks}
use Rattle.steps.proofs.Sliced.{Looked, cmp, looked, sliced_blocks, sliced_size}
use Rattle.steps.proofs.Sliced.{plain as unlooked}
use Rattle.round_trips.specs.WellFormed.{All, Ends, Sound, BlockIn, counts_in, WellFormed}
use Rattle.round_trips.proofs.Lists.{all_append, all_take, all_drop}
use Rattle.step_laws.proofs.Names.{Named, named, names}

all_filter : {A : Type 0} (P : A → Type 0) (f : A → Bool) (xs : List A) → All P xs → All P (filter f xs)
all_filter P f [] h = tt
all_filter P f (x ∷ xs) h = by (f x) (all_filter P f xs h.1)
  where
    by : (t : Bool) → All P (filter f xs) → All P (cond t (x ∷ filter f xs) (filter f xs))
    by true ih = (h.0, ih)
    by false ih = ih

-- what is known names registers that exist
abbrev BoundsIn : ℕ → Bounds → Type 0
BoundsIn n b = (b.left < n) × (b.right < n)

abbrev FoundIn : ℕ → Option Bounds → Type 0
FoundIn n None = Unit {0}
FoundIn n (Some b) = BoundsIn n b

abbrev TestIn : ℕ → Option Test → Type 0
TestIn n None = Unit {0}
TestIn n (Some t) = BoundsIn n t.bounds

record LengthsIn (n : ℕ) (k : Lengths) : Type 0 where
  made : All (λ x. BoundsIn n x.1) k.made
  known : All (λ x. BoundsIn n x.1) k.known

module _ (n : ℕ) where
  entry-in : (r : ℕ) (m : List (ℕ × Bounds)) → All (λ x. BoundsIn n x.1) m → FoundIn n (entry r m)
  unfolding entry
  entry-in r [] h = tt
  entry-in r (x ∷ m) h = by (eqb x.0 r) (entry-in r m h.1)
    where
      by : (t : Bool) → FoundIn n (entry r m) → FoundIn n (cond t (Some x.1) (entry r m))
      by true ih = h.0
      by false ih = ih

  by-in : (o : Option Bounds) (at : Option ℕ) (m : List (ℕ × Bounds)) → FoundIn n o → All (λ x. BoundsIn n x.1) m → FoundIn n (bounds_by o at m)
  by-in (Some b) at m h i = h
  by-in None (Some at) m h i = entry-in at m i
  by-in None None m h i = tt

  forget-in : (d : ℕ) (k : Lengths) → LengthsIn n k → LengthsIn n (forget d k)
  forget-in d k h = record { made = all_filter _ _ k.made h.made; known = all_filter _ _ k.known h.known }

  forget_all_in : (ds : List ℕ) (k : Lengths) → LengthsIn n k → LengthsIn n (forget_all ds k)
  forget_all_in [] k h = h
  forget_all_in (d ∷ ds) k h = forget_all_in ds (forget d k) (forget-in d k h)

  direction_in : (l r : ℕ) → l < n → r < n → (o : Option Bool) (add : Bounds → Lengths → Lengths)
      → ((b : Bounds) (k : Lengths) → BoundsIn n b → LengthsIn n k → LengthsIn n (add b k))
      → (k : Lengths) → LengthsIn n k → LengthsIn n (in_direction l r o add k)
  direction_in l r i j None add f k h = h
  direction_in l r i j (Some down) add f k h = f _ k (i, j) h

  made-in : (at : ℕ) (b : Bounds) (k : Lengths) → BoundsIn n b → LengthsIn n k → LengthsIn n (with_made at b k)
  made-in at b k i h =
      record { made = all_append (λ x. BoundsIn n x.1) _ ((at, b) ∷ []) (all_filter _ _ k.made h.made) (i, tt); known = h.known }

  known-in : (d : ℕ) (b : Bounds) (k : Lengths) → BoundsIn n b → LengthsIn n k → LengthsIn n (with_known d b k)
  known-in d b k i h = record { made = h.made; known = all_append (λ x. BoundsIn n x.1) k.known ((d, b) ∷ []) h.known (i, tt) }

  either-in : (t : Bool) (k m : Lengths) → LengthsIn n k → LengthsIn n m → LengthsIn n (cond t k m)
  either-in true k m h i = h
  either-in false k m h i = i

module _ (kc : ℕ → Option ℕ) (ops : List ℕ) (n : Counts) (low : All (λ r. r < n.registers) ops) (few : n.registers ≤ 2 ^ 32) where
  parts-in : (at : ℕ) (rs : List ℕ) → All (λ r. r < n.registers) rs → (k : Lengths) → LengthsIn n.registers k
      → LengthsIn n.registers (note_parts kc ops at rs k)
  parts-in at [] h k i = i
  parts-in at (l ∷ []) h k i = i
  parts-in at (l ∷ r ∷ []) h k i = i
  parts-in at (l ∷ r ∷ e ∷ []) h k i =
      let m = in_direction l r (is_down (kc e)) (with_made at) k in
      either-in n.registers (eqb at l || eqb at r) k m i (direction_in n.registers l r h.0 h.1.0 (is_down (kc e)) (with_made at) (made-in n.registers at) k i)
  parts-in at (l ∷ r ∷ e ∷ x ∷ xs) h k i = i

  abbrev MeasureIn : Measure → Type 0
  MeasureIn (compares op d a z) = Unit {0}
  MeasureIn (makes at parts) = Unit {0}
  MeasureIn (measures d at dim) = Unit {0}
  MeasureIn (spans d l r e) = (l.0 < n.registers) × (r.0 < n.registers)
  MeasureIn plain = Unit {0}

  note-in : (m : Measure) → MeasureIn m → (k : Lengths) → LengthsIn n.registers k → LengthsIn n.registers (note kc ops m k)
  note-in (compares op d a z) h k i = i
  note-in (makes at parts) h k i =
      parts-in at.0 (operands_of ops parts) (all_take _ parts.len (drop parts.start ops) (all_drop _ parts.start ops low)) k i
  note-in (measures d at dim) h k i =
      either-in n.registers _ _ k (record { made = i.made; known = i.known }) i
  note-in (spans d l r e) h k i =
      either-in n.registers (eqb d.0 l.0 || eqb d.0 r.0) k _ i
      (direction_in n.registers l.0 r.0 h.0 h.1 (is_down (kc e.0)) (with_known d.0) (known-in n.registers d.0) k i)
  note-in plain h k i = i

  measure-in : (x : Inst) → Named n x → MeasureIn (measure_of x)
  unfolding measure_of inst_record
  measure-in (i.Const d v) h = tt
  measure-in (i.ConstF d v) h = tt
  measure-in (i.Move d s) h = tt
  measure-in (i.AddrOf d s f) h = tt
  measure-in (i.Select d c x y) h = tt
  measure-in (i.Cmp op d a z) h = tt
  measure-in (i.Bool op d x y) h = tt
  measure-in (i.Bin op d x y) h = tt
  measure-in (i.BinRange op d x y l u w) h = tt
  measure-in (i.Load d a w) h = tt
  measure-in (i.Store a s w) h = tt
  measure-in (i.Check c v l u w) h = tt
  measure-in (i.MakeDope a p) h = tt
  measure-in (i.DopeLen d p m) h = tt
  measure-in (i.BoundsLen d l r e) h = (h.1.0, h.1.1.0)
  measure-in (i.Alloc d s) h = tt
  measure-in (i.TakeBounds l r e) h = tt
  measure-in (i.CallNative m a d) h = tt
  measure-in (i.Br t) h = tt
  measure-in (i.CondBr c t f) h = tt
  measure-in (i.Case v t) h = tt
  measure-in (i.Ret v) h = tt
  measure-in (i.Unreachable w) h = tt
  measure-in i.Stmt h = tt

  if-in : (t : Bool) (a : ℕ) (o : Option Bounds) → FoundIn n.registers o → TestIn n.registers (test_if t a o)
  if-in false a o h = tt
  if-in true a None h = tt
  if-in true a (Some b) h = h

  test-in : (k : Lengths) → LengthsIn n.registers k → (m : Measure) → TestIn n.registers (test_by kc ops k m)
  test-in k h (compares op d a z) =
      if-in (holds (kc z.0) 0 && is_turned op) a.0 (bounds_of a.0 k)
      (by-in n.registers (entry a.0 k.known) (entry a.0 k.measured) k.made (entry-in n.registers a.0 k.known h.known) h.made)
  test-in k h (makes at parts) = tt
  test-in k h (measures d at dim) = tt
  test-in k h (spans d l r e) = tt
  test-in k h plain = tt

  cmp_sound : (op : CmpOp) (d a z : Reg) (b : Bounds) (x : Code) → x.inst ≡ i.Cmp op d a z → BoundsIn n.registers b → Sound n x
      → Sound n (with_inst (i.Cmp (turned op) d (reg_of (first b)) (reg_of (second b))) x)
  unfolding in_range inst_record
  cmp_sound op d a z b x e h s =
      let m : Named n (i.Cmp op d a z) = rw e at (named n x s.names) in
      let f = one b.down h.0 h.1 in
      let g = one b.down h.1 h.0 in
      record {
        range = record {
          inst = rw (lt-ltb d.0 (2 ^ 32) (omega (arith, m.0)), lt-ltb (first b) (2 ^ 32) (omega (arith, f)), lt-ltb (second b) (2 ^ 32) (omega (arith, g)));
          stmt = s.range.stmt;
        };
        names = names n (with_inst (i.Cmp (turned op) d (reg_of (first b)) (reg_of (second b))) x) (m.0, (f, (g, tt)));
      }
    where
      one : (t : Bool) {l r : ℕ} → l < n.registers → r < n.registers → cond t l r < n.registers
      one true i j = i
      one false i j = j

  rewritten_sound : (k : Lengths) (x : Code) → Sound n x → LengthsIn n.registers k → Sound n (rewritten_by (test_of kc ops k x) x)
  unfolding measure_of
  rewritten_sound k x s h = by (looked x.inst)
    where
      by : Looked x.inst → Sound n (rewritten_by (test_of kc ops k x) x)
      by (cmp op d a z e) = at (test_of kc ops k x) (test-in k h (measure_of x.inst))
        where
          at : (o : Option Test) → TestIn n.registers o → Sound n (rewritten_by o x)
          at None i = s
          at (Some t) i = rw e (cmp_sound op d a z t.bounds x e i s)
      by (unlooked f) = rw f s

  -- the end of a block stays one
  rewritten_end : (k : Lengths) (x : Code) → terminator_of (rewritten_by (test_of kc ops k x) x).inst ≡ terminator_of x.inst
  unfolding measure_of
  rewritten_end k x = by (looked x.inst)
    where
      by : Looked x.inst → terminator_of (rewritten_by (test_of kc ops k x) x).inst ≡ terminator_of x.inst
      by (cmp op d a z e) = at (test_of kc ops k x)
        where
          at : (o : Option Test) → terminator_of (rewritten_by o x).inst ≡ terminator_of x.inst
          at None = refl
          at (Some t) = rw e refl
      by (unlooked f) = rw f refl

  sliced-ends : (k : Lengths) (c : List Code) → Ends c → Ends (sliced_from kc ops k c)
  unfolding sliced_from
  sliced-ends k [] h = h
  sliced-ends k (x ∷ []) h = rewritten_end k x ∙ h
  sliced-ends k (x ∷ y ∷ c) h = (rewritten_end k x ∙ h.0, sliced-ends (after kc ops k x.inst) (y ∷ c) h.1)

  sliced-each : (k : Lengths) (c : List Code) → LengthsIn n.registers k → All (Sound n) c → All (Sound n) (sliced_from kc ops k c)
  unfolding sliced_from
  sliced-each k [] h s = tt
  sliced-each k (x ∷ c) h s =
      let m = measure-in x.inst (named n x s.0.names) in (
        rewritten_sound k x s.0 h,
        sliced-each (after kc ops k x.inst) c (note-in (measure_of x.inst) m _ (forget_all_in n.registers (defs_of x.inst) k h)) s.1,
      )

  pub sliced_sound : (P : List (List Code)) → All (BlockIn n) P → All (BlockIn n) (sliced_in kc ops P)
  sliced_sound [] h = tt
  sliced_sound (c ∷ P) h =
      (record { ends = sliced-ends no_lengths c h.0.ends; each = sliced-each no_lengths c (record { made = tt; known = tt }) h.0.each }, sliced_sound P h.1)

-- whatever is taken for constant
module _ (kc : ℕ → Option ℕ) where
  pub sliced_well_formed : (q : Procedure) → WellFormed q → WellFormed (with_blocks q (sliced_in kc q.operands q.blocks))
  sliced_well_formed q h =
      let b = sliced_blocks kc q.operands q.blocks in
      let c = sliced_size kc q.operands q.blocks in
      let i = h.registers in
      let j = h.some_block in
      let k = h.blocks in
      let l = h.code in
      record {
        registers = i;
        some_block = omega arith;
        blocks = omega arith;
        code = omega arith;
        operands = h.operands;
        arms = h.arms;
        each-register = h.each-register;
        each-block = rw b (sliced_sound kc q.operands (counts_in q) h.each_operand (omega arith) q.blocks h.each-block);
        body = rw b h.body;
        each_operand = h.each_operand;
        each-table = rw b h.each-table;
      }
