-- The counts and threading of an opened file, over the work storage.
use Prim.Native.Nat.{ℕ, ◌+◌, ◌*◌, ◌/◌, ◌≤◌, ◌<◌, min}
use native.Mathlib.Omega.{arith}
use mathlib.Core.Path.{◌≡◌, refl, sym, ap, subst, ◌∙◌}
use mathlib.Core.List.{List}
use mathlib.Core.Logic.{◌⊎◌, inl, inr}
use lib.ListN.{length, get_or, take, drop, length-append, length-drop, get_or-eq_default}
use Rattle.general.proofs.Numbers.{order}
use Rattle.inst.specs.declared.Code.{Code}
use Rattle.procedure.specs.Procedure.{Procedure, codes_of}
use Rattle.procedure.specs.Lists.{joined}
use Rattle.blocks.specs.Blocks.{blocks_of}
use Rattle.steps.specs.Facts.{Facts, facts_of}
use Rattle.steps.specs.Thread.{Work, unthreaded, thread}
use Rattle.steps.specs.Run as s
use Rattle.steps.proofs.Edits.{Edits, thread_edits}
use Rattle.facts.specs.Storage.{kinds_of, operands_in, rows, row_of, table_of, kinds_in, facts_in}
use Rattle.facts.proofs.Rows.{rows-length}
use Rattle.facts.proofs.Told.{told}
use Rattle.round_trips.specs.WellFormed.{All, Sound, counts_in}
use Rattle.round_trips.proofs.Lists.{all-at, all_joined, all-turn}
use Rattle.step_laws.proofs.Threads.{Inv}
use Rattle.step_laws.proofs.Laws.{edits_inv}
use Rattle.procedure_parts.proofs.Laws.{kinds-sent}
use Rattle.procedure_parts.specs.Opened.{Parts, Opened}
use Rattle.thread.specs.Storage.{Store, store, thread_in}
use Rattle.thread.proofs.Refined.{work_of}
use Rattle.thread.proofs.Kept.{Stored}
use Rattle.thread.proofs.Whole as w
use Rattle.run.specs.Ran.{still, counted_in}
use Rattle.run.proofs.Lent.{Lent, held}
use Rattle.run.proofs.Uses.{unwritten, unread, uses-few}
use Rattle.run.proofs.Joins as j

-- a table that is filled is as long as it was
table_long : (t kinds ops : List ℕ) (c : List Code) → length (table_of t kinds ops c) ≡ length t
unfolding table_of
table_long t kinds ops c =
    let n = min (length kinds) (length t / 5) in
    let r = rows-length (row_of kinds ops c) (λ r. refl) n in
    let d = length-drop (5 * n) t in
    let a = length-append (rows n (row_of kinds ops c)) (drop (5 * n) t) in
    omega arith

kind-few : (kinds : List ℕ) → All (λ k. k < 5) kinds → (r : ℕ) → get_or kinds r 0 ≤ 5
kind-few kinds h r = by (order r (length kinds))
  where
    by : (r < length kinds) ⊎ (length kinds ≤ r) → get_or kinds r 0 ≤ 5
    by (inl i) = let k = all-at (λ k. k < 5) kinds 0 h r i in omega arith
    by (inr i) = let e = get_or-eq_default kinds 0 i in omega arith

module _ {p : Procedure} {x : Parts} {known copy : ℕ} {work kinds facts : List ℕ}
    (h : Lent p x p.body known copy (length (joined p.blocks)) work x.heads kinds facts) where
  abbrev N : ℕ
  N = length (joined p.blocks)

  abbrev o : Opened p x
  o = h.opened

  abbrev after : List ℕ
  after = (j.arms (held h)).code

  -- the procedure after the equal-arms step
  abbrev pub q : Procedure
  q = (s.arms_joined p).procedure

  abbrev pub counted : List ℕ
  counted = counted_in N x.operands x.registers facts after

  pub counted_long : length counted ≡ length facts
  counted_long = table_long facts (kinds_of x.registers) (operands_in x.operands) (codes_of (take (32 * min N (length after / 32)) after))

  counted_is : counted ≡ table_of facts p.registers p.operands (joined q.blocks)
  counted_is =
      let long = j.arms_long (held h) in
      let all : min N (length after / 32) ≡ N = omega arith in
      ap (λ (m : ℕ). table_of facts (kinds_of x.registers) (operands_in x.operands) (codes_of (take (32 * m) after))) all
      ∙ ap (table_of facts (kinds_of x.registers) (operands_in x.operands))
      (j.codes (held h) after long ∙ ap joined (j.arms-blocks (held h)))
      ∙ ap (λ (k : List ℕ). table_of facts k (operands_in x.operands) (joined q.blocks)) (kinds-sent o.parted)
      ∙ ap (λ (l : List ℕ). table_of facts p.registers l (joined q.blocks)) o.parted.operands

  -- the table says what is counted of the procedure
  pub facts_are : facts_in counted p.body (N / 2 + 32) ≡ s.counted_in q
  facts_are =
      let k = j.arms-sound (held h) in
      let wf = o.parted.well_formed in
      let c = joined q.blocks in
      let sound = all_joined (Sound (counts_in p)) q.blocks (all-turn (λ c b. b.each) q.blocks k.each) in
      let few = o.few-code in
      let len = k.code in
      ap (λ (t : List ℕ). facts_in t p.body (N / 2 + 32)) counted_is
      ∙ ap (λ (n : ℕ). facts_in (table_of facts p.registers p.operands c) p.body (n / 2 + 32)) (sym len)
      ∙ told facts p.registers p.operands c h.five (kind-few p.registers wf.each-register)
      (unwritten (counts_in p) p.operands wf.each_operand c sound)
      (unread (counts_in p) p.operands wf.each_operand c sound)
      (λ r. let u = uses-few p.operands wf.operands c r in omega arith)
      p.body

  -- every work that edits lead to
  inv_at : (v : Work) → Edits (facts_in counted p.body (N / 2 + 32)) (unthreaded (blocks_of after x.heads)) v
      → Inv (facts_in counted p.body (N / 2 + 32)) (counts_in p) N v
  inv_at v es =
      let a = subst (λ (f : Facts). Edits f (unthreaded (blocks_of after x.heads)) v) facts_are es in
      let b = subst (λ (P : List (List Code)). Edits (s.counted_in q) (unthreaded P) v) (j.arms-blocks (held h)) a in
      subst (λ (f : Facts). Inv f (counts_in p) N v) (sym facts_are) (edits_inv p o.parted.well_formed b)

  -- with room in the storage
  abbrev pub left : Store
  left = thread_in counted p.body (N / 2 + 32) known copy after x.heads kinds N

  stored_at : Stored (store after x.heads kinds (still N))
  stored_at =
      let c = j.arms-coded (held h) in
      let long = j.arms_long (held h) in
      let few = o.few-code in
      record {
        sound =
            record {
              work-bytes = c.bytes;
              table-bytes = o.parted.coded.heads-bytes;
              fit = omega arith;
              word = omega arith;
              apart = j.apart (held h);
            };
        canonical = c.canonical;
      }

  space_there : w.sizes_from (length x.heads / 32) 0 x.heads + N + (3 * N / 8 + 27) ≤ min (length after / 32) 4294967295
  space_there =
      let long = j.arms_long (held h) in
      let size = j.sizes (held h) in
      omega arith

  words : {m : ℕ} → N + 15 ≤ m → w.sizes_from (length x.heads / 32) 0 x.heads + 15 ≤ m
  words e = let size = j.sizes (held h) in omega arith

  numbers : length (kinds_in counted) + (N / 2 + 40) ≤ 65535
  unfolding facts_of
  numbers =
      let e = ap (λ (f : Facts). length f.registers) facts_are in
      let r = o.few-registers in
      let c = o.few-code in
      omega arith

  own_is : thread (facts_in counted p.body (N / 2 + 32)) (blocks_of after x.heads) ≡ work_of left
  own_is =
      let long = o.parted.coded.heads-length in
      let few = o.parted.well_formed.blocks in
      w.thread-is counted p.body (N / 2 + 32) known copy (counts_in p) N after x.heads kinds N
      stored_at inv_at refl space_there h.registers numbers (words h.known-words) (words h.copy-words) (omega arith)

  -- what is left is what Thread leaves
  pub thread-is : thread (s.counted_in q) q.blocks ≡ work_of left
  thread-is =
      ap (thread (s.counted_in q)) (sym (j.arms-blocks (held h)))
      ∙ ap (λ (f : Facts). thread f (blocks_of after x.heads)) (sym facts_are)
      ∙ own_is

  pub stored : Stored left
  stored =
      w.thread_stored counted p.body (N / 2 + 32) known copy (counts_in p) N after x.heads kinds N
      stored_at inv_at refl space_there h.registers numbers (words h.known-words) (words h.copy-words)

  pub long : w.Long (length work) (length x.heads) (length kinds) left
  long =
      subst (λ (m : ℕ). w.Long m (length x.heads) (length kinds) left) (j.arms_long (held h))
      (w.thread_long counted p.body (N / 2 + 32) known copy (counts_in p) N after x.heads kinds N
      stored_at inv_at refl space_there h.registers numbers (words h.known-words) (words h.copy-words))

  pub inv : Inv (facts_in counted p.body (N / 2 + 32)) (counts_in p) N (work_of left)
  inv =
      let f = facts_in counted p.body (N / 2 + 32) in
      let P = blocks_of after x.heads in
      inv_at (work_of left) (subst (Edits f (unthreaded P)) own_is (thread_edits f P))
