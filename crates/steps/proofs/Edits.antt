-- Thread is a row of edits, each of one block: the form in which demand 3 takes it.
use Prim.Native.Nat.{ℕ, zero, suc}
use mathlib.Core.Path.{◌≡◌, refl}
use mathlib.Core.List.{List, []}
use Rattle.std.proofs.Common.{Option, None, Some}
use mathlib.Core.Bool.{Bool, true, false, ◌&&◌}
use lib.Dec.{eqb}
use lib.ListN.{length}
use Rattle.inst.specs.declared.Code.{Code}
use Rattle.inst.specs.declared.Inst.TheVariants as i
use Rattle.codec.specs.Codec.{reg_of, block_of}
use Rattle.inst.specs.declared.Reg.{Reg}
use Rattle.inst.specs.declared.BlockId.{BlockId}
use Rattle.word.specs.Word.{choose}
use Rattle.ends.specs.declared.End.{End}
use Rattle.ends.specs.declared.End.TheVariants as v
use Rattle.ends.specs.Ends.{end_of, front, with_end}
use Rattle.steps.specs.Facts.{Facts}
use Rattle.steps.specs.Note.{Known, nothing, notes, source_of, value_of}
use Rattle.steps.specs.Copy.{copy_of, kinds_of}
use Rattle.steps.specs.Thread.{Work, block_at, edit, Hop, stay, last, next, arm_of, rewrite_if, decide, hop_cond_br, stops}
use Rattle.steps.specs.Thread.{appended, next_number, append_if, hop_br, hop_at, hop, onward, hops, thread_from, thread, unthreaded}

module _ (f : Facts) where
  -- what is known before the end of block a
  abbrev pub known_at : Work → ℕ → Known
  known_at w a = notes f nothing (front (block_at w a))

  -- c, or its copy's source
  abbrev pub source_at : Work → ℕ → ℕ → ℕ
  source_at w a c = source_of (known_at w a) c

  -- block a with a CondBr on the source of c and the arms that t and e lead to
  abbrev pub turned : Work → ℕ → ℕ → ℕ → ℕ → List Code
  turned w a c t e =
      let c' = source_at w a c in
      with_end (i.CondBr (reg_of c') (block_of (arm_of f w a c' true t)) (block_of (arm_of f w a c' false e))) (block_at w a)

  -- the work with the code of block l joined to block a
  abbrev pub joined_to : Work → ℕ → ℕ → Work
  joined_to w a l = appended w a (copy_of f (block_at w l) (next_number f w)) (kinds_of f (block_at w l))

  pub data Edit : Work → Work → Type 0 where
    -- a Br gives way to the code of its target
    joins : (w : Work) (a : ℕ) (l : BlockId) → end_of (block_at w a) ≡ v.Br l → stops f w a l.0 ≡ false → Edit w (joined_to w a l.0)
    -- a CondBr of a known value becomes a Br
    folds : (w : Work) (a : ℕ) (c : Reg) (t e : BlockId) (n : ℕ) → end_of (block_at w a) ≡ v.CondBr c t e
        → value_of f (known_at w a) (source_at w a c.0) ≡ Some n
        → Edit w (edit w a (with_end (i.Br (block_of (choose n t.0 e.0))) (block_at w a)) [] 0)
    -- a CondBr takes its copy's source and the arms of lone CondBrs
    turns : (w : Work) (a : ℕ) (c : Reg) (t e : BlockId) → end_of (block_at w a) ≡ v.CondBr c t e
        → Edit w (edit w a (turned w a c.0 t.0 e.0) [] 0)

  pub data Edits : Work → Work → Type 0 where
    nil : (w : Work) → Edits w w
    then : {w w' w'' : Work} → Edit w w' → Edits w' w'' → Edits w w''

  pub edits_join : {w w' w'' : Work} → Edits w w' → Edits w' w'' → Edits w w''
  edits_join (nil w) y = y
  edits_join (then x xs) y = then x (edits_join xs y)

  -- what a hop does is an edit
  abbrev pub HopOk : Work → Hop → Type 0
  HopOk w stay = Unit {0}
  HopOk w (last w') = Edit w w'
  HopOk w (next w') = Edit w w'

  append_ok : (w : Work) (a : ℕ) (l : BlockId) → end_of (block_at w a) ≡ v.Br l → (b : Bool) → stops f w a l.0 ≡ b
      → HopOk w (append_if b f w a l.0)
  append_ok w a l e true q = tt
  append_ok w a l e false q = joins w a l e q

  module _ (w : Work) (a : ℕ) (c : Reg) (t e : BlockId) (p : end_of (block_at w a) ≡ v.CondBr c t e) where
    abbrev source : ℕ
    source = source_at w a c.0

    abbrev arm : Bool → BlockId → ℕ
    arm truth l = arm_of f w a source truth l.0

    rewrite_ok : (b : Bool) → HopOk w (rewrite_if b w a source (arm true t) (arm false e))
    rewrite_ok true = tt
    rewrite_ok false = turns w a c t e p

    decide_ok : (o : Option ℕ) → value_of f (known_at w a) source ≡ o → HopOk w (decide f w a c.0 t.0 e.0 source o)
    decide_ok (Some n) q = folds w a c t e n p q
    decide_ok None q = rewrite_ok (eqb source c.0 && eqb (arm true t) t.0 && eqb (arm false e) e.0)

  hop_at_ok : (w : Work) (a : ℕ) (x : End) → end_of (block_at w a) ≡ x → HopOk w (hop_at f w a x)
  unfolding hop_br hop_cond_br
  hop_at_ok w a (v.Br l) e = append_ok w a l e _ refl
  hop_at_ok w a (v.CondBr c t g) e = decide_ok w a c t g e _ refl
  hop_at_ok w a (v.Case n) e = tt
  hop_at_ok w a v.Other e = tt

  pub hop_ok : (w : Work) (a : ℕ) → HopOk w (hop f w a)
  unfolding hop
  hop_ok w a = hop_at_ok w a (end_of (block_at w a)) refl

  onward_edits : (w : Work) (x : Hop) → HopOk w x → (rest : Work → Work) → ((v : Work) → Edits v (rest v)) → Edits w (onward x w rest)
  onward_edits w stay t rest ih = nil w
  onward_edits w (last w') t rest ih = then t (nil w')
  onward_edits w (next w') t rest ih = then t (ih w')

  pub hops_edits : (k a : ℕ) (w : Work) → Edits w (hops f k a w)
  unfolding hops
  hops_edits zero a w = nil w
  hops_edits (suc k) a w = onward_edits w (hop f w a) (hop_ok w a) (hops f k a) (hops_edits k a)

  pub thread_from_edits : (n a : ℕ) (w : Work) → Edits w (thread_from f n a w)
  unfolding thread_from
  thread_from_edits zero a w = nil w
  thread_from_edits (suc n) a w = edits_join (hops_edits 6 a w) (thread_from_edits n (suc a) (hops f 6 a w))

  pub thread_edits : (P : List (List Code)) → Edits (unthreaded P) (thread f P)
  thread_edits P = thread_from_edits (length P) 0 (unthreaded P)
