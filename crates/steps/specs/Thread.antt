-- Document 01, "Thread": "Blocks ascending, 6 hops each; targets are read in their current form; the hop loop over one block is left from inside."
use Rattle.std.specs.Prelude.{ℕ, zero, suc, ◌+◌, List, [], ◌++◌, Bool, true, false, ◌&&◌, ◌||◌, not, cond, eqb, ltb, length, get_or, set, Option, None, Some}
use Rattle.inst.specs.declared.Code.{Code}
use Rattle.inst.specs.declared.Inst.TheVariants as i
use Rattle.codec.specs.Codec.{reg_of, block_of}
use Rattle.procedure.specs.Lists.{present, holds}
use Rattle.word.specs.Word.{choose}
use Rattle.ends.specs.declared.End.{End}
use Rattle.ends.specs.declared.End.TheVariants as e
use Rattle.ends.specs.Ends.{end_of, lone_of, front, with_end}
use Rattle.steps.specs.Small.{reads_konst}
use Rattle.steps.specs.Facts.{Facts}
use Rattle.steps.specs.Note.{Known, nothing, notes, source_of, value_of}
use Rattle.steps.specs.Gate.{copied}
use Rattle.steps.specs.Copy.{copy_of, kinds_of}

pub record Work : Type 0 where
  -- the blocks in their current form
  pub blocks : List (List Code)
  -- the kinds of the new register numbers, in the order they were given
  pub kinds : List ℕ
  -- "grown is the number of instructions appended by copying"
  pub grown : ℕ
  -- "threading edited some block"
  pub edited : Bool

abbrev pub block_at : Work → ℕ → List Code
block_at w a = get_or w.blocks a []

-- block a is edited
abbrev pub edit : Work → ℕ → List Code → List ℕ → ℕ → Work
edit w a c kinds grown = record { blocks = set w.blocks a c; kinds = w.kinds ++ kinds; grown = w.grown + grown; edited = true }

-- one hop: nothing is edited; an edit that ends the hops; an edit that the next hop follows
pub data Hop : Type 0 where
  stay : Hop
  last : Work → Hop
  next : Work → Hop

-- CondBr: the arm of a lone CondBr on c that matches
abbrev pub matching : Bool → ℕ → ℕ → End → ℕ
matching truth c l (e.Br to) = l
matching truth c l (e.CondBr c' t f) = cond (eqb c'.0 c) (cond truth t.0 f.0) l
matching truth c l (e.Case n) = l
matching truth c l e.Other = l

-- "an arm whose target is a lone CondBr on the same c, neither this block nor the body, takes that block's matching arm"
unfoldable pub arm_of : Facts → Work → ℕ → ℕ → Bool → ℕ → ℕ
arm_of f w a c truth l = cond (eqb l a || holds f.body l) l (matching truth c l (lone_of (block_at w l)))

-- the CondBr stays as it is, or is written with another c or other arms: "hops end"
abbrev pub rewrite_if : Bool → Work → ℕ → ℕ → ℕ → ℕ → Hop
rewrite_if true w a c t e = stay
rewrite_if false w a c t e = last (edit w a (with_end (i.CondBr (reg_of c) (block_of t) (block_of e)) (block_at w a)) [] 0)

abbrev pub rewrite : Work → ℕ → ℕ → ℕ → ℕ → ℕ → ℕ → ℕ → Hop
rewrite w a c t e c' t' e' = rewrite_if (eqb c' c && eqb t' t && eqb e' e) w a c' t' e'

-- "A known value makes a Br; the next hop follows."
abbrev pub decide : Facts → Work → ℕ → ℕ → ℕ → ℕ → ℕ → Option ℕ → Hop
decide f w a c t e c' (Some v) = next (edit w a (with_end (i.Br (block_of (choose v t e))) (block_at w a)) [] 0)
decide f w a c t e c' None = rewrite w a c t e c' (arm_of f w a c' true t) (arm_of f w a c' false e)

-- "c becomes its copy's source."
abbrev pub decide_from : Facts → Work → ℕ → ℕ → ℕ → ℕ → Known → Hop
decide_from f w a c t e k = decide f w a c t e (source_of k c) (value_of f k (source_of k c))

-- "CondBr: `note` gathers known values and copies before it."
unfoldable pub hop_cond_br : Facts → Work → ℕ → ℕ → ℕ → ℕ → Hop
hop_cond_br f w a c t e = decide_from f w a c t e (notes f nothing (front (block_at w a)))

-- "stop if l is this block or the body, a body exists and l names a singly written Const, ConstF or non-Up AddrOf register,
-- grown exceeds n/2 + 32 (rounded down), l isn't `small`, or `latch` holds"
unfoldable pub stops : Facts → Work → ℕ → ℕ → Bool
stops f w a l =
    eqb l a
    || holds f.body l
    || present f.body && reads_konst f.konst (block_at w l)
    || ltb f.budget w.grown
    || not (copied (present f.body) w.blocks l)

-- "Else the Br is replaced by l's code."
abbrev pub appended : Work → ℕ → List Code → List ℕ → Work
appended w a copy kinds = edit w a (front (block_at w a) ++ copy) kinds (length copy)

-- the number that the next new register gets
abbrev pub next_number : Facts → Work → ℕ
next_number f w = length f.registers + length w.kinds

abbrev pub append_if : Bool → Facts → Work → ℕ → ℕ → Hop
append_if true f w a l = stay
append_if false f w a l = next (appended w a (copy_of f (block_at w l) (next_number f w)) (kinds_of f (block_at w l)))

-- "Br to l"
unfoldable pub hop_br : Facts → Work → ℕ → ℕ → Hop
hop_br f w a l = append_if (stops f w a l) f w a l

abbrev pub hop_at : Facts → Work → ℕ → End → Hop
hop_at f w a (e.Br l) = hop_br f w a l.0
hop_at f w a (e.CondBr c t f') = hop_cond_br f w a c.0 t.0 f'.0
hop_at f w a (e.Case n) = stay
hop_at f w a e.Other = stay

-- a hop of block a
unfoldable pub hop : Facts → Work → ℕ → Hop
hop f w a = hop_at f w a (end_of (block_at w a))

abbrev pub onward : Hop → Work → (Work → Work) → Work
onward stay w rest = w
onward (last w') w rest = w'
onward (next w') w rest = rest w'

unfoldable pub hops : Facts → ℕ → ℕ → Work → Work
hops f zero a w = w
hops f (suc k) a w = onward (hop f w a) w (hops f k a)

-- n blocks from block a on: "6 hops each"
unfoldable pub thread_from : Facts → ℕ → ℕ → Work → Work
thread_from f zero a w = w
thread_from f (suc n) a w = thread_from f n (suc a) (hops f 6 a w)

abbrev pub unthreaded : List (List Code) → Work
unthreaded P = record { blocks = P; kinds = []; grown = 0; edited = false }

abbrev pub thread : Facts → List (List Code) → Work
thread f P = thread_from f (length P) 0 (unthreaded P)
