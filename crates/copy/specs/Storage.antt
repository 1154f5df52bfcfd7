-- Storage, not the paper's: how arrays of four represent a copy.
use Rattle.std.specs.Prelude.{ℕ, ◌+◌, ◌≤◌, ◌≡◌, Bool, true, false, cond, List, [], ◌∷◌, ◌++◌, map, eqb, take, get_or, Option}
use Rattle.inst.specs.declared.Code.{Code}
use Rattle.inst.specs.declared.Reg.{Reg}
use Rattle.visit_mut.specs.Pairs.{pairs_in}
use Rattle.ends.specs.Forms.{Fixed, word, real, address, varying}
use Rattle.ends.specs.Ends.{code_at}
use Rattle.steps.specs.Copy as s
use Rattle.facts.specs.Storage.{facts_in}
use Rattle.copy.specs.declared.copied.Copied.{Copied}
use Rattle.copy.specs.declared.How.{How}
use Rattle.copy.specs.declared.How.TheVariants as h

abbrev pub how_in : How → s.How
how_in h.LeftOut = s.left_out
how_in (h.Renumbered r) = s.renumbered r.0
how_in h.Kept = s.kept

abbrev pub is_const : Fixed → Bool
is_const (word v) = true
is_const real = true
is_const (address up) = false
is_const varying = false

-- for an old, singly written register, by all its uses and those in the target
abbrev pub how_one : ℕ → ℕ → ℕ → Fixed → s.How
how_one uses own d x = cond (is_const x) s.left_out (cond (eqb uses own) (s.renumbered d) s.kept)

-- the instructions of the copy
abbrev pub codes_in : Copied → List Code
codes_in z = take z.n z.code

-- the registers that got a new number, with it
abbrev pub pairs_of : Copied → List (Reg × Reg)
pairs_of z = take z.fresh z.given

-- the same by their numbers: with the new one, and without
abbrev pub local_in : Copied → List (ℕ × ℕ)
local_in z = pairs_in (pairs_of z)

abbrev pub olds_in : Copied → List ℕ
olds_in z = map (λ x. x.0.0) (pairs_of z)

abbrev pub first_four : List Code → List Code
first_four c = code_at c 0 ∷ code_at c 1 ∷ code_at c 2 ∷ code_at c 3 ∷ []

abbrev pub with_old : s.How → List ℕ → List ℕ
with_old s.left_out l = l
with_old (s.renumbered d) l = l ++ (d ∷ [])
with_old s.kept l = l

-- how many new numbers it takes
abbrev pub taking : s.How → ℕ
taking s.left_out = 0
taking (s.renumbered d) = 1
taking s.kept = 0

-- one more instruction, whatever comes after it
pub record Placed (a : Copied) (how : s.How) (x : Code) (m : ℕ) (z : Copied) : Type 0 where
  pub code : (rest : List (ℕ × ℕ) → ℕ → List Code)
      → (codes_in a ++ s.place how x (local_in a) m rest ≡ codes_in z ++ rest (local_in z) (m + taking how))
  pub olds : olds_in z ≡ with_old how (olds_in a)
  pub n_le : z.n ≤ a.n + 1
  pub fresh-is : z.fresh ≡ a.fresh + taking how

-- the copy of some code, with the kinds of its new numbers
pub record CopyOf (facts : List ℕ) (c : List Code) (m : ℕ) (z : Copied) : Type 0 where
  pub code : (body : Option ℕ) (budget : ℕ) → codes_in z ≡ s.copy_of (facts_in facts body budget) c m
  pub kinds : (body : Option ℕ) (budget : ℕ)
      → map (λ d. get_or (facts_in facts body budget).registers d 0) (olds_in z) ≡ s.kinds_of (facts_in facts body budget) c
  pub n_le : z.n ≤ 4
  pub fresh_le : z.fresh ≤ z.n
