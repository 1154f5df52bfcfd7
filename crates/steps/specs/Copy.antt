-- Document 01, "Thread": "the Br is replaced by l's code".
use Rattle.std.specs.Prelude.{ℕ, suc, ◌+◌, List, [], ◌∷◌, ◌++◌, Bool, true, false, ◌&&◌, cond, eqb, ltb, length, get_or}
use Rattle.inst.specs.declared.Code.{Code}
use Rattle.inst.specs.declared.Inst.{Inst}
use Rattle.roles.specs.Roles.{defs_of, uses_of}
use Rattle.roles.specs.Exchange.{exchanged}
use Rattle.procedure.specs.Lists.{times, found, value_or}
use Rattle.ends.specs.Forms.{Fixed, word, real, address, varying, fixed_of}
use Rattle.codec.specs.Codec.{with_inst}
use Rattle.steps.specs.Facts.{Facts}

-- what happens to an instruction in the copy
pub data How : Type 0 where
  -- "A singly written Const or ConstF is left out."
  left_out : How
  -- "Another singly written old register, all whose counted uses equal those in l, gets a new number there"
  renumbered : ℕ → How
  kept : How

-- for an old, singly written register; own is the number of its uses in l
abbrev pub how_fixed : Facts → ℕ → ℕ → Fixed → How
how_fixed f own d (word v) = left_out
how_fixed f own d real = left_out
how_fixed f own d (address up) = cond (eqb (f.uses d) own) (renumbered d) kept
how_fixed f own d varying = cond (eqb (f.uses d) own) (renumbered d) kept

abbrev pub how_single : Facts → ℕ → ℕ → Fixed → Bool → How
how_single f own d x true = how_fixed f own d x
how_single f own d x false = kept

abbrev pub how_written : Facts → (ℕ → ℕ) → Fixed → List ℕ → How
how_written f own x [] = kept
how_written f own x (d ∷ ds) = how_single f (own d) d x (ltb d (length f.registers) && f.single d)

-- l's instructions are `dupable` and its end, so each writes one register or none
unfoldable pub how_of : Facts → (ℕ → ℕ) → Inst → How
how_of f own x = how_written f own (fixed_of x) (defs_of x)

-- `cnt`: the reads of a register in l
unfoldable pub own_uses : List Code → ℕ → ℕ
own_uses [] r = 0
own_uses (x ∷ c) r = times r (uses_of x.inst) + own_uses c r

-- the number that a register is read through: that of its first entry in `local`
abbrev pub read_through : List (ℕ × ℕ) → ℕ → ℕ
read_through local r = value_or r (found r local)

abbrev pub written : ℕ → ℕ → ℕ → ℕ
written d m r = cond (eqb r d) m r

abbrev pub renamed : List (ℕ × ℕ) → (ℕ → ℕ) → Code → Code
renamed local τ x = with_inst (exchanged (read_through local) τ x.inst) x

abbrev pub place : How → Code → List (ℕ × ℕ) → ℕ → (List (ℕ × ℕ) → ℕ → List Code) → List Code
place left_out x local m rest = rest local m
place (renumbered d) x local m rest = renamed local (written d m) x ∷ rest (local ++ ((d, m) ∷ [])) (suc m)
place kept x local m rest = renamed local (λ r. r) x ∷ rest local m

module _ (f : Facts) (own : ℕ → ℕ) where
  -- the copy of some code of l; m is the next new number
  unfoldable pub copy_from : List Code → List (ℕ × ℕ) → ℕ → List Code
  copy_from [] local m = []
  copy_from (x ∷ c) local m = place (how_of f own x.inst) x local m (copy_from c)

  abbrev pub kind_for : How → List ℕ → List ℕ
  kind_for left_out ks = ks
  kind_for (renumbered d) ks = get_or f.registers d 0 ∷ ks
  kind_for kept ks = ks

  -- the kinds of the new numbers given: "of the old one's kind"
  unfoldable pub kinds_given : List Code → List ℕ
  kinds_given [] = []
  kinds_given (x ∷ c) = kind_for (how_of f own x.inst) (kinds_given c)

abbrev pub copy_of : Facts → List Code → ℕ → List Code
copy_of f c m = copy_from f (own_uses c) c [] m

abbrev pub kinds_of : Facts → List Code → List ℕ
kinds_of f c = kinds_given f (own_uses c) c
