-- A well-formed procedure is whole: every register exists, and each block ends in its only terminator.
use Prim.Native.Nat.{ℕ, zero, suc, ◌<◌}
use mathlib.Core.Path.{◌≡◌, refl, sym, subst, ◌∙◌}
use mathlib.Core.Logic.{◌⊎◌, inl, inr}
use mathlib.Core.List.{List, [], ◌∷◌, ◌++◌}
use mathlib.Core.Bool.{true, false}
use native.Mathlib.Omega.{arith}
use lib.ListN.{length, get_or, take, drop}
use Rattle.record_rules.specs.declared.exist.Counts.{Counts}
use Rattle.inst.specs.declared.Code.{Code}
use Rattle.roles.specs.Roles.{defs_of, uses_of, list_of, operands_of}
use Rattle.procedure.specs.Procedure.{Procedure}
use Rattle.ends.specs.Ends.{terminator_of}
use Rattle.round_trips.specs.WellFormed.{All, Ends, Sound, BlockIn, counts_in, WellFormed}
use Rattle.step_laws.proofs.Names.{named}
use Rattle.step_laws.proofs.Registers.{regs-exist}
use Rattle.demand.specs.Setting.{In, Each, Front, defs_at, reads_at}
use Rattle.demand.specs.Whole.{Whole}
use Rattle.demand.proofs.Basics.{in_left, in_right, in_split}

all_in : (F : ℕ → Type 0) (xs : List ℕ) (r : ℕ) → All F xs → In r xs → F r
all_in F [] r p k = absurd k
all_in F (x ∷ xs) r p (inl e) = subst F (sym e) p.0
all_in F (x ∷ xs) r p (inr k) = all_in F xs r p.1 k

in_take : (r n : ℕ) (xs : List ℕ) → In r (take n xs) → In r xs
in_take r zero xs k = absurd k
in_take r (suc n) [] k = absurd k
in_take r (suc n) (x ∷ xs) (inl e) = inl e
in_take r (suc n) (x ∷ xs) (inr k) = inr (in_take r n xs k)

in-drop : (r n : ℕ) (xs : List ℕ) → In r (drop n xs) → In r xs
in-drop r zero xs k = k
in-drop r (suc n) [] k = absurd k
in-drop r (suc n) (x ∷ xs) k = inr (in-drop r n xs k)

-- each block's code before its end, and its end
front_goes : (c : List Code) → Ends c → Front (λ x. terminator_of x.inst ≡ false) c
front_goes [] e = tt
front_goes (x ∷ []) e = tt
front_goes (x ∷ y ∷ c) e = (e.0, front_goes (y ∷ c) e.1)

end-ends : (c : List Code) (x : Code) → Ends (c ++ (x ∷ [])) → terminator_of x.inst ≡ true
end-ends [] x e = e
end-ends (y ∷ []) x e = e.1
end-ends (y ∷ z ∷ c) x e = end-ends (z ∷ c) x e.1

module _ (p : Procedure) (w : WellFormed p) where
  abbrev n : Counts
  n = counts_in p

  some_code : (c : List Code) (x : Code) → [] ≡ c ++ (x ∷ []) → ⊥
  some_code [] x q = let z : ◌≡◌ {A = ℕ} 0 1 = cc in omega arith
  some_code (y ∷ c) x q = let z : ◌≡◌ {A = ℕ} 0 1 = cc in omega arith

  -- of a block, if it is one
  block-at : (P : List (List Code)) → All (BlockIn n) P → (b : ℕ) → BlockIn n (get_or P b []) ⊎ (get_or P b [] ≡ [])
  block-at [] q b = inr refl
  block-at (c ∷ P) q zero = inl q.0
  block-at (c ∷ P) q (suc b) = block-at P q.1 b

  names-low : (x : Code) → Sound n x → (r : ℕ) → In r (defs_at x) ⊎ In r (reads_at p.operands x) → r < length p.registers
  names-low x s r (inl k) = all_in _ (defs_of x.inst ++ uses_of x.inst) r (regs-exist n x.inst (named n x s.names))
      (in_left r (defs_of x.inst) (uses_of x.inst) k)
  names-low x s r (inr k) = by (in_split r (uses_of x.inst) (operands_of p.operands (list_of x.inst)) k)
    where
      l : List ℕ
      l = p.operands

      by : In r (uses_of x.inst) ⊎ In r (operands_of l (list_of x.inst)) → r < length p.registers
      by (inl z) = all_in _ (defs_of x.inst ++ uses_of x.inst) r (regs-exist n x.inst (named n x s.names))
          (in_right r (defs_of x.inst) (uses_of x.inst) z)
      by (inr z) = all_in (λ r. r < length p.registers) l r w.each_operand
          (in-drop r (list_of x.inst).start l (in_take r (list_of x.inst).len _ z))

  each-low : (c : List Code) → All (Sound n) c → Each (λ x. (r : ℕ) → In r (defs_at x) ⊎ In r (reads_at p.operands x) → r < length p.registers) c
  each-low [] q = tt
  each-low (x ∷ c) q = (names-low x q.0, each-low c q.1)

  pub whole : Whole p
  whole =
      record {
        exist = λ b. low b (block-at p.blocks w.each-block b);
        formed = λ b. front b (block-at p.blocks w.each-block b);
        ends = λ b c x q. end b c x q (block-at p.blocks w.each-block b);
      }
    where
      low : (b : ℕ) → BlockIn n (get_or p.blocks b []) ⊎ (get_or p.blocks b [] ≡ [])
          → Each (λ x. (r : ℕ) → In r (defs_at x) ⊎ In r (reads_at p.operands x) → r < length p.registers) (get_or p.blocks b [])
      low b (inl s) = each-low (get_or p.blocks b []) s.each
      low b (inr q) = rw q tt

      front : (b : ℕ) → BlockIn n (get_or p.blocks b []) ⊎ (get_or p.blocks b [] ≡ []) → Front (λ x. terminator_of x.inst ≡ false) (get_or p.blocks b [])
      front b (inl s) = front_goes (get_or p.blocks b []) s.ends
      front b (inr q) = rw q tt

      end : (b : ℕ) (c : List Code) (x : Code) → get_or p.blocks b [] ≡ c ++ (x ∷ []) → BlockIn n (get_or p.blocks b []) ⊎ (get_or p.blocks b [] ≡ [])
          → terminator_of x.inst ≡ true
      end b c x q (inl s) = end-ends c x (subst Ends q s.ends)
      end b c x q (inr z) = absurd (some_code c x (sym z ∙ q))
