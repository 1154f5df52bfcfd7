-- No register past a file's is counted, and no count of uses reaches the cap.
use Prim.Native.Nat.{ℕ, ◌*◌, ◌≤◌, ◌<◌}
use native.Mathlib.Omega.{arith}
use mathlib.Core.Path.{◌≡◌, refl}
use mathlib.Core.List.{List, [], ◌∷◌}
use borrow.Author.Tests.{ne_eqb}
use lib.ListN.{length, drop, length-append, length-take, length-drop}
use Rattle.record_rules.specs.declared.exist.Counts.{Counts}
use Rattle.inst.specs.declared.Code.{Code}
use Rattle.roles.specs.Roles.{defs_of, uses_of, list_of, operands_of, reads_of}
use Rattle.roles.proofs.Laws.{all-few}
use Rattle.procedure.specs.Lists.{times}
use Rattle.procedure.proofs.Laws.{times_le}
use Rattle.procedure.specs.Counts.{writes_in, use_count}
use Rattle.round_trips.specs.WellFormed.{All, Sound}
use Rattle.round_trips.proofs.Lists.{all_append, all_left, all_right, all_take, all_drop}
use Rattle.step_laws.proofs.Names.{named}
use Rattle.step_laws.proofs.Registers.{regs-exist}

times_none : (m : ℕ) (xs : List ℕ) → All (λ x. x < m) xs → (r : ℕ) → m ≤ r → times r xs ≡ 0
unfolding times
times_none m [] h r i = refl
times_none m (x ∷ xs) h r i =
    let l = h.0 in
    rw (ne_eqb r x (λ e. omega arith), times_none m xs h.1 r i)

module _ (n : Counts) (ops : List ℕ) (low : All (λ r. r < n.registers) ops) where
  abbrev Low : ℕ → Type 0
  Low r = r < n.registers

  pub unwritten : (c : List Code) → All (Sound n) c → (r : ℕ) → n.registers ≤ r → writes_in c r ≡ 0
  unfolding writes_in
  unwritten [] h r i = refl
  unwritten (x ∷ c) h r i =
      let regs = regs-exist n x.inst (named n x h.0.names) in
      let here = times_none n.registers (defs_of x.inst) (all_left Low (defs_of x.inst) (uses_of x.inst) regs) r i in
      let rest = unwritten c h.1 r i in
      omega arith

  pub unread : (c : List Code) → All (Sound n) c → (r : ℕ) → n.registers ≤ r → use_count ops c r ≡ 0
  unfolding use_count
  unread [] h r i = refl
  unread (x ∷ c) h r i =
      let l = list_of x.inst in
      let regs = all_right Low (defs_of x.inst) (uses_of x.inst) (regs-exist n x.inst (named n x h.0.names)) in
      let list = all_take Low l.len (drop l.start ops) (all_drop Low l.start ops low) in
      let here = times_none n.registers (reads_of ops x.inst) (all_append Low (uses_of x.inst) (operands_of ops l) regs list) r i in
      let rest = unread c h.1 r i in
      omega arith

-- an instruction reads five registers at most, and those of its list
pub uses-few : (ops : List ℕ) → length ops ≤ 128 → (c : List Code) (r : ℕ) → use_count ops c r ≤ 133 * length c
unfolding use_count
uses-few ops h [] r = omega arith
uses-few ops h (x ∷ c) r =
    let l = list_of x.inst in
    let here = times_le r (reads_of ops x.inst) in
    let reads = length-append (uses_of x.inst) (operands_of ops l) in
    let all = length-append (defs_of x.inst) (uses_of x.inst) in
    let five = all-few x.inst in
    let list = length-take l.len (drop l.start ops) in
    let part = length-drop l.start ops in
    let rest = uses-few ops h c r in
    omega arith
