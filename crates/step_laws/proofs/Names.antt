-- What an instruction names, place by place; with more registers it still exists.
use Prim.Native.Nat.{ℕ, ◌+◌, ◌≤◌, ◌<◌}
use native.Mathlib.Omega.{arith}
use mathlib.Core.Path.{◌≡◌, refl}
use mathlib.Core.Bool.{true}
use mathlib.Core.List.{List, [], ◌∷◌}
use borrow.Author.Tests.{ltb-true, leb-true, lt-ltb, le-leb}
use lib.ListN.{get_or}
use Rattle.general.proofs.Booleans.{and_first, and_second}
use Rattle.records.specs.Kinds.{Place, unused, number, small, register, block, table, list, places, fields}
use Rattle.record_rules.specs.declared.exist.Counts.{Counts}
use Rattle.record_rules.specs.Exist.{exist, all_exist, names_exist}
use Rattle.inst.specs.declared.Inst.{Inst}
use Rattle.inst.specs.declared.Code.{Code}
use Rattle.codec.specs.Codec.{inst_record, record_of}
use Rattle.round_trips.specs.WellFormed.{Sound, BlockIn}
use Rattle.round_trips.proofs.Lists.{all-turn}

abbrev pub Exist : Counts → Place → ℕ → ℕ → Type 0
Exist n unused p next = Unit {0}
Exist n number p next = Unit {0}
Exist n small p next = Unit {0}
Exist n register p next = p < n.registers
Exist n block p next = p < n.blocks
Exist n table p next = p < n.tables
Exist n list p next = p + next ≤ n.operands

abbrev pub Exists : Counts → List Place → List ℕ → Type 0
Exists n [] ps = Unit {0}
Exists n (x ∷ xs) [] = Unit {0}
Exists n (x ∷ xs) (p ∷ ps) = Exist n x p (get_or ps 0 0) × Exists n xs ps

module _ (n : Counts) where
  exist-is : (x : Place) (p next : ℕ) → exist n x p next ≡ true → Exist n x p next
  exist-is unused p next e = tt
  exist-is number p next e = tt
  exist-is small p next e = tt
  exist-is register p next e = ltb-true p n.registers e
  exist-is block p next e = ltb-true p n.blocks e
  exist-is table p next e = ltb-true p n.tables e
  exist-is list p next e = leb-true (p + next) n.operands e

  is-exist : (x : Place) (p next : ℕ) → Exist n x p next → exist n x p next ≡ true
  is-exist unused p next h = refl
  is-exist number p next h = refl
  is-exist small p next h = refl
  is-exist register p next h = lt-ltb p n.registers h
  is-exist block p next h = lt-ltb p n.blocks h
  is-exist table p next h = lt-ltb p n.tables h
  is-exist list p next h = le-leb (p + next) n.operands h

  exists_is : (xs : List Place) (ps : List ℕ) → all_exist n xs ps ≡ true → Exists n xs ps
  exists_is [] ps e = tt
  exists_is (x ∷ xs) [] e = tt
  exists_is (x ∷ xs) (p ∷ ps) e =
      let t = exist n x p (get_or ps 0 0) in
      (exist-is x p (get_or ps 0 0) (and_first t _ e), exists_is xs ps (and_second t _ e))

  is_exists : (xs : List Place) (ps : List ℕ) → Exists n xs ps → all_exist n xs ps ≡ true
  is_exists [] ps h = refl
  is_exists (x ∷ xs) [] h = refl
  is_exists (x ∷ xs) (p ∷ ps) h = rw (is-exist x p (get_or ps 0 0) h.0, is_exists xs ps h.1)

-- what an instruction names
abbrev pub Named : Counts → Inst → Type 0
Named n x =
    let r = inst_record x in
    Exists n (places r.class r.kind r.op) (fields r)

pub named : (n : Counts) (x : Code) → names_exist n (record_of x) ≡ true → Named n x.inst
unfolding names_exist
named n x e =
    let r = inst_record x.inst in
    exists_is n (places r.class r.kind r.op) (fields r) e

pub names : (n : Counts) (x : Code) → Named n x.inst → names_exist n (record_of x) ≡ true
unfolding names_exist
names n x h =
    let r = inst_record x.inst in
    is_exists n (places r.class r.kind r.op) (fields r) h

-- the same with another number of registers
abbrev pub with_regs : ℕ → Counts → Counts
with_regs m n = record { registers = m; blocks = n.blocks; tables = n.tables; operands = n.operands }

module _ (n : Counts) (m : ℕ) (h : n.registers ≤ m) where
  more-exist : (x : Place) (p next : ℕ) → Exist n x p next → Exist (with_regs m n) x p next
  more-exist unused p next i = tt
  more-exist number p next i = tt
  more-exist small p next i = tt
  more-exist register p next i = omega arith
  more-exist block p next i = i
  more-exist table p next i = i
  more-exist list p next i = i

  pub more_exists : (xs : List Place) (ps : List ℕ) → Exists n xs ps → Exists (with_regs m n) xs ps
  more_exists [] ps i = tt
  more_exists (x ∷ xs) [] i = tt
  more_exists (x ∷ xs) (p ∷ ps) i = (more-exist x p (get_or ps 0 0) i.0, more_exists xs ps i.1)

  pub more-sound : (x : Code) → Sound n x → Sound (with_regs m n) x
  more-sound x s =
      let r = inst_record x.inst in
      record { range = s.range; names = names (with_regs m n) x (more_exists (places r.class r.kind r.op) (fields r) (named n x s.names)) }

  pub more-block : (c : List Code) → BlockIn n c → BlockIn (with_regs m n) c
  more-block c b = record { ends = b.ends; each = all-turn more-sound c b.each }
