-- Storage, not the paper's: how a slice of words represents the facts that Thread needs about a file.
-- Five words a register: its kind, its definitions, its uses, its class, and the v of its first Const.
use Rattle.std.specs.Prelude.{ℕ, zero, suc, ◌+◌, ◌*◌, ◌/◌, min, List, [], ◌∷◌, ◌++◌, map, Bool, true, false, not, ◌&&◌, cond, eqb, ltb, length, get_or, drop, Option, None, Some}
use Rattle.records.specs.Record.{records_of}
use Rattle.inst.specs.declared.Code.{Code}
use Rattle.ends.specs.Forms.{fixed_of}
use Rattle.procedure.specs.Lists.{any_of, value_or}
use Rattle.procedure.specs.Counts.{def_count, use_count}
use Rattle.steps.specs.Facts.{Facts, writes, bound, const_in}

-- f 0, f 1 and so on, n of them
unfoldable pub tabled : {A : Type 0} → ℕ → (ℕ → A) → List A
tabled zero f = []
tabled (suc n) f = tabled n f ++ (f n ∷ [])

-- the same for rows
unfoldable pub rows : ℕ → (ℕ → List ℕ) → List ℕ
rows zero f = []
rows (suc n) f = rows n f ++ f n

-- the kinds that some register records have, and the registers that some operand records have
unfoldable pub kinds_of : List ℕ → List ℕ
kinds_of b = map (λ r. r.kind) (records_of b)

unfoldable pub operands_in : List ℕ → List ℕ
operands_in b = map (λ r. r.p1) (records_of b)

-- some Const, ConstF or non-Up AddrOf writes a register, whatever else does
abbrev pub konst_in : List Code → ℕ → Bool
konst_in c r = any_of (λ x. writes r x.inst && bound (fixed_of x.inst)) c

-- 1: a Const writes it; 2: no Const, but a ConstF or a non-Up AddrOf does; else 0
abbrev pub class_of : Option ℕ → Bool → ℕ
class_of (Some v) konst = 1
class_of None true = 2
class_of None false = 0

-- the highest count of uses
abbrev pub cap : ℕ
cap = 4294967295

abbrev pub row_of : List ℕ → List ℕ → List Code → ℕ → List ℕ
row_of kinds ops c r =
    get_or kinds r 0
    ∷ def_count c r
    ∷ min cap (use_count ops c r)
    ∷ class_of (const_in c r) (konst_in c r)
    ∷ value_or 0 (const_in c r)
    ∷ []

-- a table once it is filled: a row for each register that it has room for, and after them what was there
unfoldable pub table_of : List ℕ → List ℕ → List ℕ → List Code → List ℕ
table_of t kinds ops c =
    let n = min (length kinds) (length t / 5) in
    rows n (row_of kinds ops c) ++ drop (5 * n) t

-- word j of a register's row; d if the table has no such row
unfoldable pub cell : List ℕ → ℕ → ℕ → ℕ → ℕ
cell t r j d = cond (ltb r (length t / 5)) (get_or t (5 * r + j) 0) d

-- what a table says. A kind is at most 5, and 5 for a register without a row
unfoldable pub kinds_in : List ℕ → List ℕ
kinds_in t = tabled (length t / 5) (λ r. min 5 (get_or t (5 * r + 0) 0))

unfoldable pub single_in : List ℕ → ℕ → Bool
single_in t r = eqb (cell t r 1 0) 1

unfoldable pub uses_in : List ℕ → ℕ → ℕ
uses_in t r = cell t r 2 0

unfoldable pub const_at : List ℕ → ℕ → Option ℕ
const_at t r = cond (single_in t r && eqb (cell t r 3 0) 1) (Some (cell t r 4 0)) None

unfoldable pub konst_at : List ℕ → ℕ → Bool
konst_at t r = single_in t r && not (eqb (cell t r 3 0) 0)

-- the facts, with the body and the budget
abbrev pub facts_in : List ℕ → Option ℕ → ℕ → Facts
facts_in t body budget = record {
  registers = kinds_in t;
  single = single_in t;
  uses = uses_in t;
  const = const_at t;
  konst = konst_at t;
  body = body;
  budget = budget;
}
