-- Document 01, "File": which places the records of each class and kind list, and when a record is valid by itself.
use Rattle.std.specs.Prelude.{ℕ, List, [], ◌∷◌, Bool, true, ◌&&◌, ◌||◌, ltb, eqb, get_or}
use Rattle.records.specs.declared.Record.{Record}

-- what one of the places p1..p6 holds
pub data Place : Type 0 where
  unused : Place
  number : Place
  small : Place
  register : Place
  block : Place
  table : Place
  -- the start of a list of operands, whose length is in the next place
  list : Place

-- "8..31 six 32-bit fields p1..p6"
abbrev pub fields : Record → List ℕ
fields r = r.p1 ∷ r.p2 ∷ r.p3 ∷ r.p4 ∷ r.p5 ∷ r.p6 ∷ []

-- "`Up`, `Pkg` and `Const` carry a number"; Up's number is "at most 255"
abbrev pub space_number : ℕ → Place
space_number op = get_or (unused ∷ small ∷ unused ∷ number ∷ number ∷ []) op unused

-- "op 1 with dst", "op 1 with v"
abbrev pub optional : ℕ → Place
optional op = get_or (unused ∷ []) op register

-- "Class 4, instruction": the places of each kind, for its op
abbrev pub instruction_places : ℕ → List (List Place)
instruction_places op =
    -- 0 Const dst, v (low, high)
    (register ∷ number ∷ number ∷ [])
    -- 1 ConstF likewise
    ∷ (register ∷ number ∷ number ∷ [])
    -- 2 Move dst src
    ∷ (register ∷ register ∷ [])
    -- 3 AddrOf dst, space number, off
    ∷ (register ∷ space_number op ∷ number ∷ [])
    -- 4 Select dst c a b
    ∷ (register ∷ register ∷ register ∷ register ∷ [])
    -- 5 Cmp dst a b
    ∷ (register ∷ register ∷ register ∷ [])
    -- 6 Bool dst a b
    ∷ (register ∷ register ∷ register ∷ [])
    -- 7 Bin dst a b
    ∷ (register ∷ register ∷ register ∷ [])
    -- 8 BinRange dst a b lo hi what
    ∷ (register ∷ register ∷ register ∷ register ∷ register ∷ number ∷ [])
    -- 9 Load dst addr
    ∷ (register ∷ register ∷ [])
    -- 10 Store addr src
    ∷ (register ∷ register ∷ [])
    -- 11 Check v lo hi what
    ∷ (register ∷ register ∷ register ∷ number ∷ [])
    -- 12 MakeDope at, list start, length
    ∷ (register ∷ list ∷ number ∷ [])
    -- 13 DopeLen dst dope dim
    ∷ (register ∷ register ∷ small ∷ [])
    -- 14 BoundsLen dst left right dir
    ∷ (register ∷ register ∷ register ∷ register ∷ [])
    -- 15 Alloc dst size
    ∷ (register ∷ register ∷ [])
    -- 16 TakeBounds left right dir
    ∷ (register ∷ register ∷ register ∷ [])
    -- 17 CallNative native, list start, length, dst
    ∷ (number ∷ list ∷ number ∷ optional op ∷ [])
    -- 18 Br to
    ∷ (block ∷ [])
    -- 19 CondBr c t f
    ∷ (register ∷ block ∷ block ∷ [])
    -- 20 Case v table
    ∷ (register ∷ table ∷ [])
    -- 21 Ret v
    ∷ (optional op ∷ [])
    -- 22 Unreachable what
    ∷ (number ∷ [])
    -- 23 Stmt
    ∷ []
    ∷ []

-- "Arm: p1 table, p2-3 low, p4-5 high, p6 target; kind 1 is the default, low and high zero."
abbrev pub arm_places : List (List Place)
arm_places =
    (number ∷ number ∷ number ∷ number ∷ number ∷ block ∷ [])
    ∷ (number ∷ unused ∷ unused ∷ unused ∷ unused ∷ block ∷ [])
    ∷ []

-- the places of a class, kind and op: none of a register, a block's start and end, a body's block, an operand's register
abbrev pub places : ℕ → ℕ → ℕ → List Place
places class kind op =
    get_or
    ([]
    ∷ []
    ∷ (number ∷ number ∷ [])
    ∷ (block ∷ [])
    ∷ get_or (instruction_places op) kind []
    ∷ (register ∷ [])
    ∷ get_or arm_places kind []
    ∷ [])
    class
    []

-- how many kinds each class has: registers "0 I64, 1 F64, 2 Ptr, 3 Sig, 4 Handle", instructions 0 to 23, arms with the default
abbrev pub kind_count : ℕ → ℕ
kind_count class = get_or (0 ∷ 5 ∷ 1 ∷ 1 ∷ 24 ∷ 1 ∷ 2 ∷ []) class 0

-- "Ops count from 0 in `inst.rs`'s order": how many ops each kind of instruction has, 1 if it has none
abbrev pub instruction_ops : ℕ → ℕ
instruction_ops kind =
    get_or (1 ∷ 1 ∷ 1 ∷ 6 ∷ 1 ∷ 6 ∷ 4 ∷ 7 ∷ 7 ∷ 4 ∷ 4 ∷ 5 ∷ 1 ∷ 1 ∷ 1 ∷ 1 ∷ 1 ∷ 2 ∷ 1 ∷ 1 ∷ 1 ∷ 2 ∷ 1 ∷ 1 ∷ []) kind 0

abbrev pub op_count : ℕ → ℕ → ℕ
op_count class kind = get_or (1 ∷ 1 ∷ 1 ∷ 1 ∷ instruction_ops kind ∷ 1 ∷ 1 ∷ []) class 1

-- "Unused places are zero"; "dim and Up's number are at most 255"
abbrev pub fit : Place → ℕ → Bool
fit unused p = eqb p 0
fit number p = true
fit small p = ltb p 256
fit register p = true
fit block p = true
fit table p = true
fit list p = true

abbrev pub zeros : List ℕ → Bool
zeros [] = true
zeros (p ∷ ps) = eqb p 0 && zeros ps

abbrev pub all_fit : List Place → List ℕ → Bool
all_fit [] ps = zeros ps
all_fit (x ∷ xs) [] = true
all_fit (x ∷ xs) (p ∷ ps) = fit x p && all_fit xs ps

-- "only instructions have a statement"
abbrev pub statement_fits : ℕ → ℕ → Bool
statement_fits class stmt = eqb class 4 || eqb stmt 0

-- a record that isn't wrong in itself
unfoldable pub right : Record → Bool
right r =
    ltb r.kind (kind_count r.class)
    && (ltb r.op (op_count r.class r.kind)
    && (eqb r.zero 0
    && (statement_fits r.class r.stmt
    && all_fit (places r.class r.kind r.op) (fields r))))
