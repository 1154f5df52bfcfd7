-- What writes each register, and what the table keeps of it to check the reads by.
use Rattle.std.specs.Prelude.{ℕ, List, [], ◌∷◌, cond, eqb, leb, get_or, set}
use Rattle.inst.specs.Inst.{kind_of}
use Rattle.inst.specs.Kinds.{number_of, kind_at}
use Rattle.inst.specs.declared.Kind.{Kind}
use Rattle.records.specs.Record.{record_at}
use Rattle.roles.specs.Roles.{defs_of}
use Rattle.tidy.specs.declared.writers.Writer.{Writer}
use Rattle.tidy.specs.declared.writers.Writer.TheVariants as w
use Rattle.tidy.specs.Tidy.{Placed, Field, fields_at}
use Rattle.tidy.specs.Work.Parts.{placed_at}

-- what writes a register: nothing, one register field of an instruction, or more
pub data WrittenBy : Type 0 where
  Nothing : WrittenBy
  One : Kind → ℕ → ℕ → WrittenBy
  More : WrittenBy

abbrev pub one_of : Placed → WrittenBy
one_of x = One (kind_at (kind_of x.inst)) x.block x.place

-- one writer more
abbrev pub joined : WrittenBy → WrittenBy → WrittenBy
joined Nothing v = v
joined (One kind block place) v = More
joined More v = More

unfoldable pub note : List WrittenBy → ℕ → WrittenBy → List WrittenBy
note us r v = set us r (joined (get_or us r Nothing) v)

unfoldable pub notes : List WrittenBy → WrittenBy → List ℕ → List WrittenBy
notes us v [] = us
notes us v (r ∷ rs) = notes (note us r v) v rs

unfoldable pub noted : List WrittenBy → List Field → List WrittenBy
noted us [] = us
noted us (f ∷ fs) = noted (note us f.reg (one_of f.at)) fs

-- an instruction as the one writer of a register: a Const or ConstF, an AddrOf, or any other
abbrev pub one_at : ℕ → ℕ → ℕ → Writer
one_at kind block place = cond (leb kind 1) w.Free (cond (eqb kind 3) (w.Address block place) (w.Other block place))

-- the table's entry for what writes a register
abbrev pub held : WrittenBy → Writer
held Nothing = w.Nothing
held (One kind block place) = one_at (number_of kind) block place
held More = w.Free

abbrev pub entry_of : Placed → Writer
entry_of x = one_at (kind_of x.inst) x.block x.place

-- an entry after one writer more
abbrev pub joined_entry : Writer → Writer → Writer
joined_entry w.Nothing v = v
joined_entry w.Free v = w.Free
joined_entry (w.Address block place) v = w.Free
joined_entry (w.Other block place) v = w.Free

unfoldable pub enter : List Writer → ℕ → Writer → List Writer
enter ws r v = set ws r (joined_entry (get_or ws r w.Nothing) v)

unfoldable pub enter_all : List Writer → Writer → List ℕ → List Writer
enter_all ws v [] = ws
enter_all ws v (r ∷ rs) = enter_all (enter ws r v) v rs

unfoldable pub entered : List Writer → List Field → List Writer
entered ws [] = ws
entered ws (f ∷ fs) = entered (enter ws f.reg (entry_of f.at)) fs

-- what the record at a place writes, as an instruction of a block
abbrev pub written_at : List ℕ → ℕ → ℕ → ℕ → List Field
written_at b at block place =
    let x = placed_at block place (record_at b at) in
    fields_at x (defs_of x.inst)
