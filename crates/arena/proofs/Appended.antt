-- Where the blocks lie apart and block k is the last, some instructions more stand at its end; the other blocks stay.
use Prim.Native.Nat.{ℕ, ◌+◌, ◌/◌, ◌≤◌, ◌<◌, min}
use native.Mathlib.Omega.{arith}
use mathlib.Core.Path.{◌≡◌, sym, ap, ◌∙◌}
use mathlib.Core.Bool.{true}
use mathlib.Core.List.{List, [], ◌∷◌, ◌++◌, map, append-nil}
use borrow.Author.Tests.{leb-true, le-leb}
use lib.ListN.{length, get_or, set}
use lib.Seq.{set-get_or, append_snoc, get_or-set_same}
use Rattle.records.specs.declared.Record.{Record}
use Rattle.records.specs.Record.{record_at}
use Rattle.inst.specs.declared.Code.{Code}
use Rattle.codec.specs.Codec.{record_of, InRange}
use Rattle.blocks.specs.Blocks.{block_records_in, blocks_of}
use Rattle.blocks.proofs.Parts.{length-table}
use Rattle.arena.specs.Arena.{Arena, room, push, push_all}
use Rattle.arena.proofs.Moved.{Sound, Last}
use Rattle.arena.proofs.Grown.{Grown, grown_then, grown-block, pushed-last, pushed-top, pushed-work, pushed-table}

-- each of some instructions is in range
abbrev pub AllInRange : List Code → Type 0
AllInRange [] = Unit {0}
AllInRange (c ∷ cs) = InRange c × AllInRange cs

grown_record : {s t : Arena} {k : ℕ} {v : List Record} {b : List Code} → Grown s t k v b → k < length s.table / 32
    → get_or (block_records_in t.work t.table) k [] ≡ v
grown_record {s} {t} {k} {v} g h =
    ap (λ (R : List (List Record)). get_or R k []) g.records
    ∙ get_or-set_same (block_records_in s.work s.table) k v [] (rw (length-table s.work s.table) h)

room_at : (work : List ℕ) (top n : ℕ) → room work top n ≡ true → top + n ≤ min (length work / 32) 4294967295
room_at work top n e = leb-true (top + n) (min (length work / 32) 4294967295) e

pub appended : (k : ℕ) (cs : List Code) (s : Arena) → Sound s → k < length s.table / 32 → Last (record_at s.table k) s.top
    → room s.work s.top (length cs) ≡ true → AllInRange cs
    → Grown s (push_all k cs s) k
    (get_or (block_records_in s.work s.table) k [] ++ map record_of cs)
    (get_or (blocks_of s.work s.table) k [] ++ cs)
unfolding push_all
appended k [] s w h l free a =
    let R = block_records_in s.work s.table in
    let B = blocks_of s.work s.table in
    record {
      records = sym (ap (set R k) (append-nil (get_or R k [])) ∙ set-get_or R k []);
      codes = sym (ap (set B k) (append-nil (get_or B k [])) ∙ set-get_or B k []);
      sound = w;
      last = l;
    }
appended k (c ∷ cs) s w h l free a =
    let R = block_records_in s.work s.table in
    let B = blocks_of s.work s.table in
    let t = push k c s in
    let i = room_at s.work s.top (length (c ∷ cs)) free in
    let one : room s.work s.top 1 ≡ true = le-leb (s.top + 1) (min (length s.work / 32) 4294967295) (omega arith) in
    let f = pushed-last s w k h l one c a.0 in
    let x = pushed-top s w k h l one c a.0 in
    let y = pushed-work s w k h l one c a.0 in
    let z = pushed-table s w k h l one c a.0 in
    let rest : room t.work t.top (length cs) ≡ true =
    rw (x, y) (le-leb (s.top + 1 + length cs) (min (length s.work / 32) 4294967295) (omega arith)) in
    let g = appended k cs t f.sound (rw z h) f.last rest a.1 in
    let u = grown_then f g in
    let v = ap (λ (r : List Record). r ++ map record_of cs) (grown_record f h) ∙ append_snoc (get_or R k []) (record_of c) (map record_of cs) in
    let b = ap (λ (r : List Code). r ++ cs) (grown-block f h) ∙ append_snoc (get_or B k []) c cs in
    record {
      records = u.records ∙ ap (set R k) v;
      codes = u.codes ∙ ap (set B k) b;
      sound = u.sound;
      last = u.last;
    }
