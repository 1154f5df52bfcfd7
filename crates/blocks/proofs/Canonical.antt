-- The blocks of a code of right records hold the records that their instructions are written as.
use Prim.Native.Nat.{ℕ, suc, ◌-◌, ◌/◌, ◌<◌}
use native.Mathlib.Omega.{arith}
use mathlib.Core.Path.{◌≡◌, refl, sym, ap, ◌∙◌}
use mathlib.Core.Bool.{true}
use mathlib.Core.List.{List, [], ◌∷◌, map}
use lib.ListN.{length, get_or, take, drop}
use Rattle.std.proofs.lemmas.List.{take-map, drop-map}
use Rattle.records.specs.declared.Record.{Record}
use Rattle.records.specs.Record.{records_of, record_at, blank}
use Rattle.records.specs.Kinds.{right}
use Rattle.records.proofs.Laws.{length_records}
use Rattle.put_record.specs.Store.{Bytes}
use Rattle.put_record.proofs.Laws.{fits-at}
use Rattle.read.specs.Structure.{code_of as recordsOfBlock}
use Rattle.codec.specs.Codec.{code_of, record_of}
use Rattle.codec.proofs.Laws.{write_back}
use Rattle.blocks.specs.Blocks.{Canonical}

again : (rs : List Record) → ((j : ℕ) → j < length rs → record_of (code_of (get_or rs j blank)) ≡ get_or rs j blank)
    → map record_of (map code_of rs) ≡ rs
again [] h = refl
again (r ∷ rs) h =
    ap (λ (x : Record). x ∷ map record_of (map code_of rs)) (h 0 (omega arith))
    ∙ ap (λ (l : List Record). r ∷ l) (again rs (λ j i. h (suc j) (omega arith)))

map-part : {A B : Type 0} (f : A → B) (n s : ℕ) (l : List A) → map f (take n (drop s l)) ≡ take n (drop s (map f l))
map-part f n s l = sym (ap (take n) (drop-map f s l) ∙ take-map f n (drop s l))

module _ (c : List Record) (h : map record_of (map code_of c) ≡ c) where
  each : (rs : List Record) → map (recordsOfBlock c) rs ≡ map (map record_of) (map (map code_of) (map (recordsOfBlock c) rs))
  each [] = refl
  each (r ∷ rs) =
      let n = r.p2 - r.p1 in
      let e = ap (map record_of) (map-part code_of n r.p1 c)
      ∙ map-part record_of n r.p1 (map code_of c)
      ∙ ap (λ (l : List Record). take n (drop r.p1 l)) h in
      ap (λ (l : List Record). l ∷ map (recordsOfBlock c) rs) (sym e)
      ∙ ap (λ (l : List (List Record)). map record_of (map code_of (recordsOfBlock c r)) ∷ l) (each rs)

pub right-canonical : (code table : List ℕ) → Bytes code
    → ((k : ℕ) → k < length code / 32 → (right (record_at code k) ≡ true) × ((record_at code k).class ≡ 4)) → Canonical code table
right-canonical code table b h =
    let n = length_records code in
    each (records_of code)
    (again (records_of code) (λ j i. let w = h j (omega arith) in write_back (record_at code j) w.0 w.1 (fits-at code j b)))
    (records_of table)
