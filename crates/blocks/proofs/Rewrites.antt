-- Laws of a block without its last record, and of a rewritten last record.
use Prim.Native.Nat.{ℕ, zero, suc, ◌-◌, ◌/◌, ◌≤◌, ◌<◌}
use native.Mathlib.Omega.{arith}
use mathlib.Core.Path.{◌≡◌, refl, sym, ap, ◌∙◌}
use mathlib.Core.Bool.{true}
use mathlib.Core.Logic.{⊎_elim}
use Rattle.general.proofs.Numbers.{order}
use mathlib.Core.List.{List, [], ◌∷◌, map}
use borrow.Author.Tests.{lt-ltb, le-ltb}
use lib.ListN.{length, get_or, take, set}
use Rattle.std.proofs.lemmas.List.{take-map}
use Rattle.records.specs.declared.Record.{Record}
use Rattle.records.specs.Record.{records_of, record_at}
use Rattle.put_record.specs.Store.{put_of}
use Rattle.inst.specs.declared.Code.{Code}
use Rattle.inst.specs.declared.Inst.{Inst}
use Rattle.codec.specs.Codec.{code_of, record_of, in_range, rewritten_record}
use Rattle.codec.proofs.Laws.{rewritten_code}
use Rattle.procedure.specs.Procedure.{codes_of}
use Rattle.ends.specs.Ends.{front, with_end}
use Rattle.ends.proofs.Laws.{length_codes}
use Rattle.blocks.specs.Rewrite.{front_bytes, end_rewritten, last_by}
use Rattle.blocks.proofs.Parts.{records_part}

module _ (code : List ℕ) (r : Record) (i : Inst) where
  pub end_rewritten_lem : r.p1 < r.p2 → put_of code (r.p2 - 1) (rewritten_record (record_at code (r.p2 - 1)) i) ≡ end_rewritten code r i
  unfolding end_rewritten
  end_rewritten_lem h = sym (rw (lt-ltb r.p1 r.p2 h))

  pub end_kept : r.p2 ≤ r.p1 → code ≡ end_rewritten code r i
  unfolding end_rewritten
  end_kept h = sym (rw (le-ltb r.p1 r.p2 h))

  pub rewritten_last :
      {new : List ℕ}
      → (r.p1 < r.p2 → (x : Record) × (x ≡ rewritten_record (record_at code (r.p2 - 1)) i) × (new ≡ put_of code (r.p2 - 1) x))
      → (r.p2 ≤ r.p1 → new ≡ code)
      → new ≡ end_rewritten code r i
  rewritten_last {new} some none =
      ⊎_elim
      (λ (h : r.p1 < r.p2). let p = some h in p.2 ∙ ap (put_of code (r.p2 - 1)) p.1 ∙ end_rewritten_lem h)
      (λ (h : r.p2 ≤ r.p1). none h ∙ end_kept h)
      (order r.p1 r.p2)

-- the records of a block without its last
pub front_records_lem : (code : List ℕ) → records_of (front_bytes code) ≡ take (length code / 32 - 1) (records_of code)
front_records_lem code = records_part code 0 (length code / 32 - 1) (omega arith)

-- a block without its last is one shorter
pub front-take : (c : List Code) → take (length c - 1) c ≡ front c
unfolding front
front-take [] = refl
front-take (x ∷ []) = refl
front-take (x ∷ (y ∷ c)) =
    let e : length (x ∷ y ∷ c) - 1 ≡ suc (length (y ∷ c) - 1) = omega arith in
    ap (λ (n : ℕ). take n (x ∷ y ∷ c)) e ∙ ap (λ (l : List Code). x ∷ l) (front-take (y ∷ c))

pub front_codes : (code : List ℕ) → codes_of (front_bytes code) ≡ front (codes_of code)
front_codes code =
    ap (map code_of) (front_records_lem code)
    ∙ sym (take-map code_of (length code / 32 - 1) (records_of code))
    ∙ ap (λ (n : ℕ). take (n - 1) (codes_of code)) (sym (length_codes code))
    ∙ front-take (codes_of code)

-- the last element exchanged is a store at the last place
pub last_set : {A : Type 0} (f : A → A) (l : List A) (n : ℕ) (d : A) → length l ≡ suc n → last_by f l ≡ set l n (f (get_or l n d))
unfolding last_by
last_set f [] n d e = absurd (omega arith)
last_set f (x ∷ []) zero d e = refl
last_set f (x ∷ []) (suc n) d e = absurd (omega arith)
last_set f (x ∷ (y ∷ l)) zero d e = absurd (omega arith)
last_set f (x ∷ (y ∷ l)) (suc n) d e = ap (λ (r : List _). x ∷ r) (last_set f (y ∷ l) n d (omega arith))

module _ (i : Inst) (h : in_range i ≡ true) where
  pub last_codes : (rs : List Record) → map code_of (last_by (λ r. rewritten_record r i) rs) ≡ with_end i (map code_of rs)
  unfolding last_by with_end
  last_codes [] = refl
  last_codes (r ∷ []) = ap (λ (x : Code). x ∷ []) (rewritten_code r i h)
  last_codes (r ∷ (q ∷ rs)) = ap (λ (l : List Code). code_of r ∷ l) (last_codes (q ∷ rs))

-- the record of an instruction rewritten is the record of the rewritten instruction
pub last_records : (i : Inst) (c : List Code) → last_by (λ r. rewritten_record r i) (map record_of c) ≡ map record_of (with_end i c)
unfolding last_by with_end
last_records i [] = refl
last_records i (x ∷ []) = refl
last_records i (x ∷ (y ∷ c)) = ap (λ (l : List Record). record_of x ∷ l) (last_records i (y ∷ c))
