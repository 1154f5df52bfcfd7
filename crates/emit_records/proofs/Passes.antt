-- Laws of the passes over the blocks: one block more, and what the passes write as steps defines it.
use Prim.Native.Nat.{ℕ, suc, ◌+◌, ◌-◌, ◌/◌, ◌≤◌, ◌<◌}
use native.Mathlib.Numerals.{add-one}
use native.Mathlib.Omega.{arith}
use mathlib.Core.Path.{◌≡◌, refl, sym, ap, ◌∙◌}
use mathlib.Core.Bool.{Bool, true, false, cond, true≢false}
use mathlib.Core.List.{List, [], ◌∷◌, ◌++◌, map, map-append}
use mathlib.Core.Logic.{◌⊎◌, inl, inr}
use Rattle.std.proofs.Common.{Option}
use borrow.Author.Tests.{lt-leb, le-leb}
use lib.Dec.{leb, ltb}
use lib.ListN.{length, get_or, drop, length-drop, length-map, drop_of_length-le, get_or-map, get_or-eq_default}
use lib.Seq.{drop-cons}
use Rattle.general.proofs.Numbers.{order}
use Rattle.records.specs.declared.Record.{Record}
use Rattle.put_record.specs.Store.{put_of}
use Rattle.put_record.proofs.Laws.{put-length}
use Rattle.inst.specs.declared.Code.{Code}
use Rattle.codec.specs.Codec.{code_of, record_of, block_of}
use Rattle.procedure.specs.Lists.{joined}
use Rattle.facts.specs.Storage.{facts_in}
use Rattle.steps.specs.Emit.{is_last, stays, rescues, rescued_of, empty_from, emptied}
use Rattle.emit_records.specs.Emitted.{stays_by, branch_record, rescued_in, Place, place, put, puts, codes_in, stays_at, lost_at, new_at, rescues_in, empty_in}
use Rattle.emit_records.proofs.Laws.{stays-told, rescued_codes, put_in}

pub puts-append : (xs ys : List Record) (s : Place) → puts (xs ++ ys) s ≡ puts ys (puts xs s)
unfolding puts
puts-append [] ys s = refl
puts-append (x ∷ xs) ys s = puts-append xs ys _

last-length : (P : List (List Code)) → is_last P ≡ leb (length P) 0
last-length [] = sym (le-leb 0 0 (omega arith))
last-length (c ∷ cs) = sym (lt-leb (length (c ∷ cs)) 0 (omega arith))

-- only the last block has none after it
module _ (R : List (List Record)) (b : ℕ) (h : b < length R) where
  last-told : is_last (codes_in (drop (suc b) R)) ≡ leb (length (codes_in R) - 1) b
  last-told = last-length (codes_in (drop (suc b) R)) ∙ go (order (suc b) (length R))
    where
      go : (suc b < length R) ⊎ (length R ≤ suc b) → leb (length (codes_in (drop (suc b) R))) 0 ≡ leb (length (codes_in R) - 1) b
      go (inl i) =
          let x = length-map (drop (suc b) R) (map code_of) ∙ length-drop (suc b) R in
          let y = length-map R (map code_of) in
          lt-leb (length (codes_in (drop (suc b) R))) 0 (omega arith) ∙ sym (lt-leb (length (codes_in R) - 1) b (omega arith))
      go (inr i) =
          let x = length-map (drop (suc b) R) (map code_of) ∙ length-drop (suc b) R in
          let y = length-map R (map code_of) in
          le-leb (length (codes_in (drop (suc b) R))) 0 (omega arith) ∙ sym (le-leb (length (codes_in R) - 1) b (omega arith))

  module _ (marks : List Bool) where
    test : stays (get_or marks b true) (codes_in (drop (suc b) R)) (map code_of (get_or R b [])) ≡ stays_at marks (codes_in R) b
    test =
        let m = get_or marks b true in
        stays-told m (codes_in (drop (suc b) R)) (map code_of (get_or R b []))
        ∙ ap (λ (l : Bool). stays_by m l (map code_of (get_or R b []))) last-told
        ∙ ap (stays_by m (leb (length (codes_in R) - 1) b)) (sym (get_or-map (map code_of) R b []))

    marked : b < length marks → drop b marks ≡ get_or marks b true ∷ drop (suc b) marks
    marked i = drop-cons marks b true i

    block : drop b R ≡ get_or R b [] ∷ drop (suc b) R
    block = drop-cons R b [] h

-- a block that has no mark stays
unmarked : (marks : List Bool) (P : List (List Code)) (b : ℕ) → length marks ≤ b → stays_at marks P b ≡ true
unmarked marks P b h = rw (get_or-eq_default marks true h)

pub has_mark : (marks : List Bool) (P : List (List Code)) (b : ℕ) → stays_at marks P b ≡ false → b < length marks
has_mark marks P b e = go (order b (length marks))
  where
    go : (b < length marks) ⊎ (length marks ≤ b) → b < length marks
    go (inl h) = h
    go (inr h) = absurd (true≢false (sym (unmarked marks P b h) ∙ e))

rescues-unmarked : (facts : List ℕ) (R : List (List Record)) → rescues_in facts [] R ≡ []
unfolding rescues_in
rescues-unmarked facts [] = refl
rescues-unmarked facts (c ∷ cs) = refl

empty_unmarked : (b : ℕ) (R : List (List Record)) → empty_in b [] R ≡ R
unfolding empty_in
empty_unmarked b [] = refl
empty_unmarked b (c ∷ cs) = refl

-- one block more
module _ (marks : List Bool) (R : List (List Record)) (b : ℕ) where
  gone : length marks ≤ b → drop (suc b) marks ≡ []
  gone i = drop_of_length-le marks {i = suc b} (omega arith)

  module _ (facts : List ℕ) where
    abbrev lost : Bool → List Record
    lost t = cond t [] (rescued_in facts (get_or R b []))

    pub rescues-one : b < length R → rescues_in facts (drop b marks) (drop b R)
        ≡ lost_at facts marks R b ++ rescues_in facts (drop (b + 1) marks) (drop (b + 1) R)
    unfolding rescues_in
    rescues-one h = go (order b (length marks)) ∙ rw (add-one b)
      where
        go : (b < length marks) ⊎ (length marks ≤ b) → rescues_in facts (drop b marks) (drop b R)
            ≡ lost_at facts marks R b ++ rescues_in facts (drop (suc b) marks) (drop (suc b) R)
        go (inl i) =
            ap (λ (m : List Bool). rescues_in facts m (drop b R)) (marked R b h marks i)
            ∙ ap (rescues_in facts (get_or marks b true ∷ drop (suc b) marks)) (block R b h marks)
            ∙ ap (λ (t : Bool). lost t ++ rescues_in facts (drop (suc b) marks) (drop (suc b) R)) (test R b h marks)
        go (inr i) =
            ap (λ (m : List Bool). rescues_in facts m (drop b R)) (drop_of_length-le marks i)
            ∙ rescues-unmarked facts (drop b R)
            ∙ sym
            (ap (λ (t : Bool). lost t ++ rescues_in facts (drop (suc b) marks) (drop (suc b) R)) (unmarked marks (codes_in R) b i)
            ∙ ap (λ (m : List Bool). rescues_in facts m (drop (suc b) R)) (gone i)
            ∙ rescues-unmarked facts (drop (suc b) R))

    pub rescues-end : length R ≤ b → rescues_in facts (drop b marks) (drop b R) ≡ []
    unfolding rescues_in
    rescues-end h = ap (rescues_in facts (drop b marks)) (drop_of_length-le R h)

  abbrev new : Bool → List Record
  new t = cond t (get_or R b []) (branch_record (block_of (suc b)) (map code_of (get_or R b [])) ∷ [])

  pub empty_cons : b < length R → empty_in b (drop b marks) (drop b R)
      ≡ new_at marks R b ∷ empty_in (b + 1) (drop (b + 1) marks) (drop (b + 1) R)
  unfolding empty_in
  empty_cons h = go (order b (length marks)) ∙ rw (add-one b)
    where
      go : (b < length marks) ⊎ (length marks ≤ b) → empty_in b (drop b marks) (drop b R)
          ≡ new_at marks R b ∷ empty_in (suc b) (drop (suc b) marks) (drop (suc b) R)
      go (inl i) =
          ap (λ (m : List Bool). empty_in b m (drop b R)) (marked R b h marks i)
          ∙ ap (λ (r : List (List Record)). empty_in b (get_or marks b true ∷ drop (suc b) marks) r) (block R b h marks)
          ∙ ap (λ (t : Bool). new t ∷ empty_in (suc b) (drop (suc b) marks) (drop (suc b) R)) (test R b h marks)
      go (inr i) =
          ap (λ (m : List Bool). empty_in b m (drop b R)) (drop_of_length-le marks i)
          ∙ empty_unmarked b (drop b R)
          ∙ block R b h marks
          ∙ sym
          (ap (λ (t : Bool). new t ∷ empty_in (suc b) (drop (suc b) marks) (drop (suc b) R)) (unmarked marks (codes_in R) b i)
          ∙ ap (λ (m : List Bool). get_or R b [] ∷ empty_in (suc b) m (drop (suc b) R)) (gone i)
          ∙ ap (λ (r : List (List Record)). get_or R b [] ∷ r) (empty_unmarked (suc b) (drop (suc b) R)))

  pub empty_one : b < length R → joined (empty_in b (drop b marks) (drop b R))
      ≡ new_at marks R b ++ joined (empty_in (b + 1) (drop (b + 1) marks) (drop (b + 1) R))
  empty_one h = ap (λ (r : List (List Record)). joined r) (empty_cons h)

  pub empty_none : length R ≤ b → empty_in b (drop b marks) (drop b R) ≡ []
  unfolding empty_in
  empty_none h = ap (empty_in b (drop b marks)) (drop_of_length-le R h)

  pub empty_end : length R ≤ b → joined (empty_in b (drop b marks) (drop b R)) ≡ []
  empty_end h = ap (λ (r : List (List Record)). joined r) (empty_none h)

-- the rescued records hold the instructions that steps rescues
pub rescues_codes : (facts : List ℕ) (body : Option ℕ) (budget : ℕ) (marks : List Bool) (R : List (List Record))
    → map code_of (rescues_in facts marks R) ≡ rescues (facts_in facts body budget) marks (codes_in R)
unfolding rescues_in rescues
rescues_codes facts body budget marks [] = refl
rescues_codes facts body budget [] (c ∷ cs) = refl
rescues_codes facts body budget (m ∷ ms) (c ∷ cs) =
    map-append code_of (cond (stays m (codes_in cs) (map code_of c)) [] (rescued_in facts c)) (rescues_in facts ms cs)
    ∙ ap (λ (l : List Code). map code_of (cond (stays m (codes_in cs) (map code_of c)) [] (rescued_in facts c)) ++ l) (rescues_codes facts body budget ms cs)
    ∙ ap (λ (l : List Code). l ++ rescues (facts_in facts body budget) ms (codes_in cs)) (by (stays m (codes_in cs) (map code_of c)))
  where
    by : (b : Bool) → map code_of (cond b [] (rescued_in facts c)) ≡ cond b [] (rescued_of (facts_in facts body budget) (map code_of c))
    by true = refl
    by false = rescued_codes facts body budget c

-- the blocks that are written are the records of those that steps emits
pub empty_records : (b : ℕ) (marks : List Bool) (R : List (List Record)) → R ≡ map (map record_of) (codes_in R)
    → empty_in b marks R ≡ map (map record_of) (empty_from b marks (codes_in R))
unfolding empty_in empty_from
empty_records b marks [] e = refl
empty_records b [] (c ∷ cs) e = e
empty_records b (m ∷ ms) (c ∷ cs) e =
    let t = stays m (codes_in cs) (map code_of c) in
    ap (λ (l : List (List Record)). cond t c (map record_of (emptied b (map code_of c))) ∷ l)
    (empty_records (suc b) ms cs (ap (λ (l : List (List Record)). drop 1 l) e))
    ∙ ap (λ (l : List Record). l ∷ map (map record_of) (empty_from (suc b) ms (codes_in cs))) (by t)
  where
    by : (t : Bool) → cond t c (map record_of (emptied b (map code_of c))) ≡ map record_of (cond t (map code_of c) (emptied b (map code_of c)))
    by true = ap (λ (l : List (List Record)). get_or l 0 []) e
    by false = refl

-- where there is room, each record moves the place by one
pub puts-at : (rs : List Record) (s : Place) → s.at + length rs ≤ length s.bytes / 32 → (puts rs s).at ≡ s.at + length rs
unfolding puts
puts-at [] s h = omega arith
puts-at (r ∷ rs) s h =
    let p = sym (put_in s.bytes s.at r (omega arith)) in
    let l = put-length s.bytes s.at r in
    ap (λ (t : Place). (puts rs t).at) p ∙ puts-at rs (place (put_of s.bytes s.at r) (s.at + 1)) (rw l (omega arith)) ∙ omega arith

-- and how many bytes there are stays
put-size : (r : Record) (s : Place) → length (put r s).bytes ≡ length s.bytes
unfolding put
put-size r s = by (ltb s.at (length s.bytes / 32))
  where
    by : (b : Bool) → length (cond b (place (put_of s.bytes s.at r) (s.at + 1)) s).bytes ≡ length s.bytes
    by true = put-length s.bytes s.at r
    by false = refl

pub puts-length : (rs : List Record) (s : Place) → length (puts rs s).bytes ≡ length s.bytes
unfolding puts
puts-length [] s = refl
puts-length (r ∷ rs) s = puts-length rs (put r s) ∙ put-size r s
