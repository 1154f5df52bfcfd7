-- The law of a pass over blocks that are written one after the other: it leaves what `slice_tests` makes of them.
use Rattle.std.proofs.Common.{ℕ, ◌+◌, ◌-◌, ◌/◌, ◌≡◌, ◌<◌, min, List, [], ◌∷◌, ◌++◌, map, set, length, get_or, Bool, true, false, ◌||◌}
use Rattle.std.proofs.Common.{Option, None, Some, refl, sym, ap, subst, ◌∙◌, arith, append_assoc, length-append}
use Rattle.std.proofs.lemmas.List.{map-set, map-append, length-map, set_at, get_or_at}
use Rattle.records.specs.declared.Record.{Record}
use Rattle.records.specs.Record.{records_of, record_at, blank}
use Rattle.records.proofs.Laws.{length_records}
use Rattle.put_record.specs.Store.{Bytes, put_of}
use Rattle.put_record.proofs.Laws.{put_records, put-length}
use Rattle.inst.specs.declared.Code.{Code}
use Rattle.codec.specs.Codec.{code_of, record_of, InRange}
use Rattle.codec.proofs.Laws.{read_back, written-fits}
use Rattle.procedure.specs.Lists.{any_of, joined}
use Rattle.blocks.proofs.Bytes.{put-bytes}
use Rattle.steps.specs.Write.{block_records}
use Rattle.steps.specs.Slice.{Lengths, no_lengths, some, Test, rewritten_by, after, test_of, tests_from, sliced_from, tests_in, sliced_in, some_test}
use Rattle.steps.proofs.Sliced.{sliced-length}
use Rattle.round_trips.specs.WellFormed.{All}
use Rattle.slice.specs.Sliced.{Pass, start, put_by, passed, passed_from, passed_blocks}

or_assoc : (a b c : Bool) → ((a || b) || c) ≡ (a || (b || c))
or_assoc true b c = refl
or_assoc false b c = refl

or_none : (a : Bool) → (a || false) ≡ a
or_none true = refl
or_none false = refl

-- the bytes of a pass, n of them, hold some code, and a Cmp was rewritten or not
pub record Holding (n : ℕ) (z : Pass) (c : List Code) (t : Bool) : Type 0 where
  pub bytes : Bytes z.code
  pub long : length z.code ≡ n
  pub holds : records_of z.code ≡ map record_of c
  pub any : z.any ≡ t

-- the record of x, with pre before it
module _ (pre : List Code) (x : Code) (rest : List Code) (b : List ℕ) (bytes : Bytes b) (e : records_of b ≡ map record_of (pre ++ x ∷ rest)) where
  parted : map record_of (pre ++ x ∷ rest) ≡ map record_of pre ++ record_of x ∷ map record_of rest
  parted = map-append record_of pre (x ∷ rest)

  at : record_at b (length pre) ≡ record_of x
  at =
      ap (λ (rs : List Record). get_or rs (length pre) blank) (e ∙ parted)
      ∙ get_or_at (map record_of pre) (record_of x) (map record_of rest) blank (length pre) (length-map pre record_of)

  pub read_at : InRange x → code_of (record_at b (length pre)) ≡ x
  read_at r = ap code_of at ∙ read_back x r

  within : length pre < length b / 32
  within =
      let n = length_records b in
      let l = ap length e ∙ length-map (pre ++ x ∷ rest) record_of ∙ length-append pre (x ∷ rest) in
      omega arith

  -- and once it is rewritten
  pub holds_put : InRange x → (t : Option Test) → InRange (rewritten_by t x)
      → records_of (put_by t b (length pre)) ≡ map record_of (pre ++ rewritten_by t x ∷ rest)
  holds_put r None f = e
  holds_put r (Some t) f =
      let y = rewritten_by (Some t) x in
      ap (λ (c : Code). records_of (put_of b (length pre) (record_of (rewritten_by (Some t) c)))) (read_at r)
      ∙ put_records b (length pre) (record_of y) within (written-fits y f)
      ∙ ap (λ (rs : List Record). set rs (length pre) (record_of y)) e
      ∙ sym (map-set record_of (pre ++ x ∷ rest) (length pre) y)
      ∙ ap (map record_of) (set_at pre x rest y (length pre) refl)

  pub put_long : (t : Option Test) → length (put_by t b (length pre)) ≡ length b
  put_long None = refl
  put_long (Some t) = put-length b (length pre) _

  pub bytes_put : (t : Option Test) → Bytes (put_by t b (length pre))
  bytes_put None = bytes
  bytes_put (Some t) = put-bytes b (length pre) _ bytes

module _ (kc : ℕ → Option ℕ) (ops : List ℕ) where
  -- record k, whose instruction is x
  pass-at : (k : ℕ) (b : List ℕ) (any : Bool) (l : Lengths) (x : Code) → code_of (record_at b k) ≡ x
      → passed kc ops k (record { code = b; any = any; known = l })
      ≡ record { code = put_by (test_of kc ops l x) b k; any = any || some (test_of kc ops l x); known = after kc ops l x.inst }
  pass-at k b any l x e =
      let f : Code → Pass = λ y. record {
        code = put_by (test_of kc ops l y) b k;
        any = any || some (test_of kc ops l y);
        known = after kc ops l y.inst;
      } in
      ap f e

  -- a block, with pre before it
  pub block_holds : (pre c rest : List Code) (b : List ℕ) (any : Bool) (l : Lengths) → Bytes b
      → records_of b ≡ map record_of (pre ++ (c ++ rest))
      → All InRange c → All InRange (sliced_from kc ops l c)
      → Holding (length b) (passed_from kc ops (length c) (length pre) (record { code = b; any = any; known = l }))
      (pre ++ (sliced_from kc ops l c ++ rest))
      (any || any_of some (tests_from kc ops l c))
  unfolding passed_from sliced_from tests_from any_of
  block_holds pre [] rest b any l h e r f = record { bytes = h; long = refl; holds = e; any = sym (or_none any) }
  block_holds pre (x ∷ c) rest b any l h e r f =
      let t = test_of kc ops l x in
      let y = rewritten_by t x in
      let s = sliced_from kc ops (after kc ops l x.inst) c in
      let is = pass-at (length pre) b any l x (read_at pre x (c ++ rest) b h e r.0) in
      let pre' : List Code = pre ++ y ∷ [] in
      let long : length pre' ≡ length pre + 1 = length-append pre (y ∷ []) in
      let next = block_holds pre' c rest (put_by t b (length pre)) (any || some t) (after kc ops l x.inst)
      (bytes_put pre x (c ++ rest) b h e t)
      (holds_put pre x (c ++ rest) b h e r.0 t f.0 ∙ ap (map record_of) (sym (append_assoc pre (y ∷ []) (c ++ rest))))
      r.1 f.1 in
      let there = rw (put_long pre x (c ++ rest) b h e t, long, append_assoc pre (y ∷ []) (s ++ rest), or_assoc any (some t) _) at next in
      let to : Pass → Type 0 = λ z. Holding (length b) (passed_from kc ops (length c) (length pre + 1) z)
      (pre ++ (y ∷ s ++ rest))
      (any || (some t || any_of some (tests_from kc ops (after kc ops l x.inst) c))) in
      subst to (sym is) there

  -- some blocks, with pre before them
  pub blocks_hold : (pre : List Code) (P : List (List Code)) (b : List ℕ) (any : Bool) → Bytes b
      → records_of b ≡ map record_of (pre ++ joined P)
      → All (All InRange) P → All (All InRange) (sliced_in kc ops P)
      → Holding (length b) (passed_blocks kc ops (block_records (length pre) P) (start b any)) (pre ++ joined (sliced_in kc ops P))
      (any || some_test (tests_in kc ops P))
  unfolding passed_blocks block_records some_test any_of
  blocks_hold pre [] b any h e r f = record { bytes = h; long = refl; holds = e; any = sym (or_none any) }
  blocks_hold pre (c ∷ P) b any h e r f =
      let s = sliced_from kc ops no_lengths c in
      let pre' : List Code = pre ++ s in
      let n = length_records b in
      let whole = ap length e ∙ length-map (pre ++ (c ++ joined P)) record_of ∙ length-append pre (c ++ joined P) in
      let more = length-append c (joined P) in
      let m : min (length pre + length c) (length b / 32) - length pre ≡ length c = omega arith in
      let long : length pre' ≡ length pre + length c = length-append pre s ∙ ap (λ (n : ℕ). length pre + n) (sliced-length kc ops no_lengths c) in
      let one = block_holds pre c (joined P) b false no_lengths h e r.0 f.0 in
      let z = passed_from kc ops (length c) (length pre) (start b false) in
      let next = blocks_hold pre' P z.code (any || z.any) one.bytes (one.holds ∙ ap (map record_of) (sym (append_assoc pre s (joined P)))) r.1 f.1 in
      let there = rw (one.long, long, append_assoc pre s (joined (sliced_in kc ops P))) at next in
      let T = any_of some (tests_from kc ops no_lengths c) in
      let rest = some_test (tests_in kc ops P) in
      let after_one : Pass → Bool → Type 0 = λ z t. Holding (length b) (passed_blocks kc ops (block_records (length pre + length c) P)
      (start z.code (any || z.any))) (pre ++ (s ++ joined (sliced_in kc ops P))) t in
      let told = ap (λ (t : Bool). (any || t) || rest) one.any ∙ or_assoc any T rest in
      let is = ap (λ (m : ℕ). passed_from kc ops m (length pre) (start b false)) m in
      subst (λ (w : Pass). after_one w (any || (T || rest))) (sym is) (subst (after_one z) told there)
