-- Where the blocks lie apart and there is room, a hop over the storage is the definition's hop over the blocks.
use Prim.Native.Nat.{ℕ, ◌+◌, ◌-◌, ◌/◌, ◌≤◌, ◌<◌, ◌^◌}
use native.Mathlib.Omega.{arith}
use mathlib.Core.Path.{◌≡◌, refl, sym, ap, ◌∙◌}
use mathlib.Core.Bool.{Bool, true, false, ◌&&◌, cond, true≢false}
use mathlib.Core.List.{List, [], ◌++◌, map}
use Rattle.std.proofs.Common.{Option, None, Some}
use lib.Dec.{eqb, leb}
use lib.ListN.{length, get_or, take}
use lib.Seq.{length-take-le}
use Rattle.records.specs.Record.{record_at}
use Rattle.inst.specs.declared.Code.{Code}
use Rattle.ends.specs.Ends.{front}
use Rattle.blocks.specs.Blocks.{blocks_of, block_records_in}
use Rattle.codec.specs.Codec.{record_of}
use Rattle.steps.specs.Facts.{Facts}
use Rattle.steps.specs.Copy.{copy_of, kinds_of}
use Rattle.steps.specs.Note.{nothing, notes, source_of, value_of}
use Rattle.steps.specs.Thread.{Work, Hop, block_at, next_number, stops, appended, append_if, hop_br, hop_cond_br, onward}
use Rattle.facts.specs.Storage.{facts_in, kinds_in}
use Rattle.hop_cond_br.specs.declared.Turn.{Turn}
use Rattle.hop_cond_br.specs.declared.Turn.TheVariants as u
use Rattle.hop_cond_br.specs.Storage.{turned, before, arm_in, turn_if, decide_in, turned_in, work_in, hop_of}
use Rattle.hop_cond_br.proofs.Laws.{turned-hop}
use Rattle.arena.specs.Arena.{Arena, arena, room, to_end}
use Rattle.arena.proofs.Moved.{Sound, last_top}
use Rattle.arena.proofs.Grown.{Grown, front_records}
use Rattle.arena.proofs.Appended.{AllInRange}
use Rattle.hop_br.specs.Storage.{target_in, copy_in, given_in, kinds_put, fresh_to, cut, replaced}
use Rattle.hop_br.proofs.Blocks.{cut-top, replaced-block}
use Rattle.hop_br.proofs.Hop as j
use Rattle.thread.specs.Storage.{Store, store, Hopping, turned_at, append_in, hop_br_in, hop_cond_br_in}

-- what the definition sees of the storage
abbrev pub work_of : Store → Work
work_of s = record {
  blocks = blocks_of s.work s.table;
  kinds = take s.at.fresh s.kinds;
  grown = s.at.grown;
  edited = s.at.edited;
}

-- what follows a hop
abbrev pub goes : Hopping → (Work → Work) → Work
goes z rest = cond z.more (rest (work_of z.to)) (work_of z.to)

abbrev pub arena_of : Store → Arena
arena_of s = arena s.work s.table s.at.top

abbrev pub is_stay : Turn → Bool
is_stay u.Stay = true
is_stay u.Last = false
is_stay u.Next = false

-- a turn that stays has written nothing
module _ (table : List ℕ) (a : ℕ) (code : List ℕ) (body : Option ℕ) (c t e : ℕ) where
  stay_if : (z : Bool) (c t e : ℕ) → is_stay (turn_if table a z code c t e).turn ≡ true → (turn_if table a z code c t e).code ≡ code
  stay_if true c t e h = refl
  stay_if false c t e h = absurd (true≢false (sym h))

  stay-decide : (c' : ℕ) (o : Option ℕ) → is_stay (decide_in table a code body c t e c' o).turn ≡ true
      → (decide_in table a code body c t e c' o).code ≡ code
  stay-decide c' (Some v) h = absurd (true≢false (sym h))
  stay-decide c' None h =
      let t' = arm_in table a code body c' true t in
      let e' = arm_in table a code body c' false e in
      stay_if (eqb c' c && eqb t' t && eqb e' e) c' t' e' h

  pub stay-turned : (facts : List ℕ) (z : Bool)
      → is_stay (turned_in table a facts body code c t e z).turn ≡ true → (turned_in table a facts body code c t e z).code ≡ code
  unfolding turned_in
  stay-turned facts false h = refl
  stay-turned facts true h =
      let f = facts_in facts body 0 in
      let k = notes f nothing (before table a code) in
      stay-decide (source_of k c) (value_of f k (source_of k c)) h

by_turn : (s : Store) (z : Turn) (code : List ℕ) → (is_stay z ≡ true → code ≡ s.work) → (rest : Work → Work)
    → onward (hop_of z (work_in s.table code (take s.at.fresh s.kinds) s.at.grown true)) (work_of s) rest
    ≡ goes (turned_at s (turned code z)) rest
by_turn s u.Stay code h rest = ap (λ (b : List ℕ). work_of (store b s.table s.kinds s.at)) (sym (h refl))
by_turn s u.Last code h rest = refl
by_turn s u.Next code h rest = refl

module _ (facts : List ℕ) (body : Option ℕ) (budget known copy : ℕ) (s : Store) (a : ℕ) (w : Sound (arena_of s)) where
  -- CondBr c t f, with words for what is known before it
  pub cond_br_hop : (c t f : ℕ) → c < 2 ^ 32 → t < 2 ^ 32 → f < 2 ^ 32
      → (leb (length (before s.table a s.work)) (known / 2) && leb (length (before s.table a s.work)) (copy / 2)) ≡ true
      → (rest : Work → Work)
      → onward (hop_cond_br (facts_in facts body budget) (work_of s) a c t f) (work_of s) rest
      ≡ goes (hop_cond_br_in facts body budget known copy s a c t f) rest
  unfolding hop_cond_br_in
  cond_br_hop c t f hc ht hf enough rest =
      let z = turned_in s.table a facts body s.work c t f true in
      let e = turned-hop s.table s.work w.work-bytes a body c t f hc ht hf s.at.top w.apart w.fit
      (take s.at.fresh s.kinds) s.at.grown s.at.edited facts budget in
      ap (λ (h : Hop). onward h (work_of s) rest) e
      ∙ by_turn s z.turn z.code (stay-turned s.table a s.work body c t f facts true) rest
      ∙ ap (λ (b : Bool). goes (turned_at s (turned_in s.table a facts body s.work c t f b)) rest) (sym enough)

-- what a join asks: a block that holds code, and room for the copy once it is the last, for the new registers' kinds and their numbers
pub record Room (facts : List ℕ) (body : Option ℕ) (budget : ℕ) (s : Store) (a l : ℕ) : Type 0 where
  pub there : a < length s.table / 32
  pub holds : (record_at s.table a).p1 < (record_at s.table a).p2
  pub free : room s.work (last_top (record_at s.table a) s.at.top)
      (length (copy_in facts body budget s.at.fresh (target_in (arena_of s) l)) - 1) ≡ true
  pub range : AllInRange (copy_in facts body budget s.at.fresh (target_in (arena_of s) l))
  pub kinds : s.at.fresh + length (given_in facts body budget (target_in (arena_of s) l)) ≤ length s.kinds
  pub numbers : length (kinds_in facts) + (s.at.fresh + length (given_in facts body budget (target_in (arena_of s) l))) ≤ 65535

work-same : {P P' : List (List Code)} {k k' : List ℕ} {g g' : ℕ} → P ≡ P' → k ≡ k' → g ≡ g'
    → ◌≡◌ {A = Work} (record { blocks = P; kinds = k; grown = g; edited = true }) (record { blocks = P'; kinds = k'; grown = g'; edited = true })
work-same e f g = rw (e, f, g) refl

module _ (facts : List ℕ) (body : Option ℕ) (budget known copy : ℕ) (s : Store) (a l : ℕ) (w : Sound (arena_of s)) where
  abbrev f : Facts
  f = facts_in facts body budget

  abbrev pub new : List Code
  new = copy_in facts body budget s.at.fresh (target_in (arena_of s) l)

  abbrev given : List ℕ
  given = given_in facts body budget (target_in (arena_of s) l)

  module _ (r : Room facts body budget s a l) where
    pub join_grown : Grown (arena_of s) (replaced a new (arena_of s)) a
        (front_records (get_or (block_records_in s.work s.table) a []) ++ map record_of new)
        (front (get_or (blocks_of s.work s.table) a []) ++ new)
    join_grown = replaced-block (arena_of s) w a r.there r.holds new r.free r.range

    pub join_cut : (cut a (to_end a (arena_of s))).top + 1 ≤ last_top (record_at s.table a) s.at.top
    join_cut = cut-top (arena_of s) w a r.there r.holds new r.free

    joined-work : stops f (work_of s) a l ≡ false
        → appended (work_of s) a (copy_of f (block_at (work_of s) l) (next_number f (work_of s))) (kinds_of f (block_at (work_of s) l))
        ≡ work_of (append_in facts body budget known copy false s a l).to
    joined-work e =
        let short = j.few f (work_of s) a l e in
        let fresh = s.at.fresh in
        let few = r.kinds in
        let low = r.numbers in
        let count = length-take-le fresh s.kinds (omega arith) in
        let narrow : length (kinds_in facts) + fresh ≤ 65535 = omega arith in
        let all : fresh_to fresh (length given) ≡ fresh + length given = omega arith in
        let t = replaced a new (arena_of s) in
        let ks = kinds_of f (block_at (work_of s) l) in
        work-same
        (sym (j.blocks facts body budget l fresh (arena_of s) (work_of s) refl short count narrow a t ks join_grown.codes))
        (sym (j.kinds facts body budget l fresh (arena_of s) (work_of s) refl short s.kinds refl few)
        ∙ ap (λ (n : ℕ). take n (kinds_put s.kinds fresh given)) (sym all))
        (ap (λ (c : List Code). s.at.grown + length c) (sym (j.copy facts body budget l fresh (arena_of s) (work_of s) refl short count narrow)))

  by_stops : (b : Bool) → stops f (work_of s) a l ≡ b → (b ≡ false → Room facts body budget s a l) → (rest : Work → Work)
      → onward (append_if b f (work_of s) a l) (work_of s) rest ≡ goes (append_in facts body budget known copy b s a l) rest
  by_stops true e r rest = refl
  by_stops false e r rest = ap rest (joined-work (r refl) e)

  -- Br l, with room where it is replaced
  pub br_hop : (stops f (work_of s) a l ≡ false → Room facts body budget s a l) → (rest : Work → Work)
      → onward (hop_br f (work_of s) a l) (work_of s) rest ≡ goes (hop_br_in facts body budget known copy s a l) rest
  unfolding hop_br hop_br_in stops
  br_hop r rest = by_stops (stops f (work_of s) a l) refl r rest
