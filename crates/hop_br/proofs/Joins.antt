-- Laws of the kinds written one by one, and of a join by its parts.
use Prim.Native.Nat.{ℕ, suc, ◌+◌, ◌≤◌}
use native.Mathlib.Numerals.{add-one}
use native.Mathlib.Omega.{arith}
use mathlib.Core.Path.{◌≡◌, refl, sym, ap, ◌∙◌}
use mathlib.Core.List.{List, [], ◌∷◌, ◌++◌, map, append-nil}
use mathlib.Core.Logic.{◌⊎◌, inl, inr}
use Rattle.std.proofs.Common.{Option}
use lib.ListN.{length, get_or, take, set, length-set, length-map}
use lib.Seq.{take-suc-set, length-take-le, append_snoc, set_out}
use Rattle.inst.specs.declared.Reg.{Reg}
use Rattle.inst.specs.declared.Code.{Code}
use Rattle.procedure.specs.Procedure.{codes_of}
use Rattle.blocks.specs.Blocks.{block_bytes}
use Rattle.steps.specs.Copy.{copy_of, kinds_of}
use Rattle.facts.specs.Storage.{kinds_in, facts_in}
use Rattle.arena.specs.Arena.{Arena, arena, arena_in, Topped, topped_in, to_end, pop, push_all}
use Rattle.arena.specs.declared.Space.{Space}
use Rattle.copy.specs.declared.copied.Copied.{Copied}
use Rattle.copy.specs.Storage.{codes_in, pairs_of, olds_in, CopyOf}
use Rattle.hop_br.specs.Storage.{kinds_put, next_in, target_in, copy_in, given_in, fresh_to, cut, replaced, left, join_of}

pub kinds-past : (b : List ℕ) (at : ℕ) (ks : List ℕ) → length b ≤ at → kinds_put b at ks ≡ b
unfolding kinds_put
kinds-past b at [] h = refl
kinds-past b at (k ∷ ks) h = kinds-past (set b at k) (suc at) ks (rw (length-set b at k) (omega arith)) ∙ set_out b at k h

-- where they have room, they follow what stood before them
pub kinds-follow : (b : List ℕ) (at : ℕ) (ks : List ℕ) → at + length ks ≤ length b → take (at + length ks) (kinds_put b at ks) ≡ take at b ++ ks
unfolding kinds_put
kinds-follow b at [] h =
    let e : at + 0 ≡ at = omega arith in
    ap (λ (n : ℕ). take n b) e ∙ sym (append-nil (take at b))
kinds-follow b at (k ∷ ks) h =
    let e : at + length (k ∷ ks) ≡ suc at + length ks = omega arith in
    ap (λ (n : ℕ). take n (kinds_put (set b at k) (suc at) ks)) e
    ∙ kinds-follow (set b at k) (suc at) ks (rw (length-set b at k) (omega arith))
    ∙ ap (λ (l : List ℕ). l ++ ks) (take-suc-set b at k (omega arith))
    ∙ append_snoc (take at b) k ks

-- a register's kind, by its number; 0 for one that the file doesn't have
abbrev pub kind_in : List ℕ → ℕ → ℕ
kind_in facts d = get_or (kinds_in facts) d 0

-- the kinds of the registers that got a new number
module _ (g : ℕ → ℕ) (given : List (Reg × Reg)) where
  abbrev pub kinds_for : List ℕ
  kinds_for = map g (map (λ x. x.0.0) given)

  pub kinds-count : length kinds_for ≡ length given
  kinds-count = length-map (map (λ (x : Reg × Reg). x.0.0) given) g ∙ length-map given (λ (x : Reg × Reg). x.0.0)

-- the kinds of the registers that are still to come, the first of them written
pub kinds-step : (g : ℕ → ℕ) (b : List ℕ) (at : ℕ) (p : Reg × Reg) (rest : List (Reg × Reg)) {all : List (Reg × Reg)} {i at' v : ℕ}
    → all ≡ p ∷ rest → i ≡ at → at' ≡ at + 1 → v ≡ g p.0.0
    → kinds_put (set b i v) at' (kinds_for g rest) ≡ kinds_put b at (kinds_for g all)
unfolding kinds_put
kinds-step g b at p rest e₁ e₂ e₃ e₄ = rw (e₁, e₂, e₃, e₄, add-one)

-- none is to come, or there is no room
pub kinds-end : (g : ℕ → ℕ) (b : List ℕ) (at : ℕ) (rest : List (Reg × Reg)) → (length b ≤ at) ⊎ (length rest ≡ 0) → kinds_put b at (kinds_for g rest) ≡ b
unfolding kinds_put
kinds-end g b at rest (inl h) = kinds-past b at (kinds_for g rest) h
kinds-end g b at [] (inr e) = refl
kinds-end g b at (p ∷ rest) (inr e) = absurd (omega arith)

left-same : {t t' : Arena} {k k' : List ℕ} {n n' f f' : ℕ} → t ≡ t' → k ≡ k' → n ≡ n' → f ≡ f' → left t k n f ≡ left t' k' n' f'
left-same {t' = t'} {k = k} {k' = k'} {n = n} {n' = n'} {f = f} e₁ e₂ e₃ e₄ =
    ap (λ (x : Arena). left x k n f) e₁
    ∙ ap (λ (x : List ℕ). left t' x n f) e₂
    ∙ ap (λ (x : ℕ). left t' k' x f) e₃
    ∙ ap (λ (x : ℕ). left t' k' n' x) e₄

-- a block made the last, then cut, then grown
pub replaced_by : (a : ℕ) (c : List Code) (s : Arena) (p q : Space) {t : Arena}
    → arena_in p ≡ to_end a s
    → q.work.now ≡ p.work.now
    → topped_in q ≡ pop a (topped_in p)
    → t ≡ push_all a c (arena_in q)
    → t ≡ replaced a c s
unfolding cut replaced
replaced_by a c s p q moved code popped pushed =
    pushed
    ∙ ap (λ (w : List ℕ). push_all a c (arena w q.table.now q.top)) code
    ∙ ap (λ (x : Topped). push_all a c (arena p.work.now x.table x.top)) popped
    ∙ ap (λ (x : Arena). push_all a c (cut a x)) moved

module _ (facts : List ℕ) (body : Option ℕ) (budget l fresh : ℕ) (s : Arena) (z : Copied) {m : ℕ} {b : List ℕ} (next : m ≡ next_in facts fresh)
    (bytes : b ≡ block_bytes s.work s.table l) (copy : CopyOf facts (take 4 (codes_of b)) m z)
  where
    pub code_is : codes_in z ≡ copy_in facts body budget fresh (target_in s l)
    code_is =
        copy.code body budget
        ∙ ap (λ (x : List ℕ). copy_of (facts_in facts body budget) (take 4 (codes_of x)) m) bytes
        ∙ ap (copy_of (facts_in facts body budget) (target_in s l)) next

    pub kinds_are : map (λ (d : ℕ). get_or (kinds_in facts) d 0) (olds_in z) ≡ given_in facts body budget (target_in s l)
    kinds_are = copy.kinds body budget ∙ ap (λ (x : List ℕ). kinds_of (facts_in facts body budget) (take 4 (codes_of x))) bytes

    n-is : z.n ≡ length (copy_in facts body budget fresh (target_in s l))
    n-is = sym (length-take-le z.n z.code (omega (arith, z.four_codes, z.fits))) ∙ ap length code_is

    fresh-is : length (pairs_of z) ≡ length (given_in facts body budget (target_in s l))
    fresh-is = sym (kinds-count (λ d. get_or (kinds_in facts) d 0) (pairs_of z)) ∙ ap length kinds_are

    pub given_is : z.fresh ≡ length (given_in facts body budget (target_in s l))
    given_is = sym (length-take-le z.fresh z.given (omega (arith, z.four_pairs, z.fits, z.each_writes))) ∙ fresh-is

    pub joins : (a : ℕ) (kinds : List ℕ) {kinds' : List ℕ} {t : Arena} {f : ℕ} → t ≡ replaced a (codes_in z) s
        → kinds' ≡ kinds_put kinds fresh (map (λ (d : ℕ). get_or (kinds_in facts) d 0) (olds_in z))
        → f ≡ fresh_to fresh (length (pairs_of z))
        → left t kinds' z.n f ≡ join_of facts body budget a l fresh s kinds
    joins a kinds grown put count =
        left-same (grown ∙ ap (λ (c : List Code). replaced a c s) code_is) (put ∙ ap (kinds_put kinds fresh) kinds_are) n-is
        (count ∙ ap (fresh_to fresh) fresh-is)
