-- The original procedure: its setting, and that it is good and sparse.
use Prim.Native.Nat.{ℕ, ◌≤◌, ◌<◌, min}
use mathlib.Core.Path.{◌≡◌, refl, sym, ap, subst, ◌∙◌}
use mathlib.Core.Logic.{◌⊎◌, inl, inr}
use mathlib.Core.List.{List, [], ◌∷◌}
use Rattle.std.proofs.Common.{Option, None, Some}
use mathlib.Core.Bool.{Bool, true, false, ◌&&◌, ◌||◌, not, cond}
use native.Mathlib.Omega.{arith}
use lib.Dec.{eqb, ltb}
use lib.ListN.{length, get_or}
use borrow.Author.Clash.{clash}
use borrow.Author.Tests.{eq-eqb, eqb-true, ltb-true, lt-ltb}
use Rattle.std.proofs.lemmas.Bool.{and_parts}
use Rattle.inst.specs.declared.Code.{Code}
use Rattle.inst.specs.declared.Inst.{Inst}
use Rattle.procedure.specs.Procedure.{Procedure}
use Rattle.procedure.specs.Lists.{any_of, joined, present, or_else}
use Rattle.procedure.specs.Counts.{writes_in, singly}
use Rattle.ends.specs.Forms.{Form, const, const_f, addr_of, move, bool, bin, jump, other, form_of, fixed_in, fixed_of, is_fixed}
use Rattle.steps.specs.Facts.{word_of, writes as names, const_in}
use Rattle.machine.specs.Machine.{Address, Outside}
use Rattle.machine.specs.Single.{constant_of, constant_in, single_in, single}
use Rattle.demand.specs.Setting.{In, Each, Setting, defs_at, reads_at, Written, Read, Hidden, Fine}
use Rattle.demand.specs.Whole.{Whole, Inside}
use Rattle.demand.proofs.Basics.{clash_some, any_in}
use Rattle.demand.proofs.Effects.{fixed_constant}
use Rattle.demand.proofs.Noted.{Says, says}
use Rattle.demand.proofs.Codes.{each_map, exposed-read}
use Rattle.demand.proofs.Branches.{Good}
use Rattle.demand.proofs.Counted.{times_some}
use Rattle.demand.proofs.Sums.{each-joined, joined-each}

-- an instruction names a register
names_in : (r : ℕ) (x : Code) → names r x.inst ≡ true → In r (defs_at x)
names_in r x q = let t = any_in (eqb r) (defs_at x) q in subst (λ y. In y (defs_at x)) (sym (eqb-true r t.0 t.1)) t.2

in_any : (p : ℕ → Bool) (xs : List ℕ) (r : ℕ) → p r ≡ true → In r xs → any_of p xs ≡ true
unfolding any_of
in_any p [] r q k = absurd k
in_any p (x ∷ xs) r q (inl e) = let z : p x ≡ true = ap p (sym e) ∙ q in rw z
in_any p (x ∷ xs) r q (inr k) = by (p x) (in_any p xs r q k)
  where
    by : (b : Bool) → any_of p xs ≡ true → (b || any_of p xs) ≡ true
    by true ih = refl
    by false ih = ih

in-names : (r : ℕ) (x : Code) → In r (defs_at x) → names r x.inst ≡ true
in-names r x k = in_any (eqb r) (defs_at x) r (eq-eqb r r refl) k

-- "singly written"
pub singly-one : (cs : List Code) (r : ℕ) → singly cs r ≡ true → writes_in cs r ≡ 1
singly-one cs r q = let z : min 255 (writes_in cs r) ≡ 1 = eqb-true (min 255 (writes_in cs r)) 1 q in omega arith

unwritten_each : (F : Code → Type 0) (c : List Code) (r : ℕ) → writes_in c r ≡ 0 → Each (λ y. In r (defs_at y) → F y) c
unfolding writes_in
unwritten_each F [] r q = tt
unwritten_each F (x ∷ c) r q = (λ k. let z = times_some r (defs_at x) k in absurd (omega arith), unwritten_each F c r (omega arith))

module _ (address : Address) where
  -- the one instruction that writes r
  pub first_is : (cs : List Code) (r : ℕ) → writes_in cs r ≤ 1 → Each (λ x. In r (defs_at x) → constant_in address cs r ≡ constant_of address x.inst) cs
  unfolding constant_in writes_in
  first_is [] r l = tt
  first_is (x ∷ cs) r l = by (names r x.inst) refl (first_is cs r (omega arith))
    where
      by : (b : Bool) → names r x.inst ≡ b → Each (λ y. In r (defs_at y) → constant_in address cs r ≡ constant_of address y.inst) cs
          → Each (λ y. In r (defs_at y) → cond b (constant_of address x.inst) (constant_in address cs r) ≡ constant_of address y.inst) (x ∷ cs)
      by true q ih = (λ k. refl, unwritten_each _ cs r (let z = times_some r (defs_at x) (names_in r x q) in omega arith))
      by false q ih = (λ k. clash _ (in-names r x k) q, ih)

  -- a constant is written somewhere
  constant_written : (cs : List Code) (r v : ℕ) → constant_in address cs r ≡ Some v → Written cs r
  unfolding constant_in
  constant_written [] r v q = clash_some q refl
  constant_written (x ∷ cs) r v q = by (names r x.inst) refl q (constant_written cs r v)
    where
      by : (b : Bool) → names r x.inst ≡ b → cond b (constant_of address x.inst) (constant_in address cs r) ≡ Some v
          → (constant_in address cs r ≡ Some v → Written cs r) → Written (x ∷ cs) r
      by true z q ih = inl (names_in r x z)
      by false z q ih = inr (ih q)

  -- the v of a Const
  word_constant : (x : Inst) (v : ℕ) → word_of (fixed_of x) ≡ Some v → constant_of address x ≡ Some v
  unfolding fixed_of constant_of
  word_constant x v q = by (form_of x) (says address x) refl q
    where
      by : (y : Form) → Says address x y → form_of x ≡ y → word_of (fixed_in y) ≡ Some v → constant_of address x ≡ Some v
      by (const d w) s z q = rw (z, s.1 [] 0 []) q
      by (const_f d) s z q = clash_some q refl
      by (addr_of d up) s z q = clash_some q refl
      by (move d a) s z q = clash_some q refl
      by (bool op d a b) s z q = clash_some q refl
      by (bin ranged op) s z q = clash_some q refl
      by (jump e) s z q = clash_some q refl
      by other s z q = clash_some q refl

  -- a Const that writes r
  pub const-fine : (F : Code → Type 0) (cs : List Code) (r v : ℕ) → Each F cs → const_in cs r ≡ Some v
      → (x : Code) × F x × In r (defs_at x) × (constant_of address x.inst ≡ Some v)
  unfolding const_in
  const-fine F [] r v p q = clash_some q refl
  const-fine F (x ∷ cs) r v p q = by (names r x.inst) refl (word_of (fixed_of x.inst)) refl q (const-fine F cs r v p.1)
    where
      by : (b : Bool) → names r x.inst ≡ b → (o : Option ℕ) → word_of (fixed_of x.inst) ≡ o → or_else (cond b o None) (const_in cs r) ≡ Some v
          → (const_in cs r ≡ Some v → (x : Code) × F x × In r (defs_at x) × (constant_of address x.inst ≡ Some v))
          → (x : Code) × F x × In r (defs_at x) × (constant_of address x.inst ≡ Some v)
      by true z None y q ih = ih q
      by true z (Some w) y q ih = (x, p.0, names_in r x z, word_constant x.inst v (y ∙ q))
      by false z o y q ih = ih q

-- a test of an order
module _ (outside : Outside) (address : Address) (p : Procedure) (whole : Whole p) where
  abbrev P₀ : List (List Code)
  P₀ = p.blocks

  abbrev cs : List Code
  cs = joined P₀

  abbrev n : ℕ
  n = length p.registers

  -- an original's register that one field writes
  abbrev pub one : ℕ → Bool
  one r = ltb r n && singly cs r

  abbrev pub is_local : ℕ → Bool
  is_local r = cond (ltb r n) (one r && not (present (single address p r))) true

  written_low : (c : List Code) → Each (λ x. (r : ℕ) → In r (defs_at x) ⊎ In r (reads_at p.operands x) → r < n) c → (r : ℕ) → Written c r → r < n
  written_low [] q r k = absurd k
  written_low (x ∷ c) q r (inl k) = q.0 r (inl k)
  written_low (x ∷ c) q r (inr k) = written_low c q.1 r k

  pub single-one : (r v : ℕ) → single address p r ≡ Some v → one r ≡ true
  unfolding single_in
  single-one r v q = by (singly cs r) refl q
    where
      by : (b : Bool) → singly cs r ≡ b → cond b (constant_in address cs r) None ≡ Some v → one r ≡ true
      by true z q = rw (lt-ltb r n (written_low cs (each-joined _ P₀ whole.exist) r (constant_written address cs r v q)), z)
      by false z q = clash_some q refl

  pub single_shared : (r v : ℕ) → single address p r ≡ Some v → is_local r ≡ false
  single_shared r v q = let t = and_parts (ltb r n) (singly cs r) (single-one r v q) in rw (t.0, t.1, q)

  pub one_local : (r : ℕ) → one r ≡ true → single address p r ≡ None → is_local r ≡ true
  one_local r z q = let t = and_parts (ltb r n) (singly cs r) z in rw (t.0, t.1, q)

  pub one-old : (r : ℕ) → one r ≡ true → r < n
  one-old r z = ltb-true r n (and_parts (ltb r n) (singly cs r) z).0

  pub shared_old : (r : ℕ) → is_local r ≡ false → r < n
  shared_old r q = by (ltb r n) refl q
    where
      by : (b : Bool) → ltb r n ≡ b → cond b (one r && not (present (single address p r))) true ≡ false → r < n
      by true z q = ltb-true r n z
      by false z q = clash _ refl q

  -- the original's setting: its single constants are loaded
  abbrev pub setting : Setting
  setting =
      record {
        outside = outside;
        address = address;
        body = p.body;
        operands = p.operands;
        tables = p.tables;
        size = n;
        one = one;
        single = single address p;
        local = is_local;
        single-one = single-one;
        single_shared = single_shared;
        one_local = one_local;
        one-old = one-old;
        shared_old = shared_old;
      }

  abbrev E : Setting
  E = setting

  single-in : (r : ℕ) → singly cs r ≡ true → single address p r ≡ constant_in address cs r
  unfolding single_in
  single-in r t = rw t

  -- what writes a register that one field writes
  fine-in : Each (Fine E) cs
  fine-in = gather cs one-is
    where
      one-is : (r : ℕ) → one r ≡ true → Each (λ x. In r (defs_at x) → single address p r ≡ constant_of address x.inst) cs
      one-is r o =
          let t = (and_parts (ltb r n) (singly cs r) o).1 in
          let w = singly-one cs r t in
          each_map _ _ (λ x f k. single-in r t ∙ f k) cs (first_is address cs r (omega arith))

      gather : (c : List Code) → ((r : ℕ) → one r ≡ true → Each (λ x. In r (defs_at x) → single address p r ≡ constant_of address x.inst) c)
          → Each (Fine E) c
      gather [] q = tt
      gather (x ∷ c) q = (λ r k o. (q r o).0 k, gather c (λ r o. (q r o).1))

  varied : (x : Inst) → constant_of address x ≡ None → is_fixed (fixed_of x) ≡ false
  varied x q = by (is_fixed (fixed_of x)) refl
    where
      by : (b : Bool) → is_fixed (fixed_of x) ≡ b → b ≡ false
      by true z = clash_some (fixed_constant address x z).1 q
      by false z = refl

  read_low : (c : List Code) → Each (λ x. (r : ℕ) → In r (defs_at x) ⊎ In r (reads_at p.operands x) → r < n) c → (r : ℕ) → Read p.operands c r → r < n
  read_low [] q r k = absurd k
  read_low (x ∷ c) q r (inl k) = q.0 r (inr k)
  read_low (x ∷ c) q r (inr k) = read_low c q.1 r k

  module _ (inside : Inside p) where
    hidden-in : (b : ℕ) → Hidden E (get_or P₀ b [])
    hidden-in b r z = by (one r) refl (single address p r) refl
      where
        low : r < n
        low = read_low (get_or P₀ b []) (whole.exist b) r (exposed-read p.operands (get_or P₀ b []) r z)

        by : (t : Bool) → one r ≡ t → (o : Option ℕ) → single address p r ≡ o → is_local r ≡ false
        by false q o y = rw (lt-ltb r n low) (from (singly cs r) refl)
          where
            from : (s : Bool) → singly cs r ≡ s → (s && not (present (single address p r))) ≡ false
            from true i = clash _ (one_of i) q
              where
                one_of : singly cs r ≡ true → one r ≡ true
                one_of i = rw (lt-ltb r n low, i)
            from false i = refl
        by true q (Some v) y = single_shared r v y
        by true q None y =
            absurd (inside r low (and_parts (ltb r n) (singly cs r) q).1 (each_map _ _ (λ x f k. varied x.inst (sym (f r k q) ∙ y)) cs fine-in) b z)

    pub good : Good E n P₀
    good = record { fine = joined-each (Fine E) P₀ fine-in; hidden = hidden-in; low = whole.exist; formed = whole.formed }
