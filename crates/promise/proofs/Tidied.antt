-- What tidy says of a register that one field writes, not by a Const, ConstF or AddrOf: no block reads it before it is written there.
use Prim.Native.Nat.{ℕ, zero, suc, ◌+◌, ◌<◌}
use mathlib.Core.Path.{◌≡◌, refl, sym, ap, subst, ◌∙◌}
use mathlib.Core.Logic.{inl, inr}
use mathlib.Core.List.{List, [], ◌∷◌, ◌++◌}
use mathlib.Core.Bool.{Bool, true, false, ◌&&◌, ◌||◌, not, cond}
use native.Mathlib.Omega.{arith}
use borrow.Author.Tests.{lt-leb, ne_eqb, eq-eqb, eqb-true, not-false, ltb-true, lt-ltb}
use lib.Dec.{eqb, ltb, leb}
use lib.ListN.{length, get_or, length-append}
use borrow.Author.Clash.{clash}
use Rattle.std.proofs.lemmas.Bool.{and_parts}
use Rattle.inst.specs.Inst.{kind_of}
use Rattle.inst.specs.declared.Code.{Code}
use Rattle.inst.specs.declared.Inst.{Inst}
use Rattle.roles.specs.Roles.{defs_of, reads_of}
use Rattle.procedure.specs.Procedure.{Procedure}
use Rattle.procedure.specs.Lists.{joined, times}
use Rattle.procedure.specs.Counts.{writes_in}
use Rattle.ends.specs.Forms.{fixed_of, is_fixed}
use Rattle.ends.proofs.Laws.{fixed_kind, fixed-kind}
use Rattle.tidy.specs.Tidy.{Placed, Field, placed_in, placed_from, placed, fields_at, written, reads, writers}
use Rattle.tidy.specs.Tidy.{leads, too_early, later, wrong, wrong_for, only_one, offends, regs_of, Tidy}
use Rattle.tidy.proofs.Answers.{writers-append}
use Rattle.round_trips.specs.WellFormed.{All}
use Rattle.round_trips.proofs.Lists.{all_left, all_right, all_append}
use Rattle.demand.specs.Setting.{In, Each, defs_at, reads_at, Exposed}
use Rattle.demand.specs.Whole.{Inside}
use Rattle.demand.proofs.Codes.{each_left, each_right}
use Rattle.demand.proofs.Counted.{writes-append}
use Rattle.demand.proofs.Original.{singly-one}

-- Const, ConstF and AddrOf by their kinds, as `wrong` has them
low_or_third : (k : ℕ) → (leb k 1 || eqb k 3) ≡ fixed_kind k
low_or_third zero = refl
low_or_third (suc zero) = refl
low_or_third (suc (suc k)) = let n = suc (suc k) in rw (lt-leb n 1 (omega arith), ne_eqb n 0 (λ e. omega arith), ne_eqb n 1 (λ e. omega arith))

-- at a place of some code r is read, or written
abbrev ReadAt : List ℕ → ℕ → List Code → ℕ → Type 0
ReadAt ops r [] k = ⊥
ReadAt ops r (x ∷ c) zero = In r (reads_at ops x)
ReadAt ops r (x ∷ c) (suc k) = ReadAt ops r c k

abbrev WrittenAt : ℕ → List Code → ℕ → Type 0
WrittenAt r [] k = ⊥
WrittenAt r (x ∷ c) zero = In r (defs_at x)
WrittenAt r (x ∷ c) (suc k) = WrittenAt r c k

-- exposed: read at a place before which it isn't written
exposed_at : (ops : List ℕ) (r : ℕ) (c : List Code) → Exposed ops c r → (k : ℕ) × ReadAt ops r c k × ((j : ℕ) → j < k → WrittenAt r c j → ⊥)
exposed_at ops r [] z = absurd z
exposed_at ops r (x ∷ c) (inl m) = (0, m, λ j l. absurd (omega arith))
exposed_at ops r (x ∷ c) (inr (n, z)) = let t = exposed_at ops r c z in (suc t.0, t.1, before t.0 t.2)
  where
    before : (k : ℕ) → ((j : ℕ) → j < k → WrittenAt r c j → ⊥) → (j : ℕ) → j < suc k → WrittenAt r (x ∷ c) j → ⊥
    before k f zero l w = n w
    before k f (suc j) l w = f j (omega arith) w

-- no field offends
no_offender : (q : Field → Bool) (fs : List Field) → regs_of q fs ≡ [] → All (λ f. q f ≡ false) fs
unfolding regs_of
no_offender q [] e = tt
no_offender q (f ∷ fs) e = by (q f) refl e (no_offender q fs)
  where
    by : (b : Bool) → q f ≡ b → cond b (f.reg ∷ regs_of q fs) (regs_of q fs) ≡ [] → (regs_of q fs ≡ [] → All (λ f. q f ≡ false) fs)
        → All (λ f. q f ≡ false) (f ∷ fs)
    by true z e ih = let w : ◌≡◌ {A = ℕ} 0 1 = cc in absurd (omega arith)
    by false z e ih = (z, ih e)

-- a fact of all fields that are read, of a read at a place
module _ (ops : List ℕ) (F : Field → Type 0) (r : ℕ) where
  at_field : (x : Placed) (rs : List ℕ) → All F (fields_at x rs) → In r rs → F (record { reg = r; at = x })
  at_field x [] p m = absurd m
  at_field x (s ∷ rs) p (inl e) = subst (λ s. F (record { reg = s; at = x })) (sym e) p.0
  at_field x (s ∷ rs) p (inr m) = at_field x rs p.1 m

  read-in : (b n : ℕ) (c : List Code) (ys : List Placed) → All F (reads ops (placed_in b n c ++ ys)) → (k : ℕ) → ReadAt ops r c k
      → (x : Inst) × F (record { reg = r; at = record { block = b; place = n + k; inst = x } })
  unfolding reads placed_in
  read-in b n [] ys p k m = absurd m
  read-in b n (x ∷ c) ys p zero m =
      let e : n + 0 ≡ n = omega arith in
      let y : Placed = record { block = b; place = n; inst = x.inst } in
      (x.inst, rw e (at_field y (reads_of ops x.inst) (all_left F (fields_at y (reads_of ops x.inst)) _ p) m))
  read-in b n (x ∷ c) ys p (suc k) m =
      let e : suc n + k ≡ n + suc k = omega arith in
      let y : Placed = record { block = b; place = n; inst = x.inst } in
      let t = read-in b (suc n) c ys (all_right F (fields_at y (reads_of ops x.inst)) _ p) k m in
      (t.0, subst (λ z. F (record { reg = r; at = record { block = b; place = z; inst = t.0 } })) e t.1)

  skip : (xs ys : List Placed) → All F (reads ops (xs ++ ys)) → All F (reads ops ys)
  unfolding reads
  skip [] ys p = p
  skip (x ∷ xs) ys p = skip xs ys (all_right F (fields_at x (reads_of ops x.inst)) _ p)

  read-from : (n : ℕ) (P : List (List Code)) → All F (reads ops (placed_from n P)) → (b k : ℕ) → ReadAt ops r (get_or P b []) k
      → (x : Inst) × F (record { reg = r; at = record { block = n + b; place = k; inst = x } })
  unfolding placed_from
  read-from n [] p b k m = absurd m
  read-from n (c ∷ P) p zero k m =
      let e : n + 0 ≡ n = omega arith in
      let t = read-in n 0 c (placed_from (suc n) P) p k m in
      let e' : 0 + k ≡ k = omega arith in
      (t.0, rw e (subst (λ z. F (record { reg = r; at = record { block = n; place = z; inst = t.0 } })) e' t.1))
  read-from n (c ∷ P) p (suc b) k m =
      let e : suc n + b ≡ n + suc b = omega arith in
      let t = read-from (suc n) P (skip (placed_in n 0 c) (placed_from (suc n) P) p) b k m in
      (t.0, subst (λ z. F (record { reg = r; at = record { block = z; place = k; inst = t.0 } })) e t.1)

-- the writers of r: there is one for each field that writes it, each where it is placed
module _ (r : ℕ) where
  eqb_sym : (a b : ℕ) → eqb a b ≡ eqb b a
  eqb_sym a b = by (eqb a b) refl
    where
      by : (t : Bool) → eqb a b ≡ t → t ≡ eqb b a
      by true z = sym (eq-eqb b a (sym (eqb-true a b z)))
      by false z = sym (ne_eqb b a (λ q. clash _ (eq-eqb a b (sym q)) z))

  count-fields : (x : Placed) (rs : List ℕ) → length (writers r (fields_at x rs)) ≡ times r rs
  unfolding writers times
  count-fields x [] = refl
  count-fields x (s ∷ rs) = rw (eqb_sym s r) (by (eqb r s) (count-fields x rs))
    where
      by : (b : Bool) → length (writers r (fields_at x rs)) ≡ times r rs
          → length (cond b (x ∷ writers r (fields_at x rs)) (writers r (fields_at x rs))) ≡ cond b 1 0 + times r rs
      by true ih = omega arith
      by false ih = omega arith

  count-in : (b n : ℕ) (c : List Code) (ys : List Placed)
      → length (writers r (written (placed_in b n c ++ ys))) ≡ writes_in c r + length (writers r (written ys))
  unfolding written placed_in writes_in
  count-in b n [] ys = omega arith
  count-in b n (x ∷ c) ys =
      let y : Placed = record { block = b; place = n; inst = x.inst } in
      let fs = fields_at y (defs_of x.inst) in
      let gs = written (placed_in b (suc n) c ++ ys) in
      omega (
        arith,
        ap length (writers-append r fs gs),
        length-append (writers r fs) (writers r gs),
        count-fields y (defs_of x.inst),
        count-in b (suc n) c ys,
      )

  count-from : (n : ℕ) (P : List (List Code)) → length (writers r (written (placed_from n P))) ≡ writes_in (joined P) r
  unfolding written placed_from writes_in writers
  count-from n [] = refl
  count-from n (c ∷ P) = omega (arith, count-in n 0 c (placed_from (suc n) P), writes-append c (joined P) r, count-from (suc n) P)

  module _ (F : Placed → Type 0) where
    writers-all : (fs : List Field) → All (λ f. f.reg ≡ r → F f.at) fs → All F (writers r fs)
    unfolding writers
    writers-all [] p = tt
    writers-all (f ∷ fs) p = by (eqb f.reg r) refl (writers-all fs p.1)
      where
        by : (b : Bool) → eqb f.reg r ≡ b → All F (writers r fs) → All F (cond b (f.at ∷ writers r fs) (writers r fs))
        by true z ih = (p.0 (eqb-true f.reg r z), ih)
        by false z ih = ih

    fields-all : (x : Placed) (rs : List ℕ) → (In r rs → F x) → All (λ f. f.reg ≡ r → F f.at) (fields_at x rs)
    fields-all x [] p = tt
    fields-all x (s ∷ rs) p = (λ e. p (inl (sym e)), fields-all x rs (λ m. p (inr m)))

    placed-all : (xs : List Placed) → All (λ x. In r (defs_of x.inst) → F x) xs → All (λ f. f.reg ≡ r → F f.at) (written xs)
    unfolding written
    placed-all [] p = tt
    placed-all (x ∷ xs) p = all_append _ (fields_at x (defs_of x.inst)) (written xs) (fields-all x (defs_of x.inst) p.0) (placed-all xs p.1)

  -- where a writer stands
  pub record Stands (P : List (List Code)) (w : Placed) : Type 0 where
    pub inside : WrittenAt r (get_or P w.block []) w.place
    pub varies : is_fixed (fixed_of w.inst) ≡ false

  module _ (P : List (List Code)) where
    abbrev Varying : Code → Type 0
    Varying x = In r (defs_at x) → is_fixed (fixed_of x.inst) ≡ false

    stands_in : (b n : ℕ) (c : List Code) → ((k : ℕ) → WrittenAt r c k → WrittenAt r (get_or P b []) (n + k)) → Each Varying c
        → All (λ x. In r (defs_of x.inst) → Stands P x) (placed_in b n c)
    unfolding placed_in
    stands_in b n [] at v = tt
    stands_in b n (x ∷ c) at v = (
      λ m. let e : n + 0 ≡ n = omega arith in record { inside = subst (WrittenAt r (get_or P b [])) e (at 0 m); varies = v.0 m },
      stands_in b (suc n) c (λ k m. let e : n + suc k ≡ suc n + k = omega arith in subst (WrittenAt r (get_or P b [])) e (at (suc k) m)) v.1,
    )

    stands_from : (n : ℕ) (Q : List (List Code)) → ((b : ℕ) → get_or P (n + b) [] ≡ get_or Q b []) → Each Varying (joined Q)
        → All (λ x. In r (defs_of x.inst) → Stands P x) (placed_from n Q)
    unfolding placed_from
    stands_from n [] at v = tt
    stands_from n (c ∷ Q) at v =
        all_append _ (placed_in n 0 c) (placed_from (suc n) Q)
        (stands_in n 0 c (λ k m. here k m) (each_left Varying c (joined Q) v))
        (stands_from (suc n) Q (λ b. let e : n + suc b ≡ suc n + b = omega arith in subst (λ z. get_or P z [] ≡ get_or Q b []) e (at (suc b)))
        (each_right Varying c (joined Q) v))
      where
        here : (k : ℕ) → WrittenAt r c k → WrittenAt r (get_or P n []) (0 + k)
        here k m =
            let e : n + 0 ≡ n = omega arith in
            let e' : 0 + k ≡ k = omega arith in
            rw e' (subst (λ d. WrittenAt r d k) (sym (subst (λ z. get_or P z [] ≡ c) e (at 0))) m)

-- not read wrongly: later in the same block
not_wrong : (lead : ℕ → ℕ → Bool) (kind x y b k : ℕ) → (leb kind 1 || eqb kind 3) ≡ false → wrong lead kind x y b k ≡ false → (x ≡ b) × (y < k)
not_wrong lead kind x y b k q e = by (leb kind 1) (eqb kind 3) q e
  where
    by : (s t : Bool) → (s || t) ≡ false → cond s false (cond t (too_early lead x y b k) (not (later x y b k))) ≡ false → (x ≡ b) × (y < k)
    by true t q e = clash _ refl q
    by false true q e = clash _ refl q
    by false false q e =
        let u = and_parts (eqb b x) (ltb y k) (not-false (later x y b k) e) in
        (sym (eqb-true b x u.0), ltb-true y k u.1)

-- a register that isn't read wrongly is read later in the block that writes it
pub tidy-inside : (p : Procedure) → Tidy p → Inside p
unfolding offends
tidy-inside p tidy r low once varying b z = by (writers r (written (placed p))) refl (count-from r 0 p.blocks) stands
  where
    ops : List ℕ
    ops = p.operands

    at : (k : ℕ) × ReadAt ops r (get_or p.blocks b []) k × ((j : ℕ) → j < k → WrittenAt r (get_or p.blocks b []) j → ⊥)
    at = exposed_at ops r (get_or p.blocks b []) z

    none : All (λ f. offends p f ≡ false) (reads ops (placed p))
    none = no_offender (offends p) (reads ops (placed p)) tidy

    stands : All (Stands r p.blocks) (writers r (written (placed p)))
    stands =
        writers-all r (Stands r p.blocks) (written (placed p))
        (placed-all r (Stands r p.blocks) (placed p) (stands_from r p.blocks 0 p.blocks (λ c. let e : 0 + c ≡ c = omega arith in rw e) varying))

    read : (x : Inst) × (offends p (record { reg = r; at = record { block = 0 + b; place = at.0; inst = x } }) ≡ false)
    read = read-from ops (λ f. offends p f ≡ false) r 0 p.blocks none b at.0 at.1

    offends_by : (ws : List Placed) → writers r (written (placed p)) ≡ ws
        → only_one (λ w. wrong_for (leads p) w (record { block = 0 + b; place = at.0; inst = read.0 })) ws ≡ false
    offends_by ws q = subst (λ ws. only_one (λ w. wrong_for (leads p) w (record { block = 0 + b; place = at.0; inst = read.0 })) ws ≡ false) q
        (subst (λ t. (t && only_one (λ w. wrong_for (leads p) w (record { block = 0 + b; place = at.0; inst = read.0 }))
        (writers r (written (placed p)))) ≡ false)
        (lt-ltb r (length p.registers) low) read.1)

    by : (ws : List Placed) → writers r (written (placed p)) ≡ ws → length (writers r (written (placed p))) ≡ writes_in (joined p.blocks) r
        → All (Stands r p.blocks) (writers r (written (placed p))) → ⊥
    by [] q n s = omega (arith, singly-one (joined p.blocks) r once, ap length q)
    by (w ∷ []) q n s =
        let t = (subst (All (Stands r p.blocks)) q s).0 in
        let u = not_wrong (leads p) (kind_of w.inst) w.block w.place (0 + b) at.0 (low_or_third (kind_of w.inst) ∙ fixed-kind w.inst ∙ t.varies)
        (offends_by (w ∷ []) q) in
        let e : w.block ≡ b = omega (arith, u.0) in
        at.2 w.place u.1 (subst (λ c. WrittenAt r (get_or p.blocks c []) w.place) e t.inside)
    by (w ∷ v ∷ ws) q n s = omega (arith, singly-one (joined p.blocks) r once, ap length q)
