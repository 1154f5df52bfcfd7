-- What `note` gathers holds behind the code that it looked at, and the source of a copy was read there.
use Prim.Native.Nat.{ℕ}
use mathlib.Core.Path.{◌≡◌, refl, sym, subst, ◌∙◌}
use mathlib.Core.Logic.{◌⊎◌, inl, inr}
use mathlib.Core.List.{List, [], ◌∷◌, ◌++◌, map}
use Rattle.std.proofs.Common.{Option, None, Some}
use mathlib.Core.Bool.{Bool, true, false, ◌||◌, cond}
use lib.Dec.{eqb}
use lib.ListN.{get_or, drop}
use borrow.Author.Clash.{clash}
use borrow.Author.Tests.{eq-eqb, eqb-true}
use Rattle.std.proofs.lemmas.Bool.{or_parts}
use Rattle.inst.specs.declared.Code.{Code}
use Rattle.inst.specs.declared.BoolOp.{BoolOp}
use Rattle.inst.specs.declared.BoolOp.TheVariants as b
use Rattle.inst.specs.declared.Inst.{Inst}
use Rattle.inst.specs.declared.Inst.TheVariants as i
use Rattle.roles.specs.Roles.{defs_of, reads_of, bool_uses}
use Rattle.procedure.specs.Procedure.{Table}
use Rattle.procedure.specs.Lists.{found, or_else, value_or}
use Rattle.word.specs.Word.{tests}
use Rattle.ends.specs.Forms.{Form, const, const_f, addr_of, move, bool, bin, jump, other, form_of}
use Rattle.steps.specs.Facts.{Facts}
use Rattle.steps.specs.Note.{Known, nothing, values_without, copies_without, forget, forget_all, with_copy, with_value_if}
use Rattle.steps.specs.Note.{source_of, value_of, alike, note_move, bool_of, learnt, learn, note, notes}
use Rattle.machine.specs.Machine.{Address, Regs, writes, effect, stores, upd}
use Rattle.demand.specs.Setting.{In, Each, Setting, does, defs_at, reads_at, Read, Fine, Loaded, Passes, Behind}
use Rattle.demand.proofs.Basics.{clash_some, upd_same, upd_other}
use Rattle.demand.proofs.Effects.{keeps, passes_any, passes-map, passes_both}

-- what the form of an instruction says of its effect
module _ (address : Address) where
  abbrev pub Always : Inst → (List ℕ → ℕ) → Type 0
  Always x F = (tables : List Table) (s : ℕ) (values : List ℕ) → effect address tables s [] values x ≡ writes (F values ∷ [])

  abbrev pub Says : Inst → Form → Type 0
  Says x (const d v) = (defs_of x ≡ d.0 ∷ []) × Always x (λ vs. v)
  Says x (const_f d) = Unit {0}
  Says x (addr_of d up) = Unit {0}
  Says x (move d s) = (defs_of x ≡ d.0 ∷ []) × Always x (λ vs. get_or vs 0 0) × ((ops : List ℕ) → reads_of ops x ≡ s.0 ∷ [])
  Says x (bool op d y z) = (defs_of x ≡ d.0 ∷ []) × Always x (λ vs. tests op (get_or vs 0 0) (get_or vs 1 0))
      × ((ops : List ℕ) → reads_of ops x ≡ bool_uses op y.0 z.0)
  Says x (bin ranged op) = Unit {0}
  Says x (jump e) = Unit {0}
  Says x other = Unit {0}

  pub says : (x : Inst) → Says x (form_of x)
  unfolding form_of effect
  says (i.Const d v) = (refl, λ t s w. refl)
  says (i.ConstF d v) = tt
  says (i.Move d a) = (refl, λ t s w. refl, λ ops. refl)
  says (i.AddrOf d s f) = tt
  says (i.Select d c x y) = tt
  says (i.Cmp op d x y) = tt
  says (i.Bool b.And d x y) = (refl, λ t s w. refl, λ ops. refl)
  says (i.Bool b.Or d x y) = (refl, λ t s w. refl, λ ops. refl)
  says (i.Bool b.Xor d x y) = (refl, λ t s w. refl, λ ops. refl)
  says (i.Bool b.Not d x y) = (refl, λ t s w. refl, λ ops. refl)
  says (i.Bin op d x y) = tt
  says (i.BinRange op d x y l h w) = tt
  says (i.Load d a w) = tt
  says (i.Store a s w) = tt
  says (i.Check c v l h w) = tt
  says (i.MakeDope a p) = tt
  says (i.DopeLen d p n) = tt
  says (i.BoundsLen d l r e) = tt
  says (i.Alloc d s) = tt
  says (i.TakeBounds l r e) = tt
  says (i.CallNative n a d) = tt
  says (i.Br t) = tt
  says (i.CondBr c t f) = tt
  says (i.Case v t) = tt
  says (i.Ret v) = tt
  says (i.Unreachable w) = tt
  says i.Stmt = tt

-- all entries of a list
abbrev pub Entries : (ℕ → ℕ → Type 0) → List (ℕ × ℕ) → Type 0
Entries F [] = Unit {0}
Entries F (x ∷ xs) = F x.0 x.1 × Entries F xs

entries-map : (F G : ℕ → ℕ → Type 0) → ((r v : ℕ) → F r v → G r v) → (xs : List (ℕ × ℕ)) → Entries F xs → Entries G xs
entries-map F G f [] p = tt
entries-map F G f (x ∷ xs) p = (f x.0 x.1 p.0, entries-map F G f xs p.1)

entries-more : (F : ℕ → ℕ → Type 0) (xs : List (ℕ × ℕ)) (r v : ℕ) → Entries F xs → F r v → Entries F (xs ++ ((r, v) ∷ []))
entries-more F [] r v p q = (q, tt)
entries-more F (x ∷ xs) r v p q = (p.0, entries-more F xs r v p.1 q)

pub found-entry : (F : ℕ → ℕ → Type 0) (xs : List (ℕ × ℕ)) (r v : ℕ) → Entries F xs → found r xs ≡ Some v → F r v
unfolding found
found-entry F [] r v p q = clash_some q refl
found-entry F (x ∷ xs) r v p q = by (eqb x.0 r) refl q (found-entry F xs r v p.1)
  where
    by : (t : Bool) → eqb x.0 r ≡ t → cond t (Some x.1) (found r xs) ≡ Some v → (found r xs ≡ Some v → F r v) → F r v
    by true e z ih = let a : x.0 ≡ r = eqb-true x.0 r e in let c : x.1 ≡ v = cc in subst (λ y. F y v) a (subst (F x.0) c p.0)
    by false e z ih = ih z

keep_values : (F : ℕ → ℕ → Type 0) (d : ℕ) (xs : List (ℕ × ℕ)) → Entries F xs → Entries (λ r v. F r v × (¬ (r ≡ d))) (values_without d xs)
unfolding values_without
keep_values F d [] p = tt
keep_values F d (x ∷ xs) p = by (eqb x.0 d) refl (keep_values F d xs p.1)
  where
    by : (t : Bool) → eqb x.0 d ≡ t → Entries (λ r v. F r v × (¬ (r ≡ d))) (values_without d xs)
        → Entries (λ r v. F r v × (¬ (r ≡ d))) (cond t (values_without d xs) (x ∷ values_without d xs))
    by true e ih = ih
    by false e ih = ((p.0, λ q. clash _ (eq-eqb x.0 d q) e), ih)

keep_copies : (F : ℕ → ℕ → Type 0) (d : ℕ) (xs : List (ℕ × ℕ)) → Entries F xs
    → Entries (λ r s. F r s × (¬ (r ≡ d)) × (¬ (s ≡ d))) (copies_without d xs)
unfolding copies_without
keep_copies F d [] p = tt
keep_copies F d (x ∷ xs) p = by (eqb x.0 d || eqb x.1 d) refl (keep_copies F d xs p.1)
  where
    by : (t : Bool) → (eqb x.0 d || eqb x.1 d) ≡ t → Entries (λ r s. F r s × (¬ (r ≡ d)) × (¬ (s ≡ d))) (copies_without d xs)
        → Entries (λ r s. F r s × (¬ (r ≡ d)) × (¬ (s ≡ d))) (cond t (copies_without d xs) (x ∷ copies_without d xs))
    by true e ih = ih
    by false e ih =
        let n = or_parts (eqb x.0 d) (eqb x.1 d) e in
        ((p.0, λ q. clash _ (eq-eqb x.0 d q) n.0, λ q. clash _ (eq-eqb x.1 d q) n.1), ih)

-- the known values and copies hold
pub record Holds (k : Known) (g : Regs) : Type 0 where
  pub values : Entries (λ r v. g r ≡ v) k.values
  pub copies : Entries (λ r s. g r ≡ g s) k.copies

pub nothing-holds : (g : Regs) → Holds nothing g
nothing-holds g = record { values = tt; copies = tt }

-- what isn't forgotten is about other registers
record Off (d : ℕ) (k : Known) : Type 0 where
  copies : Entries (λ r s. (¬ (r ≡ d)) × (¬ (s ≡ d))) k.copies

forget_off : (d : ℕ) (k : Known) → Entries (λ r s. Unit {0}) k.copies → Off d (forget d k)
forget_off d k p = record { copies = entries-map _ _ (λ r s z. (z.1, z.2)) (copies_without d k.copies) (keep_copies _ d k.copies p) }

any_entries : (xs : List (ℕ × ℕ)) → Entries (λ r s. Unit {0}) xs
any_entries [] = tt
any_entries (x ∷ xs) = (tt, any_entries xs)

forget-holds : (d v : ℕ) (k : Known) (g : Regs) → Holds k g → Holds (forget d k) (upd d v g)
forget-holds d v k g h =
    record {
      values = entries-map _ _ (λ r w z. upd_other d v g r z.1 ∙ z.0) (values_without d k.values) (keep_values _ d k.values h.values);
      copies = entries-map _ _ (λ r s z. upd_other d v g r z.1 ∙ z.0 ∙ sym (upd_other d v g s z.2)) (copies_without d k.copies)
          (keep_copies _ d k.copies h.copies);
    }

forgets : (ds vs : List ℕ) (k : Known) (g : Regs) → Holds k g → Holds (forget_all ds k) (stores ds vs g)
unfolding forget_all
forgets [] vs k g h = h
forgets (d ∷ []) vs k g h = forget-holds d (get_or vs 0 0) k g h
forgets (d ∷ e ∷ []) vs k g h = forget-holds e (get_or (drop 1 vs) 0 0) (forget d k) _ (forget-holds d (get_or vs 0 0) k g h)
forgets (d ∷ e ∷ a ∷ ds) vs k g h = nothing-holds _

-- and of the registers as they were
forget_was : (d : ℕ) (k : Known) (g : Regs) → Holds k g → Holds (forget d k) g
forget_was d k g h =
    record {
      values = entries-map _ _ (λ r w z. z.0) (values_without d k.values) (keep_values _ d k.values h.values);
      copies = entries-map _ _ (λ r s z. z.0) (copies_without d k.copies) (keep_copies _ d k.copies h.copies);
    }

module _ (E : Setting) (f : Facts) (known : (r v : ℕ) → f.const r ≡ Some v → E.single r ≡ Some v) where
  pub value-holds : (k : Known) (g : Regs) → Loaded E g → Holds k g → (r v : ℕ) → value_of f k r ≡ Some v → g r ≡ v
  value-holds k g l h r v q = by (found r k.values) refl q
    where
      by : (o : Option ℕ) → found r k.values ≡ o → or_else o (f.const r) ≡ Some v → g r ≡ v
      by None e z = l r v (known r v z)
      by (Some w) e z = found-entry (λ r v. g r ≡ v) k.values r v h.values (e ∙ z)

  pub source_holds : (k : Known) (g : Regs) → Holds k g → (r : ℕ) → g r ≡ g (source_of k r)
  source_holds k g h r = by (found r k.copies) refl
    where
      by : (o : Option ℕ) → found r k.copies ≡ o → g r ≡ g (value_or r o)
      by None e = refl
      by (Some s) e = found-entry (λ r s. g r ≡ g s) k.copies r s h.copies e

  source_off : (d : ℕ) (k : Known) → Off d k → (r : ℕ) → ¬ (r ≡ d) → ¬ (source_of k r ≡ d)
  source_off d k o r n = by (found r k.copies) refl
    where
      by : (y : Option ℕ) → found r k.copies ≡ y → ¬ (value_or r y ≡ d)
      by None e = n
      by (Some s) e = (found-entry _ k.copies r s o.copies e).1

  with_value_lem : (d : ℕ) (o : Option ℕ) (k : Known) (g : Regs) → Holds k g → ((v : ℕ) → o ≡ Some v → g d ≡ v) → Holds (with_value_if d o k) g
  with_value_lem d None k g h q = h
  with_value_lem d (Some v) k g h q = record { values = entries-more _ k.values d v h.values (q v refl); copies = h.copies }

  with_copy_lem : (t : Bool) (d s : ℕ) (k : Known) (g : Regs) → Holds k g → g d ≡ g s → Holds (cond t (with_copy d s k) k) g
  with_copy_lem true d s k g h q = record { values = h.values; copies = entries-more _ k.copies d s h.copies q }
  with_copy_lem false d s k g h q = h

  -- Move d s, of which d was forgotten
  move-holds : (d s : ℕ) (k : Known) (g : Regs) → Loaded E g → Holds k g
      → let k' = forget d k in Holds (cond (eqb d s) k' (note_move f d (source_of k' s) k')) (upd d (g s) g)
  move-holds d s k g l h = by (eqb d s) refl
    where
      k' : Known
      k' = forget d k

      h₀ : Holds k' g
      h₀ = forget_was d k g h

      h₁ : Holds k' (upd d (g s) g)
      h₁ = forget-holds d (g s) k g h

      by : (t : Bool) → eqb d s ≡ t → Holds (cond t k' (note_move f d (source_of k' s) k')) (upd d (g s) g)
      by true e = h₁
      by false e =
          let s' = source_of k' s in
          let off : ¬ (s' ≡ d) = source_off d k' (forget_off d k (any_entries k.copies)) s (λ q. clash _ (eq-eqb d s (sym q)) e) in
          let same : g s ≡ g s' = source_holds k' g h₀ s in
          with_copy_lem (alike f d s') d s' (with_value_if d (value_of f k' s') k') (upd d (g s) g)
          (with_value_lem d (value_of f k' s') k' (upd d (g s) g) h₁
          (λ v q. upd_same d (g s) g d refl ∙ same ∙ value-holds k' g l h₀ s' v q))
          (upd_same d (g s) g d refl ∙ same ∙ sym (upd_other d (g s) g s' off))

  bool-holds : (op : BoolOp) (x y : ℕ) (k : Known) (g : Regs) → Loaded E g → Holds k g → (v : ℕ) → bool_of op (value_of f k x) (value_of f k y) ≡ Some v
      → tests op (get_or (map g (bool_uses op x y)) 0 0) (get_or (map g (bool_uses op x y)) 1 0) ≡ v
  bool-holds op x y k g l h v q = by op (value_of f k x) (value_of f k y) (λ u e. value-holds k g l h x u e) (λ u e. value-holds k g l h y u e) q
    where
      by : (op : BoolOp) (o o' : Option ℕ) → ((u : ℕ) → o ≡ Some u → g x ≡ u) → ((u : ℕ) → o' ≡ Some u → g y ≡ u) → bool_of op o o' ≡ Some v
          → tests op (get_or (map g (bool_uses op x y)) 0 0) (get_or (map g (bool_uses op x y)) 1 0) ≡ v
      by op None o' p p' q = clash_some q refl
      by b.And (Some u) None p p' q = clash_some q refl
      by b.Or (Some u) None p p' q = clash_some q refl
      by b.Xor (Some u) None p p' q = clash_some q refl
      by b.Not (Some u) None p p' q = rw (p u refl) (cc)
      by b.And (Some u) (Some w) p p' q = rw (p u refl, p' w refl) (cc)
      by b.Or (Some u) (Some w) p p' q = rw (p u refl, p' w refl) (cc)
      by b.Xor (Some u) (Some w) p p' q = rw (p u refl, p' w refl) (cc)
      by b.Not (Some u) (Some w) p p' q = rw (p u refl) (cc)

  -- what is noted of one instruction holds after it
  noted : (x : Code) (k : Known) (g : Regs) → Loaded E g → Holds k g → Passes (does E x g) (defs_at x) (Holds (note f k x.inst)) g
  unfolding learn forget_all
  noted x k g l h = by (form_of x.inst) (says E.address x.inst)
    where
      k' : Known
      k' = forget_all (defs_at x) k

      plain : Passes (does E x g) (defs_at x) (Holds k') g
      plain = passes_any (Holds k') (does E x g) (defs_at x) g (λ vs. forgets (defs_at x) vs k g h)

      by : (y : Form) → Says E.address x.inst y → Passes (does E x g) (defs_at x) (Holds (learnt f k' y)) g
      by (const d v) q = rw (q.1, q.0) (with_value_lem d.0 (Some v) _ _ (forget-holds d.0 v k g h) (λ w e. upd_same d.0 v g d.0 refl ∙ cc))
      by (const_f d) q = plain
      by (addr_of d up) q = plain
      by (move d s) q = rw (q.1, q.0, q.2) (move-holds d.0 s.0 k g l h)
      by (bool op d y z) q =
          rw (q.1, q.0, q.2)
          (with_value_lem d.0 _ _ _ (forget-holds d.0 _ k g h)
          (λ v e. upd_same d.0 _ g d.0 refl ∙ bool-holds op y.0 z.0 (forget d.0 k) g l (forget_was d.0 k g h) v e))
      by (bin ranged op) q = plain
      by (jump e) q = plain
      by other q = plain

  pub notes_hold : (c : List Code) → Each (Fine E) c → (k : Known) (g : Regs) → Loaded E g → Holds k g → Behind E (Holds (notes f k c)) c g
  unfolding notes
  notes_hold [] fine k g l h = h
  notes_hold (x ∷ c) fine k g l h =
      passes-map (λ g. Loaded E g × Holds (note f k x.inst) g) _ (does E x g) (defs_at x) g
      (λ g p. notes_hold c fine.1 (note f k x.inst) g p.0 p.1)
      (passes_both (Loaded E) (Holds (note f k x.inst)) (does E x g) (defs_at x) g (keeps E x g fine.0 l) (noted x k g l h))

-- the sources of copies were read
module _ (address : Address) (ops : List ℕ) (f : Facts) where
  keep_sources : (S : ℕ → Type 0) (d : ℕ) (k : Known) → Entries (λ r s. S s) k.copies → Entries (λ r s. S s) (forget d k).copies
  keep_sources S d k p = entries-map _ _ (λ r s z. z.0) (copies_without d k.copies) (keep_copies _ d k.copies p)

  forgets_sources : (S : ℕ → Type 0) (ds : List ℕ) (k : Known) → Entries (λ r s. S s) k.copies → Entries (λ r s. S s) (forget_all ds k).copies
  unfolding forget_all
  forgets_sources S [] k p = p
  forgets_sources S (d ∷ []) k p = keep_sources S d k p
  forgets_sources S (d ∷ e ∷ []) k p = keep_sources S e (forget d k) (keep_sources S d k p)
  forgets_sources S (d ∷ e ∷ a ∷ ds) k p = tt

  copies_if : (d : ℕ) (o : Option ℕ) (k : Known) → (with_value_if d o k).copies ≡ k.copies
  copies_if d None k = refl
  copies_if d (Some v) k = refl

  move_sources : (S : ℕ → Type 0) (d s : ℕ) (k : Known) → Entries (λ r s. S s) k.copies → S s
      → Entries (λ r s. S s) (cond (eqb d s) k (note_move f d (source_of k s) k)).copies
  move_sources S d s k p q = by (eqb d s) (alike f d (source_of k s))
    where
      from : (o : Option ℕ) → found s k.copies ≡ o → S (value_or s o)
      from None e = q
      from (Some t) e = found-entry (λ r s. S s) k.copies s t p e

      k' : Known
      k' = with_value_if d (value_of f k (source_of k s)) k

      p' : Entries (λ r s. S s) k'.copies
      p' = rw (copies_if d (value_of f k (source_of k s)) k) p

      by : (t u : Bool) → Entries (λ r s. S s) (cond t k (cond u (with_copy d (source_of k s) k') k')).copies
      by true u = p
      by false true = entries-more _ k'.copies d (source_of k s) p' (from (found s k.copies) refl)
      by false false = p'

  note_sources : (S : ℕ → Type 0) (x : Code) (k : Known) → ((r : ℕ) → In r (reads_at ops x) → S r) → Entries (λ r s. S s) k.copies
      → Entries (λ r s. S s) (note f k x.inst).copies
  unfolding learn
  note_sources S x k q p = by (form_of x.inst) (says address x.inst)
    where
      k' : Known
      k' = forget_all (defs_at x) k

      p' : Entries (λ r s. S s) k'.copies
      p' = forgets_sources S (defs_at x) k p

      by : (y : Form) → Says address x.inst y → Entries (λ r s. S s) (learnt f k' y).copies
      by (const d v) e = p'
      by (const_f d) e = p'
      by (addr_of d up) e = p'
      by (move d s) e = move_sources S d.0 s.0 k' p' (q s.0 (rw e.2 (inl refl)))
      by (bool op d y z) e = rw (copies_if d.0 _ k') p'
      by (bin ranged op) e = p'
      by (jump e) z = p'
      by other e = p'

  notes_sources : (S : ℕ → Type 0) (c : List Code) (k : Known) → ((r : ℕ) → Read ops c r → S r) → Entries (λ r s. S s) k.copies
      → Entries (λ r s. S s) (notes f k c).copies
  unfolding notes
  notes_sources S [] k q p = p
  notes_sources S (x ∷ c) k q p = notes_sources S c (note f k x.inst) (λ r m. q r (inr m)) (note_sources S x k (λ r m. q r (inl m)) p)

  -- the source of a register's copy is the register, or was read
  pub source_read : (c : List Code) (r : ℕ) → let s = source_of (notes f nothing c) r in (s ≡ r) ⊎ Read ops c s
  source_read c r = by (found r k.copies) refl
    where
      k : Known
      k = notes f nothing c

      by : (o : Option ℕ) → found r k.copies ≡ o → (value_or r o ≡ r) ⊎ Read ops c (value_or r o)
      by None e = inl refl
      by (Some s) e = inr (found-entry (λ r s. Read ops c s) k.copies r s (notes_sources (Read ops c) c nothing (λ r m. m) tt) e)
