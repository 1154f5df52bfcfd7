-- What the steps come to is the definition's answer.
use Prim.Native.Nat.{ℕ, suc, ◌+◌, ◌≤◌, ◌<◌, min}
use native.Mathlib.Omega.{arith}
use mathlib.Core.Path.{◌≡◌, refl, sym, ap, subst, ◌∙◌}
use mathlib.Core.Bool.{Bool, true, false, not, ◌&&◌, cond}
use mathlib.Core.List.{List, [], ◌∷◌, ◌++◌, cons≢nil}
use mathlib.Core.Logic.{◌⊎◌, inl, inr, ⊎_elim, ◌↔◌}
use borrow.Author.Tests.{eqb-true, eqb-false, ltb-true}
use lib.Dec.{eqb, ltb, leb}
use lib.ListN.{length, get_or, length-map}
use lib.Seq.{get_or-set_same, get_or-set_other}
use Rattle.general.proofs.Booleans.{cases}
use Rattle.inst.specs.Inst.{kind_of}
use Rattle.inst.specs.declared.Code.{Code}
use Rattle.procedure.specs.Procedure.{Procedure}
use Rattle.roles.specs.Roles.{defs_of}
use Rattle.ends.specs.Ends.{end_of, targets}
use Rattle.paths.specs.Paths.{reached_from}
use Rattle.paths.proofs.Paths.{reached-is}
use Rattle.inst.specs.declared.Reg.{Reg}
use Rattle.std.specs.Prelude.{Option, Some, None}
use Rattle.tidy.specs.declared.writers.Writer.{Writer}
use Rattle.tidy.specs.declared.writers.Writer.TheVariants as w
use Rattle.tidy.specs.Tidy.{Placed, Field, placed_in, placed_from, placed, fields_at, written, reads, writers, edges_of, LeadsTo, leads}
use Rattle.tidy.specs.Tidy.{too_early, later, wrong, wrong_for, only_one, offends, regs_of, offenders, Tidy, lowest}
use Rattle.tidy.specs.Work.Writers.{entry_of, joined_entry, enter, entered}
use Rattle.tidy.specs.Work.Reads.{lowest_of, judged_entry, offence, lower, lowered, step, judged_all}
use Rattle.tidy.specs.Work.Marks.{Leading, leading}
use Rattle.tidy.proofs.Tables.{length-note}

-- `leads` is what the paper says: over any number of blocks
pub leads-is : (p : Procedure) (t : ℕ) → t < length p.blocks → (a : ℕ) → (leads p a t ≡ true) ↔ LeadsTo p a t
leads-is p t h a = reached-is (edges_of p) a t (rw (length-map p.blocks (λ c. targets (end_of c))) h)

-- every block's number is below n
Low : ℕ → List Placed → Type 0
Low n [] = Unit {0}
Low n (x ∷ xs) = (x.block < n) × Low n xs

low-append : (n : ℕ) (xs ys : List Placed) → Low n xs → Low n ys → Low n (xs ++ ys)
unfolding Low
low-append n [] ys a b = b
low-append n (x ∷ xs) ys a b = (a.0, low-append n xs ys a.1 b)

low-in : (n b k : ℕ) (cs : List Code) → b < n → Low n (placed_in b k cs)
unfolding Low placed_in
low-in n b k [] h = tt
low-in n b k (c ∷ cs) h = (h, low-in n b (suc k) cs h)

low-from : (n b : ℕ) (bs : List (List Code)) → b + length bs ≤ n → Low n (placed_from b bs)
unfolding Low placed_from
low-from n b [] h = tt
low-from n b (cs ∷ bs) h =
    low-append n (placed_in b 0 cs) (placed_from (suc b) bs) (low-in n b 0 cs (omega arith)) (low-from n (suc b) bs (omega arith))

pub writers-append : (r : ℕ) (fs gs : List Field) → writers r (fs ++ gs) ≡ writers r fs ++ writers r gs
unfolding writers
writers-append r [] gs = refl
writers-append r (f ∷ fs) gs = by (eqb f.reg r) (writers-append r fs gs)
  where
    by :
        (t : Bool) → writers r (fs ++ gs) ≡ writers r fs ++ writers r gs
        → cond t (f.at ∷ writers r (fs ++ gs)) (writers r (fs ++ gs)) ≡ cond t (f.at ∷ writers r fs) (writers r fs) ++ writers r gs
    by true e = ap (λ (l : List Placed). f.at ∷ l) e
    by false e = e

module _ (n r : ℕ) where
  low-fields : (x : Placed) (rs : List ℕ) → x.block < n → Low n (writers r (fields_at x rs))
  unfolding Low writers
  low-fields x [] h = tt
  low-fields x (q ∷ rs) h = by (eqb q r) (low-fields x rs h)
    where
      ws : List Placed
      ws = writers r (fields_at x rs)

      by : (t : Bool) → Low n ws → Low n (cond t (x ∷ ws) ws)
      by true l = (h, l)
      by false l = l

  low-writers : (xs : List Placed) → Low n xs → Low n (writers r (written xs))
  unfolding Low written writers
  low-writers [] l = tt
  low-writers (x ∷ xs) l =
      let fs = fields_at x (defs_of x.inst) in
      subst (Low n) (sym (writers-append r fs (written xs)))
      (low-append n (writers r fs) (writers r (written xs)) (low-fields x (defs_of x.inst) l.0) (low-writers xs l.1))

-- an entry of the table, after more writers
unfoldable pub tally_entry : Writer → List Placed → Writer
tally_entry s [] = s
tally_entry s (x ∷ xs) = tally_entry (joined_entry s (entry_of x)) xs

pub tally-at : (fs : List Field) (ws : List Writer) (r : ℕ) → r < length ws
    → get_or (entered ws fs) r w.Nothing ≡ tally_entry (get_or ws r w.Nothing) (writers r fs)
unfolding entered writers tally_entry enter
tally-at [] ws r h = refl
tally-at (f ∷ fs) ws r h = by (tally-at fs (enter ws f.reg (entry_of f.at)) r (rw (length-note ws f.reg (entry_of f.at)) h)) (cases (eqb f.reg r))
  where
    here : f.reg ≡ r → get_or (enter ws f.reg (entry_of f.at)) r w.Nothing ≡ joined_entry (get_or ws r w.Nothing) (entry_of f.at)
    here e = rw e (get_or-set_same ws r (joined_entry (get_or ws r w.Nothing) (entry_of f.at)) w.Nothing h)

    there : (f.reg ≡ r → ⊥) → get_or (enter ws f.reg (entry_of f.at)) r w.Nothing ≡ get_or ws r w.Nothing
    there e = get_or-set_other ws f.reg r (joined_entry (get_or ws f.reg w.Nothing) (entry_of f.at)) w.Nothing (λ i. e (sym i))

    by :
        get_or (entered (enter ws f.reg (entry_of f.at)) fs) r w.Nothing ≡ tally_entry (get_or (enter ws f.reg (entry_of f.at)) r w.Nothing) (writers r fs)
        → (eqb f.reg r ≡ true) ⊎ (eqb f.reg r ≡ false)
        → get_or (entered (enter ws f.reg (entry_of f.at)) fs) r w.Nothing ≡ tally_entry (get_or ws r w.Nothing) (writers r (f ∷ fs))
    by e (inl t) = e ∙ ap (λ (n : Writer). tally_entry n (writers r fs)) (here (eqb-true f.reg r t)) ∙ sym (rw t)
    by e (inr t) = e ∙ ap (λ (n : Writer). tally_entry n (writers r fs)) (there (eqb-false f.reg r t)) ∙ sym (rw t)

joined_one : (x : Placed) (v : Writer) → joined_entry (entry_of x) v ≡ w.Free
joined_one x v = by (leb (kind_of x.inst) 1) (eqb (kind_of x.inst) 3)
  where
    by :
        (constant address : Bool)
        → joined_entry (cond constant w.Free (cond address (w.Address x.block x.place) (w.Other x.block x.place))) v ≡ w.Free
    by true address = refl
    by false true = refl
    by false false = refl

tally-many : (xs : List Placed) → tally_entry w.Free xs ≡ w.Free
unfolding tally_entry
tally-many [] = refl
tally-many (x ∷ xs) = tally-many xs

-- one writer, judged as the definition does, by a lead that is the same at its block
module _ (m : Leading) (lead : ℕ → ℕ → Bool) (n k : ℕ) (same : (t : ℕ) → t < n → get_or m.marks t false ≡ lead m.block t) where
  judged-one : (x : Placed) → x.block < n → judged_entry m (entry_of x) k ≡ wrong lead (kind_of x.inst) x.block x.place m.block k
  judged-one x h = by (leb (kind_of x.inst) 1) (eqb (kind_of x.inst) 3)
    where
      by :
          (constant address : Bool)
          → judged_entry m (cond constant w.Free (cond address (w.Address x.block x.place) (w.Other x.block x.place))) k
          ≡ cond constant false (cond address (too_early lead x.block x.place m.block k) (not (later x.block x.place m.block k)))
      by true address = refl
      by false true = rw (same x.block h) refl
      by false false = refl

  judged-tally :
      (xs : List Placed) → Low n xs
      → judged_entry m (tally_entry w.Nothing xs) k ≡ only_one (λ x. wrong lead (kind_of x.inst) x.block x.place m.block k) xs
  unfolding tally_entry Low
  judged-tally [] l = refl
  judged-tally (x ∷ []) l = judged-one x l.0
  judged-tally (x ∷ y ∷ xs) l =
      ap (λ (v : Writer). judged_entry m (tally_entry v xs) k) (joined_one x (entry_of y))
      ∙ ap (λ (v : Writer). judged_entry m v k) (tally-many xs)

-- the table of a procedure's writers tells which reads offend
module _
    (p : Procedure) (es : List (List ℕ)) (ws : List Writer) (few : length p.blocks ≤ 160)
    (same : (a t : ℕ) → t < length p.blocks → get_or (reached_from es a) t false ≡ leads p a t)
    (table : (r : ℕ) → r < length p.registers → get_or ws r w.Nothing ≡ tally_entry w.Nothing (writers r (written (placed p))))
  where
    offence-is : (f : Field) → offence (leading es f.at.block) (length p.registers) ws f.reg f.at.place ≡ offends p f
    unfolding offence offends
    offence-is f = ⊎_elim is (λ (e : ltb f.reg (length p.registers) ≡ false). rw e) (cases (ltb f.reg (length p.registers)))
      where
        ones : List Placed
        ones = writers f.reg (written (placed p))

        there : Bool
        there = ltb f.reg (length p.registers)

        is :
            there ≡ true
            → (there && judged_entry (leading es f.at.block) (get_or ws f.reg w.Nothing) f.at.place)
            ≡ (there && only_one (λ w. wrong_for (leads p) w f.at) ones)
        is e =
            ap (λ (b : Bool). there && b)
            (ap (λ (n : Writer). judged_entry (leading es f.at.block) n f.at.place) (table f.reg (ltb-true f.reg (length p.registers) e))
            ∙ judged-tally (leading es f.at.block) (leads p) (length p.blocks) f.at.place (same f.at.block) ones
            (low-writers (length p.blocks) f.reg (placed p) (low-from (length p.blocks) 0 p.blocks (omega arith))))

    judged-regs : (fs : List Field) (s : Option Reg) → judged_all es (length p.registers) ws s fs ≡ lowered s (regs_of (offends p) fs)
    unfolding judged_all lowered regs_of step
    judged-regs [] s = refl
    judged-regs (f ∷ fs) s = by (offends p f) (offence-is f) (judged-regs fs)
      where
        by :
            (b : Bool) → offence (leading es f.at.block) (length p.registers) ws f.reg f.at.place ≡ b
            → ((t : Option Reg) → judged_all es (length p.registers) ws t fs ≡ lowered t (regs_of (offends p) fs))
            → judged_all es (length p.registers) ws
            (cond (offence (leading es f.at.block) (length p.registers) ws f.reg f.at.place) (Some (record { 0 = lower s f.reg })) s) fs
            ≡ lowered s (cond b (f.reg ∷ regs_of (offends p) fs) (regs_of (offends p) fs))
        by true e more =
            ap (λ (b : Bool). judged_all es (length p.registers) ws (cond b (Some (record { 0 = lower s f.reg })) s) fs) e
            ∙ more (Some (record { 0 = lower s f.reg }))
        by false e more = ap (λ (b : Bool). judged_all es (length p.registers) ws (cond b (Some (record { 0 = lower s f.reg })) s) fs) e ∙ more s

    lowered-lowest : (r : ℕ) (rs : List ℕ) → lowered (Some (record { 0 = r })) rs ≡ Some (record { 0 = lowest r rs })
    unfolding lowered lower
    lowered-lowest r [] = refl
    lowered-lowest r (q ∷ rs) = lowered-lowest (min r q) rs

    lowered-all : (rs : List ℕ) → lowered None rs ≡ lowest_of rs
    unfolding lowered lower
    lowered-all [] = refl
    lowered-all (r ∷ rs) = lowered-lowest r rs

    pub answer-is : judged_all es (length p.registers) ws None (reads p.operands (placed p)) ≡ lowest_of (offenders p)
    answer-is = judged-regs (reads p.operands (placed p)) None ∙ lowered-all (offenders p)

-- a field is one of some
abbrev pub Among : Field → List Field → Type 0
Among f [] = ⊥
Among f (g ∷ gs) = (f ≡ g) ⊎ Among f gs

none_found : (q : Field → Bool) (fs : List Field) → regs_of q fs ≡ [] → (f : Field) → Among f fs → q f ≡ false
unfolding regs_of
none_found q [] e f a = absurd a
none_found q (g ∷ gs) e f a = by (none_found q gs) (cases (q g)) a
  where
    by : (regs_of q gs ≡ [] → (f : Field) → Among f gs → q f ≡ false) → (q g ≡ true) ⊎ (q g ≡ false) → (f ≡ g) ⊎ Among f gs → q f ≡ false
    by more (inl t) a = absurd (cons≢nil (sym (ap (λ (b : Bool). cond b (g.reg ∷ regs_of q gs) (regs_of q gs)) t) ∙ e))
    by more (inr t) (inl i) = ap q i ∙ t
    by more (inr t) (inr i) = more (sym (ap (λ (b : Bool). cond b (g.reg ∷ regs_of q gs) (regs_of q gs)) t) ∙ e) f i

-- no read of a tidy procedure offends
pub tidy-reads : (p : Procedure) → Tidy p → (f : Field) → Among f (reads p.operands (placed p)) → offends p f ≡ false
tidy-reads p e = none_found (offends p) (reads p.operands (placed p)) e
