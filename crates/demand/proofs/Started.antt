-- What Thread starts from: the facts counted after the equal-arms step, and that each register is sparse.
use Prim.Native.Nat.{ℕ, zero, suc, ◌+◌, ◌≤◌, ◌<◌, min}
use mathlib.Core.Path.{◌≡◌, refl, sym, ap, subst, ◌∙◌}
use mathlib.Core.Logic.{◌⊎◌, inl, inr}
use mathlib.Core.List.{List, [], ◌∷◌, append-nil}
use Rattle.std.proofs.Common.{None, Some}
use mathlib.Core.Bool.{Bool, true, false, ◌&&◌, cond}
use native.Mathlib.Omega.{arith}
use native.Mathlib.Decide.{ℕ_discrete}
use lib.Dec.{eqb, ltb}
use lib.ListN.{length, get_or}
use borrow.Author.Clash.{clash}
use Rattle.std.proofs.lemmas.Bool.{and_parts}
use borrow.Author.Tests.{lt-ltb}
use Rattle.inst.specs.declared.Code.{Code}
use Rattle.roles.specs.Roles.{uses_of, list_of, no_list}
use Rattle.procedure.specs.Procedure.{Procedure}
use Rattle.procedure.specs.Lists.{joined}
use Rattle.procedure.specs.Counts.{writes_in, singly, use_count}
use Rattle.procedure.proofs.Laws.{times_le}
use Rattle.ends.specs.Ends.{terminator_of, front}
use Rattle.steps.specs.EqualArms.{equal_arms}
use Rattle.steps.specs.Facts.{Facts, const_in, const_of, facts_of}
use Rattle.steps.specs.Thread.{unthreaded}
use Rattle.steps.specs.Run.{counted_in, with_blocks}
use Rattle.machine.specs.Machine.{Address, Outside}
use Rattle.demand.specs.Setting.{Each, Setting, reads_at, Written, Read, Exposed, Fine}
use Rattle.demand.specs.Whole.{Whole, Inside}
use Rattle.demand.proofs.Basics.{clash_some}
use Rattle.demand.proofs.Effects.{Shape, constant, computed, acting, going, testing, casing, ending, shape}
use Rattle.demand.proofs.Codes.{read-exposed, read_split, dec_read, dec_written, Ended, ended}
use Rattle.demand.proofs.Branches.{Low, Good}
use Rattle.demand.proofs.Counted.{times_some, written_once, unwritten, front-writes}
use Rattle.demand.proofs.Counted.{front_read, front-exposed, readers_in, hidden_reader, unread, uses-append}
use Rattle.demand.proofs.Sparse.{Sparse, busy, quiet}
use Rattle.demand.proofs.Join.{AllSparse}
use Rattle.demand.proofs.Rewrites.{Edited}
use Rattle.demand.proofs.Threads.{arms-edited, Kept}
use Rattle.demand.proofs.Sums.{each-joined, writes-count, uses-count, sum_one, sum_two, sum_only}
use Rattle.demand.proofs.Arms.{arms-writes, EndFew, arms-few}
use Rattle.demand.proofs.Original.{setting, good, singly-one, const-fine}

-- some block's code before its end reads a register, or none does
find_read : (ops : List ℕ) (d : ℕ) (P : List (List Code)) → ((b : ℕ) × Read ops (front (get_or P b [])) d) ⊎ ((b : ℕ) → ¬ (Read ops (front (get_or P b [])) d))
unfolding front
find_read ops d [] = inr (λ b k. k)
find_read ops d (c ∷ P) = by (dec_read ops (front c) d) (find_read ops d P)
  where
    by : Dec (Read ops (front c) d) → ((b : ℕ) × Read ops (front (get_or P b [])) d) ⊎ ((b : ℕ) → ¬ (Read ops (front (get_or P b [])) d))
        → ((b : ℕ) × Read ops (front (get_or (c ∷ P) b [])) d) ⊎ ((b : ℕ) → ¬ (Read ops (front (get_or (c ∷ P) b [])) d))
    by (yes k) z = inl (0, k)
    by (no k) (inl z) = inl (suc z.0, z.1)
    by (no k) (inr z) = inr (λ b. all b)
      where
        all : (b : ℕ) → ¬ (Read ops (front (get_or (c ∷ P) b [])) d)
        all zero = k
        all (suc b) = z b

-- a terminator reads one register at most
end-few : (address : Address) (ops : List ℕ) (x : Code) → terminator_of x.inst ≡ true → length (reads_at ops x) ≤ 1
end-few address ops x q = by (shape address x.inst)
  where
    unlisted : list_of x.inst ≡ no_list → length (uses_of x.inst) ≤ 1 → length (reads_at ops x) ≤ 1
    unlisted u l = let e : reads_at ops x ≡ uses_of x.inst = rw u (append-nil (uses_of x.inst)) in rw e l

    by : Shape address x.inst → length (reads_at ops x) ≤ 1
    by (constant d v p w l n f a) = clash _ q f.no_end
    by (computed d F p l f a) = clash _ q f.no_end
    by (acting w f a) = clash _ q f.no_end
    by (going l w f a) = unlisted f.unlisted f.few
    by (testing d l m w v f a) = unlisted f.unlisted f.few
    by (casing n w f a) = unlisted f.unlisted f.few
    by (ending F w f a) = unlisted f.unlisted f.few

-- a program that is good, in which one field writes d
module _ (E : Setting) (m : ℕ) (P : List (List Code)) (good : Good E m P) (few : (b : ℕ) → EndFew E.operands (get_or P b []))
    (f : Facts) (uses-is : (r : ℕ) → f.uses r ≡ use_count E.operands (joined P) r)
    (d : ℕ) (once : writes_in (joined P) d ≡ 1) (local_d : E.local d ≡ true) where
  abbrev ops : List ℕ
  ops = E.operands

  hidden_d : (b : ℕ) → ¬ (Exposed ops (get_or P b []) d)
  hidden_d b z = clash _ local_d (good.hidden b d z)

  -- a block that reads it writes it, and no other does
  reads-writes : (b : ℕ) → Read ops (get_or P b []) d → 1 ≤ writes_in (get_or P b []) d
  reads-writes b k = by (dec_written (get_or P b []) d)
    where
      by : Dec (Written (get_or P b []) d) → 1 ≤ writes_in (get_or P b []) d
      by (yes w) = written_once (get_or P b []) d w
      by (no w) = absurd (hidden_d b (read-exposed ops (get_or P b []) d k w))

  elsewhere : (a b : ℕ) → ¬ (a ≡ b) → Read ops (get_or P b []) d → writes_in (get_or P a []) d ≡ 0
  elsewhere a b n k = let z = reads-writes b k in let s = sum_two (writes-count d) P a b n in omega arith

  read_nowhere : (a b : ℕ) → ¬ (a ≡ b) → Read ops (get_or P b []) d → use_count ops (get_or P a []) d ≡ 0
  read_nowhere a b n k = unread ops d (get_or P a []) (λ r. let z = reads-writes a r in let y = elsewhere a b n k in absurd (omega arith))

  last_use : (c : List Code) → EndFew ops c → ¬ (Read ops (front c) d) → Read ops c d → use_count ops c d ≡ 1
  unfolding use_count
  last_use [] w n k = absurd k
  last_use (x ∷ c) w n k = by (read_split ops (front (x ∷ c)) (t.last ∷ []) d (subst (λ c. Read ops c d) t.is k))
    where
      t : Ended (x ∷ c)
      t = ended x c

      total : use_count ops (x ∷ c) d ≡ use_count ops (front (x ∷ c)) d + use_count ops (t.last ∷ []) d
      total = ap (λ c. use_count ops c d) t.is ∙ uses-append ops d (front (x ∷ c)) (t.last ∷ [])

      by : Read ops (front (x ∷ c)) d ⊎ Read ops (t.last ∷ []) d → use_count ops (x ∷ c) d ≡ 1
      by (inl z) = absurd (n z)
      by (inr (inl z)) =
          let l = w (front (x ∷ c)) t.last t.is in
          omega (arith, total, unread ops d (front (x ∷ c)) n, times_some d (reads_at ops t.last) z, times_le d (reads_at ops t.last))
      by (inr (inr z)) = absurd z

  at_first : ((b : ℕ) × Read ops (front (get_or P b [])) d) ⊎ ((b : ℕ) → ¬ (Read ops (front (get_or P b [])) d)) → Sparse E f P d
  at_first (inl (a, k)) = busy (λ b. by b (ℕ_discrete b a))
    where
      r : Read ops (get_or P a []) d
      r = front_read ops (get_or P a []) d k

      by : (b : ℕ) → Dec (b ≡ a) → writes_in (front (get_or P b [])) d ≤ readers_in ops d (front (get_or P b []))
      by b (yes e) =
          let s = sum_one (writes-count d) P a in
          let w = front-writes (get_or P a []) d in
          let h = hidden_reader ops d (front (get_or P a [])) k (λ z. hidden_d a (front-exposed ops (get_or P a []) d z)) (omega arith) in
          rw e (omega arith)
      by b (no n) = let z = elsewhere b a n r in let w = front-writes (get_or P b []) d in omega arith
  at_first (inr k) = quiet (λ b. record { unread = k b; ends = λ r. (let s = sum_one (writes-count d) P b in omega arith, uses b r) })
    where
      uses : (b : ℕ) → Read ops (get_or P b []) d → f.uses d ≡ 1
      uses b r = uses-is d ∙ sum_only (uses-count ops d) P b (λ a n. read_nowhere a b n r) ∙ last_use (get_or P b []) (few b) (k b) r

  pub sparse_first : Sparse E f P d
  sparse_first = at_first (find_read ops d P)

module _ (outside : Outside) (address : Address) (p : Procedure) (whole : Whole p) (inside : Inside p) where
  abbrev E : Setting
  E = setting outside address p whole

  abbrev n : ℕ
  n = length p.registers

  abbrev pub P₁ : List (List Code)
  P₁ = (equal_arms p.blocks).blocks

  -- "Definitions (saturating at 255) and uses are counted then."
  abbrev pub counted : Facts
  counted = counted_in (with_blocks p P₁)

  pub arms : Edited E n n p.blocks P₁
  arms = arms-edited E n p.blocks (good outside address p whole inside)

  few₁ : (b : ℕ) → EndFew p.operands (get_or P₁ b [])
  few₁ = arms-few p.operands p.blocks (λ b c x q. end-few address p.operands x (whole.ends b c x q))

  singly-same : (r : ℕ) → singly (joined P₁) r ≡ singly (joined p.blocks) r
  singly-same r = ap (λ w. eqb (min 255 w) 1) (arms-writes address p.blocks r)

  pub size_is : length counted.registers ≡ n
  unfolding facts_of
  size_is = refl

  pub same-one : (r : ℕ) → (ltb r (length counted.registers) && counted.single r) ≡ E.one r
  unfolding facts_of
  same-one r = ap (λ b. ltb r n && b) (singly-same r)

  pub known : (r v : ℕ) → counted.const r ≡ Some v → E.single r ≡ Some v
  unfolding facts_of const_of
  known r v q = by (singly (joined P₁) r) refl q
    where
      both : Each (λ x. Fine E x × Low E n x) (joined P₁)
      both = pair (joined P₁) (each-joined (Fine E) P₁ arms.good.fine) (each-joined (Low E n) P₁ arms.good.low)
        where
          pair : (c : List Code) → Each (Fine E) c → Each (Low E n) c → Each (λ x. Fine E x × Low E n x) c
          pair [] a b = tt
          pair (x ∷ c) a b = ((a.0, b.0), pair c a.1 b.1)

      by : (b : Bool) → singly (joined P₁) r ≡ b → cond b (const_in (joined P₁) r) None ≡ Some v → E.single r ≡ Some v
      by true z q =
          let t = const-fine address (λ x. Fine E x × Low E n x) (joined P₁) r v both q in
          let l = t.1.1 r (inl t.2) in
          t.1.0 r t.2 (is_one l (sym (singly-same r) ∙ z)) ∙ t.3
        where
          is_one : r < n → singly (joined p.blocks) r ≡ true → E.one r ≡ true
          is_one l i = rw (lt-ltb r n l, i)
      by false z q = clash_some q refl

  -- a register that is counted as singly written is an original's
  pub counted-one : (r : ℕ) → counted.single r ≡ true → E.one r ≡ true
  unfolding facts_of
  counted-one r q = by (dec_written (joined P₁) r)
    where
      writes : writes_in (joined P₁) r ≡ 1
      writes = singly-one (joined P₁) r q

      low : (c : List Code) → Each (Low E n) c → Written c r → r < n
      low [] p k = absurd k
      low (x ∷ c) p (inl k) = p.0 r (inl k)
      low (x ∷ c) p (inr k) = low c p.1 k

      by : Dec (Written (joined P₁) r) → E.one r ≡ true
      by (yes k) = rw (lt-ltb r n (low (joined P₁) (each-joined (Low E n) P₁ arms.good.low) k), sym (singly-same r) ∙ q)
      by (no k) = absurd (omega (arith, unwritten (joined P₁) r k, writes))

  all_sparse : AllSparse E counted same-one P₁
  unfolding facts_of
  all_sparse d one_d local_d =
      sparse_first E n P₁ arms.good few₁ counted (λ r. refl) d
      (singly-one (joined P₁) d (singly-same d ∙ (and_parts (ltb d n) (singly (joined p.blocks) d) one_d).1)) local_d

  pub kept : Kept E counted size_is same-one known (unthreaded P₁)
  unfolding facts_of
  kept = let q : n + 0 ≡ n = omega arith in record { good = rw q arms.good; sparse = all_sparse }
