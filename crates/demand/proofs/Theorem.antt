-- The theorem: the threaded form runs as the original does.
use Prim.Native.Nat.{ℕ, zero, suc, ◌+◌, ◌*◌, ◌≤◌, ◌<◌}
use mathlib.Core.Path.{◌≡◌, refl, sym, ap, subst, ◌∙◌}
use mathlib.Core.Logic.{◌⊎◌, inl, inr}
use mathlib.Core.List.{List, [], ◌∷◌, ◌++◌, append-nil}
use mathlib.Core.Bool.{Bool, true, false, ◌&&◌, ◌||◌}
use native.Mathlib.Omega.{arith}
use lib.Dec.{eqb}
use lib.ListN.{length, get_or}
use borrow.Author.Clash.{clash}
use borrow.Author.Tests.{eqb-true}
use Rattle.std.proofs.lemmas.Bool.{and_parts}
use Rattle.inst.specs.declared.Code.{Code}
use Rattle.roles.specs.Roles.{defs_of}
use Rattle.procedure.specs.Procedure.{Procedure}
use Rattle.procedure.specs.Lists.{any_of, present}
use Rattle.ends.specs.declared.End.TheVariants as e
use Rattle.ends.specs.Forms.{fixed_of, is_fixed}
use Rattle.ends.specs.Ends.{view_of, end_of}
use Rattle.paths.specs.Paths.{is_in, Path}
use Rattle.steps.specs.Gate.{may_thread}
use Rattle.steps.specs.Emit.{leads, edges_of, reached, empty_from, is_rescued, rescues, onto_front}
use Rattle.steps.specs.EqualArms.{equal_arms}
use Rattle.steps.specs.Facts.{Facts}
use Rattle.steps.specs.Thread.{Work, thread, unthreaded, next_number}
use Rattle.steps.specs.Run.{counted_in, unchanged, arms_joined, emit, emit_if, thread_if, looped_in, short, threaded_unless, threaded_form}
use Rattle.machine.specs.Machine.{Regs, Address, Outside, at, start, into_zero}
use Rattle.machine.specs.Demand.{Starts, Alike, AlikeFrom, shows, entries}
use Rattle.machine.proofs.Shorter.{Shorter, mach, shorter_trans, alike}
use Rattle.demand.specs.Setting.{In, Each, Setting, code, Fine}
use Rattle.demand.specs.Whole.{Whole, Inside}
use Rattle.demand.specs.Claim.{Kept}
use Rattle.demand.proofs.Basics.{clash_some, any_in}
use Rattle.demand.proofs.Effects.{Shape, constant, computed, acting, going, testing, casing, ending, shape, fixed_constant, varies}
use Rattle.demand.proofs.Codes.{each_map, end-append}
use Rattle.demand.proofs.Edit.{Meet}
use Rattle.demand.proofs.Branches.{Good}
use Rattle.demand.proofs.Rewrites.{Shortens, edited-none, shortens_then, settle}
use Rattle.demand.proofs.Threads.{thread-onward, Onward}
use Rattle.demand.proofs.Reached.{Marked, edges_at, reached-zero, reached_closed}
use Rattle.demand.proofs.Emptied.{kept_block, some_or_none, emptied-each, rescues-each, block-leads, unreached}
use Rattle.demand.proofs.Rescued.{Constant, at_front, elsewhere, rescued_runs, rescued-front, rescued_quiet}
use Rattle.demand.proofs.Original.{setting, good}
use Rattle.demand.proofs.Started.{arms, size_is, same-one, known, counted-one, kept}

is_in-in : (s : ℕ) (xs : List ℕ) → is_in s xs ≡ true → In s xs
is_in-in s [] q = clash _ q refl
is_in-in s (x ∷ xs) q = by (eqb x s) refl q (is_in-in s xs)
  where
    by : (b : Bool) → eqb x s ≡ b → (b || is_in s xs) ≡ true → (is_in s xs ≡ true → In s xs) → In s (x ∷ xs)
    by true z q ih = inl (sym (eqb-true x s z))
    by false z q ih = inr (ih q)

module _ (p : Procedure) (whole : Whole p) (inside : Inside p) where
  module _ (outside : Outside) (address : Address) (g g' : Regs) (starts : Starts address p g g') where
    abbrev E : Setting
    E = setting outside address p whole

    -- registers that aren't local start alike
    meets : Meet E g g'
    meets r q = starts.same r (E.shared_old r q)

    -- from p to a good program, with the second run's registers
    to_good : (m : ℕ) (P : List (List Code)) → Shortens E p.blocks P → Good E m P → (κ : ℕ) (rs : List ℕ) (b : ℕ)
        → Shorter (mach outside address κ p) (mach outside address κ (code E rs P)) (start outside address p b g) (at (get_or P b []) g' [])
    to_good m P s k κ rs b = shorter_trans (s κ p.registers [] b g [] starts.loaded) (settle E m P k κ [] rs b g g' [] starts.loaded meets)

  -- a good program of p's setting in place of p, with nothing rescued
  abbrev Better : List (List Code) → Type 0
  Better P = (outside : Outside) (address : Address) → let E = setting outside address p whole in (m : ℕ) × Shortens E p.blocks P × Good E m P

  good_kept : (rs : List ℕ) (P : List (List Code)) → Better P → (b : ℕ)
      → AlikeFrom b (λ N entries. N + 0 * entries) p (record { registers = rs; blocks = P; body = p.body; operands = p.operands; tables = p.tables })
  good_kept rs P w b outside address g g' s =
      let t = w outside address in
      let q = code (setting outside address p whole) rs P in
      alike outside address p q b 0 g g' 0 0 (omega arith) quiet (to_good outside address g g' s t.0 P t.1 t.2 0 rs b)
    where
      quiet : (i : ℕ) → i ≤ 0 → shows outside address (code (setting outside address p whole) rs P) b g' i ≡ shows outside address p b g 0
      quiet zero l = refl
      quiet (suc i) l = absurd (omega arith)

  same_better : Better p.blocks
  same_better outside address =
      let k = good outside address p whole inside in
      (length p.registers, (edited-none (setting outside address p whole) (length p.registers) p.blocks k).shortens, k)

  unchanged-kept : Kept p (unchanged p)
  unchanged-kept b r = good_kept p.registers p.blocks same_better b

  -- "Equal arms."
  pub arms-kept : Kept p (arms_joined p)
  arms-kept b r =
      good_kept p.registers (equal_arms p.blocks).blocks
      (λ outside address. let x = arms outside address p whole inside in (length p.registers, x.shortens, x.good)) b

  -- "Thread."
  abbrev f : Facts
  f = counted_in (arms_joined p).procedure

  abbrev w : Work
  w = thread f (equal_arms p.blocks).blocks

  abbrev marks : List Bool
  marks = reached p.tables w.blocks

  -- "Emit."
  abbrev others : List (List Code)
  others = empty_from 0 marks w.blocks

  abbrev moved : List Code
  moved = rescues f marks w.blocks

  abbrev q : Procedure
  q = record { registers = p.registers ++ w.kinds; blocks = onto_front moved others; body = p.body; operands = p.operands; tables = p.tables }

  module _ (outside : Outside) (address : Address) where
    abbrev F : Setting
    F = setting outside address p whole

    threaded : Onward F f (size_is outside address p whole inside) (same-one outside address p whole inside) (known outside address p whole inside)
        (unthreaded (equal_arms p.blocks).blocks) w
    threaded =
        thread-onward F f (size_is outside address p whole inside) (same-one outside address p whole inside) (known outside address p whole inside)
        (equal_arms p.blocks).blocks (kept outside address p whole inside)

    good_w : Good F (next_number f w) w.blocks
    good_w = threaded.kept.good

    shortens_w : Shortens F p.blocks w.blocks
    shortens_w = shortens_then F p.blocks (equal_arms p.blocks).blocks w.blocks (arms outside address p whole inside).shortens threaded.shortens

    constants : Each (Constant F) moved
    constants = each_map _ _ (λ x t. constant x t.0 t.1) moved (rescues-each (Fine F) f marks w.blocks good_w.fine)
      where
        constant : (x : Code) → Fine F x → is_rescued f x ≡ true → Constant F x
        constant x fine t =
            let s = and_parts (is_fixed (fixed_of x.inst)) (any_of f.single (defs_of x.inst)) t in
            let u = fixed_constant address x.inst s.0 in
            let r = any_in f.single (defs_of x.inst) s.1 in
            let d = u.2.d in
            let e : r.0 ≡ d = only r.0 d (subst (In r.0) u.2.one r.2) in
            let o : F.one d ≡ true = subst (λ z. F.one z ≡ true) e (counted-one outside address p whole inside r.0 r.1) in
            record {
              d = d;
              v = u.0;
              one = u.2.one;
              single = fine d (subst (In d) (sym u.2.one) (inl refl)) o ∙ u.1;
              writes_v = u.1;
            }
          where
            only : (r d : ℕ) → In r (d ∷ []) → r ≡ d
            only r d (inl z) = z
            only r d (inr z) = absurd z

    fine_others : (b : ℕ) → Each (Fine F) (get_or others b [])
    fine_others = emptied-each (Fine F) (λ l s r k. absurd k) 0 marks w.blocks good_w.fine

    -- from a marked block
    emitted-from : (b : ℕ) → Marked p.tables w.blocks b → (g g' : Regs) → Starts address p g g'
        → Alike (λ N. N + length moved * entries outside address p b g N) (shows outside address p b g) (shows outside address q b g')
    emitted-from b m g g' s =
        alike outside address p q b κ g g' 0 (κ * into_zero b) (omega arith)
        (rescued_quiet F [] q.registers others moved constants fine_others some b g' s.loaded')
        (subst (Shorter (mach outside address κ p) (mach outside address 0 q) (start outside address p b g))
        (sym (rescued-front F [] q.registers others moved constants fine_others some b g' s.loaded'))
        (shorter_trans (to_good outside address g g' s (next_number f w) w.blocks shortens_w good_w κ [] b)
        (shorter_trans
        (unreached F (Marked p.tables w.blocks) κ [] [] w.blocks others
        (λ b m. block-leads F (Marked p.tables w.blocks) (get_or w.blocks b []) (good_w.formed b)
        (λ t i. reached_closed p.tables w.blocks b t m i))
        (λ b m. kept_block 0 marks w.blocks b m) b m g' [])
        (rescued_runs F [] q.registers others moved constants fine_others some b g' [] s.loaded'))))
      where
        κ : ℕ
        κ = length moved

        some : (0 < length others) ⊎ (moved ≡ [])
        some = some_or_none f marks w.blocks

    -- a constant ends no block
    constant_end : (x : Code) → Constant F x → view_of x.inst ≡ e.Other
    constant_end x k = by (shape address x.inst)
      where
        by : Shape address x.inst → view_of x.inst ≡ e.Other
        by (constant d v p u l n f a) = f.view
        by (computed d G p l f a) = f.view
        by (acting u f a) = f.view
        by (going l v f a) = clash_some k.writes_v (varies address x.inst f.varies)
        by (testing c l m v u f a) = clash_some k.writes_v (varies address x.inst f.varies)
        by (casing n v f a) = clash_some k.writes_v (varies address x.inst f.varies)
        by (ending G v f a) = clash_some k.writes_v (varies address x.inst f.varies)

    constants_end : (c : List Code) → Each (Constant F) c → end_of c ≡ e.Other
    unfolding end_of
    constants_end [] k = refl
    constants_end (x ∷ []) k = constant_end x k.0
    constants_end (x ∷ y ∷ c) k = constants_end (y ∷ c) k.1

    -- a marked block leads where it led before, whatever stands at its front
    front-leads : (c : List Code) (t : ℕ) → In t (leads p.tables (end_of (moved ++ c))) → In t (leads p.tables (end_of c))
    front-leads [] t i = absurd (subst (λ v. In t (leads p.tables v)) (ap end_of (append-nil moved) ∙ constants_end moved constants) i)
    front-leads (x ∷ c) t i = subst (λ v. In t (leads p.tables v)) (end-append moved x c) i

    lead_on : (a t : ℕ) → Marked p.tables w.blocks a → In t (leads p.tables (end_of (get_or q.blocks a []))) → Marked p.tables w.blocks t
    lead_on a t m i = reached_closed p.tables w.blocks a t m (by a m i)
      where
        some : (0 < length others) ⊎ (moved ≡ [])
        some = some_or_none f marks w.blocks

        by : (a : ℕ) → Marked p.tables w.blocks a → In t (leads p.tables (end_of (get_or q.blocks a [])))
            → In t (leads p.tables (end_of (get_or w.blocks a [])))
        by zero m i =
            front-leads (get_or w.blocks 0 []) t
            (subst (λ c. In t (leads p.tables (end_of c)))
            (at_front F [] q.registers others moved constants fine_others some ∙ ap (λ c. moved ++ c) (kept_block 0 marks w.blocks 0 m)) i)
        by (suc a) m i =
            subst (λ c. In t (leads p.tables (end_of c)))
            (elsewhere F [] q.registers others moved constants fine_others some a ∙ kept_block 0 marks w.blocks (suc a) m) i

    path_marked : (ss : List ℕ) (a b : ℕ) → Marked p.tables w.blocks a → Path (edges_of q.tables q.blocks) b a ss
        → Marked p.tables w.blocks b
    path_marked [] a b m z = subst (Marked p.tables w.blocks) z m
    path_marked (s ∷ ss) a b m z = path_marked ss s b
        (lead_on a s m (subst (In s) (edges_at p.tables q.blocks a) (is_in-in s (get_or (edges_of p.tables q.blocks) a []) z.0))) z.1

  emit-kept : Kept p (emit f (arms_joined p).procedure w)
  unfolding emit
  emit-kept b r outside address g g' s =
      emitted-from outside address b (path_marked outside address r.0 0 b (reached-zero p.tables w.blocks) r.1) g g' s

  -- the steps
  if_emitted : (t : Bool) → Kept p (emit_if t f (arms_joined p) w)
  if_emitted true = emit-kept
  if_emitted false = arms-kept

  if_threaded : (t : Bool) → Kept p (thread_if t (arms_joined p))
  if_threaded true = if_emitted w.edited
  if_threaded false = arms-kept

  unless-short : (t : Bool) → Kept p (threaded_unless t p)
  unless-short true = unchanged-kept
  unless-short false = if_threaded (looped_in p && may_thread (present p.body) (equal_arms p.blocks).blocks)

  -- the threaded form runs as the original does, from any block that it reaches
  pub threaded-kept : Kept p (threaded_form p)
  unfolding threaded_form
  threaded-kept = unless-short (short p)
