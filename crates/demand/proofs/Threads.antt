-- Equal arms and Thread, each a row of edits: the shortened program is good, and its run is the old one's.
use Prim.Native.Nat.{ℕ, zero, suc, ◌+◌}
use mathlib.Core.Path.{◌≡◌, refl, subst}
use mathlib.Core.List.{List, [], ◌++◌}
use Rattle.std.proofs.Common.{Some}
use mathlib.Core.Bool.{Bool, true, false, ◌&&◌}
use native.Mathlib.Omega.{arith}
use lib.Dec.{eqb, ltb}
use lib.ListN.{length, get_or, set, length-append}
use borrow.Author.Tests.{eqb-true}
use Rattle.inst.specs.declared.Code.{Code}
use Rattle.ends.specs.declared.End.{End}
use Rattle.ends.specs.declared.End.TheVariants as e
use Rattle.ends.specs.Ends.{end_of}
use Rattle.steps.specs.EqualArms.{reached_from, Arms, join_if, join_end, join_arms, join_from, equal_arms}
use Rattle.steps.specs.Facts.{Facts}
use Rattle.steps.specs.Copy.{kinds_of}
use Rattle.steps.specs.Thread.{Work, block_at, edit, next_number, thread, unthreaded}
use Rattle.steps.proofs.Copied.{stops-small}
use Rattle.steps.proofs.Edits.{Edit, Edits, joins, folds, turns, nil, then, thread_edits}
use Rattle.demand.specs.Setting.{Setting}
use Rattle.demand.proofs.Branches.{Good}
use Rattle.demand.proofs.Rewrites.{Shortens, Edited, edited-none, edited_then, shortens_then}
use Rattle.demand.proofs.Rewrites.{joins_arms, folds_known, folds_sparse, turns_to, turns_sparse}
use Rattle.demand.proofs.Join.{AllSparse, joins_code, joins_sparse}

module _ (E : Setting) where
  -- "Equal arms."
  module _ (m : ℕ) where
    arms_if : (b : Bool) (k to : ℕ) (s : Arms) → Good E m s.blocks → (b ≡ true → Edited E m m s.blocks (join_if true k to s).blocks)
        → Edited E m m s.blocks (join_if b k to s).blocks
    arms_if true k to s good p = p refl
    arms_if false k to s good p = edited-none E m s.blocks good

    arms_end : (v : End) (k : ℕ) (s : Arms) → end_of (get_or s.blocks k []) ≡ v → Good E m s.blocks → Edited E m m s.blocks (join_end v k s).blocks
    arms_end (e.Br l) k s q good = edited-none E m s.blocks good
    arms_end (e.CondBr c t u) k s q good =
        arms_if (eqb (reached_from s.blocks t.0) (reached_from s.blocks u.0)) k (reached_from s.blocks t.0) s good
        (λ p. joins_arms E m s.blocks good k c t u q (eqb-true _ _ p))
    arms_end (e.Case n) k s q good = edited-none E m s.blocks good
    arms_end e.Other k s q good = edited-none E m s.blocks good

    arms-from : (n k : ℕ) (s : Arms) → Good E m s.blocks → Edited E m m s.blocks (join_from n k s).blocks
    unfolding join_from join_arms
    arms-from zero k s good = edited-none E m s.blocks good
    arms-from (suc n) k s good =
        let x = arms_end (end_of (get_or s.blocks k [])) k s refl good in
        edited_then E x (arms-from n (suc k) (join_arms k s) x.good)

    pub arms-edited : (P : List (List Code)) → Good E m P → Edited E m m P (equal_arms P).blocks
    arms-edited P good = arms-from (length P) 0 (record { blocks = P; edited = false }) good

  -- "Thread."
  module _ (f : Facts) (size_is : length f.registers ≡ E.size)
      (same-one : (r : ℕ) → (ltb r (length f.registers) && f.single r) ≡ E.one r) (known : (r v : ℕ) → f.const r ≡ Some v → E.single r ≡ Some v) where
    pub record Kept (w : Work) : Type 0 where
      pub good : Good E (next_number f w) w.blocks
      pub sparse : AllSparse E f same-one w.blocks

    pub record Onward (w w' : Work) : Type 0 where
      pub kept : Kept w'
      pub shortens : Shortens E w.blocks w'.blocks

    next_more : (w : Work) (ks : List ℕ) → next_number f w + length ks ≡ length f.registers + length (w.kinds ++ ks)
    next_more w ks = omega (arith, length-append w.kinds ks)

    onward : (w : Work) (a : ℕ) (c : List Code) (ks : List ℕ) (n : ℕ)
        → Edited E (next_number f w) (next_number f w + length ks) w.blocks (set w.blocks a c)
        → AllSparse E f same-one (set w.blocks a c) → Onward w (edit w a c ks n)
    onward w a c ks n x s =
        record { kept = record { good = subst (λ m. Good E m (set w.blocks a c)) (next_more w ks) x.good; sparse = s }; shortens = x.shortens }

    same_next : (m : ℕ) {P P' : List (List Code)} → Edited E m m P P' → Edited E m (m + length {A = ℕ} []) P P'
    same_next m x = let q : m + 0 ≡ m = omega arith in rw q x

    pub edit-onward : {w w' : Work} → Edit f w w' → Kept w → Onward w w'
    edit-onward (joins w a l q s) k =
        onward w a _ (kinds_of f (block_at w l.0)) _
        (joins_code E f same-one (next_number f w) (omega arith) w.blocks k.good k.sparse a l q (stops-small f w a l.0 s))
        (joins_sparse E f same-one (next_number f w) (omega arith) w.blocks k.good k.sparse a l q (stops-small f w a l.0 s))
    edit-onward (folds w a c t u n p q) k =
        onward w a _ [] _ (same_next (next_number f w) (folds_known E (next_number f w) w.blocks k.good a c t u p f known n q))
        (λ d x y. folds_sparse E (next_number f w) w.blocks k.good a c t u p f known n d (k.sparse d x y))
    edit-onward (turns w a c t u p) k =
        onward w a _ [] _ (same_next (next_number f w) (turns_to E (next_number f w) w.blocks k.good a c t u p f known w refl))
        (λ d x y. turns_sparse E (next_number f w) w.blocks k.good a c t u p f known _ _ d (k.sparse d x y))

    edits_onward : {w w' : Work} → Edits f w w' → Kept w → Onward w w'
    edits_onward (nil w) k = record { kept = k; shortens = (edited-none E (next_number f w) w.blocks k.good).shortens }
    edits_onward (then {w = w} {w' = w'} {w'' = w''} x xs) k =
        let y = edit-onward x k in
        let z = edits_onward xs y.kept in
        record {
          kept = z.kept;
          shortens = shortens_then E w.blocks w'.blocks w''.blocks y.shortens z.shortens;
        }

    pub thread-onward : (P : List (List Code)) → Kept (unthreaded P) → Onward (unthreaded P) (thread f P)
    thread-onward P k = edits_onward (thread_edits f P) k
