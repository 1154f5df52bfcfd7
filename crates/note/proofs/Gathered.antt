-- Laws of `notes`: one instruction more, and the end. And `note` asks of its facts the kinds and the constants alone.
use Prim.Native.Nat.{ℕ, suc, ◌+◌, ◌≤◌, ◌<◌}
use native.Mathlib.Numerals.{add-one}
use mathlib.Core.Path.{◌≡◌, refl, sym, ap, ◌∙◌}
use mathlib.Core.List.{List, [], ◌∷◌}
use Rattle.std.proofs.Common.{Option, None}
use lib.ListN.{length, get_or, drop, drop_of_length-le}
use lib.Seq.{drop-cons}
use Rattle.inst.specs.declared.Inst.{Inst}
use Rattle.inst.specs.declared.Inst.TheVariants as i
use Rattle.inst.specs.declared.Code.{Code}
use Rattle.roles.specs.Roles.{defs_of}
use Rattle.ends.specs.Forms.{form_of}
use Rattle.steps.specs.Facts.{Facts}
use Rattle.facts.specs.Storage.{facts_in}
use Rattle.steps.specs.Note.{Known, forget_all, source_of, learn, note, notes}

module _ (f : Facts) (l : List Code) (k : ℕ) (s : Known) {w : Known} where
  pub notes_again : (d : Code) {t : Known} → k < length l → t ≡ note f s (get_or l k d).inst → notes f s (drop k l) ≡ w → notes f t (drop (k + 1) l) ≡ w
  unfolding notes
  notes_again d h e i =
      rw (add-one k)
      (ap (λ (x : Known). notes f x (drop (suc k) l)) e
      ∙ sym (ap (notes f s) (drop-cons l k d h))
      ∙ i)

  pub notes-done : length l ≤ k → notes f s (drop k l) ≡ w → s ≡ w
  unfolding notes
  notes-done h i = sym (ap (notes f s) (drop_of_length-le l h)) ∙ i

-- facts with the same kinds and constants give the same
module _ (f g : Facts) (same : f.registers ≡ g.registers) (told : (r : ℕ) → f.const r ≡ g.const r) where
  learn-same : (k : Known) (x : Inst) → learn f k x ≡ learn g k x
  unfolding learn form_of
  learn-same k (i.Const d v) = refl
  learn-same k (i.Move d s) = rw (same, told (source_of k s.0))
  learn-same k (i.Bool op d x y) = rw (told x.0, told y.0)
  learn-same k (i.ConstF d v) = refl
  learn-same k (i.AddrOf d s o) = refl
  learn-same k (i.Select d c x y) = refl
  learn-same k (i.Cmp op d x y) = refl
  learn-same k (i.Bin op d x y) = refl
  learn-same k (i.BinRange op d x y l h w) = refl
  learn-same k (i.Load d a w) = refl
  learn-same k (i.Store a s w) = refl
  learn-same k (i.Check c v l h w) = refl
  learn-same k (i.MakeDope a p) = refl
  learn-same k (i.DopeLen d p n) = refl
  learn-same k (i.BoundsLen d l r e) = refl
  learn-same k (i.Alloc d s) = refl
  learn-same k (i.TakeBounds l r e) = refl
  learn-same k (i.CallNative n a d) = refl
  learn-same k (i.Br t) = refl
  learn-same k (i.CondBr c t e) = refl
  learn-same k (i.Case v t) = refl
  learn-same k (i.Ret v) = refl
  learn-same k (i.Unreachable w) = refl
  learn-same k i.Stmt = refl

  pub note-same : (k : Known) (x : Inst) → note f k x ≡ note g k x
  note-same k x = learn-same (forget_all (defs_of x) k) x

  pub notes-same : (k : Known) (c : List Code) → notes f k c ≡ notes g k c
  unfolding notes
  notes-same k [] = refl
  notes-same k (x ∷ c) = ap (λ (s : Known). notes f s c) (note-same k x.inst) ∙ notes-same (note g k x.inst) c

-- so the body and the budget don't matter
pub notes_any : (t : List ℕ) (body : Option ℕ) (budget : ℕ) (k : Known) (c : List Code) → notes (facts_in t None 0) k c ≡ notes (facts_in t body budget) k c
notes_any t body budget k c = notes-same (facts_in t None 0) (facts_in t body budget) refl (λ r. refl) k c
