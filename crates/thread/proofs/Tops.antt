-- How far the arena goes: a join touches no other block.
use Prim.Native.Nat.{ℕ, suc, ◌+◌, ◌-◌, ◌≤◌}
use native.Mathlib.Omega.{arith}
use mathlib.Core.Path.{◌≡◌, refl, sym, subst, ◌∙◌}
use mathlib.Core.Bool.{Bool, true, false}
use mathlib.Core.List.{List, [], ◌∷◌}
use lib.ListN.{length, set, length-set}
use Rattle.records.specs.Record.{record_at}
use Rattle.put_record.proofs.Laws.{put-length}
use Rattle.inst.specs.declared.Code.{Code}
use Rattle.codec.specs.Codec.{record_of}
use Rattle.items.specs.Items.{block_record}
use Rattle.arena.specs.Arena.{Arena, arena, Topped, topped, size_of, moves, to_end, popped, pop, grows, push, push_all}
use Rattle.arena.proofs.Laws.{moving, by_moves, by_popped, by_grows}
use Rattle.arena.proofs.Moved.{copied-length}
use Rattle.arena.proofs.Pointed.{pointed-other}
use Rattle.hop_br.specs.Storage.{kinds_put, cut, replaced}

-- as long as before, with all blocks but block a where they were, and the top at n or below
pub record Far (a n : ℕ) (s t : Arena) : Type 0 where
  pub work : length t.work ≡ length s.work
  pub table : length t.table ≡ length s.table
  pub others : (j : ℕ) → (j ≡ a → ⊥) → record_at t.table j ≡ record_at s.table j
  pub top : t.top ≤ n

stays : (a n : ℕ) (s : Arena) → s.top ≤ n → Far a n s s
stays a n s h = record { work = refl; table = refl; others = λ j d. refl; top = h }

far_then : {a m n k : ℕ} {s t v : Arena} → n ≤ k → Far a m s t → Far a n t v → Far a k s v
far_then h f g =
    let y = g.top in
    record {
      work = g.work ∙ f.work;
      table = g.table ∙ f.table;
      others = λ j d. g.others j d ∙ f.others j d;
      top = omega arith;
    }

push_far : (a : ℕ) (c : Code) (s : Arena) → Far a (s.top + 1) s (push a c s)
push_far a c s = go (grows s.work (record_at s.table a) s.top) refl
  where
    go : (b : Bool) → grows s.work (record_at s.table a) s.top ≡ b → Far a (s.top + 1) s (push a c s)
    go true e =
        let r = record_at s.table a in
        subst (Far a (s.top + 1) s) (by_grows a c s refl (sym e))
        (record {
          work = put-length s.work s.top (record_of c);
          table = put-length s.table a (block_record (record { start = r.p1; end = s.top + 1 }));
          others = pointed-other s.table a r.p1 (s.top + 1);
          top = omega arith;
        })
    go false e = subst (Far a (s.top + 1) s) (by_grows a c s refl (sym e)) (stays a (s.top + 1) s (omega arith))

all_far : (a : ℕ) (c : List Code) (s : Arena) → Far a (s.top + length c) s (push_all a c s)
unfolding push_all
all_far a [] s = stays a (s.top + 0) s (omega arith)
all_far a (x ∷ c) s =
    let f = push_far a x s in
    let t = f.top in
    far_then (omega arith) f (all_far a c (push a x s))

abbrev CutTo : ℕ → Arena → Topped → Type 0
CutTo a s t = Far a s.top s (arena s.work t.table t.top)

cut_far : (a : ℕ) (s : Arena) → Far a s.top s (cut a s)
unfolding cut
cut_far a s = go (popped (record_at s.table a) s.top) refl
  where
    go : (b : Bool) → popped (record_at s.table a) s.top ≡ b → CutTo a s (pop a (topped s.table s.top))
    go true e =
        let r = record_at s.table a in
        subst (CutTo a s) (by_popped a (topped s.table s.top) refl (sym e))
        (record {
          work = refl;
          table = put-length s.table a (block_record (record { start = r.p1; end = r.p2 - 1 }));
          others = pointed-other s.table a r.p1 (r.p2 - 1);
          top = omega arith;
        })
    go false e = subst (CutTo a s) (by_popped a (topped s.table s.top) refl (sym e)) (stays a s.top s (omega arith))

end_far : (a : ℕ) (s : Arena) → Far a (s.top + size_of (record_at s.table a)) s (to_end a s)
end_far a s = go (moves s.work (record_at s.table a) s.top) refl
  where
    go : (b : Bool) → moves s.work (record_at s.table a) s.top ≡ b → Far a (s.top + size_of (record_at s.table a)) s (to_end a s)
    go true e =
        let r = record_at s.table a in
        subst (Far a (s.top + size_of r) s) (by_moves a s refl (sym e))
        (record {
          work = copied-length s.work r s.top (moving s.work r s.top e);
          table = put-length s.table a (block_record (record { start = s.top; end = s.top + size_of r }));
          others = pointed-other s.table a s.top (s.top + size_of r);
          top = omega arith;
        })
    go false e = subst (Far a (s.top + size_of (record_at s.table a)) s) (by_moves a s refl (sym e)) (stays a _ s (omega arith))

-- from where block a was cut, as far as the code is long
pub replaced_far : (a : ℕ) (c : List Code) (s : Arena) → Far a ((cut a (to_end a s)).top + length c) s (replaced a c s)
unfolding replaced
replaced_far a c s =
    let t = to_end a s in
    far_then {m = t.top} (omega arith) (far_then (omega arith) (end_far a s) (cut_far a t)) (all_far a c (cut a t))

pub kinds_long : (b : List ℕ) (at : ℕ) (ks : List ℕ) → length (kinds_put b at ks) ≡ length b
unfolding kinds_put
kinds_long b at [] = refl
kinds_long b at (k ∷ ks) = kinds_long (set b at k) (suc at) ks ∙ length-set b at k
