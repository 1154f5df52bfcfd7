-- Where no block is edited the storage stays as it was.
use Prim.Native.Nat.{ℕ, zero, suc, ◌/◌}
use mathlib.Core.Path.{◌≡◌, refl, sym, ap, ◌∙◌}
use mathlib.Core.Bool.{Bool, true, false, ◌&&◌, true≢false}
use mathlib.Core.List.{List, []}
use mathlib.Core.Logic.{◌⊎◌, inl, inr}
use Rattle.std.proofs.Common.{Option}
use lib.Dec.{leb}
use lib.ListN.{length, get_or}
use Rattle.ends.specs.declared.End.{End}
use Rattle.ends.specs.declared.End.TheVariants as e
use Rattle.ends.specs.Ends.{end_of}
use Rattle.blocks.specs.Blocks.{blocks_of}
use Rattle.steps.specs.Thread.{stops}
use Rattle.facts.specs.Storage.{facts_in}
use Rattle.hop_cond_br.specs.declared.Turn.{Turn}
use Rattle.hop_cond_br.specs.declared.Turn.TheVariants as u
use Rattle.hop_cond_br.specs.Storage.{turned, before, turned_in}
use Rattle.hop_br.specs.Storage.{grown_to}
use Rattle.thread.specs.Storage.{Store, store, turned_at, append_in, hop_br_in, hop_cond_br_in, hop_at_in, hop_in, onward_in, hops_in, nameable, thread_from_in, thread_in}
use Rattle.thread.proofs.Refined.{is_stay, stay-turned}

-- as it was, or edited
abbrev Kept : Store → Store → Type 0
Kept s t = (t ≡ s) ⊎ (t.at.edited ≡ true)

kept_then : (s t v : Store) → Kept s t → Kept t v → Kept s v
kept_then s t v h (inr f) = inr f
kept_then s t v h (inl f) = by h
  where
    by : Kept s t → Kept s v
    by (inl e) = inl (f ∙ e)
    by (inr e) = inr (ap (λ (x : Store). x.at.edited) f ∙ e)

turn-kept : (s : Store) (z : Turn) (code : List ℕ) → (is_stay z ≡ true → code ≡ s.work) → Kept s (turned_at s (turned code z)).to
turn-kept s u.Stay code h = inl (ap (λ (b : List ℕ). store b s.table s.kinds s.at) (h refl))
turn-kept s u.Last code h = inr refl
turn-kept s u.Next code h = inr refl

module _ (facts : List ℕ) (body : Option ℕ) (budget known copy : ℕ) where
  append-kept : (b : Bool) (s : Store) (a l : ℕ) → Kept s (append_in facts body budget known copy b s a l).to
  append-kept true s a l = inl refl
  append-kept false s a l = inr refl

  br_kept : (s : Store) (a l : ℕ) → Kept s (hop_br_in facts body budget known copy s a l).to
  unfolding hop_br_in
  br_kept s a l = append-kept (stops (facts_in facts body budget) (grown_to (blocks_of s.work s.table) s.at.grown) a l) s a l

  cond_br_kept : (s : Store) (a c t f : ℕ) → Kept s (hop_cond_br_in facts body budget known copy s a c t f).to
  unfolding hop_cond_br_in
  cond_br_kept s a c t f =
      let n = length (before s.table a s.work) in
      let room = leb n (known / 2) && leb n (copy / 2) in
      let z = turned_in s.table a facts body s.work c t f room in
      turn-kept s z.turn z.code (stay-turned s.table a s.work body c t f facts room)

  end_kept : (s : Store) (a : ℕ) (x : End) → Kept s (hop_at_in facts body budget known copy s a x).to
  end_kept s a (e.Br l) = br_kept s a l.0
  end_kept s a (e.CondBr c t f) = cond_br_kept s a c.0 t.0 f.0
  end_kept s a (e.Case n) = inl refl
  end_kept s a e.Other = inl refl

  hop-kept : (s : Store) (a : ℕ) → Kept s (hop_in facts body budget known copy s a).to
  unfolding hop_in
  hop-kept s a = end_kept s a (end_of (get_or (blocks_of s.work s.table) a []))

  onward-kept : (b : Bool) (s t : Store) (rest : Store → Store) → Kept s t → Kept t (rest t) → Kept s (onward_in facts body budget known copy b t rest)
  onward-kept true s t rest h i = kept_then s t (rest t) h i
  onward-kept false s t rest h i = h

  hops-kept : (k a : ℕ) (s : Store) → Kept s (hops_in facts body budget known copy k a s)
  unfolding hops_in
  hops-kept zero a s = inl refl
  hops-kept (suc k) a s =
      let z = hop_in facts body budget known copy s a in
      onward-kept z.more s z.to (hops_in facts body budget known copy k a) (hop-kept s a) (hops-kept k a z.to)

  from-kept : (n a : ℕ) (s : Store) → Kept s (thread_from_in facts body budget known copy n a s)
  unfolding thread_from_in
  from-kept zero a s = inl refl
  from-kept (suc n) a s =
      let t = hops_in facts body budget known copy 6 a s in
      kept_then s t (thread_from_in facts body budget known copy n (suc a) t) (hops-kept 6 a s) (from-kept n (suc a) t)

  pub unedited : (work table kinds : List ℕ) (top : ℕ) → (thread_in facts body budget known copy work table kinds top).at.edited ≡ false
      → thread_in facts body budget known copy work table kinds top ≡ store work table kinds (record { top = top; grown = 0; fresh = 0; edited = false })
  unedited work table kinds top q = by (from-kept (nameable table) 0 start)
    where
      start : Store
      start = store work table kinds (record { top = top; grown = 0; fresh = 0; edited = false })

      by : Kept start (thread_in facts body budget known copy work table kinds top) → thread_in facts body budget known copy work table kinds top ≡ start
      by (inl e) = e
      by (inr e) = absurd (true≢false (sym e ∙ q))
