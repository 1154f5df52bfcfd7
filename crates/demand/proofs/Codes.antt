-- Laws of some code: what it exposes, its parts, how it ends.
use Prim.Native.Nat.{ℕ, zero, suc, ◌≤◌, ◌<◌}
use mathlib.Core.Path.{◌≡◌, refl, sym, ap}
use mathlib.Core.Logic.{◌⊎◌, inl, inr}
use mathlib.Core.List.{List, [], ◌∷◌, ◌++◌}
use native.Mathlib.Omega.{arith}
use native.Mathlib.Decide.{ℕ_discrete, dec_lt}
use lib.ListN.{length, get_or, set}
use lib.Seq.{get_or-set_same, get_or-set_other}
use Rattle.inst.specs.declared.Code.{Code}
use Rattle.inst.specs.declared.Inst.{Inst}
use Rattle.ends.specs.declared.End.{End}
use Rattle.ends.specs.declared.End.TheVariants as e
use Rattle.ends.specs.Ends.{view_of, end_of, lone_of, front, with_end}
use Rattle.codec.specs.Codec.{with_inst}
use Rattle.demand.specs.Setting.{In, Each, Front, defs_at, reads_at, Written, Read, Exposed}
use Rattle.demand.proofs.Basics.{dec_in}

pub each_append : (F : Code → Type 0) (c d : List Code) → Each F c → Each F d → Each F (c ++ d)
each_append F [] d p q = q
each_append F (x ∷ c) d p q = (p.0, each_append F c d p.1 q)

pub each_left : (F : Code → Type 0) (c d : List Code) → Each F (c ++ d) → Each F c
each_left F [] d p = tt
each_left F (x ∷ c) d p = (p.0, each_left F c d p.1)

pub each_right : (F : Code → Type 0) (c d : List Code) → Each F (c ++ d) → Each F d
each_right F [] d p = p
each_right F (x ∷ c) d p = each_right F c d p.1

pub each_map : (F G : Code → Type 0) → ((x : Code) → F x → G x) → (c : List Code) → Each F c → Each G c
each_map F G f [] p = tt
each_map F G f (x ∷ c) p = (f x p.0, each_map F G f c p.1)

-- before the last instruction: each of the code before the end of some code
pub front-each : (F : Code → Type 0) (c : List Code) → Front F c → Each F (front c)
unfolding front
front-each F [] p = tt
front-each F (x ∷ []) p = tt
front-each F (x ∷ y ∷ c) p = (p.0, front-each F (y ∷ c) p.1)

pub each-front : (F : Code → Type 0) (c d : List Code) → Each F c → Front F d → Front F (c ++ d)
each-front F [] d p q = q
each-front F (x ∷ []) [] p q = tt
each-front F (x ∷ []) (y ∷ d) p q = (p.0, q)
each-front F (x ∷ y ∷ c) d p q = (p.0, each-front F (y ∷ c) d p.1 q)

module _ (ops : List ℕ) where
  pub exposed-left : (c d : List Code) (r : ℕ) → Exposed ops c r → Exposed ops (c ++ d) r
  exposed-left [] d r x = absurd x
  exposed-left (y ∷ c) d r (inl m) = inl m
  exposed-left (y ∷ c) d r (inr x) = inr (x.0, exposed-left c d r x.1)

  pub exposed-right : (c d : List Code) (r : ℕ) → ¬ (Written c r) → Exposed ops d r → Exposed ops (c ++ d) r
  exposed-right [] d r n x = x
  exposed-right (y ∷ c) d r n x = inr (λ m. n (inl m), exposed-right c d r (λ w. n (inr w)) x)

  pub exposed_split : (c d : List Code) (r : ℕ) → Exposed ops (c ++ d) r → Exposed ops c r ⊎ ((¬ (Written c r)) × Exposed ops d r)
  exposed_split [] d r x = inr (λ w. w, x)
  exposed_split (y ∷ c) d r (inl m) = inl (inl m)
  exposed_split (y ∷ c) d r (inr x) = by (exposed_split c d r x.1)
    where
      by : Exposed ops c r ⊎ ((¬ (Written c r)) × Exposed ops d r) → Exposed ops (y ∷ c) r ⊎ ((¬ (Written (y ∷ c) r)) × Exposed ops d r)
      by (inl z) = inl (inr (x.0, z))
      by (inr z) = inr (λ w. elim w [ inl m ↦ x.0 m | inr v ↦ z.0 v ], z.1)

  -- read and not written
  pub read-exposed : (c : List Code) (r : ℕ) → Read ops c r → ¬ (Written c r) → Exposed ops c r
  read-exposed [] r x n = absurd x
  read-exposed (y ∷ c) r (inl m) n = inl m
  read-exposed (y ∷ c) r (inr x) n = inr (λ m. n (inl m), read-exposed c r x (λ w. n (inr w)))

  pub exposed-read : (c : List Code) (r : ℕ) → Exposed ops c r → Read ops c r
  exposed-read [] r x = absurd x
  exposed-read (y ∷ c) r (inl m) = inl m
  exposed-read (y ∷ c) r (inr x) = inr (exposed-read c r x.1)

  pub read_split : (c d : List Code) (r : ℕ) → Read ops (c ++ d) r → Read ops c r ⊎ Read ops d r
  read_split [] d r x = inr x
  read_split (y ∷ c) d r (inl m) = inl (inl m)
  read_split (y ∷ c) d r (inr x) = by (read_split c d r x)
    where
      by : Read ops c r ⊎ Read ops d r → Read ops (y ∷ c) r ⊎ Read ops d r
      by (inl z) = inl (inr z)
      by (inr z) = inr z

  pub read_left : (c d : List Code) (r : ℕ) → Read ops c r → Read ops (c ++ d) r
  read_left [] d r x = absurd x
  read_left (y ∷ c) d r (inl m) = inl m
  read_left (y ∷ c) d r (inr x) = inr (read_left c d r x)

  pub read_right : (c d : List Code) (r : ℕ) → Read ops d r → Read ops (c ++ d) r
  read_right [] d r x = x
  read_right (y ∷ c) d r x = inr (read_right c d r x)

  pub dec_read : (c : List Code) (r : ℕ) → Dec (Read ops c r)
  dec_read [] r = no (λ x. x)
  dec_read (y ∷ c) r = by (dec_in r (reads_at ops y)) (dec_read c r)
    where
      by : Dec (In r (reads_at ops y)) → Dec (Read ops c r) → Dec (Read ops (y ∷ c) r)
      by (yes m) d = yes (inl m)
      by (no n) (yes x) = yes (inr x)
      by (no n) (no k) = no (λ z. elim z [ inl m ↦ n m | inr x ↦ k x ])

pub dec_written : (c : List Code) (r : ℕ) → Dec (Written c r)
dec_written [] r = no (λ x. x)
dec_written (y ∷ c) r = by (dec_in r (defs_at y)) (dec_written c r)
  where
    by : Dec (In r (defs_at y)) → Dec (Written c r) → Dec (Written (y ∷ c) r)
    by (yes m) d = yes (inl m)
    by (no n) (yes x) = yes (inr x)
    by (no n) (no k) = no (λ z. elim z [ inl m ↦ n m | inr x ↦ k x ])

-- some code by its last instruction
pub record Ended (c : List Code) : Type 0 where
  pub last : Code
  pub is : c ≡ front c ++ (last ∷ [])
  pub view : view_of last.inst ≡ end_of c
  pub rewritten : (i : Inst) → with_end i c ≡ front c ++ (with_inst i last ∷ [])

pub ended : (x : Code) (c : List Code) → Ended (x ∷ c)
unfolding front end_of with_end
ended x [] = record { last = x; is = refl; view = refl; rewritten = λ i. refl }
ended x (y ∷ c) =
    let t = ended y c in
    record { last = t.last; is = ap (λ z. x ∷ z) t.is; view = t.view; rewritten = λ i. ap (λ z. x ∷ z) (t.rewritten i) }

-- some code ends in a branch, so it isn't empty
pub ends-in : (c : List Code) (v : End) → end_of c ≡ v → ¬ (v ≡ e.Other) → Ended c
unfolding end_of
ends-in [] v q n = absurd (n (sym q))
ends-in (x ∷ c) v q n = ended x c

-- the end of code joined to some other
pub end-append : (c : List Code) (x : Code) (d : List Code) → end_of (c ++ (x ∷ d)) ≡ end_of (x ∷ d)
unfolding end_of
end-append [] x d = refl
end-append (y ∷ []) x d = refl
end-append (y ∷ z ∷ c) x d = end-append (z ∷ c) x d

pub front-append : (c : List Code) (x : Code) (d : List Code) → front (c ++ (x ∷ d)) ≡ c ++ front (x ∷ d)
unfolding front
front-append [] x d = refl
front-append (y ∷ []) x d = refl
front-append (y ∷ z ∷ c) x d = ap (λ w. y ∷ w) (front-append (z ∷ c) x d)

-- a lone branch is the whole of its block
pub lone_is : (c : List Code) (v : End) → lone_of c ≡ v → ¬ (v ≡ e.Other) → (x : Code) × (c ≡ x ∷ []) × (view_of x.inst ≡ v)
lone_is [] v q n = absurd (n (sym q))
lone_is (x ∷ []) v q n = (x, refl, q)
lone_is (x ∷ y ∷ c) v q n = absurd (n (sym q))

-- one block set
pub in-range : (P : List (List Code)) (a : ℕ) → ¬ (get_or P a [] ≡ []) → a < length P
in-range P a n = by (dec_lt a (length P))
  where
    past : (P : List (List Code)) (a : ℕ) → length P ≤ a → get_or P a [] ≡ []
    past [] a l = refl
    past (x ∷ P) zero l = absurd (omega arith)
    past (x ∷ P) (suc a) l = past P a (omega arith)

    by : Dec (a < length P) → a < length P
    by (yes l) = l
    by (no k) = absurd (n (past P a (omega arith)))

pub set-block : (P : List (List Code)) (a : ℕ) (c : List Code) → a < length P → (b : ℕ)
    → ((b ≡ a) × (get_or (set P a c) b [] ≡ c)) ⊎ (get_or (set P a c) b [] ≡ get_or P b [])
set-block P a c l b = by (ℕ_discrete b a)
  where
    by : Dec (b ≡ a) → ((b ≡ a) × (get_or (set P a c) b [] ≡ c)) ⊎ (get_or (set P a c) b [] ≡ get_or P b [])
    by (yes q) = inl (q, rw q (get_or-set_same P a c [] l))
    by (no n) = inr (get_or-set_other P a b c [] n)
