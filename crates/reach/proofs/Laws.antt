-- The marks are those that Emit is defined with.
use Prim.Native.Nat.{ℕ, zero, suc, ◌+◌, ◌-◌, ◌/◌, ◌≤◌, ◌<◌}
use native.Mathlib.Nat.{add-zero}
use native.Mathlib.Omega.{arith}
use mathlib.Core.Path.{◌≡◌, refl, sym, ap, subst, ◌∙◌}
use mathlib.Core.Bool.{Bool, true, false, cond, false≢true}
use mathlib.Core.List.{List, [], ◌∷◌, ◌++◌, map}
use mathlib.Core.Logic.{◌⊎◌, inl, inr, ⊎_elim}
use borrow.Author.Tests.{eq-eqb, ne_eqb}
use lib.Dec.{eqb}
use lib.ListN.{length, get_or, replicate, length-map}
use lib.Seq.{take_all}
use Rattle.general.proofs.Booleans.{cases}
use Rattle.records.specs.declared.Record.{Record}
use Rattle.records.specs.Record.{records_of}
use Rattle.read.specs.Structure.{numbered, is_default}
use Rattle.read.proofs.Laws.{Numbered, first_table, last-default, next-table}
use Rattle.inst.specs.declared.Code.{Code}
use Rattle.procedure.specs.Procedure.{Arm, Table, arm_of, tables_from, table_at}
use Rattle.paths.specs.Paths.{is_in, Path, Leads, reached_from}
use Rattle.paths.proofs.Paths.{in-cons, marked_inside, leads_on, length-reached, reached-is, search_is}
use Rattle.ends.specs.declared.End.{End}
use Rattle.ends.specs.declared.End.TheVariants as e
use Rattle.ends.specs.Ends.{end_of}
use Rattle.blocks.specs.Blocks.{blocks_of}
use Rattle.blocks.proofs.Parts.{length-blocks}
use Rattle.steps.specs.Emit.{arm_targets, leads, edges_of, reached}
use Rattle.reach.specs.Reached.{targets_in, leads_in, edges_in, marks_of, seen_in}
use Rattle.reach.proofs.Edges.{length_edges}

-- targets are the same, or there is no table, which is taken to lead to block 0
abbrev Same : List ℕ → List ℕ → Type 0
Same xs ys = (xs ≡ ys) ⊎ ((xs ≡ []) × (ys ≡ 0 ∷ []))

-- block 0 is marked anyway, so the marks are the same
module _ (es fs : List (List ℕ)) (size : length es ≡ length fs) (some : 0 < length es) (each : (a : ℕ) → Same (get_or es a []) (get_or fs a [])) where
  there : (b : ℕ) (ss : List ℕ) (a : ℕ) → Path es b a ss → Path fs b a ss
  there b [] a p = p
  there b (s ∷ ss) a p = (
    ⊎_elim (λ (i : get_or es a [] ≡ get_or fs a []). rw (← i) p.0)
        (λ (i : (get_or es a [] ≡ []) × (get_or fs a [] ≡ 0 ∷ [])). absurd (false≢true (sym (ap (is_in s) i.0) ∙ p.0))) (each a),
    there b ss s p.1,
  )

  same-reached : reached_from es 0 ≡ reached_from fs 0
  same-reached = search_is fs 0 m (length-reached es 0 ∙ size) start (λ x i. let p = led x i in (p.0, there x p.0 0 p.1)) closed
    where
      m : List Bool
      m = reached_from es 0

      start : get_or m 0 false ≡ true
      start = (reached-is es 0 0 some).1 ([], refl)

      led : (x : ℕ) → get_or m x false ≡ true → Leads es 0 x
      led x i = (reached-is es 0 x (let l = length-reached es 0 in let h = marked_inside m x i in omega arith)).0 i

      closed : (x s : ℕ) → get_or m x false ≡ true → is_in s (get_or fs x []) ≡ true → s < length fs → get_or m s false ≡ true
      closed x s i j h = ⊎_elim
          (λ (q : get_or es x [] ≡ get_or fs x []). (reached-is es 0 s (rw size h)).1 (leads_on es 0 x s (led x i) (rw q j)))
          (λ (q : (get_or es x [] ≡ []) × (get_or fs x [] ≡ 0 ∷ [])). first (in-cons s 0 [] (subst (λ (l : List ℕ). is_in s l ≡ true) q.1 j))) (each x)
        where
          first : (0 ≡ s) ⊎ (is_in s [] ≡ true) → get_or m s false ≡ true
          first (inl q) = rw (← q) start
          first (inr q) = absurd (false≢true q)

some_table : (k : ℕ) (seen : List Arm) (r : Record) (rs : List Record) → Numbered k (r ∷ rs) → 0 < length (tables_from seen (r ∷ rs))
unfolding tables_from
some_table k seen r [] h = rw (last-default k r [] h refl) (omega arith)
some_table k seen r (q ∷ rs) h = by (cases (is_default r)) (some_table k (seen ++ (arm_of r ∷ [])) q rs)
  where
    by :
        (is_default r ≡ true) ⊎ (is_default r ≡ false)
        → (Numbered k (q ∷ rs) → 0 < length (tables_from (seen ++ (arm_of r ∷ [])) (q ∷ rs)))
        → 0 < length (tables_from seen (r ∷ q ∷ rs))
    by (inl d) g = rw d (omega arith)
    by (inr d) g = rw d (g (next-table k r (q ∷ rs) h k (rw d (add-zero k))))

-- the targets of the arms that stand before some, in the table that is open
abbrev before : ℕ → List Arm → List ℕ
before zero seen = map (λ a. a.target) seen
before (suc j) seen = []

-- table k + j, where arms from table k on are left: its targets, or there is none
abbrev Told : ℕ → List Arm → List Record → ℕ → Type 0
Told k seen rs j =
    (before j seen ++ targets_in (k + j) rs ≡ arm_targets (table_at (tables_from seen rs) j))
    ⊎ ((length (tables_from seen rs) ≤ j) × (targets_in (k + j) rs ≡ []) × (arm_targets (table_at (tables_from seen rs) j) ≡ 0 ∷ []))

map_more : (seen : List Arm) (a : Arm) (xs : List ℕ) → map (λ a. a.target) (seen ++ (a ∷ [])) ++ xs ≡ map (λ a. a.target) seen ++ (a.target ∷ xs)
map_more [] a xs = refl
map_more (b ∷ seen) a xs = ap (λ (l : List ℕ). b.target ∷ l) (map_more seen a xs)

before-none : (j : ℕ) → before j [] ≡ []
before-none zero = refl
before-none (suc j) = refl

told : (k : ℕ) (seen : List Arm) (rs : List Record) (j : ℕ) → Numbered k rs → Told k seen rs j
unfolding tables_from targets_in
told k seen [] j h = inr (omega arith, refl, refl)
told k seen (r ∷ rs) j h = by j (cases (is_default r)) (λ i. told (suc k) [] rs i) (λ i. told k (seen ++ (arm_of r ∷ [])) rs i)
  where
    here : r.p1 ≡ k
    here = first_table k r rs h

    other : (i : ℕ) → eqb r.p1 (k + suc i) ≡ false
    other i = ne_eqb r.p1 (k + suc i) (λ q. absurd (omega (arith, here, q)))

    mine : eqb r.p1 (k + 0) ≡ true
    mine = eq-eqb r.p1 (k + 0) (omega (arith, here))

    closing : Table
    closing = record { arms = seen; default = r.p6 }

    more : List Table
    more = tables_from (seen ++ (arm_of r ∷ [])) rs

    left : is_default r ≡ false → 0 < length more
    left d = subst (λ (b : Bool). 0 < length (cond b (closing ∷ tables_from [] rs) more)) d (some_table k seen r rs h)

    by :
        (j : ℕ)
        → (is_default r ≡ true) ⊎ (is_default r ≡ false)
        → ((i : ℕ) → Numbered (suc k) rs → Told (suc k) [] rs i)
        → ((i : ℕ) → Numbered k rs → Told k (seen ++ (arm_of r ∷ [])) rs i)
        → Told k seen (r ∷ rs) j
    by zero (inl d) g f = inl (rw (mine, d))
    by (suc j) (inl d) g f =
        let n = next-table k r rs h (suc k) (rw d (omega arith)) in
        let s : k + suc j ≡ suc k + j = omega arith in
        let e = ap (λ (i : ℕ). targets_in i rs) s in
        ⊎_elim (λ i. inl (rw (other j, d) (e ∙ sym (ap (λ (l : List ℕ). l ++ targets_in (suc k + j) rs) (before-none j)) ∙ i)))
        (λ i. inr (rw d (omega (arith, i.0)), rw (other j) (e ∙ i.1), rw d i.2)) (g j n)
    by zero (inr d) g f = ⊎_elim (λ i. inl (rw (mine, d) (sym (map_more seen (arm_of r) (targets_in (k + 0) rs)) ∙ i)))
        (λ i. absurd (omega (arith, left d, i.0)))
        (f 0 (next-table k r rs h k (rw d (add-zero k))))
    by (suc j) (inr d) g f = ⊎_elim (λ i. inl (rw (other j, d) i)) (λ i. inr (rw d i.0, rw (other j) i.1, rw d i.2))
        (f (suc j) (next-table k r rs h k (rw d (add-zero k))))

-- an end leads to the same blocks
module _ (arms : List Record) (right : numbered arms ≡ length arms) where
  same_end : (x : End) → Same (leads_in arms x) (leads (tables_from [] arms) x)
  same_end (e.Br l) = inl refl
  same_end (e.CondBr c t f) = inl refl
  same_end (e.Case n) =
      let z : 0 + n ≡ n = omega arith in
      ⊎_elim (λ i. inl (ap (λ (k : ℕ). targets_in k arms) (sym z) ∙ sym (ap (λ (l : List ℕ). l ++ targets_in (0 + n) arms) (before-none n)) ∙ i))
      (λ i. inr (ap (λ (k : ℕ). targets_in k arms) (sym z) ∙ i.1, i.2)) (told 0 [] arms n right)
  same_end e.Other = inl refl

  same_ends : (P : List (List Code)) (a : ℕ) → Same (get_or (map (λ c. leads_in arms (end_of c)) P) a []) (get_or (edges_of (tables_from [] arms) P) a [])
  same_ends [] a = inl refl
  same_ends (c ∷ P) zero = same_end (end_of c)
  same_ends (c ∷ P) (suc a) = same_ends P a

  same-marks : (P : List (List Code)) → reached_from (map (λ c. leads_in arms (end_of c)) P) 0 ≡ reached (tables_from [] arms) P
  unfolding reached
  same-marks [] = refl
  same-marks (c ∷ P) =
      let l = length-map (c ∷ P) (λ c. leads_in arms (end_of c)) in
      let k = length-map (c ∷ P) (λ c. leads (tables_from [] arms) (end_of c)) in
      same-reached (map (λ c. leads_in arms (end_of c)) (c ∷ P)) (edges_of (tables_from [] arms) (c ∷ P)) (l ∙ sym k) (omega arith) (same_ends (c ∷ P))

-- for a table of at most 160 blocks, and arms that are numbered as Read asks, each block's mark is the one of "reached"
module _ (code table arms : List ℕ) (few : length table / 32 ≤ 160) (right : numbered (records_of arms) ≡ length (records_of arms)) where
  abbrev wanted : List Bool
  wanted = reached (tables_from [] (records_of arms)) (blocks_of code table)

  abbrev past : List Bool
  past = replicate (160 - length table / 32) false

  pub seen-is : seen_in code table arms ≡ wanted ++ past
  unfolding seen_in
  seen-is =
      let n = length_edges code table arms in
      ap marks_of (take_all 160 (edges_in code table arms) (omega arith))
      ∙ ap (λ (k : ℕ). reached_from (edges_in code table arms) 0 ++ replicate (160 - k) false) n
      ∙ ap (λ (m : List Bool). m ++ past) (same-marks (records_of arms) right (blocks_of code table))

  pub wanted_length : length wanted ≡ length table / 32
  unfolding reached
  wanted_length =
      length-reached (edges_of (tables_from [] (records_of arms)) (blocks_of code table)) 0
      ∙ length-map (blocks_of code table) (λ c. leads (tables_from [] (records_of arms)) (end_of c))
      ∙ length-blocks code table
