-- The registers of an instruction by number: five at most, those written first, then those read.
use Prim.Native.Nat.{ℕ, zero, suc, ◌+◌, ◌-◌, ◌≤◌}
use native.Mathlib.Nat.{sub-zero, suc-sub-suc}
use native.Mathlib.Omega.{arith}
use mathlib.Core.Path.{◌≡◌, refl, sym, ap, subst, ◌∙◌}
use mathlib.Core.List.{List, [], ◌∷◌, ◌++◌, map-append, append_assoc}
use lib.Dec.{T, leb, leb→le}
use lib.ListN.{length, get_or, take, drop, length-map, length-append, get_or-map}
use lib.Seq.{take_at, drop_at, drop-drop}
use Rattle.inst.specs.declared.Reg.{Reg}
use Rattle.inst.specs.declared.Regs.{Regs}
use Rattle.std.specs.Prelude.{Some, None}
use Rattle.inst.specs.declared.BoolOp.TheVariants as b
use Rattle.inst.specs.declared.CheckKind.TheVariants as k
use Rattle.inst.specs.declared.Inst.{Inst}
use Rattle.inst.specs.declared.Inst.TheVariants as i
use Rattle.roles.specs.Roles.{Named, defs_of, uses_of, reg_of, numbers_of, padded, filled}

-- five registers at most
few : (x : Inst) → T (leb (length (defs_of x ++ uses_of x)) 5)
few (i.Const d v) = tt
few (i.ConstF d v) = tt
few (i.Move d s) = tt
few (i.AddrOf d s f) = tt
few (i.Select d c x y) = tt
few (i.Cmp op d x y) = tt
few (i.Bool b.And d x y) = tt
few (i.Bool b.Or d x y) = tt
few (i.Bool b.Xor d x y) = tt
few (i.Bool b.Not d x y) = tt
few (i.Bin op d x y) = tt
few (i.BinRange op d x y l h w) = tt
few (i.Load d a w) = tt
few (i.Store a s w) = tt
few (i.Check k.Range v l h w) = tt
few (i.Check k.Index v l h w) = tt
few (i.Check k.IndexDown v l h w) = tt
few (i.Check k.Length v l h w) = tt
few (i.Check k.Null v l h w) = tt
few (i.MakeDope a p) = tt
few (i.DopeLen d p n) = tt
few (i.BoundsLen d l r e) = tt
few (i.Alloc d s) = tt
few (i.TakeBounds l r e) = tt
few (i.CallNative n a (Some d)) = tt
few (i.CallNative n a None) = tt
few (i.Br t) = tt
few (i.CondBr c t f) = tt
few (i.Case v t) = tt
few (i.Ret (Some v)) = tt
few (i.Ret None) = tt
few (i.Unreachable w) = tt
few i.Stmt = tt

pub all-few : (x : Inst) → length (defs_of x ++ uses_of x) ≤ 5
all-few x = leb→le _ _ (few x)

pub numbers-length : (rs : List Reg) → length (numbers_of rs) ≡ length rs
numbers-length rs = length-map rs (λ (r : Reg). r.0)

-- the number of a register of some, by its place
pub number_at : (rs : List Reg) (k n : ℕ) → get_or (numbers_of rs) k n ≡ (get_or rs k (reg_of n)).0
number_at rs k n = get_or-map (λ (r : Reg). r.0) rs k (reg_of n)

none : (n : ℕ) → take {A = Reg} n [] ≡ []
none zero = refl
none (suc n) = refl

take_split : (a n : ℕ) (l : List Reg) → a ≤ n → take n l ≡ take a l ++ take (n - a) (drop a l)
take_split zero n l h = rw sub-zero refl
take_split (suc a) (suc n) [] h = sym (none (suc n - suc a))
take_split (suc a) zero l h = absurd (omega arith)
take_split (suc a) (suc n) (x ∷ l) h = rw suc-sub-suc (ap (λ (m : List Reg). x ∷ m) (take_split a n l (omega arith)))

-- the fields of some roles are those written, then those read
pub fields_of : {a n : ℕ} (rs : List Reg) → a ≤ n → numbers_of (take n rs) ≡ numbers_of (take a rs) ++ numbers_of (take (n - a) (drop a rs))
fields_of {a} {n} rs h = ap numbers_of (take_split a n rs h) ∙ map-append (λ (r : Reg). r.0) (take a rs) (take (n - a) (drop a rs))

abbrev zeros : List Reg
zeros = reg_of 0 ∷ reg_of 0 ∷ reg_of 0 ∷ reg_of 0 ∷ reg_of 0 ∷ []

-- registers in the first of five places
placed : (rs : List Reg) → length rs ≤ 5 → rs ++ drop (length rs) zeros ≡ padded (numbers_of rs)
unfolding padded
placed [] h = refl
placed (a ∷ []) h = refl
placed (a ∷ b ∷ []) h = refl
placed (a ∷ b ∷ c ∷ []) h = refl
placed (a ∷ b ∷ c ∷ d ∷ []) h = refl
placed (a ∷ b ∷ c ∷ d ∷ e ∷ []) h = refl
placed (a ∷ b ∷ c ∷ d ∷ e ∷ f ∷ rs) h = absurd (omega arith)

-- five places as the model has them
abbrev seen : ℕ → ℕ → List Reg → Regs → Named
seen d n reg l =
    record { written = numbers_of (take d reg); read = numbers_of (take (n - d) (drop d reg)); list = l; defs = d; n = n; reg = reg }

-- the first places written over by some registers, and those after them by others
abbrev over_places : List Reg → List Reg → ℕ → ℕ → List Reg
over_places ws rs d u = take d (ws ++ drop d zeros) ++ (rs ++ drop (d + u - d) (drop d (ws ++ drop d zeros)))

module _ (ws rs : List Reg) (l : Regs) where
  abbrev rest : List Reg
  rest = drop (length ws + length rs) zeros

  abbrev held : List Reg → Named
  held reg = record { written = numbers_of ws; read = numbers_of rs; list = l; defs = length ws; n = length ws + length rs; reg = reg }

  whole : length ws + length rs ≤ 5 → ws ++ (rs ++ rest) ≡ padded (numbers_of ws ++ numbers_of rs)
  whole h =
      let n = length-append ws rs in
      sym (append_assoc ws rs rest) ∙ subst (λ k. (ws ++ rs) ++ drop k zeros ≡ padded (numbers_of (ws ++ rs))) n (placed (ws ++ rs) (omega arith))
      ∙ ap padded (map-append (λ (r : Reg). r.0) ws rs)

  places : over_places ws rs (length ws) (length rs) ≡ ws ++ (rs ++ rest)
  places =
      let e = take_at ws (drop (length ws) zeros) _ refl in
      let f = drop_at ws (drop (length ws) zeros) _ refl in
      let g : length ws + length rs - length ws ≡ length rs = omega arith in
      rw (e, f, g, drop-drop) refl

  made : length ws + length rs ≤ 5 → seen (length ws) (length ws + length rs) (ws ++ (rs ++ rest)) l ≡ filled (numbers_of ws) (numbers_of rs) l
  made h =
      let e = take_at ws (rs ++ rest) _ refl in
      let f = drop_at ws (rs ++ rest) _ refl in
      let g : length ws + length rs - length ws ≡ length rs = omega arith in
      let i = take_at rs rest _ refl in
      let j = length-append (numbers_of ws) (numbers_of rs) in
      rw (e, f, g, i, j, numbers-length ws, numbers-length rs) (ap held (whole h))

-- two rows in five places are the roles that they fill
pub row_filled : (ws rs : List Reg) (d u : ℕ) → length ws ≡ d → length rs ≡ u → d + u ≤ 5 → (l : Regs)
    → seen d (d + u) (over_places ws rs d u) l ≡ filled (numbers_of ws) (numbers_of rs) l
row_filled ws rs d u e f h l =
    rw (← e, ← f) (ap (λ (reg : List Reg). seen (length ws) (length ws + length rs) reg l) (places ws rs l) ∙ made ws rs l (rw (e, f) h))
