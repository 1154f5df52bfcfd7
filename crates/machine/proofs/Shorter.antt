-- How a proof reaches demand 3: a relation of two machines that composes, had from one stretch of the two runs at a time.
use Prim.Native.Nat.{ℕ, zero, suc, ◌+◌, ◌-◌, ◌*◌, ◌≤◌, ◌<◌, zero-le}
use mathlib.Core.Path.{◌≡◌, refl, sym, ap, subst, ◌∙◌}
use native.Mathlib.Omega.{arith}
use native.Mathlib.Nat.{zero-add, suc-add, le_trans}
use native.Mathlib.Decide.{dec_le}
use Rattle.procedure.specs.Procedure.{Procedure}
use Rattle.machine.specs.Machine.{Regs, Address, Outside, State, Shown, shown, start, step, run, entry, entered, into_zero}
use Rattle.machine.specs.Demand.{Alike, shows, entries}
use Rattle.machine.proofs.Reading.{run_add}

-- a machine: its step, what a step costs, what a state shows
pub record Mach : Type 1 where
  pub S : Type 0
  pub next : S → S
  pub cost : S → ℕ
  pub show : S → Shown

abbrev pub steps : (m : Mach) → ℕ → m.S → m.S
steps m zero s = s
steps m (suc n) s = steps m n (m.next s)

abbrev pub seen : (m : Mach) → ℕ → m.S → Shown
seen m n s = m.show (steps m n s)

abbrev pub spent : (m : Mach) → ℕ → m.S → ℕ
spent m zero s = 0
spent m (suc n) s = m.cost s + spent m n (m.next s)

pub steps_add : (m : Mach) (k n : ℕ) (s : m.S) → steps m (k + n) s ≡ steps m n (steps m k s)
steps_add m zero n s = rw zero-add
steps_add m (suc k) n s = rw suc-add (steps_add m k n (m.next s))

pub spent_add : (m : Mach) (k n : ℕ) (s : m.S) → spent m (k + n) s ≡ spent m k s + spent m n (steps m k s)
spent_add m zero n s = simp zero-add
spent_add m (suc k) n s = rw suc-add (omega (arith, spent_add m k n (m.next s)))

pub at_once : (m : Mach) (s : m.S) (j : ℕ) → j ≤ 0 → seen m j s ≡ m.show s
at_once m s zero l = refl
at_once m s (suc j) l = absurd (omega arith)

module _ (m m' : Mach) where
  abbrev There : ℕ → m.S → m'.S → Type 0
  There n s s' = (n' : ℕ) × (spent m' n' s' ≤ spent m n s) × (seen m' n' s' ≡ seen m n s)

  abbrev Back : ℕ → m.S → m'.S → Type 0
  Back n' s s' = (n : ℕ) × (seen m' n' s' ≡ seen m n s)

  -- what the first shows the second shows at no more cost, and it shows nothing else
  pub record Shorter (s : m.S) (s' : m'.S) : Type 0 where
    pub there : (n : ℕ) → There n s s'
    pub back : (n' : ℕ) → Back n' s s'

pub shorter_refl : (m : Mach) (s : m.S) → Shorter m m s s
shorter_refl m s = record { there = λ n. (n, omega arith, refl); back = λ n. (n, refl) }

pub shorter_trans : {m m' m'' : Mach} {s : m.S} {s' : m'.S} {s'' : m''.S} → Shorter m m' s s' → Shorter m' m'' s' s'' → Shorter m m'' s s''
shorter_trans a b =
    record {
      there = λ n. let x = a.there n in let y = b.there x.0 in (y.0, le_trans y.1 x.1, y.2 ∙ x.2);
      back = λ n. let y = b.back n in let x = a.back y.0 in (x.0, y.1 ∙ x.1);
    }

module _ (m m' : Mach) (R : m.S → m'.S → Type 0) where
  -- a stretch of each run, at whose end they are related again; before it nothing new is shown
  pub record Stretch (s : m.S) (s' : m'.S) : Type 0 where
    pub k : ℕ
    pub k' : ℕ
    pub rel : R (steps m (suc k) s) (steps m' (suc k') s')
    pub cheap : spent m' (suc k') s' ≤ spent m (suc k) s
    pub quiet : (j : ℕ) → j ≤ k → seen m j s ≡ m.show s
    pub quiet' : (j : ℕ) → j ≤ k' → seen m' j s' ≡ m'.show s'

  there_join : (s : m.S) (s' : m'.S) (k k' n : ℕ) → spent m' k' s' ≤ spent m k s
      → There m m' n (steps m k s) (steps m' k' s') → There m m' (k + n) s s'
  there_join s s' k k' n c t = (
    k' + t.0,
    omega (arith, spent_add m k n s, spent_add m' k' t.0 s', t.1),
    ap m'.show (steps_add m' k' t.0 s') ∙ t.2 ∙ sym (ap m.show (steps_add m k n s)),
  )

  back_join : (s : m.S) (s' : m'.S) (k k' n' : ℕ)
      → Back m m' n' (steps m k s) (steps m' k' s') → Back m m' (k' + n') s s'
  back_join s s' k k' n' t =
      (k + t.0, ap m'.show (steps_add m' k' n' s') ∙ t.1 ∙ sym (ap m.show (steps_add m k t.0 s)))

  module _ (same : (s : m.S) (s' : m'.S) → R s s' → m.show s ≡ m'.show s')
      (go_on : (s : m.S) (s' : m'.S) → R s s' → Stretch s s') where
    -- n lies in the stretch, or the stretch lies behind it
    there-at : (b n : ℕ) → n < b → (s : m.S) (s' : m'.S) → R s s' → There m m' n s s'
    there-at zero n l s s' r = absurd (omega arith)
    there-at (suc b) n l s s' r = by (dec_le n x.k) (λ l. there-at b (n - suc x.k) l _ _ x.rel)
      where
        x : Stretch s s'
        x = go_on s s' r

        by : Dec (n ≤ x.k) → (n - suc x.k < b → There m m' (n - suc x.k) (steps m (suc x.k) s) (steps m' (suc x.k') s'))
            → There m m' n s s'
        by (yes h) t = (0, zero-le, sym (x.quiet n h ∙ same s s' r))
        by (no h) t =
            let e : suc x.k + (n - suc x.k) ≡ n = omega arith in
            subst (λ z. There m m' z s s') e (there_join s s' (suc x.k) (suc x.k') (n - suc x.k) x.cheap (t (omega arith)))

    back_at : (b n : ℕ) → n < b → (s : m.S) (s' : m'.S) → R s s' → Back m m' n s s'
    back_at zero n l s s' r = absurd (omega arith)
    back_at (suc b) n l s s' r = by (dec_le n x.k') (λ l. back_at b (n - suc x.k') l _ _ x.rel)
      where
        x : Stretch s s'
        x = go_on s s' r

        by : Dec (n ≤ x.k') → (n - suc x.k' < b → Back m m' (n - suc x.k') (steps m (suc x.k) s) (steps m' (suc x.k') s'))
            → Back m m' n s s'
        by (yes h) t = (0, x.quiet' n h ∙ sym (same s s' r))
        by (no h) t =
            let e : suc x.k' + (n - suc x.k') ≡ n = omega arith in
            subst (λ z. Back m m' z s s') e (back_join s s' (suc x.k) (suc x.k') (n - suc x.k') (t (omega arith)))

    pub simulates : (s : m.S) (s' : m'.S) → R s s' → Shorter m m' s s'
    simulates s s' r = record { there = λ n. there-at (suc n) n (omega arith) s s' r; back = λ n. back_at (suc n) n (omega arith) s s' r }

  -- one step of each
  pub together : (s : m.S) (s' : m'.S) → m'.cost s' ≤ m.cost s → R (m.next s) (m'.next s') → Stretch s s'
  together s s' c r = record { k = 0; k' = 0; rel = r; cheap = omega arith; quiet = at_once m s; quiet' = at_once m' s' }

module _ (outside : Outside) (address : Address) where
  -- an instruction of p costs one, and κ more if it goes to block 0
  abbrev pub mach : ℕ → Procedure → Mach
  mach κ p = record { S = State; next = step outside address p; cost = λ s. suc (κ * entry outside address p s); show = shown }

  module _ (p : Procedure) where
    pub steps_run : (κ n : ℕ) (s : State) → steps (mach κ p) n s ≡ run outside address p n s
    steps_run κ zero s = refl
    steps_run κ (suc n) s = steps_run κ n (step outside address p s)

    pub spent_is : (κ n : ℕ) (s : State) → spent (mach κ p) n s ≡ n + κ * entered outside address p n s
    spent_is κ zero s = omega arith
    spent_is κ (suc n) s = omega (arith, spent_is κ n (step outside address p s))

  module _ (p q : Procedure) (block κ : ℕ) (g g' : Regs) where
    abbrev original : ℕ → Shown
    original = shows outside address p block g

    abbrev shortened : ℕ → Shown
    shortened = shows outside address q block g'

    abbrev front : ℕ → State
    front j = run outside address q j (start outside address q block g')

    -- q first carries out j instructions that show nothing, κ at most and only in block 0, and is shorter from there on
    pub alike : (κ' j : ℕ) → j ≤ κ * into_zero block → ((i : ℕ) → i ≤ j → shortened i ≡ original 0)
        → Shorter (mach κ p) (mach κ' q) (start outside address p block g) (front j)
        → Alike (λ N. N + κ * entries outside address p block g N) original shortened
    alike κ' j l quiet x = record { there = forth; back = λ M. by M (dec_le M j) }
      where
        first : (n : ℕ) → seen (mach κ p) n (start outside address p block g) ≡ original n
        first n = ap shown (steps_run p κ n _)

        second : (n : ℕ) → shortened (j + n) ≡ seen (mach κ' q) n (front j)
        second n = ap shown (run_add outside address q j n _ ∙ sym (steps_run q κ' n _))

        forth : (N : ℕ) → (M : ℕ) × (M ≤ N + κ * entries outside address p block g N) × (shortened M ≡ original N)
        forth N =
            let t = x.there N in (
              j + t.0,
              omega (arith, t.1, spent_is p κ N (start outside address p block g), spent_is q κ' t.0 (front j)),
              second t.0 ∙ t.2 ∙ first N,
            )

        by : (M : ℕ) → Dec (M ≤ j) → (N : ℕ) × (shortened M ≡ original N)
        by M (yes h) = (0, quiet M h)
        by M (no h) =
            let t = x.back (M - j) in
            let e : j + (M - j) ≡ M = omega arith in
            (t.0, ap shortened (sym e) ∙ second (M - j) ∙ t.1 ∙ first t.0)
