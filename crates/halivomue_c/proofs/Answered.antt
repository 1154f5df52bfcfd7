-- What the clauses about a result of Shorten, with accounts or without, say by the numbers that tell it.
use Prim.Native.Nat.{ℕ}
use native.Mathlib.Omega.{arith}
use mathlib.Core.Path.{◌≡◌, refl}
use mathlib.Core.Bool.{Bool, true, false}
use mathlib.Core.List.{List}
use lib.Dec.{eqb}
use Rattle.std.specs.Prelude.{◌≢◌, Option, Some, None, Result, Ok, Err, IfOk, IfErr}
use Rattle.inst.specs.declared.Reg.{Reg}
use Rattle.tidy.specs.Told.{tidiness_of}
use Rattle.read.specs.declared.Reason.{Reason}
use Rattle.read.specs.declared.Reason.TheVariants.{Length, Record, Limit, Tiling, Terminator, Table, Name, ShorteningLimit, Output, Ceiling}
use Rattle.read.specs.declared.Refusal.{Refusal}
use Rattle.read.specs.Refusal.{number_of}
use Rattle.read.proofs.Reasons.{no_zero}
use Rattle.word.specs.Word.{bit}
use Rattle.steps.specs.declared.Shortening.{Shortening}
use Rattle.steps.specs.Shorten.{Answer}
use Rattle.steps.specs.Told.{told}
use Rattle.billing.specs.declared.Priced.{Priced}
use Rattle.accounts.specs.Saved.{Loaded}
use Rattle.accounts.specs.History.{Reply, Served}
use Rattle.accounts.specs.Told.{replied}
use Rattle.halivomue_c.specs.Unpriced.{unpriced, price_in}

pub on_success : (r : Result Shortening Refusal) (P : Answer → Type 0) → IfOk r (λ s. P (told (Ok s))) → (told r).number ≡ 0 → P (told r)
on_success (Ok s) P h z = h
on_success (Err e) P h z = absurd (no_zero e.reason z)

still : (t : Bool) → bit t ≡ 0 → t ≡ false
still true z = absurd (omega arith)
still false z = refl

pub unmoved : (r : Result Shortening Refusal) {Q : Type 0} → IfOk r (λ s. s.moved ≡ false → Q) → (told r).number ≡ 0 → (told r).moved ≡ 0 → Q
unmoved (Ok s) h z m = h (still s.moved m)
unmoved (Err e) h z m = absurd (no_zero e.reason z)

nine : (r : Reason) → number_of r ≡ 9 → r ≡ Output
nine Length z = absurd (omega arith)
nine Record z = absurd (omega arith)
nine Limit z = absurd (omega arith)
nine Tiling z = absurd (omega arith)
nine Terminator z = absurd (omega arith)
nine Table z = absurd (omega arith)
nine Name z = absurd (omega arith)
nine ShorteningLimit z = absurd (omega arith)
nine Output z = refl
nine Ceiling z = absurd (omega arith)

pub never_nine : (r : Result Shortening Refusal) → IfErr r (λ e. e.reason ≢ Output) → (told r).number ≡ 9 → ⊥
never_nine (Ok s) h z = omega arith
never_nine (Err e) h z = h (nine e.reason z)

-- with accounts
abbrev pub served : Reply → List ℕ → Served
served r accounts = record { reply = r; accounts = accounts }

abbrev pub reply : Answer → List ℕ → ℕ → Reply
reply a out price = record { outcome = record { answer = a; output = out }; price = price }

pub replied_is : (r : Result Priced Refusal) (out : List ℕ) → reply (told (unpriced r)) out (price_in r) ≡ replied r out
replied_is (Ok p) out = refl
replied_is (Err e) out = refl

pub on_priced : (r : Result Priced Refusal) (P : Answer → Type 0) → IfOk r (λ p. P (told (Ok p.shortening))) → (told (unpriced r)).number ≡ 0 → P (told (unpriced r))
on_priced (Ok p) P h z = h
on_priced (Err e) P h z = absurd (no_zero e.reason z)

pub unmoved_priced : (r : Result Priced Refusal) {Q : Type 0} → IfOk r (λ p. p.shortening.moved ≡ false → Q) → (told (unpriced r)).number ≡ 0
    → (told (unpriced r)).moved ≡ 0 → Q
unmoved_priced (Ok p) h z m = h (still p.shortening.moved m)
unmoved_priced (Err e) h z m = absurd (no_zero e.reason z)

pub never_nine_priced : (r : Result Priced Refusal) → IfErr r (λ e. e.reason ≢ Output) → (told (unpriced r)).number ≡ 9 → ⊥
never_nine_priced (Ok p) h z = omega arith
never_nine_priced (Err e) h z = h (nine e.reason z)

-- a flag of a load
pub loaded : (b before after : List ℕ) (t : Bool) → Loaded b before t after → Loaded b before (eqb (bit t) 1) after
loaded b before after true h = h
loaded b before after false h = h

-- the answer that is yes
pub yes_none : (t : Result (Option Reg) Refusal) → (tidiness_of t).tidy ≡ 1 → t ≡ Ok None
yes_none (Ok None) e = refl
yes_none (Ok (Some r)) e = absurd (omega arith)
yes_none (Err x) e = absurd (omega arith)
