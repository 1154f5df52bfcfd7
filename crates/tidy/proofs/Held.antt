-- The table keeps enough of what writes a register: it stays right after one more writer, and a read is judged the same by it.
use Prim.Native.Nat.{ℕ, ◌<◌}
use mathlib.Core.Path.{◌≡◌, refl, sym, ap, ◌∙◌}
use mathlib.Core.Bool.{Bool, true, false, not, ◌&&◌, cond}
use mathlib.Core.List.{List, [], ◌∷◌, map}
use lib.Dec.{eqb, ltb, leb}
use lib.ListN.{length, get_or, set, get_or-map, length-map}
use Rattle.std.proofs.lemmas.List.{map-set}
use Rattle.inst.specs.Kinds.{number_of}
use Rattle.tidy.specs.declared.writers.Writer.{Writer}
use Rattle.tidy.specs.declared.writers.Writer.TheVariants as w
use Rattle.tidy.specs.Tidy.{Placed, Field, too_early, later, writers}
use Rattle.tidy.specs.Work.Writers.{WrittenBy, Nothing, One, More, one_of, joined, note, notes, noted}
use Rattle.tidy.specs.Work.Writers.{held, entry_of, joined_entry, enter, enter_all, entered}
use Rattle.tidy.specs.Work.Reads.{judged, judged_entry, offence}
use Rattle.tidy.specs.Work.Marks.{Leading}
use Rattle.tidy.proofs.Fields.{kind-again}
use Rattle.tidy.proofs.Answers.{tally_entry, tally-at}

pub held-one : (x : Placed) → held (one_of x) ≡ entry_of x
held-one x = rw (kind-again x.inst) refl

pub held-joined : (u v : WrittenBy) → held (joined u v) ≡ joined_entry (held u) (held v)
held-joined Nothing v = refl
held-joined (One kind b p) v = by (leb (number_of kind) 1) (eqb (number_of kind) 3)
  where
    by : (constant address : Bool) → w.Free ≡ joined_entry (cond constant w.Free (cond address (w.Address b p) (w.Other b p))) (held v)
    by true address = refl
    by false true = refl
    by false false = refl
held-joined More v = refl

pub held-note : (us : List WrittenBy) (r : ℕ) (v : WrittenBy) → map held (note us r v) ≡ enter (map held us) r (held v)
unfolding note enter
held-note us r v =
    map-set held us r (joined (get_or us r Nothing) v)
    ∙ ap (set (map held us) r) (held-joined (get_or us r Nothing) v ∙ ap (λ (x : Writer). joined_entry x (held v)) (sym (get_or-map held us r Nothing)))

pub held-notes : (us : List WrittenBy) (v : WrittenBy) (rs : List ℕ) → map held (notes us v rs) ≡ enter_all (map held us) (held v) rs
unfolding notes enter_all
held-notes us v [] = refl
held-notes us v (r ∷ rs) = held-notes (note us r v) v rs ∙ ap (λ (ws : List Writer). enter_all ws (held v) rs) (held-note us r v)

pub held-noted : (us : List WrittenBy) (fs : List Field) → map held (noted us fs) ≡ entered (map held us) fs
unfolding noted entered
held-noted us [] = refl
held-noted us (f ∷ fs) =
    held-noted (note us f.reg (one_of f.at)) fs
    ∙ ap (λ (ws : List Writer). entered ws fs) (held-note us f.reg (one_of f.at) ∙ ap (enter (map held us) f.reg) (held-one f.at))

pub held-judged : (s : Leading) (v : WrittenBy) (k : ℕ) → judged s v k ≡ judged_entry s (held v) k
held-judged s Nothing k = refl
held-judged s (One kind x y) k = by (leb (number_of kind) 1) (eqb (number_of kind) 3)
  where
    lead : ℕ → ℕ → Bool
    lead a t = get_or s.marks t false

    by :
        (constant address : Bool)
        → cond constant false (cond address (too_early lead x y s.block k) (not (later x y s.block k)))
        ≡ judged_entry s (cond constant w.Free (cond address (w.Address x y) (w.Other x y))) k
    by true address = refl
    by false true = refl
    by false false = refl
held-judged s More k = refl

pub held-offence : (s : Leading) (n : ℕ) (us : List WrittenBy) (r k : ℕ) → (ltb r n && judged s (get_or us r Nothing) k) ≡ offence s n (map held us) r k
unfolding offence
held-offence s n us r k =
    ap (λ (b : Bool). ltb r n && b) (held-judged s (get_or us r Nothing) k ∙ ap (λ (x : Writer). judged_entry s x k) (sym (get_or-map held us r Nothing)))

-- what writes a register, after some more writers
pub tally : WrittenBy → List Placed → WrittenBy
tally s [] = s
tally s (x ∷ xs) = tally (joined s (one_of x)) xs

pub held-tally : (xs : List Placed) (u : WrittenBy) → held (tally u xs) ≡ tally_entry (held u) xs
unfolding tally tally_entry
held-tally [] u = refl
held-tally (x ∷ xs) u =
    held-tally xs (joined u (one_of x))
    ∙ ap (λ (v : Writer). tally_entry v xs) (held-joined u (one_of x) ∙ ap (joined_entry (held u)) (held-one x))

pub held-tally-at :
    (fs : List Field) (us : List WrittenBy) (r : ℕ) → r < length us
    → get_or (map held (noted us fs)) r w.Nothing ≡ held (tally (get_or us r Nothing) (writers r fs))
held-tally-at fs us r h =
    ap (λ (ws : List Writer). get_or ws r w.Nothing) (held-noted us fs)
    ∙ tally-at fs (map held us) r (rw (length-map us held) h)
    ∙ ap (λ (u : Writer). tally_entry u (writers r fs)) (get_or-map held us r Nothing)
    ∙ sym (held-tally (writers r fs) (get_or us r Nothing))
