-- What a writer has still to write.
use Prim.Native.Nat.{◌+◌, ◌/◌, ◌≤◌}
use mathlib.Core.Path.{◌≡◌, refl, sym, ap, ◌∙◌}
use mathlib.Core.List.{List, [], ◌++◌}
use lib.ListN.{length}
use Rattle.records.specs.declared.Record.{Record}
use Rattle.emit_records.specs.declared.Writer.{Writer}
use Rattle.emit_records.specs.Emitted.{Place, puts, place_in, Wrote}
use Rattle.emit_records.proofs.Passes.{puts-append, puts-at, puts-length}

pub wrote_none : (w : Writer) → Wrote w [] w
unfolding puts
wrote_none w = record { same = refl; written = refl }

module _ {w w' : Writer} {rs : List Record} (p : Wrote w rs w') where
  pub wrote_length : length w'.out.now ≡ length w.out.now
  wrote_length = ap (λ (s : Place). length s.bytes) p.written ∙ puts-length rs (place_in w)

  -- where there is room, the place moves by as many
  pub wrote_at : w.at + length rs ≤ length w.out.now / 32 → w'.at ≡ w.at + length rs
  wrote_at h = ap (λ (s : Place). s.at) p.written ∙ puts-at rs (place_in w) h

pub wrote_then : {w w' w'' : Writer} {rs ss : List Record} → Wrote w rs w' → Wrote w' ss w'' → Wrote w (rs ++ ss) w''
wrote_then {w} {rs = rs} {ss = ss} p q =
    record { same = q.same ∙ p.same; written = q.written ∙ ap (puts ss) p.written ∙ sym (puts-append rs ss (place_in w)) }

-- of all the records that a writer writes, some are still to come
pub record Writing (w : Writer) (all : List Record) (w' : Writer) (rest : List Record) : Type 0 where
  pub same : w'.out.ghost_name ≡ w.out.ghost_name
  pub left : puts rest (place_in w') ≡ puts all (place_in w)

pub begun : (w : Writer) (all : List Record) → Writing w all w all
begun w all = record { same = refl; left = refl }

module _ {w w' : Writer} {all rest : List Record} (g : Writing w all w' rest) where
  pub next : {w'' : Writer} {some rest' : List Record} → rest ≡ some ++ rest' → Wrote w' some w'' → Writing w all w'' rest'
  next {w''} {some} {rest'} e p = record {
    same = p.same ∙ g.same;
    left =
        ap (puts rest') p.written
        ∙ sym (puts-append some rest' (place_in w'))
        ∙ sym (ap (λ (l : List Record). puts l (place_in w')) e)
        ∙ g.left;
  }

  pub done : rest ≡ [] → Wrote w all w'
  unfolding puts
  done e = record { same = g.same; written = sym (ap (λ (l : List Record). puts l (place_in w')) e) ∙ g.left }
