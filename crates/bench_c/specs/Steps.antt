-- What the benchmark's functions answer, as `run`, emit and the writer have it.
use Rattle.std.specs.Prelude.{ℕ, ◌≡◌, List}
use Rattle.steps.specs.Shorten.{Outcome}
use Rattle.run.specs.declared.Ran.{Ran}
use Rattle.emit.specs.declared.Staged.{Staged}
use Rattle.bench_c.specs.declared.HalivomueRan.{HalivomueRan}
use Rattle.bench_c.specs.declared.HalivomueStaged.{HalivomueStaged}

abbrev pub ran_of : HalivomueRan → Ran
ran_of z = record { joined = z.joined; at = record { top = z.top; grown = z.grown; fresh = z.fresh; edited = z.edited } }

abbrev pub staged_of : HalivomueStaged → Staged
staged_of z = record { n = z.n; rescued = z.rescued }

-- how many bytes are written, and the output buffer at exit
pub record Put (o : Outcome) (length : ℕ) (out : List ℕ) : Type 0 where
  pub bytes : length ≡ o.answer.length
  pub output : out ≡ o.output
