-- Document 01, "File": a record written to its 32 bytes.
use Rattle.std.specs.Prelude.{ℕ, ◌+◌, ◌*◌, ◌/◌, ◌%◌, ◌<◌, ◌^◌, cond, List, [], ◌∷◌, ◌++◌, ltb, length, get_or, take, drop}
use Rattle.records.specs.declared.Record.{Record}

-- a number's low byte
abbrev pub byte_of : ℕ → ℕ
byte_of x = x % 256

-- "little-endian", "32-bit fields"
unfoldable pub word_bytes : ℕ → List ℕ
word_bytes x = byte_of x ∷ byte_of (x / 256) ∷ byte_of (x / 65536) ∷ byte_of (x / 16777216) ∷ []

-- "Byte 0 class, 1 kind, 2 op, 3 zero"
unfoldable pub tag_bytes : Record → List ℕ
tag_bytes r = byte_of r.class ∷ byte_of r.kind ∷ byte_of r.op ∷ byte_of r.zero ∷ []

-- "4..7 statement, 8..31 six 32-bit fields p1..p6."
abbrev pub record_bytes : Record → List ℕ
record_bytes r =
    tag_bytes r
    ++ (word_bytes r.stmt
    ++ (word_bytes r.p1
    ++ (word_bytes r.p2 ++ (word_bytes r.p3 ++ (word_bytes r.p4 ++ (word_bytes r.p5 ++ word_bytes r.p6))))))

-- some bytes with record k written; the same bytes if they have no record k
unfoldable pub put_of : List ℕ → ℕ → Record → List ℕ
put_of b k r = cond (ltb k (length b / 32)) (take (32 * k) b ++ (record_bytes r ++ drop (32 * k + 32) b)) b

-- what a file's bytes are
abbrev pub Bytes : List ℕ → Type 0
Bytes b = (i : ℕ) → get_or b i 0 < 256

-- what 32 bytes hold: four bytes and seven words
pub record Fits (r : Record) : Type 0 where
  pub class : r.class < 256
  pub kind : r.kind < 256
  pub op : r.op < 256
  pub zero : r.zero < 256
  pub stmt : r.stmt < 2 ^ 32
  pub p1 : r.p1 < 2 ^ 32
  pub p2 : r.p2 < 2 ^ 32
  pub p3 : r.p3 < 2 ^ 32
  pub p4 : r.p4 < 2 ^ 32
  pub p5 : r.p5 < 2 ^ 32
  pub p6 : r.p6 < 2 ^ 32
