-- Document 01, "File": bytes and records.
use Rattle.std.specs.Prelude.{ℕ, zero, suc, ◌+◌, ◌*◌, ◌/◌, List, [], ◌∷◌, length, get_or, drop}
use Rattle.records.specs.declared.Record.{Record}

-- "little-endian", "32-bit fields": the word in the four bytes from a place
abbrev pub word_at : List ℕ → ℕ → ℕ
word_at b at = get_or b at 0 + 256 * get_or b (at + 1) 0 + 65536 * get_or b (at + 2) 0 + 16777216 * get_or b (at + 3) 0

-- "Byte 0 class, 1 kind, 2 op, 3 zero, 4..7 statement, 8..31 six 32-bit fields p1..p6."
abbrev pub record_in : List ℕ → ℕ → Record
record_in b at = record {
  class = get_or b at 0;
  kind = get_or b (at + 1) 0;
  op = get_or b (at + 2) 0;
  zero = get_or b (at + 3) 0;
  stmt = word_at b (at + 4);
  p1 = word_at b (at + 8);
  p2 = word_at b (at + 12);
  p3 = word_at b (at + 16);
  p4 = word_at b (at + 20);
  p5 = word_at b (at + 24);
  p6 = word_at b (at + 28);
}

-- a record of zero bytes
abbrev pub blank : Record
blank = record { class = 0; kind = 0; op = 0; zero = 0; stmt = 0; p1 = 0; p2 = 0; p3 = 0; p4 = 0; p5 = 0; p6 = 0 }

-- the first n records of some bytes
unfoldable pub first_records : ℕ → List ℕ → List Record
first_records zero b = []
first_records (suc n) b = record_in b 0 ∷ first_records n (drop 32 b)

-- "bytes of 32-byte records, no header"
unfoldable pub records_of : List ℕ → List Record
records_of b = first_records (length b / 32) b

-- record k of a file
abbrev pub record_at : List ℕ → ℕ → Record
record_at b k = get_or (records_of b) k blank
