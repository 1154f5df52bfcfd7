-- What it means to put a text into a line; a number's decimal digits; texts without control bytes.
use Rattle.std.specs.Prelude.{ℕ, zero, suc, ◌+◌, ◌/◌, ◌%◌, min, ◌≡◌, Bool, true, not, cond, ◌&&◌, List, [], ◌∷◌, ◌++◌, leb, ltb, eqb, length}
use Rattle.std.proofs.lemmas.List.Edits.{sets}
use Rattle.io.specs.Digits.{hex_digit_ascii}
use Rattle.line.specs.declared.Line.{Line}

-- the buffer with a text written over it at a place; what doesn't fit is left out
unfoldable pub written : List ℕ → ℕ → List ℕ → List ℕ
written bytes at text = sets bytes at text

-- a text was put into a line, and the place is now the one after it
pub record Put (line : Line) (text : List ℕ) (line' : Line) : Type 0 where
  pub same : line'.bytes.ghost_name ≡ line.bytes.ghost_name
  pub bytes : line'.bytes.now ≡ written line.bytes.now line.at text
  pub place : line'.at ≡ min (line.at + length text) (length line.bytes.now)

-- the decimal digits of a number that has at most so many
unfoldable pub decimal_in : ℕ → ℕ → List ℕ
decimal_in zero n = []
decimal_in (suc k) n = cond (ltb n 10) (hex_digit_ascii n ∷ []) (decimal_in k (n / 10) ++ (hex_digit_ascii (n % 10) ∷ []))

abbrev pub decimal : ℕ → List ℕ
decimal n = decimal_in 20 n

-- a text was put, and a number after it
pub record Numbered (line : Line) (text : List ℕ) (n : ℕ) (line' : Line) : Type 0 where
  pub put : Put line (text ++ decimal n) line'

-- no control byte is in it
abbrev pub is_plain : ℕ → Bool
is_plain b = leb 32 b && not (eqb b 127)

abbrev pub plain : List ℕ → Bool
plain [] = true
plain (b ∷ text) = is_plain b && plain text

-- some text was put that is plain
pub record Added (line line' : Line) : Type 0 where
  pub text : List ℕ
  pub put : Put line text line'
  pub clean : plain text ≡ true

-- and one line, with its end
pub record Ended (line line' : Line) : Type 0 where
  pub text : List ℕ
  pub put : Put line (text ++ (10 ∷ [])) line'
  pub clean : plain text ≡ true
