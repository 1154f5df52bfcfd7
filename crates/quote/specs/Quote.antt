-- A name as it is shown: in plain bytes, and so that the name can be told from it.
use Rattle.std.specs.Prelude.{ℕ, ◌+◌, ◌*◌, ◌-◌, ◌/◌, ◌%◌, ◌≡◌, true, cond, List, [], ◌∷◌, ◌++◌, ltb, eqb}
use Rattle.io.specs.Digits.{hex_digit_ascii}
use Rattle.line.specs.declared.Line.{Line}
use Rattle.line.specs.Line.{Put, plain}

-- the two digits of a byte
abbrev pub hex_of : ℕ → List ℕ
hex_of b = hex_digit_ascii (b / 16) ∷ hex_digit_ascii (b % 16) ∷ []

-- what was read last, while a name is recovered from the text that is shown
pub data Seen : Type 0 where
  nothing : Seen
  backslash : Seen
  x : Seen
  digit : ℕ → Seen

abbrev pub value_of : ℕ → ℕ
value_of b = cond (ltb b 97) (b - 48) (b - 87)

-- the name that is shown: two backslashes are one, and \x with two digits is a byte
unfoldable pub told : Seen → List ℕ → List ℕ
told s [] = []
told nothing (b ∷ text) = cond (eqb b 92) (told backslash text) (b ∷ told nothing text)
told backslash (b ∷ text) = cond (eqb b 92) (92 ∷ told nothing text) (told x text)
told x (b ∷ text) = told (digit (value_of b)) text
told (digit d) (b ∷ text) = (d * 16 + value_of b) ∷ told nothing text

-- a name was put into a line, as a plain text from which it can be recovered, whatever follows
pub record Quoted (line : Line) (name : List ℕ) (line' : Line) : Type 0 where
  pub text : List ℕ
  pub put : Put line text line'
  pub clean : plain text ≡ true
  pub back : (rest : List ℕ) → told nothing (text ++ rest) ≡ name ++ told nothing rest
