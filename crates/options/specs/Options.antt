-- Which words are options, values, commands and names.
use Rattle.std.specs.Prelude.{ℕ, ◌≤◌, ◌≡◌, Bool, true, false, not, cond, ◌&&◌, List, ltb, eqb, length, get_or, Option, None, Some, IfSome}
use Rattle.options.specs.declared.Before.{Before}
use Rattle.options.specs.declared.Word.{Word}
use Rattle.options.specs.declared.Role.{Role}
use Rattle.options.specs.declared.Role.TheVariants as r

-- what a word is if it isn't an option
abbrev pub plain_role : Before → Role
plain_role b = cond b.command r.Name r.Command

-- an option: no `--` came before it, and it starts with a dash and has more than that
abbrev pub is_option : Before → List ℕ → Bool
is_option b word = not b.ended && (ltb 1 (length word) && eqb (get_or word 0 0) 45)

-- neither a command nor a name nor a value
abbrev pub is_none : Role → Bool
is_none r.Command = false
is_none r.Name = false
is_none r.Value = false
is_none _ = true

abbrev pub is_command : Role → Bool
is_command r.Command = true
is_command _ = false

abbrev pub is_end : Role → Bool
is_end r.End = true
is_end _ = false

-- the options that have a value
abbrev pub has_value : Role → Bool
has_value r.Only = true
has_value r.Accounts = true
has_value _ = false

-- no value is in the word itself
abbrev pub lacks : Option ℕ → Bool
lacks None = true
lacks (Some k) = false

-- where a word's value starts, if it has one, is in the word
abbrev pub Within : Option ℕ → List ℕ → Type 0
Within value word = IfSome value (λ k. k ≤ length word)

-- which role a word gets
pub record Taken (b : Before) (word : List ℕ) (w : Word) : Type 0 where
  pub asked : b.wants ≡ true → w.role ≡ r.Value
  pub plain : b.wants ≡ false → is_option b word ≡ false → w.role ≡ plain_role b
  pub option : b.wants ≡ false → is_option b word ≡ true → is_none w.role ≡ true
  pub within : Within w.value word
