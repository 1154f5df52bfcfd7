-- A byte that is shown is told again, and one part of a name after another is both as one.
use Prim.Native.Nat.{ℕ, zero, suc, ◌+◌, ◌*◌, ◌^◌, ◌-◌, ◌/◌, ◌%◌, ◌≤◌, ◌<◌}
use native.Mathlib.Omega.{arith}
use native.Mathlib.Numerals.{add-one}
use mathlib.Core.Path.{◌≡◌, refl, sym, ap, ◌∙◌}
use mathlib.Core.Bool.{true}
use mathlib.Core.Logic.{⊎_elim}
use mathlib.Core.List.{List, [], ◌∷◌, ◌++◌, append_assoc}
use borrow.Author.Tests.{lt-ltb, le-ltb, ne_eqb}
use lib.ListN.{length, get_or, take}
use lib.Seq.{take-suc}
use Rattle.std.proofs.Math.Nat.{pow-le-pow_right}
use Rattle.io.specs.Digits.{last_digits, hex_digit_ascii, IsDigitCount}
use Rattle.general.proofs.Numbers.{order}
use Rattle.line.specs.declared.Line.{Line}
use Rattle.line.specs.Line.{Put, is_plain}
use Rattle.line.proofs.Laws.{then, put-none, plain_byte, plain_both}
use Rattle.quote.specs.Quote.{hex_of, nothing, value_of, told, Quoted}

-- the kit's `hex` writes a byte as two digits
two_digits : (b k : ℕ) → b < 256 → IsDigitCount 16 2 b k → last_digits 16 k b ≡ hex_of b
two_digits b zero h f = absurd (omega (arith, f.0))
two_digits b (suc zero) h f = absurd (omega (arith, f.0))
two_digits b (suc (suc zero)) h f =
    let e : (b / 16) % 16 ≡ b / 16 = omega arith in
    rw e
two_digits b (suc (suc (suc k))) h f =
    let e : suc (suc (suc k)) - 1 ≡ suc (suc k) = omega arith in
    let most : 16 ^ suc (suc k) ≤ b = rw e at (f.2 (omega arith)) in
    let two : 2 ≤ suc (suc k) = omega arith in
    let more : 16 ^ 2 ≤ 16 ^ suc (suc k) = pow-le-pow_right (omega arith) two in
    absurd (omega arith)

pub put_hex_digits : {line line' : Line} (out : List ℕ) (k b : ℕ) → Put line (take k out) line' → take k out ≡ last_digits 16 k b → IsDigitCount 16 2 b k
    → b < 256 → Put line (hex_of b) line'
put_hex_digits out k b p e f h = rw (e, two_digits b k h f) at p

value_of_lem : (d : ℕ) → d < 16 → value_of (hex_digit_ascii d) ≡ d
value_of_lem d h =
    ⊎_elim (λ l. let e : 48 + d < 97 = omega arith in let f : (48 + d) - 48 ≡ d = omega arith in rw (lt-ltb d 10 l, lt-ltb (48 + d) 97 e, f))
    (λ l. let e : 97 ≤ 87 + d = omega arith in let f : (87 + d) - 87 ≡ d = omega arith in rw (le-ltb d 10 l, le-ltb (87 + d) 97 e, f)) (order d 10)

plain_glyph : (d : ℕ) → d < 16 → is_plain (hex_digit_ascii d) ≡ true
plain_glyph d h =
    ⊎_elim (λ l. rw (lt-ltb d 10 l) (plain_byte (48 + d) (omega arith) (λ e. omega arith)))
    (λ l. rw (le-ltb d 10 l) (plain_byte (87 + d) (omega arith) (λ e. omega arith))) (order d 10)

module _ {line line' : Line} {b : ℕ} where
  -- by its digits
  pub by_digits : b < 256 → Put line (92 ∷ 120 ∷ hex_of b) line' → Quoted line (b ∷ []) line'
  unfolding told
  by_digits h p =
      let e : (b / 16) * 16 + b % 16 ≡ b = omega arith in
      let high : b / 16 < 16 = omega arith in
      let low : b % 16 < 16 = omega arith in
      record {
        text = 92 ∷ 120 ∷ hex_of b;
        put = p;
        clean = rw (plain_glyph (b / 16) high, plain_glyph (b % 16) low);
        back = λ rest. ap (λ (x : ℕ). x ∷ told nothing rest)
            (ap (λ (x : ℕ). x * 16 + value_of (hex_digit_ascii (b % 16))) (value_of_lem (b / 16) high) ∙ ap (λ (x : ℕ). (b / 16) * 16 + x) (value_of_lem (b % 16) low) ∙ e);
      }

  -- a backslash
  pub by_two : b ≡ 92 → Put line (92 ∷ 92 ∷ []) line' → Quoted line (b ∷ []) line'
  unfolding told
  by_two e p = record {
    text = 92 ∷ 92 ∷ [];
    put = p;
    clean = refl;
    back = λ rest. ap (λ (x : ℕ). x ∷ told nothing rest) (sym e);
  }

  -- and as it is
  pub by_itself : 32 ≤ b → (b ≡ 127 → ⊥) → (b ≡ 92 → ⊥) → Put line (b ∷ []) line' → Quoted line (b ∷ []) line'
  unfolding told
  by_itself h n m p = record { text = b ∷ []; put = p; clean = rw (plain_byte b h n); back = λ rest. rw (ne_eqb b 92 m) }

module _ {line line' line'' : Line} where
  pub quoted_then : {s t : List ℕ} → Quoted line s line' → Quoted line' t line'' → Quoted line (s ++ t) line''
  quoted_then {s} {t} p q = record {
    text = p.text ++ q.text;
    put = then p.put q.put;
    clean = plain_both p.text q.text p.clean q.clean;
    back = λ rest. ap (told nothing) (append_assoc p.text q.text rest) ∙ p.back (q.text ++ rest) ∙ ap (λ (l : List ℕ). s ++ l) (q.back rest)
        ∙ sym (append_assoc s t (told nothing rest));
  }

  pub quoted-next : (name : List ℕ) (i : ℕ) → Quoted line (take i name) line' → Quoted line' (get_or name i 0 ∷ []) line'' → i < length name
      → Quoted line (take (i + 1) name) line''
  quoted-next name i p q h = rw (add-one, take-suc name i 0 h) (quoted_then p q)

pub quoted-none : (line : Line) → Quoted line [] line
quoted-none line = record { text = []; put = put-none line; clean = refl; back = λ rest. refl }

-- a name of two parts, one put and one still to come
pub quoted_more : {line line' line'' : Line} (done part rest name left : List ℕ) → name ≡ done ++ left → left ≡ part ++ rest → Quoted line done line'
    → Quoted line' part line'' → (all : List ℕ) × (name ≡ all ++ rest) × Quoted line all line''
quoted_more done part rest name left e f p q =
    (done ++ part, e ∙ ap (λ (l : List ℕ). done ++ l) f ∙ sym (append_assoc done part rest), quoted_then p q)
