-- One text after another is both as one text; what the kit's `decimal` writes are the digits of the definition.
use Prim.Native.Nat.{ℕ, zero, suc, ◌+◌, ◌^◌, ◌-◌, ◌≤◌, ◌<◌, ◌/◌, ◌%◌, min}
use native.Mathlib.Omega.{arith}
use native.Mathlib.Numerals.{add-one}
use native.Mathlib.Nat.{pow-succ'}
use mathlib.Core.Path.{◌≡◌, refl, sym, ap, ◌∙◌}
use mathlib.Core.Bool.{Bool, true, false, ◌&&◌, false≢true}
use mathlib.Core.Logic.{⊎_elim}
use mathlib.Core.List.{List, [], ◌∷◌, ◌++◌, append_assoc}
use lib.Dec.{eqb, lit≤}
use borrow.Author.Tests.{lt-ltb, le-ltb, le-leb, eqb-true, ne_eqb}
use lib.ListN.{length, get_or, take, set, length-set, length-append}
use lib.Seq.{sets, set_out, length-sets, take-suc}
use Rattle.io.specs.Digits.{last_digits, hex_digit_ascii, IsDigitCount}
use Rattle.general.proofs.Booleans.{and_first, and_second}
use Rattle.general.proofs.Numbers.{order}
use Rattle.line.specs.declared.Line.{Line}
use Rattle.line.specs.Line.{written, Put, decimal_in, decimal, Numbered, is_plain, plain, Added, Ended}

past : (text line : List ℕ) (at : ℕ) → length line ≤ at → sets line at text ≡ line
past [] line at h = refl
past (b ∷ text) line at h = past text (set line at b) (suc at) (omega (arith, length-set line at b)) ∙ set_out line at b h

joined : (s t line : List ℕ) (at : ℕ) → sets (sets line at s) (at + length s) t ≡ sets line at (s ++ t)
joined [] t line at = let e : at + 0 ≡ at = omega arith in ap (λ (k : ℕ). sets line k t) e
joined (b ∷ s) t line at =
    let e : at + suc (length s) ≡ suc at + length s = omega arith in
    ap (λ (k : ℕ). sets (sets (set line at b) (suc at) s) k t) e ∙ joined s t (set line at b) (suc at)

-- the place that is answered serves as well as the one after the whole text
cut : (t line : List ℕ) (at : ℕ) → sets line (min at (length line)) t ≡ sets line at t
cut t line at =
    ⊎_elim (λ h. let e : min at (length line) ≡ at = omega arith in ap (λ (k : ℕ). sets line k t) e)
    (λ h. past t line (min at (length line)) (omega arith) ∙ sym (past t line at h)) (order at (length line))

module _ {line line' line'' : Line} {s t : List ℕ} where
  pub then : Put line s line' → Put line' t line'' → Put line (s ++ t) line''
  unfolding written
  then p q =
      let room : length line'.bytes.now ≡ length line.bytes.now = ap length p.bytes ∙ length-sets line.bytes.now line.at s in
      let here : line'.at ≡ min (line.at + length s) (length line'.bytes.now) = omega arith in
      let l = length-append s t in
      record {
        same = q.same ∙ p.same;
        bytes =
            q.bytes ∙ ap (λ (k : ℕ). sets line'.bytes.now k t) here ∙ cut t line'.bytes.now (line.at + length s)
            ∙ ap (λ (l : List ℕ). sets l (line.at + length s) t) p.bytes ∙ joined s t line.bytes.now line.at;
        place = omega arith;
      }

-- nothing put, and one byte
pub put-none : (line : Line) → Put line [] line
unfolding written
put-none line = let fits : line.at ≤ length line.bytes.now = line.fits in record { same = refl; bytes = refl; place = omega arith }

pub put_one : {line line' : Line} {b : ℕ} → line'.bytes.ghost_name ≡ line.bytes.ghost_name → line'.bytes.now ≡ set line.bytes.now line.at b
    → line'.at ≡ line.at + 1 → line.at < length line.bytes.now → Put line (b ∷ []) line'
unfolding written
put_one same bytes next room = record { same = same; bytes = bytes; place = omega arith }

pub put-past : {line : Line} {b : ℕ} → length line.bytes.now ≤ line.at → Put line (b ∷ []) line
unfolding written
put-past {line} {b} full =
    let fits : line.at ≤ length line.bytes.now = line.fits in
    record { same = refl; bytes = sym (set_out line.bytes.now line.at b full); place = omega arith }

-- one byte more of a text
pub put_next : {line line' line'' : Line} (text : List ℕ) (i : ℕ) → Put line (take i text) line' → Put line' (get_or text i 0 ∷ []) line'' → i < length text
    → Put line (take (i + 1) text) line''
put_next text i p q h = rw (add-one, take-suc text i 0 h) (then p q)

powers_positive : (k : ℕ) → 0 < 10 ^ k
powers_positive zero = omega arith
powers_positive (suc k) = let h = powers_positive k in let e = pow-succ' 10 k in omega arith

-- a number of two digits and more: it is 10 at least, and all but its last digit are the digits of a tenth of it
module _ (k n : ℕ) (f : IsDigitCount 10 1 n (suc (suc k))) where
  ten : 10 ≤ n
  ten =
      let e : suc (suc k) - 1 ≡ suc k = omega arith in
      let most : 10 ^ suc k ≤ n = rw e at (f.2 (omega arith)) in
      omega (arith, pow-succ' 10 k, powers_positive k)

  tenth : IsDigitCount 10 1 (n / 10) (suc k)
  tenth =
      let e : suc (suc k) - 1 ≡ suc k = omega arith in
      let most : 10 ^ suc k ≤ n = rw e at (f.2 (omega arith)) in
      let e' : suc k - 1 ≡ k = omega arith in
      (omega arith, omega (arith, pow-succ' 10 (suc k)), λ _. rw e' (omega (arith, pow-succ' 10 k)))

-- what the kit's `decimal` writes of a number below 10 ^ (1 + fuel)
decimal-is : (fuel k n : ℕ) → n < 10 ^ suc fuel → IsDigitCount 10 1 n k → last_digits 10 k n ≡ decimal_in (suc fuel) n
unfolding decimal_in
decimal-is fuel zero n h f = absurd (omega arith)
decimal-is fuel (suc zero) n h f =
    let l : n < 10 = f.1 in
    let e : n % 10 ≡ n = omega arith in
    rw (e, lt-ltb n 10 l)
decimal-is zero (suc (suc k)) n h f = absurd (omega (arith, ten k n f))
decimal-is (suc fuel) (suc (suc k)) n h f =
    rw (le-ltb n 10 (ten k n f), decimal-is fuel (suc k) (n / 10) (omega (arith, pow-succ' 10 (suc fuel))) (tenth k n f))

pub put-decimal : {line line' : Line} (out : List ℕ) (k n : ℕ) → Put line (take k out) line' → take k out ≡ last_digits 10 k n → IsDigitCount 10 1 n k
    → n < 2 ^ 64 → Put line (decimal n) line'
put-decimal out k n p e f h =
    let l : 2 ^ 64 ≤ 10 ^ 20 = lit≤ tt in
    rw (e, decimal-is 19 k n (omega arith) f) at p

-- plain texts
pub plain_byte : (b : ℕ) → 32 ≤ b → (b ≡ 127 → ⊥) → is_plain b ≡ true
plain_byte b h n = rw (le-leb 32 b h, ne_eqb b 127 n)

pub plain_both : (s t : List ℕ) → plain s ≡ true → plain t ≡ true → plain (s ++ t) ≡ true
plain_both [] t p q = q
plain_both (b ∷ s) t p q = rw (and_first (is_plain b) (plain s) p) (plain_both s t (and_second (is_plain b) (plain s) p) q)

plain-digit : (d : ℕ) → d < 10 → is_plain (hex_digit_ascii d) ≡ true
plain-digit d h = rw (lt-ltb d 10 h) (plain_byte (48 + d) (omega arith) (λ e. omega arith))

plain-decimal : (k n : ℕ) → plain (decimal_in k n) ≡ true
unfolding decimal_in
plain-decimal zero n = refl
plain-decimal (suc k) n =
    ⊎_elim (λ h. rw (lt-ltb n 10 h, plain_byte (48 + n) (omega arith) (λ e. omega arith)))
    (λ h. rw (le-ltb n 10 h) (plain_both (decimal_in k (n / 10)) (hex_digit_ascii (n % 10) ∷ []) (plain-decimal k (n / 10))
    (rw (plain-digit (n % 10) (omega arith))))) (order n 10)

-- a text that ends in a line end and is plain before it
abbrev pub is_line : List ℕ → Bool
is_line [] = false
is_line (b ∷ []) = eqb b 10
is_line (b ∷ c ∷ text) = is_plain b && is_line (c ∷ text)

abbrev front_of : List ℕ → List ℕ
front_of [] = []
front_of (b ∷ []) = []
front_of (b ∷ c ∷ text) = b ∷ front_of (c ∷ text)

whole : (text : List ℕ) → is_line text ≡ true → text ≡ front_of text ++ (10 ∷ [])
whole [] e = absurd (false≢true e)
whole (b ∷ []) e = ap (λ (x : ℕ). x ∷ []) (eqb-true b 10 e)
whole (b ∷ c ∷ text) e = ap (λ (l : List ℕ). b ∷ l) (whole (c ∷ text) (and_second (is_plain b) (is_line (c ∷ text)) e))

plain-front : (text : List ℕ) → is_line text ≡ true → plain (front_of text) ≡ true
plain-front [] e = refl
plain-front (b ∷ []) e = refl
plain-front (b ∷ c ∷ text) e =
    rw (and_first (is_plain b) (is_line (c ∷ text)) e) (plain-front (c ∷ text) (and_second (is_plain b) (is_line (c ∷ text)) e))

module _ {line line' : Line} where
  -- what is put is added, where it is plain
  pub added : {text : List ℕ} → Put line text line' → plain text ≡ true → Added line line'
  added {text} p e = record { text = text; put = p; clean = e }

  pub added-numbered : {text : List ℕ} {n : ℕ} → Numbered line text n line' → plain text ≡ true → Added line line'
  added-numbered {text} {n} p e = record { text = text ++ decimal n; put = p.put; clean = plain_both text (decimal n) e (plain-decimal 20 n) }

  pub ended : {text : List ℕ} → Put line text line' → is_line text ≡ true → Ended line line'
  ended {text} p e = record { text = front_of text; put = rw (whole text e) at p; clean = plain-front text e }

module _ {line line' line'' : Line} where
  pub both : Added line line' → Added line' line'' → Added line line''
  both p q = record {
    text = p.text ++ q.text;
    put = then p.put q.put;
    clean = plain_both p.text q.text p.clean q.clean;
  }

  pub last : Added line line' → Ended line' line'' → Ended line line''
  last p q = record {
    text = p.text ++ q.text;
    put = rw append_assoc (then p.put q.put);
    clean = plain_both p.text q.text p.clean q.clean;
  }
