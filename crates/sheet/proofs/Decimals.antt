-- Decimal digits that are written one after the other, the last first, and how many there are.
use Rattle.std.proofs.Common.{◌≡◌, ℕ, ◌+◌, ◌-◌, ◌/◌, ◌%◌, ◌^◌, ◌<◌, ◌≤◌, List, [], ◌∷◌, ◌++◌, length, take, drop, set, decimal, sym, ap, ◌∙◌, append_assoc, arith}
use Rattle.std.proofs.lemmas.List.{length-set, length-append, length-drop, drop-set, append-nil, drop_all, take_all}
use Rattle.std.proofs.lemmas.Fmt.{decimal_digit, decimal_step, decimal_nonempty, length-decimal-le}

-- a number of 8, of 32 and of 64 bits
pub length-decimal_8 : (n : ℕ) → n < 2 ^ 8 → length (decimal n) ≤ 3
length-decimal_8 n h = length-decimal-le 3 n (omega arith) (omega arith) (omega arith)

pub length-decimal_32 : (n : ℕ) → n < 2 ^ 32 → length (decimal n) ≤ 10
length-decimal_32 n h = length-decimal-le 10 n (omega arith) (omega arith) (omega arith)

pub length-decimal : (n : ℕ) → n < 2 ^ 64 → length (decimal n) ≤ 20
length-decimal n h = length-decimal-le 20 n (omega arith) (omega arith) h

pub ruleset decimals = (decimal_digit, decimal_step, length-append, append_assoc)

pub ruleset lengths = (length-decimal_8, length-decimal_32, length-decimal)

-- the digits of the number: those of `rest` are still to be written, the last of them at `start`, and the others stand behind
pub record Spelt (digits : List ℕ) (start rest number : ℕ) : Type 0 where
  pub long : length digits ≡ 20
  pub here : start < 20
  pub fits : rest < 2 ^ 64
  pub room : length (decimal rest) ≤ start + 1
  pub all : decimal rest ++ drop (start + 1) digits ≡ decimal number

pub spelt_none : (digits : List ℕ) (number : ℕ) → length digits ≡ 20 → number < 2 ^ 64 → Spelt digits 19 number number
spelt_none digits number l h = record {
  long = l;
  here = omega arith;
  fits = h;
  room = length-decimal-le 20 number (omega arith) (omega arith) h;
  all = ap (λ (t : List ℕ). decimal number ++ t) (drop_all 20 digits (omega arith)) ∙ append-nil (decimal number);
}

-- there is one more digit before the last one
pub spelt_room : {digits : List ℕ} {start rest number : ℕ} → 10 ≤ rest → Spelt digits start rest number → length (decimal (rest / 10)) ≤ start
spelt_room {rest = rest} t h =
    omega (arith, ap length (decimal_step rest t h.fits), length-append (decimal (rest / 10)) ((48 + rest % 10) ∷ []), h.room)

pub spelt_before : {digits : List ℕ} {start rest number : ℕ} → 10 ≤ rest → Spelt digits start rest number → 1 ≤ start
spelt_before {rest = rest} t h = omega (arith, spelt_room t h, decimal_nonempty (rest / 10) (omega arith))

pub spelt_more : {digits : List ℕ} {start rest number : ℕ} → 10 ≤ rest → Spelt digits start rest number
    → Spelt (set digits start (48 + rest % 10)) (start - 1) (rest / 10) number
spelt_more {digits} {start} {rest} {number} t h =
    let one : start - 1 + 1 ≡ start = omega (arith, spelt_before t h) in
    record {
      long = length-set digits start (48 + rest % 10) ∙ h.long;
      here = omega (arith, h.here);
      fits = omega (arith, h.fits);
      room = omega (arith, spelt_room t h, one);
      all = ap (λ (k : ℕ). decimal (rest / 10) ++ drop k (set digits start (48 + rest % 10))) one
          ∙ ap (λ (s : List ℕ). decimal (rest / 10) ++ s) (drop-set digits start (48 + rest % 10) (omega (arith, h.long, h.here)))
          ∙ sym (append_assoc (decimal (rest / 10)) ((48 + rest % 10) ∷ []) (drop (start + 1) digits))
          ∙ ap (λ (s : List ℕ). s ++ drop (start + 1) digits) (sym (decimal_step rest t h.fits))
          ∙ h.all;
    }

-- the first digit is the last to be written
pub spelt_all : {digits : List ℕ} {start rest number : ℕ} → rest < 10 → Spelt digits start rest number
    → drop start (set digits start (48 + rest)) ≡ decimal number
spelt_all {digits} {start} {rest} t h =
    drop-set digits start (48 + rest) (omega (arith, h.long, h.here))
    ∙ ap (λ (s : List ℕ). s ++ drop (start + 1) digits) (sym (decimal_digit rest t))
    ∙ h.all

-- the same, as the code takes that part
pub spelt_part : {digits : List ℕ} {start rest number : ℕ} → rest < 10 → Spelt digits start rest number
    → take (20 - start) (drop start (set digits start (48 + rest))) ≡ decimal number
spelt_part {digits} {start} {rest} t h =
    take_all (20 - start) (drop start (set digits start (48 + rest)))
    (omega (arith, length-drop start (set digits start (48 + rest)), length-set digits start (48 + rest), h.long))
    ∙ spelt_all t h
