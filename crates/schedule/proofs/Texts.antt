-- Each field has one text for each value.
use Rattle.std.proofs.Common.{◌≡◌, ℕ, zero, suc, ◌+◌, ◌-◌, ◌*◌, ◌/◌, ◌%◌, ◌^◌, ◌<◌, ◌≤◌, true, false, cond, not, ◌&&◌, eqb, ltb, leb, ◌⊎◌, List, [], ◌∷◌, ◌++◌, length, get_or, Some, None, codes, decimal, Option, sym, refl, ap, ◌∙◌, subst, inl, inr, mod-lt, mod-eq_of_lt, div-lt_iff_lt-mul, div-add-mod', arith}
use Rattle.std.specs.List.{list_all}
use Rattle.std.specs.Option.{option_map}
use native.Mathlib.Nat.{pow-succ', pow-zero, one-le-pow, mul-add-div_right, mul-add-mod_self_right, div-eq_of_lt}
use Rattle.std.specs.Int.{IsInRange}
use Rattle.std.proofs.lemmas.Str.Parse.{IsNumeralModel, IsDigitsTest, WeighsDigits, numerals_by_weight}
use Rattle.std.proofs.lemmas.Fmt.{digits_decimal, digits_value-decimal, decimal-digits_value, decimal_digit, decimal_nonempty, first_decimal}
use Rattle.std.proofs.lemmas.Bool.{cases_Bool, cases_eq, cond-true, cond-false, and_parts, and_from, leb-true, le-leb, eqb-true, eqb-false, eq-eqb, ne_eqb, not-true, not_from_false, false≢true}
use Rattle.std.proofs.lemmas.Bool.Decides.{nat_tests}
use Rattle.orders.specs.declared.Cue.{Cue}
use Rattle.orders.specs.declared.FirstPress.{FirstPress}
use Rattle.schedule.specs.declared.said.ProposalKind.{ProposalKind}
use Rattle.schedule.specs.declared.said.ProposalKind.TheVariants.{Cue as OfCues, First}
use Rattle.schedule.specs.declared.said.BackEndKind.{BackEndKind}
use Rattle.schedule.specs.declared.said.BackEndKind.TheVariants.{Leader, Third}
use Rattle.schedule.specs.Parts.{before, onward}
use Rattle.schedule.specs.Numbers.{digit, is_digit, value, is_decimal, number_said, digits_said}
use Rattle.schedule.specs.Values.{same, word_said, cue_said, behind_colon, pressed, first_said}
use Rattle.schedule.specs.Texts.{digit_byte, hexadecimal, cue_text, first_press_text, kind_text, back_end_text, OneText, FieldTexts}
use Rattle.schedule.proofs.Parted.{before_onward, cut_at}
use Rattle.schedule.proofs.Same.{same_refl, same_true}
use Rattle.schedule.proofs.Digits.{value_cons, value_lt}

some_is : {V : Type 0} {v w : V} → Some v ≡ Some w → v ≡ w
some_is e = cc

none_is : {V : Type 0} {w : V} → None ≡ Some w → ⊥
none_is e = let z : ◌≡◌ {A = ℕ} 0 1 = cc in omega arith

-- decimal digits and their value, in the words of the library
tells_each : IsDigitsTest (λ ds. list_all (is_digit 10) ds ≡ true)
tells_each = record {
  empty = refl;
  parts = λ c cs h. let both = and_parts (is_digit 10 c) (list_all (is_digit 10) cs) h in (digit_in c both.0, both.1);
  more = λ c cs i h. and_from (is_digit 10 c) (list_all (is_digit 10) cs) (in_digit c i) h;
}
  where
    digit_in : (c : ℕ) → is_digit 10 c ≡ true → IsInRange 48 57 c
    digit_in c h = (grind (arith, nat_tests), grind (arith, nat_tests))

    in_digit : (c : ℕ) → IsInRange 48 57 c → is_digit 10 c ≡ true
    in_digit c h = grind (arith, nat_tests)

weighs : WeighsDigits (value 10)
weighs = record {
  empty = refl;
  more = λ c cs i. value_cons 10 c cs ∙ ap (λ (d : ℕ). d * 10 ^ length cs + value 10 cs) (cond-true (leb c 57) _ _ (grind (arith, nat_tests)));
}

own : IsNumeralModel (λ ds. list_all (is_digit 10) ds ≡ true) (value 10)
own = numerals_by_weight _ tells_each (value 10) weighs

-- the shape of a decimal number: digits, and no zero in front of others
shape : (s : List ℕ) → list_all (is_digit 10) s ≡ true → 0 < length s → (get_or s 0 0 ≡ 48 → length s ≡ 1) → is_decimal s ≡ true
shape [] h l z = absurd (omega arith)
shape (b ∷ []) h l z = (and_parts (is_digit 10 b) true h).0
shape (b ∷ (d ∷ bs)) h l z = and_from (not (eqb b 48)) _ (not_from_false (eqb b 48) (ne_eqb b 48 (λ e. omega (arith, z e)))) h

pub record Shape (s : List ℕ) : Type 0 where
  pub digits : list_all (is_digit 10) s ≡ true
  pub some : 0 < length s
  pub first : get_or s 0 0 ≡ 48 → length s ≡ 1

shaped : (s : List ℕ) → is_decimal s ≡ true → Shape s
shaped [] h = absurd (false≢true h)
shaped (b ∷ []) h = record { digits = and_from (is_digit 10 b) true h refl; some = omega arith; first = λ e. refl }
shaped (b ∷ (d ∷ bs)) h =
    let both = and_parts (not (eqb b 48)) (list_all (is_digit 10) (b ∷ (d ∷ bs))) h in
    record { digits = both.1; some = omega arith; first = λ e. absurd (eqb-false b 48 (not-true (eqb b 48) both.0) e) }

decimal_shape : (n : ℕ) → n < 2 ^ 64 → Shape (decimal n)
decimal_shape n l = record {
  digits = digits_decimal own n l;
  some = decimal_nonempty n l;
  first = λ e. elim (cases_eq n 0) [
    | inl z ↦ ap length (ap decimal z ∙ decimal_digit 0 (omega arith))
    | inr nz ↦ absurd (omega (arith, first_decimal n (omega arith) l))
  ];
}

-- numbers
pub number_text : (least most : ℕ) → most < 2 ^ 64 → OneText (λ v. (least ≤ v) × (v ≤ most)) decimal (number_said least most)
number_text least most big = record { back = back; only = only }
  where
    back : (v : ℕ) → (least ≤ v) × (v ≤ most) → number_said least most (decimal v) ≡ Some v
    back v r =
        let l : v < 2 ^ 64 = omega (arith, r.0, r.1) in
        let d = decimal_shape v l in
        let e : value 10 (decimal v) ≡ v = digits_value-decimal own v l in
        let ok : (is_decimal (decimal v) && (leb least (value 10 (decimal v)) && leb (value 10 (decimal v)) most)) ≡ true =
        and_from (is_decimal (decimal v)) _ (shape (decimal v) d.digits d.some d.first)
        (and_from (leb least (value 10 (decimal v))) _ (le-leb least _ (omega (arith, r.0))) (le-leb _ most (omega (arith, r.1)))) in
        cond-true _ _ _ ok ∙ ap Some e

    only : (s : List ℕ) (v : ℕ) → number_said least most s ≡ Some v → ((least ≤ v) × (v ≤ most)) × (s ≡ decimal v)
    only s v h = go (cases_Bool (is_decimal s && (leb least (value 10 s) && leb (value 10 s) most)))
      where
        go : ((is_decimal s && (leb least (value 10 s) && leb (value 10 s) most)) ≡ true) ⊎ ((is_decimal s && (leb least (value 10 s) && leb (value 10 s) most)) ≡ false)
            → ((least ≤ v) × (v ≤ most)) × (s ≡ decimal v)
        go (inl t) =
            let a = and_parts (is_decimal s) _ t in
            let b = and_parts (leb least (value 10 s)) (leb (value 10 s) most) a.1 in
            let e : value 10 s ≡ v = some_is (sym (cond-true _ _ _ t) ∙ h) in
            let d = shaped s a.0 in (
              (omega (arith, leb-true _ _ b.0), omega (arith, leb-true _ _ b.1)),
              sym (decimal-digits_value own s d.digits d.some d.first (omega (arith, leb-true _ _ b.1))) ∙ ap decimal e,
            )
        go (inr t) = absurd (none_is (sym (cond-false _ _ _ t) ∙ h))

-- sets
byte_digit : (d : ℕ) → d < 16 → (is_digit 16 (digit_byte d) ≡ true) × (digit (digit_byte d) ≡ d)
byte_digit d l = elim (cases_Bool (ltb d 10)) [ inl e ↦ (rw (e) (grind (arith, nat_tests)), rw (e) (grind (arith, nat_tests))) | inr e ↦ (rw (e) (grind (arith, nat_tests)), rw (e) (grind (arith, nat_tests))) ]

digit_text : (b : ℕ) → is_digit 16 b ≡ true → (digit b < 16) × (digit_byte (digit b) ≡ b)
digit_text b h = elim (cases_Bool (leb b 57)) [ inl e ↦ (grind (arith, nat_tests), rw (e) (grind (arith, nat_tests))) | inr e ↦ (grind (arith, nat_tests), rw (e) (grind (arith, nat_tests))) ]

above : (k : ℕ) → 0 < 16 ^ k
above k = one-le-pow k 16 (omega arith)

first_digit : (k n : ℕ) → n < 16 ^ suc k → n / 16 ^ k < 16
first_digit k n l = (div-lt_iff_lt-mul {k = 16 ^ k} {x = n} {y = 16} (above k)).1 (omega (arith, pow-succ' 16 k))

hex_length : (k n : ℕ) → length (hexadecimal k n) ≡ k
hex_length zero n = refl
hex_length (suc k) n = ap suc (hex_length k (n % 16 ^ k))

hex_digits : (k n : ℕ) → n < 16 ^ k → list_all (is_digit 16) (hexadecimal k n) ≡ true
hex_digits zero n l = refl
hex_digits (suc k) n l =
    and_from (is_digit 16 (digit_byte (n / 16 ^ k))) _ (byte_digit (n / 16 ^ k) (first_digit k n l)).0 (hex_digits k (n % 16 ^ k) (mod-lt n (above k)))

hex_value : (k n : ℕ) → n < 16 ^ k → value 16 (hexadecimal k n) ≡ n
hex_value zero n l = omega (arith, pow-zero 16)
hex_value (suc k) n l =
    value_cons 16 (digit_byte (n / 16 ^ k)) (hexadecimal k (n % 16 ^ k))
    ∙ (λ j. (byte_digit (n / 16 ^ k) (first_digit k n l)).1 j * 16 ^ hex_length k (n % 16 ^ k) j + hex_value k (n % 16 ^ k) (mod-lt n (above k)) j)
    ∙ div-add-mod' n (16 ^ k)

hex_only : (s : List ℕ) → list_all (is_digit 16) s ≡ true → hexadecimal (length s) (value 16 s) ≡ s
hex_only [] h = refl
hex_only (b ∷ bs) h =
    let both = and_parts (is_digit 16 b) (list_all (is_digit 16) bs) h in
    let v : value 16 bs < 16 ^ length bs = value_lt 16 bs both.1 in
    let whole = value_cons 16 b bs in
    let q : value 16 (b ∷ bs) / 16 ^ length bs ≡ digit b =
    ap (λ (n : ℕ). n / 16 ^ length bs) whole ∙ mul-add-div_right (above (length bs)) (digit b) (value 16 bs)
    ∙ omega (arith, div-eq_of_lt v) in
    let r : value 16 (b ∷ bs) % 16 ^ length bs ≡ value 16 bs =
    ap (λ (n : ℕ). n % 16 ^ length bs) whole ∙ mul-add-mod_self_right (digit b) (16 ^ length bs) (value 16 bs) ∙ mod-eq_of_lt v in
    λ j. (ap digit_byte q ∙ (digit_text b both.0).1) j ∷ (ap (hexadecimal (length bs)) r ∙ hex_only bs both.1) j

pub digits_text : (k : ℕ) → OneText (λ s. s < 16 ^ k) (hexadecimal k) (digits_said k)
digits_text k = record { back = back; only = only }
  where
    back : (v : ℕ) → v < 16 ^ k → digits_said k (hexadecimal k v) ≡ Some v
    back v l =
        cond-true _ _ _ (and_from (eqb (length (hexadecimal k v)) k) _ (eq-eqb _ k (hex_length k v)) (hex_digits k v l)) ∙ ap Some (hex_value k v l)

    only : (s : List ℕ) (v : ℕ) → digits_said k s ≡ Some v → (v < 16 ^ k) × (s ≡ hexadecimal k v)
    only s v h = go (cases_Bool (eqb (length s) k && list_all (is_digit 16) s))
      where
        go : ((eqb (length s) k && list_all (is_digit 16) s) ≡ true) ⊎ ((eqb (length s) k && list_all (is_digit 16) s) ≡ false) → (v < 16 ^ k) × (s ≡ hexadecimal k v)
        go (inl t) =
            let both = and_parts (eqb (length s) k) (list_all (is_digit 16) s) t in
            let l : length s ≡ k = eqb-true (length s) k both.0 in
            let e : value 16 s ≡ v = some_is (sym (cond-true _ _ _ t) ∙ h) in (
              subst (λ (n : ℕ). n < 16 ^ k) e (subst (λ (m : ℕ). value 16 s < 16 ^ m) l (value_lt 16 s both.1)),
              sym (hex_only s both.1) ∙ (λ j. hexadecimal (l j) (e j)),
            )
        go (inr t) = absurd (none_is (sym (cond-false _ _ _ t) ∙ h))

-- numbers of 32 bits
word_text : OneText (λ v. v < 2 ^ 32) decimal word_said
word_text =
    let t = number_text 0 (2 ^ 32 - 1) (omega arith) in
    record { back = λ v l. t.back v (omega arith, omega arith); only = λ s v h. let r = t.only s v h in (omega (arith, r.0.1), r.1) }

-- cues
pub cue_text_one : OneText (λ c. c.0 < 2 ^ 32) cue_text cue_said
cue_text_one = record { back = λ c l. ap (option_map (λ v. record { 0 = v })) (word_text.back c.0 l); only = only }
  where
    only : (s : List ℕ) (c : Cue) → cue_said s ≡ Some c → (c.0 < 2 ^ 32) × (s ≡ cue_text c)
    only s c h = go (word_said s) refl
      where
        go : (o : Option ℕ) → word_said s ≡ o → (c.0 < 2 ^ 32) × (s ≡ cue_text c)
        go (Some v) e =
            let r = word_text.only s v e in
            let k : v ≡ c.0 = ap (λ (x : Cue). x.0) (some_is (sym (ap (option_map (λ v. record { 0 = v })) e) ∙ h)) in
            (omega (arith, r.0), r.1 ∙ ap decimal k)
        go None e = absurd (none_is (sym (ap (option_map (λ v. record { 0 = v })) e) ∙ h))

-- first presses
no_colon : (s : List ℕ) → list_all (is_digit 10) s ≡ true → before 58 s ≡ s
no_colon [] h = refl
no_colon (b ∷ bs) h =
    let both = and_parts (is_digit 10 b) (list_all (is_digit 10) bs) h in
    let q : eqb b 58 ≡ false = ne_eqb b 58 (λ e. let d = both.0 in grind (arith, nat_tests)) in
    cond-false (eqb b 58) _ _ q ∙ ap (λ (t : List ℕ). b ∷ t) (no_colon bs both.1)

pub first_text_one : OneText (λ p. (p.tick < 2 ^ 32) × (p.cue < 2 ^ 32)) first_press_text first_said
first_text_one = record { back = back; only = only }
  where
    back : (p : FirstPress) → (p.tick < 2 ^ 32) × (p.cue < 2 ^ 32) → first_said (first_press_text p) ≡ Some p
    back p r =
        let parts = cut_at 58 (decimal p.tick) (58 ∷ decimal p.cue) (no_colon _ (digits_decimal own p.tick (omega (arith, r.0)))) refl in
        λ j. pressed
        ((ap word_said parts.0 ∙ word_text.back p.tick r.0) j)
        ((ap behind_colon parts.1 ∙ word_text.back p.cue r.1) j)

    only : (s : List ℕ) (p : FirstPress) → first_said s ≡ Some p → ((p.tick < 2 ^ 32) × (p.cue < 2 ^ 32)) × (s ≡ first_press_text p)
    only s p h = go (word_said (before 58 s)) (behind_colon (onward 58 s)) refl refl
      where
        colon : (t : List ℕ) (v : ℕ) → behind_colon t ≡ Some v → (v < 2 ^ 32) × (t ≡ 58 ∷ decimal v)
        colon [] v e = absurd (none_is e)
        colon (b ∷ bs) v e =
            elim (cases_Bool (eqb b 58)) [
              | inl q ↦ (let r = word_text.only bs v (sym (cond-true (eqb b 58) _ _ q) ∙ e) in (r.0, λ j. eqb-true b 58 q j ∷ r.1 j))
              | inr q ↦ absurd (none_is (sym (cond-false (eqb b 58) _ _ q) ∙ e))
            ]

        go : (a b : Option ℕ) → word_said (before 58 s) ≡ a → behind_colon (onward 58 s) ≡ b → ((p.tick < 2 ^ 32) × (p.cue < 2 ^ 32)) × (s ≡ first_press_text p)
        go (Some tick) (Some cue) e f =
            let k = some_is (sym (λ j. pressed (e j) (f j)) ∙ h) in
            let t = word_text.only (before 58 s) tick e in
            let c = colon (onward 58 s) cue f in
            let u : tick ≡ p.tick = ap (λ (x : FirstPress). x.tick) k in
            let w : cue ≡ p.cue = ap (λ (x : FirstPress). x.cue) k in (
              (omega (arith, t.0), omega (arith, c.0)),
              sym (before_onward 58 s) ∙ (λ j. (t.1 ∙ ap decimal u) j ++ (c.1 ∙ ap (λ (v : ℕ). 58 ∷ decimal v) w) j),
            )
        go (Some tick) None e f = absurd (none_is (sym (λ j. pressed (e j) (f j)) ∙ h))
        go None b e f = absurd (none_is (sym (λ j. pressed (e j) (f j)) ∙ h))

-- two words that stand for two values
two_words : {V : Type 0} (a b : List ℕ) (x y : V) (text : V → List ℕ) → text x ≡ a → text y ≡ b → same b a ≡ false → ((v : V) → (v ≡ x) ⊎ (v ≡ y)) →
    OneText (λ v. Unit {0}) text (λ s. cond (same s a) (Some x) (cond (same s b) (Some y) None))
two_words {V} a b x y text tx ty apart all = record { back = λ v u. back v (all v); only = only }
  where
    back : (v : V) → (v ≡ x) ⊎ (v ≡ y) → cond (same (text v) a) (Some x) (cond (same (text v) b) (Some y) None) ≡ Some v
    back v (inl e) = cond-true (same (text v) a) _ _ (ap (λ (s : List ℕ). same s a) (ap text e ∙ tx) ∙ same_refl a) ∙ ap Some (sym e)
    back v (inr e) =
        cond-false (same (text v) a) _ _ (ap (λ (s : List ℕ). same s a) (ap text e ∙ ty) ∙ apart)
        ∙ cond-true (same (text v) b) _ _ (ap (λ (s : List ℕ). same s b) (ap text e ∙ ty) ∙ same_refl b) ∙ ap Some (sym e)

    only : (s : List ℕ) (v : V) → cond (same s a) (Some x) (cond (same s b) (Some y) None) ≡ Some v → Unit {0} × (s ≡ text v)
    only s v h = (tt, go (cases_Bool (same s a)) (cases_Bool (same s b)))
      where
        go : (same s a ≡ true) ⊎ (same s a ≡ false) → (same s b ≡ true) ⊎ (same s b ≡ false) → s ≡ text v
        go (inl p) q = same_true s a p ∙ sym tx ∙ ap text (some_is (sym (cond-true (same s a) _ _ p) ∙ h))
        go (inr p) (inl q) = same_true s b q ∙ sym ty ∙ ap text (some_is (sym (cond-false (same s a) _ _ p ∙ cond-true (same s b) _ _ q) ∙ h))
        go (inr p) (inr q) = absurd (none_is (sym (cond-false (same s a) _ _ p ∙ cond-false (same s b) _ _ q) ∙ h))

pub field_texts : FieldTexts
field_texts = record {
  numbers = number_text;
  sets = digits_text 4;
  cues = cue_text_one;
  first_presses = first_text_one;
  kinds = two_words (codes "cue") (codes "first") OfCues First kind_text refl refl refl kinds;
  back_ends = two_words (codes "leader") (codes "third") Leader Third back_end_text refl refl refl back_ends;
}
  where
    kinds : (k : ProposalKind) → (k ≡ OfCues) ⊎ (k ≡ First)
    kinds OfCues = inl refl
    kinds First = inr refl

    back_ends : (k : BackEndKind) → (k ≡ Leader) ⊎ (k ≡ Third)
    back_ends Leader = inl refl
    back_ends Third = inr refl
