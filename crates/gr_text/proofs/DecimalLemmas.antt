-- Decimals and what std reads of a text of digits.
use Rattle.std.proofs.Common.{◌≡◌, ◌≢◌, ℕ, zero, suc, get_or, ◌<◌, ◌≤◌, ◌^◌, List, length, inl, inr, Result, Ok, arith, rules}
use Rattle.std.specs.Fmt.{decimal}
use Rattle.std.proofs.lemmas.Fmt.{decimal_is_IsNumeral, decimal_digit, decimal-digits_value, first_decimal, length-decimal-le}
use Rattle.std.proofs.lemmas.Str.Parse.{IsNumeralModel, numerals_by_value, tells_digits, digits_value_short, parse_gives}
use Rattle.std.specs.Str.Parse.{AllDigits, IsNumeral, ParsesUnsigned, digits_value}
use Rattle.gr_text.specs.Decimals.{IsDecimal}

own : IsNumeralModel (AllDigits 10) (digits_value 10)
own = numerals_by_value (AllDigits 10) tells_digits

-- a decimal is a numeral of at most nine digits
pub IsDecimal-digits : (text : List ℕ) → IsDecimal text → IsNumeral 10 text
IsDecimal-digits text (inl zero_is) = rw zero_is (search rules)
IsDecimal-digits text (inr long) = long.numeral

pub IsDecimal-short : (text : List ℕ) → IsDecimal text → length text ≤ 9
IsDecimal-short text (inl zero_is) = rw zero_is (omega arith)
IsDecimal-short text (inr long) = long.short

pub IsDecimal-small : (text : List ℕ) → IsDecimal text → digits_value 10 text < 10 ^ 9
IsDecimal-small text is = digits_value_short own text 9 (IsDecimal-digits text is).1 (IsDecimal-short text is)

-- so std reads it
pub IsDecimal-parses : {E : Type 0} (text : List ℕ) (r : Result ℕ E) → ParsesUnsigned 32 10 text r → IsDecimal text → r ≡ Ok (digits_value 10 text)
IsDecimal-parses text r parses is =
    let numeral : IsNumeral 10 text = IsDecimal-digits text is in
    let small : digits_value 10 text < 10 ^ 9 = IsDecimal-small text is in
    parse_gives own 32 text r parses numeral.1 numeral.0 (omega arith)

-- a decimal begins with `0` only where it is `0`
IsDecimal-alone : (text : List ℕ) → IsDecimal text → get_or text 0 0 ≡ 48 → length text ≡ 1
IsDecimal-alone text (inl zero_is) e = rw zero_is (omega arith)
IsDecimal-alone text (inr long) e = absurd (long.begins e)

-- what `{}` writes of a decimal's number is the decimal
pub IsDecimal-written : (text : List ℕ) → IsDecimal text → decimal (digits_value 10 text) ≡ text
IsDecimal-written text is =
    let numeral : IsNumeral 10 text = IsDecimal-digits text is in
    let small : digits_value 10 text < 10 ^ 9 = IsDecimal-small text is in
    decimal-digits_value own text numeral.1 numeral.0 (IsDecimal-alone text is) (omega arith)

-- and what it writes of a number below a thousand million is a decimal of that number
pub IsDecimal-decimal : (n : ℕ) → n < 10 ^ 9 → IsDecimal (decimal n)
IsDecimal-decimal zero small = inl (decimal_digit 0 (omega arith))
IsDecimal-decimal (suc n) small =
    let first : 48 < get_or (decimal (suc n)) 0 0 = first_decimal (suc n) (omega arith) (omega arith) in
    let begins : get_or (decimal (suc n)) 0 0 ≢ 48 = omega arith in
    inr (record {
      numeral = (decimal_is_IsNumeral (suc n) (omega arith)).0;
      short = length-decimal-le 9 (suc n) (omega arith) (omega arith) (omega arith);
      begins = begins;
    })

pub decimal-value : (n : ℕ) → n < 10 ^ 9 → digits_value 10 (decimal n) ≡ n
decimal-value n small = (decimal_is_IsNumeral n (omega arith)).1
