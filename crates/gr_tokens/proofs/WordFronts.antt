-- Words and variables at the front of some bytes.
use Rattle.std.specs.Prelude.{◌≡◌, ℕ, zero, suc, ◌+◌, ◌<◌, ◌≤◌, List, [], ◌∷◌, ◌++◌, length, take, drop, true, false, ◌==◌, ◌||◌, ◌&&◌, refl}
use Rattle.std.proofs.Common.{sym, ap, ◌∙◌, subst, inl, inr, arith}
use Rattle.std.proofs.lemmas.Bool.{false≢true, and_parts, or_cases, and_from, or_right}
use Rattle.std.proofs.lemmas.List.{take-append-drop, length-take-le}
use Rattle.std.proofs.Math.Seq.{take-add}
use Rattle.gr_base.proofs.ListLemmas.{same_tail}
use Rattle.gr_text.specs.Words.{is_word_byte, begins_with_word_byte, is_word_rest}
use Rattle.gr_tokens.specs.declared.Kind.TheVariants.{Word, Var}
use Rattle.gr_tokens.specs.Tokens.{IsNext, HasNoToken}
use Rattle.gr_tokens.specs.Fronts.{EndsWord, BeginsWith}
use Rattle.gr_tokens.proofs.Openers.{next_from, none_from, too_long}

pub begins-append : (xs ys : List ℕ) → begins_with_word_byte xs ≡ true → begins_with_word_byte (xs ++ ys) ≡ true
begins-append [] ys h = absurd (false≢true h)
begins-append (x ∷ xs) ys h = h

-- a word that goes on with more of a word is one
goes_on : (b : ℕ) (xs ys : List ℕ) → (is_word_byte b || ((b == 45) && begins_with_word_byte xs)) ≡ true → (is_word_byte b || ((b == 45) && begins_with_word_byte (xs ++ ys))) ≡ true
goes_on b xs ys h = elim (or_cases (is_word_byte b) _ h) [
  | inl w ↦ ap (λ v. v || ((b == 45) && begins_with_word_byte (xs ++ ys))) w
  | inr d ↦ let p = and_parts (b == 45) _ d in or_right (is_word_byte b) _ (and_from (b == 45) _ p.0 (begins-append xs ys p.1))
]

pub is_word_rest-append : (xs ys : List ℕ) → is_word_rest xs ≡ true → is_word_rest ys ≡ true → is_word_rest (xs ++ ys) ≡ true
is_word_rest-append [] ys p q = q
is_word_rest-append (x ∷ xs) ys p q =
    let r = and_parts (is_word_byte x || ((x == 45) && begins_with_word_byte xs)) (is_word_rest xs) p in
    and_from (is_word_byte x || ((x == 45) && begins_with_word_byte (xs ++ ys))) (is_word_rest (xs ++ ys)) (goes_on x xs ys r.0) (is_word_rest-append xs ys r.1 q)

-- no part of a word goes past bytes behind which no word goes on
pub word_most : (front more w rest : List ℕ) → is_word_rest front ≡ true → EndsWord rest → front ++ more ≡ w ++ rest → length front ≤ length w
word_most [] more w rest f ends e = omega arith
word_most (b ∷ front) more [] rest f ends e =
    let over : EndsWord (b ∷ (front ++ more)) = subst (λ z. EndsWord z) (sym e) ends in
    absurd (false≢true (sym over ∙ goes_on b front more (and_parts (is_word_byte b || ((b == 45) && begins_with_word_byte front)) _ f).0))
word_most (b ∷ front) more (c ∷ w) rest f ends e =
    let less = word_most front more w rest (and_parts (is_word_byte b || ((b == 45) && begins_with_word_byte front)) _ f).1 ends (same_tail b c (front ++ more) (w ++ rest) e) in
    omega (arith, less)

word_next : (w rest : List ℕ) → begins_with_word_byte w ≡ true → is_word_rest w ≡ true → EndsWord rest → IsNext Word w w rest
word_next w rest begins is ends = next_from Word w w rest (refl, and_from _ _ begins is)
    (λ t front more e v. word_most front more w rest (subst (λ z. is_word_rest z ≡ true) (sym v.0) (and_parts (begins_with_word_byte t) _ v.1).1) ends e)

var_next : (w rest : List ℕ) → begins_with_word_byte w ≡ true → is_word_rest w ≡ true → EndsWord rest → IsNext Var w (63 ∷ w) rest
var_next w rest begins is ends = next_from Var w (63 ∷ w) rest (refl, and_from _ _ begins is)
    (λ t front more e v.
    let less = word_most t more w rest (and_parts (begins_with_word_byte t) _ v.1).1 ends (same_tail 63 63 (t ++ more) (w ++ rest) (ap (λ z. z ++ more) (sym v.0) ∙ e)) in
    omega (arith, less, ap length v.0))

pub begins-take : (bytes : List ℕ) (n : ℕ) → begins_with_word_byte bytes ≡ true → EndsWord (drop n bytes) → begins_with_word_byte (take n bytes) ≡ true
begins-take [] n h ends = absurd (false≢true h)
begins-take (b ∷ bytes) zero h ends = absurd (false≢true (sym ends ∙ ap (λ v. v || ((b == 45) && begins_with_word_byte bytes)) h))
begins-take (b ∷ bytes) (suc n) h ends = h

module _ (bytes : List ℕ) (n : ℕ) (within : n ≤ length bytes) (begins : begins_with_word_byte bytes ≡ true) (is : is_word_rest (take n bytes) ≡ true) (ends : EndsWord (drop n bytes)) where
  whole : length (take n bytes) ≡ n
  whole = length-take-le n bytes within

  here : IsNext Word (take n bytes) (take n bytes) (drop n bytes)
  here = word_next (take n bytes) (drop n bytes) (begins-take bytes n begins ends) is ends

  behind : IsNext Var (take n bytes) (63 ∷ take n bytes) (drop n bytes)
  behind = var_next (take n bytes) (drop n bytes) (begins-take bytes n begins ends) is ends

  pub word_begins : n ≤ 255 → BeginsWith bytes Word n
  word_begins short = record { text = take n bytes; next = here; short = omega (arith, whole); within = within }

  pub word_long : 255 < n → HasNoToken bytes
  word_long long = too_long Word (take n bytes) (take n bytes) (drop n bytes) bytes (sym (take-append-drop n bytes)) here (omega (arith, whole))

  pub variable_begins : (m : ℕ) → m ≡ suc n → n ≤ 255 → BeginsWith (63 ∷ bytes) Var m
  variable_begins m e short = subst (λ z. BeginsWith (63 ∷ bytes) Var z) (sym e) (record { text = take n bytes; next = behind; short = omega (arith, whole); within = omega arith })

  pub variable_long : 255 < n → HasNoToken (63 ∷ bytes)
  variable_long long = too_long Var (take n bytes) (63 ∷ take n bytes) (drop n bytes) (63 ∷ bytes) (ap (λ z. 63 ∷ z) (sym (take-append-drop n bytes))) behind (omega (arith, whole))

pub variable_none : (bytes : List ℕ) → begins_with_word_byte bytes ≡ false → HasNoToken (63 ∷ bytes)
variable_none bytes none = none_from Var 63 bytes refl (λ t front more e v short.
    let same : t ++ more ≡ bytes = same_tail 63 63 (t ++ more) bytes (ap (λ z. z ++ more) (sym v.0) ∙ e) in
    false≢true (sym none ∙ (ap begins_with_word_byte (sym same) ∙ begins-append t more (and_parts (begins_with_word_byte t) _ v.1).0)))

-- a front that is part of a word grows by what goes on with it
pub word_grows : (bytes : List ℕ) (len step : ℕ) → is_word_rest (take len bytes) ≡ true → is_word_rest (take step (drop len bytes)) ≡ true → is_word_rest (take (len + step) bytes) ≡ true
word_grows bytes len step p q = subst (λ z. is_word_rest z ≡ true) (sym (take-add len step bytes)) (is_word_rest-append (take len bytes) (take step (drop len bytes)) p q)
