-- When a text is a word.
use Rattle.std.proofs.Common.{◌≡◌, ℕ, zero, suc, ◌+◌, ◌⊎◌, inl, inr, Bool, slice_index, below_more, ◌<◌, List, [], ◌∷◌, length, IsTrue, ◌||◌, ◌&&◌, ◌==◌, ◌↔◌, true, false, refl, sym, subst, arith}
use Rattle.std.proofs.lemmas.Bool.{cases_lt}
use Rattle.std.proofs.lemmas.Bool.Decides.{nat_tests}
use Rattle.gr_text.specs.Words.{is_word_byte, IsWordByteAt, FitsWordAt, IsBareWord, begins_with_word_byte, is_word_rest, is_word as is_word_by_test, Spells, quoted}

-- bytes that are seen again, as those of the text
module _ (text bytes : List ℕ) (same : bytes ≡ text) where
  -- all bytes fit
  pub is_word : IsWordByteAt bytes 0 → ((k : ℕ) → k < length bytes → FitsWordAt bytes k) → IsTrue true ↔ IsBareWord text
  is_word begins fits =
      let word : IsBareWord bytes = record { begins = begins; fits = fits } in
      (λ yes. subst IsBareWord same word, λ bare. refl)

  -- one doesn't
  pub no_word : (at : ℕ) → at < length bytes → (IsTrue false ↔ FitsWordAt bytes at) → IsTrue false ↔ IsBareWord text
  no_word at within fits =
      (λ no. cc, λ bare. let word : IsBareWord bytes = subst IsBareWord (sym same) bare in fits.1 (word.fits at within))

-- the fact holds or doesn't
abbrev IsSettled : Type 0 → Type 0
IsSettled P = P ⊎ (P → ⊥)

test_settled : (b : Bool) → IsSettled (IsTrue b)
test_settled true = inl refl
test_settled false = inr (λ never. cc)

below_settled : (m n : ℕ) → IsSettled (m < n)
below_settled m n = elim (cases_lt m n) [ inl below ↦ inl below | inr above ↦ inr (λ below. omega arith) ]

equal_settled : (m n : ℕ) → IsSettled (m ≡ n)
equal_settled m n = elim (cases_lt m n) [
  | inl below ↦ inr (λ same. omega arith)
  | inr above ↦ elim (cases_lt n m) [ inl more ↦ inr (λ same. omega arith) | inr most ↦ inl (omega arith) ]
]

both_settled : {P Q : Type 0} → IsSettled P → IsSettled Q → IsSettled (P × Q)
both_settled (inl p) (inl q) = inl (p, q)
both_settled (inl p) (inr never) = inr (λ (x, y). never y)
both_settled (inr never) q = inr (λ (x, y). never x)

either_settled : {P Q : Type 0} → IsSettled P → IsSettled Q → IsSettled (P ⊎ Q)
either_settled (inl p) q = inl (inl p)
either_settled (inr never) (inl q) = inl (inr q)
either_settled (inr never) (inr none) = inr (λ one. elim one [ inl p ↦ never p | inr q ↦ none q ])

each_settled : (P : ℕ → Type 0) → ((k : ℕ) → IsSettled (P k)) → (n : ℕ) → IsSettled ((k : ℕ) → k < n → P k)
each_settled P settled zero = inl (λ k below. absurd (omega arith))
each_settled P settled (suc n) =
    elim (each_settled P settled n) [
      | inl before ↦ elim (settled n) [
        | inl here ↦ inl (λ k below. below_more P n before here k (omega arith))
        | inr never ↦ inr (λ all. never (all n (omega arith)))
      ]
      | inr never ↦ inr (λ all. never (λ k below. all k (omega arith)))
    ]

IsWordByteAt-settled : (text : List ℕ) (k : ℕ) → IsSettled (IsWordByteAt text k)
IsWordByteAt-settled text k = both_settled (below_settled k (length text)) (test_settled (is_word_byte (slice_index text k)))

FitsWordAt-settled : (text : List ℕ) (k : ℕ) → IsSettled (FitsWordAt text k)
FitsWordAt-settled text k =
    either_settled (IsWordByteAt-settled text k) (both_settled (equal_settled (slice_index text k) 45) (IsWordByteAt-settled text (k + 1)))

-- a text is a word or isn't
pub IsBareWord-settled : (text : List ℕ) → IsBareWord text ⊎ (¬ (IsBareWord text))
IsBareWord-settled text =
    elim (both_settled (IsWordByteAt-settled text 0) (each_settled (λ k. FitsWordAt text k) (FitsWordAt-settled text) (length text))) [
      | inl (begins, fits) ↦ inl (record { begins = begins; fits = fits })
      | inr never ↦ inr (λ word. never (word.begins, word.fits))
    ]

-- so each text has a spelling
pub Spells-some : (text : List ℕ) → (spelling : List ℕ) × Spells spelling text
Spells-some text =
    elim (IsBareWord-settled text) [ inl word ↦ (text, inl (word, refl)) | inr never ↦ (quoted text, inr (never, refl)) ]

-- tests that are joined
or_split : (x y : Bool) → IsTrue (x || y) → IsTrue x ⊎ IsTrue y
or_split true y h = inl h
or_split false y h = inr h

and_split : (x y : Bool) → IsTrue (x && y) → IsTrue x × IsTrue y
and_split true y h = (refl, h)
and_split false y h = absurd cc

and_join : (x y : Bool) → IsTrue x → IsTrue y → IsTrue (x && y)
and_join true y g h = h
and_join false y g h = g

or_first : (x y : Bool) → IsTrue x → IsTrue (x || y)
or_first true y h = refl
or_first false y h = absurd cc

or_second : (x y : Bool) → IsTrue y → IsTrue (x || y)
or_second true y h = refl
or_second false y h = h

-- a word byte stands in front just where the test says so
word_byte_first : (bs : List ℕ) → IsTrue (begins_with_word_byte bs) → IsWordByteAt bs 0
word_byte_first [] h = absurd cc
word_byte_first (b ∷ bs) h = (omega arith, h)

first_word_byte : (bs : List ℕ) → IsWordByteAt bs 0 → IsTrue (begins_with_word_byte bs)
first_word_byte [] h = absurd (omega (arith, h.0))
first_word_byte (b ∷ bs) h = h.1

-- the first byte fits just where the test of it says so
first_fits : (b : ℕ) (bs : List ℕ) → IsTrue (is_word_byte b || ((b == 45) && begins_with_word_byte bs)) → FitsWordAt (b ∷ bs) 0
first_fits b bs h = elim (or_split (is_word_byte b) ((b == 45) && begins_with_word_byte bs) h) [
  | inl here ↦ inl (omega arith, here)
  | inr dash ↦
      let both = and_split (b == 45) (begins_with_word_byte bs) dash in
      let next = word_byte_first bs both.1 in
      inr (grind (arith, nat_tests, both.0), (omega (arith, next.0), next.1))
]

fits_first : (b : ℕ) (bs : List ℕ) → FitsWordAt (b ∷ bs) 0 → IsTrue (is_word_byte b || ((b == 45) && begins_with_word_byte bs))
fits_first b bs (inl here) = or_first (is_word_byte b) ((b == 45) && begins_with_word_byte bs) here.1
fits_first b bs (inr (dash, next)) =
    or_second (is_word_byte b) ((b == 45) && begins_with_word_byte bs)
    (and_join (b == 45) (begins_with_word_byte bs) (grind (arith, nat_tests, dash)) (first_word_byte bs (omega (arith, next.0), next.1)))

-- a byte behind the first fits just where it does without the first
fits_behind : (b : ℕ) (bs : List ℕ) (k : ℕ) → FitsWordAt bs k → FitsWordAt (b ∷ bs) (suc k)
fits_behind b bs k (inl here) = inl (omega (arith, here.0), here.1)
fits_behind b bs k (inr (dash, next)) =
    let same : suc (k + 1) ≡ suc k + 1 = omega arith in
    let behind : IsWordByteAt (b ∷ bs) (suc (k + 1)) = (omega (arith, next.0), next.1) in
    inr (dash, subst (λ n. IsWordByteAt (b ∷ bs) n) same behind)

behind_fits : (b : ℕ) (bs : List ℕ) (k : ℕ) → FitsWordAt (b ∷ bs) (suc k) → FitsWordAt bs k
behind_fits b bs k (inl here) = inl (omega (arith, here.0), here.1)
behind_fits b bs k (inr (dash, next)) =
    let same : suc k + 1 ≡ suc (k + 1) = omega arith in
    let behind : IsWordByteAt (b ∷ bs) (suc (k + 1)) = subst (λ n. IsWordByteAt (b ∷ bs) n) same next in
    inr (dash, (omega (arith, behind.0), behind.1))

rest_fits : (bs : List ℕ) → IsTrue (is_word_rest bs) → (k : ℕ) → k < length bs → FitsWordAt bs k
rest_fits [] h k within = absurd (omega (arith, within))
rest_fits (b ∷ bs) h zero within = first_fits b bs (and_split (is_word_byte b || ((b == 45) && begins_with_word_byte bs)) (is_word_rest bs) h).0
rest_fits (b ∷ bs) h (suc k) within =
    fits_behind b bs k (rest_fits bs (and_split (is_word_byte b || ((b == 45) && begins_with_word_byte bs)) (is_word_rest bs) h).1 k (omega (arith, within)))

fits_rest : (bs : List ℕ) → ((k : ℕ) → k < length bs → FitsWordAt bs k) → IsTrue (is_word_rest bs)
fits_rest [] all = refl
fits_rest (b ∷ bs) all =
    and_join (is_word_byte b || ((b == 45) && begins_with_word_byte bs)) (is_word_rest bs)
    (fits_first b bs (all zero (omega arith)))
    (fits_rest bs (λ k within. behind_fits b bs k (all (suc k) (omega (arith, within)))))

-- a text is a word just where the test says so
pub IsBareWord-test : (text : List ℕ) → IsTrue (is_word_by_test text) ↔ IsBareWord text
IsBareWord-test text = (
  λ h.
      let both = and_split (begins_with_word_byte text) (is_word_rest text) h in
      record { begins = word_byte_first text both.0; fits = rest_fits text both.1 },
  λ word. and_join (begins_with_word_byte text) (is_word_rest text) (first_word_byte text word.begins) (fits_rest text word.fits),
)
