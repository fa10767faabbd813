-- With which byte the text of a value begins.
use Rattle.std.specs.Prelude.{◌≡◌, ℕ, ◌<◌, ◌^◌, Bool, true, false, List, [], ◌∷◌, ◌++◌, if◌then◌else◌, refl}
use Rattle.std.specs.Fmt.{decimal}
use Rattle.std.proofs.Common.{ap, sym, ◌∙◌, arith}
use Rattle.std.proofs.lemmas.Bool.{false≢true}
use Rattle.gr_base.proofs.ListLemmas.{same_head, same_tail}
use Rattle.gr_text.specs.Words.{is_word, is_word_byte, quoted}
use Rattle.gr_terms.specs.Canonical.{Label, named, numbered}
use Rattle.td_canon.specs.TreeText.{label_text}
use Rattle.tg_reader.specs.Reading.{CanRead}
use Rattle.tg_reader.specs.Writable.{IsName, IsWord}
use Rattle.tg_reader.proofs.Runs.{word_some}

module _ (text : ℕ → List ℕ) where
  -- how the text of a label looks
  pub data Looks (v : Label) : Type 0 where
    bare : (a : ℕ) → v ≡ named a → IsWord (text a) → label_text text v ≡ text a → Looks v
    in_quotes : (a : ℕ) → v ≡ named a → IsName (text a) → label_text text v ≡ quoted (text a) → Looks v
    number : (k : ℕ) → v ≡ numbered k → k < 10 ^ 9 → label_text text v ≡ 63 ∷ decimal k → Looks v

  pub looks : (v : Label) → CanRead text v → Looks v
  looks (numbered k) h = number k refl h refl
  looks (named a) h = by (is_word (text a)) refl
    where
      by : (b : Bool) → is_word (text a) ≡ b → Looks (named a)
      by true e = bare a refl (record { name = h; word = e }) (ap (λ b. if b then text a else quoted (text a)) e)
      by false e = in_quotes a refl h (ap (λ b. if b then text a else quoted (text a)) e)

  -- a word begins with no other byte
  pub word_not : (t r u : List ℕ) (b : ℕ) → IsWord t → is_word_byte b ≡ false → t ++ r ≡ b ∷ u → ⊥
  word_not t r u b is other e =
      let w = word_some t is.word in
      let same : w.0 ≡ b = same_head w.0 b (w.1 ++ r) u (sym (ap (λ z. z ++ r) w.2) ∙ e) in
      false≢true (sym other ∙ ap is_word_byte (sym same) ∙ w.3)

  -- behind `?` a number stands
  pub record IsNumber (v : Label) (mid rest : List ℕ) : Type 0 where
    pub number : ℕ
    pub is : v ≡ numbered number
    pub small : number < 10 ^ 9
    pub behind : mid ≡ decimal number ++ rest

  pub question : (v : Label) (mid rest : List ℕ) → CanRead text v → 63 ∷ mid ≡ label_text text v ++ rest → IsNumber v mid rest
  question v mid rest h e = by (looks v h)
    where
      by : Looks v → IsNumber v mid rest
      by (bare a is word same) = absurd (word_not (text a) rest mid 63 word refl (sym (ap (λ z. z ++ rest) same) ∙ sym e))
      by (in_quotes a is name same) =
          let f : 63 ≡ 34 = same_head 63 34 mid ((text a ++ 34 ∷ []) ++ rest) (e ∙ ap (λ z. z ++ rest) same) in absurd (omega (arith, f))
      by (number k is small same) = record { number = k; is = is; small = small; behind = same_tail 63 63 mid (decimal k ++ rest) (e ∙ ap (λ z. z ++ rest) same) }

  -- behind `"` a name stands, and `"`
  pub record IsQuoted (v : Label) (mid rest : List ℕ) : Type 0 where
    pub number : ℕ
    pub is : v ≡ named number
    pub name : IsName (text number)
    pub behind : mid ≡ (text number ++ 34 ∷ []) ++ rest

  pub quote : (v : Label) (mid rest : List ℕ) → CanRead text v → 34 ∷ mid ≡ label_text text v ++ rest → IsQuoted v mid rest
  quote v mid rest h e = by (looks v h)
    where
      by : Looks v → IsQuoted v mid rest
      by (bare a is word same) = absurd (word_not (text a) rest mid 34 word refl (sym (ap (λ z. z ++ rest) same) ∙ sym e))
      by (in_quotes a is name same) = record { number = a; is = is; name = name; behind = same_tail 34 34 mid ((text a ++ 34 ∷ []) ++ rest) (e ∙ ap (λ z. z ++ rest) same) }
      by (number k is small same) = let f : 34 ≡ 63 = same_head 34 63 mid (decimal k ++ rest) (e ∙ ap (λ z. z ++ rest) same) in absurd (omega (arith, f))

  -- else a word stands
  pub record IsBare (v : Label) (all rest : List ℕ) : Type 0 where
    pub number : ℕ
    pub is : v ≡ named number
    pub word : IsWord (text number)
    pub same : all ≡ text number ++ rest

  pub word_stands : (v : Label) (all rest : List ℕ) → CanRead text v → ((more : List ℕ) → all ≡ 63 ∷ more → ⊥) → ((more : List ℕ) → all ≡ 34 ∷ more → ⊥) → all ≡ label_text text v ++ rest → IsBare v all rest
  word_stands v all rest h no_question no_quote e = by (looks v h)
    where
      by : Looks v → IsBare v all rest
      by (bare a is word same) = record { number = a; is = is; word = word; same = e ∙ ap (λ z. z ++ rest) same }
      by (in_quotes a is name same) = absurd (no_quote ((text a ++ 34 ∷ []) ++ rest) (e ∙ ap (λ z. z ++ rest) same))
      by (number k is small same) = absurd (no_question (decimal k ++ rest) (e ∙ ap (λ z. z ++ rest) same))

  -- a value begins with a word byte, `"` or `?`
  pub begins_not : (v : Label) (b : ℕ) (mid rest : List ℕ) → CanRead text v → is_word_byte b ≡ false → (b ≡ 34 → ⊥) → (b ≡ 63 → ⊥) → b ∷ mid ≡ label_text text v ++ rest → ⊥
  begins_not v b mid rest h no_word no_quote no_question e = by (looks v h)
    where
      by : Looks v → ⊥
      by (bare a is word same) = word_not (text a) rest mid b word no_word (sym (ap (λ z. z ++ rest) same) ∙ sym e)
      by (in_quotes a is name same) = no_quote (same_head b 34 mid ((text a ++ 34 ∷ []) ++ rest) (e ∙ ap (λ z. z ++ rest) same))
      by (number k is small same) = no_question (same_head b 63 mid (decimal k ++ rest) (e ∙ ap (λ z. z ++ rest) same))
