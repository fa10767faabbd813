-- Texts side by side are told apart: of names, numbers and pairs.
use Rattle.std.specs.Prelude.{◌≡◌, ℕ, ◌<◌, ◌^◌, Bool, true, false, not, ◌&&◌, ◌||◌, ◌==◌, List, [], ◌∷◌, ◌++◌, codes, ⊤, if◌then◌else◌, refl}
use Rattle.std.specs.Fmt.{decimal}
use Rattle.std.specs.Int.{IsInRange}
use Rattle.std.specs.List.{join_with_byte}
use Rattle.std.specs.Str.Parse.{AllDigits, digits_value}
use Rattle.std.proofs.Common.{inl, inr, ap, ap₂, sym, ◌∙◌, subst, arith, append_assoc, le-leb}
use Rattle.std.proofs.lemmas.Bool.{false≢true, and_from, or_right, or_left, and_parts, or_cases}
use Rattle.std.proofs.lemmas.Bool.Decides.{Decides-eqb}
use Rattle.std.proofs.lemmas.Fmt.{decimal_is_IsNumeral}
use Rattle.std.proofs.lemmas.Str.Parse.{digit_from_value}
use Rattle.gr_base.specs.Lists.{Each}
use Rattle.gr_base.proofs.ListLemmas.{same_head, same_tail}
use Rattle.gr_text.specs.Words.{begins_with_word_byte, is_word, is_word_byte, is_word_rest, quoted}
use Rattle.gr_terms.specs.Canonical.{Label, Pairs, named, numbered}
use Rattle.td_canon.specs.TreeText.{enclosed, label_text, pair_texts}

-- ---- what passes a test, in front of what does not

AllPass : (ℕ → Bool) → List ℕ → Type 0
AllPass p xs = Each (λ b. p b ≡ true) xs

-- nothing, or first a byte that fails
abbrev pub Stops : (ℕ → Bool) → List ℕ → Type 0
Stops p [] = ⊤
Stops p (b ∷ bs) = p b ≡ false

pub span_apart : (p : ℕ → Bool) (xs ys r s : List ℕ) → Each (λ b. p b ≡ true) xs → Each (λ b. p b ≡ true) ys → Stops p r → Stops p s → xs ++ r ≡ ys ++ s → (xs ≡ ys) × (r ≡ s)
span_apart p [] [] r s a b u v e = (refl, e)
span_apart p [] (y ∷ ys) r s a b u v e = absurd (false≢true (sym (subst (Stops p) e u) ∙ b.0))
span_apart p (x ∷ xs) [] r s a b u v e = absurd (false≢true (sym (subst (Stops p) (sym e) v) ∙ a.0))
span_apart p (x ∷ xs) (y ∷ ys) r s a b u v e =
    let first : x ≡ y = same_head x y (xs ++ r) (ys ++ s) e in
    let rest = span_apart p xs ys r s a.1 b.1 u v (same_tail x y (xs ++ r) (ys ++ s) e) in
    (ap₂ (λ z zs. z ∷ zs) first rest.0, rest.1)

-- the same text in front
pub cancel_front : (zs xs ys : List ℕ) → zs ++ xs ≡ zs ++ ys → xs ≡ ys
cancel_front [] xs ys e = e
cancel_front (z ∷ zs) xs ys e = cancel_front zs xs ys (same_tail z z (zs ++ xs) (zs ++ ys) e)

-- ---- bytes of words

-- a byte that may stand in a word
abbrev pub is_letter : ℕ → Bool
is_letter b = is_word_byte b || (b == 45)

-- a byte that may begin a spelled name or a number
abbrev pub begins_value : ℕ → Bool
begins_value b = is_word_byte b || (b == 34) || (b == 63)

letters : (bs : List ℕ) → is_word_rest bs ≡ true → Each (λ b. is_letter b ≡ true) bs
letters [] h = tt
letters (b ∷ bs) h =
    let both = and_parts (is_word_byte b || ((b == 45) && begins_with_word_byte bs)) (is_word_rest bs) h in (
      elim (or_cases (is_word_byte b) ((b == 45) && begins_with_word_byte bs) both.0) [
        | inl w ↦ or_left (is_word_byte b) (b == 45) w
        | inr d ↦ or_right (is_word_byte b) (b == 45) (and_parts (b == 45) (begins_with_word_byte bs) d).0
      ],
      letters bs both.1,
    )

digit_letters : (ds : List ℕ) → AllDigits 10 ds → Each (λ b. is_letter b ≡ true) ds
digit_letters [] h = tt
digit_letters (c ∷ cs) h =
    let range : IsInRange 48 57 c = digit_from_value c h.0 in (
      or_left (is_word_byte c) (c == 45) (first_or _ _ _ _ _ (and_from _ _ (le-leb 48 c (omega (arith, range))) (le-leb c 57 (omega (arith, range))))),
      digit_letters cs h.1,
    )
  where
    first_or : (a b d e f : Bool) → a ≡ true → (a || b || d || e || f) ≡ true
    first_or true b d e f h = refl
    first_or false b d e f h = absurd (false≢true h)

-- ---- spelled names and numbers

module _ (text : ℕ → List ℕ) (Good : ℕ → Type 0) (apart : (a b : ℕ) → Good a → Good b → text a ≡ text b → a ≡ b) where
  -- the label is of a name that has no `"`, or a number of at most nine digits
  abbrev pub CanSpell : Label → Type 0
  CanSpell (named a) = Good a × Each (λ b. not (b == 34) ≡ true) (text a)
  CanSpell (numbered k) = k < 10 ^ 9

  -- how the text of a label looks
  pub data Looks (l : Label) : Type 0 where
    bare : (a : ℕ) → l ≡ named a → Each (λ b. is_letter b ≡ true) (text a) → is_word (text a) ≡ true → label_text text l ≡ text a → Looks l
    in_quotes : (a : ℕ) → l ≡ named a → Each (λ b. not (b == 34) ≡ true) (text a) → label_text text l ≡ quoted (text a) → Looks l
    number : (k : ℕ) → l ≡ numbered k → k < 10 ^ 9 → label_text text l ≡ 63 ∷ decimal k → Looks l

  pub looks : (l : Label) → CanSpell l → Looks l
  looks (numbered k) h = number k refl h refl
  looks (named a) h = by (is_word (text a)) refl
    where
      by : (b : Bool) → is_word (text a) ≡ b → Looks (named a)
      by true e = bare a refl (letters (text a) (and_parts (begins_with_word_byte (text a)) (is_word_rest (text a)) e).1) e (ap (λ b. if b then text a else quoted (text a)) e)
      by false e = in_quotes a refl h.1 (ap (λ b. if b then text a else quoted (text a)) e)

  -- the first byte of a label
  pub record Begins (l : Label) : Type 0 where
    pub first : ℕ
    pub others : List ℕ
    pub is : label_text text l ≡ first ∷ others
    pub begins : begins_value first ≡ true

  word_first : (t : List ℕ) → is_word t ≡ true → (b : ℕ) × (bs : List ℕ) × (t ≡ b ∷ bs) × (is_word_byte b ≡ true)
  word_first [] h = absurd (false≢true h)
  word_first (b ∷ bs) h = (b, bs, refl, (and_parts (is_word_byte b) (is_word_rest (b ∷ bs)) h).0)

  pub begins : (l : Label) → CanSpell l → Begins l
  begins l h = by (looks l h)
    where
      by : Looks l → Begins l
      by (bare a e all word is) =
          let w = word_first (text a) word in
          record { first = w.0; others = w.1; is = is ∙ w.2; begins = or_left (is_word_byte w.0 || (w.0 == 34)) (w.0 == 63) (or_left (is_word_byte w.0) (w.0 == 34) w.3) }
      by (in_quotes a e none is) = record { first = 34; others = text a ++ 34 ∷ []; is = is; begins = refl }
      by (number k e small is) = record { first = 63; others = decimal k; is = is; begins = refl }

  decimal_apart : (k l : ℕ) → k < 10 ^ 9 → l < 10 ^ 9 → decimal k ≡ decimal l → k ≡ l
  decimal_apart k l small_k small_l e = sym (decimal_is_IsNumeral k (omega arith)).1 ∙ ap (digits_value 10) e ∙ (decimal_is_IsNumeral l (omega arith)).1

  word_not : (t r u : List ℕ) (b : ℕ) → is_word t ≡ true → is_word_byte b ≡ false → t ++ r ≡ b ∷ u → ⊥
  word_not t r u b word other e =
      let w = word_first t word in
      let same : w.0 ≡ b = same_head w.0 b (w.1 ++ r) u (sym (ap (λ z. z ++ r) w.2) ∙ e) in
      false≢true (sym other ∙ ap is_word_byte (sym same) ∙ w.3)

  -- two labels in front of what no word goes on with
  pub label_apart : (l m : Label) (r s : List ℕ) → CanSpell l → CanSpell m → Stops is_letter r → Stops is_letter s → label_text text l ++ r ≡ label_text text m ++ s → (l ≡ m) × (r ≡ s)
  label_apart l m r s h k u v e = by (looks l h) (looks m k)
    where
      by : Looks l → Looks m → (l ≡ m) × (r ≡ s)
      by (bare a la all word is) (bare b mb all' word' is') =
          let apart_texts = span_apart is_letter (text a) (text b) r s all all' u v (sym (ap (λ t. t ++ r) is) ∙ e ∙ ap (λ t. t ++ s) is') in
          (la ∙ ap named (apart a b (subst CanSpell la h).0 (subst CanSpell mb k).0 apart_texts.0) ∙ sym mb, apart_texts.1)
      by (bare a la all word is) (in_quotes b mb none is') =
          absurd (word_not (text a) r ((text b ++ 34 ∷ []) ++ s) 34 word refl (sym (ap (λ t. t ++ r) is) ∙ e ∙ ap (λ t. t ++ s) is'))
      by (bare a la all word is) (number n mb small is') =
          absurd (word_not (text a) r (decimal n ++ s) 63 word refl (sym (ap (λ t. t ++ r) is) ∙ e ∙ ap (λ t. t ++ s) is'))
      by (in_quotes a la none is) (bare b mb all' word' is') =
          absurd (word_not (text b) s ((text a ++ 34 ∷ []) ++ r) 34 word' refl (sym (ap (λ t. t ++ s) is') ∙ sym e ∙ ap (λ t. t ++ r) is))
      by (in_quotes a la none is) (in_quotes b mb none' is') =
          let whole : 34 ∷ ((text a ++ 34 ∷ []) ++ r) ≡ 34 ∷ ((text b ++ 34 ∷ []) ++ s) = sym (ap (λ t. t ++ r) is) ∙ e ∙ ap (λ t. t ++ s) is' in
          let inside : text a ++ 34 ∷ r ≡ text b ++ 34 ∷ s =
          sym (append_assoc (text a) (34 ∷ []) r) ∙ same_tail 34 34 ((text a ++ 34 ∷ []) ++ r) ((text b ++ 34 ∷ []) ++ s) whole ∙ append_assoc (text b) (34 ∷ []) s in
          let apart_texts = span_apart (λ c. not (c == 34)) (text a) (text b) (34 ∷ r) (34 ∷ s) none none' refl refl inside in
          (la ∙ ap named (apart a b (subst CanSpell la h).0 (subst CanSpell mb k).0 apart_texts.0) ∙ sym mb, same_tail 34 34 r s apart_texts.1)
      by (in_quotes a la none is) (number n mb small is') =
          let same : 34 ≡ 63 = same_head 34 63 ((text a ++ 34 ∷ []) ++ r) (decimal n ++ s) (sym (ap (λ t. t ++ r) is) ∙ e ∙ ap (λ t. t ++ s) is') in absurd (omega (arith, same))
      by (number n la small is) (bare b mb all' word' is') =
          absurd (word_not (text b) s (decimal n ++ r) 63 word' refl (sym (ap (λ t. t ++ s) is') ∙ sym e ∙ ap (λ t. t ++ r) is))
      by (number n la small is) (in_quotes b mb none' is') =
          let same : 63 ≡ 34 = same_head 63 34 (decimal n ++ r) ((text b ++ 34 ∷ []) ++ s) (sym (ap (λ t. t ++ r) is) ∙ e ∙ ap (λ t. t ++ s) is') in absurd (omega (arith, same))
      by (number i la small is) (number j mb small' is') =
          let whole : 63 ∷ (decimal i ++ r) ≡ 63 ∷ (decimal j ++ s) = sym (ap (λ t. t ++ r) is) ∙ e ∙ ap (λ t. t ++ s) is' in
          let apart_texts = span_apart is_letter (decimal i) (decimal j) r s (digit_letters (decimal i) (decimal_is_IsNumeral i (omega arith)).0.1) (digit_letters (decimal j) (decimal_is_IsNumeral j (omega arith)).0.1) u v
          (same_tail 63 63 (decimal i ++ r) (decimal j ++ s) whole) in
          (la ∙ ap numbered (decimal_apart i j small small' apart_texts.0) ∙ sym mb, apart_texts.1)

  -- ---- pairs

  abbrev pub CanSpellPair : ℕ × Label → Type 0
  CanSpellPair p = Good p.0 × Each (λ b. not (b == 61) ≡ true) (text p.0) × CanSpell p.1

  abbrev pub pair_text : ℕ × Label → List ℕ
  pair_text p = text p.0 ++ codes "=" ++ label_text text p.1

  pair_apart : (p q : ℕ × Label) (r s : List ℕ) → CanSpellPair p → CanSpellPair q → Stops is_letter r → Stops is_letter s → pair_text p ++ r ≡ pair_text q ++ s → (p ≡ q) × (r ≡ s)
  pair_apart p q r s h k u v e =
      let regroup : (z : ℕ × Label) (t : List ℕ) → pair_text z ++ t ≡ text z.0 ++ 61 ∷ (label_text text z.1 ++ t) =
      λ (z : ℕ × Label) (t : List ℕ). append_assoc (text z.0 ++ codes "=") (label_text text z.1) t ∙ append_assoc (text z.0) (codes "=") (label_text text z.1 ++ t) in
      let attribute = span_apart (λ c. not (c == 61)) (text p.0) (text q.0) (61 ∷ (label_text text p.1 ++ r)) (61 ∷ (label_text text q.1 ++ s)) h.1 k.1 refl refl (sym (regroup p r) ∙ e ∙ regroup q s) in
      let value = label_apart p.1 q.1 r s h.2 k.2 u v (same_tail 61 61 (label_text text p.1 ++ r) (label_text text q.1 ++ s) attribute.1) in
      let same : p.0 ≡ q.0 = apart p.0 q.0 h.0 k.0 attribute.0 in
      (λ i. (same i, value.0 i), value.1)

  -- pairs with commas between them, in front of a byte that is no comma and in no word
  module _ (after : ℕ) (ends : is_letter after ≡ false) (other : after ≡ 44 → ⊥) where
    pub pairs_apart : (p q : ℕ × Label) (ps qs : Pairs) (r s : List ℕ) → Each CanSpellPair (p ∷ ps) → Each CanSpellPair (q ∷ qs) →
        join_with_byte 44 (pair_texts text (p ∷ ps)) ++ after ∷ r ≡ join_with_byte 44 (pair_texts text (q ∷ qs)) ++ after ∷ s → (p ∷ ps ≡ q ∷ qs) × (r ≡ s)
    pairs_apart p q [] [] r s h k e =
        let one = pair_apart p q (after ∷ r) (after ∷ s) h.0 k.0 ends ends e in
        (ap (λ z. z ∷ []) one.0, same_tail after after r s one.1)
    pairs_apart p q [] (v ∷ qs) r s h k e =
        let one = pair_apart p q (after ∷ r) (44 ∷ (join_with_byte 44 (pair_texts text (v ∷ qs)) ++ after ∷ s)) h.0 k.0 ends refl
        (e ∙ append_assoc (pair_text q) (44 ∷ join_with_byte 44 (pair_texts text (v ∷ qs))) (after ∷ s)) in
        absurd (other (same_head after 44 r (join_with_byte 44 (pair_texts text (v ∷ qs)) ++ after ∷ s) one.1))
    pairs_apart p q (u ∷ ps) [] r s h k e =
        let one = pair_apart p q (44 ∷ (join_with_byte 44 (pair_texts text (u ∷ ps)) ++ after ∷ r)) (after ∷ s) h.0 k.0 refl ends
        (sym (append_assoc (pair_text p) (44 ∷ join_with_byte 44 (pair_texts text (u ∷ ps))) (after ∷ r)) ∙ e) in
        absurd (other (sym (same_head 44 after (join_with_byte 44 (pair_texts text (u ∷ ps)) ++ after ∷ r) s one.1)))
    pairs_apart p q (u ∷ ps) (v ∷ qs) r s h k e =
        let left = join_with_byte 44 (pair_texts text (u ∷ ps)) ++ after ∷ r in
        let right = join_with_byte 44 (pair_texts text (v ∷ qs)) ++ after ∷ s in
        let one = pair_apart p q (44 ∷ left) (44 ∷ right) h.0 k.0 refl refl
        (sym (append_assoc (pair_text p) (44 ∷ join_with_byte 44 (pair_texts text (u ∷ ps))) (after ∷ r)) ∙ e ∙ append_assoc (pair_text q) (44 ∷ join_with_byte 44 (pair_texts text (v ∷ qs))) (after ∷ s)) in
        let more = pairs_apart u v ps qs r s h.1 k.1 (same_tail 44 44 left right one.1) in
        (ap₂ (λ z zs. z ∷ zs) one.0 more.0, more.1)

    -- pairs between two texts, where what follows does not begin as the first of them does
    pub enclosed_apart : (b : ℕ) (before : List ℕ) (ps qs : Pairs) (r s : List ℕ) → Each CanSpellPair ps → Each CanSpellPair qs → Stops (λ c. c == b) r → Stops (λ c. c == b) s →
        enclosed (b ∷ before) 44 (after ∷ []) (pair_texts text ps) ++ r ≡ enclosed (b ∷ before) 44 (after ∷ []) (pair_texts text qs) ++ s → (ps ≡ qs) × (r ≡ s)
    enclosed_apart b before [] [] r s h k u v e = (refl, e)
    enclosed_apart b before [] (q ∷ qs) r s h k u v e =
        absurd (false≢true (sym (subst (Stops (λ c. c == b)) e u) ∙ (Decides-eqb b b).1 refl))
    enclosed_apart b before (p ∷ ps) [] r s h k u v e =
        absurd (false≢true (sym (subst (Stops (λ c. c == b)) (sym e) v) ∙ (Decides-eqb b b).1 refl))
    enclosed_apart b before (p ∷ ps) (q ∷ qs) r s h k u v e =
        pairs_apart p q ps qs r s h k
        (cancel_front (b ∷ before) _ _ (sym (regroup (join_with_byte 44 (pair_texts text (p ∷ ps))) r) ∙ e ∙ regroup (join_with_byte 44 (pair_texts text (q ∷ qs))) s))
      where
        regroup : (xs t : List ℕ) → (((b ∷ before) ++ xs) ++ after ∷ []) ++ t ≡ (b ∷ before) ++ (xs ++ after ∷ t)
        regroup xs t = append_assoc ((b ∷ before) ++ xs) (after ∷ []) t ∙ append_assoc (b ∷ before) xs (after ∷ t)
