-- What stands at the front of a text: words, numbers, and lines with their ends.
use Rattle.std.proofs.lemmas.List.{append_cancel_left}
use Rattle.std.specs.Prelude.{◌≡◌, ℕ, suc, ◌<◌, ◌≤◌, ◌^◌, ◌↔◌, Bool, true, ◌&&◌, ◌||◌, ◌==◌, nat_le, List, [], ◌∷◌, ◌++◌, length, codes, ◌⊎◌, Option, Some, None, MatchOption, SomeIff, IsTrue, get_or, refl}
use Rattle.std.specs.Fmt.{decimal}
use Rattle.std.specs.Str.{IsUtf8}
use Rattle.std.specs.Str.Parse.{digits_value}
use Rattle.std.proofs.Common.{inl, inr, ap, sym, ◌∙◌, subst, arith, append_assoc, Bor}
use Rattle.std.proofs.lemmas.Bool.{eqb-true, leb-true, and_parts, or_cases}
use Rattle.gr_base.specs.Lists.{Each}
use Rattle.gr_base.proofs.ListLemmas.{same_head, same_tail}
use Rattle.gr_text.specs.Decimals.{IsDecimal}
use Rattle.gr_text.specs.Words.{IsBareWord, IsStringByte, begins_with_word_byte, is_word, is_word_byte, is_word_rest}
use Rattle.gr_text.proofs.DecimalLemmas.{IsDecimal-decimal, IsDecimal-small, IsDecimal-written, decimal-value}
use Rattle.gr_text.proofs.WordLemmas.{IsBareWord-test}
use Rattle.td_canon.specs.Spelling.{Lacks}
use Rattle.tg_reader.specs.Writable.{IsWord}
use Rattle.tg_text.specs.Answers.{SaysVersion}
use Rattle.tg_text.specs.GrammarText.{ended, tree_line}
use Rattle.tg_text.proofs.TreeBytes.{fine_decimal, fine_lacks, fine_name}

-- ---- lines

-- a text without a byte, told by its places
pub lacks_by_place : (c : ℕ) (bs : List ℕ) → ((i : ℕ) → i < length bs → get_or bs i 0 ≡ c → ⊥) → Lacks c bs
lacks_by_place c [] h = tt
lacks_by_place c (b ∷ bs) h = (h 0 (omega arith), lacks_by_place c bs (λ i l. h (suc i) (omega arith)))

-- what stands before the first end of a line
pub lines_apart : (a b r s : List ℕ) → Lacks 10 a → Lacks 10 b → ended a ++ r ≡ ended b ++ s → (a ≡ b) × (r ≡ s)
lines_apart [] [] r s h k e = (refl, same_tail 10 10 r s e)
lines_apart [] (y ∷ b) r s h k e = absurd (k.0 (sym (same_head 10 y r (ended b ++ s) e)))
lines_apart (x ∷ a) [] r s h k e = absurd (h.0 (same_head x 10 (ended a ++ r) s e))
lines_apart (x ∷ a) (y ∷ b) r s h k e =
    let first : x ≡ y = same_head x y (ended a ++ r) (ended b ++ s) e in
    let rest = lines_apart a b r s h.1 k.1 (same_tail x y (ended a ++ r) (ended b ++ s) e) in
    (λ i. first i ∷ rest.0 i, rest.1)

-- a text without the end of a line begins with no line
pub no_line_in : (a r : List ℕ) → Lacks 10 (ended a ++ r) → ⊥
no_line_in [] r h = h.0 refl
no_line_in (x ∷ a) r h = no_line_in a r h.1

-- a line behind a front
pub line_behind : (front a r : List ℕ) → ended (front ++ a) ++ r ≡ front ++ (ended a ++ r)
line_behind front a r = ap (λ z. z ++ r) (append_assoc front a (10 ∷ [])) ∙ append_assoc front (ended a) r

-- ---- the line of a tree

pub tree_parts : (n : ℕ) (t more : List ℕ) → tree_line n t ++ more ≡ codes "tree " ++ (decimal n ++ (codes " " ++ (ended t ++ more)))
tree_parts n t more =
    line_behind ((codes "tree " ++ decimal n) ++ codes " ") t more
    ∙ append_assoc (codes "tree " ++ decimal n) (codes " ") (ended t ++ more)
    ∙ append_assoc (codes "tree ") (decimal n) (codes " " ++ (ended t ++ more))

-- what stands between the parts of the line of a tree
abbrev pub TreeFront : ℕ → List ℕ → List ℕ → List ℕ → List ℕ → Type 0
TreeFront n text tree space rest = (text ≡ codes "tree " ++ tree) × (tree ≡ decimal n ++ space) × (space ≡ codes " " ++ rest)

tree_front : (n : ℕ) (text tree space rest : List ℕ) → TreeFront n text tree space rest → text ≡ codes "tree " ++ (decimal n ++ (codes " " ++ rest))
tree_front n text tree space rest h = h.0 ∙ ap (λ z. codes "tree " ++ z) (h.1 ∙ ap (λ z. decimal n ++ z) h.2)

-- the same front, so the same behind it
behind_tree : (n : ℕ) (text rest t more : List ℕ) → text ≡ codes "tree " ++ (decimal n ++ (codes " " ++ rest)) → text ≡ tree_line n t ++ more → rest ≡ ended t ++ more
behind_tree n text rest t more e f =
    append_cancel_left (codes " ") _ _ (append_cancel_left (decimal n) _ _ (append_cancel_left (codes "tree ") _ _ (sym e ∙ f ∙ tree_parts n t more)))

abbrev pub IsFirstLine : List ℕ → Option (Bor (List ℕ) × Bor (List ℕ)) → Type 0
IsFirstLine text r = MatchOption r (Lacks 10 text) (λ p. Lacks 10 p.0.now × (text ≡ ended p.0.now ++ p.1.now))

abbrev pub IsTreeIn : ℕ → List ℕ → Option (Bor (List ℕ) × Bor (List ℕ)) → Type 0
IsTreeIn n text r = MatchOption r ((t more : List ℕ) → Lacks 10 t → text ≡ tree_line n t ++ more → ⊥) (λ p. Lacks 10 p.0.now × (text ≡ tree_line n p.0.now ++ p.1.now))

pub tree_found : (n : ℕ) (text tree space rest : List ℕ) (r : Option (Bor (List ℕ) × Bor (List ℕ))) → TreeFront n text tree space rest → IsFirstLine rest r → IsTreeIn n text r
tree_found n text tree space rest None h k = λ t more lacks e. no_line_in t more (subst (λ z. Lacks 10 z) (behind_tree n text rest t more (tree_front n text tree space rest h) e) k)
tree_found n text tree space rest (Some p) h k =
    (k.0, tree_front n text tree space rest h ∙ ap (λ z. codes "tree " ++ (decimal n ++ (codes " " ++ z))) k.1 ∙ sym (tree_parts n p.0.now p.1.now))

-- no space stands behind the number
pub no_space : (n : ℕ) (text tree space : List ℕ) → text ≡ codes "tree " ++ tree → tree ≡ decimal n ++ space → ((rest : List ℕ) → space ≡ codes " " ++ rest → ⊥) → (t more : List ℕ) → text ≡ tree_line n t ++ more → ⊥
no_space n text tree space e f none t more g =
    none (ended t ++ more) (append_cancel_left (decimal n) _ _ (sym f ∙ append_cancel_left (codes "tree ") _ _ (sym e ∙ g ∙ tree_parts n t more)))

-- ---- the line that closes a class

pub count_parts : (word : List ℕ) (n : ℕ) (more : List ℕ) → ended (word ++ decimal n) ++ more ≡ word ++ (decimal n ++ 10 ∷ more)
count_parts word n more = line_behind word (decimal n) more ∙ ap (λ z. word ++ z) (append_assoc (decimal n) (10 ∷ []) more)

abbrev pub IsPast : List ℕ → List ℕ → Option (Bor (List ℕ)) → Type 0
IsPast line text r = MatchOption r ((more : List ℕ) → text ≡ line ++ more → ⊥) (λ rest. text ≡ line ++ rest.now)

pub count_found : (word : List ℕ) (n : ℕ) (text number end : List ℕ) (r : Option (Bor (List ℕ))) → text ≡ word ++ number → number ≡ decimal n ++ end → IsPast (codes "\n") end r → IsPast (ended (word ++ decimal n)) text r
count_found word n text number end None e f k = λ more g.
    k more (append_cancel_left (decimal n) _ _ (sym f ∙ append_cancel_left word _ _ (sym e ∙ g ∙ count_parts word n more)))
count_found word n text number end (Some rest) e f k = e ∙ ap (λ z. word ++ z) (f ∙ ap (λ z. decimal n ++ z) k) ∙ sym (count_parts word n rest.now)

pub no_word : (word : List ℕ) (n : ℕ) (text : List ℕ) → ((rest : List ℕ) → text ≡ word ++ rest → ⊥) → (more : List ℕ) → text ≡ ended (word ++ decimal n) ++ more → ⊥
no_word word n text none more e = none (decimal n ++ 10 ∷ more) (e ∙ count_parts word n more)

pub no_number : (word : List ℕ) (n : ℕ) (text number : List ℕ) → text ≡ word ++ number → ((rest : List ℕ) → number ≡ decimal n ++ rest → ⊥) → (more : List ℕ) → text ≡ ended (word ++ decimal n) ++ more → ⊥
no_number word n text number e none more f = none (10 ∷ more) (append_cancel_left word _ _ (sym e ∙ f ∙ count_parts word n more))

-- ---- the first line

pub first_split : (text : List ℕ) (r : Option (Bor (List ℕ) × Bor (List ℕ)))
    → MatchOption r ((i : ℕ) → i < length text → get_or text i 0 ≡ 10 → ⊥) (λ x. (text ≡ x.0.now ++ (10 ∷ x.1.now)) × ((i : ℕ) → i < length x.0.now → get_or x.0.now i 0 ≡ 10 → ⊥)) → IsFirstLine text r
first_split text None h = lacks_by_place 10 text h
first_split text (Some x) h = (lacks_by_place 10 x.0.now h.1, h.0 ∙ sym (append_assoc x.0.now (10 ∷ []) x.1.now))

-- ---- words

-- a number in a range, by the tests
in_range : (low high b : ℕ) → (nat_le low b && nat_le b high) ≡ true → (low ≤ b) × (b ≤ high)
in_range low high b h = let two = and_parts (nat_le low b) (nat_le b high) h in (leb-true low b two.0, leb-true b high two.1)

string_word_byte : (b : ℕ) → is_word_byte b ≡ true → IsStringByte b
string_word_byte b h = by (or_cases ((((nat_le 48 b && nat_le b 57) || (nat_le 65 b && nat_le b 90)) || (nat_le 97 b && nat_le b 122)) || (b == 95)) (nat_le 128 b) h)
  where
    within : (low high : ℕ) → (low ≤ b) × (b ≤ high) → (35 ≤ low) → ((high ≤ 91) ⊎ ((93 ≤ low) × (high ≤ 126))) → IsStringByte b
    within low high r above (inl under) = (omega arith, λ e. absurd (omega (arith, e)), λ e. absurd (omega (arith, e)), λ e. absurd (omega (arith, e)))
    within low high r above (inr over) = (omega arith, λ e. absurd (omega (arith, e)), λ e. absurd (omega (arith, e)), λ e. absurd (omega (arith, e)))

    third : ((nat_le 48 b && nat_le b 57) || (nat_le 65 b && nat_le b 90)) ≡ true → IsStringByte b
    third k = elim (or_cases (nat_le 48 b && nat_le b 57) (nat_le 65 b && nat_le b 90) k) [
      | inl m ↦ within 48 57 (in_range 48 57 b m) (omega arith) (inl (omega arith))
      | inr m ↦ within 65 90 (in_range 65 90 b m) (omega arith) (inl (omega arith))
    ]

    second : (((nat_le 48 b && nat_le b 57) || (nat_le 65 b && nat_le b 90)) || (nat_le 97 b && nat_le b 122)) ≡ true → IsStringByte b
    second k = elim (or_cases ((nat_le 48 b && nat_le b 57) || (nat_le 65 b && nat_le b 90)) (nat_le 97 b && nat_le b 122) k) [
      | inl m ↦ third m
      | inr m ↦ within 97 122 (in_range 97 122 b m) (omega arith) (inr (omega arith, omega arith))
    ]

    first : ((((nat_le 48 b && nat_le b 57) || (nat_le 65 b && nat_le b 90)) || (nat_le 97 b && nat_le b 122)) || (b == 95)) ≡ true → IsStringByte b
    first k = elim (or_cases (((nat_le 48 b && nat_le b 57) || (nat_le 65 b && nat_le b 90)) || (nat_le 97 b && nat_le b 122)) (b == 95) k) [
      | inl m ↦ second m
      | inr m ↦ let is : b ≡ 95 = eqb-true b 95 m in within 95 95 (omega arith, omega arith) (omega arith) (inr (omega arith, omega arith))
    ]

    by : (((((nat_le 48 b && nat_le b 57) || (nat_le 65 b && nat_le b 90)) || (nat_le 97 b && nat_le b 122)) || (b == 95)) ≡ true) ⊎ (nat_le 128 b ≡ true) → IsStringByte b
    by (inl k) = first k
    by (inr k) = let far : 128 ≤ b = leb-true 128 b k in (omega arith, λ e. absurd (omega (arith, e)), λ e. absurd (omega (arith, e)), λ e. absurd (omega (arith, e)))

string_rest : (bs : List ℕ) → is_word_rest bs ≡ true → Each IsStringByte bs
string_rest [] h = tt
string_rest (b ∷ bs) h = by (and_parts (is_word_byte b || ((b == 45) && begins_with_word_byte bs)) (is_word_rest bs) h) (string_rest bs)
  where
    here : (is_word_byte b ≡ true) ⊎ (((b == 45) && begins_with_word_byte bs) ≡ true) → IsStringByte b
    here (inl k) = string_word_byte b k
    here (inr k) =
        let is : b ≡ 45 = eqb-true b 45 (and_parts (b == 45) (begins_with_word_byte bs) k).0 in
        (omega arith, λ e. absurd (omega (arith, e)), λ e. absurd (omega (arith, e)), λ e. absurd (omega (arith, e)))

    by : ((is_word_byte b || ((b == 45) && begins_with_word_byte bs)) ≡ true) × (is_word_rest bs ≡ true) → (is_word_rest bs ≡ true → Each IsStringByte bs) → Each IsStringByte (b ∷ bs)
    by two later = (here (or_cases (is_word_byte b) ((b == 45) && begins_with_word_byte bs) two.0), later two.1)

-- a text of at most 255 bytes is a name that is a word exactly where it is a word
pub word_is : (b : Bool) (t : List ℕ) → length t ≤ 255 → IsUtf8 t → (IsTrue b ↔ IsBareWord t) → IsTrue b ↔ IsWord t
word_is b t few utf8 bare = (
  λ h.
      let word : is_word t ≡ true = (IsBareWord-test t).1 (bare.0 h) in
      record { name = record { bytes = string_rest t (and_parts (begins_with_word_byte t) (is_word_rest t) word).1; few = few; utf8 = utf8 }; word = word },
  λ w. bare.1 ((IsBareWord-test t).0 w.word),
)

pub word_too_long : (t : List ℕ) → 255 < length t → IsWord t → ⊥
word_too_long t long w = let few : length t ≤ 255 = w.name.few in omega arith

-- ---- the first line of a class

pub class_line_of : (text rest : List ℕ) → text ≡ codes "class " ++ rest → (name more : List ℕ) → text ≡ ended (codes "class " ++ name) ++ more → rest ≡ ended name ++ more
class_line_of text rest e name more f = append_cancel_left (codes "class ") _ _ (sym e ∙ f ∙ line_behind (codes "class ") name more)

pub word_line : (name : List ℕ) → IsWord name → Lacks 10 name
word_line name w = fine_lacks name (fine_name name w.name)

-- no line comes, so no class
pub no_class_line : (text rest : List ℕ) → text ≡ codes "class " ++ rest → Lacks 10 rest → (name more : List ℕ) → text ≡ ended (codes "class " ++ name) ++ more → ⊥
no_class_line text rest e lacks name more f = no_line_in name more (subst (λ z. Lacks 10 z) (class_line_of text rest e name more f) lacks)

-- what stands in the line is no word
pub no_class_word : (text rest found behind : List ℕ) → text ≡ codes "class " ++ rest → Lacks 10 found → rest ≡ ended found ++ behind → (IsWord found → ⊥)
    → (name more : List ℕ) → IsWord name → text ≡ ended (codes "class " ++ name) ++ more → ⊥
no_class_word text rest found behind e lacks f none name more word g =
    none (subst (λ z. IsWord z) (lines_apart name found more behind (word_line name word) lacks (sym (class_line_of text rest e name more g) ∙ f)).0 word)

-- ---- the version

pub version_line : (text rest : List ℕ) → text ≡ codes "grammar " ++ rest → (n : ℕ) → SaysVersion text n → (more : List ℕ) × (rest ≡ ended (decimal n) ++ more)
version_line text rest e n says =
    (says.1.0, append_cancel_left (codes "grammar ") _ _ (sym e ∙ says.1.1 ∙ append_assoc (codes "grammar ") (decimal n) (10 ∷ says.1.0)) ∙ sym (append_assoc (decimal n) (10 ∷ []) says.1.0))

pub no_version_line : (text rest : List ℕ) → text ≡ codes "grammar " ++ rest → Lacks 10 rest → (n : ℕ) → SaysVersion text n → ⊥
no_version_line text rest e lacks n says = let v = version_line text rest e n says in no_line_in (decimal n) v.0 (subst (λ z. Lacks 10 z) v.1 lacks)

-- the number that is said stands in the first line
pub version_there : (text rest number behind : List ℕ) → text ≡ codes "grammar " ++ rest → Lacks 10 number → rest ≡ ended number ++ behind → (n : ℕ) → SaysVersion text n → decimal n ≡ number
version_there text rest number behind e lacks f n says =
    let v = version_line text rest e n says in
    (lines_apart (decimal n) number v.0 behind (fine_lacks (decimal n) (fine_decimal n)) lacks (sym v.1 ∙ f)).0

abbrev pub IsVersionOf : List ℕ → Option ℕ → Type 0
IsVersionOf text r = MatchOption r ((n : ℕ) → SaysVersion text n → ⊥) (λ version. SaysVersion text version × ((n : ℕ) → SaysVersion text n → n ≡ version))

pub version_found : (text rest number behind : List ℕ) (r : Option ℕ) → text ≡ codes "grammar " ++ rest → Lacks 10 number → rest ≡ ended number ++ behind → SomeIff r (IsDecimal number) (digits_value 10 number) → IsVersionOf text r
version_found text rest number behind None e lacks f h = λ n says.
    h (subst (λ z. IsDecimal z) (version_there text rest number behind e lacks f n says) (IsDecimal-decimal n says.0))
version_found text rest number behind (Some v) e lacks f h =
    let written : decimal v ≡ number = ap decimal h.1 ∙ IsDecimal-written number h.0 in (
      (
        let small : digits_value 10 number < 10 ^ 9 = IsDecimal-small number h.0 in let same : v ≡ digits_value 10 number = h.1 in subst (λ k. k < 10 ^ 9) (sym same) small,
        (behind, e ∙ ap (λ z. codes "grammar " ++ z) (f ∙ ap (λ z. ended z ++ behind) (sym written) ∙ append_assoc (decimal v) (10 ∷ []) behind) ∙ sym (append_assoc (codes "grammar ") (decimal v) (10 ∷ behind))),
      ),
      λ n says. sym (decimal-value n says.0) ∙ ap (digits_value 10) (version_there text rest number behind e lacks f n says) ∙ sym h.1,
    )
