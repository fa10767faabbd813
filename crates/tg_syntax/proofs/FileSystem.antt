-- The grammar of grammar text is a system in which the next byte decides.
use Rattle.std.proofs.Common.{◌≡◌, ℕ, zero, suc, List, [], ◌∷◌, ◌++◌, Bool, true, false, refl, sym, inl, inr, subst, ap}
use Rattle.std.specs.Prelude.{◌==◌, ◌||◌, ◌&&◌, not, codes}
use Rattle.std.proofs.lemmas.Bool.{true≢false, eqb-true, eq-eqb}
use Rattle.gr_base.proofs.Booleans.{or_false_is}
use Rattle.gr_grammar.specs.Grammars.{Grammar, Info, Matches, a_token, no_token, both, the_left, the_right, by_part, IsSystem, is_clear, nullable, first, goes, is_of}
use Rattle.gr_grammar.proofs.Fronts.{not_true, or_cases, or_left, or_right, and_left, and_right}
use Rattle.tg_syntax.specs.declared.class.Class.{Class}
use Rattle.tg_syntax.specs.declared.class.Class.TheVariants.{Byte, WordByte, WordByteBut, StringByte, Digit, HighDigit}
use Rattle.tg_syntax.specs.Bytes.{test, apart}
use Rattle.tg_syntax.specs.Families.{word_part, string_part, node_part}
use Rattle.tg_syntax.specs.Names.{keyword, word_rest, string_rest, word, number, term}
use Rattle.tg_syntax.specs.Trees.{node, label, braces, signed_bag, kids}
use Rattle.tg_syntax.specs.Files.{file, others, parts, info, system, term_ends, word_info, string_info, node_info, other_info}
use Rattle.tg_syntax.proofs.Picks.{pick_word, pick_string, pick_node, pick_each, pick_both}

-- ---- the parts at their numbers

pub parts_word : (n : ℕ) → parts (word_part n) ≡ word_rest n
parts_word n = pick_word word_rest string_rest node others n

pub parts_string : (n : ℕ) → parts (string_part n) ≡ string_rest n
parts_string n = pick_string word_rest string_rest node others n

pub parts_node : (n : ℕ) → parts (node_part n) ≡ node n
parts_node n = pick_node word_rest string_rest node others n

info_word : (n : ℕ) → info (word_part n) ≡ word_info n
info_word n = pick_word word_info string_info node_info other_info n

info_string : (n : ℕ) → info (string_part n) ≡ string_info n
info_string n = pick_string word_info string_info node_info other_info n

info_node : (n : ℕ) → info (node_part n) ≡ node_info n
info_node n = pick_node word_info string_info node_info other_info n

-- ---- the classes

is_byte : (b t : ℕ) → test (Byte b) t ≡ true → t ≡ b
is_byte b t h = eqb-true t b h

-- a class that is apart from a byte doesn't have it
not_it : (d : Class) (a t : ℕ) → not (test d a) ≡ true → t ≡ a → test d t ≡ true → ⊥
not_it d a t n e h = not_true (test d a) n (subst (λ z. test d z ≡ true) e h)

are_apart : (c d : Class) (t : ℕ) → apart c d ≡ true → test c t ≡ true → test d t ≡ true → ⊥
are_apart (Byte a) d t n h k = not_it d a t n (is_byte a t h) k
are_apart WordByte (Byte b) t n h k = not_it WordByte b t n (is_byte b t k) h
are_apart (WordByteBut a) (Byte b) t n h k = not_it (WordByteBut a) b t n (is_byte b t k) h
are_apart StringByte (Byte b) t n h k = not_it StringByte b t n (is_byte b t k) h
are_apart Digit (Byte b) t n h k = not_it Digit b t n (is_byte b t k) h
are_apart HighDigit (Byte b) t n h k = not_it HighDigit b t n (is_byte b t k) h
are_apart WordByte WordByte t n h k = true≢false (sym n)
are_apart WordByte (WordByteBut b) t n h k = true≢false (sym n)
are_apart WordByte StringByte t n h k = true≢false (sym n)
are_apart WordByte Digit t n h k = true≢false (sym n)
are_apart WordByte HighDigit t n h k = true≢false (sym n)
are_apart (WordByteBut a) WordByte t n h k = true≢false (sym n)
are_apart (WordByteBut a) (WordByteBut b) t n h k = true≢false (sym n)
are_apart (WordByteBut a) StringByte t n h k = true≢false (sym n)
are_apart (WordByteBut a) Digit t n h k = true≢false (sym n)
are_apart (WordByteBut a) HighDigit t n h k = true≢false (sym n)
are_apart StringByte WordByte t n h k = true≢false (sym n)
are_apart StringByte (WordByteBut b) t n h k = true≢false (sym n)
are_apart StringByte StringByte t n h k = true≢false (sym n)
are_apart StringByte Digit t n h k = true≢false (sym n)
are_apart StringByte HighDigit t n h k = true≢false (sym n)
are_apart Digit WordByte t n h k = true≢false (sym n)
are_apart Digit (WordByteBut b) t n h k = true≢false (sym n)
are_apart Digit StringByte t n h k = true≢false (sym n)
are_apart Digit Digit t n h k = true≢false (sym n)
are_apart Digit HighDigit t n h k = true≢false (sym n)
are_apart HighDigit WordByte t n h k = true≢false (sym n)
are_apart HighDigit (WordByteBut b) t n h k = true≢false (sym n)
are_apart HighDigit StringByte t n h k = true≢false (sym n)
are_apart HighDigit Digit t n h k = true≢false (sym n)
are_apart HighDigit HighDigit t n h k = true≢false (sym n)

-- a word byte that isn't b
other_byte : (b : ℕ) (v : Bool) → (97 == b) ≡ v → (t : ℕ) × (test (WordByteBut b) t ≡ true)
other_byte b true e = (98, ap (λ z. not (98 == z)) (sym (eqb-true 97 b e)))
other_byte b false e = (97, ap not e)

shown : (c : Class) → (t : ℕ) × (test c t ≡ true)
shown (Byte b) = (b, eq-eqb b b refl)
shown WordByte = (97, refl)
shown (WordByteBut b) = other_byte b (97 == b) refl
shown StringByte = (32, refl)
shown Digit = (48, refl)
shown HighDigit = (49, refl)

-- ---- classes among others

same : Class → Class → Bool
same (Byte a) (Byte b) = a == b
same WordByte WordByte = true
same StringByte StringByte = true
same Digit Digit = true
same _ _ = false

same_test : (c d : Class) (t : ℕ) → same c d ≡ true → test c t ≡ true → test d t ≡ true
unfolding same
same_test (Byte a) (Byte b) t e h = subst (λ z. (t == z) ≡ true) (eqb-true a b e) h
same_test WordByte WordByte t e h = h
same_test StringByte StringByte t e h = h
same_test Digit Digit t e h = h
same_test _ _ t e h = absurd (true≢false (sym e))

among : List Class → Class → Bool
among [] c = false
among (d ∷ ds) c = same c d || among ds c

within : List Class → List Class → Bool
within [] ds = true
within (c ∷ cs) ds = among ds c && within cs ds

has_one : (ds : List Class) (c : Class) (t : ℕ) → among ds c ≡ true → test c t ≡ true → is_of system ds t ≡ true
unfolding among
has_one [] c t a h = absurd (true≢false (sym a))
has_one (d ∷ ds) c t a h = elim (or_cases (same c d) (among ds c) a) [ inl x ↦ or_left (test d t) _ (same_test c d t x h) | inr y ↦ or_right (test d t) _ (has_one ds c t y h) ]

has_all : (cs ds : List Class) → within cs ds ≡ true → (t : ℕ) → is_of system cs t ≡ true → is_of system ds t ≡ true
unfolding within
has_all [] ds w t h = absurd (true≢false (sym h))
has_all (c ∷ cs) ds w t h = elim (or_cases (test c t) (is_of system cs t) h)
    [ inl x ↦ has_one ds c t (and_left (among ds c) (within cs ds) w) x | inr y ↦ has_all cs ds (and_right (among ds c) (within cs ds) w) t y ]

-- ---- what is written down of the parts

clear_word : (n : ℕ) → is_clear system (word_rest n) ≡ true
clear_word zero = refl
clear_word (suc zero) = refl
clear_word (suc (suc n)) = refl

clear_string : (n : ℕ) → is_clear system (string_rest n) ≡ true
clear_string zero = refl
clear_string (suc n) = refl

clear_node : (n : ℕ) → is_clear system (node n) ≡ true
clear_node zero = refl
clear_node (suc n) = simp (ap (λ i. i.null) (info_node n), ap (λ i. i.goes) (info_node n))

clear_other : (n : ℕ) → is_clear system (others n) ≡ true
clear_other zero = refl
clear_other (suc zero) = refl
clear_other (suc (suc n)) = refl

pub file_is_clear : is_clear system file ≡ true
file_is_clear = refl

null_word : (n : ℕ) → nullable system (word_rest n) ≡ (word_info n).null
null_word zero = refl
null_word (suc zero) = refl
null_word (suc (suc n)) = refl

null_string : (n : ℕ) → nullable system (string_rest n) ≡ (string_info n).null
null_string zero = refl
null_string (suc n) = refl

null_node : (n : ℕ) → nullable system (node n) ≡ (node_info n).null
null_node zero = refl
null_node (suc n) = refl

null_other : (n : ℕ) → nullable system (others n) ≡ (other_info n).null
null_other zero = refl
null_other (suc zero) = refl
null_other (suc (suc n)) = refl

first_word : (n : ℕ) → first system (word_rest n) ≡ (word_info n).first
first_word zero = refl
first_word (suc zero) = refl
first_word (suc (suc n)) = refl

first_string : (n : ℕ) → first system (string_rest n) ≡ (string_info n).first
first_string zero = refl
first_string (suc n) = refl

first_node : (n : ℕ) → first system (node n) ≡ (node_info n).first
first_node zero = refl
first_node (suc n) = refl

first_other : (n : ℕ) → first system (others n) ≡ (other_info n).first
first_other zero = refl
first_other (suc zero) = refl
first_other (suc (suc n)) = refl

abbrev Goes : Grammar Class → Info Class → Type 0
Goes g i = (t : ℕ) → is_of system (goes system g) t ≡ true → is_of system i.goes t ≡ true

goes_word : (n : ℕ) → Goes (word_rest n) (word_info n)
unfolding within among same
goes_word zero = λ t h. has_all (goes system (word_rest zero)) (word_info zero).goes refl t h
goes_word (suc zero) = λ t h. has_all (goes system (word_rest (suc zero))) (word_info zero).goes refl t h
goes_word (suc (suc n)) = λ t h. has_all (goes system (word_rest (suc (suc n)))) (word_info zero).goes (simp (ap (λ i. i.null) (info_word (suc n)), ap (λ i. i.goes) (info_word (suc n)), ap (λ i. i.null) (info_word n), ap (λ i. i.goes) (info_word n))) t h

goes_string : (n : ℕ) → Goes (string_rest n) (string_info n)
unfolding within among same
goes_string zero = λ t h. has_all (goes system (string_rest zero)) (string_info zero).goes refl t h
goes_string (suc n) = λ t h. has_all (goes system (string_rest (suc n))) (string_info zero).goes (simp (ap (λ i. i.null) (info_string n), ap (λ i. i.goes) (info_string n))) t h

goes_node : (n : ℕ) → Goes (node n) (node_info n)
unfolding within among same
goes_node zero = λ t h. has_all (goes system (node zero)) (node_info zero).goes refl t h
goes_node (suc n) = λ t h. has_all (goes system (node (suc n))) (node_info zero).goes (simp (ap (λ i. i.null) (info_node n))) t h

goes_other : (n : ℕ) → Goes (others n) (other_info n)
unfolding within among same
goes_other zero = λ t h. has_all (goes system (others zero)) [] refl t h
goes_other (suc zero) = λ t h. has_all (goes system (others (suc zero))) term_ends refl t h
goes_other (suc (suc n)) = λ t h. h

-- ---- texts of the parts

abbrev HasNone : Grammar Class → Info Class → Type 0
HasNone g i = i.null ≡ true → (ts : List ℕ) → Matches system g ts ts

none_word : (n : ℕ) → HasNone (word_rest n) (word_info n)
none_word zero = λ e ts. no_token
none_word (suc zero) = λ e ts. the_right no_token
none_word (suc (suc n)) = λ e ts. the_right (the_right no_token)

none_string : (n : ℕ) → HasNone (string_rest n) (string_info n)
none_string zero = λ e ts. no_token
none_string (suc n) = λ e ts. the_right no_token

none_node : (n : ℕ) → HasNone (node n) (node_info n)
none_node n = λ e ts. absurd (true≢false (sym e))

none_other : (n : ℕ) → HasNone (others n) (other_info n)
none_other zero = λ e ts. absurd (true≢false (sym e))
none_other (suc zero) = λ e ts. absurd (true≢false (sym e))
none_other (suc (suc n)) = λ e ts. no_token

none : (n : ℕ) → HasNone (parts n) (info n)
none n = pick_both HasNone word_rest string_rest node others word_info string_info node_info other_info none_word none_string none_node none_other n

pub keyword_text : (bs rest : List ℕ) → Matches system (keyword bs) (bs ++ rest) rest
keyword_text [] rest = no_token
keyword_text (b ∷ bs) rest = both (a_token (eq-eqb b b refl)) (keyword_text bs rest)

-- the least that may follow, at the end of a text
a_word : (t : ℕ) (rest : List ℕ) → test WordByte t ≡ true → Matches system word (t ∷ rest) rest
a_word t rest h = both (a_token h) (by_part {n = word_part 254} (none (word_part 254) refl rest))

a_term : (t : ℕ) (rest : List ℕ) → test WordByte t ≡ true → Matches system term (t ∷ rest) rest
a_term t rest h = the_left (a_word t rest h)

no_braces : (n : ℕ) (ts : List ℕ) → Matches system (braces n) ts ts
no_braces zero ts = no_token
no_braces (suc n) ts = the_right no_token

no_signed : (sign n : ℕ) (ts : List ℕ) → Matches system (signed_bag sign n) ts ts
no_signed sign zero ts = the_right no_token
no_signed sign (suc n) ts = the_right no_token

no_kids : (n : ℕ) (ts : List ℕ) → Matches system (kids n) ts ts
no_kids zero ts = no_token
no_kids (suc n) ts = the_right no_token

a_node : (n : ℕ) (ts : List ℕ) → Matches system label ts [] → Matches system (node n) ts []
a_node n ts m = both m (both (no_braces n []) (both (no_signed 94 n []) (both (no_signed 47 n []) (no_kids n []))))

a_zero : (rest : List ℕ) → Matches system number (48 ∷ rest) rest
a_zero rest = the_left (a_token refl)

abbrev HasSome : Grammar Class → Type 0
HasSome g = (ts : List ℕ) × Matches system g ts []

some_other : (n : ℕ) → HasSome (others n)
some_other zero = (codes "cut " ++ 48 ∷ 10 ∷ [], the_right (both (keyword_text (codes "cut ") (48 ∷ 10 ∷ [])) (both (a_zero (10 ∷ [])) (a_token refl))))
some_other (suc zero) = (97 ∷ 61 ∷ 97 ∷ [], both (a_word 97 (61 ∷ 97 ∷ []) refl) (both (a_token refl) (a_term 97 [] refl)))
some_other (suc (suc n)) = ([], no_token)

some : (n : ℕ) → HasSome (parts n)
some n = pick_each HasSome word_rest string_rest node others (λ m. ([], none_word m refl [])) (λ m. ([], none_string m refl [])) (λ m. (45 ∷ [], a_node m (45 ∷ []) (the_left (a_token refl)))) some_other n

abbrev IsBegun : Grammar Class → Info Class → Type 0
IsBegun g i = (t : ℕ) → is_of system i.first t ≡ true → (ts : List ℕ) × Matches system g (t ∷ ts) []

begun_word : (n : ℕ) → IsBegun (word_rest n) (word_info n)
begun_word zero = λ t i. absurd (true≢false (sym i))
begun_word (suc zero) = λ t i. ([], the_left (both (a_token (or_false_is _ i)) (by_part {n = word_part 0} no_token)))
begun_word (suc (suc n)) = λ t i. elim (or_cases (test WordByte t) _ i) [
  | inl x ↦ ([], the_left (both (a_token x) (by_part {n = word_part (suc n)} (none (word_part (suc n)) (ap (λ i. i.null) (info_word (suc n))) []))))
  | inr y ↦ (97 ∷ [], the_right (the_left (both (a_token (or_false_is _ y)) (both (a_token refl) (by_part {n = word_part n} (none (word_part n) (ap (λ i. i.null) (info_word n)) []))))))
]

begun_string : (n : ℕ) → IsBegun (string_rest n) (string_info n)
begun_string zero = λ t i. absurd (true≢false (sym i))
begun_string (suc n) = λ t i. ([], the_left (both (a_token (or_false_is _ i)) (by_part {n = string_part n} (none (string_part n) (ap (λ i. i.null) (info_string n)) []))))

begun_node : (n : ℕ) → IsBegun (node n) (node_info n)
begun_node n = λ t i. elim (or_cases (test (Byte 45) t) _ i) [
  | inl x ↦ ([], a_node n (t ∷ []) (the_left (a_token x)))
  | inr y ↦ elim (or_cases (test WordByte t) _ y) [
    | inl x ↦ ([], a_node n (t ∷ []) (the_right (a_term t [] x)))
    | inr z ↦ elim (or_cases (test (Byte 34) t) _ z) [
      | inl x ↦ (34 ∷ [], a_node n (t ∷ 34 ∷ []) (the_right (the_right (the_left (both (a_token x) (both (by_part {n = string_part 255} (none (string_part 255) refl (34 ∷ []))) (a_token refl)))))))
      | inr w ↦ (48 ∷ [], a_node n (t ∷ 48 ∷ []) (the_right (the_right (the_right (both (a_token (or_false_is _ w)) (a_zero []))))))
    ]
  ]
]

begun_other : (n : ℕ) → IsBegun (others n) (other_info n)
begun_other zero = λ t i. elim (or_cases (test (Byte 116) t) _ i) [
  | inl x ↦ (codes "rees 0" ++ 10 ∷ [], the_left (both (both (a_token x) (keyword_text (codes "ree") (codes "s 0" ++ 10 ∷ []))) (the_right (both (keyword_text (codes "s ") (48 ∷ 10 ∷ [])) (both (a_zero (10 ∷ [])) (a_token refl))))))
  | inr y ↦ (codes "ut 0" ++ 10 ∷ [], the_right (both (both (a_token (or_false_is _ y)) (keyword_text (codes "ut ") (48 ∷ 10 ∷ []))) (both (a_zero (10 ∷ [])) (a_token refl))))
]
begun_other (suc zero) = λ t i. (61 ∷ 97 ∷ [], both (a_word t (61 ∷ 97 ∷ []) (or_false_is _ i)) (both (a_token refl) (a_term 97 [] refl)))
begun_other (suc (suc n)) = λ t i. absurd (true≢false (sym i))

pub is_system : IsSystem system
is_system = record {
  are_apart = are_apart;
  shown = shown;
  clear = λ n. pick_each (λ g. is_clear system g ≡ true) word_rest string_rest node others clear_word clear_string clear_node clear_other n;
  null = λ n. pick_both (λ g i. nullable system g ≡ i.null) word_rest string_rest node others word_info string_info node_info other_info null_word null_string null_node null_other n;
  first = λ n. pick_both (λ g i. first system g ≡ i.first) word_rest string_rest node others word_info string_info node_info other_info first_word first_string first_node first_other n;
  goes = λ n. pick_both Goes word_rest string_rest node others word_info string_info node_info other_info goes_word goes_string goes_node goes_other n;
  none = none;
  some = some;
  begun = λ n. pick_both IsBegun word_rest string_rest node others word_info string_info node_info other_info begun_word begun_string begun_node begun_other n;
}
