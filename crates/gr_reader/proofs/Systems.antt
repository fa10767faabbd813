-- Classes that are called apart share no lexeme, and each class has one.
use Rattle.std.proofs.Common.{◌≡◌, ℕ, ◌<◌, ◌≤◌, List, [], ◌∷◌, ◌++◌, length, true, false, inl, inr, refl, ap, sym, ◌∙◌, subst, arith, length-append}
use Rattle.std.specs.Prelude.{◌||◌, ◌&&◌, not, bytes_eq}
use Rattle.std.proofs.lemmas.Bool.{true≢false, cases_Bool, and_from, or_from}
use Rattle.std.proofs.lemmas.Slice.Eq.{bytes_eq-Decides}
use Rattle.gr_grammar.specs.Grammars.{IsSystem, no_token}
use Rattle.gr_grammar.proofs.Fronts.{and_left, and_right, or_cases, not_true}
use Rattle.gr_tokens.specs.declared.Kind.{Kind}
use Rattle.gr_tokens.specs.declared.Kind.TheVariants.{Word, Str, Var, Punct}
use Rattle.gr_reader.specs.Lexemes.{Lexeme}
use Rattle.gr_reader.specs.Classes.{Class, sign, keyword, any_word, word_but, word_among, any_string, any_name, variable, kind_number, is_one_of, takes_kind, takes_text, test, no_kind, kinds_apart, none_of, all_of, texts_apart, apart, flat}

pub same_bytes : (a b : List ℕ) → bytes_eq a b ≡ true → a ≡ b
same_bytes a b h = (bytes_eq-Decides a b).0 h

pub equal_bytes : (a : List ℕ) → bytes_eq a a ≡ true
equal_bytes a = (bytes_eq-Decides a a).1 refl

-- two texts that equal a third one are equal
both_same : (a b x : List ℕ) → not (bytes_eq a b) ≡ true → bytes_eq a x ≡ true → bytes_eq b x ≡ true → ⊥
both_same a b x n p q = not_true (bytes_eq a b) n ((bytes_eq-Decides a b).1 (same_bytes a x p ∙ sym (same_bytes b x q)))

one_of_same : (ts : List (List ℕ)) (w x : List ℕ) → bytes_eq w x ≡ true → is_one_of ts w ≡ true → is_one_of ts x ≡ true
one_of_same ts w x e h = subst (λ z. is_one_of ts z ≡ true) (same_bytes w x e) h

one_of_all : (ws vs : List (List ℕ)) (x : List ℕ) → all_of ws vs ≡ true → is_one_of ws x ≡ true → is_one_of vs x ≡ true
one_of_all [] vs x a h = absurd (true≢false (sym h))
one_of_all (w ∷ ws) vs x a h = elim (or_cases (bytes_eq w x) (is_one_of ws x) h) [ inl e ↦ one_of_same vs w x e (and_left (is_one_of vs w) _ a) | inr k ↦ one_of_all ws vs x (and_right (is_one_of vs w) _ a) k ]

one_of_none : (ws vs : List (List ℕ)) (x : List ℕ) → none_of ws vs ≡ true → is_one_of ws x ≡ true → is_one_of vs x ≡ true → ⊥
one_of_none [] vs x a h i = true≢false (sym h)
one_of_none (w ∷ ws) vs x a h i = elim (or_cases (bytes_eq w x) (is_one_of ws x) h) [
  | inl e ↦ not_true (is_one_of vs w) (and_left (not (is_one_of vs w)) _ a) (subst (λ z. is_one_of vs z ≡ true) (sym (same_bytes w x e)) i)
  | inr k ↦ one_of_none ws vs x (and_right (not (is_one_of vs w)) _ a) k i
]

no_text : (c d : Class) (x : List ℕ) → texts_apart c d ≡ true → takes_text c x ≡ true → takes_text d x ≡ true → ⊥
no_text (sign s) (sign r) x a p q = both_same s r x a p q
no_text (keyword w) (keyword v) x a p q = both_same w v x a p q
no_text (keyword w) (word_but vs) x a p q = not_true (is_one_of vs x) q (one_of_same vs w x p a)
no_text (keyword w) (word_among v vs) x a p q = not_true (is_one_of (v ∷ vs) w) a (subst (λ z. is_one_of (v ∷ vs) z ≡ true) (sym (same_bytes w x p)) q)
no_text (word_but ws) (keyword v) x a p q = not_true (is_one_of ws x) p (one_of_same ws v x q a)
no_text (word_but ws) (word_among v vs) x a p q = not_true (is_one_of ws x) p (one_of_all (v ∷ vs) ws x a q)
no_text (word_among w ws) (keyword v) x a p q = not_true (is_one_of (w ∷ ws) v) a (subst (λ z. is_one_of (w ∷ ws) z ≡ true) (sym (same_bytes v x q)) p)
no_text (word_among w ws) (word_but vs) x a p q = not_true (is_one_of vs x) q (one_of_all (w ∷ ws) vs x a p)
no_text (word_among w ws) (word_among v vs) x a p q = one_of_none (w ∷ ws) (v ∷ vs) x a p q
no_text _ _ x a p q = true≢false (sym a)

kind_apart : (c d : Class) (k : Kind) → kinds_apart c d ≡ true → no_kind c d (kind_number k) ≡ true
kind_apart c d Word h = and_left (no_kind c d 0) _ h
kind_apart c d Str h = and_left (no_kind c d 1) _ (and_right (no_kind c d 0) _ h)
kind_apart c d Var h = and_left (no_kind c d 2) _ (and_right (no_kind c d 1) _ (and_right (no_kind c d 0) _ h))
kind_apart c d Punct h = and_right (no_kind c d 2) _ (and_right (no_kind c d 1) _ (and_right (no_kind c d 0) _ h))

pub are_apart : (c d : Class) (t : Lexeme) → apart c d ≡ true → test c t ≡ true → test d t ≡ true → ⊥
are_apart c d t a p q =
    let k = kind_number t.kind in
    elim (or_cases (kinds_apart c d) (texts_apart c d) a) [
      | inl e ↦ not_true (takes_kind c k && takes_kind d k) (kind_apart c d t.kind e) (and_from (takes_kind c k) (takes_kind d k) (and_left (takes_kind c k) _ p) (and_left (takes_kind d k) _ q))
      | inr e ↦ no_text c d t.text e (and_right (takes_kind c k) _ p) (and_right (takes_kind d k) _ q)
    ]

-- a text that is longer than each of these
longer : List (List ℕ) → List ℕ
longer [] = []
longer (w ∷ ws) = 0 ∷ w ++ longer ws

differ : (a b : List ℕ) → length a < length b → bytes_eq a b ≡ false
differ a b l = elim (cases_Bool (bytes_eq a b)) [ inl e ↦ absurd (let h = ap length (same_bytes a b e) in omega arith) | inr e ↦ e ]

outside : (ws : List (List ℕ)) (x : List ℕ) → length (longer ws) ≤ length x → is_one_of ws x ≡ false
unfolding longer
outside [] x l = refl
outside (w ∷ ws) x l =
    let e = length-append w (longer ws) in
    or_from (bytes_eq w x) (is_one_of ws x) (differ w x (omega arith)) (outside ws x (omega arith))

pub shown : (c : Class) → (t : Lexeme) × (test c t ≡ true)
shown (sign s) = (record { kind = Punct; text = s }, equal_bytes s)
shown (keyword w) = (record { kind = Word; text = w }, equal_bytes w)
shown any_word = (record { kind = Word; text = [] }, refl)
shown (word_but ws) = (record { kind = Word; text = longer ws }, ap not (outside ws (longer ws) (omega arith)))
shown (word_among w ws) = (record { kind = Word; text = w }, ap (λ b. b || is_one_of ws w) (equal_bytes w))
shown any_string = (record { kind = Str; text = [] }, refl)
shown any_name = (record { kind = Word; text = [] }, refl)
shown variable = (record { kind = Var; text = [] }, refl)

-- the system without numbered parts
pub flat_is_system : IsSystem flat
flat_is_system = record {
  are_apart = are_apart;
  shown = shown;
  clear = λ n. refl;
  null = λ n. refl;
  first = λ n. refl;
  goes = λ n t h. h;
  none = λ n e ts. no_token;
  some = λ n. ([], no_token);
  begun = λ n t h. absurd (true≢false (sym h));
}
