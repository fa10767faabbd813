-- The names of lexemes that were read: they can be spelled, those of words are words, and keywords have the numbers that are fixed.
use Rattle.std.specs.Prelude.{◌≡◌, ◌≢◌, ℕ, zero, suc, ◌<◌, ◌≤◌, List, [], ◌∷◌, length, codes}
use Rattle.std.specs.Str.{IsAscii}
use Rattle.std.proofs.Common.{refl, ap, sym, ◌∙◌, subst, arith, inl, inr}
use Rattle.std.proofs.lemmas.Str.{IsUtf8-from_ascii}
use Rattle.gr_base.specs.Lists.{IsAmong}
use Rattle.gr_symbols.specs.Numbers.{Names, first_texts}
use Rattle.gr_symbols.proofs.NumberLemmas.{Names-within, Names-grows, one_number}
use Rattle.gr_terms.specs.Constants.{CAT, MARK, ANCHOR, COANCHOR, SUBST, FOOT, LEX, NADJ}
use Rattle.gr_terms.specs.declared.Term.TheVariants.{Const}
use Rattle.gr_text.specs.Words.{is_word}
use Rattle.mg_reader.specs.declared.lexeme.Class.TheVariants as of
use Rattle.mg_reader.specs.declared.lexeme.Kind.{Kind}
use Rattle.mg_reader.specs.declared.lexeme.Kind.TheVariants as kind
use Rattle.mg_reader.specs.declared.lexeme.Lexeme.{Lexeme}
use Rattle.mg_reader.specs.Kinds.{kind_number, word_kind, words}
use Rattle.mg_reader.specs.Spelling.{Is, IsA}
use Rattle.mg_reader.proofs.Real.{IsReal, real_name, real_word}
use Rattle.mg_reader.proofs.KindLists.{in_class, in_range, one_kind, table_back, texts_of}
use Rattle.td_canon.specs.CanonicalTexts.{text_in}
use Rattle.td_canon.proofs.ValueLemmas.{text_in-names}
use Rattle.tg_reader.specs.Writable.{IsMark, IsName, IsTable, IsWord}

cat_low : IsAscii (codes "cat")
cat_low zero = omega arith
cat_low (suc zero) = omega arith
cat_low (suc (suc zero)) = omega arith
cat_low (suc (suc (suc i))) = omega arith

module _ (texts : List (List ℕ)) where
  abbrev text : ℕ → List ℕ
  text = text_in texts

  -- a word is named by a word, and a word or a string by a name that can be spelled
  pub real_is_name : (l : Lexeme) → IsReal texts l → 25 ≤ kind_number l.kind → IsName (text l.name.0)
  real_is_name l r top =
      let n = real_name texts l r top in
      subst IsName (sym (text_in-names texts l.name.0 n.text n.names)) (record { bytes = n.inside; few = n.short; utf8 = n.utf8 })

  pub real_is_word : (l : Lexeme) → IsReal texts l → 26 ≤ kind_number l.kind → IsWord (text l.name.0)
  real_is_word l r top =
      let w = real_word texts l r top in
      record { name = real_is_name l r (omega (arith, top)); word = ap is_word (text_in-names texts l.name.0 w.text w.names) ∙ w.is.word }

  pub real_within : (l : Lexeme) → IsReal texts l → 26 ≤ kind_number l.kind → l.name.0 < length texts
  real_within l r top = let w = real_word texts l r top in Names-within texts l.name.0 w.text w.names

  -- the kind of a word is that of its text
  word_kind_of : (l : Lexeme) → IsReal texts l → 26 ≤ kind_number l.kind → l.kind ≡ word_kind (text l.name.0)
  word_kind_of l r top = let w = real_word texts l r top in w.kind_is ∙ ap word_kind (sym (text_in-names texts l.name.0 w.text w.names))

  pub named_so : (l : Lexeme) → IsReal texts l → 26 ≤ kind_number l.kind → (t : List ℕ) → text l.name.0 ≡ t → l.kind ≡ word_kind t
  named_so l r top t e = word_kind_of l r top ∙ ap word_kind e

  -- a keyword has its text
  pub keyword_text : (k : Kind) (t : List ℕ) → texts_of (kind_number k) words ≡ t ∷ [] → (kind_number k ≡ 52 → ⊥) → 26 ≤ kind_number k → (l : Lexeme) → IsReal texts l → l.kind ≡ k → Names texts l.name.0 t
  keyword_text k t one other top l r is =
      let w = real_word texts l r (subst (λ z. 26 ≤ kind_number z) (sym is) top) in
      let i : IsAmong (t ∷ []) w.text = subst (λ z. IsAmong z w.text) one (table_back words (kind_number k) w.text other (ap kind_number (sym w.kind_is ∙ is))) in
      subst (λ z. Names texts l.name.0 z) (alone t w.text i) w.names
    where
      alone : (a b : List ℕ) → IsAmong (a ∷ []) b → b ≡ a
      alone a b (inl e) = e
      alone a b (inr i) = absurd i

  module _ (table : IsTable texts) where
    -- the first texts have their numbers
    pub first_named : (n : ℕ) (t : List ℕ) → Names first_texts n t → Names texts n t
    first_named n t h = Names-grows first_texts texts n t h table.first

    pub numbered_so : (n k : ℕ) (t : List ℕ) → Names first_texts k t → Names texts n t → n ≡ k
    numbered_so n k t first named = one_number texts n k t table.once named (first_named k t first)

    -- a marker is one of the six
    pub marker_is_mark : (l : Lexeme) → IsReal texts l → Is of.Marker l → IsMark (Const l.name)
    marker_is_mark l r is = by (in_class of.Marker l (omega arith) is)
      where
        by : IsAmong (kind.Anchor ∷ kind.Coanchor ∷ kind.Subst ∷ kind.Foot ∷ kind.Lex ∷ kind.Nadj ∷ []) l.kind → IsMark (Const l.name)
        by (inl e) = inl (numbered_so l.name.0 ANCHOR (codes "anchor") refl (keyword_text kind.Anchor (codes "anchor") refl (λ h. absurd (omega (arith, h))) (omega arith) l r e))
        by (inr (inl e)) = inr (inl (numbered_so l.name.0 COANCHOR (codes "coanchor") refl (keyword_text kind.Coanchor (codes "coanchor") refl (λ h. absurd (omega (arith, h))) (omega arith) l r e)))
        by (inr (inr (inl e))) = inr (inr (inl (numbered_so l.name.0 SUBST (codes "subst") refl (keyword_text kind.Subst (codes "subst") refl (λ h. absurd (omega (arith, h))) (omega arith) l r e))))
        by (inr (inr (inr (inl e)))) = inr (inr (inr (inl (numbered_so l.name.0 FOOT (codes "foot") refl (keyword_text kind.Foot (codes "foot") refl (λ h. absurd (omega (arith, h))) (omega arith) l r e)))))
        by (inr (inr (inr (inr (inl e))))) = inr (inr (inr (inr (inl (numbered_so l.name.0 LEX (codes "lex") refl (keyword_text kind.Lex (codes "lex") refl (λ h. absurd (omega (arith, h))) (omega arith) l r e))))))
        by (inr (inr (inr (inr (inr (inl e)))))) = inr (inr (inr (inr (inr (inl (numbered_so l.name.0 NADJ (codes "nadj") refl (keyword_text kind.Nadj (codes "nadj") refl (λ h. absurd (omega (arith, h))) (omega arith) l r e)))))))
        by (inr (inr (inr (inr (inr (inr i)))))) = absurd i

    -- the category's attribute is a word, which isn't `color`
    pub category_is_word : IsWord (text CAT)
    category_is_word = subst IsWord (sym (text_in-names texts CAT (codes "cat") (first_named CAT (codes "cat") refl)))
        (record { name = record { bytes = ((omega arith, λ e. absurd (omega (arith, e)), λ e. absurd (omega (arith, e)), λ e. absurd (omega (arith, e))), ((omega arith, λ e. absurd (omega (arith, e)), λ e. absurd (omega (arith, e)), λ e. absurd (omega (arith, e))), ((omega arith, λ e. absurd (omega (arith, e)), λ e. absurd (omega (arith, e)), λ e. absurd (omega (arith, e))), tt))); few = omega arith; utf8 = IsUtf8-from_ascii (codes "cat") cat_low }; word = refl })

    pub category_uncoloured : text CAT ≢ codes "color"
    category_uncoloured e = let h : codes "cat" ≡ codes "color" = sym (text_in-names texts CAT (codes "cat") (first_named CAT (codes "cat") refl)) ∙ e in absurd (omega (arith, ap length h))

    -- a property's attribute is neither `color` nor the one of marks
    pub property_uncoloured : (l : Lexeme) → IsReal texts l → Is of.Property l → text l.name.0 ≢ codes "color"
    property_uncoloured l r is e =
        let k = in_range of.Property l is in
        absurd (omega (arith, k.0, k.1, ap kind_number (named_so l r (omega (arith, k.0)) (codes "color") e)))

    pub property_no_mark : (l : Lexeme) → IsReal texts l → Is of.Property l → l.name.0 ≡ MARK → ⊥
    property_no_mark l r is e =
        let k = in_range of.Property l is in
        let t : text l.name.0 ≡ codes "mark" = ap text e ∙ text_in-names texts MARK (codes "mark") (first_named MARK (codes "mark") refl) in
        absurd (omega (arith, k.0, k.1, ap kind_number (named_so l r (omega (arith, k.0)) (codes "mark") t)))

    pub mark_uncoloured : (l : Lexeme) → IsReal texts l → IsA kind.Mark l → text l.name.0 ≢ codes "color"
    mark_uncoloured l r is e =
        let named = keyword_text kind.Mark (codes "mark") refl (λ h. absurd (omega (arith, h))) (omega arith) l r (one_kind kind.Mark l is) in
        let h : codes "mark" ≡ codes "color" = sym (text_in-names texts l.name.0 (codes "mark") named) ∙ e in absurd (omega (arith, ap length h))
