-- Literals written: arguments between parentheses, and one literal after another.
use Rattle.std.specs.Prelude.{◌≡◌, ℕ, ◌+◌, ◌<◌, ◌≤◌, List, [], ◌∷◌, ◌++◌, map, take, length, codes, refl}
use Rattle.std.specs.List.{join_with_byte}
use Rattle.std.proofs.Common.{ap, sym, ◌∙◌, subst, append_assoc, append-nil, get_or, take_all}
use Rattle.std.proofs.lemmas.List.{map-append}
use Rattle.gr_base.specs.Lists.{gathered}
use Rattle.gr_terms.specs.Canonical.{Label, literal_terms, map_literal}
use Rattle.gr_terms.specs.LiteralViews.{literal_of, literals_of}
use Rattle.gr_terms.specs.Networks.{Term}
use Rattle.gr_terms.specs.Views.{term_of}
use Rattle.gr_terms.specs.declared.Literal.{Literal}
use Rattle.gr_terms.specs.declared.Term.{Term as Value}
use Rattle.td_canon.specs.TreeText.{label_text, literal_text}
use Rattle.td_canon.specs.Writing.{Writes, Written}
use Rattle.td_canon.proofs.RowLemmas.{opened, separator_behind, separator_behind-next, take-next, writes_next}
use Rattle.td_canon.proofs.WritesLemmas.{Writes-as, Writes-none, Writes-then}

module _ (text : ℕ → List ℕ) where
  -- the texts of arguments
  abbrev pub argument_text : (Term ℕ → Label) → Value → List ℕ
  argument_text label v = label_text text (label (term_of v))

  argument_texts : (label : Term ℕ → Label) (vs : List Value) → map (argument_text label) vs ≡ map (label_text text) (map label (map term_of vs))
  argument_texts label [] = refl
  argument_texts label (v ∷ vs) = ap (λ ts. argument_text label v ∷ ts) (argument_texts label vs)

  -- the arguments before a place were written
  pub record WrittenArguments (arguments : List Value) (place : ℕ) (old new : Written) (separator : List ℕ) : Type 0 where
    pub written : Writes old new (map term_of (take place arguments)) (λ label. opened [] 32 (map (argument_text label) (take place arguments)))
    pub separator_is : separator ≡ separator_behind [] 32 (take place arguments)

  pub WrittenArguments-none : (arguments : List Value) (old : Written) → WrittenArguments arguments 0 old old []
  WrittenArguments-none arguments old = record { written = Writes-none old; separator_is = refl }

  pub WrittenArguments-next : (arguments : List Value) (i : ℕ) (d : Value) (old mid one new : Written) (separator : List ℕ) → i < length arguments → Writes mid one [] (λ label. separator) →
      Writes one new (term_of (get_or arguments i d) ∷ []) (λ label. label_text text (label (term_of (get_or arguments i d)))) →
      WrittenArguments arguments i old mid separator → WrittenArguments arguments (i + 1) old new (codes " ")
  WrittenArguments-next arguments i d old mid one new separator within a b w = record {
    written = Writes-as old new (map term_of (take i arguments) ++ term_of (get_or arguments i d) ∷ []) (map term_of (take (i + 1) arguments))
        (λ label. opened [] 32 (map (argument_text label) (take i arguments ++ get_or arguments i d ∷ [])))
        (λ label. opened [] 32 (map (argument_text label) (take (i + 1) arguments)))
        (sym (ap (map term_of) behind ∙ map-append term_of (take i arguments) (get_or arguments i d ∷ [])))
        (λ label. ap (λ vs. opened [] 32 (map (argument_text label) vs)) (sym behind))
        (writes_next [] 32 argument_text (take i arguments) (get_or arguments i d) old mid new (map term_of (take i arguments)) (term_of (get_or arguments i d) ∷ []) separator w.separator_is w.written
        (Writes-then mid one new [] (term_of (get_or arguments i d) ∷ []) (λ label. separator) (λ label. argument_text label (get_or arguments i d)) a b));
    separator_is = sym (separator_behind-next [] 32 arguments i d within);
  }
    where
      behind : take (i + 1) arguments ≡ take i arguments ++ get_or arguments i d ∷ []
      behind = take-next arguments i d within

  opened-join : (xs : List (List ℕ)) → opened [] 32 xs ≡ join_with_byte 32 xs
  opened-join [] = refl
  opened-join (x ∷ xs) = refl

  pub WrittenArguments-end : (arguments : List Value) (place : ℕ) (old begun mid new : Written) (separator : List ℕ) → length arguments ≤ place → Writes old begun [] (λ label. codes "(") →
      WrittenArguments arguments place begun mid separator → Writes mid new [] (λ label. codes ")") →
      Writes old new (map term_of arguments) (λ label. codes "(" ++ join_with_byte 32 (map (label_text text) (map label (map term_of arguments))) ++ codes ")")
  WrittenArguments-end arguments place old begun mid new separator past open_is w closed =
      Writes-as old new ((map term_of (take place arguments)) ++ []) (map term_of arguments)
      (λ label. (codes "(" ++ opened [] 32 (map (argument_text label) (take place arguments))) ++ codes ")")
      (λ label. codes "(" ++ join_with_byte 32 (map (label_text text) (map label (map term_of arguments))) ++ codes ")")
      (append-nil (map term_of (take place arguments)) ∙ ap (map term_of) (take_all place arguments past))
      (λ label. ap (λ t. (codes "(" ++ t) ++ codes ")")
      (opened-join (map (argument_text label) (take place arguments))
      ∙ ap (λ vs. join_with_byte 32 (map (argument_text label) vs)) (take_all place arguments past)
      ∙ ap (join_with_byte 32) (argument_texts label arguments)))
      (Writes-then old mid new (map term_of (take place arguments)) [] (λ label. codes "(" ++ opened [] 32 (map (argument_text label) (take place arguments))) (λ label. codes ")")
      (Writes-then old begun mid [] (map term_of (take place arguments)) (λ label. codes "(") (λ label. opened [] 32 (map (argument_text label) (take place arguments))) open_is w.written) closed)

  -- a literal from its parts
  pub writes_literal : (l : Literal) (old one two three four new : Written) → Writes old one [] (λ label. codes " ") →
      Writes one two (term_of l.handle ∷ []) (λ label. label_text text (label (term_of l.handle))) → Writes two three [] (λ label. codes ":") →
      Writes three four (term_of l.pred ∷ []) (λ label. label_text text (label (term_of l.pred))) →
      Writes four new (map term_of l.args) (λ label. codes "(" ++ join_with_byte 32 (map (label_text text) (map label (map term_of l.args))) ++ codes ")") →
      Writes old new (literal_terms (literal_of l)) (λ label. codes " " ++ literal_text text (map_literal label (literal_of l)))
  writes_literal l old one two three four new a b c d e =
      Writes-as old new (literal_terms (literal_of l)) (literal_terms (literal_of l))
      (λ label. codes " " ++ (((handle label ++ codes ":") ++ pred label) ++ ((codes "(" ++ args label) ++ codes ")")))
      (λ label. codes " " ++ literal_text text (map_literal label (literal_of l)))
      refl
      (λ label. ap (λ t. codes " " ++ t)
      (sym (append_assoc ((handle label ++ codes ":") ++ pred label) (codes "(" ++ args label) (codes ")"))
      ∙ ap (λ t. t ++ codes ")") (sym (append_assoc ((handle label ++ codes ":") ++ pred label) (codes "(") (args label)))))
      (Writes-then old one new [] (literal_terms (literal_of l)) (λ label. codes " ") (λ label. ((handle label ++ codes ":") ++ pred label) ++ ((codes "(" ++ args label) ++ codes ")")) a
      (Writes-then one four new (term_of l.handle ∷ term_of l.pred ∷ []) (map term_of l.args) (λ label. (handle label ++ codes ":") ++ pred label) (λ label. (codes "(" ++ args label) ++ codes ")")
      (Writes-then one three four (term_of l.handle ∷ []) (term_of l.pred ∷ []) (λ label. handle label ++ codes ":") pred
      (Writes-then one two three (term_of l.handle ∷ []) [] handle (λ label. codes ":") b c) d) e))
    where
      handle : (Term ℕ → Label) → List ℕ
      handle label = label_text text (label (term_of l.handle))

      pred : (Term ℕ → Label) → List ℕ
      pred label = label_text text (label (term_of l.pred))

      args : (Term ℕ → Label) → List ℕ
      args label = join_with_byte 32 (map (label_text text) (map label (map term_of l.args)))

  -- ---- one literal after another

  abbrev pub literal_texts : (Term ℕ → Label) → List Literal → List ℕ
  literal_texts label ls = gathered (λ l. codes " " ++ literal_text text l) (map (map_literal label) (literals_of ls))

  abbrev pub WritesLiterals : List Literal → Written → Written → Type 0
  WritesLiterals ls old new = Writes old new (gathered literal_terms (literals_of ls)) (λ label. literal_texts label ls)

  literal_texts-push : (label : Term ℕ → Label) (ls : List Literal) (l : Literal) → literal_texts label (ls ++ l ∷ []) ≡ literal_texts label ls ++ (codes " " ++ literal_text text (map_literal label (literal_of l)))
  literal_texts-push label [] l = append-nil (codes " " ++ literal_text text (map_literal label (literal_of l)))
  literal_texts-push label (k ∷ ls) l =
      ap (λ t. (codes " " ++ literal_text text (map_literal label (literal_of k))) ++ t) (literal_texts-push label ls l)
      ∙ sym (append_assoc (codes " " ++ literal_text text (map_literal label (literal_of k))) (literal_texts label ls) (codes " " ++ literal_text text (map_literal label (literal_of l))))

  literal_terms-push : (ls : List Literal) (l : Literal) → gathered literal_terms (literals_of (ls ++ l ∷ [])) ≡ gathered literal_terms (literals_of ls) ++ literal_terms (literal_of l)
  literal_terms-push [] l = append-nil (literal_terms (literal_of l))
  literal_terms-push (k ∷ ls) l =
      ap (λ t. literal_terms (literal_of k) ++ t) (literal_terms-push ls l)
      ∙ sym (append_assoc (literal_terms (literal_of k)) (gathered literal_terms (literals_of ls)) (literal_terms (literal_of l)))

  pub WritesLiterals-none : (ls : List Literal) (old : Written) → WritesLiterals (take 0 ls) old old
  WritesLiterals-none ls old = Writes-none old

  pub WritesLiterals-next : (ls : List Literal) (i : ℕ) (d : Literal) (old mid new : Written) → i < length ls →
      Writes mid new (literal_terms (literal_of (get_or ls i d))) (λ label. codes " " ++ literal_text text (map_literal label (literal_of (get_or ls i d)))) →
      WritesLiterals (take i ls) old mid → WritesLiterals (take (i + 1) ls) old new
  WritesLiterals-next ls i d old mid new within one before =
      subst (λ xs. WritesLiterals xs old new) (sym (take-next ls i d within))
      (Writes-as old new (gathered literal_terms (literals_of (take i ls)) ++ literal_terms (literal_of (get_or ls i d))) (gathered literal_terms (literals_of (take i ls ++ get_or ls i d ∷ [])))
      (λ label. literal_texts label (take i ls) ++ (codes " " ++ literal_text text (map_literal label (literal_of (get_or ls i d))))) (λ label. literal_texts label (take i ls ++ get_or ls i d ∷ []))
      (sym (literal_terms-push (take i ls) (get_or ls i d)))
      (λ label. sym (literal_texts-push label (take i ls) (get_or ls i d)))
      (Writes-then old mid new (gathered literal_terms (literals_of (take i ls))) (literal_terms (literal_of (get_or ls i d))) (λ label. literal_texts label (take i ls))
      (λ label. codes " " ++ literal_text text (map_literal label (literal_of (get_or ls i d)))) before one))

  -- the literals may be read from a list that equals them
  pub WritesLiterals-read : (ls read : List Literal) (l : Literal) (i : ℕ) (old mid new : Written) → read ≡ ls → l ≡ get_or read i l → i < length read →
      Writes mid new (literal_terms (literal_of l)) (λ label. codes " " ++ literal_text text (map_literal label (literal_of l))) →
      WritesLiterals (take i ls) old mid → WritesLiterals (take (i + 1) ls) old new
  WritesLiterals-read ls read l i old mid new same is within one before =
      WritesLiterals-next ls i l old mid new (subst (λ xs. i < length xs) same within)
      (subst (λ k. Writes mid new (literal_terms (literal_of k)) (λ label. codes " " ++ literal_text text (map_literal label (literal_of k)))) (is ∙ ap (λ xs. get_or xs i l) same) one)
      before

  pub WritesLiterals-end : (ls : List Literal) (place : ℕ) (old new : Written) → length ls ≤ place → WritesLiterals (take place ls) old new → WritesLiterals ls old new
  WritesLiterals-end ls place old new past w = subst (λ xs. WritesLiterals xs old new) (take_all place ls past) w
