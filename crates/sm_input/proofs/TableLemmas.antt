-- The table of names behind inputs, and that it is one.
use Rattle.std.proofs.Common.{◌≡◌, ℕ, suc, ◌+◌, List, [], ◌∷◌, ◌++◌, length, Option, Some, None, refl, sym, ◌∙◌, ap, subst, arith, append_assoc, append-nil}
use Rattle.std.specs.List.{AllZip}
use Rattle.std.proofs.lemmas.List.{take_all}
use Rattle.gr_base.specs.Lists.{Each, gathered}
use Rattle.gr_terms.specs.declared.Literal.{Literal}
use Rattle.gr_terms.specs.declared.Term.{Term}
use Rattle.gr_symbols.specs.Numbers.{with_texts}
use Rattle.gr_symbols.proofs.NumberLemmas.{with_texts-append}
use Rattle.gr_grammar.specs.Grammars.{Matches, no_more, items}
use Rattle.gr_grammar.proofs.OneTree.{one_tree}
use Rattle.gr_reader.specs.Lexemes.{Lexeme}
use Rattle.gr_reader.specs.Classes.{flat}
use Rattle.gr_reader.proofs.LexemeLemmas.{Lexeme-set}
use Rattle.gr_reader.proofs.Systems.{flat_is_system}
use Rattle.gr_feats.specs.Grammars.{Written, WrittenLiteral}
use Rattle.gr_feats.specs.Tables.{names_in, PutsNames}
use Rattle.gr_feats.proofs.TableLemmas.{one_behind, items_behind}
use Rattle.sm_input.specs.declared.raw.RawLiteral.{RawLiteral}
use Rattle.sm_input.specs.declared.raw.RawInput.{RawInput}
use Rattle.sm_input.specs.Firsts.{firsts}
use Rattle.sm_input.specs.Grammars.{input_text, input_of, inputs_of}
use Rattle.sm_input.specs.Reading.{IsRawHandle, IsRawLiteral, IsRawInput, AreNamed, IsFaultless, raw_own_names, PutsInput, PutsInputs}
use Rattle.sm_input.specs.Tables.{own_if, own_names, input_names, inputs_names}
use Rattle.sm_input.proofs.Naming.{named_length}

-- one literal more
own_more : (number : ℕ) (rs : List RawLiteral) (r : RawLiteral) → raw_own_names number (rs ++ r ∷ []) ≡ raw_own_names number rs ++ own_if (number + length rs) r.handle
own_more number [] r = append-nil (own_if number r.handle) ∙ ap (λ n. own_if n r.handle) (let e : number ≡ number + 0 = omega arith in e)
own_more number (s ∷ rs) r =
    ap (λ z. own_if number s.handle ++ z) (own_more (suc number) rs r ∙ ap (λ n. raw_own_names (suc number) rs ++ own_if n r.handle) (let e : suc number + length rs ≡ number + suc (length rs) = omega arith in e))
    ∙ sym (append_assoc (own_if number s.handle) (raw_own_names (suc number) rs) (own_if (number + length (s ∷ rs)) r.handle))

pub own_step : (old mid new texts : List (List ℕ)) (rs : List RawLiteral) (r : RawLiteral) (xs : List Literal) (number : ℕ)
    → AreNamed texts 1 rs xs → number ≡ length xs + 1 → mid ≡ with_texts old (raw_own_names 1 rs) → new ≡ with_texts mid (own_if number r.handle) → new ≡ with_texts old (raw_own_names 1 (rs ++ r ∷ []))
own_step old mid new texts rs r xs number named is before one =
    let l = named_length texts 1 rs xs named in
    let n : number ≡ 1 + length rs = omega (arith, is, l) in
    one ∙ (λ i. with_texts (before i) (own_if (n i) r.handle))
    ∙ sym (with_texts-append old (raw_own_names 1 rs) (own_if (1 + length rs) r.handle)) ∙ ap (with_texts old) (sym (own_more 1 rs r))

-- the literals that are kept have the names of what is written
own_same : (texts : List (List ℕ)) (number : ℕ) (w : Option Written) (r : Option Term) → IsRawHandle texts w r → own_if number r ≡ own_if number w
own_same texts number None None h = refl
own_same texts number None (Some x) h = absurd h
own_same texts number (Some w) None h = absurd h
own_same texts number (Some w) (Some x) h = refl

owns_same : (texts : List (List ℕ)) (number : ℕ) (ws : List WrittenLiteral) (rs : List RawLiteral) → AllZip (IsRawLiteral texts) ws rs → raw_own_names number rs ≡ own_names number ws
owns_same texts number [] [] z = refl
owns_same texts number [] (r ∷ rs) z = absurd z
owns_same texts number (w ∷ ws) [] z = absurd z
owns_same texts number (w ∷ ws) (r ∷ rs) z =
    let e = own_same texts number w.handle r.handle z.0.handle in
    let f = owns_same texts (suc number) ws rs z.1 in
    λ i. e i ++ f i

-- an input
pub puts_input : (texts old mid new : List (List ℕ)) (ts rest : List Lexeme) (m : Matches flat input_text ts rest) (r : RawInput)
    → IsRawInput texts (input_of m) r → PutsNames input_text old mid ts rest → new ≡ with_texts mid (raw_own_names 1 r.literals.items) → PutsInput old new ts rest
puts_input texts old mid new ts rest m r h puts e = record {
  tree = m;
  table = λ f.
      let F = firsts [] (input_of m).literals in
      let few = f.few in
      let kept : AllZip (IsRawLiteral texts) F r.literals.items = subst (λ u. AllZip (IsRawLiteral texts) u r.literals.items) (take_all 25 F (omega (arith, few))) h.literals in
      let before : mid ≡ with_texts old (names_in m) = puts.table ∙ ap (λ n. with_texts old (names_in n)) (one_tree flat flat_is_system Lexeme-set refl puts.tree m) in
      let own = owns_same texts 1 F r.literals.items kept in
      e ∙ (λ i. with_texts (before i) (own i)) ∙ sym (with_texts-append old (names_in m) (own_names 1 F));
}

-- one input more
gathered_more : (ns : List (List (List ℕ))) (n : List (List ℕ)) → gathered (λ z. z) (ns ++ n ∷ []) ≡ gathered (λ z. z) ns ++ n
gathered_more [] n = append-nil n
gathered_more (k ∷ ns) n = ap (λ z. k ++ z) (gathered_more ns n) ∙ sym (append_assoc k (gathered (λ z. z) ns) n)

each_parts : {A : Type 0} (P : A → Type 0) (xs : List A) (x : A) → Each P (xs ++ x ∷ []) → Each P xs × P x
each_parts P [] x h = (tt, h.0)
each_parts P (y ∷ xs) x h = let r = each_parts P xs x h.1 in ((h.0, r.0), r.1)

pub no_inputs : {a : List (List ℕ)} {ts : List Lexeme} → PutsInputs a a ts ts
no_inputs = record { tree = no_more; table = λ f. refl }

pub inputs_more : {a b c : List (List ℕ)} {ts mid rest : List Lexeme} → PutsInputs a b ts mid → PutsInput b c mid rest → PutsInputs a c ts rest
inputs_more {a = a} x y = record {
  tree = one_behind x.tree y.tree;
  table = λ f.
      let parts = each_parts IsFaultless (inputs_of x.tree) (input_of y.tree) (subst (Each IsFaultless) (items_behind (λ ts rest m. input_of m) x.tree y.tree) f) in
      let names : inputs_names (one_behind x.tree y.tree) ≡ inputs_names x.tree ++ input_names y.tree =
      ap (gathered (λ z. z)) (items_behind (λ ts rest m. input_names m) x.tree y.tree) ∙ gathered_more (items (λ ts rest m. input_names m) x.tree) (input_names y.tree) in
      y.table parts.1 ∙ ap (λ t. with_texts t (input_names y.tree)) (x.table parts.0) ∙ sym (with_texts-append a (inputs_names x.tree) (input_names y.tree)) ∙ ap (with_texts a) (sym names);
}
