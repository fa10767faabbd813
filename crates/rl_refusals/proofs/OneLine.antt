-- A refusal has one line.
use Rattle.std.proofs.Common.{◌≡◌, ◌∙◌, refl, sym, ap, subst, ℕ, List, [], ◌∷◌, ◌++◌, inl, inr, Option, Some, None, codes}
use Rattle.std.specs.List.{AllZip}
use Rattle.gr_base.specs.Lists.{gathered}
use Rattle.gr_text.specs.Words.{Spells}
use Rattle.gr_symbols.proofs.NumberLemmas.{one_text}
use Rattle.gr_terms.specs.declared.Sym.{Sym}
use Rattle.rl_refusals.specs.Lines.{Part, number, word, a_name, a_variable, parts_of, IsVariableText, IsPartText, IsRefusalLine}
use Rattle.rl_refusals.specs.declared.refusal.Refusal.{Refusal}

-- a text has one spelling
one_spelling : (t a b : List ℕ) → Spells a t → Spells b t → a ≡ b
one_spelling t a b (inl h) (inl k) = h.1 ∙ sym k.1
one_spelling t a b (inl h) (inr k) = absurd (k.0 h.0)
one_spelling t a b (inr h) (inl k) = absurd (h.0 k.0)
one_spelling t a b (inr h) (inr k) = h.1 ∙ sym k.1

module _ (texts : List (List ℕ)) where
  one_variable : (of : Option Sym) (name : Sym) (a b : List ℕ) → IsVariableText texts (record { of = of; name = name }) a → IsVariableText texts (record { of = of; name = name }) b → a ≡ b
  one_variable None name a b (y, n, e) (z, m, f) = e ∙ ap (λ t. 63 ∷ t) (one_text texts name.0 y z n m) ∙ sym f
  one_variable (Some x) name a b (u, y, n, m, e) (v, z, o, p, f) =
      e ∙ ap (λ t. 63 ∷ t ++ codes ".?" ++ y) (one_text texts x.0 u v n o) ∙ ap (λ t. 63 ∷ v ++ codes ".?" ++ t) (one_text texts name.0 y z m p) ∙ sym f

  one_part : (p : Part) (a b : List ℕ) → IsPartText texts p a → IsPartText texts p b → a ≡ b
  one_part (number n) a b h k = h ∙ sym k
  one_part (word w) a b h k = h ∙ sym k
  one_part (a_name n) a b (t, m, s) (u, k, r) = one_spelling u a b (subst (λ z. Spells a z) (one_text texts n t u m k) s) r
  one_part (a_variable r) a b h k = one_variable r.of r.name a b h k

  one_each : (ps : List Part) (ts us : List (List ℕ)) → AllZip (IsPartText texts) ps ts → AllZip (IsPartText texts) ps us → ts ≡ us
  one_each [] [] [] h k = refl
  one_each [] [] (u ∷ us) h k = absurd k
  one_each [] (t ∷ ts) us h k = absurd h
  one_each (p ∷ ps) [] us h k = absurd h
  one_each (p ∷ ps) (t ∷ ts) [] h k = absurd k
  one_each (p ∷ ps) (t ∷ ts) (u ∷ us) h k = λ i. one_part p t u h.0 k.0 i ∷ one_each ps ts us h.1 k.1 i

  pub one_line : (r : Refusal) (a b : List ℕ) → IsRefusalLine texts r a → IsRefusalLine texts r b → a ≡ b
  one_line r a b (parts, (ts, all, is), e) (others, (us, every, are), f) =
      let same = is ∙ ap (λ z. gathered (λ t. 32 ∷ t) z) (one_each (parts_of r) ts us all every) ∙ sym are in
      e ∙ ap (λ z. codes "refused" ++ z ++ 10 ∷ []) same ∙ sym f
