-- A description whose names are below a number.
use Rattle.std.specs.Prelude.{ℕ, ◌<◌, List, ◌∷◌, ◌++◌}
use Rattle.gr_base.specs.Lists.{IsWithin, gathered}
use Rattle.gr_base.proofs.ListLemmas.{Each-at, Each-members, Each-left, Each-right, Each-weaker}
use Rattle.gr_terms.specs.declared.Term.{Term}
use Rattle.gr_terms.specs.declared.Term.TheVariants.{Const, Var}
use Rattle.gr_terms.specs.declared.Assertion.{Assertion}
use Rattle.gr_terms.specs.declared.Assertion.TheVariants.{Entry, Equate, Link}
use Rattle.gr_terms.specs.declared.Literal.{Literal}
use Rattle.td_desc.specs.declared.Description.{Description}
use Rattle.td_canon.specs.CanonicalTexts.{IsNamedTerm, IsNamedLiteral}
use Rattle.td_model.specs.ModelTrees.{IsNamedAssertion, IsNamedDescription}
use Rattle.mg_facts.specs.Meanings.{names_of, assertion_names, literal_names, description_names}
use Rattle.mg_syntax.proofs.Names.{Each-gathered_from}
use Rattle.mg_compile.proofs.Known.{AreBelow}

module _ (count : ℕ) where
  abbrev Q : ℕ → Type 0
  Q a = a < count

  term_fits : (t : Term) → AreBelow count (names_of t) → IsNamedTerm count t
  term_fits (Const a) h = h.0
  term_fits (Var v) h = tt

  assertion_fits : (x : Assertion) → AreBelow count (assertion_names x) → IsNamedAssertion count x
  assertion_fits (Entry s a t) h = (h.0, term_fits t h.1)
  assertion_fits (Equate t u) h = (term_fits t (Each-left Q (names_of t) (names_of u) h), term_fits u (Each-right Q (names_of t) (names_of u) h))
  assertion_fits (Link s t) h = tt

  literal_fits : (l : Literal) → AreBelow count (literal_names l) → IsNamedLiteral count l
  literal_fits l h =
      let all = Each-gathered_from Q names_of (l.handle ∷ l.pred ∷ l.args) h in
      record { handle = term_fits l.handle all.0; pred = term_fits l.pred all.1.0; args = Each-weaker (λ t. AreBelow count (names_of t)) (IsNamedTerm count) term_fits l.args all.1.1 }

  pub description_fits : (d : Description) (names : List ℕ) → IsWithin (description_names d) names → AreBelow count names → IsNamedDescription count d
  description_fits d names within h =
      let network = gathered assertion_names d.network in
      let literals = gathered literal_names d.sem in
      let all : AreBelow count (network ++ literals) = Each-members Q (network ++ literals) (λ a i. Each-at Q names a h (within a i)) in
      record {
        network = Each-weaker (λ x. AreBelow count (assertion_names x)) (IsNamedAssertion count) assertion_fits d.network (Each-gathered_from Q assertion_names d.network (Each-left Q network literals all));
        literals = Each-weaker (λ l. AreBelow count (literal_names l)) (IsNamedLiteral count) literal_fits d.sem (Each-gathered_from Q literal_names d.sem (Each-right Q network literals all));
      }
