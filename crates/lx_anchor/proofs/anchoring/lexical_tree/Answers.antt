use Rattle.std.proofs.Common.{ℕ, ◌+◌, List, MatchOption, refl, subst, sym, ◌∙◌}
use Rattle.gr_terms.specs.declared.Sym.{Sym}
use Rattle.td_canon.specs.TreeSets.{trees_of}
use Rattle.tg_grammar.specs.Shapes.{IsWellFormedTree}
use Rattle.tg_grammar.proofs.GrammarLemmas.{Each-slice_get}
use Rattle.lx_anchor.specs.Anchoring.{AreLemmas}
use Rattle.lx_anchor.specs.Counts.{IsTreeBelow}
use Rattle.lx_anchor.specs.Rows.{IsAnchored}
use Rattle.lx_anchor.proofs.AnchoringLemmas.{bare-pair, found, none-by_network}
use Rattle.lx_anchor.proofs.anchoring.lexical_tree.Goals as goal

pub anchored-requires-clause-well_formed : goal.anchored-requires-clause-well_formed
anchored-requires-clause-well_formed c = Each-slice_get IsWellFormedTree (trees_of c.args.class.now.trees) c.args.at c.get-tree.result.now c.requires.well_formed c.get-tree.ensures.tree

pub anchored-requires-clause-room : goal.anchored-requires-clause-room
anchored-requires-clause-room c = record {
  serves = c.requires.serves;
  tree = Each-slice_get (IsTreeBelow c.args.first) (trees_of c.args.class.now.trees) c.args.at c.get-tree.result.now c.requires.below c.get-tree.ensures.tree;
}

pub returns-in_default-2-clause-found : goal.returns-in_default-2-clause-found
returns-in_default-2-clause-found c =
    none-by_network c.args.class.now c.args.at c.args.number c.get-tree.result.now c.args.entry.now c.get-tree.ensures.tree
    (Each-slice_get IsWellFormedTree (trees_of c.args.class.now.trees) c.args.at c.get-tree.result.now c.requires.well_formed c.get-tree.ensures.tree)
    (subst (λ o. IsAnchored c.get-tree.result.now c.args.entry.now o) c.in_default-2.is c.in_ok-joint.ensures.tree)

pub returns-then-len-eq0-clause-refused : goal.returns-then-len-eq0-clause-refused
returns-then-len-eq0-clause-refused c =
    bare-pair c.args.class.now c.args.at c.args.number c.get-tree.result.now c.args.entry.now c.get-tree.ensures.tree
    (Each-slice_get IsWellFormedTree (trees_of c.args.class.now.trees) c.args.at c.get-tree.result.now c.requires.well_formed c.get-tree.ensures.tree) c.in-Some.coanchors
    (subst (λ o. MatchOption o ((lemmas : List (ℕ × Sym)) → AreLemmas c.get-tree.result.now c.args.entry.now lemmas → ⊥) (AreLemmas c.get-tree.result.now c.args.entry.now)) c.in-Some.is c.in_ok-coanchors.ensures) c.in-Some-2.joint
    (subst (λ o. IsAnchored c.get-tree.result.now c.args.entry.now o) c.in-Some-2.is c.in_ok-joint.ensures.tree) c.args.entry.now.lemma c.args.class.now.class (c.args.at + 1) (sym c.len.ensures ∙ c.if-len-eq0.true) refl refl refl

pub returns-clause-found : goal.returns-clause-found
returns-clause-found c =
    found c.args.class.now c.args.at c.args.number c.get-tree.result.now c.args.entry.now c.get-tree.ensures.tree
    (Each-slice_get IsWellFormedTree (trees_of c.args.class.now.trees) c.args.at c.get-tree.result.now c.requires.well_formed c.get-tree.ensures.tree) c.in-Some.coanchors
    (subst (λ o. MatchOption o ((lemmas : List (ℕ × Sym)) → AreLemmas c.get-tree.result.now c.args.entry.now lemmas → ⊥) (AreLemmas c.get-tree.result.now c.args.entry.now)) c.in-Some.is c.in_ok-coanchors.ensures) c.in-Some-2.joint
    (subst (λ o. IsAnchored c.get-tree.result.now c.args.entry.now o) c.in-Some-2.is c.in_ok-joint.ensures.tree) _ refl refl refl refl refl refl (λ none. c.if-len-eq0.false (c.len.ensures ∙ none))
