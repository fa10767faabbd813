use Rattle.std.proofs.Common.{◌∙◌, subst, sym, arith}
use Rattle.gr_base.proofs.ListLemmas.{Each-at, IsAmong-slice_get}
use Rattle.lx_anchor.specs.Rows.{IsFound}
use Rattle.lx_anchor.specs.Sharing.{CanServe}
use Rattle.lx_anchor.proofs.AnchoringLemmas.{family-all, family-push, family-skip}
use Rattle.lx_anchor.proofs.anchoring.anchor_family.Goals as goal
use Rattle.lx_anchor.proofs.anchoring.anchor_family.Goals.{in-Some+in_ok-push, in_default-found}

pub lexical_tree-requires-clause-serves : goal.lexical_tree-requires-clause-serves
lexical_tree-requires-clause-serves c =
    subst (λ s. CanServe c.get-entry.result.now c.args.first s) (sym c.trees.invariant.0)
    (Each-at (λ e. CanServe e c.args.first c.args.store.now) c.args.lexicon.now c.get-entry.result.now c.requires.serves (IsAmong-slice_get c.args.lexicon.now c.args.number c.get-entry.result.now c.get-entry.ensures))

pub trees-preserved : goal.trees-preserved
trees-preserved c = (
  c.in_ok-found.ensures.same ∙ c.trees.invariant.0,
  elim c.match-found.branch [
    | in-Some+in_ok-push w ↦
        rw w.trees-is
        (family-push c.args.grammar.now c.args.lexicon.now c.args.number c.in-Ok.entry_number c.get-entry.result.now c.get-entry.ensures c.in-Ok.ensures.1 c.args.class.now c.requires.family c.trees.at c.trees.trees c.trees.invariant.1 w.in-Some.lexical _ (omega (arith, c.trees-test.true, c.len-at-end.ensures.number))
        (subst (λ o. IsFound c.args.class.now c.trees.at c.in-Ok.entry_number c.get-entry.result.now o) w.in-Some.is c.in_ok-found.ensures.found) w.in_ok-push.ensures.ok)
    | in_default-found w ↦
        rw w.trees-is
        (family-skip c.args.grammar.now c.args.lexicon.now c.args.number c.in-Ok.entry_number c.get-entry.result.now c.get-entry.ensures c.in-Ok.ensures.1 c.args.class.now c.requires.family c.trees.at c.trees.trees c.trees.invariant.1
        (subst (λ o. IsFound c.args.class.now c.trees.at c.in-Ok.entry_number c.get-entry.result.now o) w.in_default-found.is c.in_ok-found.ensures.found))
  ],
)

pub returns-clause-ok : goal.returns-clause-ok
returns-clause-ok c =
    family-all c.args.grammar.now c.args.lexicon.now c.args.number c.in-Ok.entry_number c.get-entry.result.now c.get-entry.ensures c.in-Ok.ensures.1 c.args.class.now c.requires.family c.trees.at c.trees.trees c.trees.invariant.1
    (omega (arith, c.trees-test.false, c.len-at-end.ensures.number))
