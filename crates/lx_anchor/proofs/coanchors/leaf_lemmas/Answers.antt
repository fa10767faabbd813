use Rattle.std.proofs.Common.{sym, arith}
use Rattle.lx_anchor.proofs.CoanchorLemmas.{lemmas-all, lemmas-more, lemmas-refused, lemmas-same}
use Rattle.lx_anchor.proofs.coanchors.leaf_lemmas.Goals as goal
use Rattle.lx_anchor.proofs.coanchors.leaf_lemmas.Goals.{then-has_mark+in-Some+in_ok-push-in-Some, else-has_mark}

pub returns-in-None : goal.returns-in-None
returns-in-None c = lemmas-refused c.args.tree.now c.args.entry.now c.nodes.number c.get-node.result.now c.get-node.ensures (sym c.if-has_mark.ensures) c.in-None.ensures

pub nodes-preserved : goal.nodes-preserved
nodes-preserved c =
    elim c.if-has_mark.branch [
      | then-has_mark+in-Some+in_ok-push-in-Some w ↦
          rw w.lemmas-is
          (lemmas-more c.args.tree.now c.args.entry.now c.nodes.number c.get-node.result.now c.nodes.lemmas _ w.in-Some.lemma w.in-Some.ensures.0 c.get-node.ensures (sym w.if-has_mark.ensures) w.in-Some.ensures.1 w.in-Some.ensures.2 w.in_ok-push-in-Some.ensures.ok c.nodes.invariant)
      | else-has_mark w ↦ rw w.lemmas-is (lemmas-same c.args.tree.now c.args.entry.now c.nodes.number c.get-node.result.now c.nodes.lemmas c.get-node.ensures (sym w.if-has_mark.ensures) c.nodes.invariant)
    ]

pub returns : goal.returns
returns c = lemmas-all c.args.tree.now c.args.entry.now c.nodes.number c.nodes.lemmas (omega arith) c.nodes.invariant
