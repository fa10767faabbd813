use Rattle.std.proofs.Common.{sym, arith}
use Rattle.lx_anchor.proofs.CoanchorLemmas.{lemma-here, lemma-later, lemma-none}
use Rattle.lx_anchor.proofs.coanchors.lemma_of.Goals as goal

pub returns-then-eq : goal.returns-then-eq
returns-then-eq c = sym (lemma-here c.args.coanchors.now c.names.place c.get.result.now c.args.name.0 c.get.ensures c.names.invariant (sym c.if-eq.ensures))

pub names-preserved : goal.names-preserved
names-preserved c = lemma-later c.args.coanchors.now c.names.place c.get.result.now c.args.name.0 c.get.ensures c.names.invariant (sym c.if-eq.ensures)

pub returns : goal.returns
returns c = sym (lemma-none c.args.coanchors.now c.names.place c.args.name.0 (omega arith) c.names.invariant)
