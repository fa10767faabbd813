use Rattle.std.proofs.Common.{arith}
use Rattle.gr_terms.specs.Views.{network_of}
use Rattle.lx_anchor.specs.Counts.{IsLiteralBelow}
use Rattle.lx_anchor.specs.Writings.{counted_literal}
use Rattle.lx_anchor.proofs.WritingLemmas.{appended-all, appended-more, appended-none, mapped-at}
use Rattle.lx_anchor.proofs.writing.put_literals.Goals as goal

pub written_literal-requires : goal.written_literal-requires
written_literal-requires c = mapped-at (counted_literal c.args.first) (IsLiteralBelow 4294967295) c.args.literals.now c.literals.place c.get.result.now c.requires c.get.ensures

pub literals-init : goal.literals-init
literals-init c = appended-none (network_of c.args.store.now.accepted) c.args.first c.args.written.now

pub literals-preserved : goal.literals-preserved
literals-preserved c =
    appended-more (network_of c.args.store.now.accepted) c.args.first c.args.literals.now c.args.written.now c.literals.written c.push.new.self c.literals.place c.get.result.now c.in_ok-written_literal.field-0 c.get.ensures c.literals.invariant
    c.in_ok-written_literal.ensures c.in_ok-push.ensures.ok

pub returns : goal.returns
returns c = appended-all (network_of c.args.store.now.accepted) c.args.first c.args.literals.now c.args.written.now c.literals.written c.literals.place (omega arith) c.literals.invariant
