use Rattle.std.proofs.Common.{refl, sym, append-nil, arith}
use Rattle.gr_terms.specs.declared.Sym.{Sym}
use Rattle.mg_syntax.specs.declared.body.Side.{Side}
use Rattle.mg_scope.specs.Uses.{side_uses}
use Rattle.mg_scope.proofs.GatherLemmas.{grown, grown_all}
use Rattle.mg_scope.proofs.uses.push_bag.Goals as goal

pub loop-pair-preserved : goal.loop-pair-preserved
loop-pair-preserved c =
    grown (λ (p : Sym × Side). side_uses p.1) c.as_slice-pair-items.result.now c.loop-pair.pair-index _ c.args.uses.now.items c.loop-pair.uses.items c.push_side.new.uses.items
    c.loop-pair-test.true c.loop-pair.invariant c.in_ok-push_side.ensures

pub returns : goal.returns
returns c =
    grown_all (λ (p : Sym × Side). side_uses p.1) c.as_slice-pair-items.result.now c.args.bag.now c.loop-pair.pair-index c.args.uses.now.items c.loop-pair.uses.items
    c.loop-pair-test.false c.loop-pair.invariant c.as_slice-pair-items.ensures
