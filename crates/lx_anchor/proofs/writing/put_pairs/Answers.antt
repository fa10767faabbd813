use Rattle.std.proofs.Common.{arith}
use Rattle.gr_base.proofs.ListLemmas.{slice_get-mapped}
use Rattle.gr_terms.specs.Views.{network_of}
use Rattle.gr_terms.specs.declared.Sym.{Sym}
use Rattle.gr_terms.specs.declared.Term.{Term}
use Rattle.gr_store.specs.Contents.{IsMade}
use Rattle.gr_feats.specs.Loading.{counted_from}
use Rattle.lx_anchor.specs.Sharing.{counted_pairs}
use Rattle.lx_anchor.proofs.WritingLemmas.{counted-length, listed-counted, mapped-at, put-all, put-more, put-none}
use Rattle.lx_anchor.proofs.writing.put_pairs.Goals as goal

pub written_term-requires : goal.written_term-requires
written_term-requires c =
    mapped-at (λ (p : Sym × Term). (p.0, counted_from c.args.first p.1)) (λ (p : Sym × Term). IsMade 4294967295 p.1) c.args.pairs.now c.pairs.place c.at-pair.result.now c.requires.made c.at-pair.ensures.pair

pub pairs-init : goal.pairs-init
pairs-init c = put-none (network_of c.args.store.now.accepted) c.args.joint.now c.requires.listed

pub pairs-preserved : goal.pairs-preserved
pairs-preserved c =
    let list = counted_pairs c.args.first c.args.pairs.now in
    put-more (network_of c.args.store.now.accepted) c.mark-agrees.ensures.agrees list c.args.joint.now c.pairs.joint c.add.new.self c.pairs.place c.at-pair.result.now.0 (counted_from c.args.first c.at-pair.result.now.1) c.written_term.result
    (listed-counted c.args.first c.args.pairs.now c.at-pair.ensures.listed)
    (slice_get-mapped (λ (p : Sym × Term). (p.0, counted_from c.args.first p.1)) c.args.pairs.now c.pairs.place c.at-pair.result.now c.at-pair.ensures.pair) c.written_term.ensures c.pairs.invariant c.in_ok-_added._added
    c.in_ok-_added.ensures.absent c.in_ok-_added.ensures.added c.in_ok-_added.ensures.there c.in_ok-_added.ensures.same c.in_ok-_added.ensures.listed

pub returns : goal.returns
returns c =
    put-all (network_of c.args.store.now.accepted) (counted_pairs c.args.first c.args.pairs.now) c.args.joint.now c.pairs.joint c.pairs.place
    (omega (arith, counted-length c.args.first c.args.pairs.now, c.pairs-test.false, c.len-place-end.ensures.number)) (listed-counted c.args.first c.args.pairs.now c.len-place-end.ensures.listed) c.pairs.invariant
