use Rattle.std.proofs.Common.{subst, sym}
use Rattle.gr_terms.specs.declared.Sym.{Sym}
use Rattle.gr_terms.specs.declared.Term.{Term}
use Rattle.gr_store.specs.Contents.{IsMade}
use Rattle.gr_store.proofs.Growth.{Grows-trans}
use Rattle.gr_feats.specs.Loading.{counted_from}
use Rattle.lx_anchor.proofs.CountLemmas.{bag-grows, term-grows}
use Rattle.lx_anchor.proofs.SharingLemmas.{come-clash, come-more, made-fits}
use Rattle.lx_anchor.proofs.WritingLemmas.{mapped-at}
use Rattle.lx_anchor.proofs.sharing.share.Goals as goal

pub counted-requires : goal.counted-requires
counted-requires c =
    made-fits c.args.store.now (counted_from c.args.first c.at-pair.result.now.1) c.agrees.ensures.fits.vars
    (mapped-at (λ (p : Sym × Term). (p.0, counted_from c.args.first p.1)) (λ (p : Sym × Term). IsMade c.args.store.now.vars p.1) c.args.added.now c.pairs.place c.at-pair.result.now c.requires.added_made c.at-pair.ensures.pair)

pub share_value-requires-clause-bag_made : goal.share_value-requires-clause-bag_made
share_value-requires-clause-bag_made c = bag-grows c.args.store.now.vars c.pairs.store.vars c.args.bag.now c.pairs.invariant.grows.vars c.requires.bag_made

pub share_value-requires-clause-value_made : goal.share_value-requires-clause-value_made
share_value-requires-clause-value_made c =
    subst (λ x. IsMade c.pairs.store.vars x) (sym c.counted.ensures)
    (term-grows c.args.store.now.vars c.pairs.store.vars (counted_from c.args.first c.at-pair.result.now.1) c.pairs.invariant.grows.vars
    (mapped-at (λ (p : Sym × Term). (p.0, counted_from c.args.first p.1)) (λ (p : Sym × Term). IsMade c.args.store.now.vars p.1) c.args.added.now c.pairs.place c.at-pair.result.now c.requires.added_made c.at-pair.ensures.pair))

pub returns-then-not-share_value-clause-refused : goal.returns-then-not-share_value-clause-refused
returns-then-not-share_value-clause-refused c =
    come-clash c.args.bag.now c.args.added.now c.args.first c.args.store.now c.pairs.place c.pairs.store c.at-pair.result.now c.at-pair.ensures.pair c.pairs.invariant
    (rw c.counted.ensures at c.if-not-share_value.ensures.refused)

pub pairs-preserved : goal.pairs-preserved
pairs-preserved c =
    come-more c.args.bag.now c.args.added.now c.args.first c.args.store.now c.pairs.place c.pairs.store c.share_value.new.store c.at-pair.result.now c.at-pair.ensures.pair c.pairs.invariant
    (rw c.counted.ensures at c.if-not-share_value.ensures.shared)
    (Grows-trans c.args.store.now c.pairs.store c.share_value.new.store c.pairs.invariant.grows c.if-not-share_value.ensures.grows)
