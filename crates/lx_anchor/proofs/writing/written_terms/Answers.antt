use Rattle.std.specs.List.{AllZip}
use Rattle.std.proofs.Common.{subst, sym, arith}
use Rattle.gr_terms.specs.Views.{network_of, term_of}
use Rattle.gr_store.specs.Contents.{IsMade}
use Rattle.gr_feats.specs.CanonicalBags.{StandsFor}
use Rattle.gr_feats.specs.Loading.{counted_from}
use Rattle.td_model.proofs.ReadingLemmas.{zip_all, zip_push}
use Rattle.lx_anchor.proofs.WritingLemmas.{map-both, mapped-at}
use Rattle.lx_anchor.proofs.writing.written_terms.Goals as goal

pub written_term-requires : goal.written_term-requires
written_term-requires c = mapped-at (counted_from c.args.first) (IsMade 4294967295) c.args.terms.now c.terms.place c.get.result.now c.requires c.get.ensures

pub terms-preserved : goal.terms-preserved
terms-preserved c =
    zip_push (StandsFor (network_of c.args.store.now.accepted)) (λ x. term_of (counted_from c.args.first x)) c.args.terms.now c.terms.place c.get.result.now c.terms.written.items c.push.new.self.items c.written_term.result c.get.ensures
    c.terms.invariant c.written_term.ensures c.in_ok-push.ensures.items

pub returns : goal.returns
returns c =
    let N = network_of c.args.store.now.accepted in
    rw c.from_vec.ensures
    (subst (λ xs. AllZip (StandsFor N) xs c.terms.written.items) (sym (map-both (counted_from c.args.first) term_of c.args.terms.now))
    (zip_all (StandsFor N) (λ x. term_of (counted_from c.args.first x)) c.args.terms.now c.terms.place c.terms.written.items (omega arith) c.terms.invariant))
