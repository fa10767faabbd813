use Rattle.std.proofs.Common.{refl, sym, subst, List}
use Rattle.std.proofs.lemmas.Bool.{false≢true}
use Rattle.gr_base.specs.Lists.{IsAmong}
use Rattle.gr_terms.specs.declared.Sym.{Sym}
use Rattle.mg_expand.proofs.ExportLemmas.{firsts_again, firsts_more}
use Rattle.mg_expand.proofs.exports.note.Goals as goal

pub returns-then-contains : goal.returns-then-contains
returns-then-contains c = λ seen e.
    firsts_again c.args.names.now.items seen c.args.name (subst (λ (z : List Sym). IsAmong z c.args.name) c.as_slice.ensures.value (c.if-contains.ensures.0 refl)) e

pub returns : goal.returns
returns c = λ seen e.
    firsts_more c.args.names.now.items c.push.new.self.items seen c.args.name
    (λ i. false≢true (c.if-contains.ensures.1 (subst (λ (z : List Sym). IsAmong z c.args.name) (sym c.as_slice.ensures.value) i))) c.in_ok-push.ensures.items e
