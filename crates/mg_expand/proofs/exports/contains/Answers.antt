use Rattle.std.proofs.Common.{subst, sym, refl, List}
use Rattle.std.proofs.lemmas.List.{take_all}
use Rattle.std.proofs.lemmas.Bool.{false≢true}
use Rattle.gr_base.specs.Lists.{IsAmong}
use Rattle.gr_base.proofs.ListLemmas.{IsAmong-get_or}
use Rattle.gr_terms.specs.declared.Sym.{Sym}
use Rattle.gr_terms.proofs.ViewLemmas.{same_sym}
use Rattle.mg_expand.proofs.ExportLemmas.{not_among_more}
use Rattle.mg_expand.proofs.exports.contains.Goals as goal

pub loop-one-preserved : goal.loop-one-preserved
loop-one-preserved c = not_among_more c.args.names.now c.loop-one.one-index _ c.args.name c.loop-one-test.true c.loop-one.invariant c.if-one-name.false

pub returns-then-one-name : goal.returns-then-one-name
returns-then-one-name c =
    ((λ _. subst (IsAmong c.args.names.now) (same_sym _ c.args.name c.if-one-name.true) (IsAmong-get_or c.args.names.now c.loop-one.one-index _ c.loop-one-test.true)), (λ _. refl))

pub returns : goal.returns
returns c =
    ((λ h. absurd (false≢true h)), (λ i. absurd (c.loop-one.invariant (subst (λ (z : List Sym). IsAmong z c.args.name) (sym (take_all c.loop-one.one-index c.args.names.now c.loop-one-test.false)) i))))
