use Rattle.mg_expand.proofs.ExportLemmas.{firsts_again, firsts_more, is_met, is_unmet}
use Rattle.mg_expand.proofs.exports.meet.Goals as goal

pub returns-in_ok-push-clause-names : goal.returns-in_ok-push-clause-names
returns-in_ok-push-clause-names c = λ seen e.
    firsts_more c.args.names.now.items c.push.new.self.items seen c.args.name (is_unmet c.args.names.now.items c.args.name c.requires c.in_ok-new.ensures.added c.if-new.true) c.in_ok-push.ensures.items e

pub returns-else-new-clause-names : goal.returns-else-new-clause-names
returns-else-new-clause-names c = λ seen e.
    firsts_again c.args.names.now.items seen c.args.name (is_met c.args.names.now.items c.args.name c.requires c.in_ok-new.ensures.added c.if-new.false) e
