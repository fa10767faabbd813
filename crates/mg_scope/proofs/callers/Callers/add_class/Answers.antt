use Rattle.std.proofs.Common.{sym, ◌∙◌, true≢false, subst, take}
use Rattle.mg_scope.specs.Classes.{mentioned}
use Rattle.mg_scope.specs.Faults.{StandsIn}
use Rattle.mg_scope.proofs.LoopLemmas.{on_ok}
use Rattle.mg_scope.proofs.CallerLemmas.{callers_again, callers_first}
use Rattle.mg_scope.proofs.callers.Callers.add_class.Goals as goal

pub returns-then-not-is_first : goal.returns-then-not-is_first
returns-then-not-is_first c = λ known.
    let m = c.args.directory.now in
    let k = c.requires.0 in
    callers_again (mentioned m) c.args.self.now m c.args.place k c.requires.1
    (subst (StandsIn (take c.args.place m)) (sym c.requires.2) (c.is_first.ensures.later k c.requires.1 c.requires.2 (λ yes. true≢false (sym yes ∙ c.if-not-is_first.true)))) known

pub returns : goal.returns
returns c =
    let m = c.args.directory.now in
    on_ok c.add_to_each.result
    (λ each known.
    callers_first (mentioned m) c.args.self.now c.add_to_each.new.self m c.args.place c.requires.0 c.args.name c.mentioned.result.now c.requires.1 c.requires.2 c.mentioned.ensures each known)
    c.add_to_each.ensures
