use Rattle.std.proofs.Common.{refl, [], ◌∙◌, ap, map}
use Rattle.std.proofs.lemmas.List.{take_all}
use Rattle.mg_scope.specs.Names.{number_of}
use Rattle.mg_scope.proofs.NameLemmas.{mapped_more}
use Rattle.mg_scope.proofs.names.numbers_of.Goals as goal

pub loop-name-preserved : goal.loop-name-preserved
loop-name-preserved c =
    mapped_more number_of c.args.names.now c.loop-name.name-index _ [] c.loop-name.numbers.items c.push.new.self.items _ c.loop-name-test.true c.loop-name.invariant c.in_ok-push.ensures.items refl

pub returns : goal.returns
returns c = c.loop-name.invariant ∙ ap (map number_of) (take_all c.loop-name.name-index c.args.names.now c.loop-name-test.false)
