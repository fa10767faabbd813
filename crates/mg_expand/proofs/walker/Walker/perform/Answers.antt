use Rattle.std.proofs.Common.{◌+◌, refl}
use Rattle.mg_expand.specs.declared.walker.Walker.{Walker}
use Rattle.mg_expand.proofs.WalkerLemmas.{stepped-deed, stepped-deed_over}
use Rattle.mg_expand.proofs.walker.Walker.perform.Goals as goal

pub returns-in_default : goal.returns-in_default
returns-in_default c = λ m d e. stepped-deed_over m c.args.self.now c.args.self.now c.args.then c.args.statement.now d e c.requires c.in_default.ensures

pub returns : goal.returns
returns c =
    let new : Walker = record c.args.self.now { items = c.args.self.now.items + c.in-Some.count; facts = c.say.new.facts } in
    λ m d e. stepped-deed m c.args.self.now new c.args.then c.args.statement.now d c.in-Some.count e c.in-Some.ensures.1 c.requires c.in-Some.ensures.0
    (record { as_kept = refl; as_said = c.in_ok-say.ensures.ok; as_forks = refl; as_items = refl })
