use Rattle.std.proofs.Common.{◌+◌, ◌++◌, refl, ap, ◌∙◌, arith, map}
use Rattle.mg_scope.specs.Classes.{firsts}
use Rattle.mg_deeds.specs.Sayings.{dot_said}
use Rattle.mg_expand.specs.declared.walker.Walker.{Walker}
use Rattle.mg_expand.specs.Walks.{bound_to}
use Rattle.mg_expand.proofs.WalkerLemmas.{stepped-bound, stepped-call_over}
use Rattle.mg_expand.proofs.walker.Walker.bind.Goals as goal

pub returns-then-there-ge-LIMIT : goal.returns-then-there-ge-LIMIT
returns-then-there-ge-LIMIT c = λ m x at. stepped-call_over m c.args.self.now c.args.self.now c.args.then (bound_to c.args.variable) x (omega (arith, c.if-there-ge-LIMIT.true))

pub returns : goal.returns
returns c =
    let mid : Walker = record c.args.self.now { items = c.args.self.now.items + 1; facts = c.say_dots.new.facts; names = c.gather.new.names } in
    λ m x at. stepped-bound m c.args.self.now mid c.enter.new.self c.args.then c.in_ok-next.next c.args.variable x c.args.class.now c.gather.new.names.items at
    (omega (arith, c.if-there-ge-LIMIT.false))
    (c.in_ok-gather.ensures ∙ ap firsts c.as_slice.ensures)
    (record {
      as_kept = refl;
      as_said = c.in_ok-say_dots.ensures.ok
          ∙ ap (λ z. c.args.self.now.facts ++ map (dot_said c.args.variable c.args.then.here c.args.self.now.items) z) c.as_slice-2.ensures.value;
      as_forks = refl;
      as_items = refl;
    })
    c.in_ok-next.ensures
