use Rattle.std.proofs.Common.{◌≡◌, ◌+◌, ◌≤◌, ◌<◌, ◌++◌, length, refl, ap, ◌∙◌, arith, map}
use Rattle.mg_scope.specs.Classes.{firsts}
use Rattle.mg_deeds.specs.Sayings.{import_said}
use Rattle.mg_expand.specs.declared.walker.Walker.{Walker}
use Rattle.mg_expand.proofs.WalkerLemmas.{stepped-import, stepped-import_over}
use Rattle.mg_expand.proofs.walker.Walker.import.Goals as goal

pub returns-then-count-there : goal.returns-then-count-there
returns-then-count-there c =
    let count : c.len-count.result ≡ length c.gather.new.names.items = omega (arith, c.len-count.ensures, c.gather.new.names.ok.0) in
    let much : 4096 < c.args.self.now.items + 1 + length c.gather.new.names.items = omega (arith, count, c.if-count-there.true, c.requires) in
    λ m x at. stepped-import_over m c.args.self.now c.args.self.now c.args.then x c.args.class.now c.gather.new.names.items at much
    (c.in_ok-gather.ensures ∙ ap firsts c.as_slice.ensures)

pub returns : goal.returns
returns c =
    let count : c.len-count.result ≡ length c.gather.new.names.items = omega (arith, c.len-count.ensures, c.gather.new.names.ok.0) in
    let few : c.args.self.now.items + 1 + length c.gather.new.names.items ≤ 4096 = omega (arith, count, c.if-count-there.false, c.requires) in
    let mid : Walker = record c.args.self.now { items = c.args.self.now.items + 1 + c.len-count.result; facts = c.say_imports.new.facts; names = c.gather.new.names } in
    λ m x at. stepped-import m c.args.self.now mid c.enter.new.self c.args.then c.in_ok-next.next x c.args.class.now c.gather.new.names.items at few
    (c.in_ok-gather.ensures ∙ ap firsts c.as_slice.ensures)
    (record {
      as_kept = refl;
      as_said = c.in_ok-say_imports.ensures.ok ∙ ap (λ z. c.args.self.now.facts ++ map (import_said c.args.then.here c.args.self.now.items) z) c.as_slice-2.ensures.value;
      as_forks = refl;
      as_items = ap (λ k. c.args.self.now.items + 1 + k) count;
    })
    c.in_ok-next.ensures
