use Rattle.std.proofs.Common.{take, sym, ◌∙◌, ap, arith}
use Rattle.gr_store.specs.Contents.{rank}
use Rattle.gr_store.proofs.Solutions.{joined_terms}
use Rattle.gr_store.proofs.History.{solves_now}
use Rattle.gr_store.proofs.store.Store.least.Goals as goal

pub returns-clause-is_linked : goal.returns-clause-is_linked
returns-clause-is_linked c =
    let s = c.self.inside in
    let solved = solves_now s.base (take s.used.assertions s.kept.items) s.terms.1 s.nodes.1 c.self.invariant.history in
    rw (← c.self.view_is) (solved.is_linked.terms c.args.t c.root.result (sym c.root.ensures.value ∙ sym c.root.ensures.root))

pub returns-clause-least : goal.returns-clause-least
returns-clause-least c =
    let s = c.self.inside in
    let solved = solves_now s.base (take s.used.assertions s.kept.items) s.terms.1 s.nodes.1 c.self.invariant.history in
    rw (← c.self.view_is) (λ u l.
    let same = ap rank (c.root.ensures.value ∙ joined_terms _ _ _ _ solved c.args.t u l) in
    omega (arith, same, c.root.ensures.falls u))
