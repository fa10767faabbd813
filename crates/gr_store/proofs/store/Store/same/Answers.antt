use Rattle.std.proofs.Common.{◌≡◌, true, take, sym, ◌∙◌, rules}
use Rattle.gr_store.proofs.Solutions.{joined_terms}
use Rattle.gr_store.proofs.History.{solves_now}
use Rattle.gr_store.proofs.store.Store.same.Goals as goal

pub returns : goal.returns
returns c =
    let s = c.self.inside in
    let past = take s.used.assertions s.kept.items in
    let solved = solves_now s.base past s.terms.1 s.nodes.1 c.self.invariant.history in
    let equal : c.eq.result ≡ true → c.root.result ≡ c.root-2.result = λ h. search rules in
    let is_true : c.root.result ≡ c.root-2.result → c.eq.result ≡ true = λ h. search rules in
    rw (← c.self.view_is) (
      λ h. solved.is_linked.terms c.args.a c.args.b (sym c.root.ensures.value ∙ equal h ∙ c.root-2.ensures.value),
      λ l. is_true (c.root.ensures.value ∙ joined_terms _ _ _ _ solved c.args.a c.args.b l ∙ sym c.root-2.ensures.value),
    )
