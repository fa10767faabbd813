use Rattle.std.proofs.Common.{rules, ◌≡◌, length, get_or, refl, ap, sym, subst, ◌∙◌, eq-eqb, arith}
use Rattle.std.proofs.lemmas.Bool.{eqb-true, false≢true}
use Rattle.std.proofs.lemmas.List.{get_or_push}
use Rattle.gr_store.specs.declared.room.Mark.{Mark}
use Rattle.mg_facts.specs.Classes.{AreJoins}
use Rattle.mg_facts.proofs.ClassLemmas.{all_joined-joins}
use Rattle.mg_facts.proofs.StatedLemmas.{on_is_true, on_is_false, fact_mentions, fact_class_mentions, stated_fed, stated_refused}
use Rattle.mg_facts.proofs.stated.Stated.state.Goals as goal

pub take_up-requires-clause-mentions : goal.take_up-requires-clause-mentions
take_up-requires-clause-mentions c =
    let count : length c.self.inside.facts.items ≡ c.len-count.result = search rules in
    let is_f : c.index.result.now ≡ c.args.fact =
    c.index.ensures ∙ ap (λ z. get_or z c.len-count.result c.index.result.now) c.in_ok-push_both.ensures.facts ∙ get_or_push c.self.inside.facts.items c.args.fact c.index.result.now c.len-count.result count
    in
    fact_mentions c.self.inside.names c.self.inside.used c.self.inside.facts.items c.self.inside.past.items c.self.inside.network c.self.inside.classes c.self.inside.fed c.self.invariant c.args.self.now c.self.view_is c.args.fact c.requires.below c.requires.met c.index.result.now is_f

pub take_up-requires-clause-class_mentions : goal.take_up-requires-clause-class_mentions
take_up-requires-clause-class_mentions c =
    let count : length c.self.inside.facts.items ≡ c.len-count.result = search rules in
    let is_f : c.index.result.now ≡ c.args.fact =
    c.index.ensures ∙ ap (λ z. get_or z c.len-count.result c.index.result.now) c.in_ok-push_both.ensures.facts ∙ get_or_push c.self.inside.facts.items c.args.fact c.index.result.now c.len-count.result count
    in
    fact_class_mentions c.self.inside.names c.self.inside.used c.self.inside.facts.items c.self.inside.past.items c.self.inside.network c.self.inside.classes c.self.inside.fed c.self.invariant c.args.self.now c.self.view_is c.args.fact c.requires.below c.requires.met c.index.result.now is_f

pub take_up-requires-clause-are_joins : goal.take_up-requires-clause-are_joins
take_up-requires-clause-are_joins c = subst AreJoins (sym c.self.invariant.joined) (all_joined-joins c.self.inside.facts.items)

pub invariant_of-self-then-agrees : goal.invariant_of-self-then-agrees
invariant_of-self-then-agrees c =
    let count : length c.self.inside.facts.items ≡ c.len-count.result = search rules in
    let is_f : c.index.result.now ≡ c.args.fact =
    c.index.ensures ∙ ap (λ z. get_or z c.len-count.result c.index.result.now) c.in_ok-push_both.ensures.facts ∙ get_or_push c.self.inside.facts.items c.args.fact c.index.result.now c.len-count.result count
    in
    let r = c.in-Ok.ensures.agrees.0 c.if-agrees.true in
    stated_fed c.self.inside.names c.self.inside.used c.self.inside.facts.items c.self.inside.past.items c.self.inside.network c.self.inside.classes c.self.inside.fed c.self.invariant c.args.self.now c.self.view_is c.args.fact c.requires.below c.requires.met
    c.index.result.now is_f _ refl
    (ap (λ (m : Mark). m.assertions) c.mark-used.ensures.mark) (ap (λ (m : Mark). m.entries) c.mark-used.ensures.mark) (ap (λ (m : Mark). m.assertions) c.mark.ensures.mark)
    c.count-self-inside.result c.count-self-inside.ensures.count c.push_both.new.facts.items c.in_ok-push_both.ensures.facts c.push_both.new.past.items c.in_ok-push_both.ensures.past
    c.take_up.new.network c.take_up.new.classes c.in-Ok.ensures.joined
    (on_is_true c.in-Ok.agrees _ c.if-agrees.true c.in-Ok.ensures.accepted)
    (eqb-true c.self.inside.fed c.len-count.result r.0 ∙ sym count)

pub invariant_of-self-else-agrees : goal.invariant_of-self-else-agrees
invariant_of-self-else-agrees c =
    let count : length c.self.inside.facts.items ≡ c.len-count.result = search rules in
    let is_f : c.index.result.now ≡ c.args.fact =
    c.index.ensures ∙ ap (λ z. get_or z c.len-count.result c.index.result.now) c.in_ok-push_both.ensures.facts ∙ get_or_push c.self.inside.facts.items c.args.fact c.index.result.now c.len-count.result count
    in
    stated_refused c.self.inside.names c.self.inside.used c.self.inside.facts.items c.self.inside.past.items c.self.inside.network c.self.inside.classes c.self.inside.fed c.self.invariant c.args.self.now c.self.view_is c.args.fact c.requires.below c.requires.met
    c.index.result.now is_f _ refl
    (ap (λ (m : Mark). m.assertions) c.mark-used.ensures.mark) (ap (λ (m : Mark). m.entries) c.mark-used.ensures.mark) (ap (λ (m : Mark). m.assertions) c.mark.ensures.mark)
    c.count-self-inside.result c.count-self-inside.ensures.count c.push_both.new.facts.items c.in_ok-push_both.ensures.facts c.push_both.new.past.items c.in_ok-push_both.ensures.past
    c.take_up.new.network c.take_up.new.classes c.in-Ok.ensures.joined
    (on_is_false c.in-Ok.agrees _ c.if-agrees.false c.in-Ok.ensures.refused)
    (λ all agrees. false≢true (sym c.if-agrees.false ∙ c.in-Ok.ensures.agrees.1 (eq-eqb c.self.inside.fed c.len-count.result (all ∙ count), agrees)))
