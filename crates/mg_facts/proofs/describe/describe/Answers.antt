use Rattle.std.proofs.Common.{◌≡◌, ◌+◌, ◌*◌, ◌<◌, [], List, ℕ, length, map, refl, ap, ap₂, sym, subst, ◌∙◌, arith}
use Rattle.gr_base.specs.Lists.{Each, gathered}
use Rattle.mg_facts.specs.Numbered.{IsBelow, colours_in, values_in, relations_in}
use Rattle.mg_facts.specs.Classes.{InRange, HasTwoColours, AreColours, AreMarked, AreFirstOnes, HasMarked, InOrder, ArePlaces, node_at, relation_at}
use Rattle.mg_facts.proofs.LoopLemmas.{false_is_no_true}
use Rattle.mg_facts.proofs.WholeLemmas.{whole_disagrees, whole_range, whole_below, whole_two_colours, whole_standing_below, whole_value_node, whole_firsts_below, whole_nodes_below, whole_description, none_case, some_case}
use Rattle.mg_facts.proofs.describe.describe.Goals as goal

pub returns-in_default : goal.returns-in_default
returns-in_default c =
    whole_disagrees c.args.stated.now c.requires c.facts-facts.result.now c.facts-facts.ensures.list c.facts-facts.ensures.below c.facts-facts.ensures.met c.facts-facts.ensures.once c.in_default.ensures

pub colours_of-requires-clause-below : goal.colours_of-requires-clause-below
colours_of-requires-clause-below c =
    subst (λ r. Each (IsBelow (length r)) c.facts-facts.result.now) (sym c.deref.ensures.value) (whole_below c.args.stated.now c.requires c.facts-facts.result.now c.facts-facts.ensures.list c.facts-facts.ensures.below c.facts-facts.ensures.met c.facts-facts.ensures.once c.in_ok-roots.roots.items c.in_ok-roots.ensures)

pub has_value_node-requires-clause-below : goal.has_value_node-requires-clause-below
has_value_node-requires-clause-below c =
    subst (λ r. Each (IsBelow (length r)) c.facts-facts.result.now) (sym c.deref-4.ensures.value) (whole_below c.args.stated.now c.requires c.facts-facts.result.now c.facts-facts.ensures.list c.facts-facts.ensures.below c.facts-facts.ensures.met c.facts-facts.ensures.once c.in_ok-roots.roots.items c.in_ok-roots.ensures)

pub colours_of-requires-clause-range : goal.colours_of-requires-clause-range
colours_of-requires-clause-range c =
    subst (λ r. InRange r) (sym c.deref.ensures.value) (whole_range c.args.stated.now c.requires c.facts-facts.result.now c.facts-facts.ensures.list c.facts-facts.ensures.below c.facts-facts.ensures.met c.facts-facts.ensures.once c.in_ok-roots.roots.items c.in_ok-roots.ensures)

pub firsts-requires-clause-range : goal.firsts-requires-clause-range
firsts-requires-clause-range c =
    subst (λ r. InRange r) (sym c.deref-2.ensures.value) (whole_range c.args.stated.now c.requires c.facts-facts.result.now c.facts-facts.ensures.list c.facts-facts.ensures.below c.facts-facts.ensures.met c.facts-facts.ensures.once c.in_ok-roots.roots.items c.in_ok-roots.ensures)

pub has_value_node-requires-clause-range : goal.has_value_node-requires-clause-range
has_value_node-requires-clause-range c =
    subst (λ r. InRange r) (sym c.deref-4.ensures.value) (whole_range c.args.stated.now c.requires c.facts-facts.result.now c.facts-facts.ensures.list c.facts-facts.ensures.below c.facts-facts.ensures.met c.facts-facts.ensures.once c.in_ok-roots.roots.items c.in_ok-roots.ensures)

pub in_order-requires-clause-range : goal.in_order-requires-clause-range
in_order-requires-clause-range c =
    subst (λ r. InRange r) (sym c.deref-6.ensures.value) (whole_range c.args.stated.now c.requires c.facts-facts.result.now c.facts-facts.ensures.list c.facts-facts.ensures.below c.facts-facts.ensures.met c.facts-facts.ensures.once c.in_ok-roots.roots.items c.in_ok-roots.ensures)

pub places-requires-clause-range : goal.places-requires-clause-range
places-requires-clause-range c =
    subst (λ r. InRange r) (sym c.deref-9.ensures.value) (whole_range c.args.stated.now c.requires c.facts-facts.result.now c.facts-facts.ensures.list c.facts-facts.ensures.below c.facts-facts.ensures.met c.facts-facts.ensures.once c.in_ok-roots.roots.items c.in_ok-roots.ensures)

pub described-requires-clause-range : goal.described-requires-clause-range
described-requires-clause-range c =
    subst (λ r. InRange r) (sym c.deref-11.ensures.value) (whole_range c.args.stated.now c.requires c.facts-facts.result.now c.facts-facts.ensures.list c.facts-facts.ensures.below c.facts-facts.ensures.met c.facts-facts.ensures.once c.in_ok-roots.roots.items c.in_ok-roots.ensures)

pub relations-requires-clause-range : goal.relations-requires-clause-range
relations-requires-clause-range c =
    subst (λ r. InRange r) (sym c.deref-14.ensures.value) (whole_range c.args.stated.now c.requires c.facts-facts.result.now c.facts-facts.ensures.list c.facts-facts.ensures.below c.facts-facts.ensures.met c.facts-facts.ensures.once c.in_ok-roots.roots.items c.in_ok-roots.ensures)

pub relations-requires-clause-below : goal.relations-requires-clause-below
relations-requires-clause-below c =
    subst (λ r. Each (IsBelow (length r)) c.facts-facts.result.now) (sym c.deref-14.ensures.value) (whole_below c.args.stated.now c.requires c.facts-facts.result.now c.facts-facts.ensures.list c.facts-facts.ensures.below c.facts-facts.ensures.met c.facts-facts.ensures.once c.in_ok-roots.roots.items c.in_ok-roots.ensures)

pub returns-in_default-2 : goal.returns-in_default-2
returns-in_default-2 c =
    whole_two_colours c.args.stated.now c.requires c.facts-facts.result.now c.facts-facts.ensures.list c.facts-facts.ensures.below c.facts-facts.ensures.met c.facts-facts.ensures.once c.in_ok-roots.roots.items c.in_ok-roots.ensures
    (subst (λ r. HasTwoColours r (gathered colours_in c.facts-facts.result.now)) c.deref.ensures.value (none_case c.in_ok-colours.field-0 _ _ c.in_default-2.is c.in_ok-colours.ensures))

pub firsts-requires-clause-below : goal.firsts-requires-clause-below
firsts-requires-clause-below c =
    subst (λ r. Each (λ x. x < length r) c.deref-3.result.now) (sym c.deref-2.ensures.value) (subst (λ xs. Each (λ x. x < length c.in_ok-roots.roots.items) xs) (sym c.deref-3.ensures.value) (whole_standing_below c.args.stated.now c.requires c.facts-facts.result.now c.facts-facts.ensures.list c.facts-facts.ensures.below c.facts-facts.ensures.met c.facts-facts.ensures.once c.in_ok-roots.roots.items c.in_ok-roots.ensures c.in_ok-standing.standing.items c.in_ok-standing.ensures))

pub returns-then-has_value_node : goal.returns-then-has_value_node
returns-then-has_value_node c =
    let firsts : AreFirstOnes c.in_ok-roots.roots.items [] c.in_ok-standing.standing.items c.in_ok-firsts.firsts.nodes.items =
    subst (λ r. AreFirstOnes r [] c.in_ok-standing.standing.items c.in_ok-firsts.firsts.nodes.items) c.deref-2.ensures.value (subst (λ xs. AreFirstOnes c.deref-2.result.now [] xs c.in_ok-firsts.firsts.nodes.items) c.deref-3.ensures.value c.in_ok-firsts.ensures.nodes)
    in
    let marked : AreMarked c.in_ok-roots.roots.items c.in_ok-standing.standing.items c.in_ok-firsts.firsts.stands.items =
    subst (λ r. AreMarked r c.in_ok-standing.standing.items c.in_ok-firsts.firsts.stands.items) c.deref-2.ensures.value (subst (λ xs. AreMarked c.deref-2.result.now xs c.in_ok-firsts.firsts.stands.items) c.deref-3.ensures.value c.in_ok-firsts.ensures.stands)
    in
    whole_value_node c.args.stated.now c.requires c.facts-facts.result.now c.facts-facts.ensures.list c.facts-facts.ensures.below c.facts-facts.ensures.met c.facts-facts.ensures.once c.in_ok-roots.roots.items c.in_ok-roots.ensures c.in_ok-standing.standing.items c.in_ok-standing.ensures c.in_ok-firsts.firsts.stands.items marked
    (subst (λ r. HasMarked r c.in_ok-firsts.firsts.stands.items (gathered values_in c.facts-facts.result.now)) c.deref-4.ensures.value (subst (λ m. HasMarked c.deref-4.result.now m (gathered values_in c.facts-facts.result.now)) c.deref-5.ensures.value (c.if-has_value_node.ensures.0 refl)))

pub in_order-requires-clause-below : goal.in_order-requires-clause-below
in_order-requires-clause-below c =
    let colours : AreColours c.in_ok-roots.roots.items (gathered colours_in c.facts-facts.result.now) c.in-Some-2.colours.items =
    subst (λ r. AreColours r (gathered colours_in c.facts-facts.result.now) c.in-Some-2.colours.items) c.deref.ensures.value (some_case c.in_ok-colours.field-0 c.in-Some-2.colours _ _ c.in-Some-2.is c.in_ok-colours.ensures)
    in
    let firsts : AreFirstOnes c.in_ok-roots.roots.items [] c.in_ok-standing.standing.items c.in_ok-firsts.firsts.nodes.items =
    subst (λ r. AreFirstOnes r [] c.in_ok-standing.standing.items c.in_ok-firsts.firsts.nodes.items) c.deref-2.ensures.value (subst (λ xs. AreFirstOnes c.deref-2.result.now [] xs c.in_ok-firsts.firsts.nodes.items) c.deref-3.ensures.value c.in_ok-firsts.ensures.nodes)
    in
    let marked : AreMarked c.in_ok-roots.roots.items c.in_ok-standing.standing.items c.in_ok-firsts.firsts.stands.items =
    subst (λ r. AreMarked r c.in_ok-standing.standing.items c.in_ok-firsts.firsts.stands.items) c.deref-2.ensures.value (subst (λ xs. AreMarked c.deref-2.result.now xs c.in_ok-firsts.firsts.stands.items) c.deref-3.ensures.value c.in_ok-firsts.ensures.stands)
    in
    subst (λ r. Each (λ x. x < length r) c.deref-8.result.now) (sym c.deref-6.ensures.value) (subst (λ xs. Each (λ x. x < length c.in_ok-roots.roots.items) xs) (sym c.deref-8.ensures.value) (whole_firsts_below c.args.stated.now c.requires c.facts-facts.result.now c.facts-facts.ensures.list c.facts-facts.ensures.below c.facts-facts.ensures.met c.facts-facts.ensures.once c.in_ok-roots.roots.items c.in_ok-roots.ensures c.in_ok-standing.standing.items c.in_ok-standing.ensures c.in-Some-2.colours.items colours c.in_ok-firsts.firsts.nodes.items firsts))

pub places-requires-clause-below : goal.places-requires-clause-below
places-requires-clause-below c =
    let colours : AreColours c.in_ok-roots.roots.items (gathered colours_in c.facts-facts.result.now) c.in-Some-2.colours.items =
    subst (λ r. AreColours r (gathered colours_in c.facts-facts.result.now) c.in-Some-2.colours.items) c.deref.ensures.value (some_case c.in_ok-colours.field-0 c.in-Some-2.colours _ _ c.in-Some-2.is c.in_ok-colours.ensures)
    in
    let firsts : AreFirstOnes c.in_ok-roots.roots.items [] c.in_ok-standing.standing.items c.in_ok-firsts.firsts.nodes.items =
    subst (λ r. AreFirstOnes r [] c.in_ok-standing.standing.items c.in_ok-firsts.firsts.nodes.items) c.deref-2.ensures.value (subst (λ xs. AreFirstOnes c.deref-2.result.now [] xs c.in_ok-firsts.firsts.nodes.items) c.deref-3.ensures.value c.in_ok-firsts.ensures.nodes)
    in
    let marked : AreMarked c.in_ok-roots.roots.items c.in_ok-standing.standing.items c.in_ok-firsts.firsts.stands.items =
    subst (λ r. AreMarked r c.in_ok-standing.standing.items c.in_ok-firsts.firsts.stands.items) c.deref-2.ensures.value (subst (λ xs. AreMarked c.deref-2.result.now xs c.in_ok-firsts.firsts.stands.items) c.deref-3.ensures.value c.in_ok-firsts.ensures.stands)
    in
    let order : InOrder c.in_ok-roots.roots.items c.in-Some-2.colours.items c.in_ok-firsts.firsts.nodes.items c.in_ok-nodes.nodes.items =
    subst (λ r. InOrder r c.in-Some-2.colours.items c.in_ok-firsts.firsts.nodes.items c.in_ok-nodes.nodes.items) c.deref-6.ensures.value
    (subst (λ t. InOrder c.deref-6.result.now t c.in_ok-firsts.firsts.nodes.items c.in_ok-nodes.nodes.items) c.deref-7.ensures.value
    (subst (λ f. InOrder c.deref-6.result.now c.deref-7.result.now f c.in_ok-nodes.nodes.items) c.deref-8.ensures.value c.in_ok-nodes.ensures))
    in
    subst (λ r. Each (λ x. x < length r) c.deref-10.result.now) (sym c.deref-9.ensures.value) (subst (λ xs. Each (λ x. x < length c.in_ok-roots.roots.items) xs) (sym c.deref-10.ensures.value) (whole_nodes_below c.args.stated.now c.requires c.facts-facts.result.now c.facts-facts.ensures.list c.facts-facts.ensures.below c.facts-facts.ensures.met c.facts-facts.ensures.once c.in_ok-roots.roots.items c.in_ok-roots.ensures c.in_ok-standing.standing.items c.in_ok-standing.ensures c.in-Some-2.colours.items colours c.in_ok-firsts.firsts.nodes.items firsts c.in_ok-nodes.nodes.items order))

pub described-requires-clause-below : goal.described-requires-clause-below
described-requires-clause-below c =
    let colours : AreColours c.in_ok-roots.roots.items (gathered colours_in c.facts-facts.result.now) c.in-Some-2.colours.items =
    subst (λ r. AreColours r (gathered colours_in c.facts-facts.result.now) c.in-Some-2.colours.items) c.deref.ensures.value (some_case c.in_ok-colours.field-0 c.in-Some-2.colours _ _ c.in-Some-2.is c.in_ok-colours.ensures)
    in
    let firsts : AreFirstOnes c.in_ok-roots.roots.items [] c.in_ok-standing.standing.items c.in_ok-firsts.firsts.nodes.items =
    subst (λ r. AreFirstOnes r [] c.in_ok-standing.standing.items c.in_ok-firsts.firsts.nodes.items) c.deref-2.ensures.value (subst (λ xs. AreFirstOnes c.deref-2.result.now [] xs c.in_ok-firsts.firsts.nodes.items) c.deref-3.ensures.value c.in_ok-firsts.ensures.nodes)
    in
    let marked : AreMarked c.in_ok-roots.roots.items c.in_ok-standing.standing.items c.in_ok-firsts.firsts.stands.items =
    subst (λ r. AreMarked r c.in_ok-standing.standing.items c.in_ok-firsts.firsts.stands.items) c.deref-2.ensures.value (subst (λ xs. AreMarked c.deref-2.result.now xs c.in_ok-firsts.firsts.stands.items) c.deref-3.ensures.value c.in_ok-firsts.ensures.stands)
    in
    let order : InOrder c.in_ok-roots.roots.items c.in-Some-2.colours.items c.in_ok-firsts.firsts.nodes.items c.in_ok-nodes.nodes.items =
    subst (λ r. InOrder r c.in-Some-2.colours.items c.in_ok-firsts.firsts.nodes.items c.in_ok-nodes.nodes.items) c.deref-6.ensures.value
    (subst (λ t. InOrder c.deref-6.result.now t c.in_ok-firsts.firsts.nodes.items c.in_ok-nodes.nodes.items) c.deref-7.ensures.value
    (subst (λ f. InOrder c.deref-6.result.now c.deref-7.result.now f c.in_ok-nodes.nodes.items) c.deref-8.ensures.value c.in_ok-nodes.ensures))
    in
    subst (λ r. Each (λ x. x < length r) c.deref-13.result.now) (sym c.deref-11.ensures.value) (subst (λ xs. Each (λ x. x < length c.in_ok-roots.roots.items) xs) (sym c.deref-13.ensures.value) (whole_nodes_below c.args.stated.now c.requires c.facts-facts.result.now c.facts-facts.ensures.list c.facts-facts.ensures.below c.facts-facts.ensures.met c.facts-facts.ensures.once c.in_ok-roots.roots.items c.in_ok-roots.ensures c.in_ok-standing.standing.items c.in_ok-standing.ensures c.in-Some-2.colours.items colours c.in_ok-firsts.firsts.nodes.items firsts c.in_ok-nodes.nodes.items order))

pub returns : goal.returns
returns c =
    let colours : AreColours c.in_ok-roots.roots.items (gathered colours_in c.facts-facts.result.now) c.in-Some-2.colours.items =
    subst (λ r. AreColours r (gathered colours_in c.facts-facts.result.now) c.in-Some-2.colours.items) c.deref.ensures.value (some_case c.in_ok-colours.field-0 c.in-Some-2.colours _ _ c.in-Some-2.is c.in_ok-colours.ensures)
    in
    let firsts : AreFirstOnes c.in_ok-roots.roots.items [] c.in_ok-standing.standing.items c.in_ok-firsts.firsts.nodes.items =
    subst (λ r. AreFirstOnes r [] c.in_ok-standing.standing.items c.in_ok-firsts.firsts.nodes.items) c.deref-2.ensures.value (subst (λ xs. AreFirstOnes c.deref-2.result.now [] xs c.in_ok-firsts.firsts.nodes.items) c.deref-3.ensures.value c.in_ok-firsts.ensures.nodes)
    in
    let marked : AreMarked c.in_ok-roots.roots.items c.in_ok-standing.standing.items c.in_ok-firsts.firsts.stands.items =
    subst (λ r. AreMarked r c.in_ok-standing.standing.items c.in_ok-firsts.firsts.stands.items) c.deref-2.ensures.value (subst (λ xs. AreMarked c.deref-2.result.now xs c.in_ok-firsts.firsts.stands.items) c.deref-3.ensures.value c.in_ok-firsts.ensures.stands)
    in
    let order : InOrder c.in_ok-roots.roots.items c.in-Some-2.colours.items c.in_ok-firsts.firsts.nodes.items c.in_ok-nodes.nodes.items =
    subst (λ r. InOrder r c.in-Some-2.colours.items c.in_ok-firsts.firsts.nodes.items c.in_ok-nodes.nodes.items) c.deref-6.ensures.value
    (subst (λ t. InOrder c.deref-6.result.now t c.in_ok-firsts.firsts.nodes.items c.in_ok-nodes.nodes.items) c.deref-7.ensures.value
    (subst (λ f. InOrder c.deref-6.result.now c.deref-7.result.now f c.in_ok-nodes.nodes.items) c.deref-8.ensures.value c.in_ok-nodes.ensures))
    in
    let places : ArePlaces c.in_ok-roots.roots.items c.in_ok-nodes.nodes.items c.in_ok-places.places.items =
    subst (λ r. ArePlaces r c.in_ok-nodes.nodes.items c.in_ok-places.places.items) c.deref-9.ensures.value (subst (λ xs. ArePlaces c.deref-9.result.now xs c.in_ok-places.places.items) c.deref-10.ensures.value c.in_ok-places.ensures)
    in
    let none : HasMarked c.in_ok-roots.roots.items c.in_ok-firsts.firsts.stands.items (gathered values_in c.facts-facts.result.now) → ⊥ =
    λ m. false_is_no_true (c.if-has_value_node.ensures.1 (subst (λ r. HasMarked r c.deref-5.result.now (gathered values_in c.facts-facts.result.now)) (sym c.deref-4.ensures.value) (subst (λ t. HasMarked c.in_ok-roots.roots.items t (gathered values_in c.facts-facts.result.now)) (sym c.deref-5.ensures.value) m)))
    in
    whole_description c.args.stated.now c.requires c.facts-facts.result.now c.facts-facts.ensures.list c.facts-facts.ensures.below c.facts-facts.ensures.met c.facts-facts.ensures.once c.in_ok-roots.roots.items c.in_ok-roots.ensures c.in_ok-standing.standing.items c.in_ok-standing.ensures c.in-Some-2.colours.items colours c.in_ok-firsts.firsts.nodes.items firsts c.in_ok-nodes.nodes.items order c.in_ok-places.places.items places c.in_ok-firsts.firsts.stands.items marked none c.in-Some.network.now c.in-Some.ensures.0 c.in-Some.ensures.1
    _ c.variables-vars.ensures.count (ap (λ n. 3 * n + 1) c.variables-vars.ensures.count)
    (c.in_ok-described.ensures ∙ ap₂ (λ r t. map (node_at r t) c.deref-13.result.now) c.deref-11.ensures.value c.deref-12.ensures.value ∙ ap (λ xs. map (node_at c.in_ok-roots.roots.items c.in-Some-2.colours.items) xs) c.deref-13.ensures.value)
    (c.in_ok-relations.ensures ∙ ap₂ (λ r t. map (relation_at r t) (gathered relations_in c.facts-facts.result.now)) c.deref-14.ensures.value c.deref-15.ensures.value)
    c.in_ok-copied.ensures refl c.in_ok-literals.ensures
