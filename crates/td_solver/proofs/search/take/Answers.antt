use Rattle.std.proofs.Common.{◌≡◌, ℕ, ◌+◌, ◌<◌, List, length, subst, sym, refl, arith, Bool, true, false}
use Rattle.gr_base.specs.Forests.{Forest}
use Rattle.gr_store.proofs.Growth.{Grows-refl}
use Rattle.td_desc.specs.Descriptions.{description_of}
use Rattle.td_forest.specs.Names.{IsNamedStep}
use Rattle.td_forest.specs.Nodes.{IsForestOf}
use Rattle.td_forest.specs.Steps.{forest_of, after_step}
use Rattle.td_forest.specs.Without.{without}
use Rattle.td_colour.specs.Colours.{IsAllowed}
use Rattle.td_colour.specs.Models.{AllHold, IsForestModel}
use Rattle.td_solver.specs.Turns.{Keeps}
use Rattle.td_solver.proofs.Advancing.{can_make, made_forest}
use Rattle.td_solver.proofs.Choosing.{candidate_named, candidate_allowed}
use Rattle.td_solver.proofs.Taking.{forest_later, hold_before, model_later, later_hold, insert_agrees, insert_kept, merge_low, merge_agrees, merge_kept, slots_made}
use Rattle.td_solver.proofs.search.take.Goals as goal

pub make-requires : goal.make-requires
make-requires c =
    let dd = c.args.task.now.d.now in
    let d = description_of dd in
    let m = c.args.node in
    let s = c.args.step in
    let F = forest_of c.args.state.now.forest in
    let low : m < length dd.nodes = subst (λ (k : ℕ). m < k) c.requires.task.count c.requires.low in
    let named : IsNamedStep F s = candidate_named dd m low F s c.requires.candidate in
    let a = c.requires.low in
    let b = c.requires.task.few in
    can_make m F s (omega arith) c.requires.model.nodes named

pub all_hold-requires-clause-forest : goal.all_hold-requires-clause-forest
all_hold-requires-clause-forest c =
    let dd = c.args.task.now.d.now in
    let d = description_of dd in
    let m = c.args.node in
    let s = c.args.step in
    let F = forest_of c.args.state.now.forest in
    let low : m < length dd.nodes = subst (λ (k : ℕ). m < k) c.requires.task.count c.requires.low in
    let named : IsNamedStep F s = candidate_named dd m low F s c.requires.candidate in
    let is : forest_of c.make.new.forest ≡ after_step m s F = made_forest c.args.state.now.forest c.make.new.forest m s c.make.ensures in
    subst (λ (G : Forest (List ℕ)). IsForestOf (m + 1) G) (sym is) (forest_later d m F c.requires.model s named)

pub all_hold-requires-clause-before : goal.all_hold-requires-clause-before
all_hold-requires-clause-before c =
    let dd = c.args.task.now.d.now in
    let d = description_of dd in
    let m = c.args.node in
    let s = c.args.step in
    let F = forest_of c.args.state.now.forest in
    let low : m < length dd.nodes = subst (λ (k : ℕ). m < k) c.requires.task.count c.requires.low in
    let named : IsNamedStep F s = candidate_named dd m low F s c.requires.candidate in
    let is : forest_of c.make.new.forest ≡ after_step m s F = made_forest c.args.state.now.forest c.make.new.forest m s c.make.ensures in
    subst (λ (G : Forest (List ℕ)). AllHold dd.relations m (without m G)) (sym is) (hold_before d m F c.requires.model s named)

pub returns-then-not-all_hold-clause-bad : goal.returns-then-not-all_hold-clause-bad
returns-then-not-all_hold-clause-bad c h =
    let dd = c.args.task.now.d.now in
    let d = description_of dd in
    let m = c.args.node in
    let s = c.args.step in
    let F = forest_of c.args.state.now.forest in
    let low : m < length dd.nodes = subst (λ (k : ℕ). m < k) c.requires.task.count c.requires.low in
    let named : IsNamedStep F s = candidate_named dd m low F s c.requires.candidate in
    let is : forest_of c.make.new.forest ≡ after_step m s F = made_forest c.args.state.now.forest c.make.new.forest m s c.make.ensures in
    let e : ◌≡◌ {A = Bool} false true = c.if-not-all_hold.ensures.1 (subst (λ (G : Forest (List ℕ)). AllHold dd.relations (m + 1) G) (sym is) (later_hold d m F c.requires.model s named h)) in
    cc

pub node-requires-clause-node : goal.node-requires-clause-node
node-requires-clause-node c =
    let dd = c.args.task.now.d.now in
    let d = description_of dd in
    let m = c.args.node in
    let s = c.args.step in
    let F = forest_of c.args.state.now.forest in
    let low : m < length dd.nodes = subst (λ (k : ℕ). m < k) c.requires.task.count c.requires.low in
    let named : IsNamedStep F s = candidate_named dd m low F s c.requires.candidate in
    let a : c.in-Merge.at < m = merge_low dd m F c.requires.model low s c.in-Merge.at c.in-Merge.is named in
    let b = c.requires.low in
    omega arith

pub link_nodes-requires-clause-one_made : goal.link_nodes-requires-clause-one_made
link_nodes-requires-clause-one_made c =
    slots_made c.args.task.now.d.now c.args.state.now.store.slots c.in-Merge.at c.node.result.now c.requires.keeps.slots c.requires.task.numbered c.node.ensures

pub link_nodes-requires-clause-other_made : goal.link_nodes-requires-clause-other_made
link_nodes-requires-clause-other_made c =
    slots_made c.args.task.now.d.now c.args.state.now.store.slots c.args.node c.node-in-Merge.result.now c.requires.keeps.slots c.requires.task.numbered c.node-in-Merge.ensures

pub returns-then-link_nodes-clause-taken : goal.returns-then-link_nodes-clause-taken
returns-then-link_nodes-clause-taken c =
    let dd = c.args.task.now.d.now in
    let d = description_of dd in
    let m = c.args.node in
    let s = c.args.step in
    let F = forest_of c.args.state.now.forest in
    let low : m < length dd.nodes = subst (λ (k : ℕ). m < k) c.requires.task.count c.requires.low in
    let named : IsNamedStep F s = candidate_named dd m low F s c.requires.candidate in
    let is : forest_of c.make.new.forest ≡ after_step m s F = made_forest c.args.state.now.forest c.make.new.forest m s c.make.ensures in
    let allowed : IsAllowed d.nodes (after_step m s F) m = candidate_allowed dd m low F s c.requires.task.first c.requires.task.last c.requires.model c.requires.candidate in
    let hold : AllHold dd.relations (m + 1) (after_step m s F) = subst (λ (G : Forest (List ℕ)). AllHold dd.relations (m + 1) G) is (c.if-not-all_hold.ensures.0 refl) in
    record {
      forest = c.make.ensures;
      model = subst (λ (G : Forest (List ℕ)). IsForestModel d (m + 1) G) (sym is) (model_later d m F c.requires.model s named allowed hold
          ((merge_agrees dd m F c.requires.model low s c.in-Merge.at c.in-Merge.is named c.node.result.now c.node-in-Merge.result.now c.node.ensures c.node-in-Merge.ensures c.args.state.now.store c.requires.keeps).0
          (c.if-link_nodes.ensures.agrees.0 refl)));
      keeps = subst (λ (G : Forest (List ℕ)). Keeps dd (m + 1) G c.link_nodes.new.store) (sym is)
          (merge_kept dd m F c.requires.model low s c.in-Merge.at c.in-Merge.is named c.node.result.now c.node-in-Merge.result.now c.node.ensures c.node-in-Merge.ensures c.args.state.now.store c.requires.keeps
          c.link_nodes.new.store c.if-link_nodes.ensures.linked);
      grows = c.if-link_nodes.ensures.grows;
      steps = refl;
    }

pub returns-in-Insert-clause-taken : goal.returns-in-Insert-clause-taken
returns-in-Insert-clause-taken c =
    let dd = c.args.task.now.d.now in
    let d = description_of dd in
    let m = c.args.node in
    let s = c.args.step in
    let F = forest_of c.args.state.now.forest in
    let low : m < length dd.nodes = subst (λ (k : ℕ). m < k) c.requires.task.count c.requires.low in
    let named : IsNamedStep F s = candidate_named dd m low F s c.requires.candidate in
    let is : forest_of c.make.new.forest ≡ after_step m s F = made_forest c.args.state.now.forest c.make.new.forest m s c.make.ensures in
    let allowed : IsAllowed d.nodes (after_step m s F) m = candidate_allowed dd m low F s c.requires.task.first c.requires.task.last c.requires.model c.requires.candidate in
    let hold : AllHold dd.relations (m + 1) (after_step m s F) = subst (λ (G : Forest (List ℕ)). AllHold dd.relations (m + 1) G) is (c.if-not-all_hold.ensures.0 refl) in
    record {
      forest = c.make.ensures;
      model = subst (λ (G : Forest (List ℕ)). IsForestModel d (m + 1) G) (sym is) (model_later d m F c.requires.model s named allowed hold (insert_agrees dd m F c.requires.model low s c.in-Insert.is named));
      keeps = subst (λ (G : Forest (List ℕ)). Keeps dd (m + 1) G c.args.state.now.store) (sym is) (insert_kept dd m F c.requires.model low s c.in-Insert.is named c.args.state.now.store c.requires.keeps);
      grows = Grows-refl c.args.state.now.store;
      steps = refl;
    }

pub returns-else-link_nodes-clause-bad : goal.returns-else-link_nodes-clause-bad
returns-else-link_nodes-clause-bad c h =
    let dd = c.args.task.now.d.now in
    let d = description_of dd in
    let m = c.args.node in
    let s = c.args.step in
    let F = forest_of c.args.state.now.forest in
    let low : m < length dd.nodes = subst (λ (k : ℕ). m < k) c.requires.task.count c.requires.low in
    let named : IsNamedStep F s = candidate_named dd m low F s c.requires.candidate in
    let e : ◌≡◌ {A = Bool} false true = c.if-link_nodes.ensures.agrees.1
    ((merge_agrees dd m F c.requires.model low s c.in-Merge.at c.in-Merge.is named c.node.result.now c.node-in-Merge.result.now c.node.ensures c.node-in-Merge.ensures c.args.state.now.store c.requires.keeps).1 h.network) in
    cc
