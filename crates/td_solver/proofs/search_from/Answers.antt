use Rattle.std.proofs.Common.{◌≡◌, ℕ, ◌+◌, ◌-◌, ◌<◌, List, length, subst, sym}
use Rattle.gr_base.proofs.Results.{IfOk-weaker}
use Rattle.gr_terms.specs.Networks.{Agrees}
use Rattle.td_canon.specs.CanonicalTexts.{text_in}
use Rattle.td_desc.specs.declared.Description.{Description}
use Rattle.td_desc.specs.Descriptions.{description_of}
use Rattle.td_forest.specs.declared.Made.{Made}
use Rattle.td_forest.specs.Steps.{forest_of}
use Rattle.td_colour.specs.Models.{IsForestModel}
use Rattle.td_solver.specs.declared.Solved.{Solved}
use Rattle.td_solver.specs.declared.Solved.TheVariants.{All, Cut}
use Rattle.td_solver.specs.Solutions.{IsModelTotal, GainsAll}
use Rattle.td_solver.specs.Turns.{IsSpent, HasAllBelow}
use Rattle.td_solver.proofs.Solving.{empty_model, all_of, spent_of, cut_of}
use Rattle.td_solver.proofs.search_from.Goals as goal

pub explore-requires-clause-model : goal.explore-requires-clause-model
explore-requires-clause-model c =
    let t = c.in_ok-task.task in
    let k = c.in_ok-task.ensures.task in
    let e = c.in_ok-task.ensures.of in
    let agrees : Agrees (description_of t.d.now).network = subst (λ (x : Description). Agrees (description_of x).network) (sym e) c.requires.loaded.agrees in
    subst (λ (ms : List Made). IsForestModel (description_of t.d.now) 0 (forest_of ms)) (sym c.new-forest.ensures) (empty_model (description_of t.d.now) agrees)

pub returns-clause-all : goal.returns-clause-all
returns-clause-all c =
    let t = c.in_ok-task.task in
    let k = c.in_ok-task.ensures.task in
    let e = c.in_ok-task.ensures.of in
    let agrees : Agrees (description_of t.d.now).network = subst (λ (x : Description). Agrees (description_of x).network) (sym e) c.requires.loaded.agrees in
    IfOk-weaker (λ (s : Solved). s ≡ All → HasAllBelow (text_in t.symbols.now) (description_of t.d.now) (t.count - 0) 0 (forest_of c.new-forest.result) c.explore.new.out)
    (λ (s : Solved). s ≡ All → GainsAll c.args.symbols.now (description_of c.args.d.now) c.args.out.now c.explore.new.out) c.explore.result
    (λ s h q.
    subst (λ (x : List (List ℕ)). GainsAll x (description_of c.args.d.now) c.args.out.now c.explore.new.out) c.in_ok-task.ensures.texts
    (subst (λ (x : Description). GainsAll t.symbols.now (description_of x) c.args.out.now c.explore.new.out) e
    (all_of t.d.now t.symbols.now k.distinct k.named t.count k.count k.first agrees c.args.out.now c.explore.new.out c.explore.ensures.some
    (subst (λ (ms : List Made). HasAllBelow (text_in t.symbols.now) (description_of t.d.now) (t.count - 0) 0 (forest_of ms) c.explore.new.out) c.new-forest.ensures (h q)))))
    c.explore.ensures.all

pub returns-clause-spent : goal.returns-clause-spent
returns-clause-spent c =
    let t = c.in_ok-task.task in
    let k = c.in_ok-task.ensures.task in
    let e = c.in_ok-task.ensures.of in
    let agrees : Agrees (description_of t.d.now).network = subst (λ (x : Description). Agrees (description_of x).network) (sym e) c.requires.loaded.agrees in
    IfOk-weaker (λ (s : Solved). IsSpent (description_of t.d.now) (t.count - 0) 0 (forest_of c.new-forest.result) c.args.budget.now.left c.explore.new.budget.left s)
    (λ (s : Solved). s ≡ All → (total : ℕ) → IsModelTotal (description_of c.args.d.now) (length c.args.d.now.nodes) total → c.args.budget.now.left ≡ c.explore.new.budget.left + total) c.explore.result
    (λ s h q total count.
    spent_of t.d.now t.symbols.now k.distinct k.named t.count k.count k.first agrees c.args.budget.now.left c.explore.new.budget.left
    (subst (λ (ms : List Made). IsSpent (description_of t.d.now) (t.count - 0) 0 (forest_of ms) c.args.budget.now.left c.explore.new.budget.left All) c.new-forest.ensures
    (subst (λ (r : Solved). IsSpent (description_of t.d.now) (t.count - 0) 0 (forest_of c.new-forest.result) c.args.budget.now.left c.explore.new.budget.left r) q h))
    total (subst (λ (x : Description). IsModelTotal (description_of x) (length x.nodes) total) (sym e) count))
    c.explore.ensures.spent

pub returns-clause-cut : goal.returns-clause-cut
returns-clause-cut c =
    let t = c.in_ok-task.task in
    let k = c.in_ok-task.ensures.task in
    let e = c.in_ok-task.ensures.of in
    let agrees : Agrees (description_of t.d.now).network = subst (λ (x : Description). Agrees (description_of x).network) (sym e) c.requires.loaded.agrees in
    IfOk-weaker (λ (s : Solved). IsSpent (description_of t.d.now) (t.count - 0) 0 (forest_of c.new-forest.result) c.args.budget.now.left c.explore.new.budget.left s)
    (λ (s : Solved). s ≡ Cut → (total : ℕ) → IsModelTotal (description_of c.args.d.now) (length c.args.d.now.nodes) total → c.args.budget.now.left < total) c.explore.result
    (λ s h q total count.
    cut_of t.d.now t.symbols.now k.distinct k.named t.count k.count k.first agrees c.args.budget.now.left c.explore.new.budget.left
    (subst (λ (ms : List Made). IsSpent (description_of t.d.now) (t.count - 0) 0 (forest_of ms) c.args.budget.now.left c.explore.new.budget.left Cut) c.new-forest.ensures
    (subst (λ (r : Solved). IsSpent (description_of t.d.now) (t.count - 0) 0 (forest_of c.new-forest.result) c.args.budget.now.left c.explore.new.budget.left r) q h))
    total (subst (λ (x : Description). IsModelTotal (description_of x) (length x.nodes) total) (sym e) count))
    c.explore.ensures.spent
