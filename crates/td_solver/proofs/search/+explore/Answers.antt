use Rattle.std.proofs.Common.{◌≡◌, ℕ, ◌+◌, ◌-◌, ◌<◌, ◌≤◌, List, length, drop, get_or, subst, ap, ◌∙◌, arith, Bool, true, false}
use Rattle.gr_base.specs.Lists.{IsAmong, IsListing}
use Rattle.gr_base.specs.Forests.{Forest}
use Rattle.gr_base.proofs.ListLemmas.{Each-at}
use Rattle.gr_text.specs.declared.budget.Budget.{Budget}
use Rattle.td_canon.specs.CanonicalTexts.{text_in}
use Rattle.td_desc.specs.Descriptions.{description_of}
use Rattle.td_forest.specs.declared.Step.{Step}
use Rattle.td_forest.specs.Steps.{forest_of}
use Rattle.td_solver.specs.declared.Solved.TheVariants.{Cut, All}
use Rattle.td_solver.specs.declared.search.State.{State}
use Rattle.td_solver.specs.Candidates.{IsEnough}
use Rattle.td_solver.specs.Choices.{Suffices}
use Rattle.td_solver.specs.Tasks.{IsCandidateOf}
use Rattle.td_solver.specs.Turns.{IsRestored, HasAllBelow}
use Rattle.td_solver.proofs.Choosing.{suffices}
use Rattle.td_solver.proofs.Listed.{chosen_pushed}
use Rattle.td_solver.proofs.Exploring.{restored_both, left_zero, candidate_here, bad_here, model_then, spent_then, forest_then, forest_back, store_back, steps_back, earlier_back}
use Rattle.td_solver.proofs.Looping.{reached_all, step_is, reached_skip, reached_more, reached_cut, reached_none_left}
use Rattle.td_solver.proofs.Turning.{below_end, pushed_behind, gains_both}
use Rattle.td_solver.proofs.search.+explore.Goals.{then-take+else-not-spend+in_ok-explore+in-All, else-take}
use Rattle.td_solver.proofs.search.+explore.Goals as goal

pub returns-then-node-task-clause-all : goal.returns-then-node-task-clause-all
returns-then-node-task-clause-all t c e =
    let same = c.if-node-task.true in
    below_end (text_in c.args.task.now.symbols.now) (description_of c.args.task.now.d.now) c.args.node (forest_of c.args.state.now.forest) (c.args.task.now.count - c.args.node) c.add_tree.new.out (omega arith)
    c.in_ok-add_tree.ensures.has

pub take-requires-clause-candidate : goal.take-requires-clause-candidate
take-requires-clause-candidate t c =
    let text = text_in c.args.task.now.symbols.now in
    let dd = c.args.task.now.d.now in
    let d = description_of dd in
    let m = c.args.node in
    let n = c.args.task.now.count in
    let I : State = record { forest = c.args.state.now.forest; store = c.args.state.now.store; steps = c.add_candidates.new.all } in
    let F = forest_of c.args.state.now.forest in
    let chosen : IsEnough d m F (IsCandidateOf dd m F) c.args.state.now.steps.items c.add_candidates.new.all.items = c.in_ok-add_candidates.ensures in
    let P : Step → Type 0 = IsAmong chosen.more in
    let within = c.requires.within in
    let ne = c.if-node-task.false in
    let less : m < n = omega arith in
    let low : m < length dd.nodes = subst (λ (k : ℕ). m < k) c.requires.task.count less in
    let suff : Suffices d m F P = suffices dd m low F c.args.state.now.steps.items c.add_candidates.new.all.items c.requires.task.first c.requires.task.last c.requires.model chosen in
    let st : c.len-start.result ≡ length c.args.state.now.steps.items = c.len-start.ensures ∙ c.args.state.now.steps.ok.0 in
    let l : IsListing P (drop c.len-start.result I.steps.items) = pushed_behind P c.args.state.now.steps.items c.add_candidates.new.all.items c.len-start.result st (chosen_pushed d m F (IsCandidateOf dd m F) c.args.state.now.steps.items c.add_candidates.new.all.items chosen) in
    let le : c.len-end.result ≡ length c.add_candidates.new.all.items = c.len-end.ensures ∙ c.add_candidates.new.all.ok.0 in
    let s : Step = c.index-step.result.now in
    let lt : c.loop-at.at < length I.steps.items = omega arith in
    let s_is : s ≡ get_or I.steps.items c.loop-at.at s = c.index-step.ensures ∙ ap (λ (xs : List Step). get_or xs c.loop-at.at s) c.loop-at.invariant.same.steps in
    let one : IsAmong chosen.more s = step_is text d m n less I c.requires.model.nodes P suff c.len-start.result l c.loop-at.at c.loop-at.auto.at lt s s s_is in
    candidate_here dd m s I c.loop-at.state c.loop-at.invariant.same (Each-at (IsCandidateOf dd m F) chosen.more s chosen.only one)

pub returns-then-not-spend-clause-spent : goal.returns-then-not-spend-clause-spent
returns-then-not-spend-clause-spent t c =
    let text = text_in c.args.task.now.symbols.now in
    let dd = c.args.task.now.d.now in
    let d = description_of dd in
    let m = c.args.node in
    let n = c.args.task.now.count in
    let I : State = record { forest = c.args.state.now.forest; store = c.args.state.now.store; steps = c.add_candidates.new.all } in
    let F = forest_of c.args.state.now.forest in
    let chosen : IsEnough d m F (IsCandidateOf dd m F) c.args.state.now.steps.items c.add_candidates.new.all.items = c.in_ok-add_candidates.ensures in
    let P : Step → Type 0 = IsAmong chosen.more in
    let within = c.requires.within in
    let ne = c.if-node-task.false in
    let less : m < n = omega arith in
    let low : m < length dd.nodes = subst (λ (k : ℕ). m < k) c.requires.task.count less in
    let suff : Suffices d m F P = suffices dd m low F c.args.state.now.steps.items c.add_candidates.new.all.items c.requires.task.first c.requires.task.last c.requires.model chosen in
    let st : c.len-start.result ≡ length c.args.state.now.steps.items = c.len-start.ensures ∙ c.args.state.now.steps.ok.0 in
    let l : IsListing P (drop c.len-start.result I.steps.items) = pushed_behind P c.args.state.now.steps.items c.add_candidates.new.all.items c.len-start.result st (chosen_pushed d m F (IsCandidateOf dd m F) c.args.state.now.steps.items c.add_candidates.new.all.items chosen) in
    let le : c.len-end.result ≡ length c.add_candidates.new.all.items = c.len-end.ensures ∙ c.add_candidates.new.all.ok.0 in
    let s : Step = c.index-step.result.now in
    let lt : c.loop-at.at < length I.steps.items = omega arith in
    let s_is : s ≡ get_or I.steps.items c.loop-at.at s = c.index-step.ensures ∙ ap (λ (xs : List Step). get_or xs c.loop-at.at s) c.loop-at.invariant.same.steps in
    let zero : c.loop-at.budget.left ≡ 0 = left_zero c.loop-at.budget.left (λ some. let f : ◌≡◌ {A = Bool} false true = c.if-not-spend.ensures.some.1 some in cc) in
    reached_none_left text d m n less I c.requires.model.nodes P suff c.len-start.result l c.loop-at.at c.loop-at.auto.at lt s s s_is
    (model_then dd m s I c.loop-at.state c.loop-at.invariant.same c.take.new.state c.if-take.ensures.taken) c.args.budget.now.left c.loop-at.budget.left 0 c.spend.new.self.left c.loop-at.out c.loop-at.invariant.runs zero
    (ap (λ (b : Budget). b.left) c.if-not-spend.ensures.none)

pub returns-in-Cut-clause-spent : goal.returns-in-Cut-clause-spent
returns-in-Cut-clause-spent t c =
    let text = text_in c.args.task.now.symbols.now in
    let dd = c.args.task.now.d.now in
    let d = description_of dd in
    let m = c.args.node in
    let n = c.args.task.now.count in
    let I : State = record { forest = c.args.state.now.forest; store = c.args.state.now.store; steps = c.add_candidates.new.all } in
    let F = forest_of c.args.state.now.forest in
    let chosen : IsEnough d m F (IsCandidateOf dd m F) c.args.state.now.steps.items c.add_candidates.new.all.items = c.in_ok-add_candidates.ensures in
    let P : Step → Type 0 = IsAmong chosen.more in
    let within = c.requires.within in
    let ne = c.if-node-task.false in
    let less : m < n = omega arith in
    let low : m < length dd.nodes = subst (λ (k : ℕ). m < k) c.requires.task.count less in
    let suff : Suffices d m F P = suffices dd m low F c.args.state.now.steps.items c.add_candidates.new.all.items c.requires.task.first c.requires.task.last c.requires.model chosen in
    let st : c.len-start.result ≡ length c.args.state.now.steps.items = c.len-start.ensures ∙ c.args.state.now.steps.ok.0 in
    let l : IsListing P (drop c.len-start.result I.steps.items) = pushed_behind P c.args.state.now.steps.items c.add_candidates.new.all.items c.len-start.result st (chosen_pushed d m F (IsCandidateOf dd m F) c.args.state.now.steps.items c.add_candidates.new.all.items chosen) in
    let le : c.len-end.result ≡ length c.add_candidates.new.all.items = c.len-end.ensures ∙ c.add_candidates.new.all.ok.0 in
    let s : Step = c.index-step.result.now in
    let lt : c.loop-at.at < length I.steps.items = omega arith in
    let s_is : s ≡ get_or I.steps.items c.loop-at.at s = c.index-step.ensures ∙ ap (λ (xs : List Step). get_or xs c.loop-at.at s) c.loop-at.invariant.same.steps in
    reached_cut text d m n less I c.requires.model.nodes P suff c.len-start.result l c.loop-at.at c.loop-at.auto.at lt s s s_is
    (model_then dd m s I c.loop-at.state c.loop-at.invariant.same c.take.new.state c.if-take.ensures.taken) c.args.budget.now.left c.loop-at.budget.left c.spend.new.self.left c.explore.new.budget.left c.loop-at.out c.loop-at.invariant.runs
    c.if-not-spend.ensures.spent
    (spent_then dd m s I c.loop-at.state c.loop-at.invariant.same c.take.new.state c.if-take.ensures.taken (n - (m + 1)) c.spend.new.self.left c.explore.new.budget.left Cut (rw c.in-Cut.is at c.in_ok-explore.ensures.spent))

pub undo-requires : goal.undo-requires
undo-requires t c =
    let text = text_in c.args.task.now.symbols.now in
    let dd = c.args.task.now.d.now in
    let d = description_of dd in
    let m = c.args.node in
    let n = c.args.task.now.count in
    let I : State = record { forest = c.args.state.now.forest; store = c.args.state.now.store; steps = c.add_candidates.new.all } in
    let F = forest_of c.args.state.now.forest in
    let chosen : IsEnough d m F (IsCandidateOf dd m F) c.args.state.now.steps.items c.add_candidates.new.all.items = c.in_ok-add_candidates.ensures in
    let P : Step → Type 0 = IsAmong chosen.more in
    let within = c.requires.within in
    let ne = c.if-node-task.false in
    let less : m < n = omega arith in
    let low : m < length dd.nodes = subst (λ (k : ℕ). m < k) c.requires.task.count less in
    let suff : Suffices d m F P = suffices dd m low F c.args.state.now.steps.items c.add_candidates.new.all.items c.requires.task.first c.requires.task.last c.requires.model chosen in
    let st : c.len-start.result ≡ length c.args.state.now.steps.items = c.len-start.ensures ∙ c.args.state.now.steps.ok.0 in
    let l : IsListing P (drop c.len-start.result I.steps.items) = pushed_behind P c.args.state.now.steps.items c.add_candidates.new.all.items c.len-start.result st (chosen_pushed d m F (IsCandidateOf dd m F) c.args.state.now.steps.items c.add_candidates.new.all.items chosen) in
    let le : c.len-end.result ≡ length c.add_candidates.new.all.items = c.len-end.ensures ∙ c.add_candidates.new.all.ok.0 in
    let s : Step = c.index-step.result.now in
    let lt : c.loop-at.at < length I.steps.items = omega arith in
    let s_is : s ≡ get_or I.steps.items c.loop-at.at s = c.index-step.ensures ∙ ap (λ (xs : List Step). get_or xs c.loop-at.at s) c.loop-at.invariant.same.steps in
    earlier_back dd m s I c.loop-at.state c.loop-at.invariant.same c.take.new.state c.if-take.ensures.taken c.explore.new.state (c.in_ok-explore.ensures.restored c.in-All.is) c.mark-before.result c.mark-before.ensures.numbers c.mark-before.ensures.earlier

pub loop-at-preserved : goal.loop-at-preserved
loop-at-preserved t c =
    let text = text_in c.args.task.now.symbols.now in
    let dd = c.args.task.now.d.now in
    let d = description_of dd in
    let m = c.args.node in
    let n = c.args.task.now.count in
    let I : State = record { forest = c.args.state.now.forest; store = c.args.state.now.store; steps = c.add_candidates.new.all } in
    let F = forest_of c.args.state.now.forest in
    let chosen : IsEnough d m F (IsCandidateOf dd m F) c.args.state.now.steps.items c.add_candidates.new.all.items = c.in_ok-add_candidates.ensures in
    let P : Step → Type 0 = IsAmong chosen.more in
    let within = c.requires.within in
    let ne = c.if-node-task.false in
    let less : m < n = omega arith in
    let low : m < length dd.nodes = subst (λ (k : ℕ). m < k) c.requires.task.count less in
    let suff : Suffices d m F P = suffices dd m low F c.args.state.now.steps.items c.add_candidates.new.all.items c.requires.task.first c.requires.task.last c.requires.model chosen in
    let st : c.len-start.result ≡ length c.args.state.now.steps.items = c.len-start.ensures ∙ c.args.state.now.steps.ok.0 in
    let l : IsListing P (drop c.len-start.result I.steps.items) = pushed_behind P c.args.state.now.steps.items c.add_candidates.new.all.items c.len-start.result st (chosen_pushed d m F (IsCandidateOf dd m F) c.args.state.now.steps.items c.add_candidates.new.all.items chosen) in
    let le : c.len-end.result ≡ length c.add_candidates.new.all.items = c.len-end.ensures ∙ c.add_candidates.new.all.ok.0 in
    let s : Step = c.index-step.result.now in
    let lt : c.loop-at.at < length I.steps.items = omega arith in
    let s_is : s ≡ get_or I.steps.items c.loop-at.at s = c.index-step.ensures ∙ ap (λ (xs : List Step). get_or xs c.loop-at.at s) c.loop-at.invariant.same.steps in
    elim c.if-take.branch [
      | then-take+else-not-spend+in_ok-explore+in-All w ↦
          let T = c.take.new.state in
          let taken = w.if-take.ensures.taken in
          let back : IsRestored T w.explore.new.state = w.in_ok-explore.ensures.restored w.in-All.is in
          let a = c.loop-at.invariant.falls in
          let b : c.loop-at.budget.left ≡ w.spend.new.self.left + 1 = omega (arith, w.if-not-spend.ensures.spent) in
          let f = w.in_ok-explore.ensures.falls in
          rw (w.state-is, w.budget-is, w.out-is) (record {
            same = record {
              forest = forest_back dd m s I c.loop-at.state c.loop-at.invariant.same T taken w.explore.new.state back w.remove_last.new.self w.remove_last.ensures.0 w.remove_last.ensures.1;
              store = w.undo.ensures ∙ store_back dd m s I c.loop-at.state c.loop-at.invariant.same T taken w.explore.new.state back c.mark-before.result c.mark-before.ensures.numbers;
              steps = steps_back dd m s I c.loop-at.state c.loop-at.invariant.same T taken w.explore.new.state back;
            };
            runs = reached_more text d m n less I c.requires.model.nodes P suff c.len-start.result l c.loop-at.at c.loop-at.auto.at lt s s s_is
                (model_then dd m s I c.loop-at.state c.loop-at.invariant.same T taken) c.args.budget.now.left c.loop-at.budget.left w.spend.new.self.left w.explore.new.budget.left c.loop-at.out c.loop-at.invariant.runs w.explore.new.out
                w.if-not-spend.ensures.spent
                (spent_then dd m s I c.loop-at.state c.loop-at.invariant.same T taken (n - (m + 1)) w.spend.new.self.left w.explore.new.budget.left All (rw w.in-All.is at w.in_ok-explore.ensures.spent))
                (subst (λ (G : Forest (List ℕ)). HasAllBelow text d (n - (m + 1)) (m + 1) G w.explore.new.out) (forest_then dd m s I c.loop-at.state c.loop-at.invariant.same T taken) (w.in_ok-explore.ensures.all w.in-All.is))
                w.in_ok-explore.ensures.some.kept;
            some = gains_both c.args.task.now.symbols.now d c.args.out.now c.loop-at.out w.explore.new.out c.loop-at.invariant.some w.in_ok-explore.ensures.some;
            falls = omega arith;
          })
      | else-take w ↦
          rw (w.state-is, w.budget-is, w.out-is) (record {
            same = restored_both I c.loop-at.state c.take.new.state c.loop-at.invariant.same w.if-take.ensures.same;
            runs = reached_skip text d m n less I c.requires.model.nodes P suff c.len-start.result l c.loop-at.at c.loop-at.auto.at lt s s s_is c.args.budget.now.left c.loop-at.budget.left c.loop-at.out c.loop-at.out (bad_here dd m s I c.loop-at.state c.loop-at.invariant.same w.if-take.ensures.bad) (λ e i. i) c.loop-at.invariant.runs;
            some = c.loop-at.invariant.some;
            falls = c.loop-at.invariant.falls;
          })
    ]

pub returns-clause-spent : goal.returns-clause-spent
returns-clause-spent t c =
    let text = text_in c.args.task.now.symbols.now in
    let dd = c.args.task.now.d.now in
    let d = description_of dd in
    let m = c.args.node in
    let n = c.args.task.now.count in
    let I : State = record { forest = c.args.state.now.forest; store = c.args.state.now.store; steps = c.add_candidates.new.all } in
    let F = forest_of c.args.state.now.forest in
    let chosen : IsEnough d m F (IsCandidateOf dd m F) c.args.state.now.steps.items c.add_candidates.new.all.items = c.in_ok-add_candidates.ensures in
    let P : Step → Type 0 = IsAmong chosen.more in
    let within = c.requires.within in
    let ne = c.if-node-task.false in
    let less : m < n = omega arith in
    let low : m < length dd.nodes = subst (λ (k : ℕ). m < k) c.requires.task.count less in
    let suff : Suffices d m F P = suffices dd m low F c.args.state.now.steps.items c.add_candidates.new.all.items c.requires.task.first c.requires.task.last c.requires.model chosen in
    let st : c.len-start.result ≡ length c.args.state.now.steps.items = c.len-start.ensures ∙ c.args.state.now.steps.ok.0 in
    let l : IsListing P (drop c.len-start.result I.steps.items) = pushed_behind P c.args.state.now.steps.items c.add_candidates.new.all.items c.len-start.result st (chosen_pushed d m F (IsCandidateOf dd m F) c.args.state.now.steps.items c.add_candidates.new.all.items chosen) in
    let le : c.len-end.result ≡ length c.add_candidates.new.all.items = c.len-end.ensures ∙ c.add_candidates.new.all.ok.0 in
    let far : length I.steps.items ≤ c.loop-at.at = omega arith in
    (reached_all text d m n less I c.requires.model.nodes P suff c.len-start.result l c.loop-at.at c.args.budget.now.left c.loop-at.budget.left c.loop-at.out far c.loop-at.invariant.runs).0

pub returns-clause-all : goal.returns-clause-all
returns-clause-all t c e =
    let text = text_in c.args.task.now.symbols.now in
    let dd = c.args.task.now.d.now in
    let d = description_of dd in
    let m = c.args.node in
    let n = c.args.task.now.count in
    let I : State = record { forest = c.args.state.now.forest; store = c.args.state.now.store; steps = c.add_candidates.new.all } in
    let F = forest_of c.args.state.now.forest in
    let chosen : IsEnough d m F (IsCandidateOf dd m F) c.args.state.now.steps.items c.add_candidates.new.all.items = c.in_ok-add_candidates.ensures in
    let P : Step → Type 0 = IsAmong chosen.more in
    let within = c.requires.within in
    let ne = c.if-node-task.false in
    let less : m < n = omega arith in
    let low : m < length dd.nodes = subst (λ (k : ℕ). m < k) c.requires.task.count less in
    let suff : Suffices d m F P = suffices dd m low F c.args.state.now.steps.items c.add_candidates.new.all.items c.requires.task.first c.requires.task.last c.requires.model chosen in
    let st : c.len-start.result ≡ length c.args.state.now.steps.items = c.len-start.ensures ∙ c.args.state.now.steps.ok.0 in
    let l : IsListing P (drop c.len-start.result I.steps.items) = pushed_behind P c.args.state.now.steps.items c.add_candidates.new.all.items c.len-start.result st (chosen_pushed d m F (IsCandidateOf dd m F) c.args.state.now.steps.items c.add_candidates.new.all.items chosen) in
    let le : c.len-end.result ≡ length c.add_candidates.new.all.items = c.len-end.ensures ∙ c.add_candidates.new.all.ok.0 in
    let far : length I.steps.items ≤ c.loop-at.at = omega arith in
    (reached_all text d m n less I c.requires.model.nodes P suff c.len-start.result l c.loop-at.at c.args.budget.now.left c.loop-at.budget.left c.loop-at.out far c.loop-at.invariant.runs).1
