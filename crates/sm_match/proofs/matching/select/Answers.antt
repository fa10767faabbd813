use Rattle.std.proofs.Common.{length, ◌∙◌, subst, [], ◌≤◌, arith}
use Rattle.std.specs.Prelude.{Ok, Err}
use Rattle.std.proofs.lemmas.Result.{err_from_is_err_and}
use Rattle.sm_match.specs.Listings.{Adds, Finds}
use Rattle.sm_match.specs.Tasks.{GoesOnFrom}
use Rattle.sm_match.proofs.MatchLemmas.{early_more, early_over, early_all, answer_err, selection_of}
use Rattle.sm_match.proofs.matching.select.Goals as goal

pub loop-number-preserved : goal.loop-number-preserved
loop-number-preserved c =
    let trees = c.args.trees.now in
    let input = c.args.input.now.literals in
    let l = c.get.result.now in
    record {
      finds = early_more trees input c.loop-number.number l c.get.ensures [] c.loop-number.state.found c.select_tree.new.state.found c.loop-number.invariant.finds
          (subst (λ gs. Adds (GoesOnFrom gs l.tree c.loop-number.number []) c.loop-number.state.found c.select_tree.new.state.found) c.as_slice-literals.ensures c.in_ok-select_tree.ensures.finds);
      places = c.in_ok-select_tree.ensures.places;
      bindings = c.in_ok-select_tree.ensures.bindings;
    }

pub returns-in_err-select_tree : goal.returns-in_err-select_tree
returns-in_err-select_tree c =
    let trees = c.args.trees.now in
    let input = c.args.input.now.literals in
    let l = c.get.result.now in
    let r = err_from_is_err_and c.from_residual-in_err-select_tree.result c.from_residual-in_err-select_tree.ensures.1 in
    rw (r.1, r.2) (record {
      answer = answer_err (Unit {0}) trees input (GoesOnFrom input l.tree c.loop-number.number []) c.loop-number.state.found c.select_tree.new.state.found c.in_err-select_tree.field-0.0
          (early_over trees input c.loop-number.number l c.get.ensures c.loop-number.state.found c.loop-number.invariant.finds)
          (subst (λ gs. Finds {U = Unit {0}} (GoesOnFrom gs l.tree c.loop-number.number []) c.loop-number.state.found c.select_tree.new.state.found (Err c.in_err-select_tree.field-0.0)) c.as_slice-literals.ensures c.in_err-select_tree.ensures.finds);
      selection = tt;
    })

pub returns : goal.returns
returns c =
    let trees = c.args.trees.now in
    let input = c.args.input.now.literals in
    let far : length trees ≤ c.loop-number.number = omega (arith, c.len-number-end.ensures) in
    let right = early_all trees input c.loop-number.number c.loop-number.state.found c.in_ok-literals.literals far (c.in_ok-literals.ensures ∙ c.as_slice-literals.ensures) c.loop-number.invariant.finds in
    record { answer = right; selection = selection_of trees input c.requires.lexical c.requires.ground c.requires.few (Ok (record { instances = c.loop-number.state.found; literals = c.in_ok-literals.literals })) right }
