use Rattle.std.proofs.Common.{◌≡◌, Err, rules}
use Rattle.gr_base.proofs.Results.{IfOk-weaker, IfErr-weaker}
use Rattle.rl_top.proofs.Stopping.{stops_for, class_texts, classes_named, uncompiled_file}
use Rattle.rl_top.proofs.compiling.compiled.Goals as goal

pub returns-in_err-resolved-clause-refused : goal.returns-in_err-resolved-clause-refused
returns-in_err-resolved-clause-refused c =
    let e : c.from_residual.result ≡ Err c.in_err-resolved.field-0.0 = search rules in
    rw e (stops_for _ _ _ c.in_err-resolved.field-0.0 (λ r all. all c.args.models) c.in_err-resolved.ensures.refused)

pub returns-clause-written : goal.returns-clause-written
returns-clause-written c =
    IfOk-weaker _ _ c.valued_trees.result (λ ts all. (_, c.in_ok-resolved.ensures.good, class_texts _ _ _ ts.items all)) c.valued_trees.ensures.compiled

pub returns-clause-named : goal.returns-clause-named
returns-clause-named c = IfOk-weaker _ _ c.valued_trees.result (λ ts all. classes_named _ _ _ _ ts.items all) c.valued_trees.ensures.compiled

pub returns-clause-refused : goal.returns-clause-refused
returns-clause-refused c =
    IfErr-weaker _ _ c.valued_trees.result (λ s stops. stops_for _ _ _ s (uncompiled_file _ _ _ c.args.models c.in_ok-resolved.ensures.numbered c.in_ok-resolved.ensures.good) stops) c.valued_trees.ensures.refused
