use Rattle.std.proofs.Common.{rules, arith, ◌≡◌, ◌∙◌, ap, sym, subst, ◌++◌, ◌∷◌, [], codes, length}
use Rattle.std.proofs.lemmas.Result.{on_ok_weaker}
use Rattle.gr_base.specs.Lists.{Each}
use Rattle.mg_syntax.specs.declared.body.Statement.{Statement, the_lemmas}
use Rattle.mg_printer.specs.Pieces.{IsKnown, a_sign}
use Rattle.mg_printer.specs.Printing.{spelled}
use Rattle.mg_printer.specs.Bodies.{alternative_by, statement_pieces}
use Rattle.mg_printer.proofs.Loops.{then, left_here, left_next, first_known, others_left}
use Rattle.mg_printer.proofs.Statements.{pieces-Group, pieces-Call, pieces-Bind, pieces-Equation, pieces-Syn, pieces-Sem, pieces-Iface}
use Rattle.mg_printer.proofs.Measures.{first_below, other_below}
use Rattle.mg_syntax.proofs.body.Statement.TheLaws.{the_size}
use denote.Param.Weighed.{most, w_this}
use Rattle.mg_printer.proofs.bodies.+statements.Goals as goal

pub alternative-loop-other-init : goal.alternative-loop-other-init
alternative-loop-other-init t c =
    let is : c.args.alternative.now ≡ c.in-Some.first.now ∷ c.in-Some.others.now = search rules in
    others_left c.args.symbols.now (a_sign (codes ";")) statement_pieces c.args.alternative.now c.in-Some.first.now c.in-Some.others.now is c.requires c.statement.new.out

pub alternative-statement-requires-in-loop-other : goal.alternative-statement-requires-in-loop-other
alternative-statement-requires-in-loop-other t c = (
  search (rules, the_lemmas),
  (left_here c.args.symbols.now (λ x. a_sign (codes ";") ∷ statement_pieces x) c.in-Some.others.now c.loop-other.other-index c.other-item.result _ _ c.other-item.is c.loop-other-test.true c.loop-other.invariant).1,
)

pub alternative-loop-other-preserved : goal.alternative-loop-other-preserved
alternative-loop-other-preserved t c =
    left_next c.args.symbols.now (λ x. a_sign (codes ";") ∷ statement_pieces x) c.in-Some.others.now c.loop-other.other-index c.other-item.result _ _ c.other-item.is c.loop-other-test.true c.loop-other.invariant _
    (then c.args.symbols.now (a_sign (codes ";") ∷ []) (statement_pieces c.other-item.result) c.loop-other.out c.sign.new.out c.statement-in-loop-other.new.out c.in_ok-sign.ensures c.in_ok-statement-2.ensures)

pub body-alternative-requires : goal.body-alternative-requires
body-alternative-requires t c =
    let is : c.args.body.now ≡ c.in-Some.first.now ∷ c.in-Some.others.now = search rules in (
      omega (arith, c.decreases, first_below (most (w_this.weight Statement the_size)) c.args.body.now c.in-Some.first.now c.in-Some.others.now is),
      first_known c.args.symbols.now (a_sign (codes "|")) (alternative_by statement_pieces) c.args.body.now c.in-Some.first.now c.in-Some.others.now is c.requires,
    )

pub body-loop-other-init : goal.body-loop-other-init
body-loop-other-init t c =
    let is : c.args.body.now ≡ c.in-Some.first.now ∷ c.in-Some.others.now = search rules in
    others_left c.args.symbols.now (a_sign (codes "|")) (alternative_by statement_pieces) c.args.body.now c.in-Some.first.now c.in-Some.others.now is c.requires c.alternative.new.out

pub body-alternative-requires-in-loop-other : goal.body-alternative-requires-in-loop-other
body-alternative-requires-in-loop-other t c =
    let is : c.args.body.now ≡ c.in-Some.first.now ∷ c.in-Some.others.now = search rules in (
      omega (arith, c.decreases, other_below (most (w_this.weight Statement the_size)) c.args.body.now c.in-Some.first.now c.in-Some.others.now c.loop-other.other-index c.other-item.result is c.loop-other-test.true c.other-item.is),
      (left_here c.args.symbols.now (λ x. a_sign (codes "|") ∷ alternative_by statement_pieces x) c.in-Some.others.now c.loop-other.other-index c.other-item.result _ _ c.other-item.is c.loop-other-test.true c.loop-other.invariant).1,
    )

pub body-loop-other-preserved : goal.body-loop-other-preserved
body-loop-other-preserved t c =
    left_next c.args.symbols.now (λ x. a_sign (codes "|") ∷ alternative_by statement_pieces x) c.in-Some.others.now c.loop-other.other-index c.other-item.result _ _ c.other-item.is c.loop-other-test.true c.loop-other.invariant _
    (then c.args.symbols.now (a_sign (codes "|") ∷ []) (alternative_by statement_pieces c.other-item.result) c.loop-other.out c.sign.new.out c.alternative-in-loop-other.new.out c.in_ok-sign.ensures c.in_ok-alternative-2.ensures)

pub statement-group-requires : goal.statement-group-requires
statement-group-requires t c = (search (rules, the_lemmas), subst (λ z. Each (IsKnown (length c.args.symbols.now)) z) (ap statement_pieces c.in-Group.is ∙ pieces-Group c.in-Group.inner) c.requires)

pub statement-call-requires : goal.statement-call-requires
statement-call-requires t c = subst (λ z. Each (IsKnown (length c.args.symbols.now)) z) (ap statement_pieces c.in-Call.is ∙ pieces-Call c.in-Call.class) c.requires

pub statement-bind-requires : goal.statement-bind-requires
statement-bind-requires t c = subst (λ z. Each (IsKnown (length c.args.symbols.now)) z) (ap statement_pieces c.in-Bind.is ∙ pieces-Bind c.in-Bind.name c.in-Bind.class) c.requires

pub statement-equation-requires : goal.statement-equation-requires
statement-equation-requires t c = subst (λ z. Each (IsKnown (length c.args.symbols.now)) z) (ap statement_pieces c.in-Equation.is ∙ pieces-Equation c.in-Equation.left c.in-Equation.right) c.requires

pub statement-syn-requires : goal.statement-syn-requires
statement-syn-requires t c = subst (λ z. Each (IsKnown (length c.args.symbols.now)) z) (ap statement_pieces c.in-Syn.is ∙ pieces-Syn c.in-Syn.items) c.requires

pub statement-sem-requires : goal.statement-sem-requires
statement-sem-requires t c = subst (λ z. Each (IsKnown (length c.args.symbols.now)) z) (ap statement_pieces c.in-Sem.is ∙ pieces-Sem c.in-Sem.list) c.requires

pub statement-iface-requires : goal.statement-iface-requires
statement-iface-requires t c = subst (λ z. Each (IsKnown (length c.args.symbols.now)) z) (ap statement_pieces c.in-Iface.is ∙ pieces-Iface c.in-Iface.list) c.requires

pub statement-returns-in-Group : goal.statement-returns-in-Group
statement-returns-in-Group t c = on_ok_weaker c.group.result (λ e. e ∙ ap (λ z. c.args.out.now ++ spelled c.args.symbols.now z) (sym (ap statement_pieces c.in-Group.is ∙ pieces-Group c.in-Group.inner))) c.group.ensures

pub statement-returns-in-Call : goal.statement-returns-in-Call
statement-returns-in-Call t c = on_ok_weaker c.call.result (λ e. e ∙ ap (λ z. c.args.out.now ++ spelled c.args.symbols.now z) (sym (ap statement_pieces c.in-Call.is ∙ pieces-Call c.in-Call.class))) c.call.ensures

pub statement-returns-in-Bind : goal.statement-returns-in-Bind
statement-returns-in-Bind t c = on_ok_weaker c.bind.result (λ e. e ∙ ap (λ z. c.args.out.now ++ spelled c.args.symbols.now z) (sym (ap statement_pieces c.in-Bind.is ∙ pieces-Bind c.in-Bind.name c.in-Bind.class))) c.bind.ensures

pub statement-returns-in-Equation : goal.statement-returns-in-Equation
statement-returns-in-Equation t c = on_ok_weaker c.equation.result (λ e. e ∙ ap (λ z. c.args.out.now ++ spelled c.args.symbols.now z) (sym (ap statement_pieces c.in-Equation.is ∙ pieces-Equation c.in-Equation.left c.in-Equation.right))) c.equation.ensures

pub statement-returns-in-Syn : goal.statement-returns-in-Syn
statement-returns-in-Syn t c = on_ok_weaker c.syn.result (λ e. e ∙ ap (λ z. c.args.out.now ++ spelled c.args.symbols.now z) (sym (ap statement_pieces c.in-Syn.is ∙ pieces-Syn c.in-Syn.items))) c.syn.ensures

pub statement-returns-in-Sem : goal.statement-returns-in-Sem
statement-returns-in-Sem t c = on_ok_weaker c.sem.result (λ e. e ∙ ap (λ z. c.args.out.now ++ spelled c.args.symbols.now z) (sym (ap statement_pieces c.in-Sem.is ∙ pieces-Sem c.in-Sem.list))) c.sem.ensures

pub statement-returns-in-Iface : goal.statement-returns-in-Iface
statement-returns-in-Iface t c = on_ok_weaker c.iface.result (λ e. e ∙ ap (λ z. c.args.out.now ++ spelled c.args.symbols.now z) (sym (ap statement_pieces c.in-Iface.is ∙ pieces-Iface c.in-Iface.list))) c.iface.ensures
