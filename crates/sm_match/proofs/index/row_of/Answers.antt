use Rattle.std.proofs.Common.{inl, inr, ap, sym, ◌∙◌, subst}
use Rattle.std.proofs.lemmas.Bool.{false≢true}
use Rattle.std.proofs.lemmas.List.{take_all}
use Rattle.gr_base.specs.Lists.{IsAmong}
use Rattle.sm_match.specs.declared.index.Row.{Row}
use Rattle.sm_match.proofs.IndexLemmas.{among_item, one_more_item}
use Rattle.sm_match.proofs.index.row_of.Goals.{else-row-arity-via-then-row-arity+else-is_same, else-row-arity-via-else-row-arity}
use Rattle.sm_match.proofs.index.row_of.Goals as goal

pub returns-then-is_same : goal.returns-then-is_same
returns-then-is_same c = (
  among_item c.args.rows.now c.loop-row.row-index c.row-item.result c.row-item.is c.loop-row-test.true,
  c.is_same.ensures.0 c.if-is_same.true,
  c.if-row-arity.true,
)

pub loop-row-preserved : goal.loop-row-preserved
loop-row-preserved c = λ r i p a. elim (one_more_item c.args.rows.now c.loop-row.row-index c.row-item.result r c.row-item.is c.loop-row-test.true i) [
  | inl j ↦ c.loop-row.invariant r j p a
  | inr e ↦ elim c.else-row-arity.branch [
    | else-row-arity-via-then-row-arity+else-is_same w ↦ false≢true (sym w.if-is_same.false ∙ w.is_same.ensures.1 (ap (λ (x : Row). x.pred) (sym e) ∙ p))
    | else-row-arity-via-else-row-arity w ↦ w.if-row-arity.false (ap (λ (x : Row). x.arity) (sym e) ∙ a)
  ]
]

pub returns : goal.returns
returns c = λ r i. c.loop-row.invariant r (subst (λ xs. IsAmong xs r) (sym (take_all c.loop-row.row-index c.args.rows.now c.loop-row-test.false)) i)
