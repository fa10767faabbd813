use Rattle.std.proofs.Common.{◌≡◌, ◌∙◌, ◌∷◌, [], List, sym, rules, subst, Err, refl}
use Rattle.gr_terms.specs.Canonical.{Label}
use Rattle.gr_base.specs.Lists.{gathered}
use Rattle.tg_reader.specs.Naming.{label_names}
use Rattle.tg_reader.specs.Reading.{AppendsValues, Gets}
use Rattle.tg_reader.proofs.LiteralTexts.{closing_end, no_arguments, some_arguments}
use Rattle.tg_reader.proofs.Steps.{stops}
use Rattle.tg_reader.proofs.reader.Reader.arguments.Goals as goal

pub returns-then-eat-clause-takes : goal.returns-then-eat-clause-takes
returns-then-eat-clause-takes c = λ text vs rest can end e.
    let n = no_arguments text vs c.eat.new.self.rest.now rest can (sym c.if-eat.ensures.yes ∙ e) in (
      n.same,
      subst (λ (ws : List Label). Gets c.args.symbols.now c.args.symbols.now (gathered (label_names text) ws) (λ texts. AppendsValues text texts ws [] c.new-arguments.result)) (sym n.none)
          (record { table = refl; later = λ later grows. c.new-arguments.ensures }),
    )

pub returns-in_err-values-clause-takes : goal.returns-in_err-values-clause-takes
returns-in_err-values-clause-takes c = λ text vs rest can end e.
    let is : c.from_residual.result ≡ Err c.in_err-values.field-0.0 = search rules in
    let s = some_arguments text vs c.args.self.now.rest.now rest can c.if-eat.ensures.no e in
    rw is (stops c.in_err-values.field-0.0 _ _ (c.in_err-values.ensures.takes text vs (41 ∷ rest) s.can (closing_end rest) (c.if-eat.ensures.same ∙ s.same)))

pub returns-in_err-expect-clause-takes : goal.returns-in_err-expect-clause-takes
returns-in_err-expect-clause-takes c = λ text vs rest can end e.
    let is : c.from_residual-in_err-expect.result ≡ Err c.in_err-expect.field-0.0 = search rules in
    let s = some_arguments text vs c.args.self.now.rest.now rest can c.if-eat.ensures.no e in
    let read = c.in_ok-values.ensures.takes text vs (41 ∷ rest) s.can (closing_end rest) (c.if-eat.ensures.same ∙ s.same) in
    rw is (stops c.in_err-expect.field-0.0 _ _ (c.in_err-expect.ensures.takes rest read.0))

pub returns-clause-takes : goal.returns-clause-takes
returns-clause-takes c = λ text vs rest can end e.
    let s = some_arguments text vs c.args.self.now.rest.now rest can c.if-eat.ensures.no e in
    let read = c.in_ok-values.ensures.takes text vs (41 ∷ rest) s.can (closing_end rest) (c.if-eat.ensures.same ∙ s.same) in
    (c.in_ok-expect.ensures.takes rest read.0, record { table = read.1.table; later = λ later grows. subst (λ zs. AppendsValues text later vs zs c.values.new.values) c.new-arguments.ensures (read.1.later later grows) })

pub returns-clause-known : goal.returns-clause-known
returns-clause-known c = c.in_ok-values.ensures.known (λ later grows. rw c.new-arguments.ensures tt)
