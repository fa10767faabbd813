use Rattle.std.proofs.Common.{◌≡◌, ◌∙◌, ◌++◌, sym, rules, refl, subst, Err}
use Rattle.gr_terms.specs.Canonical.{Pairs}
use Rattle.gr_base.specs.Lists.{gathered}
use Rattle.tg_reader.specs.Naming.{pair_names}
use Rattle.tg_reader.specs.Reading.{PutsPairs, Gets}
use Rattle.tg_reader.proofs.Enclosed.{not_opened, opened}
use Rattle.tg_reader.proofs.Steps.{reads_weaker, stops}
use Rattle.tg_reader.proofs.reader.Reader.enclosed.Goals as goal

pub returns-in_err-pairs-clause-takes : goal.returns-in_err-pairs-clause-takes
returns-in_err-pairs-clause-takes c = λ text ps rest can differs e.
    let is : c.from_residual.result ≡ Err c.in_err-pairs.field-0.0 = search rules in
    let o = opened text c.args.opening.now c.args.closing.now ps c.args.self.now.rest.now c.eat.new.self.rest.now rest can differs c.if-eat.ensures.yes e in
    rw is (stops c.in_err-pairs.field-0.0 _ _ (c.in_err-pairs.ensures.takes text ps (c.args.closing.now ++ rest) o.can (c.requires rest) o.behind))

pub returns-in_ok-pairs-clause-takes : goal.returns-in_ok-pairs-clause-takes
returns-in_ok-pairs-clause-takes c = λ text ps rest can differs e.
    let o = opened text c.args.opening.now c.args.closing.now ps c.args.self.now.rest.now c.eat.new.self.rest.now rest can differs c.if-eat.ensures.yes e in
    let read = c.in_ok-pairs.ensures.takes text ps (c.args.closing.now ++ rest) o.can (c.requires rest) o.behind in
    reads_weaker c.expect.result _ _ (λ x same. (same, read.1)) (c.expect.ensures.takes rest read.0)

pub returns-else-eat-clause-takes : goal.returns-else-eat-clause-takes
returns-else-eat-clause-takes c = λ text ps rest can differs e.
    let n = not_opened text c.args.opening.now c.args.closing.now ps c.args.self.now.rest.now rest c.if-eat.ensures.no e in
    (c.if-eat.ensures.same ∙ n.same, subst (λ (qs : Pairs). Gets c.args.symbols.now c.args.symbols.now (gathered (pair_names text) qs) (λ texts. PutsPairs text texts qs c.args.bag.now c.args.bag.now)) (sym n.none) (record { table = refl; later = λ later grows. refl }))
