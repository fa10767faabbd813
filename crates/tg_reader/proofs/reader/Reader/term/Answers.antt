use Rattle.std.proofs.Common.{◌∙◌, sym, subst, refl}
use Rattle.tg_reader.specs.Naming.{label_names}
use Rattle.tg_reader.specs.Reading.{StandsFor, Gets}
use Rattle.tg_reader.proofs.Steps.{reads_weaker}
use Rattle.tg_reader.proofs.Values.{question, quote, word_stands}
use Rattle.tg_reader.proofs.reader.Reader.term.Goals as goal

pub returns-then-eat-clause-takes : goal.returns-then-eat-clause-takes
returns-then-eat-clause-takes c = λ text v rest can end e.
    let is = question text v c.eat.new.self.rest.now rest can (sym c.if-eat.ensures.yes ∙ e) in
    reads_weaker c.variable.result _ _ (λ x read. (read.0, subst (λ w. Gets c.args.symbols.now c.args.symbols.now (label_names text w) (λ texts. StandsFor text texts w x)) (sym is.is) (record { table = refl; later = λ later grows. read.1 }))) (c.variable.ensures.takes is.number rest is.small end is.behind)

pub returns-then-eat-2-clause-takes : goal.returns-then-eat-2-clause-takes
returns-then-eat-2-clause-takes c = λ text v rest can end e.
    let is = quote text v c.eat-else-eat.new.self.rest.now rest can (sym c.if-eat-2.ensures.yes ∙ c.if-eat.ensures.same ∙ e) in
    reads_weaker c.quoted.result _ _ (λ x read. (read.0, subst (λ w. Gets c.args.symbols.now c.quoted.new.symbols (label_names text w) (λ texts. StandsFor text texts w x)) (sym is.is) read.1)) (c.quoted.ensures.takes (text is.number) rest is.name tt is.behind)

pub returns-else-eat-2-clause-takes : goal.returns-else-eat-2-clause-takes
returns-else-eat-2-clause-takes c = λ text v rest can end e.
    let is = word_stands text v c.args.self.now.rest.now rest can c.if-eat.ensures.no (λ more h. c.if-eat-2.ensures.no more (c.if-eat.ensures.same ∙ h)) e in
    reads_weaker c.bare.result _ _ (λ x read. (read.0, subst (λ w. Gets c.args.symbols.now c.bare.new.symbols (label_names text w) (λ texts. StandsFor text texts w x)) (sym is.is) read.1))
    (c.bare.ensures.takes (text is.number) rest is.word end (c.if-eat-2.ensures.same ∙ c.if-eat.ensures.same ∙ is.same))
