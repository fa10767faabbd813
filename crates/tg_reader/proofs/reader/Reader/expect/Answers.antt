use Rattle.std.proofs.Common.{◌∙◌, sym}
use Rattle.std.proofs.lemmas.List.{append_cancel_left}
use Rattle.tg_reader.proofs.reader.Reader.expect.Goals as goal

pub returns-then-eat-clause-takes : goal.returns-then-eat-clause-takes
returns-then-eat-clause-takes c = λ rest e. append_cancel_left c.args.bytes.now c.eat.new.self.rest.now rest (sym c.if-eat.ensures.yes ∙ e)
