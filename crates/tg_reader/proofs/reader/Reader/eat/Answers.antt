use Rattle.std.proofs.Common.{◌≡◌, ◌∙◌, ap, sym, take, length}
use Rattle.std.proofs.Math.Seq.{take-append_seam}
use Rattle.std.proofs.lemmas.Bool.{false≢true}
use Rattle.std.proofs.lemmas.Slice.Eq.{bytes_eq-Decides}
use Rattle.std.specs.Prelude.{not}
use Rattle.tg_reader.proofs.reader.Reader.eat.Goals as goal

pub returns-then-ne-clause-no : goal.returns-then-ne-clause-no
returns-then-ne-clause-no c = λ more e.
    let front = c.args.bytes.now in
    let same : c.split_at.result.0.now ≡ front = c.split_at.ensures.front ∙ ap (take (length front)) e ∙ take-append_seam front more in
    false≢true (sym (ap not ((bytes_eq-Decides c.split_at.result.0.now front).1 same)) ∙ sym c.ne.ensures ∙ c.if-ne.true)
