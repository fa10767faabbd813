use Rattle.std.proofs.Common.{length}
use Rattle.mg_reader.specs.Keywords.{AreKeywords}
use Rattle.mg_reader.proofs.Cutting.{HasRead}
use Rattle.mg_reader.proofs.answer.lexemes.Given as goal

abbrev pub invariant-cut : goal.invariant-cut
invariant-cut l = HasRead l.bytes l.initial.symbols l.symbols l.initial.rest l.rest l.found.items × AreKeywords l.symbols l.keywords

abbrev pub decreases-cut : goal.decreases-cut
decreases-cut l = length l.rest
