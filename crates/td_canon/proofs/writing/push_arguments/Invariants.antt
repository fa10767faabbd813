use denote.Text.{Utf8}
use denote.Shadow.{shadow}
use Rattle.td_canon.specs.CanonicalTexts.{text_in}
use Rattle.td_canon.proofs.LiteralLemmas.{WrittenArguments}
use Rattle.td_canon.proofs.writing.push_arguments.Given as goal

abbrev pub invariant-loop-argument : goal.invariant-loop-argument
invariant-loop-argument l = record {
  utf8 : shadow (Utf8 l.separator);
  written : WrittenArguments (text_in l.symbols) l.arguments l.argument-index l.initial.draft l.draft l.separator;
}
