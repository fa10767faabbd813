use Rattle.std.proofs.Common.{◌≡◌, ◌++◌, take, map, codes, string_bytes}
use Rattle.gr_base.specs.Lists.{gathered}
use Rattle.tg_text.specs.GrammarText.{class_text, class_text_of, ended}
use Rattle.tg_text.proofs.writing.write_grammar.Given as goal

abbrev pub invariant-loop-at : goal.invariant-loop-at
invariant-loop-at l = string_bytes l.text ≡ ended (codes "grammar 1") ++ gathered class_text (map (class_text_of l.symbols) (take l.at l.classes))
