use Rattle.std.proofs.Common.{◌≡◌, ◌++◌, take, string_bytes}
use Rattle.td_canon.specs.TreeSets.{texts_of}
use Rattle.tg_text.specs.GrammarText.{tree_lines}
use Rattle.tg_text.proofs.writing.push_trees.Given as goal

abbrev pub invariant-loop-at : goal.invariant-loop-at
invariant-loop-at l = string_bytes l.text ≡ string_bytes l.initial.text ++ tree_lines 1 (take l.at (texts_of l.trees))
