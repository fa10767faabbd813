use Rattle.std.proofs.Common.{◌≡◌, ◌+◌, ◌≤◌, ◌++◌, length}
use denote.Shadow.{shadow}
use denote.Text.{Utf8}
use Rattle.gr_symbols.specs.Numbers.{Grows}
use Rattle.td_canon.specs.TreeSets.{texts_of}
use Rattle.tg_text.specs.Naming.{PutsTrees}
use Rattle.tg_text.specs.GrammarText.{tree_lines}
use Rattle.tg_text.specs.Reading.{AreReadTrees}
use Rattle.tg_text.proofs.reading.trees_in.Given as goal

abbrev pub invariant-row : goal.invariant-row
invariant-row l = record {
  read : AreReadTrees l.symbols l.trees;
  table : PutsTrees (texts_of l.trees) l.fn.symbols l.symbols;
  split : l.text ≡ tree_lines 1 (texts_of l.trees) ++ l.rest;
  grows : Grows l.fn.symbols l.symbols;
  utf8 : shadow (Utf8 l.rest);
  few : length l.symbols + length l.rest ≤ length l.fn.symbols + length l.text;
}

abbrev pub decreases-row : goal.decreases-row
decreases-row l = length l.rest
