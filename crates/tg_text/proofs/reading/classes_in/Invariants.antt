use Rattle.std.proofs.Common.{◌≡◌, ◌+◌, ◌≤◌, length, map}
use denote.Shadow.{shadow}
use denote.Text.{Utf8}
use Rattle.gr_symbols.specs.Numbers.{Grows}
use Rattle.td_canon.specs.declared.tree_set.ClassTrees.{ClassTrees}
use Rattle.tg_text.specs.GrammarText.{class_text_of}
use Rattle.tg_text.specs.Naming.{PutsClasses}
use Rattle.tg_text.specs.Reading.{HasClasses}
use Rattle.tg_text.proofs.reading.classes_in.Given as goal

abbrev pub invariant-row : goal.invariant-row
invariant-row l = record {
  has : HasClasses l.symbols l.classes.items l.text l.rest;
  table : PutsClasses (map (class_text_of l.symbols) l.classes.items) l.fn.symbols l.symbols;
  known : l.known.keys ≡ map (λ (c : ClassTrees). c.class.0) l.classes.items;
  grows : Grows l.fn.symbols l.symbols;
  utf8 : shadow (Utf8 l.rest);
  few : length l.symbols + length l.rest ≤ length l.fn.symbols + length l.text;
}

abbrev pub decreases-row : goal.decreases-row
decreases-row l = length l.rest
