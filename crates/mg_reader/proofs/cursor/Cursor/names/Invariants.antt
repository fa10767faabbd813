use Rattle.std.proofs.Common.{◌≡◌, ◌++◌, length}
use Rattle.gr_grammar.specs.Grammars.{Rounds, round_items}
use Rattle.mg_reader.specs.Grammar.{more_name_text, system}
use Rattle.mg_reader.specs.Values.{more_name_of}
use Rattle.mg_reader.proofs.cursor.Cursor.names.Given as goal

abbrev pub invariant-rows : goal.invariant-rows
invariant-rows l = (r : Rounds system more_name_text l.initial.self.rest.now l.self.rest.now) × (l.row ≡ l.initial.row ++ round_items (λ ts rest m. more_name_of m) r)

abbrev pub decreases-rows : goal.decreases-rows
decreases-rows l = length l.self.rest.now
