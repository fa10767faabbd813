use Rattle.std.proofs.Common.{◌≡◌, ◌++◌, length}
use Rattle.gr_grammar.specs.Grammars.{Rounds, round_items}
use Rattle.mg_reader.specs.Grammar.{more_syn_item_text, system}
use Rattle.mg_reader.specs.Values.{more_syn_item_of}
use Rattle.mg_reader.specs.Complaints.{or_first, all_of, more_syn_item_bad}
use Rattle.mg_reader.proofs.reader.Reader.syn_items.Given as goal

abbrev pub invariant-rows : goal.invariant-rows
invariant-rows l = (r : Rounds system more_syn_item_text l.initial.self.cursor.rest.now l.self.cursor.rest.now) × (l.row ≡ l.initial.row ++ round_items (λ ts rest m. more_syn_item_of m) r) × (l.self.complaint ≡ or_first l.initial.self.complaint (all_of (round_items (λ ts rest m. more_syn_item_bad m) r)))

abbrev pub decreases-rows : goal.decreases-rows
decreases-rows l = length l.self.cursor.rest.now
