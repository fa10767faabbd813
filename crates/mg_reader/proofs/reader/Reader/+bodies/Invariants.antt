use Rattle.std.proofs.Common.{◌≡◌, ◌+◌, ◌*◌, ◌++◌, length}
use Rattle.gr_grammar.specs.Grammars.{Rounds, round_items}
use Rattle.mg_reader.specs.Grammar.{more_statement_text, more_alternative_text, system}
use Rattle.mg_reader.specs.Values.{more_alternative_of, more_statement_of}
use Rattle.mg_reader.specs.Complaints.{or_first, all_of, more_alternative_bad, more_statement_bad}
use Rattle.mg_reader.proofs.reader.Reader.+bodies.Given as goal

abbrev pub decreases-body : goal.decreases-body
decreases-body l = 7 * length l.self.now.cursor.rest.now + 6

abbrev pub decreases-alternatives : goal.decreases-alternatives
decreases-alternatives l = 7 * length l.self.now.cursor.rest.now + 5

abbrev pub decreases-more_alternative : goal.decreases-more_alternative
decreases-more_alternative l = 7 * length l.self.now.cursor.rest.now + 4

abbrev pub decreases-alternative : goal.decreases-alternative
decreases-alternative l = 7 * length l.self.now.cursor.rest.now + 3

abbrev pub decreases-more_statement : goal.decreases-more_statement
decreases-more_statement l = 7 * length l.self.now.cursor.rest.now + 2

abbrev pub decreases-statement : goal.decreases-statement
decreases-statement l = 7 * length l.self.now.cursor.rest.now + 1

abbrev pub decreases-group : goal.decreases-group
decreases-group l = 7 * length l.self.now.cursor.rest.now + 0

abbrev pub invariant-alternatives-rows : goal.invariant-alternatives-rows
invariant-alternatives-rows l = (r : Rounds system more_alternative_text l.initial.self.cursor.rest.now l.self.cursor.rest.now) × (l.row ≡ l.initial.row ++ round_items (λ ts rest m. more_alternative_of m) r) × (l.self.complaint ≡ or_first l.initial.self.complaint (all_of (round_items (λ ts rest m. more_alternative_bad m) r)))

abbrev pub decreases-alternatives-rows : goal.decreases-alternatives-rows
decreases-alternatives-rows l = length l.self.cursor.rest.now

abbrev pub invariant-alternative-rows : goal.invariant-alternative-rows
invariant-alternative-rows l = (r : Rounds system more_statement_text l.initial.self.cursor.rest.now l.self.cursor.rest.now) × (l.row ≡ l.initial.row ++ round_items (λ ts rest m. more_statement_of m) r) × (l.self.complaint ≡ or_first l.initial.self.complaint (all_of (round_items (λ ts rest m. more_statement_bad m) r)))

abbrev pub decreases-alternative-rows : goal.decreases-alternative-rows
decreases-alternative-rows l = length l.self.cursor.rest.now
