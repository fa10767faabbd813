use Rattle.std.proofs.Common.{◌≡◌, length}
use Rattle.std.specs.Prelude.{map}
use Rattle.gr_grammar.specs.Grammars.{Rounds, round_items}
use Rattle.mg_reader.specs.Grammar.{more_feature_text, system}
use Rattle.mg_reader.specs.Values.{with_features}
use Rattle.mg_reader.specs.Complaints.{or_first, more_feature_read, feature_row_bad}
use Rattle.mg_reader.proofs.Keys.{given_of_read}
use Rattle.mg_reader.proofs.reader.Reader.features.Given as goal

abbrev pub invariant-rows : goal.invariant-rows
invariant-rows l = (r : Rounds system more_feature_text l.initial.self.cursor.rest.now l.self.cursor.rest.now) × (l.found ≡ with_features l.initial.found (map given_of_read (round_items (λ ts rest m. more_feature_read m) r))) × (l.self.complaint ≡ or_first l.initial.self.complaint (feature_row_bad l.initial.found (round_items (λ ts rest m. more_feature_read m) r)))

abbrev pub decreases-rows : goal.decreases-rows
decreases-rows l = length l.self.cursor.rest.now
