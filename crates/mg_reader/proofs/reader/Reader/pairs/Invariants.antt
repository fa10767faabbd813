use Rattle.std.proofs.Common.{◌≡◌, ◌++◌, length}
use Rattle.std.specs.Prelude.{map}
use Rattle.gr_grammar.specs.Grammars.{Rounds, round_items}
use Rattle.mg_reader.specs.Grammar.{more_pair_text, system}
use Rattle.mg_reader.specs.Values.{more_pair_of, pair_of}
use Rattle.mg_reader.proofs.Keys.{key_of_pair, KeysRead}
use Rattle.mg_reader.proofs.reader.Reader.pairs.Given as goal

abbrev pub invariant-rows : goal.invariant-rows
invariant-rows l = (r : Rounds system more_pair_text l.initial.self.cursor.rest.now l.self.cursor.rest.now) × (l.bag ≡ l.initial.bag ++ map pair_of (round_items (λ ts rest m. more_pair_of m) r)) × KeysRead l.initial.self.attributes l.self.attributes l.initial.self.complaint l.self.complaint (map key_of_pair (round_items (λ ts rest m. more_pair_of m) r))

abbrev pub decreases-rows : goal.decreases-rows
decreases-rows l = length l.self.cursor.rest.now
