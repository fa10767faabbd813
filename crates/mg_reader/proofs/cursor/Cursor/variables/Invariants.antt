use Rattle.std.proofs.Common.{◌≡◌, ◌++◌, length}
use Rattle.gr_grammar.specs.Grammars.{Rounds, round_items}
use Rattle.mg_reader.specs.declared.lexeme.Kind.TheVariants as Kind
use Rattle.mg_reader.specs.Grammar.{is, system}
use Rattle.mg_reader.specs.Values.{token_of}
use Rattle.mg_reader.proofs.cursor.Cursor.variables.Given as goal

abbrev pub invariant-rows : goal.invariant-rows
invariant-rows l = (r : Rounds system (is Kind.Var) l.initial.self.rest.now l.self.rest.now) × (l.row ≡ l.initial.row ++ round_items (λ ts rest m. (token_of m).name) r)

abbrev pub decreases-rows : goal.decreases-rows
decreases-rows l = length l.self.rest.now
