use Rattle.std.proofs.Common.{◌≡◌, ◌+◌, ◌*◌, length}
use Rattle.gr_grammar.specs.Grammars.{Rounds}
use Rattle.gr_grammar.specs.Balanced.{system, item}
use Rattle.gr_grammar.proofs.BalancedSystem.{rounds_have}
use Rattle.gr_grammar.proofs.balanced.Reader.+items.Given as goal

abbrev pub decreases-body : goal.decreases-body
decreases-body l = 2 * length l.self.now.rest.now + 1

abbrev pub decreases-item : goal.decreases-item
decreases-item l = 2 * length l.self.now.rest.now

abbrev pub invariant-body-row : goal.invariant-body-row
invariant-body-row l = (r : Rounds system item l.initial.self.rest.now l.self.rest.now) × (l.found ≡ rounds_have r)

abbrev pub decreases-body-row : goal.decreases-body-row
decreases-body-row l = length l.self.rest.now
