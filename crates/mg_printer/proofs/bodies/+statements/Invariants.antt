use Rattle.std.proofs.Common.{drop, codes, ◌∷◌, ◌+◌, ◌*◌}
use Rattle.mg_printer.specs.Pieces.{a_sign}
use Rattle.mg_printer.specs.Bodies.{alternative_by, statement_pieces}
use Rattle.mg_printer.specs.Writing.{IsLeft}
use Rattle.mg_printer.proofs.bodies.+statements.Given as goal

abbrev pub invariant-alternative-loop-other : goal.invariant-alternative-loop-other
invariant-alternative-loop-other l = IsLeft l.symbols (λ s. a_sign (codes ";") ∷ statement_pieces s) l.others (drop l.other-index l.others) l.initial.out l.out

abbrev pub invariant-body-loop-other : goal.invariant-body-loop-other
invariant-body-loop-other l = IsLeft l.symbols (λ ss. a_sign (codes "|") ∷ alternative_by statement_pieces ss) l.others (drop l.other-index l.others) l.initial.out l.out

-- a group is smaller than its statement; a body and its group are as large, and so may a body and an alternative of it be, or an alternative and a statement of it
abbrev pub decreases-group : goal.decreases-group
decreases-group a = 4 * goal.size-group a + 3

abbrev pub decreases-body : goal.decreases-body
decreases-body a = 4 * goal.size-body a + 2

abbrev pub decreases-alternative : goal.decreases-alternative
decreases-alternative a = 4 * goal.size-alternative a + 1

abbrev pub decreases-statement : goal.decreases-statement
decreases-statement a = 4 * goal.size-statement a
