use Rattle.std.proofs.Common.{List, Bool, drop, map}
use Rattle.gr_terms.specs.Views.{term_of}
use Rattle.tg_model.specs.Instances.{equations}
use Rattle.sm_match.specs.declared.bindings.Bound.{Bound}
use Rattle.sm_match.specs.Bindings.{Equates}
use Rattle.sm_match.proofs.bindings.equate_terms.Given as goal

-- what the rest does with its equations is done with all of them
abbrev pub invariant-loop-at : goal.invariant-loop-at
invariant-loop-at l =
    (r : Bool) (new : List Bound) → Equates (equations (map term_of (drop l.at l.terms)) (map term_of (drop l.at l.others))) l.bindings.items new r
    → Equates (equations (map term_of l.terms) (map term_of l.others)) l.initial.bindings.items new r
