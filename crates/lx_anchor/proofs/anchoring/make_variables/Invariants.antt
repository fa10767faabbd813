use Rattle.std.proofs.Common.{◌≡◌, ◌+◌, ◌-◌}
use Rattle.lx_anchor.proofs.anchoring.make_variables.Given as goal

abbrev pub invariant-variables : goal.invariant-variables
invariant-variables l =
    l.store ≡ record l.fn.store {
      vars = l.fn.store.vars + l._made;
      spare = record l.fn.store.spare { vars = l.fn.store.spare.vars - l._made };
    }
