use Rattle.std.proofs.Common.{arith}
use Rattle.gr_tokens.proofs.StringFronts.{string_begins, string_none}
use Rattle.gr_tokens.proofs.fronts.string.Goals as goal
use Rattle.gr_tokens.proofs.fronts.string.Goals.{then-len-behind-via-then-len-behind, then-len-behind-via-else-len-behind+then-behind-len-ne34, then-len-behind-via-else-len-behind+else-behind-len-ne34+then-len-gt-TEXT_LIMIT}

pub returns-then-len-behind : goal.returns-then-len-behind
returns-then-len-behind c =
    let e = c.inside_len-len.ensures in
    string_none c.args.behind.now c.inside_len-len.result e.within e.inside e.ends (λ more quote short.
    elim c.then-len-behind.branch [
      | then-len-behind-via-then-len-behind w ↦ omega arith
      | then-len-behind-via-else-len-behind+then-behind-len-ne34 w ↦ w.if-behind-len-ne34.true quote
      | then-len-behind-via-else-len-behind+else-behind-len-ne34+then-len-gt-TEXT_LIMIT w ↦ omega arith
    ])

pub returns : goal.returns
returns c =
    let e = c.inside_len-len.ensures in
    string_begins c.args.behind.now c.inside_len-len.result _ c.if-len-behind.false e.inside c.if-behind-len-ne34.false c.if-len-gt-TEXT_LIMIT.false (omega arith)
