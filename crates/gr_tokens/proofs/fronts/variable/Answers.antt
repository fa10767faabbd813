use Rattle.std.proofs.Common.{◌≡◌, true, arith, ap, sym, ◌∙◌}
use Rattle.gr_text.specs.Words.{begins_with_word_byte}
use Rattle.gr_tokens.proofs.WordFronts.{variable_begins, variable_long}
use Rattle.gr_tokens.proofs.fronts.variable.Goals as goal

pub returns-then-len-gt-TEXT_LIMIT : goal.returns-then-len-gt-TEXT_LIMIT
returns-then-len-gt-TEXT_LIMIT c =
    let e = c.word_len-len.ensures in
    let begins : begins_with_word_byte c.args.behind.now ≡ true = ap begins_with_word_byte c.in-Some.ensures.cases.0 ∙ (sym c.is_word_byte.ensures ∙ c.if-not-is_word_byte.false) in
    variable_long c.args.behind.now c.word_len-len.result e.within begins e.rest e.ends c.if-len-gt-TEXT_LIMIT.true

pub returns : goal.returns
returns c =
    let e = c.word_len-len.ensures in
    let begins : begins_with_word_byte c.args.behind.now ≡ true = ap begins_with_word_byte c.in-Some.ensures.cases.0 ∙ (sym c.is_word_byte.ensures ∙ c.if-not-is_word_byte.false) in
    variable_begins c.args.behind.now c.word_len-len.result e.within begins e.rest e.ends _ (omega arith) c.if-len-gt-TEXT_LIMIT.false
