use Rattle.std.proofs.Common.{arith}
use Rattle.gr_tokens.proofs.WordFronts.{word_begins, word_long}
use Rattle.gr_tokens.proofs.fronts.word.Goals as goal

pub returns-then-len-gt-TEXT_LIMIT : goal.returns-then-len-gt-TEXT_LIMIT
returns-then-len-gt-TEXT_LIMIT c =
    let e = c.word_len-len.ensures in
    word_long c.args.bytes.now c.word_len-len.result e.within c.requires e.rest e.ends (omega arith)

pub returns : goal.returns
returns c =
    let e = c.word_len-len.ensures in
    word_begins c.args.bytes.now c.word_len-len.result e.within c.requires e.rest e.ends (omega arith)
