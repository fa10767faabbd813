use Rattle.std.proofs.Common.{◌≡◌, sym, ◌∙◌}
use Rattle.gr_tokens.proofs.Signs.{width_of, width_same, sign_begins, sign_none}
use Rattle.gr_tokens.proofs.fronts.sign.Goals as goal

pub returns : goal.returns
returns c =
    let bytes = c.args.bytes.now in
    let width : c.sign_len-len.result ≡ width_of bytes = c.sign_len-len.ensures ∙ width_same _ _ _ _ _ _ _ _ c.byte_at.ensures c.byte_at-2.ensures c.byte_at-3.ensures c.byte_at-4.ensures in
    sign_begins bytes c.sign_len-len.result width c.if-len-eq0.false

pub returns-then-len-eq0 : goal.returns-then-len-eq0
returns-then-len-eq0 c =
    let bytes = c.args.bytes.now in
    let width : c.sign_len-len.result ≡ width_of bytes = c.sign_len-len.ensures ∙ width_same _ _ _ _ _ _ _ _ c.byte_at.ensures c.byte_at-2.ensures c.byte_at-3.ensures c.byte_at-4.ensures in
    sign_none bytes (sym width ∙ c.if-len-eq0.true) c.requires.word c.requires.var c.requires.string
