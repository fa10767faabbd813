use Rattle.std.proofs.Common.{string_bytes}
use Rattle.rl_refusals.proofs.PartLemmas.{says_first_read}
use Rattle.rl_refusals.proofs.line.+push_parts.Goals as goal

pub returns-in_ok-push_parts-in-len1-up : goal.returns-in_ok-push_parts-in-len1-up
returns-in_ok-push_parts-in-len1-up t c =
    says_first_read c.args.symbols.now c.args.parts.now _ (string_bytes c.args.out.now) (string_bytes c.push_part.new.out) (string_bytes c.push_parts.new.out)
    c.in-len1-up.len_at_least c.in_ok-push_part-in-len1-up.ensures c.in_ok-push_parts-in-len1-up.ensures
