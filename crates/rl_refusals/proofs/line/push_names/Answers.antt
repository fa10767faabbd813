use Rattle.std.proofs.Common.{arith, string_bytes}
use Rattle.rl_refusals.proofs.PartLemmas.{all_names, read_name_at, says_more_read}
use Rattle.rl_refusals.proofs.line.push_names.Goals as goal

pub push_part-requires : goal.push_part-requires
push_part-requires c = read_name_at c.args.symbols.now c.loop-at.at c.args.names.now (record { 0 = 0 }) (omega (arith, c.loop-at-test.true)) c.requires

pub loop-at-preserved : goal.loop-at-preserved
loop-at-preserved c =
    says_more_read c.args.symbols.now c.loop-at.at c.args.names.now (record { 0 = 0 }) (string_bytes c.args.out.now) (string_bytes c.loop-at.out) (string_bytes c.push_part.new.out)
    (omega (arith, c.loop-at-test.true)) c.loop-at.invariant c.in_ok-push_part.ensures

pub returns : goal.returns
returns c = all_names c.args.symbols.now c.loop-at.at c.args.names.now (string_bytes c.args.out.now) (string_bytes c.loop-at.out) (omega (arith, c.loop-at-test.false)) c.loop-at.invariant
