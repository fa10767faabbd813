use Rattle.rl_top.proofs.outcome.written.Goals as goal

pub returns-clause-status : goal.returns-clause-status
returns-clause-status c = c.ending.ensures c.args.symbols.now
