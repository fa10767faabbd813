use Rattle.lx_lexicon.proofs.MetLemmas.{known_is, members_are}
use Rattle.lx_lexicon.proofs.notes.Met.add.Goals as goal

pub returns-clause-known : goal.returns-clause-known
returns-clause-known c = rw (← c.self.view_is) (known_is c.self.inside.names.keys c.args.name.0 _ c.in_ok-new.ensures.added)

pub returns-clause-members : goal.returns-clause-members
returns-clause-members c = λ n. rw (← c.self.view_is) (members_are c.self.inside.names.keys _ c.args.name.0 c.in_ok-new.ensures.keys n)
