use Rattle.mg_facts.proofs.StatedLemmas.{IsStated-forgotten, forgotten_length, reads_forgotten}
use Rattle.mg_facts.proofs.stated.Stated.forget.Goals as goal

pub invariant_of-self : goal.invariant_of-self
invariant_of-self c = IsStated-forgotten _ _ _ _ _ _ _ c.self.invariant c.keep.new.self c.keep.ensures

pub returns-clause-reads : goal.returns-clause-reads
returns-clause-reads c = reads_forgotten _ _ _ _ _ _ _ c.self.invariant c.keep.new.self c.keep.ensures c.args.self.now c.self.view_is

pub returns-clause-settled : goal.returns-clause-settled
returns-clause-settled c = forgotten_length _ _ _ _ _ _ _ c.self.invariant c.keep.new.self c.keep.ensures
