use Rattle.gr_grammar.specs.Grammars.{tree_of}
use Rattle.gr_grammar.proofs.Fronts.{front_of}
use Rattle.tg_syntax.specs.Breaks.{whole}
use Rattle.tg_syntax.specs.Files.{system}
use Rattle.tg_syntax.proofs.NameLemmas.{dashed_names}
use Rattle.tg_syntax.proofs.breaks.name_at.Goals as goal

pub taken-requires : goal.taken-requires
taken-requires c = let f = front_of system (tree_of c.in-Ok.ensures) in (f.front, f.split)

pub returns-in-Ok : goal.returns-in-Ok
returns-in-Ok c = whole _ _ c.taken.ensures c.in-Ok.ensures

pub returns-in-Err : goal.returns-in-Err
returns-in-Err c = dashed_names (λ p. p.0.now) (λ p. p.1.now) c.dashed_name.result c.in-Err.ensures c.dashed_name.ensures
