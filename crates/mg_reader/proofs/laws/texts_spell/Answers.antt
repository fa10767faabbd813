use Rattle.mg_reader.proofs.Spelled.{spelled_metagrammar, few_classes}
use Rattle.mg_reader.proofs.laws.texts_spell.Goals as goal

pub returns-clause-spelled : goal.returns-clause-spelled
returns-clause-spelled c ts m e = spelled_metagrammar m e

pub returns-clause-few : goal.returns-clause-few
returns-clause-few c ts m e = few_classes m e
