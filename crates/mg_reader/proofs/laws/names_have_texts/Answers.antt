use Rattle.mg_reader.proofs.Named.{names_have_texts}
use Rattle.mg_reader.proofs.laws.names_have_texts.Goals as goal

pub returns : goal.returns
returns c bytes texts later m first grows = names_have_texts texts later first grows bytes m
