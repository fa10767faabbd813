use Rattle.mg_reader.proofs.Named.{names_have_texts}
use Rattle.mg_printer.proofs.RoundTrip.{read_again}
use Rattle.mg_printer.proofs.laws.printed_and_read.Goals as goal

pub returns : goal.returns
returns c = record { texts = λ bytes texts later m first grows distinct g. names_have_texts texts later first grows bytes m g; again = read_again }
