use Rattle.gr_reader.proofs.ComplaintLemmas.{noted_append, first_is, none_is}
use Rattle.gr_reader.proofs.laws.first_complaint.Goals as goal

pub returns : goal.returns
returns g = record { first = λ cs c e. first_is cs c e; none = λ cs e. none_is cs e; parts = λ b cs ds. noted_append b cs ds }
