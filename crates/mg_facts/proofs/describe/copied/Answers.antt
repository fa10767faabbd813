use Rattle.mg_facts.proofs.DescribeLemmas.{is_description_of}
use Rattle.mg_facts.proofs.LoopLemmas.{place_more}
use Rattle.mg_facts.proofs.FactsLemmas.{said_more}
use Rattle.mg_facts.proofs.describe.copied.Goals as goal
