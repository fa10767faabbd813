use Rattle.std.proofs.Common.{◌≡◌, ◌++◌, ℕ, List, length}
use Rattle.gr_terms.specs.Canonical.{Pairs}
use Rattle.tg_reader.specs.Naming.{pair_names}
use Rattle.tg_reader.specs.Reading.{CanReadPairs, IsKnownBag, IsPairsEnd, Later, Passes, PutsPair, pair_text}
use Rattle.tg_reader.proofs.Rows.{SoFar, row}
use Rattle.tg_reader.proofs.reader.Reader.pairs.Given as goal

abbrev pub invariant-row : goal.invariant-row
invariant-row l = record {
  so_far : (text : ℕ → List ℕ) (ps : Pairs) (rest : List ℕ) → CanReadPairs text ps → IsPairsEnd rest → l.initial.self.rest.now ≡ row (pair_text text) 44 ps ++ rest →
      SoFar (pair_text text) 44 (pair_names text) (PutsPair text) ps rest l.initial.bag l.bag l.initial.symbols l.symbols l.self.rest.now;
  known : Later l.initial.symbols (IsKnownBag l.initial.bag) → Later l.symbols (IsKnownBag l.bag);
  passes : Passes l.initial.symbols l.symbols l.initial.self.rest.now l.self.rest.now;
}

abbrev pub decreases-row : goal.decreases-row
decreases-row l = length l.self.rest.now
