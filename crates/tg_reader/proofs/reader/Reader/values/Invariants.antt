use Rattle.std.proofs.Common.{◌≡◌, ◌++◌, ℕ, List, length}
use Rattle.gr_base.specs.Lists.{Each}
use Rattle.gr_terms.specs.Canonical.{Label}
use Rattle.td_canon.specs.TreeText.{label_text}
use Rattle.tg_reader.specs.Naming.{label_names}
use Rattle.tg_reader.specs.Reading.{AppendsValue, AreKnownTerms, CanRead, IsValuesEnd, Later, Passes}
use Rattle.tg_reader.proofs.Rows.{SoFar, row}
use Rattle.tg_reader.proofs.reader.Reader.values.Given as goal

abbrev pub invariant-row : goal.invariant-row
invariant-row l = record {
  so_far : (text : ℕ → List ℕ) (vs : List Label) (rest : List ℕ) → Each (CanRead text) vs → IsValuesEnd rest → l.initial.self.rest.now ≡ row (label_text text) 32 vs ++ rest →
      SoFar (label_text text) 32 (label_names text) (AppendsValue text) vs rest l.initial.values l.values l.initial.symbols l.symbols l.self.rest.now;
  known : Later l.initial.symbols (AreKnownTerms l.initial.values) → Later l.symbols (AreKnownTerms l.values);
  passes : Passes l.initial.symbols l.symbols l.initial.self.rest.now l.self.rest.now;
}

abbrev pub decreases-row : goal.decreases-row
decreases-row l = length l.self.rest.now
