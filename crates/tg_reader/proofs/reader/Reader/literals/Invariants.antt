use Rattle.std.proofs.Common.{◌≡◌, ◌++◌, ℕ, List, length}
use Rattle.std.specs.Prelude.{codes}
use Rattle.gr_base.specs.Lists.{Each}
use Rattle.gr_terms.specs.Canonical.{Label, Literal}
use Rattle.td_canon.specs.TreeText.{literal_text}
use Rattle.tg_reader.specs.Naming.{literal_names}
use Rattle.tg_reader.specs.Reading.{AppendsLiteral, AreKnownLiterals, CanReadLiteral, Differs, Later, Passes}
use Rattle.tg_reader.proofs.Rows.{SoFar, row}
use Rattle.tg_reader.proofs.reader.Reader.literals.Given as goal

abbrev pub invariant-row : goal.invariant-row
invariant-row l = record {
  so_far : (text : ℕ → List ℕ) (ls : List (Literal Label)) (rest : List ℕ) → Each (CanReadLiteral text) ls → Differs (codes " ") rest → l.initial.self.rest.now ≡ row (literal_text text) 32 ls ++ rest →
      SoFar (literal_text text) 32 (literal_names text) (AppendsLiteral text) ls rest l.initial.literals l.literals l.initial.symbols l.symbols l.self.rest.now;
  known : Later l.symbols (AreKnownLiterals l.literals);
  passes : Passes l.initial.symbols l.symbols l.initial.self.rest.now l.self.rest.now;
}

abbrev pub decreases-row : goal.decreases-row
decreases-row l = length l.self.rest.now
