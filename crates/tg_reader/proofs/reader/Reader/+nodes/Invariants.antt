use Rattle.std.proofs.Common.{◌≡◌, ◌≤◌, ◌+◌, ◌-◌, ◌*◌, ◌++◌, ◌∷◌, ℕ, List, length}
use Rattle.std.specs.Prelude.{Some}
use Rattle.gr_base.specs.Forests.{Forest}
use Rattle.gr_symbols.specs.Numbers.{Grows, first_texts}
use Rattle.gr_terms.specs.Canonical.{Node, Pairs}
use Rattle.tg_reader.specs.Reading.{AreKnownNodes, CanReadBehind, Later, Lays, Passes}
use Rattle.tg_reader.proofs.Forests.{NodesSoFar, nodes_row}
use Rattle.tg_reader.proofs.reader.Reader.+nodes.Given as goal

-- the call for the nodes under a node stands between the one for the node and those for them
abbrev pub decreases-kids : goal.decreases-kids
decreases-kids l = 2 * (24 - length l.nodes.now) + 1

abbrev pub decreases-node : goal.decreases-node
decreases-node l = 2 * (24 - length l.nodes.now)

abbrev pub invariant-kids-row : goal.invariant-kids-row
invariant-kids-row l = record {
  so_far : (text : ℕ → List ℕ) (f : Forest (Node Pairs)) (rest : List ℕ) → CanReadBehind text (length l.initial.nodes) f → l.initial.self.rest.now ≡ nodes_row text f ++ 41 ∷ rest →
      NodesSoFar text (Some l.parent) f (41 ∷ rest) l.initial.nodes l.nodes l.initial.symbols l.symbols l.self.rest.now;
  known : Grows first_texts l.initial.symbols → Later l.initial.symbols (AreKnownNodes l.initial.nodes) → Later l.symbols (AreKnownNodes l.nodes);
  lays : Lays (Some l.parent) l.initial.nodes l.nodes;
  few : length l.nodes ≤ 24;
  more : length l.initial.nodes ≤ length l.nodes;
  passes : Passes l.initial.symbols l.symbols l.initial.self.rest.now l.self.rest.now;
}

abbrev pub decreases-kids-row : goal.decreases-kids-row
decreases-kids-row l = length l.self.rest.now
