use Rattle.std.proofs.Common.{◌+◌, ◌-◌, ◌*◌, length}
use denote.Text.{Utf8}
use denote.Shadow.{shadow}
use Rattle.td_canon.specs.CanonicalTexts.{text_in}
use Rattle.td_canon.proofs.ForestLemmas.{WritesSomeKids}
use Rattle.td_canon.proofs.writing.+trees.Given as goal

-- a call for the children of a node stands between the calls for the node and for what is behind it
abbrev pub decreases-push_kids : goal.decreases-push_kids
decreases-push_kids l = 2 * (length l.nodes.now - l.at)

abbrev pub decreases-push_tree : goal.decreases-push_tree
decreases-push_tree l = 2 * (length l.nodes.now - l.at) + 1

abbrev pub invariant-push_kids-kids : goal.invariant-push_kids-kids
invariant-push_kids-kids l = record {
  utf8 : shadow (Utf8 l.separator);
  written : WritesSomeKids (text_in l.symbols) l.nodes l.at l.place l.initial.draft l.draft l.separator;
}

abbrev pub decreases-push_kids-kids : goal.decreases-push_kids-kids
decreases-push_kids-kids l = length l.nodes - l.place
