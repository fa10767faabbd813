use Rattle.std.proofs.Common.{◌≡◌, ◌++◌, ℕ, List, take}
use Rattle.mg_facts.specs.Classes.{IsShownPart}
use Rattle.mg_facts.proofs.classes.take_shown.Given as goal

abbrev pub invariant-loop-x : goal.invariant-loop-x
invariant-loop-x l = (part : List ℕ) × (l.nodes.items ≡ l.initial.nodes.items ++ part) × IsShownPart l.roots l.colours l.colour (take l.x-index l.firsts) part
