-- How many nodes a description may have.
use Rattle.std.specs.Prelude.{ℕ}

-- the most description nodes of a forest, and so the most nodes of a tree
abbrev pub node_limit : ℕ
node_limit = 24
