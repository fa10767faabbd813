-- Classes of numbered nodes, made by bindings, and the rings in which a class is walked.
use Rattle.std.specs.Prelude.{◌≡◌, ℕ, ◌<◌, ◌≤◌, List, [], ◌∷◌, ◌++◌, nat_eq, if◌then◌else◌, get_or, length, take, drop}
use Rattle.std.specs.List.{range_with_len, swap}
use Rattle.gr_base.specs.Lists.{IsAmong, NoneTwice}
use Rattle.gr_terms.specs.declared.Term.{Term}
use Rattle.gr_terms.specs.declared.Term.TheVariants.{Const, Var}
use Rattle.gr_store.specs.declared.bindings.Bound.{Bound}
use Rattle.gr_store.specs.Roots.{root_by}

-- the node that a term stands for
abbrev pub node_of : Term → ℕ
node_of (Const s) = 0
node_of (Var i) = i

-- where each node leads to: a binding exchanges where its two nodes lead
abbrev pub turned : List Bound → List ℕ → List ℕ
turned [] next = next
turned (e ∷ trail) next = turned trail (swap next e.var (node_of e.to))

-- at first each of the nodes leads to itself
abbrev pub next_of : ℕ × List Bound → List ℕ
next_of nodes = turned nodes.1 (range_with_len 0 nodes.0)

-- the node's ring, but the node itself, before and after a binding
abbrev pub joined_rings : Bound → (ℕ → List ℕ) → ℕ → List ℕ
joined_rings e rings x = if nat_eq x (node_of e.to) then rings e.var ++ e.var ∷ rings x else rings x

abbrev pub rings_by : List Bound → (ℕ → List ℕ) → ℕ → List ℕ
rings_by [] rings = rings
rings_by (e ∷ trail) rings = rings_by trail (joined_rings e rings)

abbrev pub ring_of : List Bound → ℕ → List ℕ
ring_of trail = rings_by trail (λ x. [])

-- from x the walk leads through the list to y
abbrev pub IsWalk : List ℕ → ℕ → List ℕ → ℕ → Type 0
IsWalk next x [] y = get_or next x 0 ≡ y
IsWalk next x (z ∷ zs) y = (get_or next x 0 ≡ z) × IsWalk next z zs y

-- the walk from the root leads through the ring, which has all other nodes of its class, each once, and back
pub record IsRing (nodes : ℕ × List Bound) (next : List ℕ) (root : ℕ) (ring : List ℕ) : Type 0 where
  pub is_root : root_by nodes.1 (Var root) ≡ Var root
  pub walk : IsWalk next root ring root
  pub once : NoneTwice (root ∷ ring)
  pub only : (x : ℕ) → IsAmong ring x → (x < nodes.0) × (root_by nodes.1 (Var x) ≡ Var root)
  pub all : (x : ℕ) → root_by nodes.1 (Var x) ≡ Var root → IsAmong (root ∷ ring) x

abbrev pub HasRing : ℕ × List Bound → ℕ → Type 0
HasRing nodes root = IsRing nodes (next_of nodes) root (ring_of nodes.1 root)

-- after i steps from the root the walk has come to a node
pub record HasWalked (nodes : ℕ × List Bound) (root at i : ℕ) : Type 0 where
  pub within : i ≤ length (ring_of nodes.1 root)
  pub rest : IsWalk (next_of nodes) at (drop i (ring_of nodes.1 root)) root
  pub in_range : at < nodes.0

-- a node is bound to a lower one
pub record BindsNode (n : ℕ) (e : Bound) : Type 0 where
  pub in_range : e.var < n
  pub is_node : e.to ≡ Var (node_of e.to)
  pub lower : node_of e.to < e.var

-- the list has where each node leads to, and each root is on the ring of its class, also before the last bindings
pub record AreRings (nodes : ℕ × List Bound) (next : List ℕ) : Type 0 where
  pub is_next : next ≡ next_of nodes
  pub steps : (k : ℕ) (d : Bound) → k < length nodes.1 → BindsNode nodes.0 (get_or nodes.1 k d)
  pub always : (k r : ℕ) → k ≤ length nodes.1 → r < nodes.0 → root_by (take k nodes.1) (Var r) ≡ Var r → HasRing (nodes.0, take k nodes.1) r
