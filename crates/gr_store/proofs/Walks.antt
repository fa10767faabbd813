-- Walks along a ring, step by step.
use Rattle.std.proofs.Common.{◌≡◌, ◌≢◌, ℕ, ◌+◌, ◌<◌, inl, inr, List, [], ◌∷◌, ◌++◌, length, get_or, take, drop, sym, ◌∙◌, ap, subst, arith}
use Rattle.std.proofs.lemmas.Bool.{cases_lt}
use Rattle.std.proofs.lemmas.List.{drop_more, take_more, take_all, drop_all, length-take-le}
use Rattle.gr_base.specs.Lists.{IsAmong}
use Rattle.gr_base.proofs.OrderedPairs.{IsAmong-Contains}
use Rattle.gr_store.specs.declared.bindings.Bound.{Bound}
use Rattle.gr_store.specs.Rings.{next_of, ring_of, IsWalk, HasRing, HasWalked}
use Rattle.gr_store.proofs.RingLemmas.{length-ring}

pub HasWalked-start : (nodes : ℕ × List Bound) (root : ℕ) → HasRing nodes root → root < nodes.0 → HasWalked nodes root root 0
HasWalked-start nodes root r root_in = record { within = omega arith; rest = r.walk; in_range = root_in }

-- a walk that has not come to its end goes on to the next node of the ring
pub record HasStepped (nodes : ℕ × List Bound) (root next i : ℕ) : Type 0 where
  pub below : i < length (ring_of nodes.1 root)
  pub more : take (i + 1) (ring_of nodes.1 root) ≡ take i (ring_of nodes.1 root) ++ next ∷ []
  pub member : IsAmong (ring_of nodes.1 root) next
  pub walked : HasWalked nodes root next (i + 1)

module _ (nodes : ℕ × List Bound) (root at i next : ℕ) (r : HasRing nodes root) (w : HasWalked nodes root at i) (next_is : next ≡ get_or (next_of nodes) at 0) where
  ring : List ℕ
  ring = ring_of nodes.1 root

  goes_on : i < length (ring_of nodes.1 root) → IsWalk (next_of nodes) at (get_or (ring_of nodes.1 root) i next ∷ drop (i + 1) (ring_of nodes.1 root)) root
  goes_on below = subst (λ (list : List ℕ). IsWalk (next_of nodes) at list root) (drop_more (ring_of nodes.1 root) i next below) w.rest

  member_at : i < length (ring_of nodes.1 root) → get_or (ring_of nodes.1 root) i next ≡ next → IsAmong (ring_of nodes.1 root) next
  member_at below here = IsAmong-Contains (ring_of nodes.1 root) next (i, below, here)

  -- where the walk comes back, it has been at each node of the ring
  pub walk_ends : next ≡ root → take i (ring_of nodes.1 root) ≡ ring_of nodes.1 root
  walk_ends back = elim (cases_lt i (length (ring_of nodes.1 root))) [
    | inl below ↦ absurd (r.once.0 (subst (IsAmong (ring_of nodes.1 root)) back (member_at below (sym (goes_on below).0 ∙ sym next_is))))
    | inr past ↦ take_all i (ring_of nodes.1 root) past
  ]

  pub walk_length : next ≡ root → i ≡ length (ring_of nodes.1 root)
  walk_length back = sym (length-take-le i (ring_of nodes.1 root) w.within) ∙ ap length (walk_ends back)

  pub walk_goes_on : next ≢ root → HasStepped nodes root next i
  walk_goes_on other = elim (cases_lt i (length (ring_of nodes.1 root))) [
    | inl below ↦
        let walk = goes_on below in
        let here : get_or (ring_of nodes.1 root) i next ≡ next = sym walk.0 ∙ sym next_is in
        let among = member_at below here in
        record {
          below = below;
          more = take_more (ring_of nodes.1 root) i next below ∙ ap (λ (x : ℕ). take i (ring_of nodes.1 root) ++ x ∷ []) here;
          member = among;
          walked = record { within = omega arith; rest = subst (λ (x : ℕ). IsWalk (next_of nodes) x (drop (i + 1) (ring_of nodes.1 root)) root) here walk.1; in_range = (r.only next among).0 };
        }
    | inr past ↦
        let done : IsWalk (next_of nodes) at [] root = subst (λ (list : List ℕ). IsWalk (next_of nodes) at list root) (drop_all i (ring_of nodes.1 root) past) w.rest in
        absurd (other (next_is ∙ done))
  ]

-- a walk has fewer steps than there are nodes
pub walk_short : (nodes : ℕ × List Bound) (root at i : ℕ) → HasRing nodes root → root < nodes.0 → HasWalked nodes root at i → i < nodes.0
walk_short nodes root at i r root_in w = omega (arith, w.within, length-ring nodes (next_of nodes) root (ring_of nodes.1 root) r root_in)
