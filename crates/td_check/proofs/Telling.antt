-- A tree beside the model's tree: what the code finds of the store's network is what is said of the merged network.
use Rattle.std.specs.Prelude.{◌≡◌, ℕ, zero, suc, ◌+◌, ◌<◌, ◌≤◌, List, [], ◌∷◌, ◌++◌, map, length, slice_get, slice_index, ◌⊎◌, ◌↔◌, ⊤, Option, Some, None, refl}
use Rattle.std.proofs.Common.{inl, inr, ap, ap₂, sym, ◌∙◌, subst, arith, get_or}
use Rattle.std.proofs.lemmas.List.{map-append, length-map}
use Rattle.std.proofs.lemmas.Option.{none-some, same_Some, slice_get_within}
use Rattle.gr_base.specs.Lists.{IsAmong}
use Rattle.gr_base.specs.Forests.{Forest, empty, tree, labels, map_forest, size, AreAlike}
use Rattle.gr_base.proofs.ListLemmas.{IsAmong-map, IsAmong-map_from, slice_get-IsAmong, IsAmong-slice_get, slice_get-mapped}
use Rattle.gr_base.proofs.ForestLemmas.{labels-map}
use Rattle.gr_terms.specs.Canonical.{Node, node_slots, Decorated, Literal, literal_terms}
use Rattle.gr_terms.specs.Networks.{Term, name, Assertion, AreLinked, next, back, same, HasValue, Agrees}
use Rattle.gr_terms.specs.Views.{term_of, network_of}
use Rattle.gr_terms.specs.BagViews.{pairs_of}
use Rattle.gr_terms.specs.LiteralViews.{literal_of, literals_of}
use Rattle.gr_terms.specs.declared.Sym.{Sym}
use Rattle.gr_terms.specs.declared.Term as code_term
use Rattle.gr_terms.specs.declared.Literal as code_literal
use Rattle.gr_terms.specs.declared.Assertion as code_assertion
use Rattle.gr_store.specs.Contents.{MentionsAll}
use Rattle.td_desc.specs.Descriptions as described
use Rattle.td_desc.specs.Descriptions.{node_of, description_of}
use Rattle.td_desc.specs.declared.DescribedNode.{DescribedNode}
use Rattle.td_desc.specs.declared.Description.{Description}
use Rattle.td_tree.specs.Trees.{BagPairs, preorder}
use Rattle.td_tree.specs.TreeViews.{Pairs, lists_of, decorated_of}
use Rattle.td_tree.specs.declared.TreeNode.{TreeNode}
use Rattle.td_tree.specs.declared.Tree.{Tree}
use Rattle.td_colour.specs.Models.{merged_network, model_tree, slots_at}
use Rattle.td_check.specs.Sets.{SendsTo, sent_from, sent_to, sets_from, sets_of}
use Rattle.td_check.specs.Shifts.{counted_from, moved}
use Rattle.td_check.specs.ModelTrees.{Beside, HaveAttributes, AreLists, of_node, of_interface, AreInLiterals, of_literal, StandsFor, in_list, in_literal, IsTreeOf}
use Rattle.td_check.specs.Places.{AreLaid, IsFirstSent, AreHeads, set_list, PassesPair, PassesBag, PassesNode, PassesTerm, PassesLiteral, PassesNodes, Passes, FitsBeside, FitsAll, ListsAll, ListsNode, ListsNodes}
use Rattle.td_check.proofs.Onto.{sent_first, sent_other, labels-sets}
use Rattle.td_check.proofs.Ends.{length-laid}
use Rattle.td_check.proofs.Renumbering.{later, later-counted, linked_loaded, value_loaded, loaded_value}
use Rattle.td_check.proofs.Passing.{Respects, values_linked, beside_respects, fitting_respects}

-- ---- lists of what a function gives

record MapAt {A B : Type 0} (h : A → B) (xs : List A) (k : ℕ) (b : B) : Type 0 where
  pub from : A
  pub at : slice_get xs k ≡ Some from
  pub is : b ≡ h from

map_at : {A B : Type 0} (h : A → B) (xs : List A) (k : ℕ) (b : B) → slice_get (map h xs) k ≡ Some b → MapAt h xs k b
map_at h [] k b e = absurd (none-some b e)
map_at h (x ∷ xs) zero b e = record { from = x; at = refl; is = sym (same_Some (h x) b e) }
map_at h (x ∷ xs) (suc k) b e = let r = map_at h xs k b e in record { from = r.from; at = r.at; is = r.is }

map_map : {A B C : Type 0} (h : B → C) (g : A → B) (xs : List A) → map h (map g xs) ≡ map (λ x. h (g x)) xs
map_map h g [] = refl
map_map h g (x ∷ xs) = ap (λ zs. h (g x) ∷ zs) (map_map h g xs)

some_node : (xs : List DescribedNode) (k : ℕ) → k < length xs → (x : DescribedNode) × (slice_get xs k ≡ Some x)
some_node [] k l = absurd (omega arith)
some_node (y ∷ ys) zero l = (y, refl)
some_node (y ∷ ys) (suc k) l = some_node ys k (omega arith)

-- ---- the nodes of the tree

abbrev bags_of : TreeNode → Node BagPairs
bags_of n = record { own = n.own; top = n.top; bottom = n.bot }

bags_laid : (n : ℕ) (parent : Option ℕ) (f : Forest (Node BagPairs)) → map bags_of (preorder n parent f) ≡ labels f
bags_laid n parent empty = refl
bags_laid n parent (tree b kids more) =
    ap (λ zs. b ∷ zs)
    (map-append bags_of (preorder (suc n) (Some n) kids) (preorder (suc n + size kids) parent more)
    ∙ ap₂ (λ xs ys. xs ++ ys) (bags_laid (suc n) (Some n) kids) (bags_laid (suc n + size kids) parent more))

-- ---- the first node of a set

first_is : (x t i h : ℕ) (map : List ℕ) → h ≡ x + i → slice_get map i ≡ Some t → ((j : ℕ) → j < i → slice_get map j ≡ Some t → ⊥) → (rest : List ℕ) × (sent_from x t map ≡ h ∷ rest)
first_is x t i h [] e at least = absurd (none-some t at)
first_is x t zero h (s ∷ map) e at least = let q : x ≡ h = omega arith in (sent_from (suc x) t map, sent_first x t s map (same_Some s t at) ∙ ap (λ z. z ∷ sent_from (suc x) t map) q)
first_is x t (suc i) h (s ∷ map) e at least =
    let ne : s ≡ t → ⊥ = λ q. least zero (omega arith) (ap Some q) in
    let r = first_is (suc x) t i h map (omega arith) at (λ j l p. least (suc j) (omega arith) p) in
    (r.0, sent_other x t s map ne ∙ r.1)

set_at : (map : List ℕ) (n count k t : ℕ) → t ≡ n + k → k < count → slice_get (set_list map n count) k ≡ Some (sent_to map t)
set_at map n zero k t e l = absurd (omega arith)
set_at map n (suc count) zero t e l = let q : n ≡ t = omega arith in ap (λ z. Some (sent_to map z)) q
set_at map n (suc count) (suc k) t e l = set_at map (suc n) count k t (omega arith) (omega arith)

slots_first : (nodes : List (described.DescribedNode ℕ)) (none h : ℕ) (rest : List ℕ) (m : described.DescribedNode ℕ) → slice_get nodes h ≡ Some m → slots_at nodes none (h ∷ rest) ≡ m.slots
slots_first nodes none h rest m e = by (slice_get nodes h) e
  where
    by : (o : Option (described.DescribedNode ℕ)) → o ≡ Some m → elim o [ None ↦ record { own = none; top = none; bottom = none } | Some n ↦ n.slots ] ≡ m.slots
    by None q = absurd (none-some m q)
    by (Some n) q = ap (λ (z : described.DescribedNode ℕ). z.slots) (same_Some n m q)

-- one of three places
pub data OneOfThree {A B : Type 0} (a b c : A) (p q r : B) (x : A) (y : B) : Type 0 where
  at_first : x ≡ a → y ≡ p → OneOfThree a b c p q r x y
  at_second : x ≡ b → y ≡ q → OneOfThree a b c p q r x y
  at_third : x ≡ c → y ≡ r → OneOfThree a b c p q r x y

pub three_at : {A B : Type 0} (a b c : A) (p q r : B) (j : ℕ) (x : A) (y : B) → slice_get (a ∷ b ∷ c ∷ []) j ≡ Some x → slice_get (p ∷ q ∷ r ∷ []) j ≡ Some y → OneOfThree a b c p q r x y
three_at a b c p q r zero x y e g = at_first (sym (same_Some a x e)) (sym (same_Some p y g))
three_at a b c p q r (suc zero) x y e g = at_second (sym (same_Some b x e)) (sym (same_Some q y g))
three_at a b c p q r (suc (suc zero)) x y e g = at_third (sym (same_Some c x e)) (sym (same_Some r y g))
three_at a b c p q r (suc (suc (suc j))) x y e g = absurd (none-some x e)

alike : {A B : Type 0} (h : List ℕ → A) (g : Node BagPairs → B) (n : ℕ) (map : List ℕ) (f : Forest (Node BagPairs)) → AreAlike (λ (x : A) (y : B). ⊤) (map_forest h (sets_from n map f)) (map_forest g f)
alike h g n map empty = tt
alike h g n map (tree a kids more) = (tt, alike h g (suc n) map kids, alike h g (suc n + size kids) map more)

-- ---- the two trees

module _ (d : Description) (t : Tree) (sends : List ℕ) (f : Forest (Node BagPairs)) (laid : AreLaid t.nodes f) (heads : List ℕ) (are : AreHeads sends (length t.nodes) heads) where
  abbrev pub Merged : List (Assertion ℕ ℕ)
  Merged = merged_network (description_of d) (sets_of sends f)

  abbrev pub Model : Decorated ℕ (Term ℕ)
  Model = model_tree (description_of d) (sets_of sends f)

  abbrev pub Found : Decorated Pairs (Term ℕ)
  Found = decorated_of f t

  found_labels : labels Found.nodes ≡ map (λ (n : TreeNode). lists_of (bags_of n)) t.nodes
  found_labels =
      labels-map lists_of f ∙ ap (λ z. map lists_of z) (sym (bags_laid 0 None f) ∙ ap (λ z. map bags_of z) (sym laid))
      ∙ map_map lists_of bags_of t.nodes

  model_labels : labels Model.nodes ≡ map (slots_at (description_of d).nodes d.iface.0) (set_list sends 0 (size f))
  model_labels = labels-map (slots_at (description_of d).nodes d.iface.0) (sets_of sends f) ∙ ap (λ z. map (slots_at (description_of d).nodes d.iface.0) z) (labels-sets 0 sends f)

  -- the slots of the description's node of a tree node
  head_slots : (k : ℕ) (m : DescribedNode) → k < length t.nodes → slice_get d.nodes (slice_index heads k) ≡ Some m → slice_get (labels Model.nodes) k ≡ Some (node_of m).slots
  head_slots k m l e =
      let c : length t.nodes ≡ size f = length-laid t.nodes f laid in
      let first = are k l in
      let set = first_is 0 k (slice_index heads k) (slice_index heads k) sends (omega arith) first.sent first.least in
      let here : slice_get (set_list sends 0 (size f)) k ≡ Some (sent_to sends k) = set_at sends 0 (size f) k k (omega arith) (omega arith) in
      let slots : slots_at (description_of d).nodes d.iface.0 (sent_to sends k) ≡ (node_of m).slots =
      ap (λ z. slots_at (description_of d).nodes d.iface.0 z) set.1 ∙ slots_first (description_of d).nodes d.iface.0 (slice_index heads k) set.0 (node_of m) (slice_get-mapped node_of d.nodes (slice_index heads k) m e) in
      ap (λ z. slice_get z k) model_labels ∙ slice_get-mapped (slots_at (description_of d).nodes d.iface.0) (set_list sends 0 (size f)) k (sent_to sends k) here ∙ ap Some slots

  -- a slot of the description and the list of the tree that stands there
  data IsSpot (s : ℕ) (bag : BagPairs) : Type 0 where
    own_spot : (k : ℕ) (n : TreeNode) (m : DescribedNode) → slice_get t.nodes k ≡ Some n → slice_get d.nodes (slice_index heads k) ≡ Some m → s ≡ m.own.0 → bag ≡ n.own → IsSpot s bag
    top_spot : (k : ℕ) (n : TreeNode) (m : DescribedNode) → slice_get t.nodes k ≡ Some n → slice_get d.nodes (slice_index heads k) ≡ Some m → s ≡ m.top.0 → bag ≡ n.top → IsSpot s bag
    bot_spot : (k : ℕ) (n : TreeNode) (m : DescribedNode) → slice_get t.nodes k ≡ Some n → slice_get d.nodes (slice_index heads k) ≡ Some m → s ≡ m.bot.0 → bag ≡ n.bot → IsSpot s bag
    interface_spot : s ≡ d.iface.0 → bag ≡ t.iface → IsSpot s bag

  -- the description's node is there
  head_node : (k : ℕ) → k < length t.nodes → length sends ≡ length d.nodes → (m : DescribedNode) × (slice_get d.nodes (slice_index heads k) ≡ Some m)
  head_node k l number =
      let first = are k l in
      let w : slice_index heads k < length sends = slice_get_within sends (slice_index heads k) k first.sent in
      some_node d.nodes (slice_index heads k) (omega arith)

  record Spotted (s : ℕ) (pairs : Pairs) : Type 0 where
    pub bag : BagPairs
    pub spot : IsSpot s bag
    pub is : pairs ≡ pairs_of bag

  spot_of : length sends ≡ length d.nodes → (s : ℕ) (pairs : Pairs) → AreLists Model Found s pairs → Spotted s pairs
  spot_of number s pairs (of_interface e g) = record { bag = t.iface; spot = interface_spot e refl; is = g }
  spot_of number s pairs (of_node n m b c) =
      let k = b.0 in
      let found = map_at (λ (n : TreeNode). lists_of (bags_of n)) t.nodes k m (ap (λ z. slice_get z k) (sym found_labels) ∙ b.2) in
      let l : k < length t.nodes = slice_get_within t.nodes k found.from found.at in
      let head = head_node k l number in
      let slots : n ≡ (node_of head.0).slots = same_Some n (node_of head.0).slots (sym b.1 ∙ head_slots k head.0 l head.1) in
      by k found.from head.0 found.at head.1
      (three_at head.0.own.0 head.0.top.0 head.0.bot.0 (pairs_of found.from.own) (pairs_of found.from.top) (pairs_of found.from.bot) c.0 s pairs
      (subst (λ z. slice_get (node_slots z) c.0 ≡ Some s) slots c.1) (subst (λ z. slice_get (node_slots z) c.0 ≡ Some pairs) found.is c.2))
    where
      by : (k : ℕ) (n : TreeNode) (m : DescribedNode) → slice_get t.nodes k ≡ Some n → slice_get d.nodes (slice_index heads k) ≡ Some m
          → OneOfThree m.own.0 m.top.0 m.bot.0 (pairs_of n.own) (pairs_of n.top) (pairs_of n.bot) s pairs → Spotted s pairs
      by k n m e g (at_first p q) = record { bag = n.own; spot = own_spot k n m e g p refl; is = q }
      by k n m e g (at_second p q) = record { bag = n.top; spot = top_spot k n m e g p refl; is = q }
      by k n m e g (at_third p q) = record { bag = n.bot; spot = bot_spot k n m e g p refl; is = q }

  node_beside : (k : ℕ) (n : TreeNode) (m : DescribedNode) → slice_get t.nodes k ≡ Some n → slice_get d.nodes (slice_index heads k) ≡ Some m
      → Beside (labels Model.nodes) (labels Found.nodes) (node_of m).slots (lists_of (bags_of n))
  node_beside k n m e g = (
    k,
    head_slots k m (slice_get_within t.nodes k n e) g,
    ap (λ z. slice_get z k) found_labels ∙ slice_get-mapped (λ (n : TreeNode). lists_of (bags_of n)) t.nodes k n e,
  )

  lists_spot : (s : ℕ) (bag : BagPairs) → IsSpot s bag → AreLists Model Found s (pairs_of bag)
  lists_spot s bag (own_spot k n m e g p q) = of_node (node_of m).slots (lists_of (bags_of n)) (node_beside k n m e g) (0, ap Some (sym p), ap (λ z. Some (pairs_of z)) (sym q))
  lists_spot s bag (top_spot k n m e g p q) = of_node (node_of m).slots (lists_of (bags_of n)) (node_beside k n m e g) (1, ap Some (sym p), ap (λ z. Some (pairs_of z)) (sym q))
  lists_spot s bag (bot_spot k n m e g p q) = of_node (node_of m).slots (lists_of (bags_of n)) (node_beside k n m e g) (2, ap Some (sym p), ap (λ z. Some (pairs_of z)) (sym q))
  lists_spot s bag (interface_spot p q) = of_interface p (ap pairs_of q)

  -- ---- the store's network

  module _ (number : length sends ≡ length d.nodes) (vars slots : ℕ) (list : List code_assertion.Assertion) (mentions : MentionsAll vars slots list) where
    abbrev pub Loaded : List (Assertion ℕ ℕ)
    Loaded = network_of list ++ moved vars slots Merged

    bag_spot : (P : Term ℕ → Term ℕ → Type 0) → Passes Loaded P d t heads vars slots → (s : ℕ) (bag : BagPairs) → IsSpot s bag → PassesBag Loaded P (slots + s) bag
    bag_spot P h s bag (own_spot k n m e g p q) = subst (λ z. PassesBag Loaded P (slots + s) z) (sym q) (subst (λ z. PassesBag Loaded P (slots + z) n.own) (sym p) (h.nodes k n e m g).own)
    bag_spot P h s bag (top_spot k n m e g p q) = subst (λ z. PassesBag Loaded P (slots + s) z) (sym q) (subst (λ z. PassesBag Loaded P (slots + z) n.top) (sym p) (h.nodes k n e m g).top)
    bag_spot P h s bag (bot_spot k n m e g p q) = subst (λ z. PassesBag Loaded P (slots + s) z) (sym q) (subst (λ z. PassesBag Loaded P (slots + z) n.bot) (sym p) (h.nodes k n e m g).bot)
    bag_spot P h s bag (interface_spot p q) = subst (λ z. PassesBag Loaded P (slots + s) z) (sym q) (subst (λ z. PassesBag Loaded P (slots + z) t.iface) (sym p) h.interface)

    -- what passes at each place holds of each value for what it stands for
    stands_passes : (P : Term ℕ → Term ℕ → Type 0) → Respects Loaded P → Passes Loaded P d t heads vars slots → (w x : Term ℕ) → StandsFor Merged Model Found w x → P w (later vars x)
    stands_passes P respects h w x (in_list s pairs a lists among has) =
        let r = spot_of number s pairs lists in
        let from = IsAmong-map_from (λ (p : Sym × code_term.Term). (p.0.0, term_of p.1)) r.bag (a, w) (subst (λ z. IsAmong z (a, w)) r.is among) in
        let p = from.0 in
        let a_is : a ≡ p.0.0 = ap (λ (z : ℕ × Term ℕ). z.0) from.2 in
        let w_is : w ≡ term_of p.1 = ap (λ (z : ℕ × Term ℕ). z.1) from.2 in
        let place = slice_get-IsAmong r.bag p from.1 in
        let passes = bag_spot P h s r.bag r.spot place.0 p place.1 in
        let value : HasValue Loaded (slots + s) p.0.0 (later vars x) = subst (λ z. HasValue Loaded (slots + s) z (later vars x)) a_is (loaded_value vars slots list mentions Merged s a x has) in
        subst (λ z. P z (later vars x)) (sym w_is) (respects (term_of p.1) passes.0 (later vars x) (values_linked Loaded (slots + s) p.0.0 passes.0 (later vars x) passes.1 value) passes.2)
    stands_passes P respects h w x (in_literal (of_literal l k b c)) =
        let i = b.0 in
        let dl = map_at literal_of d.sem i l b.1 in
        let tl = map_at literal_of t.sem i k b.2 in
        term_passes P tl.from dl.from (h.literals i tl.from tl.at dl.from dl.at) c.0 w x
        (subst (λ z. slice_get (literal_terms z) c.0 ≡ Some x) dl.is c.1) (subst (λ z. slice_get (literal_terms z) c.0 ≡ Some w) tl.is c.2)
      where
        by : (P : Term ℕ → Term ℕ → Type 0) (k l : code_term.Term) (w x : Term ℕ) → PassesTerm P vars k l → term_of k ≡ w → term_of l ≡ x → P w (later vars x)
        by P k l w x h e g = subst (λ z. P z (later vars x)) e (subst (λ z. P (term_of k) (later vars z)) g (subst (λ z. P (term_of k) z) (later-counted vars l) h))

        term_passes : (P : Term ℕ → Term ℕ → Type 0) (k l : code_literal.Literal) → PassesLiteral P vars k l → (j : ℕ) (w x : Term ℕ) → slice_get (literal_terms (literal_of l)) j ≡ Some x → slice_get (literal_terms (literal_of k)) j ≡ Some w → P w (later vars x)
        term_passes P k l h zero w x e g = by P k.handle l.handle w x h.handle (same_Some (term_of k.handle) w g) (same_Some (term_of l.handle) x e)
        term_passes P k l h (suc zero) w x e g = by P k.pred l.pred w x h.pred (same_Some (term_of k.pred) w g) (same_Some (term_of l.pred) x e)
        term_passes P k l h (suc (suc j)) w x e g =
            let q = map_at term_of k.args j w g in
            let r = map_at term_of l.args j x e in
            by P q.from r.from w x (h.args j q.from q.at r.from r.at) (sym q.is) (sym r.is)

    -- and the other way round, where the lists have the attributes of the slots and the literals are as long
    module _ (told : IsTreeOf Merged Model Found) where
      spot_bag : (P : Term ℕ → Term ℕ → Type 0) → ((w x : Term ℕ) → StandsFor Merged Model Found w x → P w (later vars x)) → (s : ℕ) (bag : BagPairs) → IsSpot s bag → PassesBag Loaded P (slots + s) bag
      spot_bag P h s bag spot i p e =
          let lists = lists_spot s bag spot in
          let among : IsAmong (pairs_of bag) (p.0.0, term_of p.1) = IsAmong-map (λ (p : Sym × code_term.Term). (p.0.0, term_of p.1)) bag p (IsAmong-slice_get bag i p e) in
          let has = (told.lists s (pairs_of bag) lists).there p.0.0 (term_of p.1) among in
          (later vars has.0, loaded_value vars slots list mentions Merged s p.0.0 has.0 has.1, h (term_of p.1) has.0 (in_list s (pairs_of bag) p.0.0 lists among has.1))

      same_number : length t.sem ≡ length d.sem
      same_number =
          sym (length-map (literals_of t.sem) (λ (l : Literal (Term ℕ)). length l.args) ∙ length-map t.sem literal_of)
          ∙ sym (ap length told.literals)
          ∙ length-map (literals_of d.sem) (λ (l : Literal (Term ℕ)). length l.args) ∙ length-map d.sem literal_of

      same_arguments : (i : ℕ) (k l : code_literal.Literal) → slice_get t.sem i ≡ Some k → slice_get d.sem i ≡ Some l → length k.args ≡ length l.args
      same_arguments i k l e g =
          let a : slice_get (map (λ (l : Literal (Term ℕ)). length l.args) (literals_of d.sem)) i ≡ Some (length (map term_of l.args)) =
          slice_get-mapped (λ (l : Literal (Term ℕ)). length l.args) (literals_of d.sem) i (literal_of l) (slice_get-mapped literal_of d.sem i l g) in
          let b : slice_get (map (λ (l : Literal (Term ℕ)). length l.args) (literals_of t.sem)) i ≡ Some (length (map term_of k.args)) =
          slice_get-mapped (λ (l : Literal (Term ℕ)). length l.args) (literals_of t.sem) i (literal_of k) (slice_get-mapped literal_of t.sem i k e) in
          let same : length (map term_of l.args) ≡ length (map term_of k.args) = same_Some (length (map term_of l.args)) (length (map term_of k.args)) (sym a ∙ ap (λ z. slice_get z i) told.literals ∙ b) in
          sym (length-map k.args term_of) ∙ sym same ∙ length-map l.args term_of

      term_stands : (P : Term ℕ → Term ℕ → Type 0) → ((w x : Term ℕ) → StandsFor Merged Model Found w x → P w (later vars x)) → (i j : ℕ) (k l : code_literal.Literal) (w x : code_term.Term)
          → slice_get t.sem i ≡ Some k → slice_get d.sem i ≡ Some l → slice_get (literal_terms (literal_of l)) j ≡ Some (term_of x) → slice_get (literal_terms (literal_of k)) j ≡ Some (term_of w) → PassesTerm P vars w x
      term_stands P h i j k l w x e g p q =
          subst (λ z. P (term_of w) z) (sym (later-counted vars x))
          (h (term_of w) (term_of x) (in_literal (of_literal (literal_of l) (literal_of k) (i, slice_get-mapped literal_of d.sem i l g, slice_get-mapped literal_of t.sem i k e) (j, p, q))))

      passes_stands : (P : Term ℕ → Term ℕ → Type 0) → ((w x : Term ℕ) → StandsFor Merged Model Found w x → P w (later vars x)) → Passes Loaded P d t heads vars slots
      passes_stands P h = record {
        nodes = λ k n e m g. record {
          own = spot_bag P h m.own.0 n.own (own_spot k n m e g refl refl);
          top = spot_bag P h m.top.0 n.top (top_spot k n m e g refl refl);
          bot = spot_bag P h m.bot.0 n.bot (bot_spot k n m e g refl refl);
        };
        interface = spot_bag P h d.iface.0 t.iface (interface_spot refl refl);
        number = same_number;
        literals = λ i k e l g. record {
          number = same_arguments i k l e g;
          handle = term_stands P h i 0 k l k.handle l.handle e g refl refl;
          pred = term_stands P h i 1 k l k.pred l.pred e g refl refl;
          args = λ j w p x q. term_stands P h i (suc (suc j)) k l w x e g (slice_get-mapped term_of l.args j x q) (slice_get-mapped term_of k.args j w p);
        };
      }

      slot_lists : (s : ℕ) (bag : BagPairs) → IsSpot s bag → ListsAll Loaded (slots + s) bag
      slot_lists s bag spot a z has =
          let r = value_loaded vars slots list mentions Merged s a.0 z has in
          let w = (told.lists s (pairs_of bag) (lists_spot s bag spot)).all a.0 r.value r.has in
          let from = IsAmong-map_from (λ (p : Sym × code_term.Term). (p.0.0, term_of p.1)) bag (a.0, w.0) w.1 in
          let same_attribute : a.0 ≡ from.0.0.0 = ap (λ (z : ℕ × Term ℕ). z.0) from.2 in
          (from.0.1, subst (λ (z : Sym). IsAmong bag (z, from.0.1)) (ap (λ n. record { 0 = n }) (sym same_attribute)) from.1)

      pub nodes_told : ListsNodes Loaded d t heads slots
      nodes_told k n e m g = record {
        own = slot_lists m.own.0 n.own (own_spot k n m e g refl refl);
        top = slot_lists m.top.0 n.top (top_spot k n m e g refl refl);
        bot = slot_lists m.bot.0 n.bot (bot_spot k n m e g refl refl);
      }

      pub interface_told : ListsAll Loaded (slots + d.iface.0) t.iface
      interface_told = slot_lists d.iface.0 t.iface (interface_spot refl refl)

      module _ (agrees : Agrees (network_of list)) (own : Agrees Merged) where
        fits_told : (w x : Term ℕ) → StandsFor Merged Model Found w x → FitsAll Loaded d t heads vars slots w (later vars x)
        fits_told w x stands = record {
          names = λ a. (
            (λ e. (linked_loaded vars slots list mentions Merged agrees own x (name a)).1 ((told.names w x a stands).0 e)),
            (λ l. (told.names w x a stands).1 ((linked_loaded vars slots list mentions Merged agrees own x (name a)).0 l)),
          );
          beside = passes_stands (FitsBeside Loaded w (later vars x)) (λ v y other. (
            (λ e. (linked_loaded vars slots list mentions Merged agrees own x y).1 ((told.values w v x y stands other).0 e)),
            (λ l. (told.values w v x y stands other).1 ((linked_loaded vars slots list mentions Merged agrees own x y).0 l)),
          ));
        }

        pub values_told : Passes Loaded (FitsAll Loaded d t heads vars slots) d t heads vars slots
        values_told = passes_stands (FitsAll Loaded d t heads vars slots) fits_told

    -- ---- what the code found says that the tree is the model's

    module _ (agrees : Agrees (network_of list)) (own : Agrees Merged) (nodes : ListsNodes Loaded d t heads slots) (interface : ListsAll Loaded (slots + d.iface.0) t.iface)
        (values : Passes Loaded (FitsAll Loaded d t heads vars slots) d t heads vars slots) where
      lists_at : (s : ℕ) (bag : BagPairs) → IsSpot s bag → ListsAll Loaded (slots + s) bag
      lists_at s bag (own_spot k n m e g p q) = subst (λ z. ListsAll Loaded (slots + s) z) (sym q) (subst (λ z. ListsAll Loaded (slots + z) n.own) (sym p) (nodes k n e m g).own)
      lists_at s bag (top_spot k n m e g p q) = subst (λ z. ListsAll Loaded (slots + s) z) (sym q) (subst (λ z. ListsAll Loaded (slots + z) n.top) (sym p) (nodes k n e m g).top)
      lists_at s bag (bot_spot k n m e g p q) = subst (λ z. ListsAll Loaded (slots + s) z) (sym q) (subst (λ z. ListsAll Loaded (slots + z) n.bot) (sym p) (nodes k n e m g).bot)
      lists_at s bag (interface_spot p q) = subst (λ z. ListsAll Loaded (slots + s) z) (sym q) (subst (λ z. ListsAll Loaded (slots + z) t.iface) (sym p) interface)

      attributes_found : (s : ℕ) (pairs : Pairs) → AreLists Model Found s pairs → HaveAttributes Merged s pairs
      attributes_found s pairs lists =
          let r = spot_of number s pairs lists in
          subst (λ z. HaveAttributes Merged s z) (sym r.is) (record {
            there = λ a w among.
                let from = IsAmong-map_from (λ (p : Sym × code_term.Term). (p.0.0, term_of p.1)) r.bag (a, w) among in
                let p = from.0 in
                let place = slice_get-IsAmong r.bag p from.1 in
                let passes = bag_spot (FitsAll Loaded d t heads vars slots) values s r.bag r.spot place.0 p place.1 in
                let a_is : a ≡ p.0.0 = ap (λ (z : ℕ × Term ℕ). z.0) from.2 in
                let v = value_loaded vars slots list mentions Merged s p.0.0 passes.0 passes.1 in
                (v.value, subst (λ z. HasValue Merged s z v.value) (sym a_is) v.has);
            all = λ a x has.
                let w = lists_at s r.bag r.spot (record { 0 = a }) (later vars x) (loaded_value vars slots list mentions Merged s a x has) in
                (term_of w.0, IsAmong-map (λ (p : Sym × code_term.Term). (p.0.0, term_of p.1)) r.bag (record { 0 = a }, w.0) w.1);
          })

      fits_found : (w x : Term ℕ) → StandsFor Merged Model Found w x → FitsAll Loaded d t heads vars slots w (later vars x)
      fits_found = stands_passes (FitsAll Loaded d t heads vars slots) (fitting_respects Loaded d t heads vars slots) values

      arguments_found : map (λ (l : Literal (Term ℕ)). length l.args) (literals_of d.sem) ≡ map (λ (l : Literal (Term ℕ)). length l.args) (literals_of t.sem)
      arguments_found = by d.sem t.sem values.number (λ i k l e g. (values.literals i k e l g).number)
        where
          by : (xs ys : List code_literal.Literal) → length ys ≡ length xs → ((i : ℕ) (k l : code_literal.Literal) → slice_get ys i ≡ Some k → slice_get xs i ≡ Some l → length k.args ≡ length l.args)
              → map (λ (l : Literal (Term ℕ)). length l.args) (literals_of xs) ≡ map (λ (l : Literal (Term ℕ)). length l.args) (literals_of ys)
          by [] [] n each = refl
          by [] (y ∷ ys) n each = absurd (omega arith)
          by (x ∷ xs) [] n each = absurd (omega arith)
          by (x ∷ xs) (y ∷ ys) n each =
              ap₂ (λ a b. a ∷ b) (length-map x.args term_of ∙ sym (each 0 y x refl refl) ∙ sym (length-map y.args term_of))
              (by xs ys (omega arith) (λ i k l e g. each (suc i) k l e g))

      pub tree_found : IsTreeOf Merged Model Found
      tree_found = record {
        shape = alike (slots_at (description_of d).nodes d.iface.0) lists_of 0 sends f;
        lists = attributes_found;
        literals = arguments_found;
        values = λ w v x y one other.
            let fit = stands_passes (FitsBeside Loaded w (later vars x)) (beside_respects Loaded w (later vars x)) (fits_found w x one).beside v y other in (
              (λ e. (linked_loaded vars slots list mentions Merged agrees own x y).0 (fit.0 e)),
              (λ l. fit.1 ((linked_loaded vars slots list mentions Merged agrees own x y).1 l)),
            );
        names = λ w x a stands. (
          (λ e. (linked_loaded vars slots list mentions Merged agrees own x (name a)).0 (((fits_found w x stands).names a).0 e)),
          (λ l. ((fits_found w x stands).names a).1 ((linked_loaded vars slots list mentions Merged agrees own x (name a)).1 l)),
        );
      }
