-- Trees with the same form are the same up to renaming of variables.
use Rattle.std.specs.Prelude.{◌≡◌, ℕ, suc, ◌+◌, List, [], ◌∷◌, ◌++◌, map, slice_get, slice_index_or, Option, Some, None, refl}
use Rattle.std.proofs.Common.{inl, inr, ap, ap₂, sym, ◌∙◌, subst, arith}
use Rattle.std.proofs.lemmas.List.{map-append}
use Rattle.std.proofs.lemmas.Option.{get_or_from_slice_get}
use Rattle.gr_base.specs.Lists.{IsAmong, IsRising, Each, gathered}
use Rattle.gr_base.specs.Forests.{Forest, empty, tree, labels, map_forest, size}
use Rattle.gr_base.proofs.ListLemmas.{Each-left, Each-right, IsAmong-append_left, IsAmong-append_right, IsAmong-map, IsAmong-map_from, same_head, same_tail}
use Rattle.gr_terms.specs.Bags.{IsListed}
use Rattle.gr_terms.specs.BagViews.{pairs_of}
use Rattle.gr_terms.specs.Canonical as canonical
use Rattle.gr_terms.specs.Canonical.{Decorated, Label, Node, named, numbered, literal_terms, map_literal}
use Rattle.gr_terms.specs.LiteralViews.{literal_of, literals_of}
use Rattle.gr_terms.specs.Networks.{Term}
use Rattle.gr_terms.specs.Views.{term_of}
use Rattle.gr_terms.specs.declared.Literal.{Literal}
use Rattle.gr_terms.specs.declared.Sym.{Sym}
use Rattle.gr_terms.specs.declared.Term.{Term as Value}
use Rattle.gr_terms.specs.declared.Term.TheVariants.{Const, Var}
use Rattle.gr_terms.proofs.BagLemmas.{IsListed-unique}
use Rattle.td_tree.specs.Trees.{BagPairs, node_of, preorder}
use Rattle.td_tree.specs.TreeViews.{decorated_of, lists_of}
use Rattle.td_tree.specs.declared.Tree.{Tree}
use Rattle.td_canon.specs.Renaming.{rename_bag, rename_literal, rename_node, rename_term, rename_tree}
use Rattle.td_canon.specs.Writing.{form_node, form_of, in_order, label_in, labelled}
use Rattle.td_canon.proofs.MeetingLemmas.{IsMetIn, is_met-IsAmong, named-numbered, place, same_named, same_numbered, stands_in}
use Rattle.td_canon.proofs.OrderLemmas.{in_order-within, within-in_order}

-- a variable of the first tree becomes the one that was met at the same place of the second
abbrev pub renaming : List ℕ → List ℕ → ℕ → ℕ
renaming met others v = slice_index_or others (place v met) v

-- each value of the node's bags was met
pub record AreMet (others : List ℕ) (b : Node BagPairs) : Type 0 where
  pub own : (p : Sym × Value) → IsAmong b.own p → IsMetIn others (term_of p.1)
  pub top : (p : Sym × Value) → IsAmong b.top p → IsMetIn others (term_of p.1)
  pub bottom : (p : Sym × Value) → IsAmong b.bottom p → IsMetIn others (term_of p.1)

pub record AreListed (b : Node BagPairs) : Type 0 where
  pub own : IsListed b.own
  pub top : IsListed b.top
  pub bottom : IsListed b.bottom

module _ (met others : List ℕ) where
  pub term_renamed : (x y : Value) → label_in met (term_of x) ≡ label_in others (term_of y) → IsMetIn others (term_of y) → rename_term (renaming met others) x ≡ y
  term_renamed (Const s) (Const r) e i = let same : s.0 ≡ r.0 = same_named s.0 r.0 e in λ k. Const (record { 0 = same k })
  term_renamed (Const s) (Var w) e i = named-numbered s.0 (suc (place w others)) e
  term_renamed (Var v) (Const r) e i = named-numbered r.0 (suc (place v met)) (sym e)
  term_renamed (Var v) (Var w) e i =
      let same : suc (place v met) ≡ suc (place w others) = same_numbered (suc (place v met)) (suc (place w others)) e in
      let places : place v met ≡ place w others = omega arith in
      let at : slice_get others (place v met) ≡ Some w = ap (slice_get others) places ∙ (stands_in w others [] (is_met-IsAmong w others i)).at in
      ap Var (get_or_from_slice_get others (place v met) w v at)

  -- ---- bags

  module _ (text : ℕ → List ℕ) where
    attributes-rename : (bag : BagPairs) → map (λ (p : Sym × Value). p.0.0) bag ≡ map (λ (p : Sym × Value). p.0.0) (rename_bag (renaming met others) bag)
    attributes-rename [] = refl
    attributes-rename (p ∷ bag) = ap (λ ns. p.0.0 ∷ ns) (attributes-rename bag)

    rename_listed : (bag : BagPairs) → IsListed bag → IsListed (rename_bag (renaming met others) bag)
    rename_listed bag listed = subst (λ ns. IsRising ns) (attributes-rename bag) listed

    abbrev read : Sym × Value → ℕ × Term ℕ
    read p = (p.0.0, term_of p.1)

    abbrev labels_with : List ℕ → BagPairs → canonical.Pairs
    labels_with all bag = labelled (label_in all) (in_order text (pairs_of bag))

    -- a pair of a bag is a labelled pair, and the other way round
    labelled_there : (all : List ℕ) (bag : BagPairs) (p : Sym × Value) → IsAmong bag p → IsAmong (labels_with all bag) (p.0.0, label_in all (term_of p.1))
    labelled_there all bag p i =
        IsAmong-map (λ (q : ℕ × Term ℕ). (q.0, label_in all q.1)) (in_order text (pairs_of bag)) (read p) (within-in_order text (pairs_of bag) (read p) (IsAmong-map read bag p i))

    labelled_back : (all : List ℕ) (bag : BagPairs) (q : ℕ × Label) → IsAmong (labels_with all bag) q → (p : Sym × Value) × IsAmong bag p × (q ≡ (p.0.0, label_in all (term_of p.1)))
    labelled_back all bag q i =
        let r = IsAmong-map_from (λ (z : ℕ × Term ℕ). (z.0, label_in all z.1)) (in_order text (pairs_of bag)) q i in
        let p = IsAmong-map_from read bag r.0 (in_order-within text (pairs_of bag) r.0 r.1) in
        (p.0, p.1, r.2 ∙ ap (λ (z : ℕ × Term ℕ). (z.0, label_in all z.1)) p.2)

    -- pairs with the same labels
    pair_renamed : (p r : Sym × Value) → IsMetIn others (term_of r.1) → ◌≡◌ {A = ℕ × Label} (p.0.0, label_in met (term_of p.1)) (r.0.0, label_in others (term_of r.1)) → ◌≡◌ {A = Sym × Value} (p.0, rename_term (renaming met others) p.1) r
    pair_renamed p r i e =
        let attribute : p.0.0 ≡ r.0.0 = ap (λ (z : ℕ × Label). z.0) e in
        let value : rename_term (renaming met others) p.1 ≡ r.1 = term_renamed p.1 r.1 (ap (λ (z : ℕ × Label). z.1) e) i in
        λ k. (record { 0 = attribute k }, value k)

    pub bag_renamed : (bag other : BagPairs) → IsListed bag → IsListed other → ((p : Sym × Value) → IsAmong other p → IsMetIn others (term_of p.1)) → labels_with met bag ≡ labels_with others other →
        rename_bag (renaming met others) bag ≡ other
    bag_renamed bag other listed listed_other met_values same =
        IsListed-unique (rename_bag (renaming met others) bag) other (rename_listed bag listed) listed_other
        (λ q i.
        let p = IsAmong-map_from (λ (z : Sym × Value). (z.0, rename_term (renaming met others) z.1)) bag q i in
        let r = labelled_back others other (p.0.0.0, label_in met (term_of p.0.1)) (subst (λ zs. IsAmong zs (p.0.0.0, label_in met (term_of p.0.1))) same (labelled_there met bag p.0 p.1)) in
        subst (λ z. IsAmong other z) (sym (p.2 ∙ pair_renamed p.0 r.0 (met_values r.0 r.1) r.2)) r.1)
        (λ r i.
        let p = labelled_back met bag (r.0.0, label_in others (term_of r.1)) (subst (λ zs. IsAmong zs (r.0.0, label_in others (term_of r.1))) (sym same) (labelled_there others other r i)) in
        subst (λ z. IsAmong (rename_bag (renaming met others) bag) z) (pair_renamed p.0 r (met_values r i) (sym p.2)) (IsAmong-map (λ (z : Sym × Value). (z.0, rename_term (renaming met others) z.1)) bag p.0 p.1))

    -- ---- nodes

    abbrev rename_slots : Node BagPairs → Node BagPairs
    rename_slots b = record { own = rename_bag (renaming met others) b.own; top = rename_bag (renaming met others) b.top; bottom = rename_bag (renaming met others) b.bottom }

    abbrev forms : List ℕ → Forest (Node BagPairs) → Forest (Node canonical.Pairs)
    forms all f = map_forest (form_node text (label_in all)) (map_forest lists_of f)

    slots_renamed : (b c : Node BagPairs) → AreListed b → AreListed c → AreMet others c → form_node text (label_in met) (lists_of b) ≡ form_node text (label_in others) (lists_of c) → rename_slots b ≡ c
    slots_renamed b c lb lc m e =
        let own : rename_bag (renaming met others) b.own ≡ c.own = bag_renamed b.own c.own lb.own lc.own m.own (ap (λ (z : Node canonical.Pairs). z.own) e) in
        let top : rename_bag (renaming met others) b.top ≡ c.top = bag_renamed b.top c.top lb.top lc.top m.top (ap (λ (z : Node canonical.Pairs). z.top) e) in
        let bottom : rename_bag (renaming met others) b.bottom ≡ c.bottom = bag_renamed b.bottom c.bottom lb.bottom lc.bottom m.bottom (ap (λ (z : Node canonical.Pairs). z.bottom) e) in
        λ k. record { own = own k; top = top k; bottom = bottom k }

    forest_renamed : (f g : Forest (Node BagPairs)) → Each AreListed (labels f) → Each AreListed (labels g) → Each (AreMet others) (labels g) → forms met f ≡ forms others g → map_forest rename_slots f ≡ g
    forest_renamed empty empty lf lg m e = refl
    forest_renamed empty (tree c under rest) lf lg m e = absurd cc
    forest_renamed (tree b kids more) empty lf lg m e = absurd cc
    forest_renamed (tree b kids more) (tree c under rest) lf lg m e =
        let root : form_node text (label_in met) (lists_of b) ≡ form_node text (label_in others) (lists_of c) = cc in
        let inside : forms met kids ≡ forms others under = cc in
        let right : forms met more ≡ forms others rest = cc in
        let here : rename_slots b ≡ c = slots_renamed b c lf.0 lg.0 m.0 root in
        let below : map_forest rename_slots kids ≡ under = forest_renamed kids under (Each-left AreListed (labels kids) (labels more) lf.1) (Each-left AreListed (labels under) (labels rest) lg.1) (Each-left (AreMet others) (labels under) (labels rest) m.1) inside in
        let beside : map_forest rename_slots more ≡ rest = forest_renamed more rest (Each-right AreListed (labels kids) (labels more) lf.1) (Each-right AreListed (labels under) (labels rest) lg.1) (Each-right (AreMet others) (labels under) (labels rest) m.1) right in
        λ k. tree (here k) (below k) (beside k)

    size-rename : (f : Forest (Node BagPairs)) → size (map_forest rename_slots f) ≡ size f
    size-rename empty = refl
    size-rename (tree b kids more) = ap₂ (λ i j. suc (i + j)) (size-rename kids) (size-rename more)

    preorder-rename : (n : ℕ) (parent : Option ℕ) (f : Forest (Node BagPairs)) → preorder n parent (map_forest rename_slots f) ≡ map (rename_node (renaming met others)) (preorder n parent f)
    preorder-rename n parent empty = refl
    preorder-rename n parent (tree b kids more) =
        ap (λ xs. node_of parent (rename_slots b) ∷ xs)
        (ap₂ (λ xs k. xs ++ preorder (suc n + k) parent (map_forest rename_slots more)) (preorder-rename (suc n) (Some n) kids) (size-rename kids)
        ∙ ap (λ ys. map (rename_node (renaming met others)) (preorder (suc n) (Some n) kids) ++ ys) (preorder-rename (suc n + size kids) parent more)
        ∙ sym (map-append (rename_node (renaming met others)) (preorder (suc n) (Some n) kids) (preorder (suc n + size kids) parent more)))

    -- ---- literals

    terms_renamed : (xs ys : List Value) → ((y : Term ℕ) → IsAmong (map term_of ys) y → IsMetIn others y) → map (label_in met) (map term_of xs) ≡ map (label_in others) (map term_of ys) → map (rename_term (renaming met others)) xs ≡ ys
    terms_renamed [] [] m e = refl
    terms_renamed [] (y ∷ ys) m e = absurd cc
    terms_renamed (x ∷ xs) [] m e = absurd cc
    terms_renamed (x ∷ xs) (y ∷ ys) m e =
        ap₂ (λ z zs. z ∷ zs)
        (term_renamed x y (same_head (label_in met (term_of x)) (label_in others (term_of y)) (map (label_in met) (map term_of xs)) (map (label_in others) (map term_of ys)) e) (m (term_of y) (inl refl)))
        (terms_renamed xs ys (λ z i. m z (inr i)) (same_tail (label_in met (term_of x)) (label_in others (term_of y)) (map (label_in met) (map term_of xs)) (map (label_in others) (map term_of ys)) e))

    literal_renamed : (l k : Literal) → ((y : Term ℕ) → IsAmong (literal_terms (literal_of k)) y → IsMetIn others y) → map_literal (label_in met) (literal_of l) ≡ map_literal (label_in others) (literal_of k) →
        rename_literal (renaming met others) l ≡ k
    literal_renamed l k m e =
        let handle : rename_term (renaming met others) l.handle ≡ k.handle = term_renamed l.handle k.handle (ap (λ (z : canonical.Literal Label). z.handle) e) (m (term_of k.handle) (inl refl)) in
        let pred : rename_term (renaming met others) l.pred ≡ k.pred = term_renamed l.pred k.pred (ap (λ (z : canonical.Literal Label). z.pred) e) (m (term_of k.pred) (inr (inl refl))) in
        let args : map (rename_term (renaming met others)) l.args ≡ k.args = terms_renamed l.args k.args (λ y i. m y (inr (inr i))) (ap (λ (z : canonical.Literal Label). z.args) e) in
        λ i. record { handle = handle i; pred = pred i; args = args i }

    literals_renamed : (ls ks : List Literal) → ((y : Term ℕ) → IsAmong (gathered literal_terms (literals_of ks)) y → IsMetIn others y) →
        map (map_literal (label_in met)) (literals_of ls) ≡ map (map_literal (label_in others)) (literals_of ks) → map (rename_literal (renaming met others)) ls ≡ ks
    literals_renamed [] [] m e = refl
    literals_renamed [] (k ∷ ks) m e = absurd cc
    literals_renamed (l ∷ ls) [] m e = absurd cc
    literals_renamed (l ∷ ls) (k ∷ ks) m e =
        ap₂ (λ z zs. z ∷ zs)
        (literal_renamed l k (λ y i. m y (IsAmong-append_left (literal_terms (literal_of k)) (gathered literal_terms (literals_of ks)) y i)) (same_head _ _ _ _ e))
        (literals_renamed ls ks (λ y i. m y (IsAmong-append_right (literal_terms (literal_of k)) (gathered literal_terms (literals_of ks)) y i)) (same_tail _ _ _ _ e))

    -- ---- trees

    pub tree_renamed : (t u : Tree) (f g : Forest (Node BagPairs)) → t.nodes ≡ preorder 0 None f → u.nodes ≡ preorder 0 None g →
        Each AreListed (labels f) → Each AreListed (labels g) → Each (AreMet others) (labels g) → IsListed t.iface → IsListed u.iface → ((p : Sym × Value) → IsAmong u.iface p → IsMetIn others (term_of p.1)) →
        ((y : Term ℕ) → IsAmong (gathered literal_terms (literals_of u.sem)) y → IsMetIn others y) →
        form_of text (label_in met) (decorated_of f t) ≡ form_of text (label_in others) (decorated_of g u) → rename_tree (renaming met others) t ≡ u
    tree_renamed t u f g laid laid_u lf lg m lt lu mi ml e =
        let forest : map_forest rename_slots f ≡ g = forest_renamed f g lf lg m (ap (λ (z : Decorated canonical.Pairs Label). z.nodes) e) in
        let nodes : map (rename_node (renaming met others)) t.nodes ≡ u.nodes =
        ap (map (rename_node (renaming met others))) laid ∙ sym (preorder-rename 0 None f) ∙ ap (preorder 0 None) forest ∙ sym laid_u in
        let iface : rename_bag (renaming met others) t.iface ≡ u.iface = bag_renamed t.iface u.iface lt lu mi (ap (λ (z : Decorated canonical.Pairs Label). z.interface) e) in
        let sem : map (rename_literal (renaming met others)) t.sem ≡ u.sem = literals_renamed t.sem u.sem ml (ap (λ (z : Decorated canonical.Pairs Label). z.literals) e) in
        λ i. record { nodes = nodes i; iface = iface i; sem = sem i }
