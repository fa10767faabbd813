-- Trees side by side that are read one after another.
use Rattle.std.specs.Prelude.{◌≡◌, ◌≢◌, ℕ, suc, ◌+◌, ◌≤◌, ◌==◌, List, [], ◌∷◌, ◌++◌, length, codes, Option, Some, refl}
use Rattle.std.specs.List.{join_with_byte}
use Rattle.std.proofs.Common.{inl, inr, ap, ap₂, sym, ◌∙◌, subst, append_assoc, append-nil, arith, length-append}
use Rattle.gr_base.specs.Lists.{Each, gathered}
use Rattle.gr_base.specs.Forests.{Forest, empty, tree, beside, labels, size}
use Rattle.gr_base.proofs.ForestLemmas.{AreAlike-beside, beside-empty, beside_assoc, labels-beside, size-alike, size-beside}
use Rattle.gr_base.proofs.ListLemmas.{Each-left, Each-right, same_tail}
use Rattle.gr_base.proofs.Gathering.{gathered-append}
use Rattle.gr_symbols.specs.Numbers.{Grows, with_texts}
use Rattle.gr_symbols.proofs.NumberLemmas.{Grows-trans}
use Rattle.gr_terms.specs.Canonical.{Node, Pairs}
use Rattle.td_canon.specs.TreeText.{enclosed, node_text, tree_texts}
use Rattle.td_tree.specs.Trees.{BagPairs, node_of, preorder}
use Rattle.td_tree.specs.declared.TreeNode.{TreeNode}
use Rattle.td_tree.proofs.PreorderLemmas.{length-preorder}
use Rattle.tg_reader.proofs.Rows.{table_then}
use Rattle.tg_reader.specs.Naming.{forest_names, node_names}
use Rattle.tg_reader.specs.Reading.{AppendsForest, CanReadBehind, CanReadNode, CanReadNodes, CanReadOne, CanReadRow, Differs, IsNodeEnd, IsTreeEnd, Lays, LaysOne, StandsForNode, Gets}
use Rattle.td_canon.specs.Writing.{slots_of}
use Rattle.tg_reader.proofs.Enclosed.{stops_differs, stops_tree}

-- ---- nodes in preorder

preorder-beside : (n : ℕ) (parent : Option ℕ) (f g : Forest (Node BagPairs)) → preorder n parent (beside f g) ≡ preorder n parent f ++ preorder (n + size f) parent g
preorder-beside n parent empty g = ap (λ k. preorder k parent g) (omega arith)
preorder-beside n parent (tree b kids more) g =
    let number : suc n + size kids + size more ≡ n + suc (size kids + size more) = omega arith in
    ap (λ zs. node_of parent b ∷ preorder (suc n) (Some n) kids ++ zs) (preorder-beside (suc n + size kids) parent more g ∙ ap (λ k. preorder (suc n + size kids) parent more ++ preorder k parent g) number)
    ∙ ap (λ zs. node_of parent b ∷ zs) (sym (append_assoc (preorder (suc n) (Some n) kids) (preorder (suc n + size kids) parent more) (preorder (n + suc (size kids + size more)) parent g)))

-- nodes that were appended twice
appended : (parent : Option ℕ) (old mid new : List TreeNode) (f g : Forest (Node BagPairs)) → mid ≡ old ++ preorder (length old) parent f → new ≡ mid ++ preorder (length mid) parent g →
    new ≡ old ++ preorder (length old) parent (beside f g)
appended parent old mid new f g e h =
    let count : length mid ≡ length old + size f = ap (λ (z : List TreeNode). length z) e ∙ length-append old (preorder (length old) parent f) ∙ ap (λ k. length old + k) (length-preorder (length old) parent f) in
    h
    ∙ ap₂ (λ zs k. zs ++ preorder k parent g) e count
    ∙ append_assoc old (preorder (length old) parent f) (preorder (length old + size f) parent g)
    ∙ ap (λ zs. old ++ zs) (sym (preorder-beside (length old) parent f g))

pub lays_nothing : (parent : Option ℕ) (old : List TreeNode) → Lays parent old old
lays_nothing parent old = (empty, sym (append-nil old))

pub lays_more : (parent : Option ℕ) (old mid new : List TreeNode) → Lays parent old mid → Lays parent mid new → Lays parent old new
lays_more parent old mid new (f, e) (g, h) = (beside f g, appended parent old mid new f g e h)

pub lays_longer : (parent : Option ℕ) (old new : List TreeNode) → Lays parent old new → length old ≤ length new
lays_longer parent old new (g, e) = omega (arith, ap (λ (z : List TreeNode). length z) e, length-append old (preorder (length old) parent g))

pub lays_one : (parent : Option ℕ) (old new : List TreeNode) → LaysOne parent old new → Lays parent old new
lays_one parent old new (g, one, e) = (g, e)

-- a node, and those under it
under_node : (parent : Option ℕ) (old mid new : List TreeNode) (node : TreeNode) (b : Node BagPairs) (g : Forest (Node BagPairs)) → node ≡ node_of parent b → mid ≡ old ++ node ∷ [] →
    new ≡ mid ++ preorder (length mid) (Some (length old)) g → new ≡ old ++ preorder (length old) parent (tree b g empty)
under_node parent old mid new node b g is pushed e =
    let count : length mid ≡ suc (length old) = ap (λ (z : List TreeNode). length z) pushed ∙ length-append old (node ∷ []) ∙ omega arith in
    e
    ∙ ap₂ (λ zs k. zs ++ preorder k (Some (length old)) g) (pushed ∙ ap (λ x. old ++ x ∷ []) is) count
    ∙ append_assoc old (node_of parent b ∷ []) (preorder (suc (length old)) (Some (length old)) g)
    ∙ ap (λ zs. old ++ node_of parent b ∷ zs) (sym (append-nil (preorder (suc (length old)) (Some (length old)) g)))

pub lays_under : (parent : Option ℕ) (old mid new : List TreeNode) (node : TreeNode) (b : Node BagPairs) → node ≡ node_of parent b → mid ≡ old ++ node ∷ [] → Lays (Some (length old)) mid new → LaysOne parent old new
lays_under parent old mid new node b is pushed (g, e) = (tree b g empty, tt, under_node parent old mid new node b g is pushed e)

-- a node is its bags under its parent
pub is_node : (node : TreeNode) (parent : Option ℕ) → node.parent ≡ parent → node ≡ node_of parent (slots_of node)
is_node node parent e = λ i. record { parent = e i; own = node.own; top = node.top; bot = node.bot }

-- ---- what was written

module _ (text : ℕ → List ℕ) where
  -- each tree behind a space
  abbrev pub nodes_row : Forest (Node Pairs) → List ℕ
  nodes_row f = gathered (λ t. 32 ∷ t) (tree_texts text f)

  abbrev pub kids_text : Forest (Node Pairs) → List ℕ
  kids_text f = enclosed (codes "(") 32 (codes ")") (tree_texts text f)

  join_nodes : (t : List ℕ) (f : Forest (Node Pairs)) → join_with_byte 32 (t ∷ tree_texts text f) ≡ t ++ nodes_row f
  join_nodes t empty = sym (append-nil t)
  join_nodes t (tree n kids more) = ap (λ zs. t ++ (32 ∷ zs)) (join_nodes (node_text text n ++ kids_text kids) more)

  -- trees side by side name what the first ones name, and then what the others name
  pub names-beside : (f g : Forest (Node Pairs)) → forest_names text (beside f g) ≡ forest_names text f ++ forest_names text g
  names-beside f g = ap (gathered (node_names text)) (labels-beside f g) ∙ gathered-append (node_names text) (labels f) (labels g)

  -- a node and those under it
  pub names-tree : (n : Node Pairs) (kids : Forest (Node Pairs)) → forest_names text (tree n kids empty) ≡ node_names text n ++ forest_names text kids
  names-tree n kids = ap (λ ls. node_names text n ++ gathered (node_names text) ls) (append-nil (labels kids))

  module _ (parent : Option ℕ) where
    pub AppendsForest-more : (ts : List (List ℕ)) (f g : Forest (Node Pairs)) (old mid new : List TreeNode) → AppendsForest text ts parent f old mid → AppendsForest text ts parent g mid new → AppendsForest text ts parent (beside f g) old new
    AppendsForest-more ts f g old mid new (p, alike, e) (q, like, h) = (beside p q, AreAlike-beside (StandsForNode text ts) f p g q alike like, appended parent old mid new p q e h)

    pub AppendsForest-length : (ts : List (List ℕ)) (f : Forest (Node Pairs)) (old new : List TreeNode) → AppendsForest text ts parent f old new → length new ≡ length old + size f
    AppendsForest-length ts f old new (g, alike, e) =
        ap (λ (z : List TreeNode). length z) e ∙ length-append old (preorder (length old) parent g) ∙ ap (λ k. length old + k) (length-preorder (length old) parent g ∙ sym (size-alike (StandsForNode text ts) f g alike))

    -- some trees were read, with what follows them left
    pub record NodesSoFar (f : Forest (Node Pairs)) (rest : List ℕ) (start now : List TreeNode) (old texts : List (List ℕ)) (bytes : List ℕ) : Type 0 where
      pub done : Forest (Node Pairs)
      pub left : Forest (Node Pairs)
      pub split : f ≡ beside done left
      pub bytes_are : bytes ≡ nodes_row left ++ rest
      pub appended : Gets old texts (forest_names text done) (λ ts. AppendsForest text ts parent done start now)

    pub no_nodes : (f : Forest (Node Pairs)) (rest : List ℕ) (start : List TreeNode) (texts : List (List ℕ)) (bytes : List ℕ) → bytes ≡ nodes_row f ++ rest → NodesSoFar f rest start start texts texts bytes
    no_nodes f rest start texts bytes e = record { done = empty; left = f; split = refl; bytes_are = e; appended = record { table = refl; later = λ ts grows. (empty, tt, sym (append-nil start)) } }

    -- behind one more space one more tree stands
    pub record NextNode (f : Forest (Node Pairs)) (rest : List ℕ) (start now : List TreeNode) (old texts : List (List ℕ)) (mid : List ℕ) : Type 0 where
      pub item : Forest (Node Pairs)
      pub left : Forest (Node Pairs)
      pub can : CanReadOne text (length now) item
      pub behind : mid ≡ join_with_byte 32 (tree_texts text item) ++ (nodes_row left ++ rest)
      pub on : (new : List TreeNode) (more : List (List ℕ)) (bytes : List ℕ) → Grows texts more → bytes ≡ nodes_row left ++ rest → Gets texts more (forest_names text item) (λ ts. AppendsForest text ts parent item now new) → NodesSoFar f rest start new old more bytes

    pub next_node : (f : Forest (Node Pairs)) (rest : List ℕ) (start now : List TreeNode) (old texts : List (List ℕ)) (bytes mid : List ℕ) → CanReadBehind text (length start) f → Differs (32 ∷ []) rest → bytes ≡ 32 ∷ mid →
        NodesSoFar f rest start now old texts bytes → NextNode f rest start now old texts mid
    next_node f rest start now old texts bytes mid can differs e so_far = by so_far.left so_far.split so_far.bytes_are
      where
        by : (left : Forest (Node Pairs)) → f ≡ beside so_far.done left → bytes ≡ nodes_row left ++ rest → NextNode f rest start now old texts mid
        by empty split are = absurd (differs mid (sym are ∙ e))
        by (tree n kids left) split are =
            let item = tree n kids empty in
            let t = node_text text n ++ kids_text kids in
            let all : Each (CanReadNode text) (labels so_far.done ++ (n ∷ labels kids ++ labels left)) = subst (λ ls. Each (CanReadNode text) ls) (ap labels split ∙ labels-beside so_far.done (tree n kids left)) can.nodes in
            let here = Each-right (CanReadNode text) (labels so_far.done) (n ∷ labels kids ++ labels left) all in
            let sizes : size f ≡ size so_far.done + suc (size kids + size left) = ap size split ∙ size-beside so_far.done (tree n kids left) in
            let count : length now ≡ length start + size so_far.done = AppendsForest-length texts so_far.done start now (so_far.appended.later texts ([], sym (append-nil texts))) in
            record {
              item = item;
              left = left;
              can = record {
                one = tt;
                trees = record {
                  few = omega (arith, can.few, sizes, count);
                  nodes = (here.0, subst (λ ls. Each (CanReadNode text) ls) (sym (append-nil (labels kids))) (Each-left (CanReadNode text) (labels kids) (labels left) here.1));
                };
              };
              behind = same_tail 32 32 mid (t ++ (nodes_row left ++ rest)) (sym e ∙ are ∙ ap (λ zs. 32 ∷ zs) (append_assoc t (nodes_row left) rest));
              on = λ new more bytes grows new_are step. record {
                done = beside so_far.done item;
                left = left;
                split = split ∙ sym (beside_assoc so_far.done item left);
                bytes_are = new_are;
                appended = record {
                  table = table_then old texts more (forest_names text so_far.done) (forest_names text item) so_far.appended.table step.table ∙ ap (with_texts old) (sym (names-beside so_far.done item));
                  later = λ ts g. AppendsForest-more ts so_far.done item start now new (so_far.appended.later ts (Grows-trans texts more ts grows g)) (step.later ts g);
                };
              };
            }

    -- where no space follows, all of them were read
    pub record AllNodes (f : Forest (Node Pairs)) (rest : List ℕ) (start now : List TreeNode) (old texts : List (List ℕ)) (bytes : List ℕ) : Type 0 where
      pub bytes_are : bytes ≡ rest
      pub appended : Gets old texts (forest_names text f) (λ ts. AppendsForest text ts parent f start now)

    pub all_nodes : (f : Forest (Node Pairs)) (rest : List ℕ) (start now : List TreeNode) (old texts : List (List ℕ)) (bytes : List ℕ) → Differs (32 ∷ []) bytes → NodesSoFar f rest start now old texts bytes → AllNodes f rest start now old texts bytes
    all_nodes f rest start now old texts bytes differs so_far = by so_far.left so_far.split so_far.bytes_are
      where
        by : (left : Forest (Node Pairs)) → f ≡ beside so_far.done left → bytes ≡ nodes_row left ++ rest → AllNodes f rest start now old texts bytes
        by empty split are = record {
          bytes_are = are;
          appended = subst (λ h. Gets old texts (forest_names text h) (λ ts. AppendsForest text ts parent h start now)) (sym (split ∙ beside-empty so_far.done)) so_far.appended;
        }
        by (tree n kids left) split are = absurd (differs ((node_text text n ++ kids_text kids) ++ (nodes_row left ++ rest)) (are ∙ ap (λ zs. 32 ∷ zs) (append_assoc (node_text text n ++ kids_text kids) (nodes_row left) rest)))

  -- a row without its first space
  pub record FirstNode (count : ℕ) (f : Forest (Node Pairs)) : Type 0 where
    pub first : Forest (Node Pairs)
    pub more : Forest (Node Pairs)
    pub is : f ≡ beside first more
    pub can : CanReadOne text count first
    pub can_more : CanReadBehind text (count + size first) more
    pub joined : (rest : List ℕ) → (join_with_byte 32 (tree_texts text f) ++ 41 ∷ []) ++ rest ≡ join_with_byte 32 (tree_texts text first) ++ (nodes_row more ++ 41 ∷ rest)

  pub first_node : (count : ℕ) (f : Forest (Node Pairs)) → CanReadRow text count f → FirstNode count f
  first_node count empty can = absurd (can.some refl)
  first_node count (tree n kids more) can =
      let t = node_text text n ++ kids_text kids in
      let nodes = can.trees.nodes in
      let few = can.trees.few in
      record {
        first = tree n kids empty;
        more = more;
        is = refl;
        can = record {
          one = tt;
          trees = record {
            few = omega (arith, few);
            nodes = (nodes.0, subst (λ ls. Each (CanReadNode text) ls) (sym (append-nil (labels kids))) (Each-left (CanReadNode text) (labels kids) (labels more) nodes.1));
          };
        };
        can_more = record { few = omega (arith, few); nodes = Each-right (CanReadNode text) (labels kids) (labels more) nodes.1 };
        joined = λ rest. append_assoc (join_with_byte 32 (tree_texts text (tree n kids more))) (41 ∷ []) rest ∙ ap (λ zs. zs ++ 41 ∷ rest) (join_nodes t more) ∙ append_assoc t (nodes_row more) (41 ∷ rest);
      }

  -- one tree is a node and those under it
  pub record OneNode (count : ℕ) (f : Forest (Node Pairs)) : Type 0 where
    pub node : Node Pairs
    pub kids : Forest (Node Pairs)
    pub is : f ≡ tree node kids empty
    pub can : CanReadNode text node
    pub can_kids : CanReadNodes text kids
    pub few : count + suc (size kids) ≤ 24
    pub split : (rest : List ℕ) → join_with_byte 32 (tree_texts text f) ++ rest ≡ node_text text node ++ (kids_text kids ++ rest)

  pub one_node : (count : ℕ) (f : Forest (Node Pairs)) → CanReadOne text count f → OneNode count f
  one_node count empty can = absurd can.one
  one_node count (tree n kids (tree m others more)) can = absurd can.one
  one_node count (tree n kids empty) can = record {
    node = n;
    kids = kids;
    is = refl;
    can = can.trees.nodes.0;
    can_kids = subst (λ ls. Each (CanReadNode text) ls) (append-nil (labels kids)) can.trees.nodes.1;
    few = let few = can.trees.few in omega (arith, few);
    split = λ rest. append_assoc (node_text text n) (kids_text kids) rest;
  }

  pub kids_end : (f : Forest (Node Pairs)) (rest : List ℕ) → IsTreeEnd rest → IsNodeEnd (kids_text f ++ rest)
  kids_end empty rest end = by rest end
    where
      by : (rest : List ℕ) → IsTreeEnd rest → IsNodeEnd rest
      by [] end = tt
      by (b ∷ bs) end = inr end
  kids_end (tree n kids more) rest end = inl refl

  -- where `(` comes there are some
  pub record SomeKids (f : Forest (Node Pairs)) (mid rest : List ℕ) : Type 0 where
    pub some : f ≢ empty
    pub behind : mid ≡ (join_with_byte 32 (tree_texts text f) ++ 41 ∷ []) ++ rest

  pub some_kids : (f : Forest (Node Pairs)) (mid rest : List ℕ) → IsTreeEnd rest → 40 ∷ mid ≡ kids_text f ++ rest → SomeKids f mid rest
  some_kids empty mid rest end e = absurd (stops_differs 40 [] rest (stops_tree (λ c. c == 40) rest refl refl end) mid (sym e))
  some_kids (tree n kids more) mid rest end e = record { some = λ h. absurd cc; behind = same_tail 40 40 mid ((join_with_byte 32 (tree_texts text (tree n kids more)) ++ 41 ∷ []) ++ rest) e }

  -- and else there are none
  pub record NoKids (f : Forest (Node Pairs)) (old rest : List ℕ) : Type 0 where
    pub none : f ≡ empty
    pub same : old ≡ rest

  pub no_kids : (f : Forest (Node Pairs)) (old rest : List ℕ) → Differs (40 ∷ []) old → old ≡ kids_text f ++ rest → NoKids f old rest
  no_kids empty old rest differs e = record { none = refl; same = e }
  no_kids (tree n kids more) old rest differs e = absurd (differs ((join_with_byte 32 (tree_texts text (tree n kids more)) ++ 41 ∷ []) ++ rest) e)

  -- what follows a tree in a row
  pub row_end : (f : Forest (Node Pairs)) (rest : List ℕ) → IsTreeEnd (nodes_row f ++ 41 ∷ rest)
  row_end empty rest = inr refl
  row_end (tree n kids more) rest = inl refl

  -- a node is appended, and then those under it
  pub appends_node : (ts : List (List ℕ)) (parent : Option ℕ) (number : ℕ) (old mid new : List TreeNode) (node : TreeNode) (n : Node Pairs) (kids : Forest (Node Pairs)) → StandsForNode text ts n (slots_of node) → node.parent ≡ parent →
      mid ≡ old ++ node ∷ [] → number ≡ length old → AppendsForest text ts (Some number) kids mid new → AppendsForest text ts parent (tree n kids empty) old new
  appends_node ts parent number old mid new node n kids stands is pushed count (g, alike, e) =
      (tree (slots_of node) g empty, (stands, alike, tt), under_node parent old mid new node (slots_of node) g (is_node node parent is) pushed (e ∙ ap (λ k. mid ++ preorder (length mid) (Some k) g) count))
