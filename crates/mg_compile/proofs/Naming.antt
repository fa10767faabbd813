-- Each name that an expansion says has a text, where each name of the metagrammar has one.
use Rattle.std.specs.Prelude.{◌≡◌, ℕ, ◌+◌, ◌<◌, List, [], ◌∷◌, ◌++◌, map, Option, Some, None, ⊤}
use Rattle.std.proofs.Common.{sym, subst}
use Rattle.gr_base.specs.Lists.{Each, gathered}
use Rattle.gr_base.proofs.ListLemmas.{Each-at, Each-left, Each-right, Each-append, Each-map, IsAmong-slice_get, Each-weaker}
use Rattle.gr_terms.specs.declared.Sym.{Sym}
use Rattle.mg_syntax.specs.declared.body.Side.{Side}
use Rattle.mg_syntax.specs.declared.body.Side.TheVariants as side
use Rattle.mg_syntax.specs.declared.body.Literal.{Literal}
use Rattle.mg_syntax.specs.declared.body.Statement.{Statement, out-Statement}
use Rattle.mg_syntax.specs.declared.body.Statement.TheOpen as statement
use Rattle.mg_syntax.specs.declared.body.Statement.TheOpen.{Statement-F}
use Rattle.mg_syntax.specs.declared.block.SynItem.{SynItem}
use Rattle.mg_syntax.specs.declared.block.SynItem.TheVariants as syn_item
use Rattle.mg_syntax.specs.declared.block.NodeBlock.{NodeBlock, NodeBlock-F, roll-NodeBlock, fold-roll-NodeBlock, ind-NodeBlock}
use Rattle.mg_syntax.specs.declared.block.Kid.{Kid, Kid-F, roll-Kid, fold-Kid, fold-roll-Kid}
use Rattle.mg_syntax.specs.declared.item.Class.{Class}
use Rattle.mg_syntax.specs.declared.item.Item.{Item}
use Rattle.mg_syntax.specs.declared.item.Item.TheVariants as item
use Rattle.mg_syntax.specs.Names.{if_some, ref_names, side_names, pair_names, bag_names, literal_names, block_names, kid_names, syn_item_names, statement_names, body_names, class_names, item_names, all_names}
use Rattle.mg_syntax.proofs.Names.{Each-gathered_from, layer_names, parts_names, block_names-roll, kid_names-roll, statement_names-out}
use Rattle.mg_scope.specs.Classes.{class_of, exports_of, firsts}
use Rattle.mg_scope.proofs.ClassLemmas.{class_of-stands}
use Rattle.mg_facts.specs.Meanings.{names_in}
use Rattle.mg_deeds.specs.Blocks.{KidBlock, Block, kids_of, kid_step, block_step, block_of}
use Rattle.mg_deeds.specs.Sayings.{import_said, dot_said, deed_said}
use Rattle.mg_deeds.specs.Weights.{deed_weight}
use Rattle.mg_expand.specs.Walks.{How, imported, called, bound_to, Walk, Task, a_call, a_choice, a_deed, task_in, task_of, tasks_of, IsAlternative, Does, done, takes, performs, enters, IsExpansion}
use Rattle.mg_expand.specs.Items.{call_said, call_weight, walk_said, walk_weight, expansion_said}
use Rattle.mg_compile.proofs.Known.{AreBelow, IsNamedSaid, all_below, IsNamedSide, IsNamedPair, IsNamedHandle, IsNamedSaying, AreNamedKids, IsNamedBlock, IsNamedItem, IsNamedDeed, deed_named}

module _ (count : ℕ) where
  abbrev Q : Sym → Type 0
  Q x = x.0 < count

  -- VALUES

  side_known : (s : Side) → Each Q (side_names s) → IsNamedSide count s
  side_known (side.Ref r) h = tt
  side_known (side.Name a) h = h.0

  pair_known : (p : Sym × Side) → Each Q (pair_names p) → IsNamedPair count p
  pair_known p h = (h.0, side_known p.1 h.1)

  bag_known : (bag : List (Sym × Side)) → Each Q (bag_names bag) → Each (IsNamedPair count) bag
  bag_known bag h = Each-weaker (λ p. Each Q (pair_names p)) (IsNamedPair count) pair_known bag (Each-gathered_from Q pair_names bag h)

  handle_known : (s : Option Side) → Each Q (if_some side_names s) → IsNamedHandle count s
  handle_known None h = tt
  handle_known (Some s) h = side_known s h

  literal_known : (l : Literal) → Each Q (literal_names l) → IsNamedSaying count l
  literal_known l h =
      let handle = if_some side_names l.handle in
      let args = gathered side_names l.args in
      let front = Each-left Q (handle ++ side_names l.pred) args h in (
        handle_known l.handle (Each-left Q handle (side_names l.pred) front),
        side_known l.pred (Each-right Q handle (side_names l.pred) front),
        Each-weaker (λ s. Each Q (side_names s)) (IsNamedSide count) side_known l.args (Each-gathered_from Q side_names l.args (Each-right Q (handle ++ side_names l.pred) args h)),
      )

  -- BLOCKS

  abbrev kid_block : Kid → KidBlock
  kid_block = fold-Kid KidBlock Block kid_step block_step

  abbrev IsKnownKid : Kid → Type 0
  IsKnownKid k = Each Q (kid_names k) → IsNamedBlock count (kid_block k).block

  abbrev IsKnownBlock : NodeBlock → Type 0
  IsKnownBlock b = Each Q (block_names b) → IsNamedBlock count (block_of b)

  kids_known : (ks : List Kid) → Each IsKnownKid ks → Each Q (gathered kid_names ks) → AreNamedKids count (kids_of (map kid_block ks))
  kids_known [] g h = tt
  kids_known (k ∷ ks) g h =
      let b = g.0 (Each-left Q (kid_names k) (gathered kid_names ks) h) in
      (b.0, b.1, kids_known ks g.1 (Each-right Q (kid_names k) (gathered kid_names ks) h))

  kid_known : (x : Kid-F Kid NodeBlock) → IsKnownBlock x.node → IsKnownKid (roll-Kid x)
  kid_known x g h =
      subst (λ (k : KidBlock). IsNamedBlock count k.block) (sym (fold-roll-Kid KidBlock Block kid_step block_step x)) (g (subst (λ z. Each Q z) (kid_names-roll x) h))

  block_known : (x : NodeBlock-F Kid NodeBlock) → Each IsKnownKid x.kids → IsKnownBlock (roll-NodeBlock x)
  block_known x g h =
      let name = if_some ref_names x.name in
      let own = bag_names x.own in
      let top = bag_names x.top in
      let bottom = bag_names x.bot in
      let all : Each Q (parts_names x) = subst (λ z. Each Q z) (block_names-roll x) h in
      let lists = Each-left Q (name ++ own ++ top ++ bottom) (gathered kid_names x.kids) all in
      let two = Each-left Q (name ++ own ++ top) bottom lists in
      subst (λ (b : Block). IsNamedBlock count b) (sym (fold-roll-NodeBlock KidBlock Block kid_step block_step x)) (
        record {
          own = bag_known x.own (Each-right Q name own (Each-left Q (name ++ own) top two));
          top = bag_known x.top (Each-right Q (name ++ own) top two);
          bottom = bag_known x.bot (Each-right Q (name ++ own ++ top) bottom lists);
        },
        kids_known x.kids g (Each-right Q (name ++ own ++ top ++ bottom) (gathered kid_names x.kids) all),
      )

  proved : {A : Type 0} (R : A → Type 0) (es : List ((x : A) × R x)) → Each R (map (λ e. e.0) es)
  proved R [] = tt
  proved R (e ∷ es) = (e.1, proved R es)

  all_blocks_known : (b : NodeBlock) → IsKnownBlock b
  all_blocks_known = ind-NodeBlock IsKnownKid IsKnownBlock
      (λ x y is. kid_known x (subst (λ z. IsKnownBlock z.node) is y.node.1))
      (λ x y is. block_known x (subst (λ z. Each IsKnownKid z.kids) is (proved IsKnownKid y.kids)))

  item_known : (i : SynItem) → Each Q (syn_item_names i) → IsNamedItem count i
  item_known (syn_item.Node b) h = all_blocks_known b h
  item_known (syn_item.Relation r how s) h = tt

  -- STATEMENTS

  abbrev IsKnownStatement : Statement → Type 0
  IsKnownStatement s = Each Q (statement_names s)

  abbrev IsNamedTask : Task → Type 0
  IsNamedTask (a_call how c) = ⊤
  IsNamedTask (a_choice b) = Each (Each IsKnownStatement) b
  IsNamedTask (a_deed d) = IsNamedDeed count d

  body_known : (b : List (List Statement)) → Each Q (body_names b) → Each (Each IsKnownStatement) b
  body_known b h =
      Each-weaker (λ a. Each Q (gathered statement_names a)) (Each IsKnownStatement) (Each-gathered_from Q statement_names) b (Each-gathered_from Q (gathered statement_names) b h)

  layer_known : (f : Statement-F Statement) → Each Q (layer_names f) → IsNamedTask (task_in f)
  layer_known (statement.Group b) h = body_known b h
  layer_known (statement.Call c) h = tt
  layer_known (statement.Bind x c) h = tt
  layer_known (statement.Equation r s) h = side_known s (Each-right Q (ref_names r) (side_names s) h)
  layer_known (statement.Syn items) h = Each-weaker (λ i. Each Q (syn_item_names i)) (IsNamedItem count) item_known items (Each-gathered_from Q syn_item_names items h)
  layer_known (statement.Sem ls) h = Each-weaker (λ l. Each Q (literal_names l)) (IsNamedSaying count) literal_known ls (Each-gathered_from Q literal_names ls h)
  layer_known (statement.Iface bag) h = bag_known bag h

  statement_known : (s : Statement) → IsKnownStatement s → IsNamedTask (task_of s)
  statement_known s h = layer_known (out-Statement s) (subst (λ z. Each Q z) (statement_names-out s) h)

  -- WALKS

  module _ (m : List Item) (texts : Each Q (all_names m)) where
    class_known : (c : Sym) (k : Class) → class_of m c ≡ Some k → Each Q (class_names k)
    class_known c k e = Each-at (λ i. Each Q (item_names i)) m (item.Class k) (Each-gathered_from Q item_names m texts) (class_of-stands m c k e).0

    calls_named : (cs : List Sym) → Each IsNamedTask (map (a_call imported) cs)
    calls_named [] = tt
    calls_named (c ∷ cs) = (tt, calls_named cs)

    class_tasks : (c : Sym) (k : Class) → class_of m c ≡ Some k → Each IsNamedTask (tasks_of k)
    class_tasks c k e =
        let lists = k.imports ++ k.exports ++ k.declares in
        Each-append IsNamedTask (map (a_call imported) k.imports) (a_choice k.body ∷ []) (calls_named k.imports)
        (body_known k.body (Each-right Q lists (body_names k.body) (class_known c k e).1), tt)

    alternative_known : (b : List (List Statement)) (i : ℕ) (s : List Statement) → IsAlternative b i s → Each (Each IsKnownStatement) b → Each IsKnownStatement s
    alternative_known [] i s a h = subst (λ z. Each IsKnownStatement z) (sym a.1) tt
    alternative_known (t ∷ b) i s a h = Each-at (Each IsKnownStatement) (t ∷ b) s h (IsAmong-slice_get (t ∷ b) i s a)

    imports_named : (here there : ℕ) (ys : List Sym) → Each (IsNamedSaid count) (map (import_said here there) ys)
    imports_named here there [] = tt
    imports_named here there (y ∷ ys) = (tt, imports_named here there ys)

    dots_named : (x : Sym) (here there : ℕ) (ys : List Sym) → Each (IsNamedSaid count) (map (dot_said x here there) ys)
    dots_named x here there [] = tt
    dots_named x here there (y ∷ ys) = (tt, dots_named x here there ys)

    call_named : (how : How) (here there : ℕ) (c : Sym) → Each (IsNamedSaid count) (call_said m how here there c)
    call_named imported here there c = imports_named here there (firsts (exports_of m c))
    call_named called here there c = tt
    call_named (bound_to x) here there c = dots_named x here there (firsts (exports_of m c))

    walk_named : (ts : List Task) (w : Walk) → Does m ts w → Each IsNamedTask ts → (here n : ℕ) → Each (IsNamedSaid count) (walk_said m here n w)
    walk_named _ _ done h here n = tt
    walk_named _ _ (takes {rest} {w} b i s a d) h here n =
        walk_named (map task_of s ++ rest) w d
        (Each-append IsNamedTask (map task_of s) rest
        (Each-map task_of IsNamedTask s (Each-weaker IsKnownStatement (λ x. IsNamedTask (task_of x)) statement_known s (alternative_known b i s a h.0))) h.1) here n
    walk_named _ _ (performs {rest} {w} d does) h here n =
        Each-append (IsNamedSaid count) (deed_said here n d) (walk_said m here (n + deed_weight d) w) (deed_named count here n d h.0) (walk_named rest w does h.1 here (n + deed_weight d))
    walk_named _ _ (enters {rest} {inside} {after} how c k e d more) h here n =
        let first = n + call_weight m how c in
        let last = first + walk_weight m inside in
        Each-append (IsNamedSaid count) (call_said m how here n c ++ walk_said m n first inside) (walk_said m here last after)
        (Each-append (IsNamedSaid count) (call_said m how here n c) (walk_said m n first inside) (call_named how here n c) (walk_named (tasks_of k) inside d (class_tasks c k e) n first))
        (walk_named rest after more h.1 here last)

    pub expansion_named : (c : Sym) (w : Walk) → IsExpansion m c w → AreBelow count (gathered names_in (expansion_said m w))
    expansion_named c w e = all_below count (expansion_said m w) (walk_named (tasks_of e.0) w e.2 (class_tasks c e.0 e.1) 0 1)
