-- Where each name of a body has a text, so has each name in the uses of its variables and classes.
use Rattle.std.specs.Prelude.{ℕ, ◌<◌, List, [], ◌∷◌, ◌++◌, map, Option, Some, None, Bool, true, false, not, if◌then◌else◌}
use Rattle.std.specs.List.{filter}
use Rattle.std.proofs.Common.{refl, subst, sym, ◌∙◌}
use Rattle.gr_base.specs.Lists.{Each, gathered, joined}
use Rattle.gr_base.proofs.ListLemmas.{Each-left, Each-right, Each-append}
use Rattle.gr_terms.specs.declared.Sym.{Sym}
use Rattle.mg_syntax.specs.declared.body.Ref.{Ref}
use Rattle.mg_syntax.specs.declared.body.Side.{Side}
use Rattle.mg_syntax.specs.declared.body.Side.TheVariants as side
use Rattle.mg_syntax.specs.declared.body.Literal.{Literal}
use Rattle.mg_syntax.specs.declared.body.Statement.{Statement, roll-Statement, map-Statement, fold-roll-Statement, ind-Statement}
use Rattle.mg_syntax.specs.declared.body.Statement.TheOpen.{Statement-F}
use Rattle.mg_syntax.specs.declared.body.Statement.TheOpen as layer
use Rattle.mg_syntax.specs.declared.block.SynItem.{SynItem}
use Rattle.mg_syntax.specs.declared.block.SynItem.TheVariants as item
use Rattle.mg_syntax.specs.declared.block.Kid.{Kid, out-Kid, roll-Kid, out-roll-Kid}
use Rattle.mg_syntax.specs.declared.block.NodeBlock.{NodeBlock, out-NodeBlock, roll-NodeBlock, out-roll-NodeBlock, ind-NodeBlock}
use Rattle.mg_syntax.specs.Names.{if_some, one_name, ref_names, side_names, pair_names, bag_names, literal_names, block_names, kid_names, syn_item_names, statement_names, body_names}
use Rattle.mg_syntax.proofs.Names.{layer_names, parts_names, block_names-out, kid_names-out, statement_names-roll}
use Rattle.mg_scope.specs.declared.uses.Use.{Use}
use Rattle.mg_scope.specs.declared.uses.Use.TheVariants.{Alone, Bound, Called, Dotted}
use Rattle.mg_scope.specs.Uses.{ref_use, side_uses, bag_uses, properties_of, categories_of, is_category, own_uses, name_uses, handle_uses, literal_uses, block_uses, item_uses, statement_step, statement_uses, body_uses}
use Rattle.mg_scope.proofs.UseLemmas.{kid_uses, block_parts}

-- each number of the use is below the count
abbrev pub IsKnownUse : ℕ → Use → Type 0
IsKnownUse count (Alone x) = x.0 < count
IsKnownUse count (Bound x c) = (x.0 < count) × (c.0 < count)
IsKnownUse count (Called c) = c.0 < count
IsKnownUse count (Dotted x y) = (x.0 < count) × (y.0 < count)

module _ (count : ℕ) where
  abbrev Q : Sym → Type 0
  Q x = x.0 < count

  abbrev U : Use → Type 0
  U = IsKnownUse count

  -- lists of which each element's uses are known where its names are
  gathered_known : {A : Type 0} (f : A → List Sym) (g : A → List Use) → ((x : A) → Each Q (f x) → Each U (g x)) → (xs : List A) → Each Q (gathered f xs) → Each U (gathered g xs)
  gathered_known f g each [] h = tt
  gathered_known f g each (x ∷ xs) h =
      Each-append U (g x) (gathered g xs) (each x (Each-left Q (f x) (gathered f xs) h)) (gathered_known f g each xs (Each-right Q (f x) (gathered f xs) h))

  -- values
  ref_known : (r : Ref) → Each Q (ref_names r) → U (ref_use r)
  ref_known r h = by r.of h
    where
      by : (o : Option Sym) → Each Q (if_some one_name o ++ r.name ∷ []) → U (elim o [ None ↦ Alone r.name | Some x ↦ Dotted x r.name ])
      by None h = h.0
      by (Some x) h = (h.0, h.1.0)

  side_known : (s : Side) → Each Q (side_names s) → Each U (side_uses s)
  side_known (side.Ref r) h = (ref_known r h, tt)
  side_known (side.Name a) h = tt

  pair_known : (p : Sym × Side) → Each Q (pair_names p) → Each U (side_uses p.1)
  pair_known p h = side_known p.1 h.1

  bag_known : (b : List (Sym × Side)) → Each Q (bag_names b) → Each U (bag_uses b)
  bag_known b h = gathered_known pair_names (λ (p : Sym × Side). side_uses p.1) pair_known b h

  some_known : (test : Sym × Side → Bool) (b : List (Sym × Side)) → Each Q (bag_names b) → Each U (bag_uses (filter test b))
  some_known test [] h = tt
  some_known test (p ∷ b) h = by (test p) (pair_known p (Each-left Q (pair_names p) (bag_names b) h)) (some_known test b (Each-right Q (pair_names p) (bag_names b) h))
    where
      by : (t : Bool) → Each U (side_uses p.1) → Each U (bag_uses (filter test b)) → Each U (bag_uses (if t then p ∷ filter test b else filter test b))
      by true x y = Each-append U (side_uses p.1) (bag_uses (filter test b)) x y
      by false x y = y

  handle_known : (o : Option Side) → Each Q (if_some side_names o) → Each U (handle_uses o)
  handle_known None h = tt
  handle_known (Some s) h = side_known s h

  literal_known : (l : Literal) → Each Q (literal_names l) → Each U (literal_uses l)
  literal_known l h =
      let handle = if_some side_names l.handle in
      let args = gathered side_names l.args in
      let front = Each-left Q (handle ++ side_names l.pred) args h in
      Each-append U (handle_uses l.handle ++ side_uses l.pred) (gathered side_uses l.args)
      (Each-append U (handle_uses l.handle) (side_uses l.pred) (handle_known l.handle (Each-left Q handle (side_names l.pred) front)) (side_known l.pred (Each-right Q handle (side_names l.pred) front)))
      (gathered_known side_names side_uses side_known l.args (Each-right Q (handle ++ side_names l.pred) args h))

  -- blocks
  abbrev KidClaim : Kid → Type 0
  KidClaim k = Each Q (kid_names k) → Each U (kid_uses k)

  abbrev BlockClaim : NodeBlock → Type 0
  BlockClaim b = Each Q (block_names b) → Each U (block_uses b)

  named_known : (o : Option Ref) → Each Q (if_some ref_names o) → Each U (name_uses o)
  named_known None h = tt
  named_known (Some r) h = (ref_known r h, tt)

  kids_used : (ks : List Kid) → Each KidClaim ks → Each Q (gathered kid_names ks) → Each U (gathered kid_uses ks)
  kids_used [] claims h = tt
  kids_used (k ∷ ks) claims h =
      Each-append U (kid_uses k) (gathered kid_uses ks) (claims.0 (Each-left Q (kid_names k) (gathered kid_names ks) h)) (kids_used ks claims.1 (Each-right Q (kid_names k) (gathered kid_names ks) h))

  block_case : (b : NodeBlock) → Each KidClaim (out-NodeBlock b).kids → BlockClaim b
  block_case b claims h =
      let n = out-NodeBlock b in
      let name = if_some ref_names n.name in
      let own = bag_names n.own in
      let top = bag_names n.top in
      let bottom = bag_names n.bot in
      let all : Each Q (parts_names n) = subst (λ z. Each Q z) (block_names-out b) h in
      let lists = Each-left Q (name ++ own ++ top ++ bottom) (gathered kid_names n.kids) all in
      let two = Each-left Q (name ++ own ++ top) bottom lists in
      let first = Each-left Q (name ++ own) top two in
      let pairs = Each-right Q name own first in
      subst (λ z. Each U z) (sym (block_parts b))
      (Each-append U (name_uses n.name ++ own_uses n.own ++ bag_uses n.top ++ bag_uses n.bot) (gathered kid_uses n.kids)
      (Each-append U (name_uses n.name ++ own_uses n.own ++ bag_uses n.top) (bag_uses n.bot)
      (Each-append U (name_uses n.name ++ own_uses n.own) (bag_uses n.top)
      (Each-append U (name_uses n.name) (own_uses n.own) (named_known n.name (Each-left Q name own first))
      (Each-append U (bag_uses (properties_of n.own)) (bag_uses (categories_of n.own)) (some_known (λ p. not (is_category p)) n.own pairs) (some_known is_category n.own pairs)))
      (bag_known n.top (Each-right Q (name ++ own) top two)))
      (bag_known n.bot (Each-right Q (name ++ own ++ top) bottom lists)))
      (kids_used n.kids claims (Each-right Q (name ++ own ++ top ++ bottom) (gathered kid_names n.kids) all)))

  kid_case : (k : Kid) → BlockClaim (out-Kid k).node → KidClaim k
  kid_case k claim h = claim (subst (λ z. Each Q z) (kid_names-out k) h)

  claimed : (ks : List ((k : Kid) × KidClaim k)) → Each KidClaim (map (λ e. e.0) ks)
  claimed [] = tt
  claimed (k ∷ ks) = (k.1, claimed ks)

  block_known : (b : NodeBlock) → BlockClaim b
  block_known = ind-NodeBlock KidClaim BlockClaim
      (λ x y is. kid_case (roll-Kid x) (subst (λ z. BlockClaim z.node) (is ∙ sym (out-roll-Kid x)) y.node.1))
      (λ x y is. block_case (roll-NodeBlock x) (subst (λ z. Each KidClaim z.kids) (is ∙ sym (out-roll-NodeBlock x)) (claimed y.kids)))

  item_known : (i : SynItem) → Each Q (syn_item_names i) → Each U (item_uses i)
  item_known (item.Node b) h = block_known b h
  item_known (item.Relation x how y) h = (ref_known x (Each-left Q (ref_names x) (ref_names y) h), (ref_known y (Each-right Q (ref_names x) (ref_names y) h), tt))

  -- statements
  abbrev Claim : Statement → Type 0
  Claim s = Each Q (statement_names s) → Each U (statement_uses s)

  abbrev Such : Type 0
  Such = (s : Statement) × Claim s

  abbrev bare : List Such → List Statement
  bare ss = map (λ e. e.0) ss

  alternative_known : (ss : List Such) → Each Q (gathered statement_names (bare ss)) → Each U (joined (map statement_uses (bare ss)))
  alternative_known [] h = tt
  alternative_known (s ∷ ss) h =
      let names = gathered statement_names (bare ss) in
      Each-append U (statement_uses s.0) (joined (map statement_uses (bare ss))) (s.1 (Each-left Q (statement_names s.0) names h)) (alternative_known ss (Each-right Q (statement_names s.0) names h))

  group_known : (b : List (List Such)) → Each Q (body_names (map bare b)) → Each U (joined (map joined (map (map statement_uses) (map bare b))))
  group_known [] h = tt
  group_known (ss ∷ b) h =
      let here = gathered statement_names (bare ss) in
      let names = body_names (map bare b) in
      Each-append U (joined (map statement_uses (bare ss))) (joined (map joined (map (map statement_uses) (map bare b)))) (alternative_known ss (Each-left Q here names h)) (group_known b (Each-right Q here names h))

  layer_known : (y : Statement-F Such) → Each Q (layer_names (map-Statement Such Statement (λ e. e.0) y)) → Each U (statement_step (map-Statement Statement (List Use) statement_uses (map-Statement Such Statement (λ e. e.0) y)))
  layer_known (layer.Group b) h = group_known b h
  layer_known (layer.Call c) h = (h.0, tt)
  layer_known (layer.Bind x c) h = ((h.0, h.1.0), tt)
  layer_known (layer.Equation r s) h = (ref_known r (Each-left Q (ref_names r) (side_names s) h), side_known s (Each-right Q (ref_names r) (side_names s) h))
  layer_known (layer.Syn items) h = gathered_known syn_item_names item_uses item_known items h
  layer_known (layer.Sem ls) h = gathered_known literal_names literal_uses literal_known ls h
  layer_known (layer.Iface b) h = bag_known b h

  statement_known : (s : Statement) → Claim s
  statement_known = ind-Statement Claim (λ x y is.
      subst (λ z. Claim (roll-Statement z)) is (λ h.
      let x' = map-Statement Such Statement (λ e. e.0) y in
      subst (λ z. Each U z) (sym (fold-roll-Statement (List Use) statement_step x')) (layer_known y (subst (λ z. Each Q z) (statement_names-roll x' (roll-Statement x') refl) h))))

  pub body_known : (b : List (List Statement)) → Each Q (body_names b) → Each U (body_uses b)
  body_known b h = gathered_known (gathered statement_names) (gathered statement_uses) (gathered_known statement_names statement_uses statement_known) b h
