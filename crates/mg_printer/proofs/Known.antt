-- Where each name of a metagrammar has a text, so has each number among the pieces of its spelling.
use Rattle.std.specs.Prelude.{ℕ, ◌<◌, List, [], ◌∷◌, ◌++◌, map, length, Option, Some, None, Bool, true, false, not, if◌then◌else◌, codes}
use Rattle.std.specs.List.{filter}
use Rattle.std.proofs.Common.{subst, sym, ◌∙◌}
use Rattle.gr_base.specs.Lists.{Each, gathered}
use Rattle.gr_base.proofs.ListLemmas.{Each-left, Each-right, Each-append, Each-map, Each-weaker}
use Rattle.gr_terms.specs.declared.Sym.{Sym}
use Rattle.mg_syntax.specs.declared.body.Ref.{Ref}
use Rattle.mg_syntax.specs.declared.body.Side.{Side}
use Rattle.mg_syntax.specs.declared.body.Side.TheVariants as side
use Rattle.mg_syntax.specs.declared.body.Literal.{Literal}
use Rattle.mg_syntax.specs.declared.body.Statement.{Statement, roll-Statement, map-Statement, fold-roll-Statement, ind-Statement}
use Rattle.mg_syntax.specs.declared.body.Statement.TheOpen.{Statement-F}
use Rattle.mg_syntax.specs.declared.body.Statement.TheOpen as layer
use Rattle.mg_syntax.specs.declared.block.Paint.{Paint}
use Rattle.mg_syntax.specs.declared.block.Relate.{Relate}
use Rattle.mg_syntax.specs.declared.block.Relate.TheVariants.{Parent, Above, AboveOrSame, Next, Left, LeftOrSame, Same}
use Rattle.mg_syntax.specs.declared.block.SynItem.{SynItem}
use Rattle.mg_syntax.specs.declared.block.SynItem.TheVariants as syn_item
use Rattle.mg_syntax.specs.declared.block.Kid.{Kid, out-Kid, roll-Kid, out-roll-Kid}
use Rattle.mg_syntax.specs.declared.block.NodeBlock.{NodeBlock, out-NodeBlock, roll-NodeBlock, out-roll-NodeBlock, ind-NodeBlock}
use Rattle.mg_syntax.specs.declared.item.Class.{Class}
use Rattle.mg_syntax.specs.declared.item.Header.{Header}
use Rattle.mg_syntax.specs.declared.item.Header.TheVariants.{Domain, Property, Feature, Principle}
use Rattle.mg_syntax.specs.declared.item.Item.{Item}
use Rattle.mg_syntax.specs.declared.item.Item.TheVariants as item
use Rattle.mg_syntax.specs.Names.{if_some, one_name, ref_names, side_names, pair_names, bag_names, literal_names, block_names, kid_names, syn_item_names, statement_names, body_names, class_names, argument_names, header_names, item_names, HasTexts}
use Rattle.mg_syntax.proofs.Names.{Each-gathered_from, layer_names, parts_names, block_names-out, kid_names-out, statement_names-roll}
use Rattle.mg_printer.specs.Pieces.{Piece, a_sign, a_key, a_variable, IsKnown, separated, enclosed}
use Rattle.mg_printer.specs.Values.{owner_pieces, ref_pieces, side_pieces, pair_pieces, bag_pieces, handle_pieces, arguments_pieces, literal_pieces}
use Rattle.mg_printer.specs.Blocks.{is_category, name_pieces, colour_parts, property_parts, category_pieces, category_parts, feature_parts, loose_pieces, down_pieces, braced, block_pieces, kid_pieces, syn_item_pieces, relate_text}
use Rattle.mg_printer.specs.Bodies.{call_pieces, dimension_pieces, alternative_by, body_by, statement_step, statement_pieces, body_pieces, group_pieces}
use Rattle.mg_printer.specs.Items.{listed, variable_pieces, class_head, class_behind, domain_pieces, value_pieces, argument_pieces, dims_pieces, header_behind, item_behind, item_pieces}
use Rattle.mg_printer.specs.Items as items
use Rattle.mg_printer.specs.Writing.{AreWritable}
use Rattle.mg_printer.proofs.Folds.{head_of, property_list, feature_list, block-out, kid-out}

module _ (count : ℕ) where
  abbrev P : Piece → Type 0
  P = IsKnown count

  abbrev Q : Sym → Type 0
  Q x = x.0 < count

  -- LISTS OF PIECES

  closed : (ps : List Piece) (t : List ℕ) → Each P ps → Each P (ps ++ a_sign t ∷ [])
  closed ps t h = Each-append P ps (a_sign t ∷ []) h (tt, tt)

  in_turn : {A : Type 0} (f : A → List Piece) (xs : List A) → Each (λ x. Each P (f x)) xs → Each P (gathered f xs)
  in_turn f [] h = tt
  in_turn f (x ∷ xs) h = Each-append P (f x) (gathered f xs) h.0 (in_turn f xs h.1)

  behind : {A : Type 0} (t : List ℕ) (f : A → List Piece) (xs : List A) → Each (λ x. Each P (f x)) xs → Each P (gathered (λ y. a_sign t ∷ f y) xs)
  behind t f [] h = tt
  behind t f (x ∷ xs) h = (tt, Each-append P (f x) (gathered (λ y. a_sign t ∷ f y) xs) h.0 (behind t f xs h.1))

  between : {A : Type 0} (t : List ℕ) (f : A → List Piece) (xs : List A) → Each (λ x. Each P (f x)) xs → Each P (separated (a_sign t) f xs)
  between t f [] h = tt
  between t f (x ∷ xs) h = Each-append P (f x) (gathered (λ y. a_sign t ∷ f y) xs) h.0 (behind t f xs h.1)

  inside : (before after : List ℕ) (parts : List (List Piece)) → Each (Each P) parts → Each P (enclosed before parts after)
  inside before after [] h = tt
  inside before after (x ∷ xs) h = (tt, closed (separated (a_sign (codes ",")) (λ p. p) (x ∷ xs)) after (between (codes ",") (λ p. p) (x ∷ xs) h))

  each_known : {A : Type 0} (g : A → List Sym) (f : A → List Piece) → ((x : A) → Each Q (g x) → Each P (f x)) → (xs : List A) → Each Q (gathered g xs) → Each (λ x. Each P (f x)) xs
  each_known g f one xs h = Each-weaker (λ x. Each Q (g x)) (λ x. Each P (f x)) one xs (Each-gathered_from Q g xs h)

  kept : {A : Type 0} (R : A → Type 0) (p : A → Bool) (xs : List A) → Each R xs → Each R (filter p xs)
  kept R p [] h = tt
  kept R p (x ∷ xs) h = by (p x) (kept R p xs h.1)
    where
      by : (t : Bool) → Each R (filter p xs) → Each R (if t then x ∷ filter p xs else filter p xs)
      by true k = (h.0, k)
      by false k = k

  -- VALUES

  ref_known : (r : Ref) → Each Q (ref_names r) → Each P (ref_pieces r)
  ref_known r h = by r.of h
    where
      by : (o : Option Sym) → Each Q (if_some one_name o ++ r.name ∷ []) → Each P (owner_pieces o ++ a_variable r.name.0 ∷ [])
      by None h = (h.0, tt)
      by (Some x) h = (h.0, (tt, (h.1.0, tt)))

  side_known : (s : Side) → Each Q (side_names s) → Each P (side_pieces s)
  side_known (side.Ref r) h = ref_known r h
  side_known (side.Name a) h = (h.0, tt)

  pair_known : (p : Sym × Side) → Each Q (pair_names p) → Each P (pair_pieces p)
  pair_known p h = (h.0, (tt, side_known p.1 h.1))

  bag_known : (b : List (Sym × Side)) → Each Q (bag_names b) → Each P (bag_pieces b)
  bag_known b h = (tt, closed (separated (a_sign (codes ",")) pair_pieces b) (codes "]") (between (codes ",") pair_pieces b (each_known pair_names pair_pieces pair_known b h)))

  handle_known : (o : Option Side) → Each Q (if_some side_names o) → Each P (handle_pieces o)
  handle_known None h = tt
  handle_known (Some s) h = closed (side_pieces s) (codes ":") (side_known s h)

  literal_known : (l : Literal) → Each Q (literal_names l) → Each P (literal_pieces l)
  unfolding literal_pieces
  literal_known l h =
      let front = if_some side_names l.handle ++ side_names l.pred in
      let both = Each-left Q front (gathered side_names l.args) h in
      let args = each_known side_names side_pieces side_known l.args (Each-right Q front (gathered side_names l.args) h) in
      Each-append P (handle_pieces l.handle ++ side_pieces l.pred) (arguments_pieces l.args)
      (Each-append P (handle_pieces l.handle) (side_pieces l.pred)
      (handle_known l.handle (Each-left Q (if_some side_names l.handle) (side_names l.pred) both))
      (side_known l.pred (Each-right Q (if_some side_names l.handle) (side_names l.pred) both)))
      (tt, closed (gathered side_pieces l.args) (codes ")") (in_turn side_pieces l.args args))

  -- BLOCKS

  named_known : (o : Option Ref) → Each Q (if_some ref_names o) → Each P (name_pieces o)
  named_known None h = tt
  named_known (Some r) h = ref_known r h

  colour_known : (c : Option Paint) → Each (Each P) (colour_parts c)
  colour_known None = tt
  colour_known (Some c) = ((tt, (tt, (tt, tt))), tt)

  properties_known : (own : List (Sym × Side)) → Each Q (bag_names own) → Each (Each P) (property_parts own)
  properties_known own h =
      let all = each_known pair_names pair_pieces pair_known own h in
      let rest = filter (λ (p : Sym × Side). not (is_category p)) own in
      Each-map pair_pieces (Each P) rest (kept (λ p. Each P (pair_pieces p)) (λ p. not (is_category p)) own all)

  category_known : (p : Sym × Side) → Each Q (pair_names p) → Each P (category_pieces p)
  category_known p h = (tt, (tt, side_known p.1 h.1))

  categories_known : (own : List (Sym × Side)) → Each Q (bag_names own) → Each (Each P) (category_parts own)
  categories_known own h =
      let all = each_known pair_names category_pieces category_known own h in
      Each-map category_pieces (Each P) (filter is_category own) (kept (λ p. Each P (category_pieces p)) is_category own all)

  feature_known : (key : List ℕ) (b : List (Sym × Side)) → Each Q (bag_names b) → Each (Each P) (feature_parts key b)
  feature_known key [] h = tt
  feature_known key (p ∷ ps) h = ((tt, (tt, bag_known (p ∷ ps) h)), tt)

  loose_known : (b : Bool) → Each P (loose_pieces b)
  loose_known true = (tt, tt)
  loose_known false = tt

  down_known : (r : Relate) → Each P (down_pieces r)
  down_known Parent = tt
  down_known Above = (tt, tt)
  down_known AboveOrSame = (tt, tt)
  down_known Next = tt
  down_known Left = tt
  down_known LeftOrSame = tt
  down_known Same = tt

  abbrev KidClaim : Kid → Type 0
  KidClaim k = Each Q (kid_names k) → Each P (kid_pieces k)

  abbrev BlockClaim : NodeBlock → Type 0
  BlockClaim b = Each Q (block_names b) → Each P (block_pieces b)

  kids_known : (ks : List Kid) → Each KidClaim ks → Each Q (gathered kid_names ks) → Each P (gathered kid_pieces ks)
  kids_known [] claims h = tt
  kids_known (k ∷ ks) claims h =
      Each-append P (kid_pieces k) (gathered kid_pieces ks) (claims.0 (Each-left Q (kid_names k) (gathered kid_names ks) h)) (kids_known ks claims.1 (Each-right Q (kid_names k) (gathered kid_names ks) h))

  braced_known : (ks : List Kid) → Each P (gathered kid_pieces ks) → Each P (braced kid_pieces ks)
  braced_known [] h = tt
  braced_known (k ∷ ks) h = (tt, closed (gathered kid_pieces (k ∷ ks)) (codes "}") h)

  block_case : (b : NodeBlock) → Each KidClaim (out-NodeBlock b).kids → BlockClaim b
  block_case b claims h =
      let n = out-NodeBlock b in
      let name = if_some ref_names n.name in
      let all : Each Q (parts_names n) = subst (λ z. Each Q z) (block_names-out b) h in
      let h4 = Each-left Q (name ++ bag_names n.own ++ bag_names n.top ++ bag_names n.bot) (gathered kid_names n.kids) all in
      let h3 = Each-left Q (name ++ bag_names n.own ++ bag_names n.top) (bag_names n.bot) h4 in
      let h2 = Each-left Q (name ++ bag_names n.own) (bag_names n.top) h3 in
      let own = Each-right Q name (bag_names n.own) h2 in
      let top = Each-right Q (name ++ bag_names n.own) (bag_names n.top) h3 in
      let bottom = Each-right Q (name ++ bag_names n.own ++ bag_names n.top) (bag_names n.bot) h4 in
      let kids = kids_known n.kids claims (Each-right Q (name ++ bag_names n.own ++ bag_names n.top ++ bag_names n.bot) (gathered kid_names n.kids) all) in
      let properties = inside (codes "(") (codes ")") (colour_parts n.colour ++ property_parts n.own) (Each-append (Each P) (colour_parts n.colour) (property_parts n.own) (colour_known n.colour) (properties_known n.own own)) in
      let features = inside (codes "[") (codes "]") (category_parts n.own ++ feature_parts (codes "top") n.top ++ feature_parts (codes "bot") n.bot)
      (Each-append (Each P) (category_parts n.own ++ feature_parts (codes "top") n.top) (feature_parts (codes "bot") n.bot)
      (Each-append (Each P) (category_parts n.own) (feature_parts (codes "top") n.top) (categories_known n.own own) (feature_known (codes "top") n.top top)) (feature_known (codes "bot") n.bot bottom)) in
      let named : List Piece = a_key (codes "node") ∷ name_pieces n.name in
      subst (λ z. Each P z) (sym (block-out b))
      (Each-append P (head_of n) (braced kid_pieces n.kids)
      (Each-append P (named ++ property_list n) (feature_list n)
      (Each-append P named (property_list n) (tt, named_known n.name (Each-left Q name (bag_names n.own) h2)) properties)
      features)
      (braced_known n.kids kids))

  kid_case : (k : Kid) → BlockClaim (out-Kid k).node → KidClaim k
  kid_case k claim h =
      let marks = loose_pieces (out-Kid k).loose ++ down_pieces (out-Kid k).down in
      subst (λ z. Each P z) (sym (kid-out k))
      (Each-append P marks (block_pieces (out-Kid k).node)
      (Each-append P (loose_pieces (out-Kid k).loose) (down_pieces (out-Kid k).down) (loose_known (out-Kid k).loose) (down_known (out-Kid k).down))
      (claim (subst (λ z. Each Q z) (kid_names-out k) h)))

  claimed : (ks : List ((k : Kid) × KidClaim k)) → Each KidClaim (map (λ e. e.0) ks)
  claimed [] = tt
  claimed (k ∷ ks) = (k.1, claimed ks)

  block_known : (b : NodeBlock) → BlockClaim b
  block_known = ind-NodeBlock KidClaim BlockClaim
      (λ x y is. kid_case (roll-Kid x) (subst (λ z. BlockClaim z.node) (is ∙ sym (out-roll-Kid x)) y.node.1))
      (λ x y is. block_case (roll-NodeBlock x) (subst (λ z. Each KidClaim z.kids) (is ∙ sym (out-roll-NodeBlock x)) (claimed y.kids)))

  syn_item_known : (i : SynItem) → Each Q (syn_item_names i) → Each P (syn_item_pieces i)
  unfolding syn_item_pieces
  syn_item_known (syn_item.Node b) h = block_known b h
  syn_item_known (syn_item.Relation x how y) h =
      Each-append P (ref_pieces x) (a_sign (relate_text how) ∷ ref_pieces y) (ref_known x (Each-left Q (ref_names x) (ref_names y) h)) (tt, ref_known y (Each-right Q (ref_names x) (ref_names y) h))

  -- STATEMENTS

  abbrev Claim : Statement → Type 0
  Claim s = Each Q (statement_names s) → Each P (statement_pieces s)

  abbrev Such : Type 0
  Such = (s : Statement) × Claim s

  abbrev bare : List Such → List Statement
  bare ss = map (λ e. e.0) ss

  dimension_known : (key : List ℕ) (ps : List Piece) → Each P ps → Each P (dimension_pieces key ps)
  dimension_known key ps h = (tt, (tt, (tt, (tt, closed ps (codes "}") h))))

  alternative_known : (ss : List Such) → Each Q (gathered statement_names (bare ss)) → Each (Each P) (map statement_pieces (bare ss))
  alternative_known [] h = tt
  alternative_known (s ∷ ss) h =
      (s.1 (Each-left Q (statement_names s.0) (gathered statement_names (bare ss)) h), alternative_known ss (Each-right Q (statement_names s.0) (gathered statement_names (bare ss)) h))

  alternatives_known : (b : List (List Such)) → Each Q (body_names (map bare b)) → Each (λ a. Each P (alternative_by (λ p. p) a)) (map (map statement_pieces) (map bare b))
  alternatives_known [] h = tt
  alternatives_known (ss ∷ b) h = (
    between (codes ";") (λ p. p) (map statement_pieces (bare ss)) (alternative_known ss (Each-left Q (gathered statement_names (bare ss)) (body_names (map bare b)) h)),
    alternatives_known b (Each-right Q (gathered statement_names (bare ss)) (body_names (map bare b)) h),
  )

  layer_known : (y : Statement-F Such) → Each Q (layer_names (map-Statement Such Statement (λ e. e.0) y)) → Each P (statement_step (map-Statement Statement (List Piece) statement_pieces (map-Statement Such Statement (λ e. e.0) y)))
  layer_known (layer.Group b) h =
      let ps = map (map statement_pieces) (map bare b) in
      (tt, closed (body_by (λ p. p) ps) (codes "}") (between (codes "|") (alternative_by (λ p. p)) ps (alternatives_known b h)))
  layer_known (layer.Call c) h = (h.0, (tt, (tt, tt)))
  layer_known (layer.Bind x c) h = (h.0, (tt, (h.1.0, (tt, (tt, tt)))))
  layer_known (layer.Equation r s) h =
      Each-append P (ref_pieces r) (a_sign (codes "=") ∷ side_pieces s) (ref_known r (Each-left Q (ref_names r) (side_names s) h)) (tt, side_known s (Each-right Q (ref_names r) (side_names s) h))
  layer_known (layer.Syn is) h =
      dimension_known (codes "syn") (separated (a_sign (codes ";")) syn_item_pieces is) (between (codes ";") syn_item_pieces is (each_known syn_item_names syn_item_pieces syn_item_known is h))
  layer_known (layer.Sem ls) h = dimension_known (codes "sem") (gathered literal_pieces ls) (in_turn literal_pieces ls (each_known literal_names literal_pieces literal_known ls h))
  layer_known (layer.Iface b) h = dimension_known (codes "iface") (bag_pieces b) (bag_known b h)

  statement_known : (s : Statement) → Claim s
  unfolding statement_pieces
  statement_known = ind-Statement Claim (λ x y is.
      subst (λ z. Claim (roll-Statement z)) is (λ h.
      let x' = map-Statement Such Statement (λ e. e.0) y in
      subst (λ z. Each P z) (sym (fold-roll-Statement (List Piece) statement_step x')) (layer_known y (subst (λ z. Each Q z) (statement_names-roll x' (roll-Statement x') (λ i. roll-Statement x')) h))))

  body_known : (b : List (List Statement)) → Each Q (body_names b) → Each P (body_pieces b)
  body_known b h =
      between (codes "|") (alternative_by statement_pieces) b
      (each_known (gathered statement_names) (alternative_by statement_pieces) (λ ss k. between (codes ";") statement_pieces ss (each_known statement_names statement_pieces statement_known ss k)) b h)

  -- ITEMS

  listed_known : (key : List ℕ) (f : Sym → List Piece) → ((x : Sym) → Q x → Each P (f x)) → (xs : List Sym) → Each Q xs → Each P (listed key f xs)
  listed_known key f one [] h = tt
  listed_known key f one (x ∷ xs) h = (tt, in_turn f (x ∷ xs) (Each-weaker Q (λ x. Each P (f x)) one (x ∷ xs) h))

  class_known : (k : Class) → Each Q (class_names k) → Each P (class_behind k)
  class_known k h =
      let lists = Each-left Q (k.imports ++ k.exports ++ k.declares) (body_names k.body) h.1 in
      let two = Each-left Q (k.imports ++ k.exports) k.declares lists in
      let imports = listed_known (codes "import") call_pieces (λ x q. (q, (tt, (tt, tt)))) k.imports (Each-left Q k.imports k.exports two) in
      let exports = listed_known (codes "export") variable_pieces (λ x q. (q, tt)) k.exports (Each-right Q k.imports k.exports two) in
      let declares = listed_known (codes "declare") variable_pieces (λ x q. (q, tt)) k.declares (Each-right Q (k.imports ++ k.exports) k.declares lists) in
      let a = listed (codes "import") call_pieces k.imports in
      let b = listed (codes "export") variable_pieces k.exports in
      let c = listed (codes "declare") variable_pieces k.declares in
      Each-append P (class_head k) (group_pieces k.body)
      (h.0, Each-append P (a ++ b) c (Each-append P a b imports exports) declares)
      (tt, closed (body_pieces k.body) (codes "}") (body_known k.body (Each-right Q (k.imports ++ k.exports ++ k.declares) (body_names k.body) h.1)))

  domain_known : (d : Option (List Sym)) → Each Q (if_some (λ names. names) d) → Each P (domain_pieces d)
  domain_known None h = (tt, tt)
  domain_known (Some names) h =
      (tt, (tt, closed (separated (a_sign (codes ",")) items.name_pieces names) (codes "}") (between (codes ",") items.name_pieces names (Each-weaker Q (λ x. Each P (items.name_pieces x)) (λ x q. (q, tt)) names h))))

  value_known : (o : Option Sym) → Each Q (if_some one_name o) → Each P (value_pieces o)
  value_known None h = tt
  value_known (Some a) h = (tt, (h.0, tt))

  argument_known : (p : Sym × Option Sym) → Each Q (argument_names p) → Each P (argument_pieces p)
  argument_known p h = (h.0, value_known p.1 h.1)

  header_known : (x : Header) → Each Q (header_names x) → Each P (header_behind x)
  header_known (Domain a d) h = (h.0, domain_known d h.1)
  header_known (Property a b) h = (h.0, (tt, (h.1.0, tt)))
  header_known (Feature a b) h = (h.0, (tt, (h.1.0, tt)))
  header_known (Principle a args d) h =
      let names = gathered argument_names args in
      let ps = separated (a_sign (codes ",")) argument_pieces args in
      let known = closed ps (codes ")") (between (codes ",") argument_pieces args (each_known argument_names argument_pieces argument_known args (Each-left Q names (d ∷ []) h.1))) in
      (h.0, (tt, (tt, Each-append P (ps ++ a_sign (codes ")") ∷ []) (dims_pieces d) known (tt, (tt, ((Each-right Q names (d ∷ []) h.1).0, (tt, tt)))))))

  item_known : (i : Item) → Each Q (item_names i) → Each P (item_pieces i)
  item_known (item.Class k) h = (tt, class_known k h)
  item_known (item.Value c) h = (tt, (h.0, tt))
  item_known (item.Header x) h = (tt, header_known x h)

pub writable : (texts : List (List ℕ)) (m : List Item) → HasTexts texts m → AreWritable texts m
writable texts m h = each_known (length texts) item_names item_pieces (item_known (length texts)) m h
