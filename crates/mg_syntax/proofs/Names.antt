-- The names of a block, of a kid and of a statement, by what they have.
use Rattle.std.specs.Prelude.{◌≡◌, List, [], ◌∷◌, ◌++◌, map, refl}
use Rattle.std.proofs.Common.{sym, ap, ◌∙◌}
use Rattle.gr_base.specs.Lists.{Each, gathered, joined}
use Rattle.gr_base.proofs.ListLemmas.{Each-left, Each-right, Each-append}
use Rattle.gr_terms.specs.declared.Sym.{Sym}
use Rattle.mg_syntax.specs.declared.body.Statement.{Statement, out-Statement, roll-Statement, map-Statement, fold_out-Statement, fold-roll-Statement}
use Rattle.mg_syntax.specs.declared.body.Statement.TheOpen.{Statement-F}
use Rattle.mg_syntax.specs.declared.body.Statement.TheOpen as statement
use Rattle.mg_syntax.specs.declared.block.NodeBlock.{NodeBlock, NodeBlock-F, out-NodeBlock, roll-NodeBlock, fold_out-NodeBlock, fold-roll-NodeBlock}
use Rattle.mg_syntax.specs.declared.block.Kid.{Kid, Kid-F, out-Kid, roll-Kid, fold_out-Kid, fold-roll-Kid}
use Rattle.mg_syntax.specs.Names.{if_some, ref_names, side_names, bag_names, literal_names, kid_step, block_step, block_names, kid_names, syn_item_names, statement_step, statement_names, body_names}

joined-map : {A B : Type 0} (f : A → List B) (xs : List A) → joined (map f xs) ≡ gathered f xs
joined-map f [] = refl
joined-map f (x ∷ xs) = ap (λ z. f x ++ z) (joined-map f xs)

joined-twice : {A B : Type 0} (f : A → List B) (xss : List (List A)) → joined (map joined (map (map f) xss)) ≡ gathered (gathered f) xss
joined-twice f [] = refl
joined-twice f (xs ∷ xss) = ap (λ z. z ++ joined (map joined (map (map f) xss))) (joined-map f xs) ∙ ap (λ z. gathered f xs ++ z) (joined-twice f xss)

-- those of one layer
abbrev pub layer_names : Statement-F Statement → List Sym
layer_names (statement.Group body) = body_names body
layer_names (statement.Call c) = c ∷ []
layer_names (statement.Bind x c) = x ∷ c ∷ []
layer_names (statement.Equation r s) = ref_names r ++ side_names s
layer_names (statement.Syn items) = gathered syn_item_names items
layer_names (statement.Sem literals) = gathered literal_names literals
layer_names (statement.Iface bag) = bag_names bag

abbrev pub parts_names : NodeBlock-F Kid NodeBlock → List Sym
parts_names b = if_some ref_names b.name ++ bag_names b.own ++ bag_names b.top ++ bag_names b.bot ++ gathered kid_names b.kids

kids_joined : (b : NodeBlock-F Kid NodeBlock) → if_some ref_names b.name ++ bag_names b.own ++ bag_names b.top ++ bag_names b.bot ++ joined (map kid_names b.kids) ≡ parts_names b
kids_joined b = ap (λ z. if_some ref_names b.name ++ bag_names b.own ++ bag_names b.top ++ bag_names b.bot ++ z) (joined-map kid_names b.kids)

pub block_names-out : (b : NodeBlock) → block_names b ≡ parts_names (out-NodeBlock b)
unfolding block_names kid_names
block_names-out b = fold_out-NodeBlock (List Sym) (List Sym) kid_step block_step b ∙ kids_joined (out-NodeBlock b)

pub block_names-roll : (b : NodeBlock-F Kid NodeBlock) → block_names (roll-NodeBlock b) ≡ parts_names b
unfolding block_names kid_names
block_names-roll b = fold-roll-NodeBlock (List Sym) (List Sym) kid_step block_step b ∙ kids_joined b

pub kid_names-out : (k : Kid) → kid_names k ≡ block_names (out-Kid k).node
unfolding block_names kid_names
kid_names-out k = fold_out-Kid (List Sym) (List Sym) kid_step block_step k

pub kid_names-roll : (k : Kid-F Kid NodeBlock) → kid_names (roll-Kid k) ≡ block_names k.node
unfolding block_names kid_names
kid_names-roll k = fold-roll-Kid (List Sym) (List Sym) kid_step block_step k

layer_joined : (s : Statement-F Statement) → statement_step (map-Statement Statement (List Sym) statement_names s) ≡ layer_names s
layer_joined (statement.Group body) = joined-twice statement_names body
layer_joined (statement.Call c) = refl
layer_joined (statement.Bind x c) = refl
layer_joined (statement.Equation r s) = refl
layer_joined (statement.Syn items) = refl
layer_joined (statement.Sem literals) = refl
layer_joined (statement.Iface bag) = refl

pub statement_names-out : (s : Statement) → statement_names s ≡ layer_names (out-Statement s)
unfolding statement_names
statement_names-out s = fold_out-Statement (List Sym) statement_step s ∙ layer_joined (out-Statement s)

-- a statement that is made of this layer
pub statement_names-roll : (layer : Statement-F Statement) (s : Statement) → roll-Statement layer ≡ s → statement_names s ≡ layer_names layer
unfolding statement_names
statement_names-roll layer s is = ap statement_names (sym is) ∙ (fold-roll-Statement (List Sym) statement_step layer ∙ layer_joined layer)

-- what holds of all that is gathered holds of what each gives
module _ {A B : Type 0} (P : B → Type 0) (f : A → List B) where
  pub Each-gathered : (xs : List A) → Each (λ x. Each P (f x)) xs → Each P (gathered f xs)
  Each-gathered [] h = tt
  Each-gathered (x ∷ xs) h = Each-append P (f x) (gathered f xs) h.0 (Each-gathered xs h.1)

  pub Each-gathered_from : (xs : List A) → Each P (gathered f xs) → Each (λ x. Each P (f x)) xs
  Each-gathered_from [] h = tt
  Each-gathered_from (x ∷ xs) h = (Each-left P (f x) (gathered f xs) h, Each-gathered_from xs (Each-right P (f x) (gathered f xs) h))
