-- The pieces of a block, of a kid and of a statement, by what they have.
use Rattle.std.specs.Prelude.{◌≡◌, ℕ, List, [], ◌∷◌, ◌++◌, map, Bool, true, false, codes, refl}
use Rattle.std.proofs.Common.{ap, ◌∙◌, subst}
use Rattle.gr_base.specs.Lists.{Each, gathered}
use Rattle.gr_base.proofs.ListLemmas.{Each-left, Each-right}
use Rattle.mg_syntax.specs.declared.block.NodeBlock.{NodeBlock, fold_out-NodeBlock, out-NodeBlock}
use Rattle.mg_syntax.specs.declared.block.Kid.{Kid, fold_out-Kid, out-Kid}
use Rattle.mg_syntax.specs.declared.block.Kid.TheOpen.{NodeBlock-F}
use Rattle.mg_syntax.specs.declared.block.Relate.{Relate}
use Rattle.mg_syntax.specs.declared.block.Relate.TheVariants.{Parent, Above, AboveOrSame, Next, Left, LeftOrSame, Same}
use Rattle.mg_printer.specs.Pieces.{Piece, a_sign, a_key, enclosed}
use Rattle.mg_printer.specs.Blocks.{name_pieces, colour_parts, property_parts, category_parts, feature_parts, loose_pieces, down_pieces, braced, block_step, kid_step, block_pieces, kid_pieces}
use Rattle.mg_printer.specs.Printing.{spelled}

gathered-map : {A : Type 0} (f : A → List Piece) (xs : List A) → gathered (λ p. p) (map f xs) ≡ gathered f xs
gathered-map f [] = refl
gathered-map f (x ∷ xs) = ap (λ z. f x ++ z) (gathered-map f xs)

pub braced-map : {A : Type 0} (f : A → List Piece) (xs : List A) → braced (λ p. p) (map f xs) ≡ braced f xs
braced-map f [] = refl
braced-map f (x ∷ xs) = ap (λ z. a_sign (codes "{") ∷ z ++ a_sign (codes "}") ∷ []) (gathered-map f (x ∷ xs))

-- what stands before the kids of a block
abbrev pub property_list : NodeBlock-F Kid NodeBlock → List Piece
property_list b = enclosed (codes "(") (colour_parts b.colour ++ property_parts b.own) (codes ")")

abbrev pub feature_list : NodeBlock-F Kid NodeBlock → List Piece
feature_list b = enclosed (codes "[") (category_parts b.own ++ feature_parts (codes "top") b.top ++ feature_parts (codes "bot") b.bot) (codes "]")

abbrev pub head_of : NodeBlock-F Kid NodeBlock → List Piece
head_of b = a_key (codes "node") ∷ name_pieces b.name ++ property_list b ++ feature_list b

pub block-out : (b : NodeBlock) → block_pieces b ≡ head_of (out-NodeBlock b) ++ braced kid_pieces (out-NodeBlock b).kids
unfolding block_pieces kid_pieces
block-out b = fold_out-NodeBlock (List Piece) (List Piece) kid_step block_step b ∙ ap (λ z. head_of (out-NodeBlock b) ++ z) (braced-map kid_pieces (out-NodeBlock b).kids)

pub kid-out : (k : Kid) → kid_pieces k ≡ loose_pieces (out-Kid k).loose ++ down_pieces (out-Kid k).down ++ block_pieces (out-Kid k).node
unfolding block_pieces kid_pieces
kid-out k = fold_out-Kid (List Piece) (List Piece) kid_step block_step k

-- what holds of each piece of a block holds of those of its parts
module _ (P : Piece → Type 0) (b : NodeBlock) (h : Each P (block_pieces b)) where
  all : Each P (head_of (out-NodeBlock b) ++ braced kid_pieces (out-NodeBlock b).kids)
  all = subst (λ z. Each P z) (block-out b) h

  named : List Piece
  named = a_key (codes "node") ∷ name_pieces (out-NodeBlock b).name

  head : Each P (named ++ property_list (out-NodeBlock b) ++ feature_list (out-NodeBlock b))
  unfolding named
  head = Each-left P (head_of (out-NodeBlock b)) (braced kid_pieces (out-NodeBlock b).kids) all

  pub kids_known : Each P (braced kid_pieces (out-NodeBlock b).kids)
  kids_known = Each-right P (head_of (out-NodeBlock b)) (braced kid_pieces (out-NodeBlock b).kids) all

  pub features_known : Each P (feature_list (out-NodeBlock b))
  features_known = Each-right P (named ++ property_list (out-NodeBlock b)) (feature_list (out-NodeBlock b)) head

  front : Each P (named ++ property_list (out-NodeBlock b))
  front = Each-left P (named ++ property_list (out-NodeBlock b)) (feature_list (out-NodeBlock b)) head

  pub properties_known : Each P (property_list (out-NodeBlock b))
  properties_known = Each-right P named (property_list (out-NodeBlock b)) front

  pub name_known : Each P (name_pieces (out-NodeBlock b).name)
  unfolding named
  name_known = (Each-left P named (property_list (out-NodeBlock b)) front).1

-- marks are written alike whatever the texts of names are
pub same_marks : (texts : List (List ℕ)) (loose : Bool) (down : Relate) → spelled [] (loose_pieces loose ++ down_pieces down) ≡ spelled texts (loose_pieces loose ++ down_pieces down)
same_marks texts true Parent = refl
same_marks texts true Above = refl
same_marks texts true AboveOrSame = refl
same_marks texts true Next = refl
same_marks texts true Left = refl
same_marks texts true LeftOrSame = refl
same_marks texts true Same = refl
same_marks texts false Parent = refl
same_marks texts false Above = refl
same_marks texts false AboveOrSame = refl
same_marks texts false Next = refl
same_marks texts false Left = refl
same_marks texts false LeftOrSame = refl
same_marks texts false Same = refl
