-- The pieces of each kind of statement.
use Rattle.std.specs.Prelude.{◌≡◌, List, [], ◌∷◌, ◌++◌, map, codes, refl}
use Rattle.std.proofs.Common.{sym, ap, ap₂, ◌∙◌}
use Rattle.gr_base.specs.Lists.{gathered}
use Rattle.gr_terms.specs.declared.Sym.{Sym}
use Rattle.mg_syntax.specs.declared.body.Ref.{Ref}
use Rattle.mg_syntax.specs.declared.body.Side.{Side}
use Rattle.mg_syntax.specs.declared.body.Literal.{Literal}
use Rattle.mg_syntax.specs.declared.block.SynItem.{SynItem}
use Rattle.mg_syntax.specs.declared.body.Statement.{Statement, fold-roll-Statement}
use Rattle.mg_syntax.specs.declared.body.Statement.TheOpen as layer
use Rattle.mg_syntax.specs.declared.body.Statement.TheVariants as statement
use Rattle.mg_printer.specs.Pieces.{Piece, a_sign, a_variable, separated}
use Rattle.mg_printer.specs.Values.{ref_pieces, side_pieces, bag_pieces, literal_pieces}
use Rattle.mg_printer.specs.Blocks.{syn_item_pieces}
use Rattle.mg_printer.specs.Bodies.{call_pieces, dimension_pieces, alternative_by, body_by, statement_step, statement_pieces, group_pieces}

separated-map : {A B : Type 0} (between : Piece) (f : B → List Piece) (g : A → B) (xs : List A) → separated between f (map g xs) ≡ separated between (λ x. f (g x)) xs
separated-map {A} {B} between f g [] = refl
separated-map {A} {B} between f g (x ∷ xs) = ap (λ z. f (g x) ++ z) (behind xs)
  where
    behind : (xs : List A) → gathered (λ y. between ∷ f y) (map g xs) ≡ gathered (λ y. between ∷ f (g y)) xs
    behind [] = refl
    behind (y ∷ ys) = ap (λ z. (between ∷ f (g y)) ++ z) (behind ys)

separated-same : {A : Type 0} (between : Piece) (f g : A → List Piece) → ((x : A) → f x ≡ g x) → (xs : List A) → separated between f xs ≡ separated between g xs
separated-same {A} between f g same [] = refl
separated-same {A} between f g same (x ∷ xs) = ap₂ (λ u v. u ++ v) (same x) (behind xs)
  where
    behind : (xs : List A) → gathered (λ y. between ∷ f y) xs ≡ gathered (λ y. between ∷ g y) xs
    behind [] = refl
    behind (y ∷ ys) = ap₂ (λ u v. (between ∷ u) ++ v) (same y) (behind ys)

body_by-map : {A : Type 0} (f : A → List Piece) (b : List (List A)) → body_by (λ p. p) (map (λ s. map f s) b) ≡ body_by f b
body_by-map f b =
    separated-map (a_sign (codes "|")) (alternative_by (λ p. p)) (λ s. map f s) b
    ∙ separated-same (a_sign (codes "|")) (λ s. alternative_by (λ p. p) (map f s)) (alternative_by f) (λ s. separated-map (a_sign (codes ";")) (λ p. p) f s) b

pub pieces-Group : (b : List (List Statement)) → statement_pieces (statement.Group b) ≡ group_pieces b
unfolding statement_pieces
pieces-Group b =
    ap statement_pieces (sym (statement.rolls-Group b)) ∙ (fold-roll-Statement (List Piece) statement_step (layer.Group b) ∙ ap (λ z. a_sign (codes "{") ∷ z ++ a_sign (codes "}") ∷ []) (body_by-map statement_pieces b))

pub pieces-Call : (n : Sym) → statement_pieces (statement.Call n) ≡ call_pieces n
unfolding statement_pieces
pieces-Call n = ap statement_pieces (sym (statement.rolls-Call n)) ∙ fold-roll-Statement (List Piece) statement_step (layer.Call n)

pub pieces-Bind : (x n : Sym) → statement_pieces (statement.Bind x n) ≡ a_variable x.0 ∷ a_sign (codes "=") ∷ call_pieces n
unfolding statement_pieces
pieces-Bind x n = ap statement_pieces (sym (statement.rolls-Bind x n)) ∙ fold-roll-Statement (List Piece) statement_step (layer.Bind x n)

pub pieces-Equation : (r : Ref) (s : Side) → statement_pieces (statement.Equation r s) ≡ ref_pieces r ++ a_sign (codes "=") ∷ side_pieces s
unfolding statement_pieces
pieces-Equation r s = ap statement_pieces (sym (statement.rolls-Equation r s)) ∙ fold-roll-Statement (List Piece) statement_step (layer.Equation r s)

pub pieces-Syn : (items : List SynItem) → statement_pieces (statement.Syn items) ≡ dimension_pieces (codes "syn") (separated (a_sign (codes ";")) syn_item_pieces items)
unfolding statement_pieces
pieces-Syn items = ap statement_pieces (sym (statement.rolls-Syn items)) ∙ fold-roll-Statement (List Piece) statement_step (layer.Syn items)

pub pieces-Sem : (ls : List Literal) → statement_pieces (statement.Sem ls) ≡ dimension_pieces (codes "sem") (gathered literal_pieces ls)
unfolding statement_pieces
pieces-Sem ls = ap statement_pieces (sym (statement.rolls-Sem ls)) ∙ fold-roll-Statement (List Piece) statement_step (layer.Sem ls)

pub pieces-Iface : (b : List (Sym × Side)) → statement_pieces (statement.Iface b) ≡ dimension_pieces (codes "iface") (bag_pieces b)
unfolding statement_pieces
pieces-Iface b = ap statement_pieces (sym (statement.rolls-Iface b)) ∙ fold-roll-Statement (List Piece) statement_step (layer.Iface b)
