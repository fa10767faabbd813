-- Node blocks as trees: a head, which says everything but the kids, and the kids as a forest of heads.
use Rattle.std.specs.Prelude.{List, [], ◌∷◌, map, Bool, Option}
use Rattle.gr_base.specs.Forests.{Forest, empty, tree}
use Rattle.gr_terms.specs.declared.Sym.{Sym}
use Rattle.mg_syntax.specs.declared.body.Ref.{Ref}
use Rattle.mg_syntax.specs.declared.body.Side.{Side}
use Rattle.mg_syntax.specs.declared.block.Paint.{Paint}
use Rattle.mg_syntax.specs.declared.block.Relate.{Relate}
use Rattle.mg_syntax.specs.declared.block.NodeBlock.{NodeBlock, NodeBlock-F, fold-NodeBlock, out-NodeBlock}
use Rattle.mg_syntax.specs.declared.block.Kid.{Kid, Kid-F, out-Kid}

pub record Head : Type 0 where
  pub name : Option Ref
  pub colour : Option Paint
  pub own : List (Sym × Side)
  pub top : List (Sym × Side)
  pub bottom : List (Sym × Side)

-- how a kid stands under the block, whether `,,,` stands before it, and its head
pub record KidHead : Type 0 where
  pub down : Relate
  pub loose : Bool
  pub head : Head

pub record Block : Type 0 where
  pub head : Head
  pub kids : Forest KidHead

pub record KidBlock : Type 0 where
  pub down : Relate
  pub loose : Bool
  pub block : Block

abbrev pub kids_of : List KidBlock → Forest KidHead
kids_of [] = empty
kids_of (k ∷ ks) = tree (record { down = k.down; loose = k.loose; head = k.block.head }) k.block.kids (kids_of ks)

abbrev pub kid_step : Kid-F KidBlock Block → KidBlock
kid_step k = record { down = k.down; loose = k.loose; block = k.node }

abbrev pub block_step : NodeBlock-F KidBlock Block → Block
block_step b = record {
  head = record { name = b.name; colour = b.colour; own = b.own; top = b.top; bottom = b.bot };
  kids = kids_of b.kids;
}

abbrev pub block_of : NodeBlock → Block
block_of = fold-NodeBlock KidBlock Block kid_step block_step

-- the head of a block, and what stands at a kid, as they are written
abbrev pub head_of : NodeBlock → Head
head_of b =
    let o = out-NodeBlock b in
    record { name = o.name; colour = o.colour; own = o.own; top = o.top; bottom = o.bot }

abbrev pub kid_head_of : Kid → KidHead
kid_head_of k =
    let o = out-Kid k in
    record { down = o.down; loose = o.loose; head = head_of o.node }

abbrev pub kid_block_of : Kid → KidBlock
kid_block_of k =
    let o = out-Kid k in
    record { down = o.down; loose = o.loose; block = block_of o.node }

-- kids that stand side by side
abbrev pub forest_of : List Kid → Forest KidHead
forest_of ks = kids_of (map kid_block_of ks)
