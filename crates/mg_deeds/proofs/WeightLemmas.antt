-- Weights of blocks and of kids that stand side by side.
use Rattle.std.specs.Prelude.{◌≡◌, ℕ, ◌+◌, List, [], ◌∷◌, map, Bool, true, false}
use Rattle.std.proofs.Common.{refl, ap, ◌∙◌, arith}
use Rattle.mg_syntax.specs.declared.block.NodeBlock.{NodeBlock, out-NodeBlock, fold_out-NodeBlock}
use Rattle.mg_syntax.specs.declared.block.Kid.{Kid, out-Kid, fold-Kid, fold_out-Kid}
use Rattle.mg_deeds.specs.Blocks.{Block, KidBlock, kid_step, block_step, block_of, head_of, kid_block_of, forest_of, kids_of}
use Rattle.mg_deeds.specs.Weights.{head_weight, kids_weight, block_weight}

-- a block is its head and its kids
pub block_parts : (b : NodeBlock) → block_of b ≡ record { head = head_of b; kids = forest_of (out-NodeBlock b).kids }
block_parts b =
    fold_out-NodeBlock KidBlock Block kid_step block_step b
    ∙ ap (λ (ks : List KidBlock). let r : Block = record { head = head_of b; kids = kids_of ks } in r) (same (out-NodeBlock b).kids)
  where
    same : (ks : List Kid) → map (fold-Kid KidBlock Block kid_step block_step) ks ≡ map kid_block_of ks
    same [] = refl
    same (k ∷ ks) = ap (λ (x : KidBlock). x ∷ map (fold-Kid KidBlock Block kid_step block_step) ks) (fold_out-Kid KidBlock Block kid_step block_step k) ∙ ap (λ z. kid_block_of k ∷ z) (same ks)

pub block_weight_parts : (b : NodeBlock) → block_weight (block_of b) ≡ head_weight (head_of b) + kids_weight (forest_of (out-NodeBlock b).kids)
block_weight_parts b = ap block_weight (block_parts b)

-- the weight of kids that are left, where a kid stands before them or none
abbrev pub left_weight : Bool → List Kid → ℕ
left_weight false ks = kids_weight (forest_of ks)
left_weight true [] = 0
left_weight true (k ∷ ks) = 1 + kids_weight (forest_of (k ∷ ks))

pub first_kid_weight : (k : Kid) (ks : List Kid) → left_weight false (k ∷ ks) ≡ block_weight (block_of (out-Kid k).node) + 1 + left_weight true ks
first_kid_weight k [] = omega arith
first_kid_weight k (j ∷ js) = omega arith

pub next_kid_weight : (k : Kid) (ks : List Kid) → left_weight true (k ∷ ks) ≡ 1 + block_weight (block_of (out-Kid k).node) + 1 + left_weight true ks
next_kid_weight k ks = let e = first_kid_weight k ks in omega arith
