-- Uses of lists of pairs, of groups and of kids, as loops gather them.
use Rattle.std.specs.Prelude.{◌≡◌, ℕ, List, [], ◌∷◌, ◌++◌, Bool, true, false, not, if◌then◌else◌}
use Rattle.std.specs.List.{filter}
use Rattle.std.proofs.Common.{refl, ap, sym, ◌∙◌, append_assoc}
use Rattle.gr_base.specs.Lists.{gathered}
use Rattle.gr_base.proofs.Gathering.{gathered-same, joined-map, joined-twice}
use Rattle.gr_terms.specs.declared.Sym.{Sym}
use Rattle.mg_syntax.specs.declared.body.Side.{Side}
use Rattle.mg_syntax.specs.declared.block.Kid.{Kid, out-Kid, fold-Kid, fold_out-Kid}
use Rattle.mg_syntax.specs.declared.block.NodeBlock.{NodeBlock, out-NodeBlock, fold_out-NodeBlock}
use Rattle.mg_syntax.specs.declared.body.Statement.{Statement, fold-roll-Statement}
use Rattle.mg_syntax.specs.declared.body.Statement.TheVariants as statement
use Rattle.mg_syntax.specs.declared.body.Statement.TheOpen as open_statement
use Rattle.mg_scope.specs.declared.uses.Use.{Use}
use Rattle.mg_scope.specs.Uses.{side_uses, bag_uses, is_category, properties_of, categories_of, property_uses, category_uses, name_uses, own_uses, kid_step, block_step, block_uses, statement_step, statement_uses}

pub properties : (ps : List (Sym × Side)) → gathered property_uses ps ≡ bag_uses (properties_of ps)
properties [] = refl
properties (p ∷ ps) = by (is_category p) (properties ps)
  where
    by : (t : Bool) → gathered property_uses ps ≡ bag_uses (properties_of ps)
        → (if t then [] else side_uses p.1) ++ gathered property_uses ps ≡ bag_uses (if not t then p ∷ properties_of ps else properties_of ps)
    by true e = e
    by false e = ap (λ z. side_uses p.1 ++ z) e

pub categories : (ps : List (Sym × Side)) → gathered category_uses ps ≡ bag_uses (categories_of ps)
categories [] = refl
categories (p ∷ ps) = by (is_category p) (categories ps)
  where
    by : (t : Bool) → gathered category_uses ps ≡ bag_uses (categories_of ps)
        → (if t then side_uses p.1 else []) ++ gathered category_uses ps ≡ bag_uses (if t then p ∷ categories_of ps else categories_of ps)
    by true e = ap (λ z. side_uses p.1 ++ z) e
    by false e = e

-- the uses of a kid are those of its block
abbrev pub kid_uses : Kid → List Use
kid_uses k = block_uses (out-Kid k).node

-- the uses of a block, by its parts
pub block_parts : (b : NodeBlock) → block_uses b
    ≡ name_uses (out-NodeBlock b).name ++ own_uses (out-NodeBlock b).own ++ bag_uses (out-NodeBlock b).top ++ bag_uses (out-NodeBlock b).bot ++ gathered kid_uses (out-NodeBlock b).kids
block_parts b =
    let n = out-NodeBlock b in
    let kid : Kid → List Use = fold-Kid (List Use) (List Use) kid_step block_step in
    fold_out-NodeBlock (List Use) (List Use) kid_step block_step b
    ∙ ap (λ (z : List Use). name_uses n.name ++ own_uses n.own ++ bag_uses n.top ++ bag_uses n.bot ++ z)
    (joined-map kid n.kids ∙ gathered-same kid kid_uses (λ k. fold_out-Kid (List Use) (List Use) kid_step block_step k) n.kids)

-- the uses of a group are those of its alternatives
pub group_uses : (body : List (List Statement)) → statement_uses (statement.Group body) ≡ gathered (gathered statement_uses) body
group_uses body =
    ap statement_uses (sym (statement.rolls-Group body)) ∙ fold-roll-Statement (List Use) statement_step (open_statement.Group body)
    ∙ joined-twice statement_uses body

-- pieces that were appended in turn
pub in_turn : {A : Type 0} (old a b c d e k n1 n2 n3 n4 n5 n6 : List A)
    → n1 ≡ old ++ a → n2 ≡ n1 ++ b → n3 ≡ n2 ++ c → n4 ≡ n3 ++ d → n5 ≡ n4 ++ e → n6 ≡ n5 ++ k
    → n6 ≡ old ++ (a ++ (b ++ c) ++ d ++ e ++ k)
in_turn {A} old a b c d e k n1 n2 n3 n4 n5 n6 e1 e2 e3 e4 e5 e6 =
    let all : n6 ≡ old ++ a ++ b ++ c ++ d ++ e ++ k = cc in
    all ∙ simp append_assoc

pub three_in_turn : {A : Type 0} (old a b c n1 n2 n3 : List A) → n1 ≡ old ++ a → n2 ≡ n1 ++ b → n3 ≡ n2 ++ c → n3 ≡ old ++ (a ++ b ++ c)
three_in_turn {A} old a b c n1 n2 n3 e1 e2 e3 =
    let all : n3 ≡ old ++ a ++ b ++ c = cc in
    all ∙ simp append_assoc
