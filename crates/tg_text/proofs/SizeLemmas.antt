-- A text is at least as long as what it tells: each tree of a class has a line, and each class a part of the whole.
use Rattle.std.proofs.Common.{ℕ, suc, ◌+◌, ◌≤◌, List, [], ◌∷◌, ◌++◌, length, arith, length-append}
use Rattle.std.specs.Prelude.{codes}
use Rattle.std.specs.Fmt.{decimal}
use Rattle.gr_base.specs.Lists.{gathered}
use Rattle.tg_text.specs.GrammarText.{ClassText, class_text, closing_word, ended, grammar_text, tree_line, tree_lines}

line_size : (n : ℕ) (t : List ℕ) → suc (length t) ≤ length (tree_line n t)
line_size n t =
    omega (arith, length-append (((codes "tree " ++ decimal n) ++ codes " ") ++ t) (10 ∷ []), length-append ((codes "tree " ++ decimal n) ++ codes " ") t)

-- the lines of trees, with that of the first
pub first_line_size : (n : ℕ) (t : List ℕ) (ts : List (List ℕ)) → suc (length t) + length (tree_lines (suc n) ts) ≤ length (tree_lines n (t ∷ ts))
first_line_size n t ts = omega (arith, length-append (tree_line n t) (tree_lines (suc n) ts), line_size n t)

pub lines_size : (n : ℕ) (ts : List (List ℕ)) → length ts ≤ length (tree_lines n ts)
lines_size n [] = omega arith
lines_size n (t ∷ ts) = omega (arith, first_line_size n t ts, lines_size (suc n) ts)

pub class_size : (c : ClassText) → suc (length (tree_lines 1 c.trees)) ≤ length (class_text c)
class_size c =
    let front = ended (codes "class " ++ c.name) in
    let ls = tree_lines 1 c.trees in
    let end = ended (closing_word c.cut ++ decimal (length c.trees)) in
    omega (arith, length-append (front ++ ls) end, length-append front ls, length-append (codes "class " ++ c.name) (10 ∷ []))

pub file_size : (cs : List ClassText) → length (gathered class_text cs) ≤ length (grammar_text cs)
file_size cs =
    let front = ended (codes "grammar 1") in
    let ls = gathered class_text cs in
    omega (arith, length-append (front ++ ls) (ended (codes "end")), length-append front ls)
