-- Lines of trees, one more at a time.
use Rattle.std.proofs.Common.{◌≡◌, ◌∙◌, sym, ap, ℕ, suc, zero, ◌+◌, ◌<◌, List, [], ◌∷◌, ◌++◌, take, length, map, Some, slice_get, get_or, arith, ◌≤◌}
use Rattle.std.proofs.lemmas.List.{take_all, append-nil, append_assoc}
use Rattle.std.proofs.lemmas.Option.{none-some, same_Some}
use Rattle.gr_base.specs.Lists.{gathered}
use Rattle.tg_text.specs.GrammarText.{ClassText, class_text, tree_line, tree_lines}

-- the lines of the first k + 1 trees are those of the first k and that of the next
pub one_line_more : (n k : ℕ) (ts : List (List ℕ)) (t : List ℕ) → slice_get ts k ≡ Some t → tree_lines n (take (suc k) ts) ≡ tree_lines n (take k ts) ++ tree_line (n + k) t
one_line_more n k [] t e = absurd (none-some t e)
one_line_more n zero (x ∷ ts) t e =
    let same : x ≡ t = same_Some x t e in
    append-nil (tree_line n x) ∙ ap (tree_line n) same ∙ ap (λ m. tree_line m t) (omega arith)
one_line_more n (suc k) (x ∷ ts) t e =
    ap (λ ls. tree_line n x ++ ls) (one_line_more (suc n) k ts t e)
    ∙ sym (append_assoc (tree_line n x) (tree_lines (suc n) (take k ts)) (tree_line (suc n + k) t))
    ∙ ap (λ m. (tree_line n x ++ tree_lines (suc n) (take k ts)) ++ tree_line m t) (omega arith)

-- the lines of all trees
pub all_lines : (n k : ℕ) (ts : List (List ℕ)) → length ts ≤ k → tree_lines n (take k ts) ≡ tree_lines n ts
all_lines n k ts h = ap (tree_lines n) (take_all k ts h)

-- the lines of the first k + 1 classes are those of the first k and those of the next
pub one_class_more : {X : Type 0} (g : X → ClassText) (k : ℕ) (xs : List X) (x : X) → k < length xs → x ≡ get_or xs k x
    → gathered class_text (map g (take (suc k) xs)) ≡ gathered class_text (map g (take k xs)) ++ class_text (g x)
one_class_more g k [] x h e = absurd (omega (arith, h))
one_class_more g zero (y ∷ xs) x h e = append-nil (class_text (g y)) ∙ ap (λ z. class_text (g z)) (sym e)
one_class_more g (suc k) (y ∷ xs) x h e =
    ap (λ ls. class_text (g y) ++ ls) (one_class_more g k xs x (omega (arith, h)) e)
    ∙ sym (append_assoc (class_text (g y)) (gathered class_text (map g (take k xs))) (class_text (g x)))

pub all_classes : {X : Type 0} (g : X → ClassText) (k : ℕ) (xs : List X) → length xs ≤ k → gathered class_text (map g (take k xs)) ≡ gathered class_text (map g xs)
all_classes g k xs h = ap (λ ys. gathered class_text (map g ys)) (take_all k xs h)

pub next_line : (k : ℕ) (ts : List (List ℕ)) (t : List ℕ) → slice_get ts k ≡ Some t → tree_lines 1 (take (k + 1) ts) ≡ tree_lines 1 (take k ts) ++ tree_line (k + 1) t
next_line k ts t e =
    let up : k + 1 ≡ suc k = omega arith in
    let turn : 1 + k ≡ k + 1 = omega arith in
    ap (λ n. tree_lines 1 (take n ts)) up ∙ one_line_more 1 k ts t e ∙ ap (λ m. tree_lines 1 (take k ts) ++ tree_line m t) turn

pub next_class : {X : Type 0} (g : X → ClassText) (k : ℕ) (xs : List X) (x : X) → k < length xs → x ≡ get_or xs k x
    → gathered class_text (map g (take (k + 1) xs)) ≡ gathered class_text (map g (take k xs)) ++ class_text (g x)
next_class g k xs x h e =
    let up : k + 1 ≡ suc k = omega arith in
    ap (λ n. gathered class_text (map g (take n xs))) up ∙ one_class_more g k xs x h e

-- what is appended piece by piece
pub three_pieces : (a b c d : List ℕ) → ((a ++ b) ++ c) ++ d ≡ a ++ ((b ++ c) ++ d)
three_pieces a b c d = ap (λ f. f ++ d) (append_assoc a b c) ∙ append_assoc a (b ++ c) d
