-- The text of classes is a text of the grammar of files, if the texts of their trees are texts of trees, and counts are small.
use Rattle.std.proofs.Common.{◌≡◌, ℕ, suc, ◌+◌, ◌<◌, ◌≤◌, ◌^◌, List, [], ◌∷◌, ◌++◌, length, Bool, true, false, refl, ◌∙◌, arith, append_assoc}
use Rattle.std.specs.Prelude.{codes}
use Rattle.std.specs.Fmt.{decimal}
use Rattle.gr_base.specs.Lists.{Each, gathered}
use Rattle.gr_grammar.specs.Grammars.{part, star}
use Rattle.tg_syntax.specs.Names.{word, number}
use Rattle.tg_syntax.specs.Trees.{tree}
use Rattle.tg_syntax.specs.Files.{LINES, lines, class}
use Rattle.tg_syntax.specs.Answers.{IsGrammarFile}
use Rattle.tg_syntax.proofs.Noting.{plain, plain_part}
use Rattle.tg_syntax.proofs.NameTexts.{word_text, decimal_text}
use Rattle.tg_syntax.proofs.Texts.{Takes, plain_takes, takes_token, takes_both, takes_left, takes_right, takes_end, takes_more, takes_keyword, takes_lines, takes_as, file_of}
use Rattle.tg_reader.specs.Writable.{IsWord}
use Rattle.tg_text.specs.GrammarText.{ClassText, class_text, closing_word, ended, grammar_text, tree_line, tree_lines}

number_takes : (n : ℕ) → n < 10 ^ 9 → (rest : List ℕ) → Takes number (decimal n ++ rest) rest
unfolding plain plain_part
number_takes n small rest = plain_takes refl (decimal_text n rest small)

word_takes : (t : List ℕ) → IsWord t → (rest : List ℕ) → Takes word (t ++ rest) rest
unfolding plain plain_part
word_takes t h rest = plain_takes refl (word_text t rest h.word h.name.few)

-- ---- lines

-- the text is a tree's, whatever stands behind
abbrev pub IsTaken : List ℕ → Type 0
IsTaken t = (rest : List ℕ) → Takes tree (t ++ rest) rest

abbrev closing : Bool → ℕ → List ℕ
closing cut count = ended (closing_word cut ++ decimal count)

closing_grouped : (w d rest : List ℕ) → ((w ++ d) ++ 10 ∷ []) ++ rest ≡ w ++ (d ++ 10 ∷ rest)
closing_grouped w d rest = append_assoc (w ++ d) (10 ∷ []) rest ∙ append_assoc w d (10 ∷ rest)

line_grouped : (n : ℕ) (t rest : List ℕ) → tree_line n t ++ rest ≡ codes "tree " ++ (decimal n ++ 32 ∷ (t ++ 10 ∷ rest))
line_grouped n t rest =
    append_assoc (((codes "tree " ++ decimal n) ++ codes " ") ++ t) (10 ∷ []) rest
    ∙ append_assoc ((codes "tree " ++ decimal n) ++ codes " ") t (10 ∷ rest)
    ∙ append_assoc (codes "tree " ++ decimal n) (codes " ") (t ++ 10 ∷ rest)
    ∙ append_assoc (codes "tree ") (decimal n) (32 ∷ (t ++ 10 ∷ rest))

closing_takes : (cut : Bool) (count : ℕ) → count < 10 ^ 9 → (rest : List ℕ) → Takes lines (closing cut count ++ rest) rest
closing_takes true count small rest =
    takes_as (closing_grouped (codes "cut ") (decimal count) rest)
    (takes_right (takes_both (takes_keyword (codes "cut ") (decimal count ++ 10 ∷ rest)) (takes_both (number_takes count small (10 ∷ rest)) (takes_token refl))))
closing_takes false count small rest =
    takes_as (closing_grouped (codes "trees ") (decimal count) rest)
    (takes_left (takes_both (takes_keyword (codes "tree") (codes "s " ++ (decimal count ++ 10 ∷ rest)))
    (takes_right (takes_both (takes_keyword (codes "s ") (decimal count ++ 10 ∷ rest)) (takes_both (number_takes count small (10 ∷ rest)) (takes_token refl))))))

lines_take : (n : ℕ) (ts : List (List ℕ)) (cut : Bool) (count : ℕ) → Each IsTaken ts → n + length ts ≤ 10 ^ 9 → count < 10 ^ 9 → (rest : List ℕ) → Takes (part LINES) (tree_lines n ts ++ (closing cut count ++ rest)) rest
lines_take n [] cut count taken small few rest = takes_lines (closing_takes cut count few rest)
lines_take n (t ∷ ts) cut count taken small few rest =
    let more = tree_lines (suc n) ts ++ (closing cut count ++ rest) in
    takes_as (append_assoc (tree_line n t) (tree_lines (suc n) ts) (closing cut count ++ rest) ∙ line_grouped n t more)
    (takes_lines (takes_left (takes_both (takes_keyword (codes "tree") (32 ∷ (decimal n ++ 32 ∷ (t ++ 10 ∷ more))))
    (takes_left (takes_both
    (takes_both (takes_token refl) (takes_both (number_takes n (omega arith) (32 ∷ (t ++ 10 ∷ more))) (takes_both (takes_token refl) (takes_both (taken.0 (10 ∷ more)) (takes_token refl)))))
    (lines_take (suc n) ts cut count taken.1 (omega arith) few rest))))))

-- ---- classes

-- the class has a name that is a word, and the texts of trees, fewer than nine digits can count
pub record IsTakenClass (c : ClassText) : Type 0 where
  pub name : IsWord c.name
  pub trees : Each IsTaken c.trees
  pub few : suc (length c.trees) < 10 ^ 9

class_takes : (c : ClassText) → IsTakenClass c → (rest : List ℕ) → Takes class (class_text c ++ rest) rest
class_takes c h rest =
    let ls = tree_lines 1 c.trees in
    let end = closing c.cut (length c.trees) in
    takes_as (append_assoc (ended (codes "class " ++ c.name) ++ ls) end rest ∙ append_assoc (ended (codes "class " ++ c.name)) ls (end ++ rest) ∙ closing_grouped (codes "class ") c.name (ls ++ (end ++ rest)))
    (takes_both (takes_keyword (codes "class ") (c.name ++ 10 ∷ (ls ++ (end ++ rest))))
    (takes_both (word_takes c.name h.name (10 ∷ (ls ++ (end ++ rest))))
    (takes_both (takes_token refl) (lines_take 1 c.trees c.cut (length c.trees) h.trees (omega (arith, h.few)) (omega (arith, h.few)) rest))))

classes_take : (cs : List ClassText) → Each IsTakenClass cs → (rest : List ℕ) → Takes (star class) (gathered class_text cs ++ rest) rest
classes_take [] h rest = takes_end
classes_take (c ∷ cs) h rest =
    takes_as (append_assoc (class_text c) (gathered class_text cs) rest) (takes_more (takes_both (class_takes c h.0 (gathered class_text cs ++ rest)) (classes_take cs h.1 rest)))

-- ---- the file

pub grammar_takes : (cs : List ClassText) → Each IsTakenClass cs → IsGrammarFile (grammar_text cs)
grammar_takes cs h =
    let end = ended (codes "end") in
    file_of (takes_as (append_assoc (ended (codes "grammar 1")) (gathered class_text cs) end)
    (takes_both (takes_keyword (ended (codes "grammar 1")) (gathered class_text cs ++ end)) (takes_both (classes_take cs h end) (takes_keyword end []))))
