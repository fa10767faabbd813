-- What is written of classes that can be written is a text of the grammar, in which no property breaks the rule.
use Rattle.std.specs.Prelude.{ℕ, suc, ◌<◌, ◌^◌, List, [], ◌∷◌, map, length}
use Rattle.std.proofs.Common.{arith, length-append}
use Rattle.gr_base.specs.Lists.{Each, gathered}
use Rattle.td_canon.specs.CanonicalTexts.{HasText}
use Rattle.td_canon.specs.TreeSets.{Entry, texts_of, trees_of}
use Rattle.td_canon.specs.declared.tree_set.ClassTrees.{ClassTrees}
use Rattle.tg_syntax.specs.Answers.{IsGrammarFile}
use Rattle.tg_reader.specs.Writable.{IsTable, IsWritableTree}
use Rattle.tg_text.specs.Answers.{IsReadClass}
use Rattle.tg_text.specs.GrammarText.{class_text, class_text_of, grammar_text, tree_lines}
use Rattle.tg_text.proofs.FileTexts.{IsTaken, IsTakenClass, grammar_takes}
use Rattle.tg_text.proofs.SizeLemmas.{class_size, file_size, first_line_size, lines_size}
use Rattle.tg_text.proofs.WritableForms.{tree_taken}

module _ (texts : List (List ℕ)) (table : IsTable texts) where
  trees_taken : (n : ℕ) (set : List Entry) → Each (λ e. HasText texts e.tree e.text) set → Each (IsWritableTree texts) (trees_of set) → length (tree_lines n (texts_of set)) < 10 ^ 9 → Each IsTaken (texts_of set)
  trees_taken n [] has h few = tt
  trees_taken n (e ∷ set) has h few =
      let size = first_line_size n e.text (texts_of set) in
      (tree_taken texts table e.tree e.text has.0 h.0 (omega (arith, few, size)), trees_taken (suc n) set has.1 h.1 (omega (arith, few, size)))

  class_taken : (c : ClassTrees) → IsReadClass texts c → length (class_text (class_text_of texts c)) < 10 ^ 9 → IsTakenClass (class_text_of texts c)
  class_taken c h few =
      let size = class_size (class_text_of texts c) in
      record {
        name = h.word;
        trees = trees_taken 1 c.trees h.whole.texts_are h.writable (omega (arith, few, size));
        few = omega (arith, few, size, lines_size 1 (texts_of c.trees));
      }

  classes_taken : (cs : List ClassTrees) → Each (IsReadClass texts) cs → length (gathered class_text (map (class_text_of texts) cs)) < 10 ^ 9 → Each IsTakenClass (map (class_text_of texts) cs)
  classes_taken [] h few = tt
  classes_taken (c ∷ cs) h few =
      let size = length-append (class_text (class_text_of texts c)) (gathered class_text (map (class_text_of texts) cs)) in
      (class_taken c h.0 (omega (arith, few, size)), classes_taken cs h.1 (omega (arith, few, size)))

  pub written_text_obeys : (cs : List ClassTrees) → Each (IsReadClass texts) cs → length (grammar_text (map (class_text_of texts) cs)) < 10 ^ 9 → IsGrammarFile (grammar_text (map (class_text_of texts) cs))
  written_text_obeys cs h few = grammar_takes (map (class_text_of texts) cs) (classes_taken cs h (omega (arith, few, file_size (map (class_text_of texts) cs))))
