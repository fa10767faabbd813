use Rattle.std.proofs.Common.{◌≡◌, ◌∙◌, sym, ap, ℕ, List, [], ◌++◌, codes, length, string_bytes}
use Rattle.std.specs.Fmt.{decimal}
use Rattle.std.proofs.lemmas.List.{length-map}
use Rattle.std.proofs.lemmas.Option.{get_or_from_slice_get}
use Rattle.td_canon.specs.TreeSets.{Entry, texts_of}
use Rattle.tg_text.specs.GrammarText.{closing_word, ended, tree_lines}
use Rattle.tg_text.proofs.LineLemmas.{three_pieces}
use Rattle.tg_text.proofs.writing.push_class.Goals as goal

pub returns : goal.returns
returns c =
    let class = c.args.class.now in
    let old = string_bytes c.args.text.now in
    let head = ended (codes "class " ++ c.text.result.now) in
    let lines = tree_lines 1 (texts_of class.trees) in
    let count : length (texts_of class.trees) ≡ length class.trees = length-map class.trees (λ (e : Entry). e.text) in
    let last : ℕ → List ℕ = λ n. ended (closing_word class.cut ++ decimal n) in
    c.in_ok-push_count.ensures
    ∙ ap (λ front. front ++ last c.len.result) (c.in_ok-push_trees.ensures ∙ ap (λ front. front ++ lines) c.in_ok-push_name.ensures)
    ∙ three_pieces old head lines (last c.len.result)
    ∙ ap (λ n. old ++ ((head ++ lines) ++ last n)) (c.len.ensures.number ∙ sym count)
    ∙ ap (λ name. old ++ ((ended (codes "class " ++ name) ++ lines) ++ last (length (texts_of class.trees)))) (sym (get_or_from_slice_get c.args.symbols.now class.class.0 c.text.result.now [] c.text.ensures.text))
