use Rattle.std.proofs.Common.{arith, ◌≡◌, ◌∙◌, sym, ap, ◌+◌, ◌++◌, take, length, string_bytes}
use Rattle.std.proofs.lemmas.List.{append_assoc, length-map}
use Rattle.td_canon.specs.TreeSets.{Entry, texts_of}
use Rattle.tg_text.specs.GrammarText.{tree_line, tree_lines}
use Rattle.tg_text.proofs.LineLemmas.{next_line, all_lines}
use Rattle.tg_text.proofs.writing.push_trees.Goals as goal

pub loop-at-preserved : goal.loop-at-preserved
loop-at-preserved c =
    let n = c.loop-at.at in
    let ts = texts_of c.args.trees.now in
    let line = next_line n ts c.text.result.now c.text.ensures.text in
    c.in_ok-push_tree.ensures
    ∙ ap (λ front. front ++ tree_line (n + 1) c.text.result.now) c.loop-at.invariant
    ∙ append_assoc (string_bytes c.args.text.now) (tree_lines 1 (take n ts)) (tree_line (n + 1) c.text.result.now)
    ∙ ap (λ ls. string_bytes c.args.text.now ++ ls) (sym line)

pub returns : goal.returns
returns c =
    let count : length (texts_of c.args.trees.now) ≡ length c.args.trees.now = length-map c.args.trees.now (λ (e : Entry). e.text) in
    let all = all_lines 1 c.loop-at.at (texts_of c.args.trees.now) (omega (arith, c.len-at-end.ensures.number, count)) in
    c.loop-at.invariant ∙ ap (λ ls. string_bytes c.args.text.now ++ ls) all
