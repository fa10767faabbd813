use Rattle.std.proofs.Common.{arith, ◌∙◌, sym, ap, take, map, ◌++◌, codes}
use Rattle.std.proofs.lemmas.List.{append_assoc}
use Rattle.gr_base.specs.Lists.{gathered}
use Rattle.tg_text.specs.GrammarText.{class_text, class_text_of, ended}
use Rattle.tg_text.proofs.LineLemmas.{next_class, all_classes}
use Rattle.tg_text.proofs.writing.write_grammar.Goals as goal

pub loop-at-preserved : goal.loop-at-preserved
loop-at-preserved c =
    let g = class_text_of c.args.symbols.now in
    let cs = c.args.classes.now in
    let k = c.loop-at.at in
    let front = ended (codes "grammar 1") in
    let more = next_class g k cs c.index-classes-at.result (omega (arith, c.loop-at-test.true)) c.index-classes-at.is in
    c.in_ok-push_class.ensures
    ∙ ap (λ x. x ++ class_text (g c.index-classes-at.result)) c.loop-at.invariant
    ∙ append_assoc front (gathered class_text (map g (take k cs))) (class_text (g c.index-classes-at.result))
    ∙ ap (λ ls. front ++ ls) (sym more)

pub returns : goal.returns
returns c =
    let g = class_text_of c.args.symbols.now in
    let front = ended (codes "grammar 1") in
    let all = all_classes g c.loop-at.at c.args.classes.now (omega (arith, c.loop-at-test.false)) in
    c.in_ok-push_str-2.ensures.bytes ∙ ap (λ x. x ++ ended (codes "end")) (c.loop-at.invariant ∙ ap (λ ls. front ++ ls) all)
