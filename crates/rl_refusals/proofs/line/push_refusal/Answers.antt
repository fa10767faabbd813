use Rattle.std.proofs.Common.{subst, OnOk, map, [], ◌∷◌, string_bytes}
use Rattle.rl_refusals.specs.Lines.{number, name_part}
use Rattle.rl_refusals.specs.Parts.{Says}
use Rattle.rl_refusals.proofs.PartLemmas.{on_ok, says_both}
use Rattle.rl_refusals.proofs.line.push_refusal.Goals as goal

pub push_parts-requires : goal.push_parts-requires
push_parts-requires c = rw c.at_place.ensures (tt, (tt, (tt, (tt, tt))))

pub push_parts-requires-in-DuplicateAttribute : goal.push_parts-requires-in-DuplicateAttribute
push_parts-requires-in-DuplicateAttribute c = rw c.at_place-in-DuplicateAttribute.ensures (tt, (tt, (tt, (tt, tt))))

pub returns-in-Syntax : goal.returns-in-Syntax
returns-in-Syntax c =
    rw c.in-Syntax.is (subst (λ ps. OnOk c.push_parts.result (Says c.args.symbols.now ps (string_bytes c.args.out.now) (string_bytes c.push_parts.new.out))) c.at_place.ensures c.push_parts.ensures)

pub returns-in_ok-push_part-in-ClassCycle : goal.returns-in_ok-push_part-in-ClassCycle
returns-in_ok-push_part-in-ClassCycle c =
    let first = c.in_ok-push_part-in-ClassCycle.ensures in
    let said = on_ok c.push_names.result (says_both c.args.symbols.now (number 14 ∷ []) (map name_part c.as_slice.result.now) (string_bytes c.args.out.now) (string_bytes c.push_part.new.out) (string_bytes c.push_names.new.out) first) c.push_names.ensures in
    let all = subst (λ cs. OnOk c.push_names.result (Says c.args.symbols.now (number 14 ∷ map name_part cs) (string_bytes c.args.out.now) (string_bytes c.push_names.new.out))) c.as_slice.ensures said in
    rw c.in-ClassCycle.is all

pub returns-in-DuplicateAttribute : goal.returns-in-DuplicateAttribute
returns-in-DuplicateAttribute c =
    rw c.in-DuplicateAttribute.is (subst (λ ps. OnOk c.push_parts-in-DuplicateAttribute.result (Says c.args.symbols.now ps (string_bytes c.args.out.now) (string_bytes c.push_parts-in-DuplicateAttribute.new.out)))
    c.at_place-in-DuplicateAttribute.ensures c.push_parts-in-DuplicateAttribute.ensures)
