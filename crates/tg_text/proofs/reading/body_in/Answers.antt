use Rattle.std.proofs.Common.{refl, sym, ◌∙◌}
use Rattle.td_canon.specs.TreeSets.{texts_of}
use Rattle.tg_text.proofs.Stopping.{bad_in_class, body_breaks}
use Rattle.tg_text.proofs.TreeRows.{texts_count}
use Rattle.tg_text.proofs.reading.body_in.Goals as goal

pub returns-in_default-clause-stops : goal.returns-in_default-clause-stops
returns-in_default-clause-stops c = λ names.
    let texts = c.trees_in.new.symbols in
    let set = c.in_ok-trees.trees in
    let has = c.in_ok-trees.ensures.trees in (
      c.in_ok-trees.rest.now,
      bad_in_class texts names set c.args.text.now c.in_ok-trees.rest.now c.is_table.ensures has.read has.split
          (body_breaks names (texts_of set) c.len.result c.in_ok-trees.rest.now (c.len.ensures.number ∙ sym (texts_count set)) has.last c.in_default.ensures),
      refl,
    )
