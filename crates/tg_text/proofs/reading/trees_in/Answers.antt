use Rattle.std.proofs.Common.{◌+◌, refl, arith, rules}
use Rattle.gr_symbols.proofs.NumberLemmas.{Grows-trans}
use Rattle.std.proofs.lemmas.Bool.{OnFalse_at, OnTrue_at}
use Rattle.tg_text.proofs.Putting.{trees_put}
use Rattle.tg_text.proofs.GrownTrees.{trees_stay}
use Rattle.tg_text.proofs.TreeRows.{split_more, tree_is_bad, tree_line_long, trees_ended}
use Rattle.tg_text.proofs.reading.trees_in.Goals as goal

pub returns-then-not-branch-clause-stops : goal.returns-then-not-branch-clause-stops
returns-then-not-branch-clause-stops c = λ names.
    let table = c.is_table.ensures in (
      c.row.rest.now,
      tree_is_bad c.add_tree.new.symbols names c.row.trees c.args.text.now c.row.rest.now c.in-Some.tree.now c.in-Some.more.now c.len.result table (trees_stay c.row.symbols c.add_tree.new.symbols c.add_tree.ensures.grows table.once c.row.trees c.row.invariant.read) c.row.invariant.split c.len.ensures.number
          c.in-Some.ensures.0 c.in-Some.ensures.1 (OnFalse_at {b = c.in_ok-add_tree.field-0} c.if-not-branch.true c.in_ok-add_tree.ensures.refused),
      refl,
    )

pub row-preserved : goal.row-preserved
row-preserved c =
    let t = OnTrue_at {b = c.in_ok-add_tree.field-0} c.if-not-branch.false c.in_ok-add_tree.ensures.added in
    let line = tree_line_long (c.len.result + 1) c.row.rest.now c.in-Some.tree.now c.in-Some.more.now c.in-Some.ensures.1 in
    record {
      read = t.2;
      table = trees_put c.row.trees c.add_tree.new.trees t.0 c.in-Some.tree.now c.args.symbols.now c.row.symbols c.add_tree.new.symbols t.1 c.row.invariant.table (OnTrue_at {b = c.in_ok-add_tree.field-0} c.if-not-branch.false c.in_ok-add_tree.ensures.table);
      split = split_more c.row.trees c.add_tree.new.trees t.0 c.args.text.now c.row.rest.now c.in-Some.tree.now c.in-Some.more.now c.len.result c.len.ensures.number c.row.invariant.split c.in-Some.ensures.1 t.1;
      grows = Grows-trans c.args.symbols.now c.row.symbols c.add_tree.new.symbols c.row.invariant.grows c.add_tree.ensures.grows;
      utf8 = search rules;
      few = omega (arith, line, c.row.invariant.few, c.add_tree.ensures.few_more);
    }

pub returns-clause-trees : goal.returns-clause-trees
returns-clause-trees c = trees_ended c.row.symbols c.row.trees c.args.text.now c.row.rest.now c.len.result c.len.ensures.number c.row.invariant.read c.row.invariant.split c.in_default.ensures
