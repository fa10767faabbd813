use Rattle.std.proofs.Common.{length}
use Rattle.gr_base.specs.Forests.{IsOneTree}
use Rattle.td_desc.specs.Descriptions.{description_of}
use Rattle.td_forest.specs.Steps.{forest_of}
use Rattle.td_colour.specs.Models.{IsMinimalModel}
use Rattle.td_solver.proofs.Adding.{one_width, minimal, added_has, added_gains}
use Rattle.td_solver.proofs.search.add_tree.Goals as goal

pub add-requires-clause-named : goal.add-requires-clause-named
add-requires-clause-named c =
    c.the_text_of_a_model.ensures.named (length c.args.task.now.symbols.now) c.args.task.now.d.now (forest_of c.args.forest.now) c.in_ok-tree.tree c.requires.task.named c.in_ok-tree.ensures

pub returns-clause-has : goal.returns-clause-has
returns-clause-has c one =
    let F = forest_of c.args.forest.now in
    let d = description_of c.args.task.now.d.now in
    added_has c.args.task.now.symbols.now d F c.in_ok-tree.tree c.args.out.now c.add.new.self
    (λ bytes h. c.the_text_of_a_model.ensures.entry c.args.task.now.symbols.now d F c.in_ok-tree.tree bytes c.requires.model.network c.in_ok-tree.ensures h)
    c.in_ok-_added._added c.in_ok-_added.ensures.added c.in_ok-_added.ensures.there c.in_ok-_added.ensures.same

pub returns-clause-some : goal.returns-clause-some
returns-clause-some c =
    let F = forest_of c.args.forest.now in
    let d = description_of c.args.task.now.d.now in
    let one : IsOneTree F = one_width F c.width.result c.if-width-ne1.false c.width.ensures.is in
    let min : IsMinimalModel d F = minimal c.args.task.now.d.now c.args.task.now.count F c.requires.task.count c.requires.model one in
    added_gains c.args.task.now.symbols.now d F c.in_ok-tree.tree c.args.out.now c.add.new.self
    (λ bytes h. c.the_text_of_a_model.ensures.entry c.args.task.now.symbols.now d F c.in_ok-tree.tree bytes c.requires.model.network c.in_ok-tree.ensures h)
    min c.in_ok-_added._added c.in_ok-_added.ensures.added c.in_ok-_added.ensures.same c.in_ok-_added.ensures.whole
