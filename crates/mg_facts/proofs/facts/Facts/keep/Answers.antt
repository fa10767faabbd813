use Rattle.std.proofs.Common.{◌≡◌, take, length, ap, sym, ◌∙◌, arith}
use Rattle.std.proofs.lemmas.List.{length-map}
use Rattle.mg_facts.proofs.facts.Facts.keep.Goals as goal

pub keep-requires-clause-count : goal.keep-requires-clause-count
keep-requires-clause-count c =
    let e : length c.args.self.now ≡ length c.self.inside.stated.facts = sym (ap length c.self.view_is) ∙ length-map c.self.inside.stated.facts _ in
    omega (arith, c.requires)

pub returns : goal.returns
returns c = c.keep.ensures.reads ∙ ap (take c.args.count) c.self.view_is
