use Rattle.std.proofs.Common.{ap, sym, ◌∙◌}
use Rattle.mg_scope.specs.Classes.{mentions_of}
use Rattle.mg_scope.proofs.ClassLemmas.{mentions_here, class_of-none}
use Rattle.mg_scope.proofs.directory.Directory.mentioned.Goals as goal

pub returns-in-Some : goal.returns-in-Some
returns-in-Some c =
    let o = c.outline.result.now in
    c.deref.ensures.value ∙ mentions_here c.args.self.now c.args.name c.in-Some.place o.mentions.items o.uses.items c.in-Some.ensures c.outline.ensures.outline

pub returns-in-None : goal.returns-in-None
returns-in-None c = ap mentions_of (sym (class_of-none c.args.self.now c.args.name c.in-None.ensures))
