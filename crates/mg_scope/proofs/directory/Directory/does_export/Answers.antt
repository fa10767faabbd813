use Rattle.mg_scope.proofs.NameLemmas.{exports_here, exports_none}
use Rattle.mg_scope.proofs.directory.Directory.does_export.Goals as goal

pub returns-in-Some : goal.returns-in-Some
returns-in-Some c = exports_here c.args.self.now c.args.class c.args.name c.in-Some.place c.outline.result.now.exports c.has.result c.in-Some.ensures c.outline.ensures.exports c.has.ensures

pub returns-in-None : goal.returns-in-None
returns-in-None c = exports_none c.args.self.now c.args.class c.args.name c.in-None.ensures
