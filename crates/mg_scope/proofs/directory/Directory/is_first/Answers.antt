use Rattle.std.proofs.Common.{sym, ◌∙◌}
use Rattle.std.proofs.lemmas.Bool.{eqb-true, eq-eqb, false≢true}
use Rattle.gr_base.proofs.ListLemmas.{IsAmong-slice_get}
use Rattle.mg_syntax.specs.declared.item.Item.TheVariants as item
use Rattle.mg_scope.proofs.CheckLemmas.{first_yes, first_no}
use Rattle.mg_scope.proofs.directory.Directory.is_first.Goals as goal

pub returns-in-Some : goal.returns-in-Some
returns-in-Some c = record {
  first = λ k at named yes. first_yes c.args.self.now c.args.name c.in-Some.first c.args.place c.in-Some.ensures (eqb-true c.in-Some.first c.args.place yes);
  later = λ k at named not. first_no c.args.self.now c.args.name c.in-Some.first c.args.place k at named c.in-Some.ensures (λ e. not (eq-eqb c.in-Some.first c.args.place e));
}

pub returns-in-None : goal.returns-in-None
returns-in-None c = record {
  first = λ k at named yes. absurd (false≢true yes);
  later = λ k at named not. absurd (c.in-None.ensures (k, IsAmong-slice_get c.args.self.now c.args.place (item.Class k) at, named));
}
