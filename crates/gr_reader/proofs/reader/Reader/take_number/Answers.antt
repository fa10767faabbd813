use Rattle.std.proofs.Common.{rules, ◌≡◌, Err, refl, sym, subst}
use Rattle.gr_symbols.specs.Numbers.{Names}
use Rattle.gr_reader.specs.Parts.{for_other, for_want}
use Rattle.gr_reader.specs.declared.reader.Stop.TheVariants.{Memory}
use Rattle.gr_reader.proofs.Steps.{took_by}
use Rattle.gr_reader.proofs.reader.Reader.take_number.Goals as goal

pub returns-in_default-clause-takes : goal.returns-in_default-clause-takes
returns-in_default-clause-takes c = for_other (record { other = c.in_default.ensures; same = refl })

pub returns-in_err-sym-clause-takes : goal.returns-in_err-sym-clause-takes
returns-in_err-sym-clause-takes c = let e : c.from_residual.result ≡ Err Memory = search rules in rw e (for_want refl)

pub returns-clause-takes : goal.returns-clause-takes
returns-clause-takes c =
    let t = took_by c.self.inside.bytes.now c.self.inside.rest.now _ _ _ (sym c.self.view_is) c.in-Some.ensures in
    record { took = t.took; names = subst (λ z. Names c.intern.new.self c.in_ok-sym.sym.0 z) t.is c.in_ok-sym.ensures.named }
