use Rattle.std.proofs.Common.{◌≡◌, Err, refl, rules}
use Rattle.gr_grammar.specs.Grammars.{tree_of}
use Rattle.gr_symbols.proofs.NumberLemmas.{Names-grows}
use Rattle.gr_reader.specs.declared.reader.Stop.TheVariants.{Memory as NoMemory}
use Rattle.gr_reader.proofs.Steps.{token_run, token_stops, token_text, memory_stops}
use Rattle.gr_feats.proofs.PassingLemmas.{texts_took, texts_same, texts_interned}
use Rattle.gr_feats.proofs.TableLemmas.{puts_open}
use Rattle.gr_feats.proofs.terms.number.Goals as goal

pub returns : goal.returns
returns c =
    let t = c.in_ok-text.ensures in
    let r = token_run t.took in
    record {
      reads = (r, λ later g. Names-grows c.intern.new.self later c.in_ok-sym.sym.0 _ (rw (token_text (tree_of r) t) at c.in_ok-sym.ensures.named) g);
      passes = texts_interned t.took c.in_ok-sym.ensures.grows c.in_ok-sym.ensures.one_more_at_most;
      table = λ is_name. puts_open is_name t c.in_ok-sym.ensures.table;
    }

pub returns-in_err-text : goal.returns-in_err-text
returns-in_err-text c =
    let e : c.from_residual.result ≡ Err c.in_err-text.field-0.0 = search rules in
    record {
      reads = rw e (token_stops c.in_err-text.ensures.0 c.in_err-text.ensures.1);
      passes = texts_same c.in_err-text.ensures.1.same;
      table = rw e (tt {0});
    }

pub returns-in_err-sym : goal.returns-in_err-sym
returns-in_err-sym c =
    let e : c.from_residual-in_err-sym.result ≡ Err NoMemory = search rules in
    record {
      reads = rw e (memory_stops refl);
      passes = rw c.in_err-sym.ensures.err (texts_took c.in_ok-text.ensures.took);
      table = rw e (tt {0});
    }
