use Rattle.std.proofs.Common.{◌≡◌, Err, refl, rules, ap, ◌∙◌, arith}
use Rattle.gr_symbols.proofs.NumberLemmas.{Grows-trans}
use Rattle.gr_reader.specs.Complaints.{all_noted}
use Rattle.gr_reader.specs.declared.reader.Stop.TheVariants.{Memory as NoMemory}
use Rattle.gr_reader.proofs.Steps.{memory_stops}
use Rattle.sm_input.proofs.Naming.{input_right, bad_right, grown_input}
use Rattle.gr_grammar.specs.Grammars.{tree_of}
use Rattle.sm_input.proofs.TableLemmas.{puts_input}
use Rattle.sm_input.proofs.inputs.input.Goals as goal

pub returns-in_err-raw-clause-reads : goal.returns-in_err-raw-clause-reads
returns-in_err-raw-clause-reads c =
    let e : c.from_residual.result ≡ Err c.in_err-raw.field-0.0 = search rules in
    rw e c.in_err-raw.ensures.reads

pub returns-in_err-input-clause-reads : goal.returns-in_err-input-clause-reads
returns-in_err-input-clause-reads c =
    let e : c.from_residual-in_err-input.result ≡ Err NoMemory = search rules in
    rw e (memory_stops refl)

pub returns-in_err-input-clause-passes : goal.returns-in_err-input-clause-passes
returns-in_err-input-clause-passes c =
    let a = c.in_ok-raw.ensures.spare in
    let b = c.named_input.ensures.few in
    record { grows = Grows-trans _ _ _ c.in_ok-raw.ensures.passes.grows c.named_input.ensures.grows; few = omega (arith, a, b) }

pub returns-clause-passes : goal.returns-clause-passes
returns-clause-passes c =
    let a = c.in_ok-raw.ensures.spare in
    let b = c.named_input.ensures.few in
    record { grows = Grows-trans _ _ _ c.in_ok-raw.ensures.passes.grows c.named_input.ensures.grows; few = omega (arith, a, b) }

pub returns-clause-reads : goal.returns-clause-reads
returns-clause-reads c = (
  c.in_ok-raw.ensures.reads.0,
  λ later grows apart.
      let h = c.in_ok-raw.ensures.reads.1 later (Grows-trans _ _ later c.named_input.ensures.grows grows) apart in
      (c.complain.ensures ∙ ap (all_noted _) (bad_right later apart _ _ _ h), λ f. input_right later apart _ _ _ h (grown_input _ later grows _ _ c.in_ok-input.ensures.named) f),
)

pub returns-clause-table : goal.returns-clause-table
returns-clause-table c = λ later grows apart.
    let h = c.in_ok-raw.ensures.reads.1 later (Grows-trans _ _ later c.named_input.ensures.grows grows) apart in
    puts_input later _ _ _ _ _ (tree_of c.in_ok-raw.ensures.reads.0) _ h c.in_ok-raw.ensures.table c.in_ok-input.ensures.table
