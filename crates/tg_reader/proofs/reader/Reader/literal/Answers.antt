use Rattle.std.proofs.Common.{◌≡◌, ◌∙◌, ◌++◌, ◌∷◌, [], rules, refl, Err}
use Rattle.gr_symbols.proofs.NumberLemmas.{Grows-trans}
use Rattle.td_canon.specs.TreeText.{label_text}
use Rattle.gr_base.specs.Lists.{gathered}
use Rattle.tg_reader.proofs.Rows.{table_then}
use Rattle.tg_reader.specs.Naming.{label_names}
use Rattle.tg_reader.proofs.LiteralTexts.{arguments_text, literal_regroup}
use Rattle.tg_reader.proofs.Steps.{stops}
use Rattle.tg_reader.proofs.reader.Reader.literal.Goals as goal

pub returns-in_err-expect-clause-takes : goal.returns-in_err-expect-clause-takes
returns-in_err-expect-clause-takes c = λ text l rest can end e.
    let is : c.from_residual-in_err-expect.result ≡ Err c.in_err-expect.field-0.0 = search rules in
    let behind = label_text text l.pred ++ 40 ∷ ((arguments_text text l.args ++ 41 ∷ []) ++ rest) in
    let handle = c.in_ok-handle.ensures.takes text l.handle (58 ∷ behind) can.handle refl (e ∙ literal_regroup text l rest) in
    rw is (stops c.in_err-expect.field-0.0 _ _ (c.in_err-expect.ensures.takes behind handle.0))

pub returns-in_err-pred-clause-takes : goal.returns-in_err-pred-clause-takes
returns-in_err-pred-clause-takes c = λ text l rest can end e.
    let is : c.from_residual-in_err-pred.result ≡ Err c.in_err-pred.field-0.0 = search rules in
    let last = (arguments_text text l.args ++ 41 ∷ []) ++ rest in
    let behind = label_text text l.pred ++ 40 ∷ last in
    let handle = c.in_ok-handle.ensures.takes text l.handle (58 ∷ behind) can.handle refl (e ∙ literal_regroup text l rest) in
    rw is (stops c.in_err-pred.field-0.0 _ _ (c.in_err-pred.ensures.takes text l.pred (40 ∷ last) can.pred refl (c.in_ok-expect.ensures.takes behind handle.0)))

pub returns-in_err-expect-2-clause-takes : goal.returns-in_err-expect-2-clause-takes
returns-in_err-expect-2-clause-takes c = λ text l rest can end e.
    let is : c.from_residual-in_err-expect-2.result ≡ Err c.in_err-expect-2.field-0.0 = search rules in
    let last = (arguments_text text l.args ++ 41 ∷ []) ++ rest in
    let behind = label_text text l.pred ++ 40 ∷ last in
    let handle = c.in_ok-handle.ensures.takes text l.handle (58 ∷ behind) can.handle refl (e ∙ literal_regroup text l rest) in
    let pred = c.in_ok-pred.ensures.takes text l.pred (40 ∷ last) can.pred refl (c.in_ok-expect.ensures.takes behind handle.0) in
    rw is (stops c.in_err-expect-2.field-0.0 _ _ (c.in_err-expect-2.ensures.takes last pred.0))

pub returns-in_err-args-clause-takes : goal.returns-in_err-args-clause-takes
returns-in_err-args-clause-takes c = λ text l rest can end e.
    let is : c.from_residual-in_err-args.result ≡ Err c.in_err-args.field-0.0 = search rules in
    let last = (arguments_text text l.args ++ 41 ∷ []) ++ rest in
    let behind = label_text text l.pred ++ 40 ∷ last in
    let handle = c.in_ok-handle.ensures.takes text l.handle (58 ∷ behind) can.handle refl (e ∙ literal_regroup text l rest) in
    let pred = c.in_ok-pred.ensures.takes text l.pred (40 ∷ last) can.pred refl (c.in_ok-expect.ensures.takes behind handle.0) in
    rw is (stops c.in_err-args.field-0.0 _ _ (c.in_err-args.ensures.takes text l.args rest can.args tt (c.in_ok-expect-2.ensures.takes last pred.0)))

pub returns-clause-takes : goal.returns-clause-takes
returns-clause-takes c = λ text l rest can end e.
    let last = (arguments_text text l.args ++ 41 ∷ []) ++ rest in
    let behind = label_text text l.pred ++ 40 ∷ last in
    let handle = c.in_ok-handle.ensures.takes text l.handle (58 ∷ behind) can.handle refl (e ∙ literal_regroup text l rest) in
    let pred = c.in_ok-pred.ensures.takes text l.pred (40 ∷ last) can.pred refl (c.in_ok-expect.ensures.takes behind handle.0) in
    let args = c.in_ok-args.ensures.takes text l.args rest can.args tt (c.in_ok-expect-2.ensures.takes last pred.0) in (
      args.0,
      record {
        table = table_then _ _ _ (label_names text l.handle) (label_names text l.pred ++ gathered (label_names text) l.args) handle.1.table (table_then _ _ _ (label_names text l.pred) (gathered (label_names text) l.args) pred.1.table args.1.table);
        later = λ later grows.
            let grows_pred = Grows-trans _ _ later c.arguments.ensures.passes.grows grows in
            record {
              handle = handle.1.later later (Grows-trans _ _ later c.term-2.ensures.passes.grows grows_pred);
              pred = pred.1.later later grows_pred;
              args = args.1.later later grows;
            };
      },
    )

pub returns-clause-known : goal.returns-clause-known
returns-clause-known c = λ later grows.
    let grows_pred = Grows-trans _ _ later c.arguments.ensures.passes.grows grows in
    record {
      handle = c.in_ok-handle.ensures.known later (Grows-trans _ _ later c.term-2.ensures.passes.grows grows_pred);
      pred = c.in_ok-pred.ensures.known later grows_pred;
      args = c.in_ok-args.ensures.known later grows;
    }
