use Rattle.std.proofs.Common.{◌≡◌, ◌∙◌, ◌++◌, rules, subst, Err}
use Rattle.gr_symbols.proofs.NumberLemmas.{Grows-trans}
use Rattle.gr_terms.specs.Canonical.{category, properties}
use Rattle.td_tree.specs.Trees.{BagPairs}
use Rattle.gr_base.specs.Lists.{gathered}
use Rattle.tg_reader.proofs.Rows.{table_then}
use Rattle.tg_reader.specs.Naming.{label_names, pair_names}
use Rattle.tg_reader.specs.Reading.{PutsPairs}
use Rattle.tg_reader.proofs.NodeTexts.{apart, bottoms, braces, node_regroup, tops}
use Rattle.tg_reader.proofs.Steps.{stops}
use Rattle.tg_reader.proofs.reader.Reader.labelled.Goals as goal

pub returns-in_err-own-clause-takes : goal.returns-in_err-own-clause-takes
returns-in_err-own-clause-takes c = λ text n rest can end e.
    let is : c.from_residual.result ≡ Err c.in_err-own.field-0.0 = search rules in
    let a = apart text n rest end in
    rw is (stops c.in_err-own.field-0.0 _ _ (c.in_err-own.ensures.takes text (category n.own) (braces text n ++ (tops text n ++ (bottoms text n ++ rest))) can.category a.category (e ∙ node_regroup text n rest)))

pub returns-in_err-enclosed-clause-takes : goal.returns-in_err-enclosed-clause-takes
returns-in_err-enclosed-clause-takes c = λ text n rest can end e.
    let is : c.from_residual-in_err-enclosed.result ≡ Err c.in_err-enclosed.field-0.0 = search rules in
    let a = apart text n rest end in
    let own = c.in_ok-own.ensures.takes text (category n.own) (braces text n ++ (tops text n ++ (bottoms text n ++ rest))) can.category a.category (e ∙ node_regroup text n rest) in
    rw is (stops c.in_err-enclosed.field-0.0 _ _ (c.in_err-enclosed.ensures.takes text (properties n.own) (tops text n ++ (bottoms text n ++ rest)) can.properties a.braces own.0))

pub returns-in_err-enclosed-2-clause-takes : goal.returns-in_err-enclosed-2-clause-takes
returns-in_err-enclosed-2-clause-takes c = λ text n rest can end e.
    let is : c.from_residual-in_err-enclosed-2.result ≡ Err c.in_err-enclosed-2.field-0.0 = search rules in
    let a = apart text n rest end in
    let own = c.in_ok-own.ensures.takes text (category n.own) (braces text n ++ (tops text n ++ (bottoms text n ++ rest))) can.category a.category (e ∙ node_regroup text n rest) in
    let props = c.in_ok-enclosed.ensures.takes text (properties n.own) (tops text n ++ (bottoms text n ++ rest)) can.properties a.braces own.0 in
    rw is (stops c.in_err-enclosed-2.field-0.0 _ _ (c.in_err-enclosed-2.ensures.takes text n.top (bottoms text n ++ rest) can.top a.top props.0))

pub returns-in_err-enclosed-3-clause-takes : goal.returns-in_err-enclosed-3-clause-takes
returns-in_err-enclosed-3-clause-takes c = λ text n rest can end e.
    let is : c.from_residual-in_err-enclosed-3.result ≡ Err c.in_err-enclosed-3.field-0.0 = search rules in
    let a = apart text n rest end in
    let own = c.in_ok-own.ensures.takes text (category n.own) (braces text n ++ (tops text n ++ (bottoms text n ++ rest))) can.category a.category (e ∙ node_regroup text n rest) in
    let props = c.in_ok-enclosed.ensures.takes text (properties n.own) (tops text n ++ (bottoms text n ++ rest)) can.properties a.braces own.0 in
    let top = c.in_ok-enclosed-2.ensures.takes text n.top (bottoms text n ++ rest) can.top a.top props.0 in
    rw is (stops c.in_err-enclosed-3.field-0.0 _ _ (c.in_err-enclosed-3.ensures.takes text n.bottom rest can.bottom a.bottom top.0))

pub returns-clause-takes : goal.returns-clause-takes
returns-clause-takes c = λ text n rest can end e.
    let a = apart text n rest end in
    let own = c.in_ok-own.ensures.takes text (category n.own) (braces text n ++ (tops text n ++ (bottoms text n ++ rest))) can.category a.category (e ∙ node_regroup text n rest) in
    let props = c.in_ok-enclosed.ensures.takes text (properties n.own) (tops text n ++ (bottoms text n ++ rest)) can.properties a.braces own.0 in
    let top = c.in_ok-enclosed-2.ensures.takes text n.top (bottoms text n ++ rest) can.top a.top props.0 in
    let bottom = c.in_ok-enclosed-3.ensures.takes text n.bottom rest can.bottom a.bottom top.0 in
    let own_names = gathered (label_names text) (category n.own) ++ gathered (pair_names text) (properties n.own) in (
      bottom.0,
      record {
        table = table_then _ _ _ (own_names ++ gathered (pair_names text) n.top) (gathered (pair_names text) n.bottom)
            (table_then _ _ _ own_names (gathered (pair_names text) n.top) (table_then _ _ _ (gathered (label_names text) (category n.own)) (gathered (pair_names text) (properties n.own)) own.1.table props.1.table) top.1.table) bottom.1.table;
        later = λ later grows.
            let grows_top = Grows-trans _ _ later c.enclosed-3.ensures.passes.grows grows in
            let grows_own = Grows-trans _ _ later c.enclosed-2.ensures.passes.grows grows_top in
            record {
              first = c.in_ok-own.own;
              category = own.1.later later (Grows-trans _ _ later c.enclosed.ensures.passes.grows grows_own);
              properties = props.1.later later grows_own;
              top = subst (λ (zs : BagPairs). PutsPairs text later n.top zs c.enclosed-2.new.bag) c.new-top.ensures (top.1.later later grows_top);
              bottom = subst (λ (zs : BagPairs). PutsPairs text later n.bottom zs c.enclosed-3.new.bag) c.new-bot.ensures (bottom.1.later later grows);
            };
      },
    )

pub returns-clause-known : goal.returns-clause-known
returns-clause-known c = λ first later grows.
    let grows_top = Grows-trans _ _ later c.enclosed-3.ensures.passes.grows grows in
    let grows_own = Grows-trans _ _ later c.enclosed-2.ensures.passes.grows grows_top in
    record {
      own = c.in_ok-enclosed.ensures.known (c.in_ok-own.ensures.known first) later grows_own;
      top = c.in_ok-enclosed-2.ensures.known (λ texts g. rw c.new-top.ensures (record { listed = tt; pairs = tt })) later grows_top;
      bot = c.in_ok-enclosed-3.ensures.known (λ texts g. rw c.new-bot.ensures (record { listed = tt; pairs = tt })) later grows;
    }
