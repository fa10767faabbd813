use Rattle.std.proofs.Common.{◌≡◌, [], ◌∷◌, ◌++◌, refl, arith, rules, subst, sym, map}
use Rattle.gr_base.specs.Lists.{IsAmong}
use Rattle.gr_symbols.proofs.NumberLemmas.{Grows-trans, Names-grows}
use Rattle.td_canon.specs.TreeSets.{texts_of}
use Rattle.std.proofs.lemmas.Bool.{OnFalse_at, OnTrue_at}
use Rattle.tg_text.proofs.Putting.{classes_put}
use Rattle.tg_text.specs.GrammarText.{class_text_of}
use Rattle.tg_text.specs.Naming.{PutsClasses, PutsTrees}
use Rattle.tg_text.specs.Reading.{HasClasses}
use Rattle.tg_text.proofs.ClassRows.{class_again, class_line_long, class_more, class_stops, has_stays, numbers_more, numbers_of}
use Rattle.tg_text.proofs.TreeRows.{same_error}
use Rattle.tg_text.proofs.reading.classes_in.Goals as goal

pub returns-then-not-branch-clause-stops : goal.returns-then-not-branch-clause-stops
returns-then-not-branch-clause-stops c =
    let texts = c.intern.new.self in
    let cs = c.row.classes.items in
    let table = c.is_table.ensures in
    let there = OnFalse_at {b = c.in_ok-note.field-0} c.if-not-branch.true c.in_ok-note.ensures.again in (
      c.row.rest.now,
      class_again texts table cs c.args.text.now c.row.rest.now (has_stays c.row.symbols texts cs c.args.text.now c.row.rest.now c.in_ok-class.ensures.grows table.once c.row.invariant.has) c.in_ok-class.class.0 c.in-Some.name.now c.in-Some.more.now c.in_ok-class.ensures.named c.in-Some.ensures.0 c.in-Some.ensures.1
          (subst (λ ks. IsAmong ks c.in_ok-class.class.0) c.row.invariant.known there),
      refl,
    )

pub returns-in_err-found-clause-stops : goal.returns-in_err-found-clause-stops
returns-in_err-found-clause-stops c =
    let e = same_error _ c.from_residual-in_err-found.result c.in_err-found.field-0.0 (λ x g. g) c.from_residual-in_err-found.ensures in
    let texts = c.intern.new.self in
    let cs = c.row.classes.items in
    let table = c.is_table.ensures in
    let new = OnTrue_at {b = c.in_ok-note.field-0} c.if-not-branch.false c.in_ok-note.ensures.new in
    rw e
    (class_stops texts table cs c.args.text.now c.row.rest.now (has_stays c.row.symbols texts cs c.args.text.now c.row.rest.now c.in_ok-class.ensures.grows table.once c.row.invariant.has) c.in_ok-class.class.0 c.in-Some.name.now c.in-Some.more.now c.in_err-found.field-0.0 c.in_ok-class.ensures.named
    c.in-Some.ensures.0 c.in-Some.ensures.1 (λ i. new.0 (subst (λ ks. IsAmong ks c.in_ok-class.class.0) (sym c.row.invariant.known) i)) (c.in_err-found.ensures.stops _))

pub returns-then-is_err-clause-grows : goal.returns-then-is_err-clause-grows
returns-then-is_err-clause-grows c =
    Grows-trans c.args.symbols.now c.row.symbols c.body_in.new.symbols c.row.invariant.grows (Grows-trans c.row.symbols c.intern.new.self c.body_in.new.symbols c.in_ok-class.ensures.grows c.body_in.ensures.grows)

pub row-preserved : goal.row-preserved
row-preserved c =
    let texts = c.body_in.new.symbols in
    let cs = c.row.classes.items in
    let grows = Grows-trans c.row.symbols c.intern.new.self texts c.in_ok-class.ensures.grows c.body_in.ensures.grows in
    let new = OnTrue_at {b = c.in_ok-note.field-0} c.if-not-branch.false c.in_ok-note.ensures.new in
    let long = class_line_long c.row.rest.now c.in-Some.name.now c.in-Some.more.now c.in-Some.ensures.1 in
    let found = c.in_ok-found.found in
    let pushed : c.push.new.self.items ≡ cs ++ found ∷ [] = search rules in
    record {
      has =
          subst (λ ds. HasClasses texts ds c.args.text.now c.in_ok-found.end.now) (sym pushed)
          (class_more c.row.symbols texts cs found c.in_ok-class.class c.in-Some.name.now c.args.text.now c.row.rest.now c.in-Some.more.now c.in_ok-found.end.now c.row.invariant.has grows c.is_table-in-Some.ensures.once
          (Names-grows c.intern.new.self texts c.in_ok-class.class.0 c.in-Some.name.now c.in_ok-class.ensures.named c.body_in.ensures.grows) c.in-Some.ensures.0 c.in-Some.ensures.1 (λ i. new.0 (subst (λ ks. IsAmong ks c.in_ok-class.class.0) (sym c.row.invariant.known) i))
          c.in_ok-found.ensures.class c.in_ok-found.ensures.body);
      table =
          subst (λ ds. PutsClasses (map (class_text_of texts) ds) c.args.symbols.now texts) (sym pushed)
          (classes_put c.row.symbols texts cs found c.in_ok-class.class c.in-Some.name.now c.args.symbols.now grows c.row.invariant.has.each
          (Names-grows c.intern.new.self texts c.in_ok-class.class.0 c.in-Some.name.now c.in_ok-class.ensures.named c.body_in.ensures.grows) c.in_ok-found.ensures.class c.row.invariant.table
          (subst (λ z. PutsTrees (texts_of found.trees) z texts) c.in_ok-class.ensures.table c.in_ok-found.ensures.table));
      known = subst (λ ds. c.note.new.known.keys ≡ numbers_of ds) (sym pushed) (numbers_more c.row.known.keys c.note.new.known.keys cs found c.in_ok-class.class c.row.invariant.known new.1 c.in_ok-found.ensures.class);
      grows = Grows-trans c.args.symbols.now c.row.symbols texts c.row.invariant.grows grows;
      utf8 = search rules;
      few = omega (arith, long, c.row.invariant.few, c.intern.ensures.one_more_at_most, c.in_ok-found.ensures.few_more);
    }
