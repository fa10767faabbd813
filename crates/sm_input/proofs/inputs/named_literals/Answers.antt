use Rattle.std.proofs.Common.{◌≡◌, ◌∷◌, [], length, refl, sym, ap, subst, ◌∙◌, append_assoc, append-nil, arith, length-append, rules}
use Rattle.std.specs.Vec.Iter.{into_iter_items}
use Rattle.std.proofs.lemmas.List.{nil_from_length}
use Rattle.gr_symbols.proofs.NumberLemmas.{Grows-refl, Grows-trans}
use Rattle.sm_input.specs.Reading.{AreNamed, raw_own_names}
use Rattle.sm_input.proofs.Naming.{named_none, named_step}
use Rattle.gr_symbols.specs.Numbers.{with_texts}
use Rattle.sm_input.proofs.TableLemmas.{own_step}
use Rattle.sm_input.proofs.inputs.named_literals.Goals as goal

pub rows-init : goal.rows-init
rows-init c = (refl, named_none c.args.symbols.now 1 _ c.new-literals.ensures, Grows-refl _, omega arith, search rules, refl)

pub rows-preserved : goal.rows-preserved
rows-preserved c =
    let at = c.rows in
    let x = c.in-Some.raw in
    let steps : into_iter_items at.raw-iterator ≡ x ∷ into_iter_items c.next.new.self = c.in-Some.ensures.steps.0 in (
      append_assoc at.yielded (x ∷ []) _ ∙ rw (← steps) at.invariant.0,
      named_step _ _ at.yielded x _ _ _ _ at.invariant.1 c.named_literal.ensures.grows (omega (arith, c.len-number.ensures)) c.in_ok-literal.ensures.named c.in_ok-_pushed.ensures.ok,
      Grows-trans _ _ _ at.invariant.2 c.named_literal.ensures.grows,
      let few = at.invariant.3 in
          let one = c.named_literal.ensures.few in
          let more = length-append at.yielded (x ∷ []) in
          omega (arith, few, one, more),
      let was = at.invariant.4 in
          let gone = c.in-Some.ensures.steps.1 in
          let short = ap length steps in
          omega arith,
      own_step _ _ _ at.symbols at.yielded x at.literals _ at.invariant.1 (omega (arith, c.len-number.ensures)) at.invariant.5 c.in_ok-literal.ensures.table,
    )

pub returns-in_err-literal-clause-grows : goal.returns-in_err-literal-clause-grows
returns-in_err-literal-clause-grows c = Grows-trans _ _ _ c.rows.invariant.2 c.named_literal.ensures.grows

pub returns-in_err-literal-clause-few : goal.returns-in_err-literal-clause-few
returns-in_err-literal-clause-few c =
    let at = c.rows in
    let steps = ap length c.in-Some.ensures.steps.0 in
    let whole = ap length (at.invariant.0 ∙ c.into_iter-raw-iterator.ensures.into_iter_gives.0) in
    let parts = length-append at.yielded (into_iter_items at.raw-iterator) in
    let few = at.invariant.3 in
    let one = c.named_literal.ensures.few in
    omega (arith, steps, whole, parts, few, one)

pub returns-in_err-_pushed-clause-grows : goal.returns-in_err-_pushed-clause-grows
returns-in_err-_pushed-clause-grows c = Grows-trans _ _ _ c.rows.invariant.2 c.named_literal.ensures.grows

pub returns-in_err-_pushed-clause-few : goal.returns-in_err-_pushed-clause-few
returns-in_err-_pushed-clause-few c =
    let at = c.rows in
    let steps = ap length c.in-Some.ensures.steps.0 in
    let whole = ap length (at.invariant.0 ∙ c.into_iter-raw-iterator.ensures.into_iter_gives.0) in
    let parts = length-append at.yielded (into_iter_items at.raw-iterator) in
    let few = at.invariant.3 in
    let one = c.named_literal.ensures.few in
    omega (arith, steps, whole, parts, few, one)

pub returns-clause-named : goal.returns-clause-named
returns-clause-named c =
    let at = c.rows in
    let none = c.in-None.ensures.steps in
    let empty : into_iter_items at.raw-iterator ≡ [] = nil_from_length _ (sym at.invariant.4 ∙ none.0) in
    let all = sym (append-nil at.yielded) ∙ rw empty at at.invariant.0 ∙ c.into_iter-raw-iterator.ensures.into_iter_gives.0 in
    subst (λ rs. AreNamed at.symbols 1 rs at.literals) all at.invariant.1

pub returns-clause-few : goal.returns-clause-few
returns-clause-few c =
    let at = c.rows in
    let whole = ap length (at.invariant.0 ∙ c.into_iter-raw-iterator.ensures.into_iter_gives.0) in
    let parts = length-append at.yielded (into_iter_items at.raw-iterator) in
    let few = at.invariant.3 in
    omega (arith, whole, parts, few)

pub returns-clause-table : goal.returns-clause-table
returns-clause-table c =
    let at = c.rows in
    let none = c.in-None.ensures.steps in
    let empty : into_iter_items at.raw-iterator ≡ [] = nil_from_length _ (sym at.invariant.4 ∙ none.0) in
    let all = sym (append-nil at.yielded) ∙ rw empty at at.invariant.0 ∙ c.into_iter-raw-iterator.ensures.into_iter_gives.0 in
    subst (λ rs. at.symbols ≡ with_texts c.args.symbols.now (raw_own_names 1 rs)) all at.invariant.5
