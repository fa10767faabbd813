use Rattle.std.proofs.Common.{◌∙◌, sym, ap, subst, take, drop, string_bytes}
use Rattle.std.proofs.lemmas.List.{take-append-drop}
use Rattle.gr_io.specs.Outside.{appended}
use Rattle.rl_top.specs.Outcomes.{IsOutcome, IsRight}
use Rattle.rl_top.proofs.Ending.{right_for, writes_whole, rest_left, never_shorter}
use Rattle.rl_top.proofs.run_one.Goals as goal

pub returns-in-Ok-write_all_of-clause-done : goal.returns-in-Ok-write_all_of-clause-done
returns-in-Ok-write_all_of-clause-done g c = λ h.
    let o = c.in-Ok-outcome_of.outcome in
    let text = string_bytes o.text in
    let files = g.H.Shelf.files c.args.shelf.now in
    let asked = c.in-Some.request in
    let right : IsRight files c.args.words.now o.status text = right_for files c.args.words.now asked.file.now c.as_str.result.now _ asked.models o.status text c.in-Some.ensures c.as_str.ensures c.in-Ok.ensures.given
    (subst (λ z. IsOutcome z asked.models o.status text) c.as_slice.ensures.value c.in-Ok-outcome_of.ensures) in
    writes_whole files c.args.words.now o.status _ text c.as_bytes.result.now _ _ right h c.in-Ok-write_all_of.ensures.ok c.as_bytes.ensures.value

pub returns-in-Ok-write_all_of-clause-shortened : goal.returns-in-Ok-write_all_of-clause-shortened
returns-in-Ok-write_all_of-clause-shortened g c = λ h.
    let o = c.in-Ok-outcome_of.outcome in
    let text = string_bytes o.text in
    let files = g.H.Shelf.files c.args.shelf.now in
    let asked = c.in-Some.request in
    let right : IsRight files c.args.words.now o.status text = right_for files c.args.words.now asked.file.now c.as_str.result.now _ asked.models o.status text c.in-Some.ensures c.as_str.ensures c.in-Ok.ensures.given
    (subst (λ z. IsOutcome z asked.models o.status text) c.as_slice.ensures.value c.in-Ok-outcome_of.ensures) in
    writes_whole files c.args.words.now o.status _ text c.as_bytes.result.now _ _ right h c.in-Ok-write_all_of.ensures.ok c.as_bytes.ensures.value

pub returns-in-Ok-write_all_of-clause-refused : goal.returns-in-Ok-write_all_of-clause-refused
returns-in-Ok-write_all_of-clause-refused g c = λ h.
    let o = c.in-Ok-outcome_of.outcome in
    let text = string_bytes o.text in
    let files = g.H.Shelf.files c.args.shelf.now in
    let asked = c.in-Some.request in
    let right : IsRight files c.args.words.now o.status text = right_for files c.args.words.now asked.file.now c.as_str.result.now _ asked.models o.status text c.in-Some.ensures c.as_str.ensures c.in-Ok.ensures.given
    (subst (λ z. IsOutcome z asked.models o.status text) c.as_slice.ensures.value c.in-Ok-outcome_of.ensures) in
    writes_whole files c.args.words.now o.status _ text c.as_bytes.result.now _ _ right h c.in-Ok-write_all_of.ensures.ok c.as_bytes.ensures.value

pub returns-in-Ok-write_all_of-clause-enough : goal.returns-in-Ok-write_all_of-clause-enough
returns-in-Ok-write_all_of-clause-enough g c = λ file bytes models asks tells enough.
    let o = c.in-Ok-outcome_of.outcome in
    let text = string_bytes o.text in
    let files = g.H.Shelf.files c.args.shelf.now in
    let asked = c.in-Some.request in
    let right : IsRight files c.args.words.now o.status text = right_for files c.args.words.now asked.file.now c.as_str.result.now _ asked.models o.status text c.in-Some.ensures c.as_str.ensures c.in-Ok.ensures.given
    (subst (λ z. IsOutcome z asked.models o.status text) c.as_slice.ensures.value c.in-Ok-outcome_of.ensures) in
    never_shorter c.one_outcome.ensures.whole files c.args.words.now file bytes models o.status text right asks tells enough

pub returns-clause-write_front : goal.returns-clause-write_front
returns-clause-write_front g c = λ _.
    let o = c.in-Ok-outcome_of.outcome in
    let text = string_bytes o.text in
    let files = g.H.Shelf.files c.args.shelf.now in
    let asked = c.in-Some.request in
    let right : IsRight files c.args.words.now o.status text = right_for files c.args.words.now asked.file.now c.as_str.result.now _ asked.models o.status text c.in-Some.ensures c.as_str.ensures c.in-Ok.ensures.given
    (subst (λ z. IsOutcome z asked.models o.status text) c.as_slice.ensures.value c.in-Ok-outcome_of.ensures) in
    let n = c.in-Err._fault.written in (
      o.status,
      take n text,
      drop n text,
      subst (λ z. IsRight files c.args.words.now o.status z) (sym (take-append-drop n text)) right,
      rest_left n text c.as_bytes.result.now c.as_bytes.ensures.value c.in-Err.ensures.part,
      c.in-Err.ensures.err ∙ ap (λ z. appended (g.K.Sink.written c.args.out.now) (take n z)) c.as_bytes.ensures.value,
    )
