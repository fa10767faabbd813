use Rattle.std.proofs.Common.{◌≡◌, length, get_or, ap, sym, ◌∙◌, subst}
use Rattle.std.proofs.lemmas.Bool.{false≢true}
use Rattle.std.proofs.lemmas.Option.{get_or_from_slice_get}
use Rattle.std.proofs.lemmas.Result.{IfOk-weaker}
use Rattle.gr_base.specs.Lists.{IsAmong}
use Rattle.gr_base.proofs.ListLemmas.{Each-at, IsAmong-slice_get}
use Rattle.gr_terms.specs.Canonical.{literal_terms}
use Rattle.gr_terms.specs.LiteralViews.{literal_of, AreConst}
use Rattle.gr_terms.specs.declared.Literal.{Literal}
use Rattle.tg_model.specs.Instances.{equations}
use Rattle.sm_match.specs.Bindings.{Equates}
use Rattle.sm_match.specs.Tasks.{Puts}
use Rattle.sm_match.proofs.SearchLemmas.{put_done, put_none}
use Rattle.sm_match.proofs.search.put.Goals as goal

pub returns-then-is_among : goal.returns-then-is_among
returns-then-is_among c =
    put_none c.args.task.now c.args.place c.args.places.now.items c.args.bindings.now.items
    (subst (λ xs. IsAmong xs c.args.place) c.as_slice.ensures.value (c.is_among.ensures.0 c.if-is_among.true))

pub equate_literal-requires : goal.equate_literal-requires
equate_literal-requires c =
    let g : Literal = c.requires.fits.0 in
    let e : get_or c.args.task.now.input.now c.args.place c.index-task-place.result ≡ g = get_or_from_slice_get c.args.task.now.input.now c.args.place g c.index-task-place.result c.requires.fits.1 in
    record {
      alike = c.requires.fits.2 ∙ ap (λ (x : Literal). length x.args) (sym e);
      names = subst AreConst (sym e) (Each-at AreConst c.args.task.now.input.now g c.requires.task.ground (IsAmong-slice_get c.args.task.now.input.now c.args.place g c.requires.fits.1));
    }

pub returns : goal.returns
returns c =
    let g : Literal = c.requires.fits.0 in
    let l : Literal = c.args.literal.now in
    let d : Literal = get_or c.args.task.now.input.now c.args.place c.index-task-place.result in
    let e : d ≡ g = get_or_from_slice_get c.args.task.now.input.now c.args.place g c.index-task-place.result c.requires.fits.1 in
    let before = c.args.bindings.now.items in
    let after = c.equate_literal.new.bindings.items in
    IfOk-weaker c.equate_literal.result
    (Equates (equations (literal_terms (literal_of l)) (literal_terms (literal_of d))) before after)
    (Puts c.args.task.now c.args.place c.args.places.now.items c.push.new.self.items before after)
    (λ r h.
    put_done c.args.task.now l g c.args.place c.args.places.now.items c.push.new.self.items before after r c.requires.next c.requires.fits.1 c.requires.fits.2
    (λ m. false≢true (sym c.if-is_among.false ∙ c.is_among.ensures.1 (subst (λ xs. IsAmong xs c.args.place) (sym c.as_slice.ensures.value) m)))
    c.in_ok-push.ensures.items c.requires.begun
    (subst (λ x. Equates (equations (literal_terms (literal_of l)) (literal_terms (literal_of x))) before after r) e h))
    c.equate_literal.ensures
