use Rattle.std.proofs.Common.{◌≡◌, ◌≤◌, ◌+◌, ◌++◌, ◌∷◌, [], suc, refl, length, take, subst, sym, ap, ◌∙◌, arith}
use Rattle.std.proofs.lemmas.List.{length-take-le}
use Rattle.std.proofs.lemmas.Option.{slice_get_read}
use Rattle.tg_grammar.specs.Places.{ArePlaces, PutsFirst}
use Rattle.tg_grammar.proofs.GrammarLemmas.{places-push}
use Rattle.tg_grammar.proofs.SightLemmas.{take-one_more}
use Rattle.tg_grammar.proofs.grammar.first_places.Goals as goal

pub loop-place-preserved : goal.loop-place-preserved
loop-place-preserved c =
    let classes = c.args.classes.now in
    let place = c.loop-place.place in
    let at = slice_get_read classes (length classes) place c.index-classes-place.result refl c.loop-place-test.true c.index-classes-place.is in
    let le : place ≤ length classes = omega (arith, c.loop-place-test.true) in
    let more : suc place ≡ place + 1 = omega arith in
    let whole : take place classes ++ c.index-classes-place.result ∷ [] ≡ take (place + 1) classes = sym (take-one_more classes place c.index-classes-place.result at) ∙ ap (λ k. take k classes) more in
    let puts = subst (λ k. PutsFirst c.loop-place.places c.note.new.places k place) (sym (ap (λ x. x.class.0) c.index-classes-place.is)) c.in_ok-note.ensures in
    subst (λ cs. ArePlaces cs c.note.new.places) whole
    (places-push (take place classes) c.index-classes-place.result c.loop-place.places c.note.new.places place (sym (length-take-le place classes le)) c.loop-place.invariant puts)
