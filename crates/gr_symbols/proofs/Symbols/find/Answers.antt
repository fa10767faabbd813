-- The text is that of the key found; where no key passes, it isn't there.
use Rattle.std.proofs.Common.{sym, ◌∙◌, subst, true≢false}
use Rattle.std.specs.String.{string_bytes}
use Rattle.std.specs.Str.{bytes_eq}
use Rattle.std.proofs.lemmas.Slice.Eq.{bytes_eq-Decides}
use Rattle.gr_base.specs.Lists.{IsAmong}
use Rattle.gr_base.proofs.ListLemmas.{slice_get-position, test-IsAmong}
use Rattle.gr_symbols.proofs.Symbols.find.Goals as goal

pub returns-in-Some : goal.returns-in-Some
returns-in-Some c =
    let text = c.args.text.now in
    rw (← c.self.view_is)
    (slice_get-position string_bytes (λ k. bytes_eq text (string_bytes k)) text (λ k. bytes_eq-Decides text (string_bytes k)) c.self.inside.texts.keys c.in-Some.place (sym c.in-Some.ensures.index))

pub returns-in-None : goal.returns-in-None
returns-in-None c = λ i.
    let text = c.args.text.now in
    let there = test-IsAmong string_bytes (λ k. bytes_eq text (string_bytes k)) text (λ k. bytes_eq-Decides text (string_bytes k)) c.self.inside.texts.keys (subst (λ ts. IsAmong ts text) (sym c.self.view_is) i) in
    true≢false (sym there ∙ sym c.in-None.ensures.found)
