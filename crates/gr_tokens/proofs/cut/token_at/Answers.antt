use Rattle.std.proofs.Common.{subst, refl}
use Rattle.std.proofs.lemmas.List.{take_rest}
use Rattle.gr_text.proofs.CursorLemmas.{StandsAt-column-le}
use Rattle.gr_tokens.specs.Fronts.{BeginsWith}
use Rattle.gr_tokens.proofs.Steps.{token_passes}
use Rattle.gr_tokens.proofs.cut.token_at.Goals as goal

pub along-next-requires-clause-column : goal.along-next-requires-clause-column
along-next-requires-clause-column c =
    let here = c.args.here in
    StandsAt-column-le c.args.bytes.now here.at here.place.line here.place.column c.requires

pub returns : goal.returns
returns c =
    let bytes = c.args.bytes.now in
    let here = c.args.here in
    let kind = c.in_ok-kind.kind in
    let len = c.in_ok-kind.len in
    token_passes bytes here len _ c.along-next.result (record {
      stands = c.requires;
      begins = subst (λ z. BeginsWith z kind len) (take_rest bytes here.at) c.in_ok-kind.ensures;
      from_is = refl;
      to_is = refl;
      place_is = refl;
      next_at = c.along-next.ensures.at;
      next_line = c.along-next.ensures.line;
      next_column = c.along-next.ensures.column;
    })
