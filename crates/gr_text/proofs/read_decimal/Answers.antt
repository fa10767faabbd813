-- A decimal is never refused.
use Rattle.std.proofs.Common.{◌≡◌, Ok}
use Rattle.std.specs.Str.Parse.{digits_value}
use Rattle.gr_text.proofs.DecimalLemmas.{IsDecimal-parses}
use Rattle.gr_text.proofs.read_decimal.Goals as goal

pub returns-in-Err : goal.returns-in-Err
returns-in-Err c = λ decimal.
    let read : c.parse.result ≡ Ok (digits_value 10 c.args.text.now) = IsDecimal-parses _ _ c.parse.ensures.value.0 decimal in
    cc
