use Rattle.std.proofs.Common.{refl, []}
use Rattle.gr_tokens.proofs.TextLemmas.{texts}
use Rattle.gr_tokens.proofs.SpanLemmas.{slices, in_order}
use Rattle.gr_tokens.proofs.laws.slices_in_order.Goals as goal

pub returns : goal.returns
returns c = record {
  slices = λ bytes found a. slices bytes [] bytes [] found refl a.cut;
  utf8 = λ bytes found a. texts bytes [] bytes [] found refl a.utf8 a.cut;
  order = λ bytes found a. in_order [] bytes [] found a.cut;
}
