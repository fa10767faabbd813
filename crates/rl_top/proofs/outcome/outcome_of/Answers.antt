use Rattle.std.specs.Prelude.{⊤}
use Rattle.std.proofs.Common.{sym, subst, map}
use Rattle.tg_text.specs.GrammarText.{class_text_of}
use Rattle.rl_top.specs.Outcomes.{AreClassTexts}
use Rattle.rl_top.specs.Compiling.{IsRefusedFile}
use Rattle.rl_top.specs.Stops.{Stops}
use Rattle.rl_top.proofs.Ending.{compiled_outcome, refused_outcome}
use Rattle.rl_top.proofs.outcome.outcome_of.Goals as goal

pub returns-in-Ok : goal.returns-in-Ok
returns-in-Ok c =
    let texts = c.compiled.new.symbols in
    let made = c.in-Ok.ensures.written in
    let classes = subst (λ z. AreClassTexts texts made.0 c.args.models (map (class_text_of texts) z)) (sym c.as_slice.ensures.value) made.2 in
    compiled_outcome c.written.result c.args.bytes.now c.args.models texts made.0 (map (class_text_of texts) c.as_slice.result.now) c.in-Ok.ensures.numbered made.1 classes c.written.ensures.text c.written.ensures.status

pub returns-in-Err-Refused : goal.returns-in-Err-Refused
returns-in-Err-Refused c =
    let texts = c.compiled.new.symbols in
    let file = subst (λ z. Stops ⊤ (IsRefusedFile c.args.bytes.now c.args.models texts) z) c.in-Err-Refused.field-0-is c.in-Err-Refused.ensures.refused in
    refused_outcome c.refused.result c.args.bytes.now c.args.models texts c.in-Err-Refused.refusal file c.refused.ensures.text c.refused.ensures.status
