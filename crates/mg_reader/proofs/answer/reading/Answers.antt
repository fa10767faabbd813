use Rattle.std.proofs.Common.{refl}
use Rattle.gr_grammar.proofs.Cuts.{cut_by, room_in}
use Rattle.gr_grammar.proofs.Answers.{taken, stopped, left_over, at_deep}
use Rattle.gr_grammar.proofs.Readings.{failed_within, took_within}
use Rattle.mg_reader.specs.Kinds.{turn}
use Rattle.mg_reader.specs.Grammar.{system, metagrammar_text}
use Rattle.mg_reader.specs.Answers.{reading_of}
use Rattle.mg_reader.proofs.Systems.{is_system}
use Rattle.mg_reader.proofs.Cutting.{both_of, stopped_for}
use Rattle.mg_reader.proofs.answer.reading.Goals as goal

pub split_at-requires : goal.split_at-requires
split_at-requires c = room_in turn 200 _ c.shallow-room.ensures

pub overflow_sub-result : goal.overflow_sub-result
overflow_sub-result c = took_within system is_system metagrammar_text refl c.in-Ok.ensures.0

pub overflow_sub-result-in-Err-Syntax : goal.overflow_sub-result-in-Err-Syntax
overflow_sub-result-in-Err-Syntax c = failed_within system is_system metagrammar_text refl (stopped_for c.in-Err-Syntax.ensures c.in-Err-Syntax.field-0-is)

pub returns-then-reader-gt0 : goal.returns-then-reader-gt0
returns-then-reader-gt0 c =
    left_over system is_system metagrammar_text refl turn 200 (λ ts rest m. reading_of m) _ (cut_by turn 200 c.shallow-room.ensures c.split_at.ensures.front c.split_at.ensures.back) c.in-Ok.ensures.0 c.if-reader-gt0.true

pub returns-then-deep-gt0 : goal.returns-then-deep-gt0
returns-then-deep-gt0 c =
    at_deep system is_system metagrammar_text refl turn 200 (λ ts rest m. reading_of m) _ (cut_by turn 200 c.shallow-room.ensures c.split_at.ensures.front c.split_at.ensures.back) c.in-Ok.ensures.0 c.if-reader-gt0.false c.if-deep-gt0.true

pub returns-in-Ok : goal.returns-in-Ok
returns-in-Ok c =
    taken system is_system metagrammar_text refl turn 200 (λ ts rest m. reading_of m) _ (cut_by turn 200 c.shallow-room.ensures c.split_at.ensures.front c.split_at.ensures.back) c.if-deep-gt0.false c.if-reader-gt0.false c.in-Ok.ensures.0 (both_of c.in-Ok.ensures.1 c.in-Ok.ensures.2)

pub returns-in-Err-Syntax : goal.returns-in-Err-Syntax
returns-in-Err-Syntax c = stopped system is_system metagrammar_text refl turn 200 (λ ts rest m. reading_of m) (cut_by turn 200 c.shallow-room.ensures c.split_at.ensures.front c.split_at.ensures.back) (stopped_for c.in-Err-Syntax.ensures c.in-Err-Syntax.field-0-is)
