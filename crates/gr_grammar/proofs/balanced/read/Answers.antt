use Rattle.std.proofs.Common.{refl}
use Rattle.gr_grammar.specs.Balanced.{turn, system, body, has_letter}
use Rattle.gr_grammar.proofs.Cuts.{cut_by, room_in}
use Rattle.gr_grammar.proofs.Answers.{taken, stopped, left_over, at_deep}
use Rattle.gr_grammar.proofs.Readings.{failed_within, took_within}
use Rattle.gr_grammar.proofs.BalancedSystem.{is_system}
use Rattle.gr_grammar.proofs.balanced.read.Goals as goal

pub split_at-requires : goal.split_at-requires
split_at-requires c = room_in turn 200 _ c.shallow-room.ensures

pub overflow_sub-result : goal.overflow_sub-result
overflow_sub-result c = took_within system is_system body refl c.in-Ok.ensures.0

pub overflow_sub-result-in-Err : goal.overflow_sub-result-in-Err
overflow_sub-result-in-Err c = failed_within system is_system body refl c.in-Err.ensures

pub returns-then-reader-gt0 : goal.returns-then-reader-gt0
returns-then-reader-gt0 c =
    left_over system is_system body refl turn 200 (λ ts rest m. has_letter m) _ (cut_by turn 200 c.shallow-room.ensures c.split_at.ensures.front c.split_at.ensures.back) c.in-Ok.ensures.0 c.if-reader-gt0.true

pub returns-then-deep-gt0 : goal.returns-then-deep-gt0
returns-then-deep-gt0 c =
    at_deep system is_system body refl turn 200 (λ ts rest m. has_letter m) _ (cut_by turn 200 c.shallow-room.ensures c.split_at.ensures.front c.split_at.ensures.back) c.in-Ok.ensures.0 c.if-reader-gt0.false c.if-deep-gt0.true

pub returns-else-deep-gt0 : goal.returns-else-deep-gt0
returns-else-deep-gt0 c =
    taken system is_system body refl turn 200 (λ ts rest m. has_letter m) _ (cut_by turn 200 c.shallow-room.ensures c.split_at.ensures.front c.split_at.ensures.back) c.if-deep-gt0.false c.if-reader-gt0.false c.in-Ok.ensures.0 c.in-Ok.ensures.1

pub returns-in-Err : goal.returns-in-Err
returns-in-Err c = stopped system is_system body refl turn 200 (λ ts rest m. has_letter m) (cut_by turn 200 c.shallow-room.ensures c.split_at.ensures.front c.split_at.ensures.back) c.in-Err.ensures
