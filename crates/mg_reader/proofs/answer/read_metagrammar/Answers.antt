use Rattle.std.proofs.Common.{rules, ◌≡◌, ◌⊎◌, arith, sym, ap, subst, length, IfErr, Err}
use Rattle.gr_reader.proofs.Texts.{all_have, all_written}
use Rattle.gr_base.specs.Lists.{Each}
use Rattle.gr_reader.specs.Lexemes.{HasText, lexeme_of}
use Rattle.gr_tokens.specs.declared.ReadRefusal.TheVariants.{Memory}
use Rattle.gr_tokens.specs.Spans.{slice_of}
use Rattle.gr_tokens.specs.Tokens.{Writes}
use Rattle.gr_tokens.proofs.CutLengths.{tokens_few}
use Rattle.gr_grammar.specs.Readings.{IsReading}
use Rattle.mg_reader.specs.Kinds.{turn}
use Rattle.mg_reader.specs.Grammar.{system, metagrammar_text}
use Rattle.mg_reader.specs.Answers.{reading_of}
use Rattle.mg_reader.specs.Tables.{IsTable}
use Rattle.gr_tokens.proofs.CutLengths.{tokens_few}
use Rattle.mg_reader.proofs.Numbering.{refused_table}
use Rattle.mg_reader.proofs.Finish.{lexemes_are, accepted_right, right_ok, right_err}
use Rattle.mg_reader.proofs.answer.read_metagrammar.Goals as goal

pub lexemes-requires-clause-text : goal.lexemes-requires-clause-text
lexemes-requires-clause-text c = subst (λ z. Each (HasText c.args.bytes.now) z) (sym c.as_slice.ensures.value) (all_have c.args.bytes.now c.in_ok-cut.cut.items c.in_ok-cut.ensures.ok)

pub lexemes-requires-clause-written : goal.lexemes-requires-clause-written
lexemes-requires-clause-written c = subst (λ z. Each (λ t. Writes t.kind (lexeme_of c.args.bytes.now t).text (slice_of c.args.bytes.now t)) z) (sym c.as_slice.ensures.value) (all_written c.args.bytes.now c.in_ok-cut.cut.items c.in_ok-cut.ensures.ok)

pub returns-in_err-found-clause-few : goal.returns-in_err-found-clause-few
returns-in_err-found-clause-few c = let a = tokens_few c.args.bytes.now c.in_ok-cut.cut.items c.in_ok-cut.ensures.ok in let b = c.lexemes.ensures.few in let d = ap length c.as_slice.ensures.value in omega arith

pub returns-in_err-read-clause-few : goal.returns-in_err-read-clause-few
returns-in_err-read-clause-few c = let a = tokens_few c.args.bytes.now c.in_ok-cut.cut.items c.in_ok-cut.ensures.ok in let b = c.lexemes.ensures.few in let d = ap length c.as_slice.ensures.value in omega arith

pub returns-in-Ok-clause-few : goal.returns-in-Ok-clause-few
returns-in-Ok-clause-few c = let a = tokens_few c.args.bytes.now c.in_ok-cut.cut.items c.in_ok-cut.ensures.ok in let b = c.lexemes.ensures.few in let d = ap length c.as_slice.ensures.value in omega arith

pub returns-clause-few : goal.returns-clause-few
returns-clause-few c = let a = tokens_few c.args.bytes.now c.in_ok-cut.cut.items c.in_ok-cut.ensures.ok in let b = c.lexemes.ensures.few in let d = ap length c.as_slice.ensures.value in omega arith

pub returns-in-Ok-clause-ok : goal.returns-in-Ok-clause-ok
returns-in-Ok-clause-ok c = right_ok _ _ _ (accepted_right _ _ _ (lexemes_are c.args.bytes.now _ c.in_ok-cut.cut.items c.as_slice.result.now c.in_ok-found.found.items c.as_slice-2.result.now c.in_ok-cut.ensures.ok c.as_slice.ensures.value c.as_slice-2.ensures.value c.in_ok-found.ensures.are) c.in-Ok.whole (subst (λ z. IsReading system turn 200 metagrammar_text (λ ts rest m. reading_of m) c.as_slice-2.result.now z) c.in-Ok.is c.in_ok-read.ensures) c.accepted.ensures)

pub returns-in-Ok-clause-err : goal.returns-in-Ok-clause-err
returns-in-Ok-clause-err c = right_err _ _ _ (accepted_right _ _ _ (lexemes_are c.args.bytes.now _ c.in_ok-cut.cut.items c.as_slice.result.now c.in_ok-found.found.items c.as_slice-2.result.now c.in_ok-cut.ensures.ok c.as_slice.ensures.value c.as_slice-2.ensures.value c.in_ok-found.ensures.are) c.in-Ok.whole (subst (λ z. IsReading system turn 200 metagrammar_text (λ ts rest m. reading_of m) c.as_slice-2.result.now z) c.in-Ok.is c.in_ok-read.ensures) c.accepted.ensures)

pub returns-in_err-cut-clause-refused_table : goal.returns-in_err-cut-clause-refused_table
returns-in_err-cut-clause-refused_table c =
    let e : c.from_residual.result ≡ Err c.in_err-cut.field-0.0 = search rules in
    subst (λ z. IfErr z (λ r. (r ≡ Memory) ⊎ IsTable c.args.bytes.now c.args.symbols.now c.args.symbols.now)) (sym e) (refused_table c.args.bytes.now c.args.symbols.now _ c.in_err-cut.ensures.err)
