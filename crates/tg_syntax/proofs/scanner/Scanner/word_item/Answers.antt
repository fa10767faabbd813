use Rattle.std.proofs.Common.{rules, ◌≡◌, Err, sym, ◌∙◌}
use Rattle.tg_syntax.proofs.Keyed.{item_run, item_fails}
use Rattle.std.proofs.Common.{inl, inr}
use Rattle.std.proofs.lemmas.Bool.{true≢false}
use Rattle.gr_grammar.specs.Grammars.{tree_of}
use Rattle.gr_grammar.proofs.Fronts.{front_of}
use Rattle.tg_syntax.specs.Files.{system}
use Rattle.tg_syntax.proofs.scanner.Scanner.word_item.Goals as goal

pub returns-in_err-_word : goal.returns-in_err-_word
returns-in_err-_word c = let e : c.from_residual.result ≡ Err c.in_err-_word.field-0.0 = search rules in rw e (item_fails c.requires c.in_err-_word.ensures)

pub begins_with-requires : goal.begins_with-requires
begins_with-requires c = let f = front_of system (tree_of c.in_ok-_word.ensures) in (f.front, f.split)

pub returns-in_err-_behind : goal.returns-in_err-_behind
returns-in_err-_behind c = let e : c.from_residual-in_err-_behind.result ≡ Err c.in_err-_behind.field-0.0 = search rules in rw e (item_run c.in_ok-_word.ensures (inl (c.begins_with.ensures.0 c.if-begins_with.true, c.in_err-_behind.ensures)))

pub returns-in_err-_behind-2 : goal.returns-in_err-_behind-2
returns-in_err-_behind-2 c = let e : c.from_residual-in_err-_behind-2.result ≡ Err c.in_err-_behind-2.field-0.0 = search rules in rw e (item_run c.in_ok-_word.ensures (inr (λ e. true≢false (sym (c.begins_with.ensures.1 e) ∙ c.if-begins_with.false), c.in_err-_behind-2.ensures)))

pub returns-in_ok-_behind : goal.returns-in_ok-_behind
returns-in_ok-_behind c = item_run c.in_ok-_word.ensures (inl (c.begins_with.ensures.0 c.if-begins_with.true, c.in_ok-_behind.ensures))

pub returns-in_ok-_behind-2 : goal.returns-in_ok-_behind-2
returns-in_ok-_behind-2 c = item_run c.in_ok-_word.ensures (inr (λ e. true≢false (sym (c.begins_with.ensures.1 e) ∙ c.if-begins_with.false), c.in_ok-_behind-2.ensures))
