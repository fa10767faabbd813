use Rattle.std.proofs.Common.{◌≡◌, subst, sym}
use Rattle.gr_base.proofs.Results.{IfOk-weaker, IfErr-weaker}
use Rattle.gr_symbols.specs.Numbers.{Grows}
use Rattle.mg_syntax.specs.Names.{HasTexts}
use Rattle.rl_top.specs.Outcomes.{IsGood, IsNumbering}
use Rattle.rl_top.proofs.Stopping.{stops_for, long_stops, numbering_of, read_refusal, read_stops, unscoped_file, all_named}
use Rattle.rl_top.proofs.compiling.resolved.Goals as goal

pub unread-requires : goal.unread-requires
unread-requires c = read_refusal _ _ _ c.in-Err.ensures.err

pub returns-in-Err-clause-refused : goal.returns-in-Err-clause-refused
returns-in-Err-clause-refused c = read_stops _ _ _ _ _ c.if-bytes-gt-BYTE_LIMIT.false c.requires c.in-Err.ensures.err c.in-Err.ensures.refused_table c.unread.ensures

pub returns-in-Ok-clause-numbered : goal.returns-in-Ok-clause-numbered
returns-in-Ok-clause-numbered c =
    IfOk-weaker _ _ c.scoped.result (λ r known. numbering_of _ _ _ c.if-bytes-gt-BYTE_LIMIT.false c.requires c.in-Ok.ensures.table) c.scoped.ensures.ok

pub returns-in-Ok-clause-good : goal.returns-in-Ok-clause-good
returns-in-Ok-clause-good c =
    IfOk-weaker _ _ c.scoped.result (λ r known. subst (λ z. IsGood c.args.bytes.now c.read_metagrammar.new.symbols z) (sym known.0) (record { short = c.if-bytes-gt-BYTE_LIMIT.false; spelled = c.in-Ok.ensures.ok; scoped = known.1 })) c.scoped.ensures.ok

pub returns-in-Ok-clause-refused : goal.returns-in-Ok-clause-refused
returns-in-Ok-clause-refused c =
    let bytes = c.args.bytes.now in
    let texts = c.read_metagrammar.new.symbols in
    let short = c.if-bytes-gt-BYTE_LIMIT.false in
    let numbered : IsNumbering bytes texts = numbering_of bytes _ texts short c.requires c.in-Ok.ensures.table in
    let grows = subst (λ z. Grows z texts) c.requires c.read_metagrammar.ensures.grows in
    IfErr-weaker _ _ c.scoped.result (λ s stops. stops_for _ _ _ s (unscoped_file bytes texts c.in-Ok.metagrammar short grows numbered c.in-Ok.ensures.ok) stops) c.scoped.ensures.refused

pub returns-in-Ok-clause-named : goal.returns-in-Ok-clause-named
returns-in-Ok-clause-named c =
    let bytes = c.args.bytes.now in
    let texts = c.read_metagrammar.new.symbols in
    let grows = subst (λ z. Grows z texts) c.requires c.read_metagrammar.ensures.grows in
    IfOk-weaker _ _ c.scoped.result (λ r known. subst (λ z. HasTexts texts z) (sym known.0) (all_named bytes texts c.in-Ok.metagrammar grows c.in-Ok.ensures.ok)) c.scoped.ensures.ok
