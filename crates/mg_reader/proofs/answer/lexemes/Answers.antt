use Rattle.std.proofs.Common.{sym, subst}
use Rattle.mg_reader.proofs.Cutting.{HasRead, read_none, read_more}
use Rattle.mg_reader.proofs.Keywords.{none_known}
use Rattle.mg_reader.proofs.answer.lexemes.Goals as goal

pub cut-init : goal.cut-init
cut-init c = (
  subst (λ z. HasRead c.args.bytes.now c.args.symbols.now c.args.symbols.now c.args.tokens.now c.args.tokens.now z) (sym c.in_ok-found.ensures.items) (read_none c.args.bytes.now c.args.symbols.now c.args.tokens.now c.requires.text c.requires.written),
  none_known c.args.symbols.now 256,
)

pub cut-preserved : goal.cut-preserved
cut-preserved c = (
  read_more _ _ _ _ _ _ _ _ _ _ c.cut.invariant.0 c.in-Some.ensures.cases.0 c.in_ok-next.ensures.grows c.in_ok-next.ensures.few c.in_ok-next.ensures.is c.in_ok-next.ensures.numbered c.in_ok-_pushed.ensures.items,
  c.in_ok-next.ensures.keywords,
)
