use Rattle.std.proofs.Common.{[], sym, subst}
use Rattle.std.proofs.lemmas.List.{append-nil}
use Rattle.gr_symbols.specs.Numbers.{Grows}
use Rattle.mg_reader.proofs.Named.{names_have_texts}
use Rattle.mg_reprint.proofs.printed.Goals as goal

pub print_metagrammar-requires : goal.print_metagrammar-requires
print_metagrammar-requires c =
    let texts = c.read_metagrammar.new.symbols in
    names_have_texts texts texts (subst (λ z. Grows z texts) c.in_ok-symbols.ensures c.read_metagrammar.ensures.grows) ([], sym (append-nil texts)) c.args.bytes.now c.in-Ok.metagrammar c.in-Ok.ensures.ok
