use Rattle.std.proofs.Common.{[], sym, subst}
use Rattle.std.proofs.lemmas.List.{append-nil}
use Rattle.gr_symbols.specs.Numbers.{Grows}
use Rattle.mg_syntax.specs.Names.{HasTexts}
use Rattle.mg_reader.proofs.Named.{names_have_texts}
use Rattle.mg_tests.proofs.compiling.compiled.Goals as goal

pub compile_class-requires-clause-texts : goal.compile_class-requires-clause-texts
compile_class-requires-clause-texts c =
    let texts = c.read_metagrammar.new.symbols in
    subst (λ m. HasTexts texts m) (sym c.in-Ok-resolve.ensures.ok.0)
    (names_have_texts texts texts (subst (λ z. Grows z texts) c.in_ok-symbols.ensures c.read_metagrammar.ensures.grows) ([], sym (append-nil texts)) c.as_bytes-bytes.result.now c.in-Ok.read c.in-Ok.ensures.ok)
