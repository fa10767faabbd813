use Rattle.std.proofs.Common.{◌≡◌, ◌∙◌, [], length, sym, subst, append-nil, string_bytes, refl}
use Rattle.std.proofs.lemmas.Bool.{false≢true}
use Rattle.std.proofs.lemmas.Slice.Eq.{bytes_eq-Decides}
use Rattle.gr_base.specs.Lists.{Each}
use Rattle.gr_symbols.specs.Numbers.{first_texts}
use Rattle.gr_symbols.proofs.NumberLemmas.{Grows-trans}
use Rattle.td_canon.specs.CanonicalTexts.{HasText, text_in}
use Rattle.td_canon.proofs.TellingLemmas.{one_tree_text}
use Rattle.tg_reader.specs.Writable.{IsTreeText}
use Rattle.tg_reader.specs.Reading.{IsKnownTree, IsNamedOwn, Obeys, StandsForTree}
use Rattle.tg_reader.proofs.Answering.{has_text, named_own, named_tree, obeys, source, writable_tree}
use Rattle.tg_reader.proofs.Readable.{readable}
use Rattle.tg_reader.proofs.Steps.{now}
use Rattle.tg_reader.proofs.read_tree.Goals as goal

pub returns-in-Err-NoTree-clause-none : goal.returns-in-Err-NoTree-clause-none
returns-in-Err-NoTree-clause-none c = λ is.
    let r = readable is.texts is.table is.tree c.args.text.now is.has is.writable c.requires in
    let never = c.in-Err-NoTree.ensures.takes (text_in is.texts) is.has.spells.form [] r.can refl (c.as_bytes.ensures.value ∙ r.text_is ∙ sym (append-nil _)) in
    rw c.in-Err-NoTree.field-0-is at never

pub all_obey-requires : goal.all_obey-requires
all_obey-requires c =
    let known = now c.tree.new.symbols (IsKnownTree c.in-Ok.tree) (c.in-Ok.ensures.known c.has_first_texts.ensures) in
    subst (λ ns. Each (IsNamedOwn (length c.tree.new.symbols)) ns) (sym c.as_slice.ensures) (named_own c.tree.new.symbols c.in-Ok.tree.nodes known.nodes)

pub returns-then-not-all_obey-clause-none : goal.returns-then-not-all_obey-clause-none
returns-then-not-all_obey-clause-none c = λ is.
    let first = Grows-trans first_texts _ c.tree.new.symbols c.has_first_texts.ensures c.tree.ensures.passes.grows in
    let r = source c.tree.new.symbols c.tells_texts_apart.ensures first c.args.text.now is c.requires in
    let read = c.in-Ok.ensures.takes (text_in is.texts) is.has.spells.form [] r.can refl (c.as_bytes.ensures.value ∙ r.text_is ∙ sym (append-nil _)) in
    let stands = now c.tree.new.symbols (λ texts. StandsForTree (text_in is.texts) texts is.has.spells.form c.in-Ok.tree) read.1.later in
    let all = obeys c.tree.new.symbols c.tells_texts_apart.ensures first c.args.text.now is c.requires c.in-Ok.tree stands in
    false≢true (sym c.if-not-all_obey.true ∙ c.all_obey.ensures.1 (subst (λ ns. Each (Obeys c.tree.new.symbols) ns) (sym c.as_slice.ensures) all))

pub canonical_text-requires-clause-named : goal.canonical_text-requires-clause-named
canonical_text-requires-clause-named c = named_tree c.tree.new.symbols c.in-Ok.tree (now c.tree.new.symbols (IsKnownTree c.in-Ok.tree) (c.in-Ok.ensures.known c.has_first_texts.ensures))

pub returns-then-eq-clause-tree : goal.returns-then-eq-clause-tree
returns-then-eq-clause-tree c =
    let same : c.as_str.result.now ≡ c.args.text.now = (bytes_eq-Decides c.as_str.result.now c.args.text.now).0 (sym c.eq.ensures ∙ c.if-eq.true) in
    subst (λ z. HasText c.tree.new.symbols c.in-Ok.tree z) (sym c.as_str.ensures.value ∙ same) c.in_ok-written.ensures

pub returns-then-eq-clause-writable : goal.returns-then-eq-clause-writable
returns-then-eq-clause-writable c =
    let known = now c.tree.new.symbols (IsKnownTree c.in-Ok.tree) (c.in-Ok.ensures.known c.has_first_texts.ensures) in
    writable_tree c.tree.new.symbols c.in-Ok.tree known (subst (λ ns. Each (Obeys c.tree.new.symbols) ns) c.as_slice.ensures (c.all_obey.ensures.0 c.if-not-all_obey.false))

pub returns-else-eq-clause-none : goal.returns-else-eq-clause-none
returns-else-eq-clause-none c = λ is.
    let first = Grows-trans first_texts _ c.tree.new.symbols c.has_first_texts.ensures c.tree.ensures.passes.grows in
    let r = source c.tree.new.symbols c.tells_texts_apart.ensures first c.args.text.now is c.requires in
    let read = c.in-Ok.ensures.takes (text_in is.texts) is.has.spells.form [] r.can refl (c.as_bytes.ensures.value ∙ r.text_is ∙ sym (append-nil _)) in
    let stands = now c.tree.new.symbols (λ texts. StandsForTree (text_in is.texts) texts is.has.spells.form c.in-Ok.tree) read.1.later in
    let known = now c.tree.new.symbols (IsKnownTree c.in-Ok.tree) (c.in-Ok.ensures.known c.has_first_texts.ensures) in
    let has = has_text c.tree.new.symbols c.tells_texts_apart.ensures first c.args.text.now is c.requires c.in-Ok.tree stands c.in-Ok.ensures.nodes known in
    let same = one_tree_text c.tree.new.symbols c.in-Ok.tree (string_bytes c.in_ok-written.written) c.args.text.now c.tells_texts_apart.ensures c.in_ok-written.ensures has in
    false≢true (sym c.if-eq.false ∙ c.eq.ensures ∙ (bytes_eq-Decides c.as_str.result.now c.args.text.now).1 (c.as_str.ensures.value ∙ same))

pub returns-then-eq-clause-table : goal.returns-then-eq-clause-table
returns-then-eq-clause-table c =
    let texts = c.tree.new.symbols in
    let first = Grows-trans first_texts _ texts c.has_first_texts.ensures c.tree.ensures.passes.grows in
    let same : c.as_str.result.now ≡ c.args.text.now = (bytes_eq-Decides c.as_str.result.now c.args.text.now).0 (sym c.eq.ensures ∙ c.if-eq.true) in
    let known = now texts (IsKnownTree c.in-Ok.tree) (c.in-Ok.ensures.known c.has_first_texts.ensures) in
    let is : IsTreeText c.args.text.now = record {
      texts = texts;
      table = record { once = c.tells_texts_apart.ensures; first = first };
      tree = c.in-Ok.tree;
      has = subst (λ z. HasText texts c.in-Ok.tree z) (sym c.as_str.ensures.value ∙ same) c.in_ok-written.ensures;
      writable = writable_tree texts c.in-Ok.tree known (subst (λ ns. Each (Obeys texts) ns) c.as_slice.ensures (c.all_obey.ensures.0 c.if-not-all_obey.false));
    } in
    let r = readable texts is.table c.in-Ok.tree c.args.text.now is.has is.writable c.requires in
    let read = c.in-Ok.ensures.takes (text_in texts) is.has.spells.form [] r.can refl (c.as_bytes.ensures.value ∙ r.text_is ∙ sym (append-nil _)) in
    (is, read.1.table)
