use Rattle.std.proofs.Common.{OnOk, length, map, subst, sym}
use Rattle.td_canon.specs.CanonicalTexts.{text_in}
use Rattle.td_canon.specs.TreeText.{category_text}
use Rattle.td_canon.specs.Writing.{IsNamedSome, Writes, some_terms}
use Rattle.td_canon.proofs.writing.push_category.Goals as goal

pub push_value-requires : goal.push_value-requires
push_value-requires c = subst (λ o. IsNamedSome (length c.args.symbols.now) o) c.in-Some.is c.requires

pub returns-in-None : goal.returns-in-None
returns-in-None c =
    subst (λ o. OnOk c.push.result (Writes c.args.draft.now c.push.new.self (some_terms o) (λ label. category_text (text_in c.args.symbols.now) (map label (some_terms o))))) (sym c.in-None.is) c.push.ensures
