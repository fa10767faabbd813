use Rattle.std.proofs.Common.{string_bytes, ◌++◌, ap, sym, ◌∙◌}
use Rattle.std.proofs.lemmas.Result.{on_ok_weaker}
use Rattle.td_canon.proofs.ValueLemmas.{writes_name, writes_variable}
use Rattle.td_canon.proofs.draft.Draft.push_value.Goals as goal

pub returns-in-Const : goal.returns-in-Const
returns-in-Const c =
    on_ok_weaker c.push_name.result
    (λ named. writes_name c.args.symbols.now c.in-Const.name c.args.value c.text.result.now named.0 c.args.self.now (string_bytes c.self.inside.text) (string_bytes c.push_name.new.out) c.self.inside.met.keys
    c.in-Const.is (sym c.self.view_is) c.text.ensures.text named.1 named.2)
    c.push_name.ensures.ok

pub returns-in_ok-push_str-in-Var-2 : goal.returns-in_ok-push_str-in-Var-2
returns-in_ok-push_str-in-Var-2 c =
    writes_variable c.args.symbols.now c.in-Var.variable c.args.value c.args.self.now (string_bytes c.self.inside.text) (string_bytes c.push_str.new.self) (string_bytes c.push_str-in-Var.new.self) c.self.inside.met.keys c.insert_full.new.self.keys c.in_ok-place-in-Var.place
    c.in-Var.is (sym c.self.view_is) c.in_ok-place-in-Var.ensures.keys c.in_ok-place-in-Var.ensures.index c.in_ok-push_str-in-Var.ensures.bytes
    (c.in_ok-push_str-in-Var-2.ensures.bytes ∙ ap (λ t. string_bytes c.push_str.new.self ++ t) c.format.ensures.text)
