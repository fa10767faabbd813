use Rattle.std.proofs.Common.{string_bytes}
use Rattle.rl_refusals.specs.Lines.{number, word, a_name, a_variable}
use Rattle.rl_refusals.specs.Roles.{role_text}
use Rattle.rl_refusals.proofs.PartLemmas.{says_one}
use Rattle.rl_refusals.proofs.line.push_part.Goals as goal

pub returns-in_ok-push_str-in-Number : goal.returns-in_ok-push_str-in-Number
returns-in_ok-push_str-in-Number c =
    let one = says_one c.args.symbols.now (number c.in-Number.number) c.format.result.now (string_bytes c.args.out.now) (string_bytes c.push_str.new.self) (string_bytes c.push_str-in-Number.new.self)
    c.format.ensures.text c.in_ok-push_str.ensures.bytes c.in_ok-push_str-in-Number.ensures.bytes in
    rw c.in-Number.is one

pub returns-in_ok-push_str-in-Word : goal.returns-in_ok-push_str-in-Word
returns-in_ok-push_str-in-Word c =
    let one = says_one c.args.symbols.now (word (role_text c.in-Word.role)) c.word.result.now (string_bytes c.args.out.now) (string_bytes c.push_str.new.self) (string_bytes c.push_str-in-Word.new.self)
    c.word.ensures c.in_ok-push_str.ensures.bytes c.in_ok-push_str-in-Word.ensures.bytes in
    rw c.in-Word.is one

pub returns-in_ok-push_name-in-Name : goal.returns-in_ok-push_name-in-Name
returns-in_ok-push_name-in-Name c =
    let said = c.in_ok-push_name-in-Name.ensures.ok in
    let one = says_one c.args.symbols.now (a_name c.in-Name.name.0) said.0 (string_bytes c.args.out.now) (string_bytes c.push_str.new.self) (string_bytes c.push_name.new.out)
    (c.text.result.now, c.text.ensures.text, said.1) c.in_ok-push_str.ensures.bytes said.2 in
    rw c.in-Name.is one

pub returns-in_ok-push_variable-in-Variable : goal.returns-in_ok-push_variable-in-Variable
returns-in_ok-push_variable-in-Variable c =
    let said = c.in_ok-push_variable-in-Variable.ensures in
    let one = says_one c.args.symbols.now (a_variable c.in-Variable.variable) said.0 (string_bytes c.args.out.now) (string_bytes c.push_str.new.self) (string_bytes c.push_variable.new.out)
    said.1 c.in_ok-push_str.ensures.bytes said.2 in
    rw c.in-Variable.is one
