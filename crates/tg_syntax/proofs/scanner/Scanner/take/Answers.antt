use Rattle.std.proofs.Common.{rules, ◌≡◌, ◌∷◌, [], ℕ, length, List, arith}
use Rattle.tg_syntax.specs.declared.class.Class.{Class}
use Rattle.gr_grammar.specs.Grammars.{tok, Runs, failed, take_token, bad_token, bad_end}
use Rattle.tg_syntax.specs.Files.{system}
use Rattle.tg_syntax.proofs.scanner.Scanner.take.Goals as goal

at_end : (c : Class) (ts : List ℕ) → length ts ≡ 0 → Runs system (tok c) ts (failed ts)
at_end c [] h = bad_end
at_end c (t ∷ ts) h = absurd (omega arith)

pub returns-in_default : goal.returns-in_default
returns-in_default c = at_end _ _ c.in_default.ensures.cases

pub returns-then-not-has : goal.returns-then-not-has
returns-then-not-has c = rw c.in-Some.ensures.cases.0 (bad_token {c = c.args.class} {t = c.in-Some.byte.now} (let h = c.if-not-has.true in let k = c.has.ensures in search rules))

pub returns : goal.returns
returns c = rw c.in-Some.ensures.cases.0 (take_token {c = c.args.class} {t = c.in-Some.byte.now} (let h = c.if-not-has.false in let k = c.has.ensures in search rules))
