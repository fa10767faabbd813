-- The word of a role.
use Rattle.std.specs.Prelude.{ℕ, List, codes}
use Rattle.rl_refusals.specs.declared.refusal.Role.{Role}
use Rattle.rl_refusals.specs.declared.refusal.Role.TheVariants.{Metagrammar, Grammar, Lexicon, Forms, Inputs}

abbrev pub role_text : Role → List ℕ
role_text Metagrammar = codes "metagrammar"
role_text Grammar = codes "grammar"
role_text Lexicon = codes "lexicon"
role_text Forms = codes "forms"
role_text Inputs = codes "inputs"
