-- How deep the brackets of a grammar stand, computed: for the grammars whose texts never come near the limit.
use Rattle.std.specs.Prelude.{ℕ, Option, Some, None, ◌==◌, if◌then◌else◌}
use Rattle.gr_grammar.specs.declared.brackets.Turn.{Turn}
use Rattle.gr_grammar.specs.declared.brackets.Turn.TheVariants.{Neither}
use Rattle.gr_grammar.specs.Grammars.{Grammar, tok, nil, seq, alt, star, part}
use Rattle.gr_grammar.specs.Depths.{next_depth}
use Rattle.gr_reader.specs.Classes.{Class, sign, is_one_of}
use Rattle.gr_reader.specs.Brackets.{turn_by, opening, closing}

-- what the lexemes of a class do to the brackets that are open
abbrev pub class_turn : Class → Turn
class_turn (sign s) = turn_by (is_one_of opening s) (is_one_of closing s)
class_turn _ = Neither

abbrev pub agreed : Option ℕ → Option ℕ → Option ℕ
agreed None y = None
agreed (Some m) None = None
agreed (Some m) (Some n) = if m == n then Some m else None

-- how many brackets are open behind each text of the grammar where n are open before it and no bracket opens inside as many open ones as the limit; None where that isn't known
abbrev pub level_behind : ℕ → ℕ → Grammar Class → Option ℕ
level_behind limit n (tok c) = next_depth limit n (class_turn c)
level_behind limit n nil = Some n
level_behind limit n (seq g h) = elim (level_behind limit n g) [ None ↦ None | Some m ↦ level_behind limit m h ]
level_behind limit n (alt g h) = agreed (level_behind limit n g) (level_behind limit n h)
level_behind limit n (star g) = agreed (Some n) (level_behind limit n g)
level_behind limit n (part k) = None
