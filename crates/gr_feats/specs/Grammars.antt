-- The grammar of bags and literals, and what their texts are.
use Rattle.std.specs.Prelude.{ℕ, List, [], ◌∷◌, length, codes, Option, Some, None}
use Rattle.gr_grammar.specs.Grammars.{Grammar, tok, nil, seq, alt, star, Matches, both, the_left, the_right, items}
use Rattle.gr_reader.specs.Lexemes.{Lexeme}
use Rattle.gr_reader.specs.Classes.{Class, sign, any_word, any_name, variable, flat}
use Rattle.gr_reader.specs.Parts.{token_of}

-- the grammar; an optional part stands before `nil`
abbrev pub term_text : Grammar Class
term_text = alt (tok any_name) (tok variable)

abbrev pub pair_text : Grammar Class
pair_text = seq (tok any_word) (seq (tok (sign (codes "="))) term_text)

abbrev pub next_pair_text : Grammar Class
next_pair_text = seq (tok (sign (codes ","))) pair_text

abbrev pub pairs_text : Grammar Class
pairs_text = seq pair_text (star next_pair_text)

abbrev pub bag_text : Grammar Class
bag_text = seq (tok (sign (codes "["))) (seq (alt pairs_text nil) (tok (sign (codes "]"))))

abbrev pub next_arg_text : Grammar Class
next_arg_text = seq (alt (tok (sign (codes ","))) nil) term_text

abbrev pub args_text : Grammar Class
args_text = seq term_text (star next_arg_text)

-- a literal's first term is its handle where a colon follows, and else its predicate
abbrev pub colon_text : Grammar Class
colon_text = seq (tok (sign (codes ":"))) term_text

abbrev pub literal_text : Grammar Class
literal_text = seq term_text (seq (alt colon_text nil) (seq (tok (sign (codes "("))) (seq (alt args_text nil) (tok (sign (codes ")"))))))

abbrev pub next_literal_text : Grammar Class
next_literal_text = seq (alt (tok (sign (codes ";"))) nil) literal_text

abbrev pub row_text : Grammar Class
row_text = seq literal_text (star next_literal_text)

abbrev pub literals_text : Grammar Class
literals_text = alt row_text nil

-- the literals with the brace that closes them
abbrev pub closed_literals_text : Grammar Class
closed_literals_text = seq literals_text (tok (sign (codes "}")))

-- a term as it is written: a name, or a variable by its name
pub data Written : Type 0 where
  a_name : List ℕ → Written
  a_variable : List ℕ → Written

-- a pair as it is written, and how many lexemes are left at its attribute, the attribute among them
pub record WrittenPair : Type 0 where
  pub attr : List ℕ
  pub value : Written
  pub left : ℕ

-- a literal as it is written; its handle may be left out
pub record WrittenLiteral : Type 0 where
  pub handle : Option Written
  pub pred : Written
  pub args : List Written

-- what the texts are
abbrev pub term_of : {ts rest : List Lexeme} → Matches flat term_text ts rest → Written
term_of (the_left a) = a_name (token_of a).text
term_of (the_right a) = a_variable (token_of a).text

abbrev pub pair_of : {ts rest : List Lexeme} → Matches flat pair_text ts rest → WrittenPair
pair_of {ts} (both a (both e v)) = record { attr = (token_of a).text; value = term_of v; left = length ts }

abbrev pub next_pair_of : {ts rest : List Lexeme} → Matches flat next_pair_text ts rest → WrittenPair
next_pair_of (both c p) = pair_of p

abbrev pub pairs_of : {ts rest : List Lexeme} → Matches flat pairs_text ts rest → List WrittenPair
pairs_of (both p ps) = pair_of p ∷ items (λ ts rest m. next_pair_of m) ps

abbrev pub perhaps_pairs_of : {ts rest : List Lexeme} → Matches flat (alt pairs_text nil) ts rest → List WrittenPair
perhaps_pairs_of (the_left m) = pairs_of m
perhaps_pairs_of (the_right m) = []

abbrev pub bag_of : {ts rest : List Lexeme} → Matches flat bag_text ts rest → List WrittenPair
bag_of (both o (both m c)) = perhaps_pairs_of m

abbrev pub next_arg_of : {ts rest : List Lexeme} → Matches flat next_arg_text ts rest → Written
next_arg_of (both c v) = term_of v

abbrev pub args_of : {ts rest : List Lexeme} → Matches flat args_text ts rest → List Written
args_of (both v vs) = term_of v ∷ items (λ ts rest m. next_arg_of m) vs

abbrev pub perhaps_args_of : {ts rest : List Lexeme} → Matches flat (alt args_text nil) ts rest → List Written
perhaps_args_of (the_left m) = args_of m
perhaps_args_of (the_right m) = []

abbrev pub behind_colon_of : {ts rest : List Lexeme} → Matches flat colon_text ts rest → Written
behind_colon_of (both c v) = term_of v

abbrev pub with_args : Written → Option Written → List Written → WrittenLiteral
with_args first None args = record { handle = None; pred = first; args = args }
with_args first (Some second) args = record { handle = Some first; pred = second; args = args }

abbrev pub second_of : {ts rest : List Lexeme} → Matches flat (alt colon_text nil) ts rest → Option Written
second_of (the_left m) = Some (behind_colon_of m)
second_of (the_right m) = None

abbrev pub literal_of : {ts rest : List Lexeme} → Matches flat literal_text ts rest → WrittenLiteral
literal_of (both first (both second (both o (both args c)))) = with_args (term_of first) (second_of second) (perhaps_args_of args)

abbrev pub next_literal_of : {ts rest : List Lexeme} → Matches flat next_literal_text ts rest → WrittenLiteral
next_literal_of (both s l) = literal_of l

abbrev pub row_of : {ts rest : List Lexeme} → Matches flat row_text ts rest → List WrittenLiteral
row_of (both l ls) = literal_of l ∷ items (λ ts rest m. next_literal_of m) ls

abbrev pub literals_of : {ts rest : List Lexeme} → Matches flat literals_text ts rest → List WrittenLiteral
literals_of (the_left m) = row_of m
literals_of (the_right m) = []

abbrev pub closed_literals_of : {ts rest : List Lexeme} → Matches flat closed_literals_text ts rest → List WrittenLiteral
closed_literals_of (both ls c) = literals_of ls
