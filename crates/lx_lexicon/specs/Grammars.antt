-- The grammar of a lexicon, and what its texts are.
use Rattle.std.specs.Prelude.{ℕ, List, [], length, codes}
use Rattle.gr_grammar.specs.Grammars.{Grammar, tok, nil, seq, alt, star, Matches, both, the_left, the_right, items}
use Rattle.gr_reader.specs.Lexemes.{Lexeme}
use Rattle.gr_reader.specs.Classes.{Class, sign, keyword, any_word, any_name, flat}
use Rattle.gr_reader.specs.Parts.{token_of}
use Rattle.gr_feats.specs.Grammars.{WrittenPair, WrittenLiteral, bag_text, bag_of, closed_literals_text, closed_literals_of}

-- the grammar; an optional part stands before `nil`
abbrev pub word_bag_text : List ℕ → Grammar Class
word_bag_text word = seq (tok (keyword word)) bag_text

abbrev pub coanchor_text : Grammar Class
coanchor_text = seq (tok (keyword (codes "coanchor"))) (seq (tok any_name) (seq (tok (sign (codes "="))) (tok any_name)))

abbrev pub sem_text : Grammar Class
sem_text = seq (tok (keyword (codes "sem"))) (seq (tok (sign (codes "{"))) closed_literals_text)

-- the lemma and the family behind the word `entry`
abbrev pub head_text : Grammar Class
head_text = seq (tok (keyword (codes "entry"))) (seq (tok any_name) (tok any_word))

abbrev pub body_text : Grammar Class
body_text = seq (alt (word_bag_text (codes "iface")) nil) (seq (alt (word_bag_text (codes "anchor")) nil) (seq (star coanchor_text) (alt sem_text nil)))

abbrev pub entry_text : Grammar Class
entry_text = seq head_text (seq (tok (sign (codes "{"))) (seq body_text (tok (sign (codes "}")))))

abbrev pub lexicon_text : Grammar Class
lexicon_text = star entry_text

-- a name as it is written, and how many lexemes are left at it, itself among them
pub record WrittenName : Type 0 where
  pub text : List ℕ
  pub left : ℕ

-- a co-anchor: the name of a leaf, and the lemma that is put there
pub record WrittenCoanchor : Type 0 where
  pub name : WrittenName
  pub lemma : WrittenName

-- how many lexemes are left at the word `entry`, itself among them, the lemma, and the family
pub record WrittenHead : Type 0 where
  pub left : ℕ
  pub lemma : WrittenName
  pub family : List ℕ

-- what stands between the braces; what is left out is empty
pub record WrittenBody : Type 0 where
  pub iface : List WrittenPair
  pub anchor : List WrittenPair
  pub coanchors : List WrittenCoanchor
  pub literals : List WrittenLiteral

pub record WrittenEntry : Type 0 where
  pub head : WrittenHead
  pub body : WrittenBody

-- what the texts are
abbrev pub name_of : {ts rest : List Lexeme} → Matches flat (tok any_name) ts rest → WrittenName
name_of {ts} m = record { text = (token_of m).text; left = length ts }

abbrev pub coanchor_of : {ts rest : List Lexeme} → Matches flat coanchor_text ts rest → WrittenCoanchor
coanchor_of (both k (both n (both e l))) = record { name = name_of n; lemma = name_of l }

abbrev pub coanchors_of : {ts rest : List Lexeme} → Matches flat (star coanchor_text) ts rest → List WrittenCoanchor
coanchors_of m = items (λ ts rest m. coanchor_of m) m

abbrev pub word_bag_of : {word : List ℕ} {ts rest : List Lexeme} → Matches flat (word_bag_text word) ts rest → List WrittenPair
word_bag_of (both k b) = bag_of b

abbrev pub perhaps_bag_of : {word : List ℕ} {ts rest : List Lexeme} → Matches flat (alt (word_bag_text word) nil) ts rest → List WrittenPair
perhaps_bag_of (the_left m) = word_bag_of m
perhaps_bag_of (the_right m) = []

abbrev pub sem_of : {ts rest : List Lexeme} → Matches flat sem_text ts rest → List WrittenLiteral
sem_of (both k (both o ls)) = closed_literals_of ls

abbrev pub perhaps_sem_of : {ts rest : List Lexeme} → Matches flat (alt sem_text nil) ts rest → List WrittenLiteral
perhaps_sem_of (the_left m) = sem_of m
perhaps_sem_of (the_right m) = []

abbrev pub head_of : {ts rest : List Lexeme} → Matches flat head_text ts rest → WrittenHead
head_of {ts} (both k (both l f)) = record { left = length ts; lemma = name_of l; family = (token_of f).text }

abbrev pub body_of : {ts rest : List Lexeme} → Matches flat body_text ts rest → WrittenBody
body_of (both i (both a (both cs s))) = record { iface = perhaps_bag_of i; anchor = perhaps_bag_of a; coanchors = coanchors_of cs; literals = perhaps_sem_of s }

abbrev pub entry_of : {ts rest : List Lexeme} → Matches flat entry_text ts rest → WrittenEntry
entry_of (both h (both o (both b c))) = record { head = head_of h; body = body_of b }

abbrev pub lexicon_of : {ts rest : List Lexeme} → Matches flat lexicon_text ts rest → List WrittenEntry
lexicon_of m = items (λ ts rest m. entry_of m) m
