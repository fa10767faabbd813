-- The grammar of trees: nodes by how many brackets may still be opened, interface and literals.
use Rattle.std.specs.Prelude.{ℕ, zero, suc, List, [], ◌∷◌, codes}
use Rattle.gr_grammar.specs.Grammars.{Grammar, tok, nil, seq, alt, star, part}
use Rattle.tg_syntax.specs.declared.class.Class.{Class}
use Rattle.tg_syntax.specs.declared.class.Class.TheVariants.{Byte, WordByte, WordByteBut}
use Rattle.tg_syntax.specs.Families.{word_part, node_part, other_part}
use Rattle.tg_syntax.specs.Names.{string, variable, term, bag}

-- a token that no byte is: what stands before it may begin, and never goes on
abbrev pub never : Grammar Class
never = tok (Byte 256)

-- a property is a part of its own, so that its place can be told
abbrev pub PROPERTY : ℕ
PROPERTY = other_part 1

-- the category, or `-` where there is none
abbrev pub label : Grammar Class
label = alt (tok (Byte 45)) term

-- properties in braces, where one more bracket may be opened
abbrev pub braces : ℕ → Grammar Class
braces zero = nil
braces (suc r) = alt (seq (tok (Byte 123)) (seq (seq (part PROPERTY) (star (seq (tok (Byte 44)) (part PROPERTY)))) (tok (Byte 125)))) nil

-- a bag behind its sign. The sign may stand inside 200 open brackets; it is the bag's bracket that may not
abbrev pub signed_bag : ℕ → ℕ → Grammar Class
signed_bag sign zero = alt (seq (tok (Byte sign)) never) nil
signed_bag sign (suc r) = alt (seq (tok (Byte sign)) bag) nil

-- nodes in parentheses, each with one bracket less to open
abbrev pub kids : ℕ → Grammar Class
kids zero = nil
kids (suc r) = alt (seq (tok (Byte 40)) (seq (part (node_part r)) (seq (star (seq (tok (Byte 32)) (part (node_part r)))) (tok (Byte 41))))) nil

-- a node with r brackets left to open: the category, the properties, `^` and the top, `/` and the bottom, the children
abbrev pub node : ℕ → Grammar Class
node r = seq label (seq (braces r) (seq (signed_bag 94 r) (seq (signed_bag 47 r) (kids r))))

-- the arguments of a literal
abbrev pub arguments : Grammar Class
arguments = alt (seq term (star (seq (tok (Byte 32)) term))) nil

-- what follows the handle of a literal: `:`, the predicate and the arguments in parentheses
abbrev pub behind_handle : Grammar Class
behind_handle = seq (tok (Byte 58)) (seq term (seq (tok (Byte 40)) (seq arguments (tok (Byte 41)))))

abbrev pub literal : Grammar Class
literal = seq term behind_handle

-- what follows in a word that so far is the keyword but for these last bytes, with n bytes left: where the word is the keyword one thing may follow, and where it is another word another
abbrev pub keyed : ℕ → List ℕ → Grammar Class → Grammar Class → Grammar Class
keyed zero bs key other = other
keyed (suc zero) bs key other = other
keyed (suc (suc n)) [] key other =
    alt (seq (tok WordByte) (seq (part (word_part (suc n))) other)) (alt (seq (tok (Byte 45)) (seq (tok WordByte) (seq (part (word_part n)) other))) key)
keyed (suc (suc n)) (b ∷ bs) key other =
    alt (seq (tok (Byte b)) (keyed (suc n) bs key other))
    (alt (seq (tok (WordByteBut b)) (seq (part (word_part (suc n))) other)) (alt (seq (tok (Byte 45)) (seq (tok WordByte) (seq (part (word_part n)) other))) other))

-- what stands behind the first space after the nodes: the interface, which is `iface` and a bag, or a literal, whose handle may be the word `iface` too
abbrev pub first_item : Grammar Class
first_item =
    alt (seq (tok (Byte 105)) (keyed 254 (codes "face") (alt bag behind_handle) behind_handle))
    (alt (seq (tok (WordByteBut 105)) (seq (part (word_part 254)) behind_handle)) (alt (seq string behind_handle) (seq variable behind_handle)))

-- the interface and the literals, each behind a space
abbrev pub items : Grammar Class
items = seq (tok (Byte 32)) (seq first_item (star (seq (tok (Byte 32)) literal)))

-- a tree: its nodes, its interface, its literals
abbrev pub tree : Grammar Class
tree = seq (part (node_part 200)) (alt items nil)
