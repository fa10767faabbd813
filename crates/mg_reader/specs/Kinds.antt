-- What the grammar sees of a token: its kind, its name's number and its place.
use Rattle.std.specs.Prelude.{ℕ, suc, List, [], ◌∷◌, Bool, ◌||◌, ◌&&◌, nat_le, nat_lt, bytes_eq, codes, if◌then◌else◌, length, not, ◌==◌}
use Rattle.std.specs.List.{filter}
use Rattle.gr_grammar.specs.declared.brackets.Turn.{Turn}
use Rattle.gr_grammar.specs.declared.brackets.Turn.TheVariants.{Opens, Closes, Neither}
use Rattle.mg_reader.specs.declared.lexeme.Kind.{Kind}
use Rattle.mg_reader.specs.declared.lexeme.Kind.TheVariants as kind
use Rattle.mg_reader.specs.declared.lexeme.Lexeme.{Lexeme}
use Rattle.mg_reader.specs.declared.lexeme.Class.{Class}
use Rattle.mg_reader.specs.declared.lexeme.Class.TheVariants as class

-- the kinds in their order: signs, then variables and strings, then words
abbrev pub kind_number : Kind → ℕ
kind_number kind.Below = 0
kind_number kind.BelowPlus = 1
kind_number kind.BelowStar = 2
kind_number kind.Next = 3
kind_number kind.NextPlus = 4
kind_number kind.NextStar = 5
kind_number kind.Equals = 6
kind_number kind.Greater = 7
kind_number kind.Less = 8
kind_number kind.Dots = 9
kind_number kind.DotsPlus = 10
kind_number kind.Dot = 11
kind_number kind.Commas = 12
kind_number kind.Comma = 13
kind_number kind.Semicolon = 14
kind_number kind.Colon = 15
kind_number kind.Bar = 16
kind_number kind.Bang = 17
kind_number kind.LeftParen = 18
kind_number kind.RightParen = 19
kind_number kind.LeftBracket = 20
kind_number kind.RightBracket = 21
kind_number kind.LeftBrace = 22
kind_number kind.RightBrace = 23
kind_number kind.Var = 24
kind_number kind.Str = 25
kind_number kind.Class = 26
kind_number kind.Import = 27
kind_number kind.Export = 28
kind_number kind.Declare = 29
kind_number kind.Value = 30
kind_number kind.Node = 31
kind_number kind.Domain = 32
kind_number kind.Property = 33
kind_number kind.Feature = 34
kind_number kind.Use = 35
kind_number kind.Anchor = 36
kind_number kind.Coanchor = 37
kind_number kind.Subst = 38
kind_number kind.Foot = 39
kind_number kind.Lex = 40
kind_number kind.Nadj = 41
kind_number kind.With = 42
kind_number kind.Dims = 43
kind_number kind.Syn = 44
kind_number kind.Sem = 45
kind_number kind.Iface = 46
kind_number kind.Black = 47
kind_number kind.White = 48
kind_number kind.Red = 49
kind_number kind.Top = 50
kind_number kind.Bot = 51
kind_number kind.Word = 52
kind_number kind.Color = 53
kind_number kind.Mark = 54
kind_number kind.Cat = 55

-- the kind beside the text in a table, or that of a word that isn't there
abbrev pub kind_in : List (List ℕ × Kind) → List ℕ → Kind
kind_in [] text = kind.Word
kind_in ((known, k) ∷ rows) text = if bytes_eq text known then k else kind_in rows text

-- the words of the grammar, and the signs
abbrev pub words : List (List ℕ × Kind)
words =
    (codes "class", kind.Class) ∷ (codes "import", kind.Import) ∷ (codes "export", kind.Export) ∷ (codes "declare", kind.Declare)
    ∷ (codes "value", kind.Value) ∷ (codes "node", kind.Node) ∷ (codes "type", kind.Domain) ∷ (codes "property", kind.Property)
    ∷ (codes "feature", kind.Feature) ∷ (codes "use", kind.Use) ∷ (codes "anchor", kind.Anchor) ∷ (codes "coanchor", kind.Coanchor)
    ∷ (codes "subst", kind.Subst) ∷ (codes "foot", kind.Foot) ∷ (codes "lex", kind.Lex) ∷ (codes "nadj", kind.Nadj)
    ∷ (codes "with", kind.With) ∷ (codes "dims", kind.Dims) ∷ (codes "syn", kind.Syn) ∷ (codes "sem", kind.Sem)
    ∷ (codes "iface", kind.Iface) ∷ (codes "black", kind.Black) ∷ (codes "white", kind.White) ∷ (codes "red", kind.Red)
    ∷ (codes "top", kind.Top) ∷ (codes "bot", kind.Bot) ∷ (codes "color", kind.Color) ∷ (codes "mark", kind.Mark)
    ∷ (codes "cat", kind.Cat)
    ∷ []

abbrev pub signs : List (List ℕ × Kind)
signs =
    (codes "->", kind.Below) ∷ (codes "->+", kind.BelowPlus) ∷ (codes "->*", kind.BelowStar) ∷ (codes ">>", kind.Next)
    ∷ (codes ">>+", kind.NextPlus) ∷ (codes ">>*", kind.NextStar) ∷ (codes "=", kind.Equals) ∷ (codes ">", kind.Greater)
    ∷ (codes "<", kind.Less) ∷ (codes "...", kind.Dots) ∷ (codes "...+", kind.DotsPlus) ∷ (codes ".", kind.Dot)
    ∷ (codes ",,,", kind.Commas) ∷ (codes ",", kind.Comma) ∷ (codes ";", kind.Semicolon) ∷ (codes ":", kind.Colon)
    ∷ (codes "|", kind.Bar) ∷ (codes "!", kind.Bang) ∷ (codes "(", kind.LeftParen) ∷ (codes ")", kind.RightParen)
    ∷ (codes "[", kind.LeftBracket) ∷ (codes "]", kind.RightBracket) ∷ (codes "{", kind.LeftBrace) ∷ (codes "}", kind.RightBrace)
    ∷ []

-- the rows of a table with a text of so many bytes
abbrev pub of_width : ℕ → List (List ℕ × Kind) → List (List ℕ × Kind)
of_width n rows = filter (λ r. length r.0 == n) rows

-- the other rows
abbrev pub not_of_width : ℕ → List (List ℕ × Kind) → List (List ℕ × Kind)
not_of_width n rows = filter (λ r. not (length r.0 == n)) rows

abbrev pub word_kind : List ℕ → Kind
word_kind text = kind_in words text

abbrev pub sign_kind : List ℕ → Kind
sign_kind text = kind_in signs text

-- the number of the first kind of a class, and the one behind the last
abbrev pub low : Class → ℕ
low (class.Is k) = kind_number k
low class.Operator = kind_number kind.Below
low class.Descent = kind_number kind.Dots
low class.Name = kind_number kind.Str
low class.Word = kind_number kind.Class
low class.Reserved = kind_number kind.Class
low class.Plain = kind_number kind.Anchor
low class.Property = kind_number kind.Class
low class.Marker = kind_number kind.Anchor
low class.Paint = kind_number kind.Black

abbrev pub high : Class → ℕ
high (class.Is k) = suc (kind_number k)
high class.Operator = suc (kind_number kind.Equals)
high class.Descent = suc (kind_number kind.DotsPlus)
high class.Name = suc (kind_number kind.Cat)
high class.Word = suc (kind_number kind.Cat)
high class.Reserved = suc (kind_number kind.Use)
high class.Plain = suc (kind_number kind.Cat)
high class.Property = suc (kind_number kind.Word)
high class.Marker = suc (kind_number kind.Nadj)
high class.Paint = suc (kind_number kind.Red)

-- the lexeme is of the class
abbrev pub test : Class → Lexeme → Bool
test c t = nat_le (low c) (kind_number t.kind) && nat_lt (kind_number t.kind) (high c)

-- the classes share no kind
abbrev pub apart : Class → Class → Bool
apart c d = nat_le (high c) (low d) || nat_le (high d) (low c)

-- what a lexeme does to the brackets that are open
abbrev pub turn_of : Kind → Turn
turn_of kind.LeftParen = Opens
turn_of kind.LeftBracket = Opens
turn_of kind.LeftBrace = Opens
turn_of kind.RightParen = Closes
turn_of kind.RightBracket = Closes
turn_of kind.RightBrace = Closes
turn_of _ = Neither

abbrev pub turn : Lexeme → Turn
turn t = turn_of t.kind
