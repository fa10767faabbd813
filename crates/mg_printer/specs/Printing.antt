-- The canonical spelling of a metagrammar.
use Rattle.std.specs.Prelude.{ℕ, List, map}
use Rattle.mg_syntax.specs.declared.item.Item.{Item}
use Rattle.gr_reader.specs.Lexemes.{Lexeme}
use Rattle.gr_texts.specs.Lexemes.{printed, spaced}
use Rattle.mg_printer.specs.Pieces.{Piece, lexeme_of}
use Rattle.mg_printer.specs.Items.{item_pieces}

-- the canonical lexemes of the items, where the numbers mean these texts
abbrev pub canonical : List (List ℕ) → List Item → List (List Lexeme)
canonical texts m = map (λ i. map (lexeme_of texts) (item_pieces i)) m

-- the canonical spelling: the lexemes with one space between each two, and LF behind each item
abbrev pub spelling : List (List ℕ) → List Item → List ℕ
spelling texts m = printed (canonical texts m)

-- what pieces add to a line
abbrev pub spelled : List (List ℕ) → List Piece → List ℕ
spelled texts ps = spaced (map (lexeme_of texts) ps)
