-- Lines of items, one after another.
use Rattle.std.specs.Prelude.{◌≡◌, ℕ, ◌+◌, ◌<◌, List, [], ◌∷◌, ◌++◌, length, drop, map, get_or}
use Rattle.std.proofs.Common.{sym, ap, ◌∙◌, subst, append_assoc}
use Rattle.std.proofs.lemmas.List.{drop_more}
use Rattle.gr_base.specs.Lists.{Each}
use Rattle.gr_texts.specs.Lexemes.{line_of}
use Rattle.gr_texts.proofs.Printing.{line-spaced}
use Rattle.mg_syntax.specs.declared.item.Item.{Item}
use Rattle.mg_printer.specs.Pieces.{Piece, IsKnown, a_key, lexeme_of}
use Rattle.mg_printer.specs.Items.{item_pieces}
use Rattle.mg_printer.specs.Printing.{spelled, spelling}
use Rattle.mg_printer.specs.Writing.{AreWritable, AreLinesLeft}

-- a keyword, pieces behind it and LF are a line
pub line_written : (texts : List (List ℕ)) (key : List ℕ) (ps : List Piece) (old first behind new : List ℕ) → first ≡ old ++ key → behind ≡ first ++ spelled texts ps → new ≡ behind ++ 10 ∷ []
    → new ≡ old ++ line_of (map (lexeme_of texts) (a_key key ∷ ps))
line_written texts key ps old first behind new a b e =
    e
    ∙ (ap (λ z. z ++ 10 ∷ []) (b ∙ (ap (λ z. z ++ spelled texts ps) a ∙ append_assoc old key (spelled texts ps)))
    ∙ (append_assoc old (key ++ spelled texts ps) (10 ∷ []) ∙ ap (λ z. old ++ (z ++ 10 ∷ [])) (sym (line-spaced (lexeme_of texts (a_key key)) (map (lexeme_of texts) ps)))))

-- the next item is x
module _ (texts : List (List ℕ)) (all : List Item) (i : ℕ) (x : Item) (new : List ℕ) (is : x ≡ get_or all i x) (within : i < length all) (l : AreLinesLeft texts all (drop i all) new) where
  here : drop i all ≡ x ∷ drop (i + 1) all
  here = drop_more all i x within ∙ ap (λ z. z ∷ drop (i + 1) all) (sym is)

  known : AreWritable texts (x ∷ drop (i + 1) all)
  known = subst (λ z. AreWritable texts z) here l.known

  pub line_here : Each (IsKnown (length texts)) (item_pieces x)
  line_here = known.0

  pub line_next : (next : List ℕ) → next ≡ new ++ line_of (map (lexeme_of texts) (item_pieces x)) → AreLinesLeft texts all (drop (i + 1) all) next
  line_next next e = record {
    known = known.1;
    text =
        ap (λ z. z ++ spelling texts (drop (i + 1) all)) e
        ∙ (append_assoc new (line_of (map (lexeme_of texts) (item_pieces x))) (spelling texts (drop (i + 1) all)) ∙ subst (λ z. new ++ spelling texts z ≡ spelling texts all) here l.text);
  }
