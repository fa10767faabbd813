-- Loops that write the pieces of a list.
use Rattle.std.specs.Prelude.{◌≡◌, ℕ, ◌+◌, ◌<◌, List, [], ◌∷◌, ◌++◌, length, drop, get_or, refl}
use Rattle.std.proofs.Common.{sym, ap, ◌∙◌, subst, append_assoc}
use Rattle.std.proofs.lemmas.List.{drop_more}
use Rattle.gr_base.specs.Lists.{Each, gathered}
use Rattle.gr_base.proofs.ListLemmas.{Each-left, Each-right}
use Rattle.gr_texts.specs.Lexemes.{spelling}
use Rattle.mg_printer.specs.Pieces.{Piece, IsKnown, lexeme_of, separated}
use Rattle.mg_printer.specs.Printing.{spelled}
use Rattle.mg_printer.specs.Writing.{IsLeft}

-- what pieces add, one after another
pub spelled-append : (texts : List (List ℕ)) (ps qs : List Piece) → spelled texts (ps ++ qs) ≡ spelled texts ps ++ spelled texts qs
spelled-append texts [] qs = refl
spelled-append texts (p ∷ ps) qs =
    ap (λ z. (32 ∷ spelling (lexeme_of texts p)) ++ z) (spelled-append texts ps qs) ∙ sym (append_assoc (32 ∷ spelling (lexeme_of texts p)) (spelled texts ps) (spelled texts qs))

pub then : (texts : List (List ℕ)) (ps qs : List Piece) (old mid new : List ℕ) → mid ≡ old ++ spelled texts ps → new ≡ mid ++ spelled texts qs → new ≡ old ++ spelled texts (ps ++ qs)
then texts ps qs old mid new a b =
    b ∙ (ap (λ z. z ++ spelled texts qs) a ∙ (append_assoc old (spelled texts ps) (spelled texts qs) ∙ ap (λ z. old ++ z) (sym (spelled-append texts ps qs))))

-- the next one of the list is x
module _ {A : Type 0} (texts : List (List ℕ)) (f : A → List Piece) (all : List A) (i : ℕ) (x : A) (old new : List ℕ) (is : x ≡ get_or all i x) (within : i < length all) (l : IsLeft texts f all (drop i all) old new) where
  here : gathered f (drop i all) ≡ f x ++ gathered f (drop (i + 1) all)
  here = ap (λ z. gathered f z) (drop_more all i x within) ∙ ap (λ z. f z ++ gathered f (drop (i + 1) all)) (sym is)

  known : Each (IsKnown (length texts)) (f x ++ gathered f (drop (i + 1) all))
  known = subst (λ z. Each (IsKnown (length texts)) z) here l.known

  pub left_here : Each (IsKnown (length texts)) (f x)
  left_here = Each-left (IsKnown (length texts)) (f x) (gathered f (drop (i + 1) all)) known

  pub left_next : (next : List ℕ) → next ≡ new ++ spelled texts (f x) → IsLeft texts f all (drop (i + 1) all) old next
  left_next next e = record {
    known = Each-right (IsKnown (length texts)) (f x) (gathered f (drop (i + 1) all)) known;
    text =
        ap (λ z. z ++ spelled texts (gathered f (drop (i + 1) all))) e
        ∙ (append_assoc new (spelled texts (f x)) (spelled texts (gathered f (drop (i + 1) all)))
        ∙ (ap (λ z. new ++ z) (sym (ap (spelled texts) here ∙ spelled-append texts (f x) (gathered f (drop (i + 1) all)))) ∙ l.text));
  }

-- of a list that is written with a piece between each two, those behind the first one are left
module _ {A : Type 0} (texts : List (List ℕ)) (between : Piece) (f : A → List Piece) (all : List A) (x : A) (xs : List A) (is : all ≡ x ∷ xs) (h : Each (IsKnown (length texts)) (separated between f all)) where
  both : Each (IsKnown (length texts)) (f x ++ gathered (λ y. between ∷ f y) xs)
  both = subst (λ z. Each (IsKnown (length texts)) (separated between f z)) is h

  pub first_known : Each (IsKnown (length texts)) (f x)
  first_known = Each-left (IsKnown (length texts)) (f x) (gathered (λ y. between ∷ f y) xs) both

  pub others_left : (old : List ℕ) → IsLeft texts (λ y. between ∷ f y) xs xs old old
  others_left old = record { known = Each-right (IsKnown (length texts)) (f x) (gathered (λ y. between ∷ f y) xs) both; text = refl }
