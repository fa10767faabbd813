-- Lists in brackets, written part by part.
use Rattle.std.specs.Prelude.{◌≡◌, ℕ, List, [], ◌∷◌, ◌++◌, Bool, true, false, cond, ◌||◌, Option, Some, None, codes, refl}
use Rattle.std.proofs.Common.{sym, ap, ◌∙◌, subst, append_assoc}
use Rattle.std.proofs.lemmas.List.{append-nil}
use Rattle.gr_base.specs.Lists.{Each, gathered}
use Rattle.gr_base.proofs.ListLemmas.{Each-left, Each-right}
use Rattle.mg_printer.specs.Pieces.{Piece, a_sign, enclosed}
use Rattle.mg_printer.specs.Lists.{has_some, begun_parts}
use Rattle.mg_printer.specs.Printing.{spelled}
use Rattle.mg_syntax.specs.declared.block.Paint.{Paint}
use Rattle.mg_printer.specs.Blocks.{colour_parts}
use Rattle.mg_printer.proofs.Loops.{spelled-append}

-- the parts of two lists, one after the other
pub begun_parts-append : (b : Bool) (before : List ℕ) (xs ys : List (List Piece)) → begun_parts b before (xs ++ ys) ≡ begun_parts b before xs ++ begun_parts (b || has_some xs) before ys
begun_parts-append true before [] ys = refl
begun_parts-append false before [] ys = refl
begun_parts-append b before (x ∷ xs) ys =
    ap (λ z. (a_sign (cond b (codes ",") before) ∷ x) ++ z) (begun_parts-append true before xs ys ∙ ap (λ c. begun_parts true before xs ++ begun_parts c before ys) (same b))
    ∙ sym (append_assoc (a_sign (cond b (codes ",") before) ∷ x) (begun_parts true before xs) (begun_parts (b || true) before ys))
  where
    same : (b : Bool) → true ≡ (b || true)
    same true = refl
    same false = refl

pub has_some-append : {A : Type 0} (b : Bool) (xs ys : List A) → (b || has_some (xs ++ ys)) ≡ ((b || has_some xs) || has_some ys)
has_some-append true xs ys = refl
has_some-append false [] ys = refl
has_some-append false (x ∷ xs) ys = refl

-- behind the first one, each part has a comma before it
begun-gathered : (before : List ℕ) (xs : List (List Piece)) → begun_parts true before xs ≡ gathered (λ p. a_sign (codes ",") ∷ p) xs
begun-gathered before [] = refl
begun-gathered before (x ∷ xs) = ap (λ z. (a_sign (codes ",") ∷ x) ++ z) (begun-gathered before xs)

-- a list in brackets is its parts and then the closing bracket where there is a part
pub enclosed-parts : (before after : List ℕ) (xs : List (List Piece)) → enclosed before xs after ≡ begun_parts false before xs ++ cond (has_some xs) (a_sign after ∷ []) []
enclosed-parts before after [] = refl
enclosed-parts before after (x ∷ xs) = ap (λ z. (a_sign before ∷ x ++ z) ++ a_sign after ∷ []) (sym (begun-gathered before xs))

begun-known : (P : Piece → Type 0) (b : Bool) (before : List ℕ) (xs : List (List Piece)) → Each P (begun_parts b before xs) → Each (Each P) xs
begun-known P b before [] h = tt
begun-known P b before (x ∷ xs) h = (Each-left P x (begun_parts true before xs) h.1, begun-known P true before xs (Each-right P x (begun_parts true before xs) h.1))

pub enclosed-known : (P : Piece → Type 0) (before after : List ℕ) (xs : List (List Piece)) → Each P (enclosed before xs after) → Each (Each P) xs
enclosed-known P before after xs h =
    begun-known P false before xs (Each-left P (begun_parts false before xs) (cond (has_some xs) (a_sign after ∷ []) []) (subst (λ z. Each P z) (enclosed-parts before after xs) h))

-- the new text is the old one and the parts of a list in brackets that was begun by them, and it is begun where there is one
pub record AreWritten (texts : List (List ℕ)) (before : List ℕ) (old : List ℕ) (xs : List (List Piece)) (begun : Bool) (new : List ℕ) : Type 0 where
  pub text : new ≡ old ++ spelled texts (begun_parts false before xs)
  pub some : begun ≡ has_some xs

pub none_written : (texts : List (List ℕ)) (before old : List ℕ) → AreWritten texts before old [] false old
none_written texts before old = record { text = sym (append-nil old); some = refl }

pub more_written : (texts : List (List ℕ)) (before old : List ℕ) (xs ys : List (List Piece)) (b c : Bool) (new next : List ℕ) → AreWritten texts before old xs b new
    → next ≡ new ++ spelled texts (begun_parts b before ys) → c ≡ (b || has_some ys) → AreWritten texts before old (xs ++ ys) c next
more_written texts before old xs ys b c new next w e s = record {
  text =
      e
      ∙ (ap (λ z. z ++ spelled texts (begun_parts b before ys)) w.text
      ∙ (append_assoc old (spelled texts (begun_parts false before xs)) (spelled texts (begun_parts b before ys))
      ∙ ap (λ z. old ++ z) (ap (λ v. spelled texts (begun_parts false before xs) ++ spelled texts (begun_parts v before ys)) w.some
      ∙ sym (ap (spelled texts) (begun_parts-append false before xs ys) ∙ spelled-append texts (begun_parts false before xs) (begun_parts (has_some xs) before ys)))));
  some = s ∙ (ap (λ v. v || has_some ys) w.some ∙ sym (has_some-append false xs ys));
}

pub all_written : (texts : List (List ℕ)) (before after old : List ℕ) (xs : List (List Piece)) (b : Bool) (new next : List ℕ) → AreWritten texts before old xs b new
    → next ≡ new ++ spelled texts (cond b (a_sign after ∷ []) []) → next ≡ old ++ spelled texts (enclosed before xs after)
all_written texts before after old xs b new next w e =
    e
    ∙ (ap (λ z. z ++ spelled texts (cond b (a_sign after ∷ []) [])) w.text
    ∙ (append_assoc old (spelled texts (begun_parts false before xs)) (spelled texts (cond b (a_sign after ∷ []) []))
    ∙ ap (λ z. old ++ z) (ap (λ v. spelled texts (begun_parts false before xs) ++ spelled texts (cond v (a_sign after ∷ []) [])) w.some
    ∙ sym (ap (spelled texts) (enclosed-parts before after xs) ∙ spelled-append texts (begun_parts false before xs) (cond (has_some xs) (a_sign after ∷ []) [])))))

-- what has no name is written alike whatever the texts of names are
pub same_colour : (texts : List (List ℕ)) (b : Bool) (paint : Option Paint) → spelled [] (begun_parts b (codes "(") (colour_parts paint)) ≡ spelled texts (begun_parts b (codes "(") (colour_parts paint))
same_colour texts b None = refl
same_colour texts b (Some p) = refl

pub same_closing : (texts : List (List ℕ)) (b : Bool) (after : List ℕ) → spelled [] (cond b (a_sign after ∷ []) []) ≡ spelled texts (cond b (a_sign after ∷ []) [])
same_closing texts true after = refl
same_closing texts false after = refl
