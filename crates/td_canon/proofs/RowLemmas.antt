-- Texts between two texts, written one by one.
use Rattle.std.specs.Prelude.{◌≡◌, ℕ, ◌+◌, ◌<◌, List, [], ◌∷◌, ◌++◌, map, take, length, refl}
use Rattle.std.specs.List.{join_with_byte}
use Rattle.std.proofs.Common.{ap, sym, ◌∙◌, append_assoc, add-one, get_or}
use Rattle.std.proofs.Math.Seq.{take-suc}
use Rattle.std.proofs.lemmas.List.{map-append}
use Rattle.gr_base.proofs.ListLemmas.{join-push}
use Rattle.gr_terms.specs.Networks.{Term}
use Rattle.gr_terms.specs.Canonical.{Label}
use Rattle.td_canon.specs.TreeText.{enclosed}
use Rattle.td_canon.specs.Writing.{Written, Writes}
use Rattle.td_canon.proofs.WritesLemmas.{Writes-then, Writes-as}

-- the texts so far, behind the text before them
abbrev pub opened : List ℕ → ℕ → List (List ℕ) → List ℕ
opened before between [] = []
opened before between (x ∷ xs) = before ++ join_with_byte between (x ∷ xs)

-- what stands before the next one
abbrev pub separator_behind : {X : Type 0} → List ℕ → ℕ → List X → List ℕ
separator_behind before between [] = before
separator_behind before between (x ∷ xs) = between ∷ []

-- one more text
pub opened-push : (before : List ℕ) (between : ℕ) (xs : List (List ℕ)) (y : List ℕ) → opened before between (xs ++ y ∷ []) ≡ opened before between xs ++ (separator_behind before between xs ++ y)
opened-push before between [] y = refl
opened-push before between (x ∷ xs) y = ap (λ t. before ++ t) (join-push between x xs y) ∙ sym (append_assoc before (join_with_byte between (x ∷ xs)) (between ∷ y))

separator_behind-map : {X Y : Type 0} (before : List ℕ) (between : ℕ) (f : X → Y) (xs : List X) → separator_behind before between (map f xs) ≡ separator_behind before between xs
separator_behind-map before between f [] = refl
separator_behind-map before between f (x ∷ xs) = refl

pub separator_behind-push : {X : Type 0} (before : List ℕ) (between : ℕ) (xs : List X) (y : X) → separator_behind before between (xs ++ y ∷ []) ≡ between ∷ []
separator_behind-push before between [] y = refl
separator_behind-push before between (x ∷ xs) y = refl

-- one more item written behind the separator
pub writes_next : {X : Type 0} (before : List ℕ) (between : ℕ) (text : (Term ℕ → Label) → X → List ℕ) (xs : List X) (x : X) (old mid new : Written) (ts us : List (Term ℕ)) (separator : List ℕ) →
    separator ≡ separator_behind before between xs →
    Writes old mid ts (λ label. opened before between (map (text label) xs)) →
    Writes mid new us (λ label. separator ++ text label x) →
    Writes old new (ts ++ us) (λ label. opened before between (map (text label) (xs ++ x ∷ [])))
writes_next before between text xs x old mid new ts us separator separator_is first second =
    Writes-as old new (ts ++ us) (ts ++ us) (λ label. opened before between (map (text label) xs) ++ (separator ++ text label x)) (λ label. opened before between (map (text label) (xs ++ x ∷ []))) refl
    (λ label.
    ap (λ s. opened before between (map (text label) xs) ++ (s ++ text label x)) (separator_is ∙ sym (separator_behind-map before between (text label) xs))
    ∙ sym (opened-push before between (map (text label) xs) (text label x))
    ∙ ap (opened before between) (sym (map-append (text label) xs (x ∷ []))))
    (Writes-then old mid new ts us (λ label. opened before between (map (text label) xs)) (λ label. separator ++ text label x) first second)

-- behind the last one
pub writes_end : {X : Type 0} (before after : List ℕ) (between : ℕ) (text : (Term ℕ → Label) → X → List ℕ) (x : X) (xs : List X) (old mid new : Written) (ts : List (Term ℕ)) →
    Writes old mid ts (λ label. opened before between (map (text label) (x ∷ xs))) → Writes mid new [] (λ label. after) →
    Writes old new ts (λ label. enclosed before between after (map (text label) (x ∷ xs)))
writes_end before after between text x xs old mid new ts first second =
    Writes-as old new (ts ++ []) ts (λ label. (before ++ join_with_byte between (map (text label) (x ∷ xs))) ++ after) (λ label. enclosed before between after (map (text label) (x ∷ xs))) (behind ts) (λ label. refl)
    (Writes-then old mid new ts [] (λ label. opened before between (map (text label) (x ∷ xs))) (λ label. after) first second)
  where
    behind : (ts : List (Term ℕ)) → ts ++ [] ≡ ts
    behind [] = refl
    behind (t ∷ ts) = ap (λ us. t ∷ us) (behind ts)

-- the items before the next place
pub take-next : {X : Type 0} (xs : List X) (i : ℕ) (d : X) → i < length xs → take (i + 1) xs ≡ take i xs ++ get_or xs i d ∷ []
take-next xs i d within = ap (λ n. take n xs) (add-one i) ∙ take-suc xs i d within

pub separator_behind-next : {X : Type 0} (before : List ℕ) (between : ℕ) (xs : List X) (i : ℕ) (d : X) → i < length xs → separator_behind before between (take (i + 1) xs) ≡ between ∷ []
separator_behind-next before between xs i d within = ap (separator_behind before between) (take-next xs i d within) ∙ separator_behind-push before between (take i xs) (get_or xs i d)
