-- A list that grows by what f gives of each element of another list, one after another.
use Rattle.std.specs.Prelude.{◌≡◌, ℕ, zero, suc, ◌+◌, ◌<◌, ◌≤◌, List, [], ◌∷◌, ◌++◌, length, take, get_or}
use Rattle.std.proofs.Common.{ap, sym, ◌∙◌, subst, arith, append_assoc}
use Rattle.std.proofs.lemmas.List.{append-nil, take_all}
use Rattle.gr_base.specs.Lists.{gathered}

pub gathered-more : {A B : Type 0} (f : A → List B) (xs : List A) (i : ℕ) (d : A) → i < length xs → gathered f (take (suc i) xs) ≡ gathered f (take i xs) ++ f (get_or xs i d)
gathered-more f [] i d within = absurd (omega arith)
gathered-more f (x ∷ xs) zero d within = append-nil (f x)
gathered-more f (x ∷ xs) (suc i) d within = ap (λ z. f x ++ z) (gathered-more f xs i d (omega arith)) ∙ sym (append_assoc (f x) (gathered f (take i xs)) (f (get_or xs i d)))

-- one step of a loop that appends f of each element
pub grown : {A B : Type 0} (f : A → List B) (xs : List A) (i : ℕ) (d : A) (old now new : List B) → i < length xs → now ≡ old ++ gathered f (take i xs) → new ≡ now ++ f (get_or xs i d)
    → new ≡ old ++ gathered f (take (i + 1) xs)
grown f xs i d old now new within so_far more =
    let one : i + 1 ≡ suc i = omega arith in
    more ∙ ap (λ z. z ++ f (get_or xs i d)) so_far ∙ append_assoc old (gathered f (take i xs)) (f (get_or xs i d))
    ∙ ap (λ z. old ++ z) (sym (gathered-more f xs i d within) ∙ ap (λ k. gathered f (take k xs)) (sym one))

-- and its end
pub grown_all : {A B : Type 0} (f : A → List B) (xs ys : List A) (i : ℕ) (old now : List B) → length xs ≤ i → now ≡ old ++ gathered f (take i xs) → xs ≡ ys → now ≡ old ++ gathered f ys
grown_all f xs ys i old now all so_far e = so_far ∙ ap (λ z. old ++ gathered f z) (take_all i xs all ∙ e)

-- the same, where x is the element
pub grown_item : {A B : Type 0} (f : A → List B) (xs : List A) (i : ℕ) (x : A) (old now new : List B) → i < length xs → x ≡ get_or xs i x → now ≡ old ++ gathered f (take i xs) → new ≡ now ++ f x
    → new ≡ old ++ gathered f (take (i + 1) xs)
grown_item f xs i x old now new within is so_far more = grown f xs i x old now new within so_far (more ∙ ap (λ z. now ++ f z) is)
