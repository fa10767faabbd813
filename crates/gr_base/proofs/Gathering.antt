-- What is gathered of a list: f of each element, one after another.
use Rattle.std.specs.Prelude.{◌≡◌, List, [], ◌∷◌, ◌++◌, map, refl}
use Rattle.std.proofs.Common.{ap, ap₂, sym, ◌∙◌, append_assoc}
use Rattle.std.proofs.lemmas.List.{map-append}
use Rattle.gr_base.specs.Lists.{joined, gathered}

pub gathered-append : {A B : Type 0} (f : A → List B) (xs ys : List A) → gathered f (xs ++ ys) ≡ gathered f xs ++ gathered f ys
gathered-append f [] ys = refl
gathered-append f (x ∷ xs) ys = ap (λ z. f x ++ z) (gathered-append f xs ys) ∙ sym (append_assoc (f x) (gathered f xs) (gathered f ys))

-- of a mapped list, and a map of what is gathered
pub gathered-map : {A B C : Type 0} (h : A → B) (f : B → List C) (xs : List A) → gathered f (map h xs) ≡ gathered (λ x. f (h x)) xs
gathered-map h f [] = refl
gathered-map h f (x ∷ xs) = ap (λ z. f (h x) ++ z) (gathered-map h f xs)

pub map-gathered : {A B C : Type 0} (h : B → C) (f : A → List B) (xs : List A) → map h (gathered f xs) ≡ gathered (λ x. map h (f x)) xs
map-gathered h f [] = refl
map-gathered h f (x ∷ xs) = map-append h (f x) (gathered f xs) ∙ ap (λ z. map h (f x) ++ z) (map-gathered h f xs)

-- what two functions that agree at each element gather
pub gathered-same : {A B : Type 0} (f g : A → List B) → ((x : A) → f x ≡ g x) → (xs : List A) → gathered f xs ≡ gathered g xs
gathered-same f g e [] = refl
gathered-same f g e (x ∷ xs) = ap₂ (λ a b. a ++ b) (e x) (gathered-same f g e xs)

-- what is gathered of the readings is read of what is gathered
pub gathered-read : {A B C D : Type 0} (h : A → B) (f : B → List C) (g : A → List D) (r : D → C) → ((x : A) → f (h x) ≡ map r (g x)) → (xs : List A)
    → gathered f (map h xs) ≡ map r (gathered g xs)
gathered-read h f g r e xs = gathered-map h f xs ∙ gathered-same (λ x. f (h x)) (λ x. map r (g x)) e xs ∙ sym (map-gathered r g xs)

-- lists of f of each element, one after another
pub joined-map : {A B : Type 0} (f : A → List B) (xs : List A) → joined (map f xs) ≡ gathered f xs
joined-map f [] = refl
joined-map f (x ∷ xs) = ap (λ z. f x ++ z) (joined-map f xs)

pub joined-twice : {A B : Type 0} (f : A → List B) (xss : List (List A)) → joined (map joined (map (map f) xss)) ≡ gathered (gathered f) xss
joined-twice f [] = refl
joined-twice f (xs ∷ xss) = ap (λ z. z ++ joined (map joined (map (map f) xss))) (joined-map f xs) ∙ ap (λ z. gathered f xs ++ z) (joined-twice f xss)
