-- Two lists, and two forests, whose elements answer each other place by place.
use Rattle.std.specs.Prelude.{◌≡◌, List, [], ◌∷◌, ◌++◌, refl}
use Rattle.std.specs.List.{AllZip}
use Rattle.std.proofs.Common.{inl, inr, ap₂, sym, subst}
use Rattle.std.proofs.lemmas.Slice.Zip.{all_zipped_more}
use Rattle.gr_base.specs.Lists.{IsAmong}
use Rattle.gr_base.specs.Forests.{Forest, empty, tree, labels, AreAlike}

pub AllZip-weaker : {A B : Type 0} (R Q : A → B → Type 0) → ((x : A) (y : B) → R x y → Q x y) → (xs : List A) (ys : List B) → AllZip R xs ys → AllZip Q xs ys
AllZip-weaker R Q one [] [] h = tt
AllZip-weaker R Q one [] (y ∷ ys) h = absurd h
AllZip-weaker R Q one (x ∷ xs) [] h = absurd h
AllZip-weaker R Q one (x ∷ xs) (y ∷ ys) h = (one x y h.0, AllZip-weaker R Q one xs ys h.1)

-- where each element is answered by one at most, each list is
pub AllZip-one : {A B : Type 0} (R : A → B → Type 0) → ((x : A) (y z : B) → R x y → R x z → y ≡ z) → (xs : List A) (ys zs : List B) → AllZip R xs ys → AllZip R xs zs → ys ≡ zs
AllZip-one R one [] [] [] h k = refl
AllZip-one R one [] [] (z ∷ zs) h k = absurd k
AllZip-one R one [] (y ∷ ys) zs h k = absurd h
AllZip-one R one (x ∷ xs) [] zs h k = absurd h
AllZip-one R one (x ∷ xs) (y ∷ ys) [] h k = absurd k
AllZip-one R one (x ∷ xs) (y ∷ ys) (z ∷ zs) h k = ap₂ (λ a as'. a ∷ as') (one x y z h.0 k.0) (AllZip-one R one xs ys zs h.1 k.1)

pub AllZip-append : {A B : Type 0} (R : A → B → Type 0) (xs us : List A) (ys vs : List B) → AllZip R xs ys → AllZip R us vs → AllZip R (xs ++ us) (ys ++ vs)
AllZip-append R [] us [] vs h k = k
AllZip-append R [] us (y ∷ ys) vs h k = absurd h
AllZip-append R (x ∷ xs) us [] vs h k = absurd h
AllZip-append R (x ∷ xs) us (y ∷ ys) vs h k = (h.0, AllZip-append R xs us ys vs h.1 k)

-- a list that is empty, and one with one more
pub AllZip-none : {A B : Type 0} (R : A → B → Type 0) (ys : List B) → ys ≡ [] → AllZip R [] ys
AllZip-none R ys e = subst (AllZip R []) (sym e) tt

pub AllZip-pushed : {A B : Type 0} (R : A → B → Type 0) (xs : List A) (ys zs : List B) (x : A) (y : B) → AllZip R xs ys → R x y → zs ≡ ys ++ y ∷ [] → AllZip R (xs ++ x ∷ []) zs
AllZip-pushed R xs ys zs x y h r e = subst (AllZip R (xs ++ x ∷ [])) (sym e) (all_zipped_more R xs ys x y h r)

-- an element of the second list answers one of the first
pub AllZip-second : {A B : Type 0} (R : A → B → Type 0) (xs : List A) (ys : List B) (y : B) → AllZip R xs ys → IsAmong ys y → (x : A) × IsAmong xs x × R x y
AllZip-second R xs [] y h i = absurd i
AllZip-second R [] (z ∷ zs) y h i = absurd h
AllZip-second R (x ∷ xs) (z ∷ zs) y h (inl e) = (x, inl refl, subst (R x) (sym e) h.0)
AllZip-second R (x ∷ xs) (z ∷ zs) y h (inr i) = let r = AllZip-second R xs zs y h.1 i in (r.0, inr r.1, r.2)

-- the labels of forests that are alike
pub labels-alike : {A B : Type 0} (R : A → B → Type 0) (f : Forest A) (g : Forest B) → AreAlike R f g → AllZip R (labels f) (labels g)
labels-alike R empty empty h = tt
labels-alike R empty (tree b others rest) h = absurd h
labels-alike R (tree a kids more) empty h = absurd h
labels-alike R (tree a kids more) (tree b others rest) h =
    (h.0, AllZip-append R (labels kids) (labels more) (labels others) (labels rest) (labels-alike R kids others h.1) (labels-alike R more rest h.2))
