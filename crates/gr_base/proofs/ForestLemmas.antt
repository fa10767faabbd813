-- Lemmas on forests: side by side, and alike.
use Rattle.std.specs.Prelude.{◌≡◌, suc, ◌+◌, ◌∷◌, ◌++◌, map, length, refl}
use Rattle.std.proofs.Common.{ap, ap₂, sym, ◌∙◌, arith, append_assoc, length-append}
use Rattle.std.proofs.lemmas.List.{map-append}
use Rattle.gr_base.specs.Forests.{Forest, empty, tree, IsOneTree, labels, beside, map_forest, size, AreAlike}

pub length-labels : {A : Type 0} (f : Forest A) → length (labels f) ≡ size f
length-labels empty = refl
length-labels (tree a kids more) = ap suc (length-append (labels kids) (labels more) ∙ ap₂ (λ m n. m + n) (length-labels kids) (length-labels more))

-- forests with other labels
pub labels-map : {A B : Type 0} (f : A → B) (g : Forest A) → labels (map_forest f g) ≡ map f (labels g)
labels-map f empty = refl
labels-map f (tree a kids more) = ap (λ ls. f a ∷ ls) (ap₂ (λ xs ys. xs ++ ys) (labels-map f kids) (labels-map f more) ∙ sym (map-append f (labels kids) (labels more)))

pub size-map : {A B : Type 0} (f : A → B) (g : Forest A) → size (map_forest f g) ≡ size g
size-map f empty = refl
size-map f (tree a kids more) = ap₂ (λ m n. suc (m + n)) (size-map f kids) (size-map f more)

pub one_tree-map : {A B : Type 0} (f : A → B) (g : Forest A) → IsOneTree g → IsOneTree (map_forest f g)
one_tree-map f empty one = one
one_tree-map f (tree a kids empty) one = one
one_tree-map f (tree a kids (tree b others more)) one = one

-- forests side by side
pub beside_assoc : {A : Type 0} (f g h : Forest A) → beside (beside f g) h ≡ beside f (beside g h)
beside_assoc empty g h = refl
beside_assoc (tree a kids more) g h = ap (λ z. tree a kids z) (beside_assoc more g h)

pub beside-empty : {A : Type 0} (f : Forest A) → beside f empty ≡ f
beside-empty empty = refl
beside-empty (tree a kids more) = ap (tree a kids) (beside-empty more)

pub size-beside : {A : Type 0} (f g : Forest A) → size (beside f g) ≡ size f + size g
size-beside empty g = omega arith
size-beside (tree a kids more) g = omega (arith, size-beside more g)

pub labels-beside : {A : Type 0} (f g : Forest A) → labels (beside f g) ≡ labels f ++ labels g
labels-beside empty g = refl
labels-beside (tree a kids more) g = ap (λ z. a ∷ (labels kids ++ z)) (labels-beside more g) ∙ ap (λ z. a ∷ z) (sym (append_assoc (labels kids) (labels more) (labels g)))

-- forests that are alike have as many nodes, and are both one tree
pub size-alike : {A B : Type 0} (R : A → B → Type 0) (f : Forest A) (g : Forest B) → AreAlike R f g → size f ≡ size g
size-alike R empty empty h = refl
size-alike R empty (tree b kids more) h = absurd h
size-alike R (tree a kids more) empty h = absurd h
size-alike R (tree a kids more) (tree b others rest) h = ap₂ (λ m n. suc (m + n)) (size-alike R kids others h.1) (size-alike R more rest h.2)

pub IsOneTree-alike : {A B : Type 0} (R : A → B → Type 0) (f : Forest A) (g : Forest B) → AreAlike R f g → IsOneTree f → IsOneTree g
IsOneTree-alike R empty g h one = absurd one
IsOneTree-alike R (tree a kids empty) empty h one = absurd h
IsOneTree-alike R (tree a kids empty) (tree b others empty) h one = tt
IsOneTree-alike R (tree a kids empty) (tree b others (tree c more rest)) h one = h.2
IsOneTree-alike R (tree a kids (tree c more rest)) g h one = absurd one

pub AreAlike-weaker : {A B : Type 0} (R S : A → B → Type 0) → ((a : A) (b : B) → R a b → S a b) → (f : Forest A) (g : Forest B) → AreAlike R f g → AreAlike S f g
AreAlike-weaker R S w empty empty h = tt
AreAlike-weaker R S w empty (tree b kids more) h = absurd h
AreAlike-weaker R S w (tree a kids more) empty h = absurd h
AreAlike-weaker R S w (tree a kids more) (tree b others rest) h = (w a b h.0, AreAlike-weaker R S w kids others h.1, AreAlike-weaker R S w more rest h.2)

pub AreAlike-beside : {A B : Type 0} (R : A → B → Type 0) (f : Forest A) (g : Forest B) (h : Forest A) (k : Forest B) → AreAlike R f g → AreAlike R h k → AreAlike R (beside f h) (beside g k)
AreAlike-beside R empty empty h k a b = b
AreAlike-beside R empty (tree y kids more) h k a b = absurd a
AreAlike-beside R (tree x kids more) empty h k a b = absurd a
AreAlike-beside R (tree x kids more) (tree y others rest) h k a b = (a.0, a.1, AreAlike-beside R more rest h k a.2 b)

-- two steps in one
pub AreAlike-through : {A B C : Type 0} (R : A → B → Type 0) (S : B → C → Type 0) (T : A → C → Type 0) → ((a : A) (b : B) (c : C) → R a b → S b c → T a c) →
    (f : Forest A) (g : Forest B) (h : Forest C) → AreAlike R f g → AreAlike S g h → AreAlike T f h
AreAlike-through R S T both empty empty empty a b = tt
AreAlike-through R S T both empty empty (tree z kids more) a b = absurd b
AreAlike-through R S T both empty (tree y kids more) h a b = absurd a
AreAlike-through R S T both (tree x kids more) empty h a b = absurd a
AreAlike-through R S T both (tree x kids more) (tree y others rest) empty a b = absurd b
AreAlike-through R S T both (tree x kids more) (tree y others rest) (tree z others' rest') a b =
    (both x y z a.0 b.0, AreAlike-through R S T both kids others others' a.1 b.1, AreAlike-through R S T both more rest rest' a.2 b.2)

-- what is alike with a forest is one forest, where R has one value
pub AreAlike-unique : {A B : Type 0} (R : A → B → Type 0) → ((a : A) (b c : B) → R a b → R a c → b ≡ c) → (f : Forest A) (g h : Forest B) → AreAlike R f g → AreAlike R f h → g ≡ h
AreAlike-unique R one empty empty empty a b = refl
AreAlike-unique R one empty empty (tree c kids more) a b = absurd b
AreAlike-unique R one empty (tree c kids more) h a b = absurd a
AreAlike-unique R one (tree x kids more) empty h a b = absurd a
AreAlike-unique R one (tree x kids more) (tree y others rest) empty a b = absurd b
AreAlike-unique R one (tree x kids more) (tree y others rest) (tree z others' rest') a b =
    let label : y ≡ z = one x y z a.0 b.0 in
    let inside : others ≡ others' = AreAlike-unique R one kids others others' a.1 b.1 in
    let right : rest ≡ rest' = AreAlike-unique R one more rest rest' a.2 b.2 in
    λ i. tree (label i) (inside i) (right i)
