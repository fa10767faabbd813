-- Reading step by step: what an end says, and how the table of texts and the bytes go on.
use Rattle.std.specs.Prelude.{◌≡◌, ℕ, ◌<◌, ◌≤◌, List, [], ◌∷◌, ◌++◌, length, Result, Ok, Err, OnOk}
use Rattle.std.proofs.Common.{ap, sym, subst, arith, length-append}
use Rattle.gr_base.specs.Lists.{Each}
use Rattle.gr_base.proofs.ListLemmas.{Each-append}
use Rattle.gr_symbols.specs.Numbers.{Grows, Names}
use Rattle.gr_symbols.proofs.NumberLemmas.{Grows-refl, Grows-trans, Names-within}
use Rattle.td_canon.specs.CanonicalTexts.{text_in}
use Rattle.td_canon.proofs.ValueLemmas.{text_in-names}
use Rattle.tg_reader.specs.Reading.{Later, Passes, Reads}
use Rattle.tg_reader.specs.Writable.{IsName}
use Rattle.tg_reader.specs.declared.reader.Stop.{Stop}
use Rattle.tg_reader.specs.declared.reader.Stop.TheVariants.{NoTree, Memory}

-- an end is the same whatever was to be read
pub stops : {X Y : Type 0} (e : Stop) (P : X → Type 0) (Q : Y → Type 0) → Reads {X = X} (Err e) P → Reads {X = Y} (Err e) Q
stops NoTree P Q h = absurd h
stops Memory P Q h = tt

pub passes_then : (a b c : List (List ℕ)) (x y z : List ℕ) → Passes a b x y → Passes b c y z → Passes a c x z
passes_then a b c x y z p q = record {
  grows = Grows-trans a b c p.grows q.grows;
  shorter = omega (arith, p.shorter, q.shorter);
  few = omega (arith, p.few, q.few);
}

pub later : (old new : List (List ℕ)) (P : List (List ℕ) → Type 0) → Grows old new → Later old P → Later new P
later old new P grows h = λ texts g. h texts (Grows-trans old new texts grows g)

pub now : (texts : List (List ℕ)) (P : List (List ℕ) → Type 0) → Later texts P → P texts
now texts P h = h texts (Grows-refl texts)

-- a name that has a number is known
pub known_name : (texts : List (List ℕ)) (n : ℕ) (t : List ℕ) → Names texts n t → IsName t → (n < length texts) × IsName (text_in texts n)
known_name texts n t names is = (Names-within texts n t names, subst IsName (sym (text_in-names texts n t names)) is)

pub reads_weaker : {X : Type 0} (r : Result X Stop) (P Q : X → Type 0) → ((x : X) → P x → Q x) → Reads r P → Reads r Q
reads_weaker (Ok x) P Q f h = f x h
reads_weaker (Err NoTree) P Q f h = h
reads_weaker (Err Memory) P Q f h = h

pub ate : (texts : List (List ℕ)) (front before after : List ℕ) → before ≡ front ++ after → Passes texts texts before after
ate texts front before after e =
    let shorter : length after ≤ length before = omega (arith, ap (λ (z : List ℕ). length z) e, length-append front after) in
    record { grows = Grows-refl texts; shorter = shorter; few = omega arith }

-- one more thing that is known
pub known_more : {X : Type 0} (P : X → List (List ℕ) → Type 0) (old new : List (List ℕ)) (xs ys : List X) (x : X) → Grows old new → ys ≡ xs ++ x ∷ [] → Later old (λ texts. Each (λ y. P y texts) xs) → Later new (P x) → Later new (λ texts. Each (λ y. P y texts) ys)
known_more P old new xs ys x grows e all one = λ texts g.
    subst (λ zs. Each (λ y. P y texts) zs) (sym e) (Each-append (λ y. P y texts) xs (x ∷ []) (all texts (Grows-trans old new texts grows g)) (one texts g, tt))

-- what holds anyway, and what follows from what holds where all went well
pub ok_any : {X E : Type 0} (r : Result X E) (P : Type 0) → P → OnOk r P
ok_any (Ok x) P h = h
ok_any (Err e) P h = tt

pub ok_weaker : {X E : Type 0} (r : Result X E) (P Q : Type 0) → (P → Q) → OnOk r P → OnOk r Q
ok_weaker (Ok x) P Q f h = f h
ok_weaker (Err e) P Q f h = tt
