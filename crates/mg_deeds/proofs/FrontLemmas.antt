-- Fronts of what is to be added, where calls that may fail add it part by part.
use Rattle.std.specs.Prelude.{◌≡◌, List, [], ◌++◌, ◌+◌, ◌≤◌, length, take, Result, Ok, Err, OnErr}
use Rattle.std.proofs.Common.{refl, ap, sym, ◌∙◌, append_assoc, arith}
use Rattle.std.proofs.Math.Seq.{take-append_seam}
use Rattle.std.proofs.lemmas.List.{append-nil, length-append}
use Rattle.mg_deeds.specs.Fronts.{HasLeft, AddsFront}

-- before the first call all is left
pub all_left : {A : Type 0} (old all : List A) → HasLeft old old all all
all_left old all = record { front = []; added = sym (append-nil old); whole = refl }

-- a call added the next part
pub part_added : {A : Type 0} (old now new all left part more : List A) → HasLeft old now all left → left ≡ part ++ more → new ≡ now ++ part → HasLeft old new all more
part_added old now new all left part more has e added = record {
  front = has.front ++ part;
  added = added ∙ ap (λ z. z ++ part) has.added ∙ append_assoc old has.front part;
  whole = has.whole ∙ ap (λ z. has.front ++ z) e ∙ sym (append_assoc has.front part more);
}

-- a call added just a front of the next part
pub part_failed : {A : Type 0} (old now new all left part more : List A) → HasLeft old now all left → left ≡ part ++ more → AddsFront now new part → AddsFront old new all
part_failed old now new all left part more has e (rest, f) =
    (rest ++ more, part_added old now new all left f.front (rest ++ more) has (e ∙ ap (λ z. z ++ more) f.whole ∙ append_assoc f.front rest more) f.added)

-- nothing was added
pub none_added : {A : Type 0} (old new all : List A) → new ≡ old → AddsFront old new all
none_added old new all e = (all, record { front = []; added = e ∙ sym (append-nil old); whole = refl })

-- of two parts the first one failed, or the second one
pub first_failed : {A : Type 0} (old new a b : List A) → AddsFront old new a → AddsFront old new (a ++ b)
first_failed old new a b f = part_failed old old new (a ++ b) (a ++ b) a b (all_left old (a ++ b)) refl f

pub second_failed : {A : Type 0} (old now new a b : List A) → now ≡ old ++ a → AddsFront now new b → AddsFront old new (a ++ b)
second_failed old now new a b e f =
    let so_far : HasLeft old now (a ++ b) b = part_added old old now (a ++ b) (a ++ b) a b (all_left old (a ++ b)) refl e in
    part_failed old now new (a ++ b) b b [] so_far (sym (append-nil b)) f

pub both_added : {A : Type 0} (old now new a b : List A) → now ≡ old ++ a → new ≡ now ++ b → new ≡ old ++ (a ++ b)
both_added old now new a b e f = f ∙ ap (λ z. z ++ b) e ∙ append_assoc old a b

-- what is known where a call fails
pub err_at : {T E P : Type 0} (r : Result T E) → P → OnErr r P
err_at (Ok x) h = tt
err_at (Err e) h = h

-- a front that was added is taken back by the length of the old list
pub front_length : {A : Type 0} (old new all : List A) → AddsFront old new all → length old ≤ length new
front_length {A} old new all (left, f) = let e : length new ≡ length old + length f.front = ap (length {A = A}) f.added ∙ length-append old f.front in omega arith

pub front_taken_back : {A : Type 0} (old new all : List A) → AddsFront old new all → take (length old) new ≡ old
front_taken_back old new all (left, f) = ap (take (length old)) f.added ∙ take-append_seam old f.front
