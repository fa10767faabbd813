-- What appending parts does, one part after another.
use Rattle.std.proofs.Common.{◌≡◌, ◌∙◌, refl, sym, ap, subst, arith, ℕ, zero, suc, ◌+◌, ◌-◌, ◌<◌, ◌≤◌, List, [], ◌∷◌, ◌++◌, map, take, drop, length, get_or}
use Rattle.std.specs.Prelude.{Result, Ok, Err, OnOk}
use Rattle.std.specs.List.{AllZip}
use Rattle.std.proofs.lemmas.List.{append-nil, append_assoc, take_all}
use Rattle.gr_base.specs.Lists.{Each, gathered}
use Rattle.gr_base.specs.declared.Memory.{Memory}
use Rattle.gr_terms.specs.declared.Sym.{Sym}
use Rattle.rl_refusals.specs.Lines.{Part, IsPartText, HasPartText, name_part}
use Rattle.rl_refusals.specs.Parts.{Says, part_of}
use Rattle.rl_refusals.specs.declared.line.Part as code

-- a space and the text of a part
pub says_one : (texts : List (List ℕ)) (p : Part) (bytes old mid new : List ℕ) → IsPartText texts p bytes → mid ≡ old ++ 32 ∷ [] → new ≡ mid ++ bytes → Says texts (p ∷ []) old new
says_one texts p bytes old mid new is e f =
    (32 ∷ bytes ++ [], (bytes ∷ [], (is, tt), refl), f ∙ ap (λ m. m ++ bytes) e ∙ append_assoc old (32 ∷ []) bytes ∙ ap (λ b. old ++ 32 ∷ b) (sym (append-nil bytes)))

pub says_none : (texts : List (List ℕ)) (old : List ℕ) → Says texts [] old old
says_none texts old = ([], ([], tt, refl), sym (append-nil old))

both_zip : (texts : List (List ℕ)) (ps qs : List Part) (ts us : List (List ℕ)) → AllZip (IsPartText texts) ps ts → AllZip (IsPartText texts) qs us → AllZip (IsPartText texts) (ps ++ qs) (ts ++ us)
both_zip texts [] qs [] us a b = b
both_zip texts [] qs (t ∷ ts) us a b = elim a [ ]
both_zip texts (p ∷ ps) qs [] us a b = elim a [ ]
both_zip texts (p ∷ ps) qs (t ∷ ts) us (h, a) b = (h, both_zip texts ps qs ts us a b)

gathered_both : {A : Type 0} (f : A → List ℕ) (xs ys : List A) → gathered f (xs ++ ys) ≡ gathered f xs ++ gathered f ys
gathered_both f [] ys = refl
gathered_both f (x ∷ xs) ys = ap (λ b. f x ++ b) (gathered_both f xs ys) ∙ sym (append_assoc (f x) (gathered f xs) (gathered f ys))

-- parts behind parts
pub says_both : (texts : List (List ℕ)) (ps qs : List Part) (old mid new : List ℕ) → Says texts ps old mid → Says texts qs mid new → Says texts (ps ++ qs) old new
says_both texts ps qs old mid new (bytes, (ts, all, is), e) (more, (us, every, is'), f) = (
  bytes ++ more,
  (ts ++ us, both_zip texts ps qs ts us all every, ap (λ b. b ++ more) is ∙ ap (λ b. gathered (λ t. 32 ∷ t) ts ++ b) is' ∙ sym (gathered_both (λ t. 32 ∷ t) ts us)),
  f ∙ ap (λ m. m ++ more) e ∙ append_assoc old bytes more,
)

names_next : (k : ℕ) (xs : List Sym) (x : Sym) → k < length xs → x ≡ get_or xs k x → map name_part (take (suc k) xs) ≡ map name_part (take k xs) ++ name_part x ∷ []
names_next k [] x h e = absurd (omega (arith, h))
names_next zero (y ∷ xs) x h e = ap (λ z. name_part z ∷ []) (sym e)
names_next (suc k) (y ∷ xs) x h e = ap (λ ps. name_part y ∷ ps) (names_next k xs x (omega (arith, h)) e)

names_more : (k : ℕ) (xs : List Sym) (x : Sym) → k < length xs → x ≡ get_or xs k x → map name_part (take (k + 1) xs) ≡ map name_part (take k xs) ++ name_part x ∷ []
names_more k xs x h e = let up : k + 1 ≡ suc k = omega arith in ap (λ n. map name_part (take n xs)) up ∙ names_next k xs x h e

-- names, one more at a time
pub says_more : (texts : List (List ℕ)) (k : ℕ) (xs : List Sym) (x : Sym) (old mid new : List ℕ) → k < length xs → x ≡ get_or xs k x
    → Says texts (map name_part (take k xs)) old mid → Says texts (name_part x ∷ []) mid new → Says texts (map name_part (take (k + 1) xs)) old new
says_more texts k xs x old mid new h e a b =
    subst (λ ps. Says texts ps old new) (sym (names_more k xs x h e)) (says_both texts (map name_part (take k xs)) (name_part x ∷ []) old mid new a b)

pub all_names : (texts : List (List ℕ)) (k : ℕ) (xs : List Sym) (old new : List ℕ) → length xs ≤ k → Says texts (map name_part (take k xs)) old new → Says texts (map name_part xs) old new
all_names texts k xs old new h says = subst (λ ys. Says texts (map name_part ys) old new) (take_all k xs h) says

-- the name at a place has a text
pub name_at : (texts : List (List ℕ)) (k : ℕ) (xs : List Sym) (x : Sym) → k < length xs → x ≡ get_or xs k x → Each (HasPartText texts) (map name_part xs) → x.0 < length texts
name_at texts k [] x h e each = absurd (omega (arith, h))
name_at texts zero (y ∷ xs) x h e each = subst (λ z. z.0 < length texts) (sym e) each.0
name_at texts (suc k) (y ∷ xs) x h e each = name_at texts k xs x (omega (arith, h)) e each.1

-- the list of parts without its first
pub says_first : (texts : List (List ℕ)) (xs : List code.Part) (x : code.Part) (rest : List code.Part) (old mid new : List ℕ) → xs ≡ x ∷ rest
    → Says texts (part_of x ∷ []) old mid → Says texts (map part_of rest) mid new → Says texts (map part_of xs) old new
says_first texts xs x rest old mid new e a b = subst (λ ys. Says texts (map part_of ys) old new) (sym e) (says_both texts (part_of x ∷ []) (map part_of rest) old mid new a b)

pub part_left : (xs : List code.Part) (x : code.Part) → 1 ≤ length xs → x ≡ get_or xs 0 x → xs ≡ x ∷ take (length xs - 1) (drop 1 xs)
part_left [] x h e = absurd (omega (arith, h))
part_left (y ∷ xs) x h e = λ i. sym e i ∷ sym (take_all (length (y ∷ xs) - 1) xs (omega arith)) i

pub each_part : (texts : List (List ℕ)) (xs : List code.Part) (x : code.Part) (rest : List code.Part) → xs ≡ x ∷ rest → Each (HasPartText texts) (map part_of xs) → HasPartText texts (part_of x) × Each (HasPartText texts) (map part_of rest)
each_part texts xs x rest e each = subst (λ ys. Each (HasPartText texts) (map part_of ys)) e each

pub no_part : (texts : List (List ℕ)) (xs : List code.Part) (old : List ℕ) → length xs < 1 → Says texts (map part_of xs) old old
no_part texts [] old h = says_none texts old
no_part texts (x ∷ xs) old h = absurd (omega (arith, h))

-- what holds where a call went well
pub on_ok : {A B : Type 0} (r : Result Unit Memory) → (A → B) → OnOk r A → OnOk r B
on_ok (Ok x) f a = f a
on_ok (Err e) f a = tt

other_default : {A : Type 0} (xs : List A) (k : ℕ) (d e : A) → k < length xs → get_or xs k d ≡ get_or xs k e
other_default [] k d e h = absurd (omega (arith, h))
other_default (y ∷ xs) zero d e h = refl
other_default (y ∷ xs) (suc k) d e h = other_default xs k d e (omega (arith, h))

same_read : {A : Type 0} (xs : List A) (k : ℕ) (d : A) → k < length xs → get_or xs k d ≡ get_or xs k (get_or xs k d)
same_read xs k d h = other_default xs k d (get_or xs k d) h

-- names and parts as the code reads them from a slice
pub read_name_at : (texts : List (List ℕ)) (k : ℕ) (xs : List Sym) (d : Sym) → k < length xs → Each (HasPartText texts) (map name_part xs) → (get_or xs k d).0 < length texts
read_name_at texts k xs d h each = name_at texts k xs (get_or xs k d) h (same_read xs k d h) each

pub says_more_read : (texts : List (List ℕ)) (k : ℕ) (xs : List Sym) (d : Sym) (old mid new : List ℕ) → k < length xs
    → Says texts (map name_part (take k xs)) old mid → Says texts (name_part (get_or xs k d) ∷ []) mid new → Says texts (map name_part (take (k + 1) xs)) old new
says_more_read texts k xs d old mid new h a b = says_more texts k xs (get_or xs k d) old mid new h (same_read xs k d h) a b

pub says_first_read : (texts : List (List ℕ)) (xs : List code.Part) (d : code.Part) (old mid new : List ℕ) → 1 ≤ length xs
    → Says texts (part_of (get_or xs 0 d) ∷ []) old mid → Says texts (map part_of (take (length xs - 1) (drop 1 xs))) mid new → Says texts (map part_of xs) old new
says_first_read texts xs d old mid new h a b =
    says_first texts xs (get_or xs 0 d) (take (length xs - 1) (drop 1 xs)) old mid new (part_left xs (get_or xs 0 d) h (same_read xs 0 d (omega (arith, h)))) a b
