-- A bag that is put into a store pair by pair.
use Rattle.std.proofs.Common.{◌≡◌, ℕ, ◌+◌, ◌-◌, ◌≤◌, List, [], ◌∷◌, ◌++◌, length, take, drop, Some, slice_get, sym, ◌∙◌, ap, subst, append_assoc, arith}
use Rattle.std.proofs.lemmas.List.{append-nil, map-append, length-append, take-append-drop}
use Rattle.gr_base.specs.Lists.{Each}
use Rattle.gr_base.proofs.ListLemmas.{IsAmong-append_left, take-one_more}
use Rattle.gr_terms.specs.declared.Sym.{Sym}
use Rattle.gr_terms.specs.declared.Term.{Term}
use Rattle.gr_terms.specs.declared.Term.TheVariants.{Const, Var}
use Rattle.gr_terms.specs.declared.SlotId.{SlotId}
use Rattle.gr_terms.specs.declared.Assertion.TheVariants.{Entry}
use Rattle.gr_terms.specs.Networks.{Agrees}
use Rattle.gr_terms.specs.Views.{network_of}
use Rattle.gr_terms.proofs.ViewLemmas.{network_of-append}
use Rattle.gr_terms.proofs.NetworkLemmas.{Agrees-part}
use Rattle.gr_store.specs.Contents.{Contents, Grows, IsMade, accepting}
use Rattle.gr_store.proofs.Growth.{Grows-refl, Grows-trans}
use Rattle.gr_feats.specs.Loading.{counted_from, entries_of, with_entries}

-- the store now is the old one with the entries of these pairs more, and agrees
pub record IsLoaded (old : Contents) (slot : SlotId) (first : ℕ) (pairs : List (Sym × Term)) (now : Contents) : Type 0 where
  pub is : now ≡ with_entries old slot first pairs
  pub agrees : Agrees (network_of now.accepted)
  pub grows : Grows old now

-- no pair, no change
pub with_entries-none : (c : Contents) (slot : SlotId) (first : ℕ) → with_entries c slot first [] ≡ c
with_entries-none c slot first =
    let entries : c.spare.entries - length {A = Sym × Term} [] ≡ c.spare.entries = omega arith in
    let assertions : c.spare.assertions - length {A = Sym × Term} [] ≡ c.spare.assertions = omega arith in
    λ i. record c {
      accepted = append-nil c.accepted i;
      spare = record c.spare { entries = entries i; assertions = assertions i };
    }

pub with_entries-more : (c : Contents) (slot : SlotId) (first : ℕ) (pairs : List (Sym × Term)) (pair : Sym × Term)
    → accepting (with_entries c slot first pairs) (Entry slot pair.0 (counted_from first pair.1)) ≡ with_entries c slot first (pairs ++ pair ∷ [])
with_entries-more c slot first pairs pair =
    let list : (c.accepted ++ entries_of slot first pairs) ++ Entry slot pair.0 (counted_from first pair.1) ∷ [] ≡ c.accepted ++ entries_of slot first (pairs ++ pair ∷ []) =
    append_assoc c.accepted (entries_of slot first pairs) (Entry slot pair.0 (counted_from first pair.1) ∷ [])
    ∙ ap (λ more. c.accepted ++ more) (sym (map-append (λ p. Entry slot p.0 (counted_from first p.1)) pairs (pair ∷ []))) in
    let more : length (pairs ++ pair ∷ []) ≡ length pairs + 1 = length-append pairs (pair ∷ []) in
    let entries : c.spare.entries - length pairs - 1 ≡ c.spare.entries - length (pairs ++ pair ∷ []) = omega (arith, more) in
    let assertions : c.spare.assertions - length pairs - 1 ≡ c.spare.assertions - length (pairs ++ pair ∷ []) = omega (arith, more) in
    λ i. record c {
      accepted = list i;
      spare = record c.spare { entries = entries i; assertions = assertions i };
    }

-- at first, and after one pair more
pub IsLoaded-none : (c : Contents) (slot : SlotId) (first : ℕ) → Agrees (network_of c.accepted) → IsLoaded c slot first [] c
IsLoaded-none c slot first agrees = record { is = sym (with_entries-none c slot first); agrees = agrees; grows = Grows-refl c }

pub IsLoaded-more : (old now new : Contents) (slot : SlotId) (first : ℕ) (pairs : List (Sym × Term)) (place : ℕ) (pair : Sym × Term)
    → slice_get pairs place ≡ Some pair → IsLoaded old slot first (take place pairs) now
    → new ≡ accepting now (Entry slot pair.0 (counted_from first pair.1)) → Grows now new
    → Agrees (network_of (now.accepted ++ Entry slot pair.0 (counted_from first pair.1) ∷ [])) → IsLoaded old slot first (take (place + 1) pairs) new
IsLoaded-more old now new slot first pairs place pair at loaded is grows agrees = record {
  is = is ∙ ap (λ c. accepting c (Entry slot pair.0 (counted_from first pair.1))) loaded.is
      ∙ with_entries-more old slot first (take place pairs) pair ∙ ap (with_entries old slot first) (sym (take-one_more pairs place pair at));
  agrees = subst (λ c. Agrees (network_of c.accepted)) (sym is) agrees;
  grows = Grows-trans old now new loaded.grows grows;
}

-- the entries of some pairs are among those of all
pub entries_within : (old now : Contents) (slot : SlotId) (first : ℕ) (pairs : List (Sym × Term)) (place : ℕ) (pair : Sym × Term)
    → slice_get pairs place ≡ Some pair → now ≡ with_entries old slot first (take place pairs)
    → Agrees (network_of (old.accepted ++ entries_of slot first pairs)) → Agrees (network_of (now.accepted ++ Entry slot pair.0 (counted_from first pair.1) ∷ []))
entries_within old now slot first pairs place pair at is agrees =
    let upto = old.accepted ++ entries_of slot first (take (place + 1) pairs) in
    let rest = entries_of slot first (drop (place + 1) pairs) in
    let parts : upto ++ rest ≡ old.accepted ++ entries_of slot first pairs =
    append_assoc old.accepted (entries_of slot first (take (place + 1) pairs)) rest
    ∙ ap (λ more. old.accepted ++ more) (sym (map-append (λ p. Entry slot p.0 (counted_from first p.1)) (take (place + 1) pairs) (drop (place + 1) pairs)) ∙ ap (entries_of slot first) (take-append-drop (place + 1) pairs)) in
    let split : network_of upto ++ network_of rest ≡ network_of (old.accepted ++ entries_of slot first pairs) = sym (network_of-append upto rest) ∙ ap network_of parts in
    let here : Agrees (network_of upto) = Agrees-part (network_of upto) (network_of upto ++ network_of rest) (λ x i. IsAmong-append_left (network_of upto) (network_of rest) x i) (subst (λ N. Agrees N) (sym split) agrees) in
    let same : now.accepted ++ Entry slot pair.0 (counted_from first pair.1) ∷ [] ≡ upto =
    ap (λ c. c.accepted ++ Entry slot pair.0 (counted_from first pair.1) ∷ []) is
    ∙ ap (λ c. c.accepted) (with_entries-more old slot first (take place pairs) pair) ∙ ap (λ ps. old.accepted ++ entries_of slot first ps) (sym (take-one_more pairs place pair at)) in
    subst (λ list. Agrees (network_of list)) (sym same) here

-- variables counted from the first one are made where enough are
counted_made : (given first vars : ℕ) (x : Term) → first + given ≤ vars → IsMade given x → IsMade vars (counted_from first x)
counted_made given first vars (Const p) l h = omega arith
counted_made given first vars (Var v) l h = omega arith

pub bag_counted : (given first vars : ℕ) (bag : List (Sym × Term)) → first + given ≤ vars → Each (λ p. IsMade given p.1) bag → Each (λ p. IsMade vars (counted_from first p.1)) bag
bag_counted given first vars [] l h = tt
bag_counted given first vars (p ∷ bag) l h = (counted_made given first vars p.1 l h.0, bag_counted given first vars bag l h.1)
