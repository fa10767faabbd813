-- Instances of one lexical tree after the other.
use Rattle.std.specs.Prelude.{◌≡◌, ℕ, ◌+◌, ◌<◌, ◌≤◌, List, [], length, slice_get, Bool, true, false, nat_eq, Some, Result, Ok, Err, IfOk, ◌⊎◌, refl}
use Rattle.std.proofs.Common.{inl, inr, ap, sym, ◌∙◌, subst, arith}
use Rattle.std.proofs.lemmas.Bool.{eqb-true, eqb-false}
use Rattle.std.proofs.lemmas.Option.{same_Some, slice_get_within}
use Rattle.gr_base.specs.Lists.{Each, IsAmong}
use Rattle.gr_base.proofs.ListLemmas.{Each-members, Each-at}
use Rattle.gr_terms.specs.LiteralViews.{AreConst}
use Rattle.gr_terms.specs.declared.Literal.{Literal}
use Rattle.tg_model.specs.declared.instance.TheConstants.{INSTANCE_LIMIT}
use Rattle.tg_model.specs.declared.instance.Instance.{Instance}
use Rattle.tg_model.specs.declared.lexical.LexicalTree.{LexicalTree}
use Rattle.tg_model.specs.declared.instance.Selection.{Selection}
use Rattle.tg_model.specs.Instances.{AreInstances, MayStandAt, IsInstance, IsSooner, InOrder}
use Rattle.tg_model.specs.LexicalTrees.{AreLexical}
use Rattle.tg_model.specs.Selections.{IsSelectionOf}
use Rattle.sm_match.specs.Answers.{IsSelection, HasTooMany, IsAnswer}
use Rattle.sm_match.specs.declared.refusal.SelectRefusal.{SelectRefusal}
use Rattle.sm_match.specs.declared.refusal.SelectRefusal.TheVariants.{Over, Memory}
use Rattle.sm_match.specs.Listings.{Adds, Overflows, Finds}
use Rattle.sm_match.specs.Tasks.{GoesOnFrom}
use Rattle.sm_match.proofs.ListingLemmas.{adds_none, adds_then, overflows_then, order_once}

module _ (trees : List LexicalTree) (input : List Literal) where
  -- the instance is one of the first lexical trees, as many as n
  pub record IsEarly (n : ℕ) (i : Instance) : Type 0 where
    pub low : i.tree < n
    pub is : IsInstance trees input i

  pub early_none : Adds (IsEarly 0) [] []
  early_none = adds_none (IsEarly 0) [] (λ i h. let low : i.tree < 0 = h.low in absurd (omega arith))

  module _ (n : ℕ) (l : LexicalTree) (at : slice_get trees n ≡ Some l) where
    left : (i : Instance) → IsEarly n i → IsEarly (n + 1) i
    left i h = record { low = let low = h.low in omega arith; is = h.is }

    right : (i : Instance) → GoesOnFrom input l.tree n [] i → IsEarly (n + 1) i
    right i h = record {
      low = let e : i.tree ≡ n = h.tree in omega arith;
      is = record { lexical = l; is = subst (λ k. slice_get trees k ≡ Some l) (sym h.tree) at; stands = h.stands };
    }

    before : (i j : Instance) → IsEarly n i → GoesOnFrom input l.tree n [] j → IsSooner i j
    before i j h f = let low : i.tree < n = h.low in let e : j.tree ≡ n = f.tree in inl (omega arith)

    split : (i : Instance) → IsEarly (n + 1) i → IsEarly n i ⊎ GoesOnFrom input l.tree n [] i
    split i h = by (nat_eq i.tree n) refl
      where
        by : (t : Bool) → nat_eq i.tree n ≡ t → IsEarly n i ⊎ GoesOnFrom input l.tree n [] i
        by true e =
            let same : i.tree ≡ n = eqb-true i.tree n e in
            let one : h.is.lexical ≡ l = same_Some h.is.lexical l (sym h.is.is ∙ (ap (slice_get trees) same ∙ at)) in
            inr (record { tree = same; stands = subst (λ (x : LexicalTree). MayStandAt input x.tree i.places) one h.is.stands; rest = i.places; begins = refl })
        by false e = let other = eqb-false i.tree n e in let low : i.tree < n + 1 = h.low in inl (record { low = omega arith; is = h.is })

    pub early_more : (old mid new : List Instance) → Adds (IsEarly n) old mid → Adds (GoesOnFrom input l.tree n []) mid new → Adds (IsEarly (n + 1)) old new
    early_more old mid new a b = adds_then (IsEarly n) (GoesOnFrom input l.tree n []) (IsEarly (n + 1)) left right before old mid a new split b

    pub early_over : (mid : List Instance) → Adds (IsEarly n) [] mid → Overflows (GoesOnFrom input l.tree n []) mid → HasTooMany trees input
    early_over mid a b =
        let all : Overflows (IsEarly (n + 1)) [] = overflows_then (IsEarly n) (GoesOnFrom input l.tree n []) (IsEarly (n + 1)) left right before [] mid a b in
        let many : INSTANCE_LIMIT < 0 + length all.more = all.many in
        (all.more, omega arith, order_once all.more all.order, Each-members (IsInstance trees input) all.more (λ i m. (Each-at (IsEarly (n + 1)) all.more i all.only m).is))

  pub early_all : (n : ℕ) (new : List Instance) (literals : List Literal) → length trees ≤ n → literals ≡ input → Adds (IsEarly n) [] new → IsSelection trees input (record { instances = new; literals = literals })
  early_all n new literals far same a = record {
    literals = same;
    instances = record {
      order = subst (λ is. InOrder is) (sym a.is) a.lists.order;
      only = subst (λ is. Each (IsInstance trees input) is) (sym a.is) (Each-members (IsInstance trees input) a.more (λ i m. (Each-at (IsEarly n) a.more i a.lists.only m).is));
      all = λ i h. subst (λ is. IsAmong is i) (sym a.is) (a.lists.all i (record { low = let low : i.tree < length trees = slice_get_within trees i.tree h.lexical h.is in omega arith; is = h }));
    };
    few = a.few (omega arith);
  }

-- a refusal of one tree is one of all
pub answer_err : (U : Type 0) (trees : List LexicalTree) (input : List Literal) (P : Instance → Type 0) (old new : List Instance) (e : SelectRefusal) → (Overflows P old → HasTooMany trees input) → Finds {U = U} P old new (Err e)
    → IsAnswer trees input (Err e)
answer_err U trees input P old new Over over h = over h
answer_err U trees input P old new Memory over h = tt

-- the right answer is what the layers above ask for
pub selection_of : (trees : List LexicalTree) (input : List Literal) → AreLexical trees → Each AreConst input → length input ≤ 24
    → (r : Result Selection SelectRefusal) → IsAnswer trees input r → IfOk r (IsSelectionOf trees)
selection_of trees input lexical ground few (Ok s) is = record {
  lexical = lexical;
  ground = subst (Each AreConst) (sym is.literals) ground;
  few = subst (λ ls. length ls ≤ 24) (sym is.literals) few;
  instances = subst (λ ls. AreInstances trees ls s.instances) (sym is.literals) is.instances;
  at_most = is.few;
}
selection_of trees input lexical ground few (Err e) is = tt
