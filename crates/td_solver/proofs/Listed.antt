-- The list of the steps, as it grows.
use Rattle.std.specs.Prelude.{◌≡◌, ℕ, ◌+◌, ◌<◌, ◌≤◌, List, [], ◌∷◌, ◌++◌, ◌⊎◌, Option, Some, None, refl}
use Rattle.std.proofs.Common.{inl, inr, subst, sym, ap, ◌∙◌, arith, append_assoc, append-nil}
use Rattle.std.proofs.lemmas.Bool.{cases_eq}
use Rattle.gr_base.specs.Lists.{IsAmong, IsListing}
use Rattle.gr_base.specs.Forests.{Forest}
use Rattle.gr_base.proofs.ListLemmas.{Each-at, Each-append, Each-members, IsAmong-append_left, IsAmong-append_right, Each-weaker, NoneTwice-append}
use Rattle.td_desc.specs.declared.Colour.{Colour}
use Rattle.td_desc.specs.declared.Colour.TheVariants.{Black, White, Red}
use Rattle.td_forest.specs.declared.Step.{Step}
use Rattle.td_forest.specs.declared.Step.TheVariants.{Merge, Insert}
use Rattle.td_forest.specs.Nodes.{IsForestOf}
use Rattle.td_desc.specs.Descriptions.{Description}
use Rattle.td_forest.specs.Steps.{width, kids_of}
use Rattle.td_forest.specs.Names.{IsHead, IsNamedStep}
use Rattle.td_forest.proofs.Naming.{head_in}
use Rattle.td_colour.specs.Models.{IsForestModel}
use Rattle.td_solver.specs.Ties.{HasParentBelow}
use Rattle.td_solver.specs.Candidates.{Suits, IsCandidate, IsPushed, IsEnough, LeadsOn, LeadsNowhere, NoneUnder, AreTold, IsInsertFrom, IsInsertBelow, IsPlainBelow, IsMergeBelow, IsUnderBelow}
use Rattle.td_solver.proofs.Finding.{listing_both}
use Rattle.td_solver.proofs.Narrowing.{takes_none, no_root}

-- a listing of the same under other words
listing_as : (P Q : Step → Type 0) (xs : List Step) → IsListing P xs → ((s : Step) → P s → Q s) → ((s : Step) → Q s → P s) → IsListing Q xs
listing_as P Q xs l f g = record { once = l.once; only = Each-weaker P Q f xs l.only; all = λ s q. l.all s (g s q) }

listing_none : (P : Step → Type 0) → ((s : Step) → P s → ⊥) → IsListing P []
listing_none P none = record { once = tt; only = tt; all = λ s p. absurd (none s p) }

listing_one : (s : Step) → IsListing (λ (t : Step). t ≡ s) (s ∷ [])
listing_one s = record { once = ((λ i. i), tt); only = (refl, tt); all = λ t e. inl e }

pushed_none : (P : Step → Type 0) (old : List Step) → ((s : Step) → P s → ⊥) → IsPushed P old old
pushed_none P old none = record { more = []; is = sym (append-nil old); listing = listing_none P none }

pub pushed_as : (P Q : Step → Type 0) (old new : List Step) → IsPushed P old new → ((s : Step) → P s → Q s) → ((s : Step) → Q s → P s) → IsPushed Q old new
pushed_as P Q old new p f g = record { more = p.more; is = p.is; listing = listing_as P Q p.more p.listing f g }

-- one step more, or a list of steps more
pushed_more : (P Q R : Step → Type 0) (old now new ys : List Step) → IsPushed P old now → new ≡ now ++ ys → IsListing Q ys → ((s : Step) → P s → Q s → ⊥) → ((s : Step) → P s → R s)
    → ((s : Step) → Q s → R s) → ((s : Step) → R s → P s ⊎ Q s) → IsPushed R old new
pushed_more P Q R old now new ys p e l apart f g h = record {
  more = p.more ++ ys;
  is = e ∙ ap (λ xs. xs ++ ys) p.is ∙ append_assoc old p.more ys;
  listing = listing_both P Q R p.more ys p.listing l apart f g h;
}

insert_to : (u v : Option ℕ) (a b c d : ℕ) → Insert u a b ≡ Insert v c d → b ≡ d
insert_to u v a b c d e = cc

insert_from : (u v : Option ℕ) (a b c d : ℕ) → Insert u a b ≡ Insert v c d → a ≡ c
insert_from u v a b c d e = cc

last_or_below : (b t : ℕ) → b < t + 1 → (b < t) ⊎ (b ≡ t)
last_or_below b t h = elim (cases_eq b t) [ inl e ↦ inr e | inr ne ↦ inl (omega arith) ]

pub from_none : (under : Option ℕ) (a : ℕ) (old : List Step) → IsPushed (IsInsertFrom under a a) old old
from_none under a old = pushed_none (IsInsertFrom under a a) old (λ s p. let h : a ≤ p.0 = p.2 in let k : p.0 < a = p.3 in omega arith)

pub from_more : (under : Option ℕ) (a t : ℕ) (old now new : List Step) → a ≤ t → IsPushed (IsInsertFrom under a t) old now → new ≡ now ++ Insert under a t ∷ [] → IsPushed (IsInsertFrom under a (t + 1)) old new
from_more under a t old now new low p e =
    pushed_more (IsInsertFrom under a t) (λ (s : Step). s ≡ Insert under a t) (IsInsertFrom under a (t + 1)) old now new (Insert under a t ∷ []) p e (listing_one (Insert under a t))
    (λ s h q. let k : h.0 ≡ t = insert_to under under a h.0 a t (sym h.1 ∙ q) in let l : h.0 < t = h.3 in omega arith)
    (λ s h. let l : h.0 < t = h.3 in (h.0, h.1, h.2, omega arith))
    (λ s q. (t, q, low, omega arith))
    (λ s h. elim (last_or_below h.0 t h.3) [ inl l ↦ inl (h.0, h.1, h.2, l) | inr k ↦ inr (h.1 ∙ ap (λ b. Insert under a b) k) ])

pub below_none : (under : Option ℕ) (w : ℕ) (old : List Step) → IsPushed (IsInsertBelow under w 0) old old
below_none under w old = pushed_none (IsInsertBelow under w 0) old (λ s p. let h : p.0 < 0 = p.1 in omega arith)

pub below_more : (under : Option ℕ) (w f : ℕ) (old now new : List Step) → IsPushed (IsInsertBelow under w f) old now → IsPushed (IsInsertFrom under f (w + 1)) now new → IsPushed (IsInsertBelow under w (f + 1)) old new
below_more under w f old now new p r =
    pushed_more (IsInsertBelow under w f) (IsInsertFrom under f (w + 1)) (IsInsertBelow under w (f + 1)) old now new r.more p r.is r.listing
    (λ s h q. let k : h.0 ≡ f = insert_from under under h.0 h.2.0 f q.0 (sym h.2.1 ∙ q.1) in let l : h.0 < f = h.1 in omega arith)
    (λ s h. let l : h.0 < f = h.1 in (h.0, omega arith, h.2))
    (λ s q. (f, omega arith, q))
    (λ s h. elim (last_or_below h.0 f h.1) [ inl l ↦ inl (h.0, l, h.2) | inr k ↦ inr (subst (λ a. IsInsertFrom under a (w + 1) s) k h.2) ])

pub plain_none : (under : Option ℕ) (old : List Step) → IsPushed (IsPlainBelow under 0) old old
plain_none under old = pushed_none (IsPlainBelow under 0) old (λ s p. let h : p.0 < 0 = p.2 in omega arith)

pub plain_more : (under : Option ℕ) (t : ℕ) (old now new : List Step) → IsPushed (IsPlainBelow under t) old now → new ≡ now ++ Insert under t t ∷ [] → IsPushed (IsPlainBelow under (t + 1)) old new
plain_more under t old now new p e =
    pushed_more (IsPlainBelow under t) (λ (s : Step). s ≡ Insert under t t) (IsPlainBelow under (t + 1)) old now new (Insert under t t ∷ []) p e (listing_one (Insert under t t))
    (λ s h q. let k : h.0 ≡ t = insert_to under under h.0 h.0 t t (sym h.1 ∙ q) in let l : h.0 < t = h.2 in omega arith)
    (λ s h. let l : h.0 < t = h.2 in (h.0, h.1, omega arith))
    (λ s q. (t, q, omega arith))
    (λ s h. elim (last_or_below h.0 t h.2) [ inl l ↦ inl (h.0, h.1, l) | inr k ↦ inr (h.1 ∙ ap (λ b. Insert under b b) k) ])

-- steps that are enough
module _ (d : Description ℕ ℕ) (m : ℕ) (F : Forest (List ℕ)) where
  pub enough_pushed : (P : Step → Type 0) (old new : List Step) → IsPushed P old new → IsEnough d m F P old new
  enough_pushed P old new p = record { more = p.more; is = p.is; once = p.listing.once; only = p.listing.only; all = λ s h l. p.listing.all s h }

  pub chosen_pushed : (P : Step → Type 0) (old new : List Step) → (p : IsEnough d m F P old new) → IsPushed (IsAmong p.more) old new
  chosen_pushed P old new p = record {
    more = p.more;
    is = p.is;
    listing = record { once = p.once; only = Each-members (IsAmong p.more) p.more (λ s i. i); all = λ s i. i };
  }

  pub enough_none : (P : Step → Type 0) (old : List Step) → ((s : Step) → P s → LeadsOn d m F s → ⊥) → IsEnough d m F P old old
  enough_none P old none = record { more = []; is = sym (append-nil old); once = tt; only = tt; all = λ s h l. absurd (none s h l) }

  pub enough_as : (P Q : Step → Type 0) (old new : List Step) → IsEnough d m F P old new → ((s : Step) → P s → Q s) → ((s : Step) → Q s → LeadsOn d m F s → P s) → IsEnough d m F Q old new
  enough_as P Q old new p f g = record { more = p.more; is = p.is; once = p.once; only = Each-weaker P Q f p.more p.only; all = λ s q l. p.all s (g s q l) l }

  enough_more : (P Q R : Step → Type 0) (old now new : List Step) → IsEnough d m F P old now → IsEnough d m F Q now new → ((s : Step) → P s → Q s → ⊥) → ((s : Step) → P s → R s)
      → ((s : Step) → Q s → R s) → ((s : Step) → R s → P s ⊎ Q s) → IsEnough d m F R old new
  enough_more P Q R old now new p q apart f g h = record {
    more = p.more ++ q.more;
    is = q.is ∙ ap (λ xs. xs ++ q.more) p.is ∙ append_assoc old p.more q.more;
    once = NoneTwice-append p.more q.more p.once q.once (λ s i j. apart s (Each-at P p.more s p.only i) (Each-at Q q.more s q.only j));
    only = Each-append R p.more q.more (Each-weaker P R f p.more p.only) (Each-weaker Q R g q.more q.only);
    all = λ s r l. elim (h s r) [
      | inl a ↦ IsAmong-append_left p.more q.more s (p.all s a l)
      | inr b ↦ IsAmong-append_right p.more q.more s (q.all s b l)
    ];
  }

  enough_one : (s : Step) (now new : List Step) → new ≡ now ++ s ∷ [] → IsEnough d m F (λ (t : Step). t ≡ s) now new
  enough_one s now new e = record { more = s ∷ []; is = e; once = ((λ i. i), tt); only = (refl, tt); all = λ t q l. inl q }

  -- the merges with tree nodes whose first nodes are below k
  merge_up : (k : ℕ) (s : Step) → IsMergeBelow F k s → IsMergeBelow F (k + 1) s
  merge_up k (Merge at) h = let l : at < k = h.1 in (h.0, omega arith)
  merge_up k (Insert u a b) h = absurd h

  merge_down : (k : ℕ) (s : Step) → IsMergeBelow F (k + 1) s → IsMergeBelow F k s ⊎ (s ≡ Merge k)
  merge_down k (Merge at) h = elim (last_or_below at k h.1) [ inl l ↦ inl (h.0, l) | inr e ↦ inr (ap (λ x. Merge x) e) ]
  merge_down k (Insert u a b) h = absurd h

  pub merges_none : (old : List Step) → IsEnough d m F (IsMergeBelow F 0) old old
  merges_none old = enough_none (IsMergeBelow F 0) old (λ s h l. none s h)
    where
      none : (s : Step) → IsMergeBelow F 0 s → ⊥
      none (Merge at) h = let l : at < 0 = h.1 in omega arith
      none (Insert u a b) h = h

  pub merges_skip : (k : ℕ) (old now : List Step) → (IsHead F k → LeadsNowhere d m F (Merge k)) → IsEnough d m F (IsMergeBelow F k) old now → IsEnough d m F (IsMergeBelow F (k + 1)) old now
  merges_skip k old now bad p =
      enough_as (IsMergeBelow F k) (IsMergeBelow F (k + 1)) old now p (merge_up k)
      (λ s h l. elim (merge_down k s h) [ inl j ↦ j | inr e ↦ absurd (bad (subst (λ t. IsMergeBelow F (k + 1) t) e h).0 (subst (λ t. LeadsOn d m F t) e l)) ])

  pub merges_head : (k : ℕ) (old now new : List Step) → IsHead F k → IsEnough d m F (IsMergeBelow F k) old now → new ≡ now ++ Merge k ∷ [] → IsEnough d m F (IsMergeBelow F (k + 1)) old new
  merges_head k old now new head p e =
      enough_more (IsMergeBelow F k) (λ (s : Step). s ≡ Merge k) (IsMergeBelow F (k + 1)) old now new p (enough_one (Merge k) now new e)
      (λ s h q. let r : IsMergeBelow F k (Merge k) = subst (λ t. IsMergeBelow F k t) q h in let l : k < k = r.1 in omega arith)
      (merge_up k)
      (λ s q. subst (λ t. IsMergeBelow F (k + 1) t) (sym q) (head, omega arith))
      (merge_down k)

  -- the insertions among the roots, and under tree nodes whose first nodes are below k
  under_up : (k : ℕ) (s : Step) → IsUnderBelow F k s → IsUnderBelow F (k + 1) s
  under_up k (Merge at) h = absurd h
  under_up k (Insert None a b) h = h
  under_up k (Insert (Some u) a b) h = let l : u < k = h.1 in (h.0, omega arith, h.2, h.3)

  under_down : (k w : ℕ) (s : Step) → w ≡ width (kids_of k F) → IsUnderBelow F (k + 1) s → IsUnderBelow F k s ⊎ (IsHead F k × IsInsertBelow (Some k) w (w + 1) s)
  under_down k w (Merge at) e h = absurd h
  under_down k w (Insert None a b) e h = inl h
  under_down k w (Insert (Some u) a b) e h = elim (last_or_below u k h.1) [
    | inl l ↦ inl (h.0, l, h.2, h.3)
    | inr q ↦
        let p : a ≤ b = h.2 in
        let r : b ≤ width (kids_of k F) = subst (λ x. b ≤ width (kids_of x F)) q h.3 in
        inr (subst (λ x. IsHead F x) q h.0, (a, omega arith, (b, ap (λ x. Insert (Some x) a b) q, h.2, omega arith)))
  ]

  roots_up : (w : ℕ) (s : Step) → w ≡ width F → IsInsertBelow None w (w + 1) s → IsUnderBelow F 0 s
  roots_up w s e h = let l : h.2.0 < w + 1 = h.2.3 in subst (λ t. IsUnderBelow F 0 t) (sym h.2.1) (h.2.2, omega arith)

  roots_down : (w : ℕ) (s : Step) → w ≡ width F → IsUnderBelow F 0 s → IsInsertBelow None w (w + 1) s
  roots_down w (Merge at) e h = absurd h
  roots_down w (Insert None a b) e h = let p : a ≤ b = h.0 in let q : b ≤ width F = h.1 in (a, omega arith, (b, refl, h.0, omega arith))
  roots_down w (Insert (Some u) a b) e h = let l : u < 0 = h.1 in absurd (omega arith)

  pub roots_listed : (w : ℕ) (old new : List Step) → w ≡ width F → IsPushed (IsInsertBelow None w (w + 1)) old new → IsEnough d m F (IsUnderBelow F 0) old new
  roots_listed w old new e p = enough_pushed (IsUnderBelow F 0) old new (pushed_as (IsInsertBelow None w (w + 1)) (IsUnderBelow F 0) old new p (λ s h. roots_up w s e h) (λ s h. roots_down w s e h))

  -- the node's parent is told, so it is no root
  pub roots_left_out : (old : List Step) → IsForestModel d m F → HasParentBelow d.relations m m → IsEnough d m F (IsUnderBelow F 0) old old
  roots_left_out old model told = enough_none (IsUnderBelow F 0) old none
    where
      none : (s : Step) → IsUnderBelow F 0 s → LeadsOn d m F s → ⊥
      none (Merge at) h l = h
      none (Insert None a b) h l = no_root d m F model told.0 told.1 told.2 a b (h.0, h.1) l
      none (Insert (Some u) a b) h l = let low : u < 0 = h.1 in omega arith

  pub under_skip : (k : ℕ) (old now : List Step) → (IsHead F k → NoneUnder d m F k) → IsEnough d m F (IsUnderBelow F k) old now → IsEnough d m F (IsUnderBelow F (k + 1)) old now
  under_skip k old now bad p =
      enough_as (IsUnderBelow F k) (IsUnderBelow F (k + 1)) old now p (under_up k)
      (λ s h l. elim (under_down k (width (kids_of k F)) s refl h) [ inl j ↦ j | inr q ↦ absurd (nowhere s h q.0 q.1 l) ])
    where
      nowhere : (s : Step) → IsUnderBelow F (k + 1) s → IsHead F k → IsInsertBelow (Some k) (width (kids_of k F)) (width (kids_of k F) + 1) s → LeadsOn d m F s → ⊥
      nowhere s h head i l =
          let b_low : i.2.0 < width (kids_of k F) + 1 = i.2.3 in
          bad head i.0 i.2.0 (head_in F k head, i.2.2, omega arith) (subst (λ t. LeadsOn d m F t) i.2.1 l)

  pub under_head : (k w : ℕ) (old now new : List Step) → IsHead F k → w ≡ width (kids_of k F) → IsEnough d m F (IsUnderBelow F k) old now
      → IsEnough d m F (IsInsertBelow (Some k) w (w + 1)) now new → IsEnough d m F (IsUnderBelow F (k + 1)) old new
  under_head k w old now new head e p r =
      enough_more (IsUnderBelow F k) (IsInsertBelow (Some k) w (w + 1)) (IsUnderBelow F (k + 1)) old now new p r
      (λ s h i. let q : IsUnderBelow F k (Insert (Some k) i.0 i.2.0) = subst (λ t. IsUnderBelow F k t) i.2.1 h in let l : k < k = q.1 in omega arith)
      (under_up k)
      (λ s i. let l : i.2.0 < w + 1 = i.2.3 in subst (λ t. IsUnderBelow F (k + 1) t) (sym i.2.1) (head, omega arith, i.2.2, omega arith))
      (λ s h. elim (under_down k w s e h) [ inl j ↦ inl j | inr q ↦ inr q.1 ])

  -- where all parents are told, it is enough to take over none
  pub plain_enough : (u w : ℕ) (old new : List Step) → IsForestModel d m F → u < m → w ≡ width (kids_of u F) → AreTold d.relations m F u m → IsPushed (IsPlainBelow (Some u) (w + 1)) old new
      → IsEnough d m F (IsInsertBelow (Some u) w (w + 1)) old new
  plain_enough u w old new model low wide told p =
      enough_as (IsPlainBelow (Some u) (w + 1)) (IsInsertBelow (Some u) w (w + 1)) old new (enough_pushed (IsPlainBelow (Some u) (w + 1)) old new p)
      (λ s h. let l : h.0 < w + 1 = h.2 in (h.0, h.2, (h.0, h.1, omega arith, h.2)))
      (λ s h l.
      let b_low : h.2.0 < w + 1 = h.2.3 in
      let e : h.0 ≡ h.2.0 = takes_none d m F model u h.0 h.2.0 told ((model.nodes.nodes u).1 low, h.2.2, omega arith) (subst (λ t. LeadsOn d m F t) h.2.1 l) in
      (h.0, h.2.1 ∙ ap (λ b. Insert (Some u) h.0 b) (sym e), h.1))

-- all nodes were gone through
module _ (d : Description ℕ ℕ) (F : Forest (List ℕ)) (m : ℕ) (f : IsForestOf m F) where
  merge_candidate : (s : Step) → IsMergeBelow F m s → IsCandidate F White s
  merge_candidate (Merge at) h = (h.0, tt)
  merge_candidate (Insert u a b) h = absurd h

  candidate_merge : (s : Step) → IsCandidate F White s → IsMergeBelow F m s
  candidate_merge (Merge at) h = (h.0, (f.nodes at).0 (head_in F at h.0))
  candidate_merge (Insert u a b) h = h.1

  pub merges_all : (old new : List Step) → IsEnough d m F (IsMergeBelow F m) old new → IsEnough d m F (IsCandidate F White) old new
  merges_all old new p = enough_as d m F (IsMergeBelow F m) (IsCandidate F White) old new p merge_candidate (λ s h l. candidate_merge s h)

  under_named : (s : Step) → IsUnderBelow F m s → IsNamedStep F s
  under_named (Merge at) h = absurd h
  under_named (Insert None a b) h = (tt, h.0, h.1)
  under_named (Insert (Some u) a b) h = (h.0, h.2, h.3)

  under_suits : (c : Colour) (s : Step) → (c ≡ White → ⊥) → IsUnderBelow F m s → Suits c s
  under_suits White s dark h = absurd (dark refl)
  under_suits Black (Merge at) dark h = h
  under_suits Black (Insert u a b) dark h = tt
  under_suits Red (Merge at) dark h = h
  under_suits Red (Insert u a b) dark h = tt

  named_under : (c : Colour) (s : Step) → (c ≡ White → ⊥) → IsNamedStep F s → Suits c s → IsUnderBelow F m s
  named_under White s dark h suits = absurd (dark refl)
  named_under Black (Merge at) dark h suits = suits
  named_under Red (Merge at) dark h suits = suits
  named_under c (Insert None a b) dark h suits = (h.1, h.2)
  named_under c (Insert (Some u) a b) dark h suits = (h.0, (f.nodes u).0 (head_in F u h.0), h.1, h.2)

  pub under_all : (c : Colour) (old new : List Step) → (c ≡ White → ⊥) → IsEnough d m F (IsUnderBelow F m) old new → IsEnough d m F (IsCandidate F c) old new
  under_all c old new dark p =
      enough_as d m F (IsUnderBelow F m) (IsCandidate F c) old new p (λ s h. (under_named s h, under_suits c s dark h)) (λ s h l. named_under c s dark h.0 h.1)
