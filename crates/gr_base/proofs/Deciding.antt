-- What is decided when its parts are; members of lists; and a listing of what is decided of finitely many values.
use Rattle.std.specs.Prelude.{◌≡◌, ℕ, ◌<◌, ◌≤◌, List, [], ◌∷◌, ◌++◌, Option, Some, None, ◌⊎◌, refl}
use Rattle.std.proofs.Common.{inl, inr, ap, ap₂, sym, ◌∙◌, subst}
use Rattle.std.proofs.Math.Decide.{ℕ_discrete, dec_lt, dec_le}
use Rattle.std.proofs.lemmas.Option.{same_Some}
use Rattle.gr_base.specs.Lists.{IsAmong, IsWithin, NoneTwice, Each, IsListing}
use Rattle.gr_base.specs.Forests.{Forest, empty, tree}
use Rattle.gr_base.proofs.ListLemmas.{same_head, same_tail, Each-at, Each-members, IsAmong-one_more, IsWithin-one_more, IsAmong-new_one}
use Rattle.gr_base.specs.Decisions.{IsDecided, AreToldApart}

pub of_dec : (A : Type 0) → Dec A → IsDecided A
of_dec A (yes a) = inl a
of_dec A (no n) = inr n

-- what is decided together with what is equivalent to it
pub decided_by : (A B : Type 0) → (A → B) → (B → A) → IsDecided A → IsDecided B
decided_by A B there home (inl a) = inl (there a)
decided_by A B there home (inr n) = inr (λ b. n (home b))

pub decided_both : (A B : Type 0) → IsDecided A → IsDecided B → IsDecided (A × B)
decided_both A B (inl a) (inl b) = inl (a, b)
decided_both A B (inl a) (inr n) = inr (λ p. n p.1)
decided_both A B (inr n) b = inr (λ p. n p.0)

pub decided_either : (A B : Type 0) → IsDecided A → IsDecided B → IsDecided (A ⊎ B)
decided_either A B (inl a) b = inl (inl a)
decided_either A B (inr n) (inl b) = inl (inr b)
decided_either A B (inr n) (inr m) = inr (λ c. elim c [ inl a ↦ n a | inr b ↦ m b ])

pub decided_if : (A B : Type 0) → IsDecided A → IsDecided B → IsDecided (A → B)
decided_if A B a (inl b) = inl (λ x. b)
decided_if A B (inl a) (inr n) = inr (λ f. n (f a))
decided_if A B (inr n) (inr m) = inl (λ a. absurd (n a))

pub decided_not : (A : Type 0) → IsDecided A → IsDecided (A → ⊥)
decided_not A (inl a) = inr (λ n. n a)
decided_not A (inr n) = inl n

-- numbers, lists and forests
pub decided_number : AreToldApart ℕ
decided_number m n = of_dec (m ≡ n) (ℕ_discrete m n)

pub decided_less : (m n : ℕ) → IsDecided (m < n)
decided_less m n = of_dec (m < n) (dec_lt m n)

pub decided_no_more : (m n : ℕ) → IsDecided (m ≤ n)
decided_no_more m n = of_dec (m ≤ n) (dec_le m n)

module _ {A : Type 0} (apart : AreToldApart A) where
  pub decided_list : AreToldApart (List A)
  decided_list [] [] = inl refl
  decided_list [] (y ∷ ys) = inr (λ e. cc e)
  decided_list (x ∷ xs) [] = inr (λ e. cc e)
  decided_list (x ∷ xs) (y ∷ ys) =
      decided_by ((x ≡ y) × (xs ≡ ys)) (x ∷ xs ≡ y ∷ ys) (λ p. ap₂ (λ z zs. z ∷ zs) p.0 p.1) (λ e. (same_head x y xs ys e, same_tail x y xs ys e))
      (decided_both (x ≡ y) (xs ≡ ys) (apart x y) (decided_list xs ys))

  pub decided_forest : AreToldApart (Forest A)
  decided_forest empty empty = inl refl
  decided_forest empty (tree b others rest) = inr (λ e. cc e)
  decided_forest (tree a kids more) empty = inr (λ e. cc e)
  decided_forest (tree a kids more) (tree b others rest) =
      decided_by ((a ≡ b) × ((kids ≡ others) × (more ≡ rest))) (tree a kids more ≡ tree b others rest)
      (λ p. ap (λ c. tree c kids more) p.0 ∙ (ap (λ f. tree b f more) p.1.0 ∙ ap (λ f. tree b others f) p.1.1)) (λ e. (cc e, (cc e, cc e)))
      (decided_both (a ≡ b) ((kids ≡ others) × (more ≡ rest)) (apart a b)
      (decided_both (kids ≡ others) (more ≡ rest) (decided_forest kids others) (decided_forest more rest)))

  pub decided_among : (xs : List A) (x : A) → IsDecided (IsAmong xs x)
  decided_among [] x = inr (λ i. i)
  decided_among (y ∷ ys) x = decided_either (x ≡ y) (IsAmong ys x) (apart x y) (decided_among ys x)

-- what holds of each or of some element of a list
module _ {A : Type 0} (P : A → Type 0) where
  pub decided_each : (xs : List A) → ((x : A) → IsAmong xs x → IsDecided (P x)) → IsDecided (Each P xs)
  decided_each [] d = inl tt
  decided_each (x ∷ xs) d = decided_both (P x) (Each P xs) (d x (inl refl)) (decided_each xs (λ y i. d y (inr i)))

  pub decided_members : (xs : List A) → ((x : A) → IsAmong xs x → IsDecided (P x)) → IsDecided ((x : A) → IsAmong xs x → P x)
  decided_members xs d = decided_by (Each P xs) ((x : A) → IsAmong xs x → P x) (λ e x i. Each-at P xs x e i) (Each-members P xs) (decided_each xs d)

  pub decided_some : (xs : List A) → ((x : A) → IsAmong xs x → IsDecided (P x)) → IsDecided ((x : A) × IsAmong xs x × P x)
  decided_some [] d = inr (λ h. h.1)
  decided_some (x ∷ xs) d = from_two (d x (inl refl)) (decided_some xs (λ y i. d y (inr i)))
    where
      from_two : IsDecided (P x) → IsDecided ((y : A) × IsAmong xs y × P y) → IsDecided ((y : A) × IsAmong (x ∷ xs) y × P y)
      from_two (inl p) r = inl (x, inl refl, p)
      from_two (inr n) (inl r) = inl (r.0, inr r.1, r.2)
      from_two (inr n) (inr m) = inr (λ h. elim h.1 [ inl e ↦ n (subst P e h.2) | inr i ↦ m (h.0, i, h.2) ])

  -- what is found is of the list already
  pub decided_found : (xs : List A) → ((x : A) → P x → IsAmong xs x) → ((x : A) → IsAmong xs x → IsDecided (P x)) → IsDecided ((x : A) × P x)
  decided_found xs there d = decided_by ((x : A) × IsAmong xs x × P x) ((x : A) × P x) (λ h. (h.0, h.2)) (λ h. (h.0, there h.0 h.1, h.1)) (decided_some xs d)

  -- an option that holds what has P
  pub decided_option : (o : Option A) → ((x : A) → IsDecided (P x)) → IsDecided ((x : A) × (o ≡ Some x) × P x)
  decided_option None d = inr (λ h. let e : ◌≡◌ {A = Option A} None (Some h.0) = h.1 in cc e)
  decided_option (Some y) d = decided_by (P y) ((x : A) × (◌≡◌ {A = Option A} (Some y) (Some x)) × P x) (λ p. (y, refl, p)) (λ h. subst P (sym (same_Some y h.0 h.1)) h.2) (d y)

-- the list has each value of which P holds once, and no other, of those in xs
module _ {A : Type 0} (apart : AreToldApart A) (P : A → Type 0) where
  record ListsPart (xs : List A) : Type 0 where
    pub list : List A
    pub once : NoneTwice list
    pub only : Each P list
    pub all : (x : A) → IsAmong xs x → P x → IsAmong list x

  one_more : (x : A) (xs : List A) → (r : ListsPart xs) → IsDecided (P x) → IsDecided (IsAmong r.list x) → ListsPart (x ∷ xs)
  one_more x xs r (inl p) (inl i) = record { list = r.list; once = r.once; only = r.only; all = λ y j q. elim j [ inl e ↦ subst (λ z. IsAmong r.list z) (sym e) i | inr k ↦ r.all y k q ] }
  one_more x xs r (inl p) (inr n) = record { list = x ∷ r.list; once = (n, r.once); only = (p, r.only); all = λ y j q. elim j [ inl e ↦ inl e | inr k ↦ inr (r.all y k q) ] }
  one_more x xs r (inr n) i = record { list = r.list; once = r.once; only = r.only; all = λ y j q. elim j [ inl e ↦ absurd (n (subst P e q)) | inr k ↦ r.all y k q ] }

  part_of : (xs : List A) → ((x : A) → IsAmong xs x → IsDecided (P x)) → ListsPart xs
  part_of [] d = record { list = []; once = tt; only = tt; all = λ x i p. absurd i }
  part_of (x ∷ xs) d =
      let r = part_of xs (λ y i. d y (inr i)) in
      one_more x xs r (d x (inl refl)) (decided_among apart r.list x)

  pub listing_of : (xs : List A) → ((x : A) → IsAmong xs x → IsDecided (P x)) → ((x : A) → P x → IsAmong xs x) → (ys : List A) × IsListing P ys
  listing_of xs d there = let r = part_of xs d in (r.list, record { once = r.once; only = r.only; all = λ x p. r.all x (there x p) p })

-- an element at the head of a list or behind it
pub behind_within : {A : Type 0} (e : A) (xs : List A) → IsWithin (e ∷ xs) (xs ++ e ∷ [])
behind_within e xs x (inl p) = subst (λ y. IsAmong (xs ++ e ∷ []) y) (sym p) (IsAmong-new_one xs e)
behind_within e xs x (inr i) = IsWithin-one_more xs e x i

pub ahead_within : {A : Type 0} (e : A) (xs : List A) → IsWithin (xs ++ e ∷ []) (e ∷ xs)
ahead_within e xs x i = elim (IsAmong-one_more xs e x i) [ inl j ↦ inr j | inr p ↦ inl p ]
