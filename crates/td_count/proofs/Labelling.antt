-- A label for each term: its name, or the number of its class by first meeting in a list of terms.
use Rattle.std.specs.Prelude.{◌≡◌, ℕ, zero, suc, ◌<◌, ◌≤◌, List, [], ◌∷◌, ◌++◌, map, length, ◌⊎◌, ◌↔◌, refl}
use Rattle.std.proofs.Common.{inl, inr, ap, sym, ◌∙◌, subst, append_assoc, arith}
use Rattle.gr_base.specs.Lists.{IsAmong}
use Rattle.gr_terms.specs.Networks.{Term, name, Assertion, AreLinked, same, back, next, Agrees}
use Rattle.gr_terms.specs.Canonical.{Label, named, numbered, IsNumberedFrom}
use Rattle.gr_base.specs.Decisions.{IsDecided, AreToldApart}
use Rattle.gr_terms.proofs.Agreeing.{decided_linked, decided_name}

module _ {V S : Type 0} (variables : AreToldApart V) (slots : AreToldApart S) (N : List (Assertion V S)) (agrees : Agrees N) where
  abbrev pub HasName : Term V → Type 0
  HasName x = (a : ℕ) × AreLinked N x (name a)

  -- ---- the number of a term in a list: that of the first one that is linked with it, from 1, or 0
  abbrev number_by : {A : Type 0} → IsDecided A → ℕ → ℕ
  number_by (inl h) n = 1
  number_by (inr k) zero = 0
  number_by (inr k) (suc n) = suc (suc n)

  abbrev pub number : Term V → List (Term V) → ℕ
  number x [] = 0
  number x (u ∷ us) = number_by (decided_linked variables slots N x u) (number x us)

  same_by : (x y u : Term V) → AreLinked N x y → (d : IsDecided (AreLinked N x u)) (e : IsDecided (AreLinked N y u)) (n : ℕ) → number_by d n ≡ number_by e n
  same_by x y u h (inl i) (inl j) n = refl
  same_by x y u h (inl i) (inr k) n = absurd (k (next y x u (back x y h) i))
  same_by x y u h (inr k) (inl j) n = absurd (k (next x y u h j))
  same_by x y u h (inr k) (inr l) zero = refl
  same_by x y u h (inr k) (inr l) (suc n) = refl

  -- linked terms have one number
  pub number-linked : (x y : Term V) (us : List (Term V)) → AreLinked N x y → number x us ≡ number y us
  number-linked x y [] h = refl
  number-linked x y (u ∷ us) h =
      ap (λ n. number_by (decided_linked variables slots N x u) n) (number-linked x y us h)
      ∙ same_by x y u h (decided_linked variables slots N x u) (decided_linked variables slots N y u) (number y us)

  linked_by : (x y u : Term V) (d : IsDecided (AreLinked N x u)) (e : IsDecided (AreLinked N y u)) (m n : ℕ) → (m ≡ n → 0 < m → AreLinked N x y) → number_by d m ≡ number_by e n → 0 < number_by d m → AreLinked N x y
  linked_by x y u (inl i) (inl j) m n f e p = next x u y i (back y u j)
  linked_by x y u (inl i) (inr k) m zero f e p = absurd (let q : 1 ≡ 0 = e in omega arith)
  linked_by x y u (inl i) (inr k) m (suc n) f e p = absurd (let q : 1 ≡ suc (suc n) = e in omega arith)
  linked_by x y u (inr k) (inl j) zero n f e p = absurd (let q : 0 ≡ 1 = e in omega arith)
  linked_by x y u (inr k) (inl j) (suc m) n f e p = absurd (let q : suc (suc m) ≡ 1 = e in omega arith)
  linked_by x y u (inr k) (inr l) zero n f e p = absurd (let q : 0 < 0 = p in omega arith)
  linked_by x y u (inr k) (inr l) (suc m) zero f e p = absurd (let q : suc (suc m) ≡ 0 = e in omega arith)
  linked_by x y u (inr k) (inr l) (suc m) (suc n) f e p = f (let q : suc (suc m) ≡ suc (suc n) = e in omega arith) (omega arith)

  -- terms with one number are linked, where that isn't 0
  linked-number : (x y : Term V) (us : List (Term V)) → number x us ≡ number y us → 0 < number x us → AreLinked N x y
  linked-number x y [] e p = absurd (let q : 0 < 0 = p in omega arith)
  linked-number x y (u ∷ us) e p = linked_by x y u (decided_linked variables slots N x u) (decided_linked variables slots N y u) (number x us) (number y us) (linked-number x y us) e p

  there_by : (x u : Term V) (d : IsDecided (AreLinked N x u)) (n : ℕ) → AreLinked N x u ⊎ (0 < n) → 0 < number_by d n
  there_by x u (inl i) n h = omega arith
  there_by x u (inr k) n (inl i) = absurd (k i)
  there_by x u (inr k) zero (inr p) = p
  there_by x u (inr k) (suc n) (inr p) = omega arith

  -- a term that is linked with one of the list has a number
  number-there : (x u : Term V) (us : List (Term V)) → IsAmong us u → AreLinked N x u → 0 < number x us
  number-there x u [] i h = absurd i
  number-there x u (w ∷ us) (inl e) h = there_by x w (decided_linked variables slots N x w) (number x us) (inl (subst (λ z. AreLinked N x z) e h))
  number-there x u (w ∷ us) (inr i) h = there_by x w (decided_linked variables slots N x w) (number x us) (inr (number-there x u us i h))

  front_by : (x u : Term V) (d : IsDecided (AreLinked N x u)) (m n k : ℕ) → (0 < m → (n ≡ m) × (m ≤ k)) → 0 < number_by d m → (number_by d n ≡ number_by d m) × (number_by d m ≤ suc k)
  front_by x u (inl i) m n k f p = (refl, omega arith)
  front_by x u (inr l) zero n k f p = absurd (let q : 0 < 0 = p in omega arith)
  front_by x u (inr l) (suc m) n k f p = let r = f (omega arith) in (ap (λ z. number_by {A = AreLinked N x u} (inr l) z) r.0, let q = r.1 in omega (arith, q))

  -- a number in a front stays, and is at most its length
  number-front : (x : Term V) (us vs : List (Term V)) → 0 < number x us → (number x (us ++ vs) ≡ number x us) × (number x us ≤ length us)
  number-front x [] vs p = absurd (let q : 0 < 0 = p in omega arith)
  number-front x (u ∷ us) vs p = front_by x u (decided_linked variables slots N x u) (number x us) (number x (us ++ vs)) (length us) (number-front x us vs) p

  new_by : (x u : Term V) (d : IsDecided (AreLinked N x u)) (m n k : ℕ) → (m ≡ 0 → n ≡ suc k) → number_by d m ≡ 0 → number_by d n ≡ suc (suc k)
  new_by x u (inl i) m n k f e = absurd (let q : 1 ≡ 0 = e in omega arith)
  new_by x u (inr l) zero n k f e = ap (λ z. number_by {A = AreLinked N x u} (inr l) z) (f refl)
  new_by x u (inr l) (suc m) n k f e = absurd (let q : suc (suc m) ≡ 0 = e in omega arith)

  first_by : (x : Term V) (d : IsDecided (AreLinked N x x)) (n : ℕ) → number_by d n ≡ 1
  first_by x (inl i) n = refl
  first_by x (inr l) n = absurd (l (same x))

  -- a term behind a list in which it has no number
  number-new : (x : Term V) (us vs : List (Term V)) → number x us ≡ 0 → number x (us ++ x ∷ vs) ≡ suc (length us)
  number-new x [] vs e = first_by x (decided_linked variables slots N x x) (number x vs)
  number-new x (u ∷ us) vs e = new_by x u (decided_linked variables slots N x u) (number x us) (number x (us ++ x ∷ vs)) (length us) (number-new x us vs) e

  -- ---- the label of a term, where the list has one of each class
  module _ (us : List (Term V)) where
    abbrev label_by : {x : Term V} → IsDecided (HasName x) → ℕ → Label
    label_by (inl h) n = named h.0
    label_by (inr k) n = numbered n

    abbrev pub label : Term V → Label
    label x = label_by {x = x} (decided_name variables slots N x) (number x us)

    named_by : (x : Term V) (a : ℕ) → AreLinked N x (name a) → (d : IsDecided (HasName x)) (n : ℕ) → label_by {x = x} d n ≡ named a
    named_by x a h (inl k) n = ap named (agrees k.0 a (next (name k.0) x (name a) (back x (name k.0) k.1) h))
    named_by x a h (inr k) n = absurd (k (a, h))

    label-named : (x : Term V) (a : ℕ) → AreLinked N x (name a) → label x ≡ named a
    label-named x a h = named_by x a h (decided_name variables slots N x) (number x us)

    numbered_by : (x : Term V) → (HasName x → ⊥) → (d : IsDecided (HasName x)) (n : ℕ) → label_by {x = x} d n ≡ numbered n
    numbered_by x k (inl h) n = absurd (k h)
    numbered_by x k (inr l) n = refl

    label-numbered : (x : Term V) → (HasName x → ⊥) → label x ≡ numbered (number x us)
    label-numbered x k = numbered_by x k (decided_name variables slots N x) (number x us)

    linked_labels : (x y : Term V) → AreLinked N x y → IsDecided (HasName x) → label x ≡ label y
    linked_labels x y h (inl k) = label-named x k.0 k.1 ∙ sym (label-named y k.0 (next y x (name k.0) (back x y h) k.1))
    linked_labels x y h (inr k) = label-numbered x k ∙ (ap numbered (number-linked x y us h) ∙ sym (label-numbered y (λ l. k (l.0, next x y (name l.0) h l.1))))

    -- linked terms have one label
    pub label-linked : (x y : Term V) → AreLinked N x y → label x ≡ label y
    label-linked x y h = linked_labels x y h (decided_name variables slots N x)

    unlinked : (x y : Term V) → IsDecided (HasName x) → IsDecided (HasName y) → HasName x ⊎ (0 < number x us) → label x ≡ label y → AreLinked N x y
    unlinked x y (inl h) (inl k) c e =
        let d : ◌≡◌ {A = Label} (named h.0) (named k.0) = sym (label-named x h.0 h.1) ∙ (e ∙ label-named y k.0 k.1) in
        let p : h.0 ≡ k.0 = cc d in
        next x (name k.0) y (subst (λ a. AreLinked N x (name a)) p h.1) (back y (name k.0) k.1)
    unlinked x y (inl h) (inr l) c e = absurd (let d : ◌≡◌ {A = Label} (named h.0) (numbered (number y us)) = sym (label-named x h.0 h.1) ∙ (e ∙ label-numbered y l) in cc d)
    unlinked x y (inr k) (inl h) c e = absurd (let d : ◌≡◌ {A = Label} (numbered (number x us)) (named h.0) = sym (label-numbered x k) ∙ (e ∙ label-named y h.0 h.1) in cc d)
    unlinked x y (inr k) (inr l) (inl h) e = absurd (k h)
    unlinked x y (inr k) (inr l) (inr p) e =
        let d : ◌≡◌ {A = Label} (numbered (number x us)) (numbered (number y us)) = sym (label-numbered x k) ∙ (e ∙ label-numbered y l) in
        linked-number x y us (cc d) p

    -- terms with one label are linked, where the first has a name or is linked with one of the list
    pub linked-label : (x y : Term V) → HasName x ⊎ (0 < number x us) → label x ≡ label y → AreLinked N x y
    linked-label x y = unlinked x y (decided_name variables slots N x) (decided_name variables slots N y)

    named_from : (x : Term V) (a : ℕ) → IsDecided (HasName x) → label x ≡ named a → AreLinked N x (name a)
    named_from x a (inl h) e =
        let d : ◌≡◌ {A = Label} (named h.0) (named a) = sym (label-named x h.0 h.1) ∙ e in
        let p : h.0 ≡ a = cc d in
        subst (λ b. AreLinked N x (name b)) p h.1
    named_from x a (inr k) e = absurd (let d : ◌≡◌ {A = Label} (numbered (number x us)) (named a) = sym (label-numbered x k) ∙ e in cc d)

    pub label-name : (x : Term V) (a : ℕ) → (label x ≡ named a) ↔ AreLinked N x (name a)
    label-name x a = (named_from x a (decided_name variables slots N x), label-named x a)

  -- ---- one of each class that has no name, by first meeting in a list of terms
  abbrev IsCovered : List (Term V) → Term V → Type 0
  IsCovered us x = HasName x ⊎ (0 < number x us)

  pub record Classes (seen ws : List (Term V)) : Type 0 where
    pub more : List (Term V)
    pub covered : (w : Term V) → IsAmong ws w → IsCovered (seen ++ more) w
    pub order : IsNumberedFrom (length seen) (map (label (seen ++ more)) ws)

  zero_or_more : (n : ℕ) → (n ≡ 0) ⊎ (0 < n)
  zero_or_more zero = inl refl
  zero_or_more (suc n) = inr (omega arith)

  module _ (seen : List (Term V)) (w : Term V) (ws : List (Term V)) where
    with_name : HasName w → Classes seen ws → Classes seen (w ∷ ws)
    with_name h r = record {
      more = r.more;
      covered = λ x i. elim i [ inl e ↦ inl (subst HasName (sym e) h) | inr j ↦ r.covered x j ];
      order = subst (λ l. IsNumberedFrom (length seen) (l ∷ map (label (seen ++ r.more)) ws)) (sym (label-named (seen ++ r.more) w h.0 h.1)) r.order;
    }

    met_before : (HasName w → ⊥) → 0 < number w seen → Classes seen ws → Classes seen (w ∷ ws)
    met_before k p r =
        let f = number-front w seen r.more p in
        let q : number w (seen ++ r.more) ≡ number w seen = f.0 in
        let least : 0 < number w (seen ++ r.more) = omega (arith, p, q) in
        let most : number w (seen ++ r.more) ≤ length seen = let b = f.1 in omega (arith, b, q) in
        record {
          more = r.more;
          covered = λ x i. elim i [ inl e ↦ inr (subst (λ z. 0 < number z (seen ++ r.more)) (sym e) least) | inr j ↦ r.covered x j ];
          order = subst (λ l. IsNumberedFrom (length seen) (l ∷ map (label (seen ++ r.more)) ws)) (sym (label-numbered (seen ++ r.more) w k)) (inl (least, most, r.order));
        }

    met_first : (HasName w → ⊥) → number w seen ≡ 0 → Classes (seen ++ w ∷ []) ws → Classes seen (w ∷ ws)
    met_first k none r =
        let all = seen ++ (w ∷ r.more) in
        let same_list : (seen ++ w ∷ []) ++ r.more ≡ all = append_assoc seen (w ∷ []) r.more in
        let here : number w all ≡ suc (length seen) = number-new w seen r.more none in
        let longer : length (seen ++ w ∷ []) ≡ suc (length seen) = length-push seen w in
        record {
          more = w ∷ r.more;
          covered = λ x i. elim i [
            | inl e ↦ inr (subst (λ z. 0 < number z all) (sym e) (omega (arith, here)))
            | inr j ↦ subst (λ l. IsCovered l x) same_list (r.covered x j)
          ];
          order = subst (λ l. IsNumberedFrom (length seen) (l ∷ map (label all) ws)) (sym (label-numbered all w k ∙ ap numbered here))
              (inr (refl, subst (λ n. IsNumberedFrom n (map (label all) ws)) longer (subst (λ l. IsNumberedFrom (length (seen ++ w ∷ [])) (map (label l) ws)) same_list r.order)));
        }
      where
        length-push : (xs : List (Term V)) (x : Term V) → length (xs ++ x ∷ []) ≡ suc (length xs)
        length-push [] x = refl
        length-push (y ∷ ys) x = ap (λ n. suc n) (length-push ys x)

  pub classes : (seen ws : List (Term V)) → Classes seen ws
  classes seen [] = record { more = []; covered = λ w i. absurd i; order = tt }
  classes seen (w ∷ ws) = by_decision (decided_name variables slots N w) (zero_or_more (number w seen)) (classes seen ws) (classes (seen ++ w ∷ []) ws)
    where
      by_decision : IsDecided (HasName w) → (number w seen ≡ 0) ⊎ (0 < number w seen) → Classes seen ws → Classes (seen ++ w ∷ []) ws → Classes seen (w ∷ ws)
      by_decision (inl h) n old new = with_name seen w ws h old
      by_decision (inr k) (inl none) old new = met_first seen w ws k none new
      by_decision (inr k) (inr some) old new = met_before seen w ws k some old
