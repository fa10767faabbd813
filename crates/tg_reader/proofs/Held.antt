-- A bag that was read has just the pairs that were written.
use Rattle.std.specs.Prelude.{◌≡◌, ℕ, Bool, true, false, ◌==◌, List, [], ◌∷◌, ◌++◌, map, ◌⊎◌, if◌then◌else◌, refl}
use Rattle.std.proofs.Common.{inl, inr, ap, sym, ◌∙◌, subst, append_assoc, append-nil}
use Rattle.std.proofs.lemmas.Bool.{false≢true}
use Rattle.std.proofs.lemmas.Bool.Decides.{Decides-eqb}
use Rattle.std.proofs.lemmas.List.{map-append}
use Rattle.gr_base.specs.Lists.{InByteOrder, IsAmong, IsBefore, NoneTwice}
use Rattle.gr_base.proofs.Counting.{IsBefore-irreflexive}
use Rattle.gr_base.proofs.ListLemmas.{Each-at, IsAmong-append, IsAmong-append_left, IsAmong-append_right, IsAmong-map, IsAmong-map_from, IsAmong-new_one, IsAmong-one_more, NoneTwice-again}
use Rattle.gr_symbols.specs.Numbers.{Names}
use Rattle.gr_symbols.proofs.NumberLemmas.{one_text}
use Rattle.gr_terms.proofs.BagLemmas.{IsAmong-puts, IsAmong-puts_new, IsAmong-puts_old}
use Rattle.gr_terms.specs.Bags.{HasAttribute, Puts}
use Rattle.gr_terms.specs.Canonical.{Label, Pairs, category, properties}
use Rattle.gr_terms.specs.Constants.{CAT}
use Rattle.gr_terms.specs.declared.Sym.{Sym}
use Rattle.gr_terms.specs.declared.Term.{Term}
use Rattle.td_canon.proofs.UniqueForms.{attribute_text, category_found, one_pair, property_found}
use Rattle.td_tree.specs.Trees.{BagPairs}
use Rattle.tg_reader.specs.Reading.{PutsPairs, StandsForCategory, StandsForPair}

-- texts in byte order stand once
pub InByteOrder-once : (xs : List (List ℕ)) → InByteOrder xs → NoneTwice xs
InByteOrder-once [] order = tt
InByteOrder-once (x ∷ xs) order = ((λ i. IsBefore-irreflexive x (Each-at (IsBefore x) xs x order.0 i)), InByteOrder-once xs order.1)

-- ---- the category and the properties

pub category_from : (ps : Pairs) (v : Label) → IsAmong (category ps) v → IsAmong ps (CAT, v)
category_from [] v i = absurd i
category_from (p ∷ ps) v i = by (p.0 == CAT) refl i (category_from ps v)
  where
    by : (b : Bool) → (p.0 == CAT) ≡ b → IsAmong (if b then (p.1 ∷ []) else category ps) v → (IsAmong (category ps) v → IsAmong ps (CAT, v)) → IsAmong (p ∷ ps) (CAT, v)
    by true e (inl h) later = let attribute : CAT ≡ p.0 = sym ((Decides-eqb p.0 CAT).0 e) in inl (λ k. (attribute k, h k))
    by true e (inr j) later = absurd j
    by false e j later = inr (later j)

pub properties_from : (ps : Pairs) (p : ℕ × Label) → IsAmong (properties ps) p → IsAmong ps p × (p.0 ≡ CAT → ⊥)
properties_from [] p i = absurd i
properties_from (q ∷ ps) p i = by (q.0 == CAT) refl i (properties_from ps p)
  where
    by : (b : Bool) → (q.0 == CAT) ≡ b → IsAmong (if b then properties ps else (q ∷ properties ps)) p → (IsAmong (properties ps) p → IsAmong ps p × (p.0 ≡ CAT → ⊥)) → IsAmong (q ∷ ps) p × (p.0 ≡ CAT → ⊥)
    by true e j later = let r = later j in (inr r.0, r.1)
    by false e (inl h) later = (inl h, λ f. false≢true (sym e ∙ (Decides-eqb q.0 CAT).1 (sym (ap (λ (z : ℕ × Label). z.0) h) ∙ f)))
    by false e (inr j) later = let r = later j in (inr r.0, r.1)

pub category_short : (ps : Pairs) → (category ps ≡ []) ⊎ ((v : Label) × (category ps ≡ v ∷ []))
category_short [] = inl refl
category_short (p ∷ ps) = by (p.0 == CAT) (category_short ps)
  where
    by : (b : Bool) → (category ps ≡ []) ⊎ ((v : Label) × (category ps ≡ v ∷ [])) → ((if b then (p.1 ∷ []) else category ps) ≡ []) ⊎ ((v : Label) × ((if b then (p.1 ∷ []) else category ps) ≡ v ∷ []))
    by true later = inr (p.1, refl)
    by false later = later

properties_once : (text : ℕ → List ℕ) (ps : Pairs) → NoneTwice (map (attribute_text text) ps) → NoneTwice (map (attribute_text text) (properties ps))
properties_once text [] once = tt
properties_once text (p ∷ ps) once = by (p.0 == CAT) (properties_once text ps once.1)
  where
    by : (b : Bool) → NoneTwice (map (attribute_text text) (properties ps)) → NoneTwice (map (attribute_text text) (if b then properties ps else (p ∷ properties ps)))
    by true later = later
    by false later = (
      (λ i.
          let r = IsAmong-map_from (attribute_text text) (properties ps) (text p.0) i in
          once.0 (subst (λ k. IsAmong (map (attribute_text text) ps) k) (sym r.2) (IsAmong-map (attribute_text text) ps r.0 (properties_from ps r.0 r.1).0))),
      later,
    )

-- ---- pairs that were put in

module _ (text : ℕ → List ℕ) (texts : List (List ℕ)) where
  pub record Holds (ps : Pairs) (bag : BagPairs) : Type 0 where
    pub there : (p : ℕ × Label) → IsAmong ps p → (q : Sym × Term) × IsAmong bag q × StandsForPair text texts p q
    pub back : (q : Sym × Term) → IsAmong bag q → (p : ℕ × Label) × IsAmong ps p × StandsForPair text texts p q

  holds_more : (done : Pairs) (p : ℕ × Label) (old new : BagPairs) (q : Sym × Term) → Holds done old → StandsForPair text texts p q → Puts old new q → Holds (done ++ p ∷ []) new
  holds_more done p old new q holds stands puts = record {
    there = λ r i. elim (IsAmong-one_more done p r i) [
      | inl j ↦ let s = holds.there r j in (s.0, IsAmong-puts_old old new q puts s.0 s.1, s.2)
      | inr e ↦ (q, IsAmong-puts_new old new q puts, subst (λ z. StandsForPair text texts z q) (sym e) stands)
    ];
    back = λ s i. elim (IsAmong-puts old new q puts s i) [
      | inl e ↦ (p, IsAmong-new_one done p, subst (λ z. StandsForPair text texts p z) (sym e) stands)
      | inr j ↦ let r = holds.back s j in (r.0, IsAmong-append_left done (p ∷ []) r.0 r.1, r.2)
    ];
  }

  -- no pair was there before one with its attribute
  not_there : (done : Pairs) (p : ℕ × Label) (ps : Pairs) (old : BagPairs) (q : Sym × Term) → Holds done old → NoneTwice (map (attribute_text text) (done ++ p ∷ ps)) → StandsForPair text texts p q → HasAttribute old q.0 → ⊥
  not_there done p ps old q holds once stands has =
      let r = holds.back (q.0, has.0) has.1 in
      let same : text p.0 ≡ text r.0.0 = one_text texts q.0.0 (text p.0) (text r.0.0) stands.0 r.2.0 in
      NoneTwice-again (map (attribute_text text) done) (text p.0) (map (attribute_text text) ps) (subst (λ ks. NoneTwice ks) (map-append (attribute_text text) done (p ∷ ps)) once)
      (subst (λ k. IsAmong (map (attribute_text text) done) k) (sym same) (IsAmong-map (attribute_text text) done r.0 r.1))

  pub puts_holds : (done ps : Pairs) (old new : BagPairs) → Holds done old → NoneTwice (map (attribute_text text) (done ++ ps)) → PutsPairs text texts ps old new → Holds (done ++ ps) new
  puts_holds done [] old new holds once e = subst (λ zs. Holds zs new) (sym (append-nil done)) (subst (λ bag. Holds done bag) (sym e) holds)
  puts_holds done (p ∷ ps) old new holds once (mid, (q, stands, how), turns) = subst (λ zs. Holds zs new) (append_assoc done (p ∷ []) ps) (puts_holds (done ++ p ∷ []) ps mid new (elim how [
    | inl put ↦ holds_more done p old mid q holds stands put.1
    | inr kept ↦ absurd (not_there done p ps old q holds once stands kept.0)
  ]) (subst (λ zs. NoneTwice (map (attribute_text text) zs)) (sym (append_assoc done (p ∷ []) ps)) once) turns)

  pub holds_nothing : Holds [] []
  holds_nothing = record { there = λ p i. absurd i; back = λ q i. absurd i }

  pub list_holds : (ps : Pairs) (bag : BagPairs) → InByteOrder (map (attribute_text text) ps) → PutsPairs text texts ps [] bag → Holds ps bag
  list_holds ps bag order puts = puts_holds [] ps [] bag holds_nothing (InByteOrder-once (map (attribute_text text) ps) order) puts

  -- ---- and so a node's own bag

  module _ (cat : Names texts CAT (text CAT)) (only : (a : ℕ) → text a ≡ text CAT → a ≡ CAT) where
    abbrev categories : List Label → Pairs
    categories vs = map (λ v. (CAT, v)) vs

    category_holds : (vs : List Label) (bag : BagPairs) → StandsForCategory text texts vs bag → Holds (categories vs) bag
    category_holds [] bag e = subst (λ zs. Holds [] zs) (sym e) holds_nothing
    category_holds (v ∷ w ∷ vs) bag stands = absurd stands
    category_holds (v ∷ []) bag (x, stands, e) = subst (λ zs. Holds ((CAT, v) ∷ []) zs) (sym e) (record {
      there = λ p i. elim i [
        | inl h ↦ ((record { 0 = CAT }, x), inl refl, subst (λ z. StandsForPair text texts z (record { 0 = CAT }, x)) (sym h) (cat, stands))
        | inr j ↦ absurd j
      ];
      back = λ q i. elim i [
        | inl h ↦ ((CAT, v), inl refl, subst (λ z. StandsForPair text texts (CAT, v) z) (sym h) (cat, stands))
        | inr j ↦ absurd j
      ];
    })

    own_once : (ps : Pairs) → InByteOrder (map (attribute_text text) ps) → NoneTwice (map (attribute_text text) (categories (category ps) ++ properties ps))
    own_once ps order = by (category_short ps)
      where
        rest : NoneTwice (map (attribute_text text) (properties ps))
        rest = properties_once text ps (InByteOrder-once (map (attribute_text text) ps) order)

        by : (category ps ≡ []) ⊎ ((v : Label) × (category ps ≡ v ∷ [])) → NoneTwice (map (attribute_text text) (categories (category ps) ++ properties ps))
        by (inl e) = subst (λ vs. NoneTwice (map (attribute_text text) (categories vs ++ properties ps))) (sym e) rest
        by (inr (v, e)) = subst (λ vs. NoneTwice (map (attribute_text text) (categories vs ++ properties ps))) (sym e) (
          (λ i.
              let r = IsAmong-map_from (attribute_text text) (properties ps) (text CAT) i in
              (properties_from ps r.0 r.1).1 (only r.0.0 (sym r.2))),
          rest,
        )

    own_there : (ps : Pairs) (p : ℕ × Label) → InByteOrder (map (attribute_text text) ps) → IsAmong ps p → IsAmong (categories (category ps) ++ properties ps) p
    own_there ps p order i = by (p.0 == CAT) refl
      where
        by : (b : Bool) → (p.0 == CAT) ≡ b → IsAmong (categories (category ps) ++ properties ps) p
        by true e =
            let is : p.0 ≡ CAT = (Decides-eqb p.0 CAT).0 e in
            let r = category_found text ps p i is in
            let same : p ≡ r.0 = one_pair text ps p r.0 order i r.1 (is ∙ sym r.2) in
            let value : p.1 ≡ r.0.1 = ap (λ (z : ℕ × Label). z.1) same in
            IsAmong-append_left (categories (category ps)) (properties ps) p (subst (λ vs. IsAmong (categories vs) p) (sym r.3) (inl (λ k. (is k, value k))))
        by false e = IsAmong-append_right (categories (category ps)) (properties ps) p (property_found text ps p i (λ is. false≢true (sym e ∙ (Decides-eqb p.0 CAT).1 is)))

    own_back : (ps : Pairs) (p : ℕ × Label) → IsAmong (categories (category ps) ++ properties ps) p → IsAmong ps p
    own_back ps p i = elim (IsAmong-append (categories (category ps)) (properties ps) p i) [
      | inl j ↦ let r = IsAmong-map_from (λ v. (CAT, v)) (category ps) p j in subst (λ z. IsAmong ps z) (sym r.2) (category_from ps r.0 r.1)
      | inr j ↦ (properties_from ps p j).0
    ]

    pub own_holds : (ps : Pairs) (first bag : BagPairs) → InByteOrder (map (attribute_text text) ps) → StandsForCategory text texts (category ps) first → PutsPairs text texts (properties ps) first bag → Holds ps bag
    own_holds ps first bag order stands puts =
        let holds = puts_holds (categories (category ps)) (properties ps) first bag (category_holds (category ps) first stands) (own_once ps order) puts in
        record {
          there = λ p i. holds.there p (own_there ps p order i);
          back = λ q i. let r = holds.back q i in (r.0, own_back ps r.0 r.1, r.2);
        }
