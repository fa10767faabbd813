-- The features of a node block are spelled again by their pieces.
use Rattle.std.specs.Prelude.{◌≡◌, ℕ, List, [], ◌∷◌, ◌++◌, map, Option, Some, None, codes, unwrap_or, refl, ◌⊎◌}
use Rattle.std.proofs.Common.{sym, ap, ◌∙◌, subst, inl, inr, arith}
use Rattle.gr_base.specs.Lists.{Each, IsAmong, NoneTwice}
use Rattle.gr_base.proofs.ListLemmas.{Each-append, Each-at}
use Rattle.gr_symbols.specs.Numbers.{Names}
use Rattle.gr_terms.specs.declared.Sym.{Sym}
use Rattle.mg_syntax.specs.declared.body.Side.{Side}
use Rattle.mg_reader.specs.declared.lexeme.Kind.TheVariants as kind
use Rattle.mg_reader.specs.declared.lexeme.Lexeme.{Lexeme}
use Rattle.mg_reader.specs.declared.found.Feature.{Feature}
use Rattle.mg_reader.specs.declared.found.Feature.TheVariants as feature
use Rattle.mg_reader.specs.declared.found.Features.{Features}
use Rattle.mg_reader.specs.Values.{or_else, with_feature, with_features, no_features, category_pairs}
use Rattle.mg_reader.specs.Spelling.{IsA, Separated, MaybeEnclosed, SpellsSide, SpellsBag, SpellsFeature, a_category, a_top, a_bottom, feature_number}
use Rattle.mg_printer.specs.Pieces.{Piece, a_sign, a_key, enclosed}
use Rattle.mg_printer.specs.Values.{side_pieces, bag_pieces}
use Rattle.mg_printer.specs.Blocks.{category_pieces, feature_parts}
use Rattle.mg_reader.proofs.Real.{IsReal}
use Rattle.mg_printer.proofs.Canons.{Canon, Then, One, canon_map, canon_then, canon_key, square}
use Rattle.mg_printer.proofs.CanonLists.{AreCanon}
use Rattle.mg_printer.proofs.CanonValues.{plain, equals, comma, canon_side, canon_bag}
use Rattle.mg_printer.proofs.CanonParts.{IsPart, in_brackets, canon_parts}

abbrev pub feature_pieces : Feature → List Piece
feature_pieces (feature.Category v) = a_key (codes "cat") ∷ a_sign (codes "=") ∷ side_pieces v
feature_pieces (feature.Top b) = a_key (codes "top") ∷ a_sign (codes "=") ∷ bag_pieces b
feature_pieces (feature.Bottom b) = a_key (codes "bot") ∷ a_sign (codes "=") ∷ bag_pieces b

-- features with these values, as they stand in the canonical spelling
abbrev pub category_list : Option Side → List Feature
category_list None = []
category_list (Some v) = feature.Category v ∷ []

abbrev pub bag_list : (List (Sym × Side) → Feature) → List (Sym × Side) → List Feature
bag_list g [] = []
bag_list g (p ∷ ps) = g (p ∷ ps) ∷ []

abbrev pub feature_list : Option Side → List (Sym × Side) → List (Sym × Side) → List Feature
feature_list c t b = category_list c ++ bag_list feature.Top t ++ bag_list feature.Bottom b

-- features in brackets with these values
abbrev pub SpellsFeatures : Option Side → List (Sym × Side) → List (Sym × Side) → List Lexeme → List Lexeme → Type 0
SpellsFeatures c t b ts rest =
    (fs : List Feature) × NoneTwice (map feature_number fs) × MaybeEnclosed kind.LeftBracket kind.RightBracket (Separated kind.Comma SpellsFeature) fs ts rest
    × ((with_features no_features fs).category ≡ c) × (unwrap_or (with_features no_features fs).top [] ≡ t) × (unwrap_or (with_features no_features fs).bottom [] ≡ b)

module _ (texts : List (List ℕ)) where
  join_category : (v : Side) (a b : List Lexeme) → Then (One (λ j. IsA kind.Cat j × Names texts j.name.0 (codes "cat"))) (Then (One (IsA kind.Equals)) (SpellsSide v)) a b → SpellsFeature (feature.Category v) a b
  join_category v a b (m, (j, e, q), (n, (d, f, i), s)) = subst (λ z. SpellsFeature (feature.Category v) z b) (sym (e ∙ ap (λ z. j ∷ z) f)) (a_category q.0 i s)

  join_top : (v : List (Sym × Side)) (a b : List Lexeme) → Then (One (λ j. IsA kind.Top j × Names texts j.name.0 (codes "top"))) (Then (One (IsA kind.Equals)) (SpellsBag v)) a b → SpellsFeature (feature.Top v) a b
  join_top v a b (m, (j, e, q), (n, (d, f, i), s)) = subst (λ z. SpellsFeature (feature.Top v) z b) (sym (e ∙ ap (λ z. j ∷ z) f)) (a_top q.0 i s)

  join_bottom : (v : List (Sym × Side)) (a b : List Lexeme) → Then (One (λ j. IsA kind.Bot j × Names texts j.name.0 (codes "bot"))) (Then (One (IsA kind.Equals)) (SpellsBag v)) a b → SpellsFeature (feature.Bottom v) a b
  join_bottom v a b (m, (j, e, q), (n, (d, f, i), s)) = subst (λ z. SpellsFeature (feature.Bottom v) z b) (sym (e ∙ ap (λ z. j ∷ z) f)) (a_bottom q.0 i s)

  pub canon_feature : (g : Feature) (ts rest : List Lexeme) → Each (IsReal texts) ts → SpellsFeature g ts rest → Canon texts (SpellsFeature g) (feature_pieces g) ts rest
  canon_feature _ _ rest real (a_category {k} {e} {v} {ts} i j s) =
      canon_map texts (λ a b q. join_category v a b q) (canon_then texts (canon_key texts kind.Cat (codes "cat") refl refl (λ n. omega arith) (omega arith) (omega arith) k real.0 i) (canon_then texts (plain texts equals e j) (canon_side texts v ts rest real.1.1 s)))
  canon_feature _ _ rest real (a_top {k} {e} {b = v} {ts} i j s) =
      canon_map texts (λ a b q. join_top v a b q) (canon_then texts (canon_key texts kind.Top (codes "top") refl refl (λ n. omega arith) (omega arith) (omega arith) k real.0 i) (canon_then texts (plain texts equals e j) (canon_bag texts v ts rest real.1.1 s)))
  canon_feature _ _ rest real (a_bottom {k} {e} {b = v} {ts} i j s) =
      canon_map texts (λ a b q. join_bottom v a b q) (canon_then texts (canon_key texts kind.Bot (codes "bot") refl refl (λ n. omega arith) (omega arith) (omega arith) k real.0 i) (canon_then texts (plain texts equals e j) (canon_bag texts v ts rest real.1.1 s)))

  features : AreCanon texts SpellsFeature feature_pieces
  features = record { canon = canon_feature }

  -- what counts is one of the features, or was there before
  or_one : {A : Type 0} (a : Option A) (v w : A) → or_else a (Some v) ≡ Some w → (a ≡ Some w) ⊎ (v ≡ w)
  or_one None v w e = inr cc
  or_one (Some a) v w e = inl e

  category_among : (fs : List Feature) (q : Features) (v : Side) → (with_features q fs).category ≡ Some v → (q.category ≡ Some v) ⊎ IsAmong fs (feature.Category v)
  category_among [] q v e = inl e
  category_among (feature.Category w ∷ fs) q v e = elim (category_among fs (with_feature q (feature.Category w)) v e) [
    | inl h ↦ elim (or_one q.category w v h) [ inl g ↦ inl g | inr g ↦ inr (inl (ap feature.Category (sym g))) ]
    | inr i ↦ inr (inr i)
  ]
  category_among (feature.Top t ∷ fs) q v e = elim (category_among fs (with_feature q (feature.Top t)) v e) [ inl h ↦ inl h | inr i ↦ inr (inr i) ]
  category_among (feature.Bottom t ∷ fs) q v e = elim (category_among fs (with_feature q (feature.Bottom t)) v e) [ inl h ↦ inl h | inr i ↦ inr (inr i) ]

  top_among : (fs : List Feature) (q : Features) (v : List (Sym × Side)) → (with_features q fs).top ≡ Some v → (q.top ≡ Some v) ⊎ IsAmong fs (feature.Top v)
  top_among [] q v e = inl e
  top_among (feature.Top w ∷ fs) q v e = elim (top_among fs (with_feature q (feature.Top w)) v e) [
    | inl h ↦ elim (or_one q.top w v h) [ inl g ↦ inl g | inr g ↦ inr (inl (ap feature.Top (sym g))) ]
    | inr i ↦ inr (inr i)
  ]
  top_among (feature.Category t ∷ fs) q v e = elim (top_among fs (with_feature q (feature.Category t)) v e) [ inl h ↦ inl h | inr i ↦ inr (inr i) ]
  top_among (feature.Bottom t ∷ fs) q v e = elim (top_among fs (with_feature q (feature.Bottom t)) v e) [ inl h ↦ inl h | inr i ↦ inr (inr i) ]

  bottom_among : (fs : List Feature) (q : Features) (v : List (Sym × Side)) → (with_features q fs).bottom ≡ Some v → (q.bottom ≡ Some v) ⊎ IsAmong fs (feature.Bottom v)
  bottom_among [] q v e = inl e
  bottom_among (feature.Bottom w ∷ fs) q v e = elim (bottom_among fs (with_feature q (feature.Bottom w)) v e) [
    | inl h ↦ elim (or_one q.bottom w v h) [ inl g ↦ inl g | inr g ↦ inr (inl (ap feature.Bottom (sym g))) ]
    | inr i ↦ inr (inr i)
  ]
  bottom_among (feature.Category t ∷ fs) q v e = elim (bottom_among fs (with_feature q (feature.Category t)) v e) [ inl h ↦ inl h | inr i ↦ inr (inr i) ]
  bottom_among (feature.Top t ∷ fs) q v e = elim (bottom_among fs (with_feature q (feature.Top t)) v e) [ inl h ↦ inl h | inr i ↦ inr (inr i) ]

  -- a bag that has a pair is one that was written
  was_some : (o : Option (List (Sym × Side))) (p : Sym × Side) (ps : List (Sym × Side)) → unwrap_or o [] ≡ p ∷ ps → o ≡ Some (p ∷ ps)
  was_some None p ps e = absurd cc
  was_some (Some b) p ps e = ap Some e

  none_before : {A : Type 0} (v : A) (B : Type 0) → (◌≡◌ {A = Option A} None (Some v)) ⊎ B → B
  none_before v B (inl e) = absurd cc
  none_before v B (inr b) = b

  -- so the features of the canonical spelling are among those that were written
  category_parts_of : (I : Feature → Type 0) (fs : List Feature) → Each I fs → (c : Option Side) → (with_features no_features fs).category ≡ c → Each I (category_list c)
  category_parts_of I fs h None e = tt
  category_parts_of I fs h (Some v) e = (Each-at I fs (feature.Category v) h (none_before v (IsAmong fs (feature.Category v)) (category_among fs no_features v e)), tt)

  top_parts_of : (I : Feature → Type 0) (fs : List Feature) → Each I fs → (t : List (Sym × Side)) → unwrap_or (with_features no_features fs).top [] ≡ t → Each I (bag_list feature.Top t)
  top_parts_of I fs h [] e = tt
  top_parts_of I fs h (p ∷ ps) e =
      (Each-at I fs (feature.Top (p ∷ ps)) h (none_before (p ∷ ps) (IsAmong fs (feature.Top (p ∷ ps))) (top_among fs no_features (p ∷ ps) (was_some (with_features no_features fs).top p ps e))), tt)

  bottom_parts_of : (I : Feature → Type 0) (fs : List Feature) → Each I fs → (t : List (Sym × Side)) → unwrap_or (with_features no_features fs).bottom [] ≡ t → Each I (bag_list feature.Bottom t)
  bottom_parts_of I fs h [] e = tt
  bottom_parts_of I fs h (p ∷ ps) e =
      (Each-at I fs (feature.Bottom (p ∷ ps)) h (none_before (p ∷ ps) (IsAmong fs (feature.Bottom (p ∷ ps))) (bottom_among fs no_features (p ∷ ps) (was_some (with_features no_features fs).bottom p ps e))), tt)

  -- where no feature was written, none is
  none_given : (fs : List Feature) (c : Option Side) (t b : List (Sym × Side)) → (with_features no_features fs).category ≡ c → unwrap_or (with_features no_features fs).top [] ≡ t → unwrap_or (with_features no_features fs).bottom [] ≡ b
      → (feature_list c t b ≡ [] → ⊥) → fs ≡ [] → ⊥
  none_given [] None [] [] e f g some n = some refl
  none_given [] None [] (p ∷ ps) e f g some n = absurd cc
  none_given [] None (p ∷ ps) b e f g some n = absurd cc
  none_given [] (Some v) t b e f g some n = absurd cc
  none_given (x ∷ fs) c t b e f g some n = absurd cc

  apart_numbers : NoneTwice {A = ℕ} (0 ∷ 1 ∷ 2 ∷ [])
  apart_numbers = (λ i. elim i [ inl e ↦ absurd cc | inr j ↦ elim j [ inl e ↦ absurd cc | inr k ↦ k ] ], (λ i. elim i [ inl e ↦ absurd cc | inr k ↦ k ], (λ i. i, tt)))

  -- the features of the canonical spelling have these values, each number once
  listed : (c : Option Side) (t b : List (Sym × Side)) (ts rest : List Lexeme) → MaybeEnclosed kind.LeftBracket kind.RightBracket (Separated kind.Comma SpellsFeature) (feature_list c t b) ts rest → SpellsFeatures c t b ts rest
  listed None [] [] ts rest s = ([], tt, s, refl, refl, refl)
  listed None [] (q ∷ qs) ts rest s = (feature_list None [] (q ∷ qs), apart_numbers.1.1, s, refl, refl, refl)
  listed None (p ∷ ps) [] ts rest s = (feature_list None (p ∷ ps) [], (λ i. i, tt), s, refl, refl, refl)
  listed None (p ∷ ps) (q ∷ qs) ts rest s = (feature_list None (p ∷ ps) (q ∷ qs), apart_numbers.1, s, refl, refl, refl)
  listed (Some v) [] [] ts rest s = (feature_list (Some v) [] [], (λ i. i, tt), s, refl, refl, refl)
  listed (Some v) [] (q ∷ qs) ts rest s = (feature_list (Some v) [] (q ∷ qs), (λ i. elim i [ inl e ↦ absurd cc | inr k ↦ k ], apart_numbers.1.1), s, refl, refl, refl)
  listed (Some v) (p ∷ ps) [] ts rest s = (feature_list (Some v) (p ∷ ps) [], (λ i. elim i [ inl e ↦ absurd cc | inr k ↦ k ], (λ i. i, tt)), s, refl, refl, refl)
  listed (Some v) (p ∷ ps) (q ∷ qs) ts rest s = (feature_list (Some v) (p ∷ ps) (q ∷ qs), apart_numbers, s, refl, refl, refl)

  listed_pieces : (c : Option Side) (t b : List (Sym × Side)) → map feature_pieces (feature_list c t b) ≡ map category_pieces (category_pairs c) ++ feature_parts (codes "top") t ++ feature_parts (codes "bot") b
  listed_pieces None [] [] = refl
  listed_pieces None [] (q ∷ qs) = refl
  listed_pieces None (p ∷ ps) [] = refl
  listed_pieces None (p ∷ ps) (q ∷ qs) = refl
  listed_pieces (Some v) [] [] = refl
  listed_pieces (Some v) [] (q ∷ qs) = refl
  listed_pieces (Some v) (p ∷ ps) [] = refl
  listed_pieces (Some v) (p ∷ ps) (q ∷ qs) = refl

  pub canon_features : (c : Option Side) (t b : List (Sym × Side)) (ts rest : List Lexeme) → Each (IsReal texts) ts → SpellsFeatures c t b ts rest
      → Canon texts (SpellsFeatures c t b) (enclosed (codes "[") (map category_pieces (category_pairs c) ++ feature_parts (codes "top") t ++ feature_parts (codes "bot") b) (codes "]")) ts rest
  canon_features c t b ts rest real (fs, once, s, e, f, g) =
      let known = in_brackets texts SpellsFeature feature_pieces features kind.Comma refl square real s in
      let I = IsPart texts SpellsFeature feature_pieces known.inner in
      let each : Each I (feature_list c t b) =
      Each-append I (category_list c ++ bag_list feature.Top t) (bag_list feature.Bottom b) (Each-append I (category_list c) (bag_list feature.Top t) (category_parts_of I fs known.each c e) (top_parts_of I fs known.each t f)) (bottom_parts_of I fs known.each b g)
      in
      let whole = canon_parts texts SpellsFeature feature_pieces square comma known (feature_list c t b) (none_given fs c t b e f g) each in
      subst (λ z. Canon texts (SpellsFeatures c t b) (enclosed (codes "[") z (codes "]")) ts rest) (listed_pieces c t b) (canon_map texts (λ x y q. listed c t b x y q) whole)
