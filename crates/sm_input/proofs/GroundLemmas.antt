-- Inputs that were read have no variables, and their literals are different.
use Rattle.std.proofs.Common.{◌≡◌, ℕ, suc, ◌+◌, ◌^◌, ◌<◌, List, [], ◌∷◌, drop, length, Option, Some, None, inl, inr, refl, ap, subst, arith}
use Rattle.std.specs.List.{AllZip}
use Rattle.std.specs.Fmt.{decimal}
use Rattle.std.proofs.lemmas.Fmt.{decimal_injective}
use Rattle.gr_base.specs.Lists.{IsAmong, Each, NoneTwice}
use Rattle.gr_terms.specs.declared.Term.{Term}
use Rattle.gr_terms.specs.declared.Term.TheVariants.{Const, Var}
use Rattle.gr_terms.specs.declared.Literal.{Literal}
use Rattle.gr_terms.specs.declared.Sym.{Sym}
use Rattle.gr_store.specs.Contents.{IsMade}
use Rattle.gr_symbols.proofs.NumberLemmas.{one_text}
use Rattle.gr_feats.specs.Grammars.{Written, a_name, a_variable, WrittenLiteral}
use Rattle.sm_input.specs.Inputs.{IsName, IsHandle, IsLiteral, AreNumbered, own_name}
use Rattle.gr_terms.specs.LiteralViews.{IsConst, AreConst}
use Rattle.sm_input.specs.Reading.{HandleHas, LiteralHas}
use Rattle.sm_input.proofs.Same.{word_of, zip_back}
use Rattle.sm_input.proofs.Spelled.{NoFeed}

made_const : (x : Term) → IsMade 0 x → IsConst x
made_const (Const s) h = tt
made_const (Var k) h = absurd (omega (arith, h))

pub bag_const : (bag : List (Sym × Term)) → Each (λ p. IsMade 0 p.1) bag → Each (λ p. IsConst p.1) bag
bag_const [] h = tt
bag_const (p ∷ ps) h = (made_const p.1 h.0, bag_const ps h.1)

module _ (texts : List (List ℕ)) where
  name_const : (w : Written) (x : Term) → IsName texts w x → IsConst x
  name_const (a_name t) (Const s) h = tt
  name_const (a_name t) (Var k) h = absurd h
  name_const (a_variable t) x h = absurd h

  names_const : (ws : List Written) (xs : List Term) → AllZip (IsName texts) ws xs → Each IsConst xs
  names_const [] [] h = tt
  names_const [] (x ∷ xs) h = absurd h
  names_const (w ∷ ws) [] h = absurd h
  names_const (w ∷ ws) (x ∷ xs) h = (name_const w x h.0, names_const ws xs h.1)

  handle_const : (number : ℕ) (w : Option Written) (x : Term) → IsHandle texts number w x → IsConst x
  handle_const number None (Const s) h = tt
  handle_const number None (Var k) h = absurd h
  handle_const number (Some w) x h = name_const w x h

  pub literals_const : (number : ℕ) (ws : List WrittenLiteral) (xs : List Literal) → AreNumbered texts number ws xs → Each AreConst xs
  literals_const number [] [] h = tt
  literals_const number [] (x ∷ xs) h = absurd h
  literals_const number (w ∷ ws) [] h = absurd h
  literals_const number (w ∷ ws) (x ∷ xs) h = (
    record { handle = handle_const number w.handle x.handle h.0.handle; pred = name_const w.pred x.pred h.0.pred; args = names_const w.args x.args h.0.args },
    literals_const (suc number) ws xs h.1,
  )

  pub numbered_length : (number : ℕ) (ws : List WrittenLiteral) (xs : List Literal) → AreNumbered texts number ws xs → length xs ≡ length ws
  numbered_length number [] [] h = refl
  numbered_length number [] (x ∷ xs) h = absurd h
  numbered_length number (w ∷ ws) [] h = absurd h
  numbered_length number (w ∷ ws) (x ∷ xs) h = ap suc (numbered_length (suc number) ws xs h.1)

  -- literals that are read as the same are written the same
  back_name : (w v : Written) (x : Term) → IsName texts w x → IsName texts v x → w ≡ v
  back_name (a_name t) (a_name u) (Const s) h k = ap a_name (one_text texts s.0 t u h k)
  back_name (a_name t) (a_variable u) (Const s) h k = absurd k
  back_name (a_name t) v (Var n) h k = absurd h
  back_name (a_variable t) v x h k = absurd h

  own_apart : (m n : ℕ) → m < 2 ^ 64 → n < 2 ^ 64 → m < n → own_name m ≡ own_name n → ⊥
  own_apart m n p q l e = let h = decimal_injective m n p q (ap (drop 1) e) in omega (arith, h, l)

  no_own : (number : ℕ) (w : Written) (x : Term) → NoFeed (word_of w) → IsHandle texts number None x → IsName texts w x → ⊥
  no_own number (a_name t) (Const s) f h k = f (decimal number) (one_text texts s.0 t (own_name number) k h)
  no_own number (a_name t) (Var j) f h k = h
  no_own number (a_variable t) x f h k = k

  back_handle : (m n : ℕ) (w v : Option Written) (x : Term) → m < 2 ^ 64 → n < 2 ^ 64 → m < n → HandleHas (λ u. NoFeed (word_of u)) w → HandleHas (λ u. NoFeed (word_of u)) v → IsHandle texts m w x → IsHandle texts n v x → w ≡ v
  back_handle m n None None (Const s) p q l f g h k = absurd (own_apart m n p q l (one_text texts s.0 (own_name m) (own_name n) h k))
  back_handle m n None None (Var j) p q l f g h k = absurd h
  back_handle m n None (Some v) x p q l f g h k = absurd (no_own m v x g h k)
  back_handle m n (Some w) None x p q l f g h k = absurd (no_own n w x f k h)
  back_handle m n (Some w) (Some v) x p q l f g h k = ap Some (back_name w v x h k)

  abbrev Fed : WrittenLiteral → Type 0
  Fed w = LiteralHas (λ u. NoFeed (word_of u)) w

  back_literal : (m n : ℕ) (w v : WrittenLiteral) (x : Literal) → m < 2 ^ 64 → n < 2 ^ 64 → m < n → Fed w → Fed v → IsLiteral texts m w x → IsLiteral texts n v x → w ≡ v
  back_literal m n w v x p q l f g h k =
      let a = back_handle m n w.handle v.handle x.handle p q l f.handle g.handle h.handle k.handle in
      let b = back_name w.pred v.pred x.pred h.pred k.pred in
      let c = zip_back (IsName texts) back_name w.args v.args x.args h.args k.args in
      λ i. record { handle = a i; pred = b i; args = c i }

  not_again : (m n : ℕ) (w : WrittenLiteral) (x : Literal) (ws : List WrittenLiteral) (xs : List Literal) → m < n → n + length ws < 2 ^ 64 → Fed w → Each Fed ws → IsLiteral texts m w x → AreNumbered texts n ws xs → (IsAmong ws w → ⊥) → IsAmong xs x → ⊥
  not_again m n w x [] [] l r f g h k new i = i
  not_again m n w x [] (y ∷ ys) l r f g h k new i = k
  not_again m n w x (v ∷ vs) [] l r f g h k new i = k
  not_again m n w x (v ∷ vs) (y ∷ ys) l r f g h k new (inl e) =
      new (inl (back_literal m n w v y (omega (arith, l, r)) (omega (arith, r)) l f g.0 (subst (IsLiteral texts m w) e h) k.0))
  not_again m n w x (v ∷ vs) (y ∷ ys) l r f g h k new (inr i) = not_again m (suc n) w x vs ys (omega (arith, l)) (omega (arith, r)) f g.1 h k.1 (λ j. new (inr j)) i

  pub literals_differ : (number : ℕ) (ws : List WrittenLiteral) (xs : List Literal) → number + length ws < 2 ^ 64 → Each Fed ws → NoneTwice ws → AreNumbered texts number ws xs → NoneTwice xs
  literals_differ number [] [] r f once h = tt
  literals_differ number [] (x ∷ xs) r f once h = absurd h
  literals_differ number (w ∷ ws) [] r f once h = absurd h
  literals_differ number (w ∷ ws) (x ∷ xs) r f once h = (
    (λ i. not_again number (suc number) w x ws xs (omega arith) (omega (arith, r)) f.0 f.1 h.0 h.1 once.0 i),
    literals_differ (suc number) ws xs (omega (arith, r)) f.1 once.1 h.1,
  )
