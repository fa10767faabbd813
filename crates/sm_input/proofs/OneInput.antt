-- One input is read of what is written, and it stays right as the table of texts grows.
use Rattle.std.proofs.Common.{◌≡◌, ℕ, suc, List, [], ◌∷◌, Option, Some, None, refl, ap}
use Rattle.std.specs.List.{AllZip}
use Rattle.gr_base.specs.Lists.{NoneTwice}
use Rattle.gr_base.proofs.Zips.{AllZip-one}
use Rattle.gr_terms.specs.declared.Term.{Term}
use Rattle.gr_terms.specs.declared.Term.TheVariants.{Const, Var}
use Rattle.gr_terms.specs.declared.Literal.{Literal}
use Rattle.gr_symbols.specs.Numbers.{Grows}
use Rattle.gr_symbols.proofs.NumberLemmas.{Names-grows}
use Rattle.gr_feats.specs.Grammars.{Written, a_name, a_variable, WrittenLiteral}
use Rattle.gr_feats.specs.Numberings.{none_met, IsNumbering}
use Rattle.gr_feats.proofs.OneAnswer.{one_bag}
use Rattle.gr_feats.proofs.StayLemmas.{bag_stays}
use Rattle.sm_input.specs.declared.input.Input.{Input}
use Rattle.sm_input.specs.Firsts.{firsts}
use Rattle.sm_input.specs.Grammars.{WrittenInput}
use Rattle.sm_input.specs.Inputs.{IsName, IsHandle, IsLiteral, AreNumbered, IsInput, AreInputs, own_name}
use Rattle.sm_input.proofs.Same.{same_sym}

pub none_is_numbering : IsNumbering none_met
none_is_numbering = record { once = tt; rising = tt; below = tt }

module _ (texts : List (List ℕ)) (once : NoneTwice texts) where
  one_name : (w : Written) (x y : Term) → IsName texts w x → IsName texts w y → x ≡ y
  one_name (a_name t) (Const a) (Const b) h k = ap Const (same_sym texts once a b t h k)
  one_name (a_name t) (Const a) (Var j) h k = absurd k
  one_name (a_name t) (Var i) y h k = absurd h
  one_name (a_variable t) x y h k = absurd h

  one_handle : (number : ℕ) (w : Option Written) (x y : Term) → IsHandle texts number w x → IsHandle texts number w y → x ≡ y
  one_handle number None (Const a) (Const b) h k = ap Const (same_sym texts once a b (own_name number) h k)
  one_handle number None (Const a) (Var j) h k = absurd k
  one_handle number None (Var i) y h k = absurd h
  one_handle number (Some w) x y h k = one_name w x y h k

  one_literal : (number : ℕ) (w : WrittenLiteral) (x y : Literal) → IsLiteral texts number w x → IsLiteral texts number w y → x ≡ y
  one_literal number w x y h k =
      let a = one_handle number w.handle x.handle y.handle h.handle k.handle in
      let b = one_name w.pred x.pred y.pred h.pred k.pred in
      let c = AllZip-one (IsName texts) one_name w.args x.args y.args h.args k.args in
      λ i. record { handle = a i; pred = b i; args = c i }

  one_row : (number : ℕ) (ws : List WrittenLiteral) (xs ys : List Literal) → AreNumbered texts number ws xs → AreNumbered texts number ws ys → xs ≡ ys
  one_row number [] [] [] h k = refl
  one_row number [] [] (y ∷ ys) h k = absurd k
  one_row number [] (x ∷ xs) ys h k = absurd h
  one_row number (w ∷ ws) [] ys h k = absurd h
  one_row number (w ∷ ws) (x ∷ xs) [] h k = absurd k
  one_row number (w ∷ ws) (x ∷ xs) (y ∷ ys) h k = let a = one_literal number w x y h.0 k.0 in let b = one_row (suc number) ws xs ys h.1 k.1 in λ i. a i ∷ b i

  one_input : (w : WrittenInput) (x y : Input) → IsInput texts w x → IsInput texts w y → x ≡ y
  one_input w x y h k =
      let a = same_sym texts once x.name y.name w.name h.name k.name in
      let b = (one_bag texts once none_met w.start (record { bag = x.start; again = None }) (record { bag = y.start; again = None }) none_met none_met none_is_numbering h.start k.start).0 in
      let c = one_row 1 (firsts [] w.literals) x.literals y.literals h.literals k.literals in
      λ i. record { name = a i; start = (b i).bag; literals = c i }

  pub one_inputs : (ws : List WrittenInput) (xs ys : List Input) → AreInputs texts ws xs → AreInputs texts ws ys → xs ≡ ys
  one_inputs = AllZip-one (IsInput texts) one_input

module _ (texts later : List (List ℕ)) (grows : Grows texts later) where
  name_stays : (w : Written) (x : Term) → IsName texts w x → IsName later w x
  name_stays (a_name t) (Const s) h = Names-grows texts later s.0 t h grows
  name_stays (a_name t) (Var k) h = absurd h
  name_stays (a_variable t) x h = absurd h

  pub zip_stays : {W X : Type 0} (R S : W → X → Type 0) → ((w : W) (x : X) → R w x → S w x) → (ws : List W) (xs : List X) → AllZip R ws xs → AllZip S ws xs
  zip_stays R S stays [] [] h = tt
  zip_stays R S stays [] (x ∷ xs) h = absurd h
  zip_stays R S stays (w ∷ ws) [] h = absurd h
  zip_stays R S stays (w ∷ ws) (x ∷ xs) h = (stays w x h.0, zip_stays R S stays ws xs h.1)

  handle_stays : (number : ℕ) (w : Option Written) (x : Term) → IsHandle texts number w x → IsHandle later number w x
  handle_stays number None (Const s) h = Names-grows texts later s.0 (own_name number) h grows
  handle_stays number None (Var k) h = absurd h
  handle_stays number (Some w) x h = name_stays w x h

  literals_stay : (number : ℕ) (ws : List WrittenLiteral) (xs : List Literal) → AreNumbered texts number ws xs → AreNumbered later number ws xs
  literals_stay number [] [] h = tt
  literals_stay number [] (x ∷ xs) h = absurd h
  literals_stay number (w ∷ ws) [] h = absurd h
  literals_stay number (w ∷ ws) (x ∷ xs) h = (
    record { handle = handle_stays number w.handle x.handle h.0.handle; pred = name_stays w.pred x.pred h.0.pred; args = zip_stays (IsName texts) (IsName later) name_stays w.args x.args h.0.args },
    literals_stay (suc number) ws xs h.1,
  )

  input_stays : (w : WrittenInput) (x : Input) → IsInput texts w x → IsInput later w x
  input_stays w x h = record {
    name = Names-grows texts later x.name.0 w.name h.name grows;
    start = bag_stays texts later grows none_met w.start (record { bag = x.start; again = None }) none_met h.start;
    literals = literals_stay 1 (firsts [] w.literals) x.literals h.literals;
  }

  pub inputs_stay : (ws : List WrittenInput) (xs : List Input) → AreInputs texts ws xs → AreInputs later ws xs
  inputs_stay = zip_stays (IsInput texts) (IsInput later) input_stays
