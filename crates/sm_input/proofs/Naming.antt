-- Literals with names for the handles that were left out, and inputs of them.
use Rattle.std.proofs.Common.{◌≡◌, ℕ, suc, ◌+◌, List, [], ◌∷◌, ◌++◌, length, Option, Some, None, refl, sym, ◌∙◌, ap, subst, arith, ◌==◌}
use Rattle.std.specs.List.{AllZip}
use Rattle.std.proofs.lemmas.List.{take_all}
use Rattle.gr_base.specs.Lists.{Each, NoneTwice}
use Rattle.gr_terms.specs.declared.Term.{Term}
use Rattle.gr_terms.specs.declared.Term.TheVariants.{Const, Var}
use Rattle.gr_terms.specs.declared.Literal.{Literal}
use Rattle.gr_symbols.specs.Numbers.{Names, Grows}
use Rattle.gr_symbols.proofs.NumberLemmas.{Names-grows}
use Rattle.gr_reader.specs.declared.complaints.Fault.TheVariants.{Duplicate, InputLiterals, TooManyInputs}
use Rattle.gr_feats.specs.Grammars.{Written, a_name, a_variable, WrittenLiteral}
use Rattle.gr_feats.specs.Numberings.{none_met}
use Rattle.gr_feats.specs.Readings.{IsBag}
use Rattle.sm_input.specs.declared.raw.RawLiteral.{RawLiteral}
use Rattle.sm_input.specs.declared.raw.RawInput.{RawInput}
use Rattle.sm_input.specs.declared.input.Input.{Input}
use Rattle.sm_input.specs.Grammars.{WrittenInput}
use Rattle.sm_input.specs.Complaints.{input_bad}
use Rattle.sm_input.specs.Firsts.{firsts}
use Rattle.sm_input.specs.Inputs.{IsName, IsHandle, IsLiteral, AreNumbered, IsInput, own_name}
use Rattle.sm_input.specs.Reading.{IsRawTerm, IsRawHandle, IsRawLiteral, IsRawInput, raw_bad, HasHandle, IsNamedLiteral, AreNamed, IsNamedInput, IsPlain, HandleHas, LiteralHas, IsFaultless}
use Rattle.sm_input.proofs.FirstLemmas.{firsts_each}
use Rattle.sm_input.proofs.KeptLemmas.{too_many}
use Rattle.gr_feats.specs.Complaints.{complaint_if, complaint_at}
use Rattle.gr_feats.proofs.ComplaintLemmas.{again_is}
use Rattle.sm_input.proofs.BagLemmas.{plain_pairs}

module _ (texts : List (List ℕ)) where
  plain_name : (w : Written) (x : Term) → IsPlain w → IsRawTerm texts w x → IsName texts w x
  plain_name (a_name t) (Const s) p h = h
  plain_name (a_name t) (Var k) p h = absurd h
  plain_name (a_variable t) x p h = absurd p

  plain_names : (ws : List Written) (xs : List Term) → Each IsPlain ws → AllZip (IsRawTerm texts) ws xs → AllZip (IsName texts) ws xs
  plain_names [] [] p h = tt
  plain_names [] (x ∷ xs) p h = absurd h
  plain_names (w ∷ ws) [] p h = absurd h
  plain_names (w ∷ ws) (x ∷ xs) p h = (plain_name w x p.0 h.0, plain_names ws xs p.1 h.1)

  named_handle : (number : ℕ) (w : Option Written) (r : Option Term) (x : Term) → HandleHas IsPlain w → IsRawHandle texts w r → HasHandle texts number r x → IsHandle texts number w x
  named_handle number None None (Const s) p h k = k
  named_handle number None None (Var j) p h k = absurd k
  named_handle number None (Some r) x p h k = absurd h
  named_handle number (Some w) None x p h k = absurd h
  named_handle number (Some w) (Some r) x p h k = subst (IsName texts w) (sym k) (plain_name w r p h)

  named_literal : (number : ℕ) (w : WrittenLiteral) (r : RawLiteral) (x : Literal) → LiteralHas IsPlain w → IsRawLiteral texts w r → IsNamedLiteral texts number r x → IsLiteral texts number w x
  named_literal number w r x p h k = record {
    handle = named_handle number w.handle r.handle x.handle p.handle h.handle k.handle;
    pred = subst (IsName texts w.pred) (sym k.pred) (plain_name w.pred r.pred p.pred h.pred);
    args = subst (AllZip (IsName texts) w.args) (sym k.args) (plain_names w.args r.args p.args h.args);
  }

  named_literals : (number : ℕ) (ws : List WrittenLiteral) (rs : List RawLiteral) (xs : List Literal) → Each (LiteralHas IsPlain) ws → AllZip (IsRawLiteral texts) ws rs → AreNamed texts number rs xs → AreNumbered texts number ws xs
  named_literals number [] [] [] p h k = tt
  named_literals number [] [] (x ∷ xs) p h k = absurd k
  named_literals number [] (r ∷ rs) xs p h k = absurd h
  named_literals number (w ∷ ws) [] xs p h k = absurd h
  named_literals number (w ∷ ws) (r ∷ rs) [] p h k = absurd k
  named_literals number (w ∷ ws) (r ∷ rs) (x ∷ xs) p h k = (named_literal number w r x p.0 h.0 k.0, named_literals (suc number) ws rs xs p.1 h.1 k.1)

  -- an input that nothing is wrong with
  pub input_right : NoneTwice texts → (w : WrittenInput) (r : RawInput) (i : Input) → IsRawInput texts w r → IsNamedInput texts r i → IsFaultless w → IsInput texts w i
  input_right apart w r i h k f =
      let F = firsts [] w.literals in
      let b = h.start.1 in
      let none : r.start.again ≡ None = again_is texts apart none_met h.start.0 w.start r.start b ∙ f.once in
      let met : h.start.0 ≡ none_met = plain_pairs texts none_met w.start b.pairs h.start.0 f.plain.start b.read in
      let bag : r.start ≡ record { bag = i.start; again = None } = λ j. record { bag = sym k.start j; again = none j } in
      record {
        name = subst (λ s. Names texts s.0 w.name) (sym k.name) h.name;
        start = subst (λ n. IsBag texts none_met w.start (record { bag = i.start; again = None }) n) met (subst (λ g. IsBag texts none_met w.start g h.start.0) bag b);
        literals = named_literals 1 F r.literals.items i.literals (firsts_each (LiteralHas IsPlain) [] w.literals f.plain.literals)
            (subst (λ u. AllZip (IsRawLiteral texts) u r.literals.items) (take_all 25 F (let l = f.few in omega (arith, l))) h.literals) k.literals;
      }

  -- its complaints are those of what is written
  pub bad_right : NoneTwice texts → (number : ℕ) (w : WrittenInput) (r : RawInput) → IsRawInput texts w r → raw_bad number r ≡ input_bad number w
  bad_right apart number w r h =
      let e = too_many texts w.literals r.literals.items h.literals in
      let a = again_is texts apart none_met h.start.0 w.start r.start h.start.1 in
      let l = h.left in
      λ i. complaint_if (e i) InputLiterals (l i) ++ (complaint_if (number == 4096) TooManyInputs (l i) ++ complaint_at Duplicate (a i))

-- names stay as the table grows
grown_handle : (old new : List (List ℕ)) → Grows old new → (number : ℕ) (r : Option Term) (x : Term) → HasHandle old number r x → HasHandle new number r x
grown_handle old new g number None (Const s) h = Names-grows old new s.0 (own_name number) h g
grown_handle old new g number None (Var k) h = absurd h
grown_handle old new g number (Some r) x h = h

pub grown_named : (old new : List (List ℕ)) → Grows old new → (number : ℕ) (rs : List RawLiteral) (xs : List Literal) → AreNamed old number rs xs → AreNamed new number rs xs
grown_named old new g number [] [] h = tt
grown_named old new g number [] (x ∷ xs) h = absurd h
grown_named old new g number (r ∷ rs) [] h = absurd h
grown_named old new g number (r ∷ rs) (x ∷ xs) h = (record { handle = grown_handle old new g number r.handle x.handle h.0.handle; pred = h.0.pred; args = h.0.args }, grown_named old new g (suc number) rs xs h.1)

pub grown_input : (old new : List (List ℕ)) → Grows old new → (r : RawInput) (i : Input) → IsNamedInput old r i → IsNamedInput new r i
grown_input old new g r i h = record { name = h.name; start = h.start; literals = grown_named old new g 1 r.literals.items i.literals h.literals }

-- one more literal
pub named_more : (texts : List (List ℕ)) (number : ℕ) (rs : List RawLiteral) (r : RawLiteral) (xs : List Literal) (x : Literal) → AreNamed texts number rs xs → IsNamedLiteral texts (number + length rs) r x → AreNamed texts number (rs ++ r ∷ []) (xs ++ x ∷ [])
named_more texts number [] r [] x h k = (subst (λ n. IsNamedLiteral texts n r x) (let e : number + 0 ≡ number = omega arith in e) k, tt)
named_more texts number [] r (y ∷ ys) x h k = absurd h
named_more texts number (s ∷ rs) r [] x h k = absurd h
named_more texts number (s ∷ rs) r (y ∷ ys) x h k = (h.0, named_more texts (suc number) rs r ys x h.1 (subst (λ n. IsNamedLiteral texts n r x) (let e : number + suc (length rs) ≡ suc number + length rs = omega arith in e) k))

pub named_length : (texts : List (List ℕ)) (number : ℕ) (rs : List RawLiteral) (xs : List Literal) → AreNamed texts number rs xs → length xs ≡ length rs
named_length texts number [] [] h = refl
named_length texts number [] (x ∷ xs) h = absurd h
named_length texts number (r ∷ rs) [] h = absurd h
named_length texts number (r ∷ rs) (x ∷ xs) h = ap suc (named_length texts (suc number) rs xs h.1)

pub named_none : (texts : List (List ℕ)) (number : ℕ) (xs : List Literal) → xs ≡ [] → AreNamed texts number [] xs
named_none texts number xs e = subst (AreNamed texts number []) (sym e) tt

pub named_step : (old new : List (List ℕ)) (rs : List RawLiteral) (r : RawLiteral) (xs : List Literal) (x : Literal) (ys : List Literal) (number : ℕ)
    → AreNamed old 1 rs xs → Grows old new → number ≡ length xs + 1 → IsNamedLiteral new number r x → ys ≡ xs ++ x ∷ [] → AreNamed new 1 (rs ++ r ∷ []) ys
named_step old new rs r xs x ys number h grows e k is =
    let l = named_length old 1 rs xs h in
    let n : number ≡ 1 + length rs = omega (arith, e, l) in
    subst (AreNamed new 1 (rs ++ r ∷ [])) (sym is) (named_more new 1 rs r xs x (grown_named old new grows 1 rs xs h) (subst (λ m. IsNamedLiteral new m r x) n k))
