-- Where no variable stands, none is met.
use Rattle.std.proofs.Common.{◌≡◌, ℕ, List, [], ◌∷◌, ◌∙◌, subst}
use Rattle.gr_base.specs.Lists.{Each}
use Rattle.gr_terms.specs.declared.Term.{Term}
use Rattle.gr_terms.specs.declared.Term.TheVariants.{Const, Var}
use Rattle.gr_feats.specs.declared.gathered.Pair.{Pair}
use Rattle.gr_feats.specs.declared.gathered.Gathered.{Gathered}
use Rattle.gr_feats.specs.Grammars.{Written, a_name, a_variable, WrittenPair}
use Rattle.gr_feats.specs.Numberings.{Numbering, none_met}
use Rattle.gr_feats.specs.Readings.{IsTerm, InTurn, IsPair, IsBag}
use Rattle.sm_input.specs.Reading.{IsPlain, IsStart}

-- where no variable stands none is met
plain_term : (texts : List (List ℕ)) (before : Numbering) (w : Written) (x : Term) (after : Numbering) → IsPlain w → IsTerm texts before w x after → after ≡ before
plain_term texts before (a_name t) (Const s) after p h = h.1
plain_term texts before (a_name t) (Var k) after p h = absurd h
plain_term texts before (a_variable t) x after p h = absurd p

pub plain_pairs : (texts : List (List ℕ)) (before : Numbering) (ws : List WrittenPair) (ps : List Pair) (after : Numbering) → Each (λ w. IsPlain w.value) ws → InTurn (IsPair texts) before ws ps after → after ≡ before
plain_pairs texts before [] [] after p h = h
plain_pairs texts before [] (x ∷ xs) after p h = absurd h
plain_pairs texts before (w ∷ ws) [] after p h = absurd h
plain_pairs texts before (w ∷ ws) (x ∷ xs) after p h = plain_pairs texts h.0 ws xs after p.1 h.2 ∙ plain_term texts before w.value x.value h.0 p.0 h.1.value

-- a bag that is read where no variable was met
pub as_start : (texts : List (List ℕ)) (before : Numbering) (ws : List WrittenPair) (g : Gathered) (after : Numbering) → before ≡ none_met → IsBag texts before ws g after → IsStart texts ws g
as_start texts before ws g after none h = (after, subst (λ n. IsBag texts n ws g after) none h)
