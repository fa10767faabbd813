use Rattle.std.proofs.Common.{ℕ, List, [], ◌∷◌, ◌++◌}
use Rattle.gr_grammar.specs.declared.brackets.Turn.TheVariants.{Neither}
use Rattle.gr_grammar.specs.Grammars.{Grammar, System, IsFault, IsStuck}
use Rattle.gr_grammar.specs.Depths.{IsShallow, IsShallowFault, IsStuckShallow}
use Rattle.gr_grammar.proofs.laws.no_brackets.Goals as goal

inside : {T : Type 0} (limit n : ℕ) (ts : List T) → IsShallow (λ t. Neither) limit n ts
inside limit n [] = tt
inside limit n (t ∷ ts) = (tt, inside limit n ts)

module _ {C T : Type 0} (S : System C T) (limit : ℕ) (g : Grammar C) where
  stuck : (front rest : List T) → IsStuckShallow S (λ t. Neither) limit g front rest → IsStuck S g front rest
  stuck front [] h = h
  stuck front (t ∷ more) h = λ o. h o (inside limit 0 (front ++ t ∷ []))

  stuck_inside : (front rest : List T) → IsStuck S g front rest → IsStuckShallow S (λ t. Neither) limit g front rest
  stuck_inside front [] h = h
  stuck_inside front (t ∷ more) h = λ o s. h o

  fault : (ts rest : List T) → IsShallowFault S (λ t. Neither) limit g ts rest → IsFault S g ts rest
  fault ts rest f = record { front = f.front; split = f.split; before = f.before; here = stuck f.front rest f.here }

  fault_inside : (ts rest : List T) → IsFault S g ts rest → IsShallowFault S (λ t. Neither) limit g ts rest
  fault_inside ts rest f = record { front = f.front; split = f.split; before = f.before; shallow = inside limit 0 f.front; here = stuck_inside f.front rest f.here }

pub returns : goal.returns
returns g c = record {
  inside = λ limit n ts. inside limit n ts;
  place = λ S limit g ts rest. (λ f. fault S limit g ts rest f, λ f. fault_inside S limit g ts rest f);
}
