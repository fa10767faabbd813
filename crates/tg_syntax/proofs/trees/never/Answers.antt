use Rattle.std.proofs.Common.{◌≡◌, ◌<◌, ℕ, List, [], ◌∷◌, Bool, true, false, get_or, refl, arith}
use Rattle.std.specs.Prelude.{◌==◌}
use Rattle.std.proofs.lemmas.Bool.{eqb-true}
use Rattle.gr_grammar.specs.Grammars.{Runs, failed, bad_token, bad_end}
use Rattle.tg_syntax.specs.Trees.{never}
use Rattle.tg_syntax.specs.Files.{system}
use Rattle.tg_syntax.proofs.trees.never.Goals as goal

no_such : (t : ℕ) (v : Bool) → (t == 256) ≡ v → t < 256 → v ≡ false
no_such t true e h = let k = eqb-true t 256 e in absurd (omega arith)
no_such t false e h = refl

stuck : (ts : List ℕ) → ((i : ℕ) → get_or ts i 0 < 256) → Runs system never ts (failed ts)
stuck [] h = bad_end
stuck (t ∷ ts) h = let k : t < 256 = h 0 in bad_token (no_such t (t == 256) refl k)

pub returns : goal.returns
returns c = stuck _ (λ i. let h = c.type_inv.rest i in omega (arith, h))
