-- What the code's answer says that a file isn't compiled.
use Rattle.rl_refusals.specs.declared.refusal.Refusal.{Refusal}
use Rattle.rl_top.specs.declared.refusals.Stop.{Stop}
use Rattle.rl_top.specs.declared.refusals.Stop.TheVariants.{Refused, Memory}

-- it is a refusal of which P holds, or memory was wanting, and M holds
abbrev pub Stops : Type 0 → (Refusal → Type 0) → Stop → Type 0
Stops M P (Refused r) = P r
Stops M P Memory = M
