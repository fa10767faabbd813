-- What a run says of all tokens: they are a text where it took them all, and else it stopped at the first place after which no text goes on.
use Rattle.std.proofs.Common.{◌≡◌, ℕ, ◌<◌, ◌≤◌, List, [], ◌∷◌, ◌++◌, length, true, refl, ap, sym, ◌∙◌, subst, arith, length-append, append-nil}
use Rattle.gr_grammar.specs.declared.brackets.Turn.{Turn}
use Rattle.gr_grammar.specs.Grammars.{Grammar, System, IsSystem, GoesOn, IsText, IsFault, is_clear, End, took, failed, Runs, tree_of}
use Rattle.gr_grammar.specs.Depths.{IsShallow, IsShallowFault, IsTooDeep, IsCut}
use Rattle.gr_grammar.specs.Readings.{IsStop, IsStopBefore}
use Rattle.gr_grammar.proofs.Exact.{fault_of, fault_behind}
use Rattle.gr_grammar.proofs.Fronts.{no_longer}
use Rattle.gr_grammar.proofs.Deep.{early, at_depth, at_end}
use Rattle.gr_grammar.proofs.Places.{one_fault, no_fault, one_place, no_place}

module _ {C T : Type 0} (S : System C T) (K : IsSystem S) (g : Grammar C) (clear : is_clear S g ≡ true) where
  -- where a run stopped is the first place
  pub stop_fault : {ts : List T} (e : End T) {rest : List T} → Runs S g ts e → IsStop e rest → IsFault S g ts rest
  stop_fault (took []) r s = absurd (let h = s.1 in omega arith)
  stop_fault {ts} (took (t ∷ w)) r s = subst (λ z. IsFault S g ts z) (sym s.0) (fault_behind S K t w clear r)
  stop_fault {ts} (failed left) r s = subst (λ z. IsFault S g ts z) (sym s) (fault_of S K clear r)

  -- each run took all, or stopped
  pub whole_end : {ts : List T} (e : End T) → Runs S g ts e → IsText S g ts → e ≡ took []
  whole_end (took []) r m = refl
  whole_end (took (t ∷ w)) r m = absurd (no_fault S g (t ∷ w) m (fault_behind S K t w clear r))
  whole_end (failed left) r m = absurd (no_fault S g left m (fault_of S K clear r))

  pub took_text : {ts : List T} (e : End T) → Runs S g ts e → e ≡ took [] → IsText S g ts
  took_text {ts} e r k = tree_of (subst (λ z. Runs S g ts z) k r)

  pub fault_stop : {ts : List T} (e : End T) {rest : List T} → Runs S g ts e → IsFault S g ts rest → IsStop e rest
  fault_stop (took []) {rest} r f = absurd (no_fault S g rest (tree_of r) f)
  fault_stop (took (t ∷ w)) r f = (one_fault S g f (fault_behind S K t w clear r), omega arith)
  fault_stop (failed left) r f = one_fault S g f (fault_of S K clear r)

  -- no more is left than there was
  pub failed_within : {part left : List T} → Runs S g part (failed left) → length left ≤ length part
  failed_within {part} {left} r = let f = fault_of S K clear r in let e = ap length f.split in let l = length-append f.front left in omega arith

  pub took_within : {part left : List T} → Runs S g part (took left) → length left ≤ length part
  took_within r = no_longer S (tree_of r)

  module _ (turn : T → Turn) (limit : ℕ) where
    moved : {ts us rest : List T} → us ≡ ts → IsShallowFault S turn limit g us rest → IsShallowFault S turn limit g ts rest
    moved {rest = rest} e f = subst (λ z. IsShallowFault S turn limit g z rest) e f

    -- a fault of the shallow part is one of all tokens, or the first bracket that is too deep is
    pub lifted : (part deep rest : List T) → IsShallow turn limit 0 part → IsTooDeep turn limit part deep → IsFault S g part rest → IsShallowFault S turn limit g (part ++ deep) (rest ++ deep)
    lifted part deep (t ∷ w) room here f = early S turn limit g part deep t w room f
    lifted part [] [] room here f = subst (λ z. IsShallowFault S turn limit g z []) (sym (append-nil part)) (at_end S turn limit g part room f)
    lifted part (t ∷ w) [] room here f = at_depth S turn limit g part t w room here (subst (λ z. GoesOn S g z) (sym (f.split ∙ append-nil f.front)) f.before)

    -- the whole of the shallow part is a text, and a bracket that is too deep stands behind it
    pub deeper : (part deep : List T) → IsShallow turn limit 0 part → IsTooDeep turn limit part deep → 0 < length deep → IsText S g part → IsShallowFault S turn limit g (part ++ deep) deep
    deeper part [] room here h m = absurd (omega arith)
    deeper part (t ∷ w) room here h m = at_depth S turn limit g part t w room here ([], subst (λ z. IsText S g z) (sym (append-nil part)) m)

    pub stop_place : {ts part deep : List T} (e : End T) {rest : List T} → IsCut turn limit ts part deep → Runs S g part e → IsStopBefore e deep rest → IsShallowFault S turn limit g ts rest
    stop_place {ts} {part} {deep} (took []) {rest} cut r s =
        moved (sym cut.split) (subst (λ z. IsShallowFault S turn limit g (part ++ deep) z) (sym s.0) (deeper part deep cut.shallow cut.here (let h = s.1 in let k = ap length s.0 in omega arith) (tree_of r)))
    stop_place {ts} {part} {deep} (took (t ∷ w)) cut r s =
        moved (sym cut.split) (subst (λ z. IsShallowFault S turn limit g (part ++ deep) z) (sym s.0) (lifted part deep (t ∷ w) cut.shallow cut.here (fault_behind S K t w clear r)))
    stop_place {ts} {part} {deep} (failed left) cut r s =
        moved (sym cut.split) (subst (λ z. IsShallowFault S turn limit g (part ++ deep) z) (sym s) (lifted part deep left cut.shallow cut.here (fault_of S K clear r)))

    -- nothing deep, and the run took all
    pub took_whole : {ts part deep : List T} (e : End T) → IsCut turn limit ts part deep → Runs S g part e → e ≡ took [] → deep ≡ [] → IsText S g ts × IsShallow turn limit 0 ts
    took_whole {ts} {part} {deep} e cut r k none =
        let all : ts ≡ part = cut.split ∙ (ap (λ z. part ++ z) none ∙ append-nil part) in
        (subst (λ z. IsText S g z) (sym all) (took_text e r k), subst (λ z. IsShallow turn limit 0 z) (sym all) cut.shallow)

    pub whole_took : {ts part : List T} (e : End T) (deep : List T) → IsCut turn limit ts part deep → Runs S g part e → IsText S g ts → IsShallow turn limit 0 ts → (e ≡ took []) × (deep ≡ [])
    whole_took (took []) [] cut r m room = (refl, refl)
    whole_took (took []) (t ∷ w) cut r m room = absurd (no_place S turn limit g (t ∷ w) m room (stop_place (took []) cut r (refl, omega arith)))
    whole_took (took (t ∷ w)) deep cut r m room = absurd (no_place S turn limit g (t ∷ w ++ deep) m room (stop_place (took (t ∷ w)) cut r (refl, omega arith)))
    whole_took (failed left) deep cut r m room = absurd (no_place S turn limit g (left ++ deep) m room (stop_place (failed left) cut r refl))

    pub place_stop : {ts part : List T} (e : End T) (deep : List T) {rest : List T} → IsCut turn limit ts part deep → Runs S g part e → IsShallowFault S turn limit g ts rest → IsStopBefore e deep rest
    place_stop (took []) [] {rest} cut r f = let w = took_whole (took []) cut r refl refl in absurd (no_place S turn limit g rest w.0 w.1 f)
    place_stop (took []) (t ∷ w) {rest} cut r f = stopped (one_place S turn limit g f (stop_place (took []) cut r (refl, omega arith)))
      where
        stopped : rest ≡ t ∷ w → (rest ≡ t ∷ w) × (0 < length rest)
        stopped e = (e, let k = ap length e in omega arith)
    place_stop (took (t ∷ w)) deep {rest} cut r f = stopped (one_place S turn limit g f (stop_place (took (t ∷ w)) cut r (refl, omega arith)))
      where
        stopped : rest ≡ t ∷ w ++ deep → (rest ≡ t ∷ w ++ deep) × (0 < length rest)
        stopped e = (e, let k = ap length e in omega arith)
    place_stop (failed left) deep cut r f = one_place S turn limit g f (stop_place (failed left) cut r refl)
