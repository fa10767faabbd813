-- A loop over a row makes a run of the row.
use Rattle.std.proofs.Common.{◌≡◌, List, [], ◌∷◌, ◌++◌, true, false, refl, sym, ◌∙◌, append_assoc, append-nil}
use Rattle.gr_grammar.specs.Grammars.{Grammar, star, System, Matches, Runs, run_both, run_first, run_end, run_more, End, took, failed, tree_of, begins, items, Rounds, start, round, round_items}

unfoldable pub close : {C T : Type 0} {S : System C T} {g : Grammar C} {ts mid : List T} {e : End T} → Rounds S g ts mid → Runs S (star g) mid e → Runs S (star g) ts e
close start m = m
close (round r b a) m = close r (run_more b (run_both a m))

unfoldable pub ended : {C T : Type 0} {S : System C T} {g : Grammar C} {ts mid : List T} → Rounds S g ts mid → begins S g mid ≡ false → Runs S (star g) ts (took mid)
ended r b = close r (run_end b)

pub close-items : {C T A : Type 0} {S : System C T} {g : Grammar C} (f : (ts rest : List T) → Matches S g ts rest → A) {ts mid rest : List T} (r : Rounds S g ts mid) (m : Runs S (star g) mid (took rest)) →
    items f (tree_of (close r m)) ≡ round_items f r ++ items f (tree_of m)
unfolding close
close-items f start m = refl
close-items f (round {mid} {rest} r b a) m = close-items f r (run_more b (run_both a m)) ∙ sym (append_assoc (round_items f r) (f mid rest (tree_of a) ∷ []) (items f (tree_of m)))

pub ended-items : {C T A : Type 0} {S : System C T} {g : Grammar C} (f : (ts rest : List T) → Matches S g ts rest → A) {ts mid : List T} (r : Rounds S g ts mid) (b : begins S g mid ≡ false) →
    items f (tree_of (ended r b)) ≡ round_items f r
unfolding ended
ended-items f r b = close-items f r (run_end b) ∙ append-nil (round_items f r)

pub broken : {C T : Type 0} {S : System C T} {g : Grammar C} {ts mid rest : List T} → Rounds S g ts mid → begins S g mid ≡ true → Runs S g mid (failed rest) → Runs S (star g) ts (failed rest)
broken r b a = close r (run_more b (run_first a))
