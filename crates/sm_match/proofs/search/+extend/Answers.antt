use Rattle.std.proofs.Common.{◌≡◌, ◌+◌, ◌<◌, ◌≤◌, [], ◌∷◌, ◌++◌, length, get_or, refl, ap, sym, ◌∙◌, subst, arith}
use Rattle.std.proofs.lemmas.List.{take_all}
use Rattle.std.proofs.lemmas.Option.{slice_get_within}
use Rattle.std.proofs.lemmas.Result.{err_from_is_err_and}
use Rattle.std.specs.Prelude.{slice_get, Some, Err}
use Rattle.gr_base.specs.Lists.{IsAmong, IsRising}
use Rattle.gr_base.proofs.ListLemmas.{IsAmong-get_or}
use Rattle.sm_match.specs.declared.search.State.{State}
use Rattle.tg_model.specs.declared.instance.Instance.{Instance}
use Rattle.tg_model.specs.Instances.{FitsPlace, MayStandAt}
use Rattle.sm_match.specs.Index.{wanted_name, suiting}
use Rattle.sm_match.specs.Listings.{Adds, Finds}
use Rattle.sm_match.specs.Tasks.{IsBegun, IsFrom}
use Rattle.sm_match.proofs.IndexLemmas.{suiting-rises}
use Rattle.sm_match.proofs.ListingLemmas.{adds_none}
use Rattle.sm_match.proofs.PlaceLemmas.{fit_few, stands_there, only_there}
use Rattle.sm_match.proofs.SearchLemmas.{finds_alike, finds_err, from_here, next_added, next_over, all_added, suited_fits, one_longer, taken_back, IsAmongFrom}
use Rattle.sm_match.proofs.search.+extend.Goals.{then-branch+in_ok-extend, else-branch}
use Rattle.sm_match.proofs.search.+extend.Goals as goal

pub returns-then-at-len-clause-finds : goal.returns-then-at-len-clause-finds
returns-then-at-len-clause-finds t c =
    let task = c.args.task.now in
    let ps = c.args.state.now.places.items in
    let all : length ps ≡ length task.tree.now.sem = sym c.requires.at ∙ c.if-at-len.true ∙ c.len.ensures in
    let here : Instance = record { tree = task.number; places = c.as_slice.result.now } in
    let same : here ≡ record { tree = task.number; places = ps } = λ k. record { tree = task.number; places = c.as_slice.ensures.value k } in
    let stands : MayStandAt task.input.now task.tree.now ps = stands_there task.input.now task.tree.now ps c.args.state.now.bindings.items c.requires.task.nodes c.requires.task.bags c.requires.begun all in
    finds_alike (λ i. i ≡ here) (IsFrom task ps) c.args.state.now.found c.add.new.found c.add.result (λ i e. from_here task ps i stands (e ∙ same))
    (λ i h. only_there task.input.now task.tree.now task.number ps all i h ∙ sym same) c.add.ensures

pub get-literal-requires : goal.get-literal-requires
get-literal-requires t c =
    let few : length c.args.state.now.places.items ≤ length c.args.task.now.tree.now.sem = fit_few c.args.task.now.input.now c.args.task.now.tree.now.sem c.args.state.now.places.items c.requires.begun.fits in
    let at : c.args.at ≡ length c.args.state.now.places.items = c.requires.at in
    let other : c.args.at ≡ length c.args.task.now.tree.now.sem → ⊥ = λ e. c.if-at-len.false (e ∙ sym c.len.ensures) in
    omega arith

pub put-requires : goal.put-requires
put-requires t c =
    let task = c.args.task.now in
    let ps = c.args.state.now.places.items in
    let l = c.get-literal.result.now in
    let at : slice_get task.tree.now.sem (length ps) ≡ Some l = subst (λ n. slice_get task.tree.now.sem n ≡ Some l) c.requires.at c.get-literal.ensures in
    let cs = c.places-place-items.result.now in
    let is : cs ≡ suiting 0 (wanted_name l.pred) (length l.args) task.input.now = c.places-place-items.ensures task.input.now c.requires.task.index in
    let p = get_or cs c.loop-place.place-index 0 in
    let fits : FitsPlace task.input.now l p = suited_fits task ps c.requires.task l at p (subst (λ xs. IsAmong xs p) is (IsAmong-get_or cs c.loop-place.place-index 0 c.loop-place-test.true)) in
    record {
      task = c.requires.task;
      begun = subst (λ qs. IsBegun task.input.now task.tree.now.sem qs c.loop-place.state.bindings.items) (sym c.loop-place.invariant.places)
          (subst (λ bs. IsBegun task.input.now task.tree.now.sem ps bs) (sym c.loop-place.invariant.bindings) c.requires.begun);
      next = subst (λ qs. slice_get task.tree.now.sem (length qs) ≡ Some l) (sym c.loop-place.invariant.places) at;
      within = slice_get_within task.input.now p fits.0 fits.1;
      fits = fits;
    }

pub extend-requires : goal.extend-requires
extend-requires t c =
    let r = c.in_ok-put.ensures.put c.if-branch.true in
    let longer : c.args.at + 1 ≡ length c.put.new.places.items =
    one_longer c.loop-place.state.places.items c.put.new.places.items c.args.state.now.places.items (get_or c.places-place-items.result.now c.loop-place.place-index 0) c.args.at r.0 c.loop-place.invariant.places
    c.requires.at in
    let within : c.args.at < length c.args.task.now.tree.now.sem = slice_get_within c.args.task.now.tree.now.sem c.args.at c.get-literal.result.now c.get-literal.ensures in
    (omega arith, (c.requires.task, (r.1, longer)))

pub returns-in_err-extend-clause-finds : goal.returns-in_err-extend-clause-finds
returns-in_err-extend-clause-finds t c =
    let task = c.args.task.now in
    let ps = c.args.state.now.places.items in
    let l = c.get-literal.result.now in
    let cs = c.places-place-items.result.now in
    let is : cs ≡ suiting 0 (wanted_name l.pred) (length l.args) task.input.now = c.places-place-items.ensures task.input.now c.requires.task.index in
    let p = get_or cs c.loop-place.place-index 0 in
    let rises : IsRising cs = subst (λ xs. IsRising xs) (sym is) (suiting-rises (wanted_name l.pred) (length l.args) 0 task.input.now) in
    let r = err_from_is_err_and c.from_residual-in_err-extend.result c.from_residual-in_err-extend.ensures.1 in
    rw (r.1, r.2) (finds_err (Unit {0}) (Unit {0}) (IsFrom task ps) (IsFrom task (ps ++ p ∷ [])) c.args.state.now.found c.loop-place.state.found c.extend.new.state.found c.extend.new.state.found c.in_err-extend.field-0.0
    (next_over task ps cs c.loop-place.place-index p c.loop-place-test.true refl rises c.args.state.now.found c.loop-place.state.found c.loop-place.invariant.finds)
    (subst (λ qs. Finds {U = Unit {0}} (IsFrom task qs) c.loop-place.state.found c.extend.new.state.found (Err c.in_err-extend.field-0.0)) ((c.in_ok-put.ensures.put c.if-branch.true).0 ∙ ap (λ qs. qs ++ p ∷ []) c.loop-place.invariant.places)
    c.in_err-extend.ensures.finds))

pub loop-place-preserved : goal.loop-place-preserved
loop-place-preserved t c =
    let task = c.args.task.now in
    let ps = c.args.state.now.places.items in
    let l = c.get-literal.result.now in
    let cs = c.places-place-items.result.now in
    let is : cs ≡ suiting 0 (wanted_name l.pred) (length l.args) task.input.now = c.places-place-items.ensures task.input.now c.requires.task.index in
    let p = get_or cs c.loop-place.place-index 0 in
    let rises : IsRising cs = subst (λ xs. IsRising xs) (sym is) (suiting-rises (wanted_name l.pred) (length l.args) 0 task.input.now) in
    let same_places : c.if-branch.state.places.items ≡ c.put.new.places.items = elim c.if-branch.branch [
      | then-branch+in_ok-extend w ↦ ap (λ (s : State). s.places.items) w.state-is ∙ w.in_ok-extend.ensures.places
      | else-branch w ↦ ap (λ (s : State). s.places.items) w.state-is
    ] in
    let same_bindings : c.if-branch.state.bindings.items ≡ c.put.new.bindings.items = elim c.if-branch.branch [
      | then-branch+in_ok-extend w ↦ ap (λ (s : State). s.bindings.items) w.state-is ∙ w.in_ok-extend.ensures.bindings
      | else-branch w ↦ ap (λ (s : State). s.bindings.items) w.state-is
    ] in
    let next : Adds (IsFrom task (ps ++ p ∷ [])) c.loop-place.state.found c.if-branch.state.found = elim c.if-branch.branch [
      | then-branch+in_ok-extend w ↦
          subst (λ is. Adds (IsFrom task (ps ++ p ∷ [])) c.loop-place.state.found is) (sym (ap (λ (s : State). s.found) w.state-is))
          (subst (λ qs. Adds (IsFrom task qs) c.loop-place.state.found w.extend.new.state.found) ((c.in_ok-put.ensures.put w.if-branch.true).0 ∙ ap (λ qs. qs ++ p ∷ []) c.loop-place.invariant.places) w.in_ok-extend.ensures.finds)
      | else-branch w ↦
          subst (λ is. Adds (IsFrom task (ps ++ p ∷ [])) c.loop-place.state.found is) (sym (ap (λ (s : State). s.found) w.state-is))
          (adds_none (IsFrom task (ps ++ p ∷ [])) c.loop-place.state.found (λ i h. c.in_ok-put.ensures.none w.if-branch.false i (subst (λ qs. IsFrom task (qs ++ p ∷ []) i) (sym c.loop-place.invariant.places) h)))
    ] in
    record {
      finds = next_added task ps cs c.loop-place.place-index p c.loop-place-test.true refl rises c.args.state.now.found c.loop-place.state.found c.if-branch.state.found c.loop-place.invariant.finds next;
      places = taken_back ps c.loop-place.state.places.items c.if-branch.state.places.items c.truncate.new.self.items c.args.at c.requires.at c.loop-place.invariant.places c.in_ok-put.ensures.more
          (same_places ∙ c.in_ok-put.ensures.places) c.truncate.ensures.items;
      bindings = taken_back c.args.state.now.bindings.items c.loop-place.state.bindings.items c.if-branch.state.bindings.items c.truncate-in-loop-place.new.self.items c.len-before.result
          (c.len-before.ensures ∙ c.args.state.now.bindings.ok.0) c.loop-place.invariant.bindings c.in_ok-put.ensures.bindings.0 (same_bindings ∙ c.in_ok-put.ensures.bindings.1) c.truncate-in-loop-place.ensures.items;
    }

pub returns-clause-finds : goal.returns-clause-finds
returns-clause-finds t c =
    let task = c.args.task.now in
    let ps = c.args.state.now.places.items in
    let l = c.get-literal.result.now in
    let at : slice_get task.tree.now.sem (length ps) ≡ Some l = subst (λ n. slice_get task.tree.now.sem n ≡ Some l) c.requires.at c.get-literal.ensures in
    let cs = c.places-place-items.result.now in
    let is : cs ≡ suiting 0 (wanted_name l.pred) (length l.args) task.input.now = c.places-place-items.ensures task.input.now c.requires.task.index in
    all_added task ps c.requires.task l at c.args.state.now.found c.loop-place.state.found
    (subst (λ xs. Adds (IsAmongFrom task ps xs) c.args.state.now.found c.loop-place.state.found) (take_all c.loop-place.place-index cs c.loop-place-test.false ∙ is) c.loop-place.invariant.finds)
