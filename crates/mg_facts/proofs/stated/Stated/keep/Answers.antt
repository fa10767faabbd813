use Rattle.std.proofs.Common.{rules, ◌≡◌, ◌+◌, ◌*◌, ◌^◌, ◌<◌, ◌≤◌, Some, slice_get, length, take, refl, inl, inr, ap, ◌∙◌, arith}
use Rattle.std.proofs.lemmas.Option.{slice_get_read}
use Rattle.mg_facts.proofs.StatedLemmas.{few, network_marked, classes_marked, IsStated-first, reads_first}
use Rattle.mg_facts.proofs.stated.Stated.keep.Goals as goal

pub overflow_mul-vars : goal.overflow_mul-vars
overflow_mul-vars c =
    let lt : c.args.count < length c.self.inside.facts.items = search rules in
    let lp : c.args.count < length c.self.inside.past.items = omega (arith, c.self.invariant.count) in
    let at : slice_get c.self.inside.past.items c.args.count ≡ Some c.index-past.result.now =
    slice_get_read c.self.inside.past.items (length c.self.inside.past.items) c.args.count c.index-past.result.now refl lp c.index-past.ensures
    in
    let is_n : c.count-self-inside.result ≡ length (take c.index-past.result.now.names c.self.inside.names) = c.count-self-inside.ensures.count ∙ ap length c.keep.ensures in
    let f : c.count-self-inside.result ≤ length c.self.inside.names = few c.self.inside.names c.self.inside.used c.self.inside.facts.items c.self.inside.past.items c.self.inside.network c.self.inside.classes c.self.inside.fed c.self.invariant c.args.count lt c.index-past.result.now at c.count-self-inside.result is_n in
    let small : c.self.inside.network.slots < 2 ^ 32 = c.agrees.ensures.fits.slots in
    omega (arith, c.self.invariant.slots)

pub overflow_add-vars : goal.overflow_add-vars
overflow_add-vars c =
    let lt : c.args.count < length c.self.inside.facts.items = search rules in
    let lp : c.args.count < length c.self.inside.past.items = omega (arith, c.self.invariant.count) in
    let at : slice_get c.self.inside.past.items c.args.count ≡ Some c.index-past.result.now =
    slice_get_read c.self.inside.past.items (length c.self.inside.past.items) c.args.count c.index-past.result.now refl lp c.index-past.ensures
    in
    let is_n : c.count-self-inside.result ≡ length (take c.index-past.result.now.names c.self.inside.names) = c.count-self-inside.ensures.count ∙ ap length c.keep.ensures in
    let f : c.count-self-inside.result ≤ length c.self.inside.names = few c.self.inside.names c.self.inside.used c.self.inside.facts.items c.self.inside.past.items c.self.inside.network c.self.inside.classes c.self.inside.fed c.self.invariant c.args.count lt c.index-past.result.now at c.count-self-inside.result is_n in
    let small : c.self.inside.network.slots < 2 ^ 32 = c.agrees.ensures.fits.slots in
    omega (arith, c.self.invariant.slots)

pub undo-requires : goal.undo-requires
undo-requires c =
    let lt : c.args.count < length c.self.inside.facts.items = search rules in
    let lp : c.args.count < length c.self.inside.past.items = omega (arith, c.self.invariant.count) in
    let at : slice_get c.self.inside.past.items c.args.count ≡ Some c.index-past.result.now =
    slice_get_read c.self.inside.past.items (length c.self.inside.past.items) c.args.count c.index-past.result.now refl lp c.index-past.ensures
    in
    let is_n : c.count-self-inside.result ≡ length (take c.index-past.result.now.names c.self.inside.names) = c.count-self-inside.ensures.count ∙ ap length c.keep.ensures in
    network_marked c.self.inside.names c.self.inside.used c.self.inside.facts.items c.self.inside.past.items c.self.inside.network c.self.inside.classes c.self.inside.fed c.self.invariant c.args.count lt c.index-past.result.now at c.count-self-inside.result is_n

pub undo-requires-2 : goal.undo-requires-2
undo-requires-2 c =
    let lt : c.args.count < length c.self.inside.facts.items = search rules in
    let lp : c.args.count < length c.self.inside.past.items = omega (arith, c.self.invariant.count) in
    let at : slice_get c.self.inside.past.items c.args.count ≡ Some c.index-past.result.now =
    slice_get_read c.self.inside.past.items (length c.self.inside.past.items) c.args.count c.index-past.result.now refl lp c.index-past.ensures
    in
    let is_n : c.count-self-inside.result ≡ length (take c.index-past.result.now.names c.self.inside.names) = c.count-self-inside.ensures.count ∙ ap length c.keep.ensures in
    classes_marked c.self.inside.names c.self.inside.used c.self.inside.facts.items c.self.inside.past.items c.self.inside.network c.self.inside.classes c.self.inside.fed c.self.invariant c.args.count lt c.index-past.result.now at c.count-self-inside.result is_n

pub invariant_of-self : goal.invariant_of-self
invariant_of-self c =
    let lt : c.args.count < length c.self.inside.facts.items = search rules in
    let lp : c.args.count < length c.self.inside.past.items = omega (arith, c.self.invariant.count) in
    let at : slice_get c.self.inside.past.items c.args.count ≡ Some c.index-past.result.now =
    slice_get_read c.self.inside.past.items (length c.self.inside.past.items) c.args.count c.index-past.result.now refl lp c.index-past.ensures
    in
    let is_n : c.count-self-inside.result ≡ length (take c.index-past.result.now.names c.self.inside.names) = c.count-self-inside.ensures.count ∙ ap length c.keep.ensures in
    IsStated-first c.self.inside.names c.self.inside.used c.self.inside.facts.items c.self.inside.past.items c.self.inside.network c.self.inside.classes c.self.inside.fed c.self.invariant c.args.count lt c.index-past.result.now at c.count-self-inside.result is_n
    c.args.count (omega (arith, c.if-self-count.true)) (omega arith) (inr refl) c.keep.new.self c.keep.ensures c.truncate.new.self.items c.truncate.ensures.items c.truncate-2.new.self.items c.truncate-2.ensures.items c.undo.new.self c.undo-2.new.self c.undo.ensures c.undo-2.ensures

pub invariant_of-self-else-self-count : goal.invariant_of-self-else-self-count
invariant_of-self-else-self-count c =
    let lt : c.args.count < length c.self.inside.facts.items = search rules in
    let lp : c.args.count < length c.self.inside.past.items = omega (arith, c.self.invariant.count) in
    let at : slice_get c.self.inside.past.items c.args.count ≡ Some c.index-past.result.now =
    slice_get_read c.self.inside.past.items (length c.self.inside.past.items) c.args.count c.index-past.result.now refl lp c.index-past.ensures
    in
    let is_n : c.count-self-inside.result ≡ length (take c.index-past.result.now.names c.self.inside.names) = c.count-self-inside.ensures.count ∙ ap length c.keep.ensures in
    IsStated-first c.self.inside.names c.self.inside.used c.self.inside.facts.items c.self.inside.past.items c.self.inside.network c.self.inside.classes c.self.inside.fed c.self.invariant c.args.count lt c.index-past.result.now at c.count-self-inside.result is_n
    c.self.inside.fed (omega arith) (omega (arith, c.if-self-count.false)) (inl refl) c.keep.new.self c.keep.ensures c.truncate.new.self.items c.truncate.ensures.items c.truncate-2.new.self.items c.truncate-2.ensures.items c.undo.new.self c.undo-2.new.self c.undo.ensures c.undo-2.ensures

pub returns-then-self-count-clause-reads : goal.returns-then-self-count-clause-reads
returns-then-self-count-clause-reads c =
    let lt : c.args.count < length c.self.inside.facts.items = search rules in
    let lp : c.args.count < length c.self.inside.past.items = omega (arith, c.self.invariant.count) in
    let at : slice_get c.self.inside.past.items c.args.count ≡ Some c.index-past.result.now =
    slice_get_read c.self.inside.past.items (length c.self.inside.past.items) c.args.count c.index-past.result.now refl lp c.index-past.ensures
    in
    let is_n : c.count-self-inside.result ≡ length (take c.index-past.result.now.names c.self.inside.names) = c.count-self-inside.ensures.count ∙ ap length c.keep.ensures in
    reads_first c.self.inside.names c.self.inside.used c.self.inside.facts.items c.self.inside.past.items c.self.inside.network c.self.inside.classes c.self.inside.fed c.self.invariant c.args.count lt c.index-past.result.now at c.count-self-inside.result is_n
    c.keep.new.self c.keep.ensures c.truncate.new.self.items c.truncate.ensures.items c.args.self.now c.self.view_is

pub returns-else-self-count-clause-reads : goal.returns-else-self-count-clause-reads
returns-else-self-count-clause-reads c =
    let lt : c.args.count < length c.self.inside.facts.items = search rules in
    let lp : c.args.count < length c.self.inside.past.items = omega (arith, c.self.invariant.count) in
    let at : slice_get c.self.inside.past.items c.args.count ≡ Some c.index-past.result.now =
    slice_get_read c.self.inside.past.items (length c.self.inside.past.items) c.args.count c.index-past.result.now refl lp c.index-past.ensures
    in
    let is_n : c.count-self-inside.result ≡ length (take c.index-past.result.now.names c.self.inside.names) = c.count-self-inside.ensures.count ∙ ap length c.keep.ensures in
    reads_first c.self.inside.names c.self.inside.used c.self.inside.facts.items c.self.inside.past.items c.self.inside.network c.self.inside.classes c.self.inside.fed c.self.invariant c.args.count lt c.index-past.result.now at c.count-self-inside.result is_n
    c.keep.new.self c.keep.ensures c.truncate.new.self.items c.truncate.ensures.items c.args.self.now c.self.view_is
