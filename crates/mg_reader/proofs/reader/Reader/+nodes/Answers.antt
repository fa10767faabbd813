use Rattle.std.proofs.Common.{rules, ◌≡◌, [], ◌∷◌, ◌++◌, Err, refl, sym, ap, ◌∙◌, arith, append-nil}
use Rattle.gr_reader.proofs.Steps.{pushed}
use Rattle.gr_grammar.specs.Grammars.{tree_of, run_both, run_left, run_right, run_part, take_nothing, start, round, round_items}
use Rattle.gr_grammar.proofs.Fronts.{no_longer}
use Rattle.gr_grammar.proofs.Loops.{ended}
use Rattle.mg_reader.specs.Grammar.{system}
use Rattle.mg_reader.specs.Values.{node_with, next_kid_of, kid_of}
use Rattle.mg_reader.specs.Complaints.{property_list_bad, feature_list_bad, kid_list_bad, next_kid_bad}
use Rattle.mg_syntax.specs.declared.block.Kid.{roll-Kid}
use Rattle.mg_reader.proofs.Steps.{first_stops, then_stops, left_stops, part_stops, row_stops, memory_stops, shorter, below, row_value_by, noted, all_pushed, row_notes_by, kids_items, kids_notes}
use Rattle.mg_reader.proofs.reader.Reader.+nodes.Goals as goal

pub node-returns-in_err-_word : goal.node-returns-in_err-_word
node-returns-in_err-_word t c = let e : c.from_residual.result ≡ Err c.in_err-_word.field-0.0 = search rules in rw e (part_stops (first_stops c.in_err-_word.ensures))

pub node-returns-in_err-name : goal.node-returns-in_err-name
node-returns-in_err-name t c = let e : c.from_residual-in_err-name.result ≡ Err c.in_err-name.field-0.0 = search rules in rw e (part_stops (then_stops c.in_ok-_word.ensures.0 (first_stops c.in_err-name.ensures)))

pub node-returns-in_err-properties : goal.node-returns-in_err-properties
node-returns-in_err-properties t c = let e : c.from_residual-in_err-properties.result ≡ Err c.in_err-properties.field-0.0 = search rules in rw e (part_stops (then_stops c.in_ok-_word.ensures.0 (then_stops c.in_ok-name.ensures.0 (first_stops c.in_err-properties.ensures))))

pub node-returns-in_err-features : goal.node-returns-in_err-features
node-returns-in_err-features t c = let e : c.from_residual-in_err-features.result ≡ Err c.in_err-features.field-0.0 = search rules in rw e (part_stops (then_stops c.in_ok-_word.ensures.0 (then_stops c.in_ok-name.ensures.0 (then_stops c.in_ok-properties.ensures.0 (first_stops c.in_err-features.ensures)))))

pub node-returns-in_err-kids : goal.node-returns-in_err-kids
node-returns-in_err-kids t c = let e : c.from_residual-in_err-kids.result ≡ Err c.in_err-kids.field-0.0 = search rules in rw e (part_stops (then_stops c.in_ok-_word.ensures.0 (then_stops c.in_ok-name.ensures.0 (then_stops c.in_ok-properties.ensures.0 (then_stops c.in_ok-features.ensures.0 c.in_err-kids.ensures)))))

pub node-returns-in_err-block : goal.node-returns-in_err-block
node-returns-in_err-block t c = let e : c.from_residual-in_err-block.result ≡ Err c.in_err-block.field-0.0 = search rules in rw e (memory_stops c.in_err-block.ensures)

pub node-returns : goal.node-returns
node-returns t c = (run_part (run_both c.in_ok-_word.ensures.0 (run_both c.in_ok-name.ensures.0 (run_both c.in_ok-properties.ensures.0 (run_both c.in_ok-features.ensures.0 c.in_ok-kids.ensures.0)))), c.in_ok-block.ensures ∙ (λ i. node_with (c.in_ok-name.ensures.1 i) (c.in_ok-properties.ensures.1 i) (c.in_ok-features.ensures.1 i) (c.in_ok-kids.ensures.1 i)), noted c.args.self.now.complaint (property_list_bad (tree_of c.in_ok-properties.ensures.0)) ((feature_list_bad (tree_of c.in_ok-features.ensures.0)) ++ (kid_list_bad (tree_of c.in_ok-kids.ensures.0))) (noted c.property_list.new.self.complaint (feature_list_bad (tree_of c.in_ok-features.ensures.0)) ((kid_list_bad (tree_of c.in_ok-kids.ensures.0))) (c.in_ok-kids.ensures.2) c.in_ok-features.ensures.2) c.in_ok-properties.ensures.2)

pub kid_list-returns-in_err-_open : goal.kid_list-returns-in_err-_open
kid_list-returns-in_err-_open t c = let e : c.from_residual.result ≡ Err c.in_err-_open.field-0.0 = search rules in rw e (left_stops (sym c.sees.ensures ∙ c.if-sees.true) (first_stops c.in_err-_open.ensures))

pub kid_list-returns-in_err-kids : goal.kid_list-returns-in_err-kids
kid_list-returns-in_err-kids t c = let e : c.from_residual-in_err-kids.result ≡ Err c.in_err-kids.field-0.0 = search rules in rw e (left_stops (sym c.sees.ensures ∙ c.if-sees.true) (then_stops c.in_ok-_open.ensures.0 (first_stops c.in_err-kids.ensures)))

pub kid_list-returns-in_err-_close : goal.kid_list-returns-in_err-_close
kid_list-returns-in_err-_close t c = let e : c.from_residual-in_err-_close.result ≡ Err c.in_err-_close.field-0.0 = search rules in rw e (left_stops (sym c.sees.ensures ∙ c.if-sees.true) (then_stops c.in_ok-_open.ensures.0 (then_stops c.in_ok-kids.ensures.0 c.in_err-_close.ensures)))

pub kid_list-returns-in_ok-_close : goal.kid_list-returns-in_ok-_close
kid_list-returns-in_ok-_close t c = (run_left (sym c.sees.ensures ∙ c.if-sees.true) (run_both c.in_ok-_open.ensures.0 (run_both c.in_ok-kids.ensures.0 c.in_ok-_close.ensures.0)), c.in_ok-kids.ensures.1, c.in_ok-kids.ensures.2)

pub kid_list-returns-else-sees : goal.kid_list-returns-else-sees
kid_list-returns-else-sees t c = (run_right (sym c.sees.ensures ∙ c.if-sees.false) take_nothing, c.new.ensures, refl)

pub perhaps_kids-returns-in_err-kids : goal.perhaps_kids-returns-in_err-kids
perhaps_kids-returns-in_err-kids t c = let e : c.from_residual.result ≡ Err c.in_err-kids.field-0.0 = search rules in rw e (left_stops (sym c.sees.ensures ∙ c.if-sees.true) c.in_err-kids.ensures)

pub perhaps_kids-returns-in_ok-kids : goal.perhaps_kids-returns-in_ok-kids
perhaps_kids-returns-in_ok-kids t c = (run_left (sym c.sees.ensures ∙ c.if-sees.true) c.in_ok-kids.ensures.0, c.in_ok-kids.ensures.1, c.in_ok-kids.ensures.2)

pub perhaps_kids-returns-else-sees : goal.perhaps_kids-returns-else-sees
perhaps_kids-returns-else-sees t c = (run_right (sym c.sees.ensures ∙ c.if-sees.false) take_nothing, c.new.ensures, refl)

pub kids-returns-in_err-first : goal.kids-returns-in_err-first
kids-returns-in_err-first t c = let e : c.from_residual.result ≡ Err c.in_err-first.field-0.0 = search rules in rw e (first_stops c.in_err-first.ensures)

pub kids-returns-in_err-_first : goal.kids-returns-in_err-_first
kids-returns-in_err-_first t c = let e : c.from_residual-in_err-_first.result ≡ Err c.in_err-_first.field-0.0 = search rules in rw e (memory_stops c.in_err-_first.ensures)

pub kids-returns-in_err-more : goal.kids-returns-in_err-more
kids-returns-in_err-more t c = let e : c.from_residual-in_err-more.result ≡ Err c.in_err-more.field-0.0 = search rules in rw e (then_stops c.in_ok-first.ensures.0 (row_stops c.rows.invariant.0 (sym c.sees.ensures ∙ c.rows-test.true) c.in_err-more.ensures))

pub kids-returns-in_err-_more : goal.kids-returns-in_err-_more
kids-returns-in_err-_more t c = let e : c.from_residual-in_err-_more.result ≡ Err c.in_err-_more.field-0.0 = search rules in rw e (memory_stops c.in_err-_more.ensures)

pub kids-rows-init : goal.kids-rows-init
kids-rows-init t c = (start, sym (append-nil _), refl)

pub kids-rows-smaller : goal.kids-rows-smaller
kids-rows-smaller t c = shorter refl c.in_ok-more.ensures.0

pub kids-rows-preserved : goal.kids-rows-preserved
kids-rows-preserved t c = (round c.rows.invariant.0 (sym c.sees.ensures ∙ c.rows-test.true) c.in_ok-more.ensures.0, pushed _ _ c.in_ok-_more.ensures c.rows.invariant.1 (c.in_ok-more.ensures.1), all_pushed (round_items (λ ts rest m. next_kid_bad m) c.rows.invariant.0) _ _ c.in_ok-more.ensures.2 c.rows.invariant.2)

pub kids-returns : goal.kids-returns
kids-returns t c = (run_both c.in_ok-first.ensures.0 (ended c.rows.invariant.0 (sym c.sees.ensures ∙ c.rows-test.false)), row_value_by (λ ts rest m. next_kid_of m) c.rows.invariant.0 (sym c.sees.ensures ∙ c.rows-test.false) (c.in_ok-_first.ensures ∙ ap (λ z. z ++ (c.in_ok-first.first) ∷ []) c.new-row.ensures) (c.in_ok-first.ensures.1) c.rows.invariant.1 (kids_items (tree_of (ended c.rows.invariant.0 (sym c.sees.ensures ∙ c.rows-test.false)))), row_notes_by _ _ (λ ts rest m. next_kid_bad m) c.rows.invariant.0 (sym c.sees.ensures ∙ c.rows-test.false) c.in_ok-first.ensures.2 c.rows.invariant.2 (kids_notes (tree_of (ended c.rows.invariant.0 (sym c.sees.ensures ∙ c.rows-test.false)))))

pub next_kid-returns-in_err-kid : goal.next_kid-returns-in_err-kid
next_kid-returns-in_err-kid t c = let e : c.from_residual.result ≡ Err c.in_err-kid.field-0.0 = search rules in rw e ((then_stops c.skip-loose.ensures.0 c.in_err-kid.ensures))

pub next_kid-returns : goal.next_kid-returns
next_kid-returns t c = ((run_both c.skip-loose.ensures.0 c.in_ok-kid.ensures.0), c.in_ok-kid.ensures.1 ∙ ap (λ z. kid_of z (tree_of c.in_ok-kid.ensures.0)) c.skip-loose.ensures.1, c.in_ok-kid.ensures.2)

pub kid-returns-in_err-down : goal.kid-returns-in_err-down
kid-returns-in_err-down t c = let e : c.from_residual.result ≡ Err c.in_err-down.field-0.0 = search rules in rw e ((first_stops c.in_err-down.ensures))

pub kid-returns-in_err-node : goal.kid-returns-in_err-node
kid-returns-in_err-node t c = let e : c.from_residual-in_err-node.result ≡ Err c.in_err-node.field-0.0 = search rules in rw e ((then_stops c.in_ok-down.ensures.0 c.in_err-node.ensures))

pub kid-returns : goal.kid-returns
kid-returns t c = ((run_both c.in_ok-down.ensures.0 c.in_ok-node.ensures.0), (λ i. roll-Kid (record { down = c.in_ok-down.ensures.1 i; loose = c.args.loose; node = c.in_ok-node.ensures.1 i })), c.in_ok-node.ensures.2)

pub kids-next_kid-requires : goal.kids-next_kid-requires
kids-next_kid-requires t c = (let d = c.decreases in let a = no_longer system (tree_of c.in_ok-first.ensures.0) in let b = below c.rows.invariant.0 in omega arith, tt)

pub kid-node-requires : goal.kid-node-requires
kid-node-requires t c = (let d = c.decreases in let a-down = no_longer system (tree_of c.in_ok-down.ensures.0) in omega arith, tt)

pub next_kid-kid-requires : goal.next_kid-kid-requires
next_kid-kid-requires t c = (let d = c.decreases in let a-loose = no_longer system (tree_of c.skip-loose.ensures.0) in omega arith, tt)

pub node-kid_list-requires : goal.node-kid_list-requires
node-kid_list-requires t c = (let d = c.decreases in let w = shorter refl c.in_ok-_word.ensures.0 in let a-name = no_longer system (tree_of c.in_ok-name.ensures.0) in let a-properties = no_longer system (tree_of c.in_ok-properties.ensures.0) in let a-features = no_longer system (tree_of c.in_ok-features.ensures.0) in omega arith, tt)
