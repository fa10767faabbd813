use Rattle.std.proofs.Common.{rules, ◌≡◌, Err, refl, sym, ◌∙◌}
use Rattle.tg_syntax.proofs.Steps.{shorter}
use Rattle.tg_syntax.proofs.Noting.{then_read, first_read, node_read, row_start, row_more, row_ended, row_broken, no_kids, no_kid, some_kids, token_read, bag_read, label_read}
use Rattle.tg_syntax.proofs.reader.Reader.+nodes.Goals as goal

pub node-returns-in_err-_label : goal.node-returns-in_err-_label
node-returns-in_err-_label t c = let e : c.from_residual.result ≡ Err c.in_err-_label.field-0.0 = search rules in rw e (node_read c.args.room (first_read (label_read c.in_err-_label.ensures _)))

pub node-returns-in_err-_properties : goal.node-returns-in_err-_properties
node-returns-in_err-_properties t c = let e : c.from_residual-in_err-_properties.result ≡ Err c.in_err-_properties.field-0.0 = search rules in rw e (node_read c.args.room (then_read (label_read c.in_ok-_label.ensures _) (first_read c.in_err-_properties.ensures)))

pub node-returns-in_err-_top : goal.node-returns-in_err-_top
node-returns-in_err-_top t c = let e : c.from_residual-in_err-_top.result ≡ Err c.in_err-_top.field-0.0 = search rules in rw e (node_read c.args.room (then_read (label_read c.in_ok-_label.ensures _) (then_read c.in_ok-_properties.ensures (first_read (bag_read 94 c.args.room c.in_err-_top.ensures _)))))

pub node-returns-in_err-_bottom : goal.node-returns-in_err-_bottom
node-returns-in_err-_bottom t c = let e : c.from_residual-in_err-_bottom.result ≡ Err c.in_err-_bottom.field-0.0 = search rules in rw e (node_read c.args.room (then_read (label_read c.in_ok-_label.ensures _) (then_read c.in_ok-_properties.ensures (then_read (bag_read 94 c.args.room c.in_ok-_top.ensures _) (first_read (bag_read 47 c.args.room c.in_err-_bottom.ensures _))))))

pub node-returns-in_err-_kids : goal.node-returns-in_err-_kids
node-returns-in_err-_kids t c = let e : c.from_residual-in_err-_kids.result ≡ Err c.in_err-_kids.field-0.0 = search rules in rw e (node_read c.args.room (then_read (label_read c.in_ok-_label.ensures _) (then_read c.in_ok-_properties.ensures (then_read (bag_read 94 c.args.room c.in_ok-_top.ensures _) (then_read (bag_read 47 c.args.room c.in_ok-_bottom.ensures _) c.in_err-_kids.ensures)))))

pub node-returns : goal.node-returns
node-returns t c = node_read c.args.room (then_read (label_read c.in_ok-_label.ensures _) (then_read c.in_ok-_properties.ensures (then_read (bag_read 94 c.args.room c.in_ok-_top.ensures _) (then_read (bag_read 47 c.args.room c.in_ok-_bottom.ensures _) c.in_ok-_kids.ensures))))

pub next_node-returns-in_err-_space : goal.next_node-returns-in_err-_space
next_node-returns-in_err-_space t c = let e : c.from_residual.result ≡ Err c.in_err-_space.field-0.0 = search rules in rw e (first_read (token_read c.in_err-_space.ensures _))

pub next_node-returns-in_err-_node : goal.next_node-returns-in_err-_node
next_node-returns-in_err-_node t c = let e : c.from_residual-in_err-_node.result ≡ Err c.in_err-_node.field-0.0 = search rules in rw e (then_read (token_read c.in_ok-_space.ensures _) c.in_err-_node.ensures)

pub next_node-returns : goal.next_node-returns
next_node-returns t c = then_read (token_read c.in_ok-_space.ensures _) c.in_ok-_node.ensures

pub kids-returns-then-room-eq0 : goal.kids-returns-then-room-eq0
kids-returns-then-room-eq0 t c = no_kids c.args.room c.if-room-eq0.true

pub kids-returns-then-not-sees : goal.kids-returns-then-not-sees
kids-returns-then-not-sees t c = no_kid c.args.room (sym c.sees.ensures ∙ c.if-not-sees.true)

pub kids-returns-in_err-_opening : goal.kids-returns-in_err-_opening
kids-returns-in_err-_opening t c = let e : c.from_residual.result ≡ Err c.in_err-_opening.field-0.0 = search rules in rw e (some_kids c.args.room c.if-room-eq0.false (sym c.sees.ensures ∙ c.if-not-sees.false) (first_read (token_read c.in_err-_opening.ensures _)))

pub kids-returns-in_err-_first : goal.kids-returns-in_err-_first
kids-returns-in_err-_first t c = let e : c.from_residual-in_err-_first.result ≡ Err c.in_err-_first.field-0.0 = search rules in rw e (some_kids c.args.room c.if-room-eq0.false (sym c.sees.ensures ∙ c.if-not-sees.false) (then_read (token_read c.in_ok-_opening.ensures _) (first_read c.in_err-_first.ensures)))

pub kids-row-init : goal.kids-row-init
kids-row-init t c = row_start

pub kids-returns-in_err-_next : goal.kids-returns-in_err-_next
kids-returns-in_err-_next t c = let e : c.from_residual-in_err-_next.result ≡ Err c.in_err-_next.field-0.0 = search rules in rw e (some_kids c.args.room c.if-room-eq0.false (sym c.sees.ensures ∙ c.if-not-sees.false) (then_read (token_read c.in_ok-_opening.ensures _) (then_read c.in_ok-_first.ensures (first_read (row_broken c.row.invariant (sym c.sees-in-row.ensures ∙ c.row-test.true) c.in_err-_next.ensures)))))

pub kids-row-smaller : goal.kids-row-smaller
kids-row-smaller t c = shorter refl c.in_ok-_next.ensures.run

pub kids-row-preserved : goal.kids-row-preserved
kids-row-preserved t c = row_more c.row.invariant (sym c.sees-in-row.ensures ∙ c.row-test.true) c.in_ok-_next.ensures

pub kids-returns-in_err-_closing : goal.kids-returns-in_err-_closing
kids-returns-in_err-_closing t c = let e : c.from_residual-in_err-_closing.result ≡ Err c.in_err-_closing.field-0.0 = search rules in rw e (some_kids c.args.room c.if-room-eq0.false (sym c.sees.ensures ∙ c.if-not-sees.false) (then_read (token_read c.in_ok-_opening.ensures _) (then_read c.in_ok-_first.ensures (then_read (row_ended c.row.invariant (sym c.sees-in-row.ensures ∙ c.row-test.false)) (token_read c.in_err-_closing.ensures _)))))

pub kids-returns : goal.kids-returns
kids-returns t c = some_kids c.args.room c.if-room-eq0.false (sym c.sees.ensures ∙ c.if-not-sees.false) (then_read (token_read c.in_ok-_opening.ensures _) (then_read c.in_ok-_first.ensures (then_read (row_ended c.row.invariant (sym c.sees-in-row.ensures ∙ c.row-test.false)) (token_read c.in_ok-_closing.ensures _))))
