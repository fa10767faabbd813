use Rattle.std.proofs.Common.{[], ◌∷◌, ◌++◌, ◌≡◌, map, false, subst, ap₂}
use Rattle.std.proofs.lemmas.Result.{IfOk-weaker}
use Rattle.gr_terms.specs.Networks.{equate as equation}
use Rattle.gr_terms.specs.Views.{term_of}
use Rattle.tg_model.specs.Instances.{equations}
use Rattle.sm_match.specs.Bindings.{TreeNetwork, Equates}
use Rattle.sm_match.proofs.BindingLemmas.{equates_then, equates_stop}
use Rattle.sm_match.proofs.bindings.equate_literal.Goals as goal

pub returns-then-not-branch : goal.returns-then-not-branch
returns-then-not-branch c =
    let l = c.args.literal.now in
    let g = c.args.other.now in
    let E : TreeNetwork = equation (term_of l.handle) (term_of g.handle) ∷ [] in
    let F : TreeNetwork = equation (term_of l.pred) (term_of g.pred) ∷ equations (map term_of l.args) (map term_of g.args) in
    equates_stop E F c.args.bindings.now.items c.equate.new.bindings.items
    (subst (λ t. Equates E c.args.bindings.now.items c.equate.new.bindings.items t) c.if-not-branch.true c.in_ok-equate.ensures)

pub returns-then-not-branch-2 : goal.returns-then-not-branch-2
returns-then-not-branch-2 c =
    let l = c.args.literal.now in
    let g = c.args.other.now in
    let E : TreeNetwork = equation (term_of l.handle) (term_of g.handle) ∷ [] in
    let P : TreeNetwork = equation (term_of l.pred) (term_of g.pred) ∷ [] in
    let F : TreeNetwork = equations (map term_of l.args) (map term_of g.args) in
    equates_then E (P ++ F) c.args.bindings.now.items c.equate.new.bindings.items c.equate-2.new.bindings.items false
    (subst (λ t. Equates E c.args.bindings.now.items c.equate.new.bindings.items t) c.if-not-branch.false c.in_ok-equate.ensures)
    (equates_stop P F c.equate.new.bindings.items c.equate-2.new.bindings.items
    (subst (λ t. Equates P c.equate.new.bindings.items c.equate-2.new.bindings.items t) c.if-not-branch-2.true c.in_ok-equate-2.ensures))

pub returns : goal.returns
returns c =
    let l = c.args.literal.now in
    let g = c.args.other.now in
    let E : TreeNetwork = equation (term_of l.handle) (term_of g.handle) ∷ [] in
    let P : TreeNetwork = equation (term_of l.pred) (term_of g.pred) ∷ [] in
    let F : TreeNetwork = equations (map term_of c.as_slice.result.now) (map term_of c.as_slice-2.result.now) in
    let G : TreeNetwork = equations (map term_of l.args) (map term_of g.args) in
    let same : ◌≡◌ {A = TreeNetwork} F G = ap₂ (λ xs ys. equations (map term_of xs) (map term_of ys)) c.as_slice.ensures c.as_slice-2.ensures in
    IfOk-weaker c.equate_terms.result
    (Equates F c.equate-2.new.bindings.items c.equate_terms.new.bindings.items)
    (Equates (E ++ (P ++ G)) c.args.bindings.now.items c.equate_terms.new.bindings.items)
    (λ r h.
    equates_then E (P ++ G) c.args.bindings.now.items c.equate.new.bindings.items c.equate_terms.new.bindings.items r
    (subst (λ t. Equates E c.args.bindings.now.items c.equate.new.bindings.items t) c.if-not-branch.false c.in_ok-equate.ensures)
    (equates_then P G c.equate.new.bindings.items c.equate-2.new.bindings.items c.equate_terms.new.bindings.items r
    (subst (λ t. Equates P c.equate.new.bindings.items c.equate-2.new.bindings.items t) c.if-not-branch-2.false c.in_ok-equate-2.ensures)
    (subst (λ X. Equates X c.equate-2.new.bindings.items c.equate_terms.new.bindings.items r) same h)))
    c.equate_terms.ensures
