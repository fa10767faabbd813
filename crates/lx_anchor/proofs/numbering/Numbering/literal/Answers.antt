use Rattle.std.proofs.Common.{List, [], ◌∷◌, map}
use Rattle.gr_terms.specs.declared.Literal.{Literal}
use Rattle.gr_terms.specs.declared.Term.{Term}
use Rattle.td_canon.specs.Renaming.{rename_term}
use Rattle.lx_anchor.proofs.NumberingLemmas.{numbered-both}
use Rattle.lx_anchor.proofs.numbering.Numbering.literal.Goals as goal

pub returns : goal.returns
returns c =
    let l = c.args.literal.now in
    numbered-both {C = Literal} (λ (k : List Term → Literal) (args : List Term). k args) c.args.self.now c.term-2.new.self c.terms.new.self (l.handle ∷ l.pred ∷ []) l.args
    (λ f args. record { handle = rename_term f l.handle; pred = rename_term f l.pred; args = args }) (λ f. map (rename_term f) l.args) (λ args. record { handle = c.in_ok-handle.handle; pred = c.in_ok-pred.pred; args = args }) c.in_ok-args.args
    (numbered-both {C = List Term → Literal} (λ (handle pred : Term) (args : List Term). record { handle = handle; pred = pred; args = args }) c.args.self.now c.term.new.self c.term-2.new.self (l.handle ∷ []) (l.pred ∷ []) (λ f. rename_term f l.handle)
    (λ f. rename_term f l.pred) c.in_ok-handle.handle c.in_ok-pred.pred c.in_ok-handle.ensures c.in_ok-pred.ensures) c.in_ok-args.ensures
