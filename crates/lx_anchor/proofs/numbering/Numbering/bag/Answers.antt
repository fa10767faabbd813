use Rattle.std.proofs.Common.{ℕ, [], ◌∷◌}
use Rattle.std.proofs.lemmas.List.{map-append}
use Rattle.gr_terms.specs.declared.Sym.{Sym}
use Rattle.gr_terms.specs.declared.Term.{Term}
use Rattle.td_canon.specs.Renaming.{rename_term}
use Rattle.tg_model.specs.DenseTrees.{bag_terms}
use Rattle.lx_anchor.proofs.NumberingLemmas.{attributes-push, numbered-beside, numbered-push, pair-added}
use Rattle.lx_anchor.proofs.numbering.Numbering.bag.Goals as goal

pub pairs-preserved : goal.pairs-preserved
pairs-preserved c =
    let pair = c.at-pair.result.now in
    let added =
    pair-added c.in_ok-_added._added c.args.bag.now c.pairs.place pair c.pairs.numbered c.add.new.self c.in_ok-value.value c.at-pair.ensures.listed c.at-pair.ensures.pair c.pairs.invariant.1 c.in_ok-_added.ensures.added c.in_ok-_added.ensures.there
    c.in_ok-_added.ensures.listed
    in (
      numbered-push bag_terms (λ (f : ℕ → ℕ) (p : Sym × Term). (p.0, rename_term f p.1)) c.args.bag.now c.pairs.place pair (pair.1 ∷ []) c.args.self.now c.pairs.self c.term.new.self c.pairs.numbered c.add.new.self (pair.0, c.in_ok-value.value)
          c.at-pair.ensures.pair (λ ys. map-append (λ (p : Sym × Term). p.1) ys (pair ∷ [])) c.pairs.invariant.0
          (numbered-beside pair.0 c.pairs.self c.term.new.self (pair.1 ∷ []) (λ f. rename_term f pair.1) c.in_ok-value.value c.in_ok-value.ensures) added,
      attributes-push c.args.bag.now c.pairs.place pair c.pairs.numbered c.add.new.self c.in_ok-value.value c.at-pair.ensures.pair c.pairs.invariant.1 added,
    )
