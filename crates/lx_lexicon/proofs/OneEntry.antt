-- A written entry is one entry.
use Rattle.std.proofs.Common.{◌≡◌, ℕ, List, [], ◌∷◌, sym, subst}
use Rattle.gr_base.specs.Lists.{NoneTwice}
use Rattle.gr_base.proofs.Zips.{AllZip-one}
use Rattle.gr_terms.specs.declared.Sym.{Sym}
use Rattle.gr_symbols.proofs.NumberLemmas.{one_sym}
use Rattle.gr_feats.specs.declared.gathered.Pair.{Pair}
use Rattle.gr_feats.specs.declared.gathered.Gathered.{Gathered}
use Rattle.gr_feats.specs.Grammars.{WrittenPair}
use Rattle.gr_feats.specs.Numberings.{Numbering, IsNumbering, none_met}
use Rattle.gr_feats.specs.Readings.{IsTerm, InTurn, IsPair, IsBag, IsLiteral}
use Rattle.gr_feats.proofs.NumberingLemmas.{IsNumbering-none}
use Rattle.gr_feats.proofs.OneAnswer.{IsOne, one_row, row_keeps, one_bag, one_term, term_keeps, handle_keeps, one_handle}
use Rattle.lx_lexicon.specs.declared.entry.Entry.{Entry}
use Rattle.lx_lexicon.specs.Grammars.{WrittenCoanchor, WrittenEntry}
use Rattle.lx_lexicon.specs.Entries.{IsCoName, IsEntry, AreEntries}

module _ (texts : List (List ℕ)) (once : NoneTwice texts) where
  pairs_keep : (before : Numbering) (ws : List WrittenPair) (g : Gathered) (a : Numbering) → IsNumbering before → IsBag texts before ws g a → IsNumbering a
  pairs_keep before ws g a is bag = keep before ws bag.pairs a is bag.read
    where
      keep : (before : Numbering) (ws : List WrittenPair) (xs : List Pair) (a : Numbering) → IsNumbering before → InTurn (IsPair texts) before ws xs a → IsNumbering a
      keep before [] [] a is h = subst IsNumbering (sym h) is
      keep before [] (x ∷ xs) a is h = absurd h
      keep before (w ∷ ws) [] a is h = absurd h
      keep before (w ∷ ws) (x ∷ xs) a is h = keep h.0 ws xs a (term_keeps texts once before w.value x.value h.0 is h.1.value) h.2

  terms_one : IsOne (IsTerm texts)
  terms_one = record { one = one_term texts once; keeps = term_keeps texts once }

  literals_one : IsOne (IsLiteral texts)
  literals_one = record {
    one = λ before w x y a b is h k.
        let i1 = handle_keeps texts once before w.handle x.handle h.behind_handle is h.handle in
        let e1 = one_handle texts once before w.handle x.handle y.handle h.behind_handle k.behind_handle is h.handle k.handle in
        let i2 = term_keeps texts once h.behind_handle w.pred x.pred h.behind_pred i1 h.pred in
        let e2 = one_term texts once h.behind_handle w.pred x.pred y.pred h.behind_pred k.behind_pred i1 h.pred (subst (λ m. IsTerm texts m w.pred y.pred k.behind_pred) (sym e1.1) k.pred) in
        let e3 = one_row (IsTerm texts) terms_one h.behind_pred w.args x.args y.args a b i2 h.args (subst (λ m. InTurn (IsTerm texts) m w.args y.args b) (sym e2.1) k.args) in
        ((λ i. record { handle = e1.0 i; pred = e2.0 i; args = e3.0 i }), e3.1);
    keeps = λ before w x a is h. row_keeps (IsTerm texts) terms_one h.behind_pred w.args x.args a (term_keeps texts once h.behind_handle w.pred x.pred h.behind_pred (handle_keeps texts once before w.handle x.handle h.behind_handle is h.handle) h.pred) h.args;
  }

  one_co_name : (w : WrittenCoanchor) (x y : Sym × Sym) → IsCoName texts w x → IsCoName texts w y → x ≡ y
  one_co_name w x y h k =
      let n = one_sym texts once x.0 y.0 w.name.text h.name k.name in
      let l = one_sym texts once x.1 y.1 w.lemma.text h.lemma k.lemma in
      λ i. (n i, l i)

  one_entry : (w : WrittenEntry) (x y : Entry) → IsEntry texts w x → IsEntry texts w y → x ≡ y
  one_entry w x y h k =
      let lemma = one_sym texts once x.lemma y.lemma w.head.lemma.text h.lemma k.lemma in
      let family = one_sym texts once x.family y.family w.head.family h.family k.family in
      let iface = one_bag texts once none_met w.body.iface (record { bag = x.iface; again = h.iface_again }) (record { bag = y.iface; again = k.iface_again }) h.behind_iface k.behind_iface IsNumbering-none h.iface k.iface in
      let behind = pairs_keep none_met w.body.iface (record { bag = x.iface; again = h.iface_again }) h.behind_iface IsNumbering-none h.iface in
      let anchor = one_bag texts once h.behind_iface w.body.anchor (record { bag = x.anchor; again = h.anchor_again }) (record { bag = y.anchor; again = k.anchor_again }) h.behind_anchor k.behind_anchor behind h.anchor
      (subst (λ m. IsBag texts m w.body.anchor (record { bag = y.anchor; again = k.anchor_again }) k.behind_anchor) (sym iface.1) k.anchor) in
      let behind_both = pairs_keep h.behind_iface w.body.anchor (record { bag = x.anchor; again = h.anchor_again }) h.behind_anchor behind h.anchor in
      let coanchors = AllZip-one (IsCoName texts) one_co_name w.body.coanchors x.coanchors y.coanchors h.coanchors k.coanchors in
      let sem = one_row (IsLiteral texts) literals_one h.behind_anchor w.body.literals x.sem y.sem h.behind_all k.behind_all behind_both h.literals
      (subst (λ m. InTurn (IsLiteral texts) m w.body.literals y.sem k.behind_all) (sym anchor.1) k.literals) in
      λ i. record { lemma = lemma i; family = family i; iface = (iface.0 i).bag; anchor = (anchor.0 i).bag; coanchors = coanchors i; sem = sem.0 i }

  pub one_lexicon : (ws : List WrittenEntry) (xs ys : List Entry) → AreEntries texts ws xs → AreEntries texts ws ys → xs ≡ ys
  one_lexicon ws xs ys h k = AllZip-one (IsEntry texts) one_entry ws xs ys h k
