-- The pairs of a bag: collected, put in order, and written.
use Rattle.std.specs.Prelude.{◌≡◌, ℕ, zero, suc, ◌+◌, ◌<◌, ◌≤◌, List, [], ◌∷◌, ◌++◌, map, take, drop, length, codes, slice_get, Some, refl}
use Rattle.std.proofs.Common.{take_all, ap, ap₂, sym, ◌∙◌, subst, append_assoc, append-nil, add-one, get_or, arith}
use Rattle.std.proofs.Math.ListN.{drop_of_length-le}
use Rattle.std.proofs.lemmas.List.{map-append}
use Rattle.gr_base.specs.Lists.{NoneTwice}
use Rattle.gr_base.proofs.ListLemmas.{Each-append, Each-at, IsAmong-slice_get, drop-slice_get}
use Rattle.gr_terms.specs.BagViews.{pairs_of}
use Rattle.gr_terms.specs.Canonical.{Label}
use Rattle.gr_terms.specs.Networks.{Term}
use Rattle.gr_terms.specs.Views.{term_of}
use Rattle.gr_terms.specs.declared.Sym.{Sym}
use Rattle.gr_terms.specs.declared.Term.{Term as Value}
use Rattle.gr_symbols.specs.Numbers.{Names}
use Rattle.td_tree.specs.Trees.{BagPairs}
use Rattle.td_canon.specs.CanonicalTexts.{IsNamedBag, IsNamedTerm, text_in}
use Rattle.td_canon.specs.TreeText.{enclosed, label_text}
use Rattle.td_canon.specs.Writing.{AreNamedPairs, TextPairs, Writes, Written, by_text, pair_values, seen_pairs, written_pairs}
use Rattle.td_canon.specs.declared.pairs.Pair.{Pair}
use Rattle.td_canon.proofs.RowLemmas.{opened, separator_behind, take-next, writes_end, writes_next}
use Rattle.td_canon.proofs.ValueLemmas.{text_in-names}
use Rattle.td_canon.proofs.WritesLemmas.{Writes-as, Writes-none, Writes-then}

-- ---- collected

-- of the pairs of a bag from a place on, those before another place
pub record Collected (texts : List (List ℕ)) (bag : BagPairs) (from place : ℕ) (pairs : List Pair) : Type 0 where
  pub pairs_are : by_text (text_in texts) (pairs_of (drop from bag)) ≡ seen_pairs pairs ++ by_text (text_in texts) (pairs_of (drop place bag))
  pub named : AreNamedPairs (length texts) pairs
  pub distinct : from < place → NoneTwice texts

pub Collected-none : (texts : List (List ℕ)) (bag : BagPairs) (from : ℕ) → Collected texts bag from from []
Collected-none texts bag from = record { pairs_are = refl; named = tt; distinct = λ some. absurd (omega arith) }

pub named_at : (count : ℕ) (bag : BagPairs) (place : ℕ) (p : Sym × Value) → IsNamedBag count bag → slice_get bag place ≡ Some p → (p.0.0 < count) × IsNamedTerm count p.1
named_at count bag place p named at = Each-at (λ (q : Sym × Value). (q.0.0 < count) × IsNamedTerm count q.1) bag p named (IsAmong-slice_get bag place p at)

pub Collected-next : (texts : List (List ℕ)) (bag : BagPairs) (from place : ℕ) (old new : List Pair) (p : Sym × Value) (q : Pair) →
    NoneTwice texts → IsNamedBag (length texts) bag → slice_get bag place ≡ Some p → Names texts p.0.0 q.attribute.now → q.value ≡ p.1 → new ≡ old ++ q ∷ [] →
    Collected texts bag from place old → Collected texts bag from (place + 1) new
Collected-next texts bag from place old new p q once all_named at names value new_is c = record {
  distinct = λ some. once;
  pairs_are =
      c.pairs_are
      ∙ ap (λ ps. seen_pairs old ++ by_text (text_in texts) (pairs_of ps)) (drop-slice_get bag place p at)
      ∙ ap (λ z. seen_pairs old ++ (z ∷ rest)) (λ i. (text_in-names texts p.0.0 q.attribute.now names i, term_of (sym value i)))
      ∙ sym (append_assoc (seen_pairs old) (seen q ∷ []) rest)
      ∙ ap₂ (λ (xs : TextPairs) n. xs ++ by_text (text_in texts) (pairs_of (drop n bag))) (sym (map-append seen old (q ∷ [])) ∙ ap seen_pairs (sym new_is)) (sym (add-one place));
  named = subst (AreNamedPairs (length texts)) (sym new_is)
      (Each-append (λ (r : Pair). IsNamedTerm (length texts) r.value) old (q ∷ []) c.named (subst (IsNamedTerm (length texts)) (sym value) (named_at (length texts) bag place p all_named at).1, tt));
}
  where
    seen : Pair → List ℕ × Term ℕ
    seen r = (r.attribute.now, term_of r.value)

    rest : TextPairs
    rest = by_text (text_in texts) (pairs_of (drop (suc place) bag))

pub Collected-all : (texts : List (List ℕ)) (bag : BagPairs) (from place : ℕ) (pairs : List Pair) → length bag ≤ place → Collected texts bag from place pairs →
    seen_pairs pairs ≡ by_text (text_in texts) (pairs_of (drop from bag))
Collected-all texts bag from place pairs past c =
    sym (c.pairs_are ∙ ap (λ ps. seen_pairs pairs ++ by_text (text_in texts) (pairs_of ps)) (drop_of_length-le bag past) ∙ append-nil (seen_pairs pairs))

-- ---- written

-- the text of a pair
abbrev pub pair_text : (ℕ → List ℕ) → (Term ℕ → Label) → List ℕ × Term ℕ → List ℕ
pair_text text label p = p.0 ++ codes "=" ++ label_text text (label p.1)

-- the pairs before a place were written
pub record WrittenPairs (texts : List (List ℕ)) (opening : List ℕ) (pairs : List Pair) (place : ℕ) (old new : Written) (separator : List ℕ) : Type 0 where
  pub writes : Writes old new (pair_values (seen_pairs (take place pairs))) (λ label. opened opening 44 (map (pair_text (text_in texts) label) (seen_pairs (take place pairs))))
  pub separator_is : separator ≡ separator_behind opening 44 (seen_pairs (take place pairs))

pub WrittenPairs-none : (texts : List (List ℕ)) (opening : List ℕ) (pairs : List Pair) (old : Written) → WrittenPairs texts opening pairs 0 old old opening
WrittenPairs-none texts opening pairs old = record { writes = Writes-none old; separator_is = refl }

pub WrittenPairs-next : (texts : List (List ℕ)) (opening : List ℕ) (pairs : List Pair) (i : ℕ) (d : Pair) (old mid one two three new : Written) (separator : List ℕ) → i < length pairs →
    Writes mid one [] (λ label. separator) → Writes one two [] (λ label. (get_or pairs i d).attribute.now) → Writes two three [] (λ label. codes "=") →
    Writes three new (term_of (get_or pairs i d).value ∷ []) (λ label. label_text (text_in texts) (label (term_of (get_or pairs i d).value))) →
    WrittenPairs texts opening pairs i old mid separator → WrittenPairs texts opening pairs (i + 1) old new (44 ∷ [])
WrittenPairs-next texts opening pairs i d old mid one two three new separator within a b e v w = record {
  writes = Writes-as old new (pair_values front ++ pair.1 ∷ []) (pair_values (seen_pairs (take (i + 1) pairs)))
      (λ label. opened opening 44 (map (pair_text (text_in texts) label) (front ++ pair ∷ [])))
      (λ label. opened opening 44 (map (pair_text (text_in texts) label) (seen_pairs (take (i + 1) pairs))))
      (sym (ap pair_values behind ∙ map-append (λ (p : List ℕ × Term ℕ). p.1) front (pair ∷ [])))
      (λ label. ap (λ (ps : TextPairs). opened opening 44 (map (pair_text (text_in texts) label) ps)) (sym behind))
      (writes_next opening 44 (pair_text (text_in texts)) front pair old mid new (pair_values front) (pair.1 ∷ []) separator w.separator_is w.writes
      (Writes-then mid one new [] (pair.1 ∷ []) (λ label. separator) (λ label. pair_text (text_in texts) label pair) a
      (Writes-then one three new [] (pair.1 ∷ []) (λ label. pair.0 ++ codes "=") (λ label. label_text (text_in texts) (label pair.1))
      (Writes-then one two three [] [] (λ label. pair.0) (λ label. codes "=") b e) v)));
  separator_is = sym (ap (separator_behind opening 44) behind ∙ last front);
}
  where
    front : TextPairs
    front = seen_pairs (take i pairs)

    pair : List ℕ × Term ℕ
    pair = ((get_or pairs i d).attribute.now, term_of (get_or pairs i d).value)

    behind : seen_pairs (take (i + 1) pairs) ≡ front ++ pair ∷ []
    behind = ap seen_pairs (take-next pairs i d within) ∙ map-append (λ (p : Pair). (p.attribute.now, term_of p.value)) (take i pairs) (get_or pairs i d ∷ [])

    last : (ps : TextPairs) → separator_behind opening 44 (ps ++ pair ∷ []) ≡ 44 ∷ []
    last [] = refl
    last (p ∷ ps) = refl

-- none
pub WrittenPairs-empty : (texts : List (List ℕ)) (opening closing : List ℕ) (pairs : List Pair) (place : ℕ) (old new : Written) (separator : List ℕ) → length pairs ≡ 0 →
    WrittenPairs texts opening pairs place old new separator →
    Writes old new (pair_values (seen_pairs pairs)) (λ label. enclosed opening 44 closing (written_pairs (text_in texts) label (seen_pairs pairs)))
WrittenPairs-empty texts opening closing [] place old new separator e w = by place w.writes
  where
    by : (n : ℕ) → Writes old new (pair_values (seen_pairs (take n []))) (λ label. opened opening 44 (map (pair_text (text_in texts) label) (seen_pairs (take n [])))) → Writes old new [] (λ label. [])
    by zero h = h
    by (suc n) h = h
WrittenPairs-empty texts opening closing (p ∷ pairs) place old new separator e w = absurd (omega arith)

-- some
pub WrittenPairs-end : (texts : List (List ℕ)) (opening closing : List ℕ) (pairs : List Pair) (place : ℕ) (old mid new : Written) (separator : List ℕ) → 0 < length pairs →
    length pairs ≤ place → Writes mid new [] (λ label. closing) → WrittenPairs texts opening pairs place old mid separator →
    Writes old new (pair_values (seen_pairs pairs)) (λ label. enclosed opening 44 closing (written_pairs (text_in texts) label (seen_pairs pairs)))
WrittenPairs-end texts opening closing [] place old mid new separator some all c w = absurd (omega arith)
WrittenPairs-end texts opening closing (p ∷ pairs) place old mid new separator some all c w =
    writes_end opening closing 44 (pair_text (text_in texts)) (p.attribute.now, term_of p.value) (seen_pairs pairs) old mid new (pair_values (seen_pairs (p ∷ pairs)))
    (subst (λ (ps : List Pair). Writes old mid (pair_values (seen_pairs ps)) (λ label. opened opening 44 (map (pair_text (text_in texts) label) (seen_pairs ps)))) (take_all place (p ∷ pairs) all) w.writes) c
