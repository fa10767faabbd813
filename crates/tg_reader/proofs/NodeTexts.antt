-- What stands at a node.
use Rattle.std.specs.Prelude.{◌≡◌, ℕ, ◌<◌, ◌≤◌, ◌==◌, List, [], ◌∷◌, ◌++◌, codes, refl}
use Rattle.std.proofs.Common.{◌∙◌, append_assoc, arith, sym}
use Rattle.gr_base.proofs.ListLemmas.{same_tail}
use Rattle.gr_symbols.specs.Numbers.{Grows, first_texts}
use Rattle.gr_symbols.proofs.NumberLemmas.{Names-grows}
use Rattle.gr_terms.specs.Canonical.{Label, Node, Pairs, category, properties}
use Rattle.gr_terms.specs.declared.Term.{Term}
use Rattle.td_canon.specs.TreeText.{category_text, enclosed, node_text, pair_texts}
use Rattle.td_tree.specs.Trees.{BagPairs}
use Rattle.gr_base.specs.Lists.{gathered}
use Rattle.tg_reader.specs.Naming.{label_names}
use Rattle.tg_reader.specs.Reading.{CanReadCategory, Differs, Ends, IsClosing, IsKnownPair, IsKnownTerm, IsNodeEnd, StandsForCategory, is_of}
use Rattle.tg_reader.specs.declared.reader.Run.TheVariants.{Word}
use Rattle.tg_reader.specs.Writable.{IsName}
use Rattle.tg_reader.proofs.Enclosed.{stops_differs, stops_enclosed, stops_ends, stops_node}
use Rattle.tg_reader.proofs.PairLemmas.{bare_word, known_pair}
use Rattle.tg_reader.proofs.Values.{begins_not}

cat_name : IsName (codes "cat")
unfolding lib.Utf8.encode
cat_name =
    let other : (b : ℕ) → 96 < b → b < 123 → (32 ≤ b) × (b ≡ 34 → ⊥) × (b ≡ 92 → ⊥) × (b ≡ 127 → ⊥) =
    λ (b : ℕ) low high. (omega arith, (λ e. omega arith), (λ e. omega arith), (λ e. omega arith)) in
    record {
      bytes = (other 99 (omega arith) (omega arith), (other 97 (omega arith) (omega arith), (other 116 (omega arith) (omega arith), tt)));
      few = omega arith;
      utf8 = (codes "cat", (refl, refl));
    }

-- a category is known where its value is
pub known_category : (texts : List (List ℕ)) (value : Term) → Grows first_texts texts → IsKnownTerm value texts → IsKnownPair texts (record { 0 = 0 }, value)
known_category texts value first known = known_pair texts (record { 0 = 0 }) value (codes "cat") (Names-grows first_texts texts 0 (codes "cat") refl first) cat_name (bare_word (codes "cat") refl) known

-- where `-` is taken there is no category
pub no_category : (text : ℕ → List ℕ) (vs : List Label) (all after rest : List ℕ) (bag : BagPairs) → CanReadCategory text vs → bag ≡ [] → all ≡ codes "-" ++ after → all ≡ category_text text vs ++ rest
    → (after ≡ rest) × ((later : List (List ℕ)) → StandsForCategory text later vs bag) × (gathered (label_names text) vs ≡ [])
no_category text [] all after rest bag can none ate e = (same_tail 45 45 after rest (sym ate ∙ e), λ later. none, refl)
no_category text (v ∷ []) all after rest bag can none ate e = absurd (begins_not text v 45 after rest can refl (λ k. omega (arith, k)) (λ k. omega (arith, k)) (sym ate ∙ e))
no_category text (v ∷ w ∷ vs) all after rest bag can none ate e = absurd can

module _ (text : ℕ → List ℕ) where
  abbrev pub braces : Node Pairs → List ℕ
  braces n = enclosed (codes "{") 44 (codes "}") (pair_texts text (properties n.own))

  abbrev pub tops : Node Pairs → List ℕ
  tops n = enclosed (codes "^[") 44 (codes "]") (pair_texts text n.top)

  abbrev pub bottoms : Node Pairs → List ℕ
  bottoms n = enclosed (codes "/[") 44 (codes "]") (pair_texts text n.bottom)

  pub node_regroup : (n : Node Pairs) (rest : List ℕ) → node_text text n ++ rest ≡ category_text text (category n.own) ++ (braces n ++ (tops n ++ (bottoms n ++ rest)))
  node_regroup n rest =
      append_assoc ((category_text text (category n.own) ++ braces n) ++ tops n) (bottoms n) rest
      ∙ append_assoc (category_text text (category n.own) ++ braces n) (tops n) (bottoms n ++ rest)
      ∙ append_assoc (category_text text (category n.own)) (braces n) (tops n ++ (bottoms n ++ rest))

  -- what follows each part does not go on with it
  pub record Apart (n : Node Pairs) (rest : List ℕ) : Type 0 where
    pub category : Ends Word (braces n ++ (tops n ++ (bottoms n ++ rest)))
    pub braces : Differs (codes "{") (tops n ++ (bottoms n ++ rest))
    pub top : Differs (codes "^[") (bottoms n ++ rest)
    pub bottom : Differs (codes "/[") rest

  pub apart : (n : Node Pairs) (rest : List ℕ) → IsNodeEnd rest → Apart n rest
  apart n rest end = record {
    category = stops_ends Word _ (stops_enclosed (is_of Word) 123 [] (codes "}") 44 (pair_texts text (properties n.own)) _ refl
        (stops_enclosed (is_of Word) 94 (91 ∷ []) (codes "]") 44 (pair_texts text n.top) _ refl
        (stops_enclosed (is_of Word) 47 (91 ∷ []) (codes "]") 44 (pair_texts text n.bottom) _ refl (stops_node (is_of Word) rest refl refl refl end))));
    braces = stops_differs 123 [] _ (stops_enclosed (λ c. c == 123) 94 (91 ∷ []) (codes "]") 44 (pair_texts text n.top) _ refl
        (stops_enclosed (λ c. c == 123) 47 (91 ∷ []) (codes "]") 44 (pair_texts text n.bottom) _ refl (stops_node (λ c. c == 123) rest refl refl refl end)));
    top = stops_differs 94 (91 ∷ []) _ (stops_enclosed (λ c. c == 94) 47 (91 ∷ []) (codes "]") 44 (pair_texts text n.bottom) _ refl (stops_node (λ c. c == 94) rest refl refl refl end));
    bottom = stops_differs 47 (91 ∷ []) rest (stops_node (λ c. c == 47) rest refl refl refl end);
  }

-- `]` and `}` close pairs
pub bracket_closes : IsClosing (codes "]")
bracket_closes more = record { word = refl; comma = stops_differs 44 [] (93 ∷ more) refl }

pub brace_closes : IsClosing (codes "}")
brace_closes more = record { word = refl; comma = stops_differs 44 [] (125 ∷ more) refl }
