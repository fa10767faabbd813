-- What was read stays right as the table of texts grows, and where an attribute stood again.
use Rattle.std.proofs.Common.{◌≡◌, ℕ, ◌<◌, ◌≤◌, List, [], ◌∷◌, length, inl, inr, Option, Some, None, Result, Ok, Err, refl, sym, ◌∙◌, subst, arith}
use Rattle.gr_base.specs.Lists.{IsAmong, Each}
use Rattle.gr_base.proofs.ListLemmas.{IsAmong-append_right, Each-at}
use Rattle.gr_text.specs.declared.Place.{Place}
use Rattle.gr_terms.specs.declared.Term.{Term}
use Rattle.gr_terms.specs.declared.Term.TheVariants.{Const, Var}
use Rattle.gr_terms.specs.declared.Literal.{Literal}
use Rattle.gr_terms.specs.declared.bag.Bag.{Bag}
use Rattle.gr_symbols.specs.Numbers.{Grows}
use Rattle.gr_symbols.proofs.NumberLemmas.{Names-grows}
use Rattle.gr_tokens.specs.declared.Token.{Token}
use Rattle.gr_tokens.specs.declared.ReadRefusal.{ReadRefusal}
use Rattle.gr_grammar.specs.Grammars.{Matches, both, the_left, the_right, no_more, one_more, alt, nil, star, items}
use Rattle.gr_grammar.proofs.Fronts.{no_longer}
use Rattle.gr_reader.specs.Lexemes.{Lexeme}
use Rattle.gr_reader.specs.Classes.{flat}
use Rattle.gr_feats.specs.declared.gathered.Pair.{Pair}
use Rattle.gr_feats.specs.declared.gathered.Gathered.{Gathered}
use Rattle.gr_feats.specs.Grammars.{Written, a_name, a_variable, WrittenPair, WrittenLiteral, pair_text, pair_of, next_pair_text, next_pair_of, pairs_text, perhaps_pairs_of, bag_text, bag_of}
use Rattle.gr_feats.proofs.ReadingLemmas.{shorter_text}
use Rattle.gr_feats.specs.Numberings.{Numbering}
use Rattle.gr_feats.specs.Readings.{IsTerm, InTurn, IsPair, IsAgain, IsBag, IsHandle, IsLiteral, AreLiterals}
use Rattle.gr_feats.specs.Answers.{IsBagReading, IsLiteralsReading}

-- a row stays right where each of it does
pub row_stays : {W X : Type 0} (R S : Numbering → W → X → Numbering → Type 0) → ((before : Numbering) (w : W) (x : X) (after : Numbering) → R before w x after → S before w x after)
    → (before : Numbering) (ws : List W) (xs : List X) (after : Numbering) → InTurn R before ws xs after → InTurn S before ws xs after
row_stays R S stays before [] [] after h = h
row_stays R S stays before [] (x ∷ xs) after h = h
row_stays R S stays before (w ∷ ws) [] after h = h
row_stays R S stays before (w ∷ ws) (x ∷ xs) after h = (h.0, stays before w x h.0 h.1, row_stays R S stays h.0 ws xs after h.2)

module _ (texts later : List (List ℕ)) (grows : Grows texts later) where
  term_stays : (before : Numbering) (w : Written) (x : Term) (after : Numbering) → IsTerm texts before w x after → IsTerm later before w x after
  term_stays before (a_name t) (Const n) after h = (Names-grows texts later n.0 t h.0 grows, h.1)
  term_stays before (a_name t) (Var k) after h = h
  term_stays before (a_variable t) (Const n) after h = h
  term_stays before (a_variable t) (Var k) after h = (h.0, Names-grows texts later h.0 t h.1 grows, h.2)

  pair_stays : (before : Numbering) (w : WrittenPair) (x : Pair) (after : Numbering) → IsPair texts before w x after → IsPair later before w x after
  pair_stays before w x after h = record { attr = Names-grows texts later x.attr.0 w.attr h.attr grows; value = term_stays before w.value x.value after h.value; left = h.left }

  pub bag_stays : (before : Numbering) (ws : List WrittenPair) (g : Gathered) (after : Numbering) → IsBag texts before ws g after → IsBag later before ws g after
  bag_stays before ws g after h = record { pairs = h.pairs; read = row_stays (IsPair texts) (IsPair later) pair_stays before ws h.pairs after h.read; gathers = h.gathers }

  handle_stays : (before : Numbering) (w : Option Written) (x : Term) (after : Numbering) → IsHandle texts before w x after → IsHandle later before w x after
  handle_stays before None x after h = h
  handle_stays before (Some w) x after h = term_stays before w x after h

  literal_stays : (before : Numbering) (w : WrittenLiteral) (x : Literal) (after : Numbering) → IsLiteral texts before w x after → IsLiteral later before w x after
  literal_stays before w x after h = record {
    behind_handle = h.behind_handle;
    behind_pred = h.behind_pred;
    handle = handle_stays before w.handle x.handle h.behind_handle h.handle;
    pred = term_stays h.behind_handle w.pred x.pred h.behind_pred h.pred;
    args = row_stays (IsTerm texts) (IsTerm later) term_stays h.behind_pred w.args x.args after h.args;
  }

  pub literals_stay : (before : Numbering) (ws : List WrittenLiteral) (xs : List Literal) (after : Numbering) → AreLiterals texts before ws xs after → AreLiterals later before ws xs after
  literals_stay before ws xs after h = row_stays (IsLiteral texts) (IsLiteral later) literal_stays before ws xs after h

  pub bag_reading_stays : (bytes : List ℕ) (tokens : List Token) (at : ℕ) (before after : Numbering) (x : Result (Bag × ℕ × Option Place) ReadRefusal) → IsBagReading bytes tokens at texts before after x → IsBagReading bytes tokens at later before after x
  bag_reading_stays bytes tokens at before after (Ok x) h =
      record { pairs = h.pairs; passed = h.passed; again = h.again; front = h.front; read = bag_stays before h.pairs (record { bag = x.0; again = h.again }) after h.read; next = h.next; second = h.second }
  bag_reading_stays bytes tokens at before after (Err r) h = h

  pub literals_reading_stays : (bytes : List ℕ) (tokens : List Token) (at : ℕ) (before after : Numbering) (x : Result (List Literal × ℕ) ReadRefusal)
      → IsLiteralsReading bytes tokens at texts before after x → IsLiteralsReading bytes tokens at later before after x
  literals_reading_stays bytes tokens at before after (Ok x) h =
      record { literals = h.literals; passed = h.passed; front = h.front; read = literals_stay before h.literals x.0 after h.read; closing = h.closing }
  literals_reading_stays bytes tokens at before after (Err r) h = h

-- the attribute of a pair stands in the text
abbrev IsInside : List Lexeme → List Lexeme → WrittenPair → Type 0
IsInside ts rest w = (length rest < w.left) × (w.left ≤ length ts)

wider : (ts from to rest : List Lexeme) → length from ≤ length ts → length rest ≤ length to → (ws : List WrittenPair) → Each (IsInside from to) ws → Each (IsInside ts rest) ws
wider ts from to rest a b [] h = h
wider ts from to rest a b (w ∷ ws) h = ((omega (arith, h.0.0), omega (arith, h.0.1)), wider ts from to rest a b ws h.1)

in_pair : {ts rest : List Lexeme} (m : Matches flat pair_text ts rest) → IsInside ts rest (pair_of m)
in_pair {ts} {rest} (both a (both e v)) = (shorter_text {g = pair_text} refl (both a (both e v)), omega arith)

in_next_pair : {ts rest : List Lexeme} (m : Matches flat next_pair_text ts rest) → IsInside ts rest (next_pair_of m)
in_next_pair {ts} {rest} (both c p) =
    let h = in_pair p in
    let l = no_longer flat c in
    (h.0, omega (arith, h.1))

in_next_pairs : {ts rest : List Lexeme} (m : Matches flat (star next_pair_text) ts rest) → Each (IsInside ts rest) (items (λ ts rest m. next_pair_of m) m)
in_next_pairs no_more = tt
in_next_pairs {ts} {rest} (one_more (both {mid} p ps)) =
    let h = in_next_pair p in
    let l = no_longer flat ps in
    let k = no_longer flat p in
    ((omega (arith, h.0), h.1), wider ts mid rest rest k (omega arith) _ (in_next_pairs ps))

in_pairs : {ts rest : List Lexeme} (m : Matches flat (alt pairs_text nil) ts rest) → Each (IsInside ts rest) (perhaps_pairs_of m)
in_pairs (the_right m) = tt
in_pairs {ts} {rest} (the_left (both {mid} p ps)) =
    let h = in_pair p in
    let l = no_longer flat ps in
    let k = no_longer flat p in
    ((omega (arith, h.0), h.1), wider ts mid rest rest k (omega arith) _ (in_next_pairs ps))

in_bag : {ts rest : List Lexeme} (m : Matches flat bag_text ts rest) → Each (IsInside ts rest) (bag_of m)
in_bag {ts} {rest} (both {mid = from} o (both {mid = to} m c)) = wider ts from to rest (no_longer flat o) (no_longer flat c) (perhaps_pairs_of m) (in_pairs m)

-- what is read is read of something written
read_of : {W X : Type 0} (R : Numbering → W → X → Numbering → Type 0) (before : Numbering) (ws : List W) (xs : List X) (after : Numbering) → InTurn R before ws xs after
    → (x : X) → IsAmong xs x → (w : W) × IsAmong ws w × ((a : Numbering) × (b : Numbering) × R a w x b)
read_of R before [] [] after h x i = absurd i
read_of R before [] (y ∷ ys) after h x i = absurd h
read_of R before (w ∷ ws) [] after h x i = absurd i
read_of R before (w ∷ ws) (y ∷ ys) after h x (inl e) = (w, inl refl, (before, h.0, subst (λ z. R before w z h.0) (sym e) h.1))
read_of R before (w ∷ ws) (y ∷ ys) after h x (inr i) = let r = read_of R h.0 ws ys after h.2 x i in (r.0, inr r.1, r.2)

-- where an attribute stands again is in the bag
pub again_inside : (texts : List (List ℕ)) (before after : Numbering) (ts rest : List Lexeme) (m : Matches flat bag_text ts rest) (g : Gathered) (left : ℕ)
    → IsBag texts before (bag_of m) g after → g.again ≡ Some left → (length rest < left) × (left ≤ length ts)
again_inside texts before after ts rest m g left bag e =
    let again : IsAgain bag.pairs (Some left) = subst (λ a. IsAgain bag.pairs a) e bag.gathers.again in
    let among : IsAmong bag.pairs again.1 = subst (λ ps. IsAmong ps again.1) (sym again.3) (IsAmong-append_right again.0 (again.1 ∷ again.2) again.1 (inl refl)) in
    let of = read_of (IsPair texts) before (bag_of m) bag.pairs after bag.read again.1 among in
    let inside = Each-at (IsInside ts rest) (bag_of m) of.0 (in_bag m) of.1 in
    let same : left ≡ of.0.left = again.6 ∙ of.2.2.left in
    (omega (arith, inside.0), omega (arith, inside.1))
