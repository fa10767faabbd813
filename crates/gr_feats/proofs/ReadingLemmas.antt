-- The steps of the readers of bags and literals.
use Rattle.std.proofs.Common.{◌≡◌, ℕ, ◌<◌, List, [], ◌∷◌, ◌++◌, length, Bool, true, false, Option, Some, None, inl, inr, refl, sym, ◌∙◌, ap, subst, append_assoc, append-nil}
use Rattle.std.proofs.lemmas.Bool.{false≢true, cases_lt}
use Rattle.std.specs.Prelude.{◌||◌}
use Rattle.gr_terms.specs.declared.Term.{Term}
use Rattle.gr_terms.specs.declared.Term.TheVariants.{Const, Var}
use Rattle.gr_symbols.specs.Numbers.{Grows}
use Rattle.gr_symbols.proofs.NumberLemmas.{Grows-trans}
use Rattle.gr_grammar.specs.Grammars.{Grammar, tok, star, begins, is_next, is_clear, nullable, Matches, Runs, took, tree_of, items, Rounds, start, round, round_items}
use Rattle.gr_grammar.proofs.Fronts.{null_of}
use Rattle.gr_grammar.proofs.Loops.{ended, ended-items}
use Rattle.gr_reader.specs.Lexemes.{Lexeme}
use Rattle.gr_reader.specs.Classes.{Class, any_name, variable, sees, flat}
use Rattle.gr_reader.proofs.Steps.{sees_next, sees_begins}
use Rattle.gr_reader.proofs.Systems.{flat_is_system}
use Rattle.gr_feats.specs.declared.gathered.Pair.{Pair}
use Rattle.gr_feats.specs.declared.gathered.Gathered.{Gathered}
use Rattle.gr_feats.specs.Passing.{Passes}
use Rattle.gr_feats.specs.Tables.{PutsNames}
use Rattle.gr_feats.proofs.PassingLemmas.{stay, pass_then}
use Rattle.gr_feats.proofs.TableLemmas.{puts_start, puts_more}
use Rattle.gr_feats.specs.declared.terms.Side.{Side}
use Rattle.gr_feats.specs.declared.terms.Side.TheVariants.{Name, Variable}
use Rattle.gr_feats.specs.Grammars.{Written, a_name, a_variable, WrittenPair, with_args, term_text, bag_text, closed_literals_text}
use Rattle.gr_feats.specs.Numberings.{Numbering, with_own}
use Rattle.gr_feats.specs.Readings.{IsTerm, InTurn, IsPair, IsBag, Gathers, IsLiteral}
use Rattle.gr_feats.specs.Sides.{IsSide, IsPerhapsSide, IsNumbered, IsHead}

-- the next lexeme decides in these grammars
pub bag_is_clear : is_clear flat bag_text ≡ true
bag_is_clear = refl

pub closed_literals_are_clear : is_clear flat closed_literals_text ≡ true
closed_literals_are_clear = refl

-- what the code sees begins a part
pub begins_token : (c : Class) (ts : List Lexeme) {seen told : Bool} → seen ≡ sees c ts → seen ≡ told → begins flat (tok c) ts ≡ told
begins_token c ts s t = sees_begins flat.parts flat.info c ts ∙ sym s ∙ t

or_false : (a b : Bool) → (a || (b || false)) ≡ (a || b)
or_false true b = refl
or_false false true = refl
or_false false false = refl

pub begins_term : (ts : List Lexeme) {seen told : Bool} → seen ≡ (sees any_name ts || sees variable ts) → seen ≡ told → begins flat term_text ts ≡ told
begins_term ts s t = sees_next flat.parts flat.info (any_name ∷ variable ∷ []) ts ∙ or_false (sees any_name ts) (sees variable ts) ∙ sym s ∙ t

-- the term of a side is that of what is written
pub side_term : (texts : List (List ℕ)) (before after : Numbering) (w : Written) (s : Side) (x : Term) → IsSide texts w s → IsNumbered before s x after → IsTerm texts before w x after
side_term texts before after (a_name t) (Name n) x side num = rw num.0 (side, num.1)
side_term texts before after (a_name t) (Variable n) x side num = absurd side
side_term texts before after (a_variable t) (Name n) x side num = absurd side
side_term texts before after (a_variable t) (Variable n) (Const p) side num = absurd num
side_term texts before after (a_variable t) (Variable n) (Var k) side num = (n.0, side, num)

-- one more of a row
pub InTurn-push : {W X : Type 0} (R : Numbering → W → X → Numbering → Type 0) (before mid after : Numbering) (ws : List W) (xs : List X) (w : W) (x : X)
    → InTurn R before ws xs mid → R mid w x after → InTurn R before (ws ++ w ∷ []) (xs ++ x ∷ []) after
InTurn-push R before mid after [] [] w x h r = (after, subst (λ m. R m w x after) h r, refl)
InTurn-push R before mid after [] (y ∷ ys) w x h r = absurd h
InTurn-push R before mid after (v ∷ vs) [] w x h r = absurd h
InTurn-push R before mid after (v ∷ vs) (y ∷ ys) w x h r = (h.0, h.1, InTurn-push R h.0 mid after vs ys w x h.2 r)

-- a part that is never empty takes a lexeme
pub shorter_text : {g : Grammar Class} {ts rest : List Lexeme} → nullable flat g ≡ false → Matches flat g ts rest → length rest < length ts
shorter_text {g} {ts} {rest} n m = elim (cases_lt (length rest) (length ts)) [ inl x ↦ x | inr y ↦ absurd (false≢true (sym n ∙ null_of flat flat_is_system m y)) ]

pub shorter : {g : Grammar Class} {ts rest : List Lexeme} → nullable flat g ≡ false → Runs flat g ts (took rest) → length rest < length ts
shorter n r = shorter_text n (tree_of r)

-- What a loop over a row does: the row from where it started, what was read by then is right for it with each front before it, and what it does beside.
pub record ReadsOn {W Y : Type 0} (g : Grammar Class) (f : (ts rest : List Lexeme) → Matches flat g ts rest → W) (R : List (List ℕ) → List W → Y × Numbering → Type 0)
    (ts : List Lexeme) (old : List (List ℕ)) (x : Y × Numbering) (now : List Lexeme) (new : List (List ℕ)) (y : Y × Numbering) : Type 0 where
  pub rounds : Rounds flat g ts now
  pub reads : (ws : List W) (later : List (List ℕ)) → Grows new later → R later ws x → R later (ws ++ round_items f rounds) y
  pub passes : Passes old new ts now x.1 y.1
  pub puts : PutsNames (star g) old new ts now

module _ {W Y : Type 0} (g : Grammar Class) (f : (ts rest : List Lexeme) → Matches flat g ts rest → W) (R : List (List ℕ) → List W → Y × Numbering → Type 0) where
  pub ReadsOn-start : (ts : List Lexeme) (old : List (List ℕ)) (x : Y × Numbering) → ReadsOn g f R ts old x ts old x
  ReadsOn-start ts old x = record { rounds = start; reads = λ ws later grows h. subst (λ z. R later z x) (sym (append-nil ws)) h; passes = stay; puts = puts_start }

  pub ReadsOn-more : (ts : List Lexeme) (old : List (List ℕ)) (x : Y × Numbering) (now : List Lexeme) (new : List (List ℕ)) (y : Y × Numbering) (rest : List Lexeme) (next : List (List ℕ)) (z : Y × Numbering)
      → ReadsOn g f R ts old x now new y → begins flat g now ≡ true → (r : Runs flat g now (took rest)) → Passes new next now rest y.1 z.1 → PutsNames g new next now rest
      → ((ws : List W) (later : List (List ℕ)) → Grows next later → R later ws y → R later (ws ++ f now rest (tree_of r) ∷ []) z)
      → ReadsOn g f R ts old x rest next z
  ReadsOn-more ts old x now new y rest next z on b r passes puts step = record {
    rounds = round on.rounds b r;
    reads = λ ws later grows h. subst (λ v. R later v z) (append_assoc ws (round_items f on.rounds) (f now rest (tree_of r) ∷ []))
        (step (ws ++ round_items f on.rounds) later grows (on.reads ws later (Grows-trans new next later passes.texts.grows grows) h));
    passes = pass_then on.passes passes;
    puts = puts_more on.puts puts;
  }

  pub ReadsOn-end : (ts : List Lexeme) (old : List (List ℕ)) (x : Y × Numbering) (now : List Lexeme) (new : List (List ℕ)) (y : Y × Numbering)
      → (on : ReadsOn g f R ts old x now new y) → (b : begins flat g now ≡ false) → (w : W) (later : List (List ℕ)) → Grows new later → R later (w ∷ []) x → R later (w ∷ items f (tree_of (ended on.rounds b))) y
  ReadsOn-end ts old x now new y on b w later grows h = subst (λ v. R later (w ∷ v) y) (sym (ended-items f on.rounds b)) (on.reads (w ∷ []) later grows h)

-- a bag of one pair more
pub IsBag-more : (texts : List (List ℕ)) (before mid after : Numbering) (ws : List WrittenPair) (w : WrittenPair) (p : Pair) (g h : Gathered)
    → IsBag texts before ws g mid → IsPair texts mid w p after → ((pairs : List Pair) → Gathers pairs g → Gathers (pairs ++ p ∷ []) h) → IsBag texts before (ws ++ w ∷ []) h after
IsBag-more texts before mid after ws w p g h bag pair adds = record {
  pairs = bag.pairs ++ p ∷ [];
  read = InTurn-push (IsPair texts) before mid after ws bag.pairs w p bag.read pair;
  gathers = adds bag.pairs bag.gathers;
}

pub IsBag-none : (texts : List (List ℕ)) (before : Numbering) (g : Gathered) → Gathers [] g → IsBag texts before [] g before
IsBag-none texts before g gathers = record { pairs = []; read = refl; gathers = gathers }

-- what begins an argument and a literal behind others
pub begins_next : (c : Class) (ts : List Lexeme) {seen told : Bool} → seen ≡ (sees c ts || (sees any_name ts || sees variable ts)) → seen ≡ told → is_next flat (c ∷ any_name ∷ variable ∷ []) ts ≡ told
begins_next c ts s t = sees_next flat.parts flat.info (c ∷ any_name ∷ variable ∷ []) ts ∙ (λ i. sees c ts || or_false (sees any_name ts) (sees variable ts) i) ∙ sym s ∙ t

-- a row of one more
pub InTurn-one : {W X : Type 0} (R : Numbering → W → X → Numbering → Type 0) (before after : Numbering) (w : W) (x : X) (xs : List X) → xs ≡ [] → R before w x after → (ys : List X) → ys ≡ xs ++ x ∷ [] → InTurn R before (w ∷ []) ys after
InTurn-one R before after w x xs none r ys is =
    subst (λ zs. InTurn R before (w ∷ []) zs after) (sym (is ∙ ap (λ zs. zs ++ x ∷ []) none)) (after, r, refl)

pub InTurn-more : {W X : Type 0} (R : Numbering → W → X → Numbering → Type 0) (before mid after : Numbering) (ws : List W) (w : W) (xs ys : List X) (x : X)
    → InTurn R before ws xs mid → R mid w x after → ys ≡ xs ++ x ∷ [] → InTurn R before (ws ++ w ∷ []) ys after
InTurn-more R before mid after ws w xs ys x h r is = subst (λ zs. InTurn R before (ws ++ w ∷ []) zs after) (sym is) (InTurn-push R before mid after ws xs w x h r)

-- the head and the arguments make a literal
pub literal_read : (texts : List (List ℕ)) (before mid after : Numbering) (w : Written) (v : Option Written) (ws : List Written) (s : Side) (t : Option Side) (x : Term × Term) (xs : List Term)
    → IsSide texts w s → IsPerhapsSide texts v t → IsHead before s t x mid → InTurn (IsTerm texts) mid ws xs after
    → IsLiteral texts before (with_args w v ws) (record { handle = x.0; pred = x.1; args = xs }) after
literal_read texts before mid after w None ws s None x xs first second head args = record {
  behind_handle = with_own before;
  behind_pred = mid;
  handle = (head.0, refl);
  pred = side_term texts (with_own before) mid w s x.1 first head.1;
  args = args;
}
literal_read texts before mid after w None ws s (Some t) x xs first second head args = absurd second
literal_read texts before mid after w (Some v) ws s None x xs first second head args = absurd second
literal_read texts before mid after w (Some v) ws s (Some t) x xs first second head args = record {
  behind_handle = head.0;
  behind_pred = mid;
  handle = side_term texts before head.0 w s x.0 first head.1;
  pred = side_term texts head.0 mid v t x.1 second head.2;
  args = args;
}

pub InTurn-none : {W X : Type 0} (R : Numbering → W → X → Numbering → Type 0) (before : Numbering) (xs : List X) → xs ≡ [] → InTurn R before [] xs before
InTurn-none R before xs none = subst (λ zs. InTurn R before [] zs before) (sym none) refl
