-- The steps of a function that reads a part of a grammar.
use Rattle.std.proofs.Common.{◌≡◌, ℕ, ◌-◌, ◌<◌, ◌≤◌, List, [], ◌∷◌, ◌++◌, length, take, Bool, true, false, refl, ap, sym, ◌∙◌, subst, arith, append_assoc}
use Rattle.std.specs.Prelude.{◌||◌, slice_range}
use Rattle.std.proofs.Math.Seq.{take-length}
use Rattle.gr_grammar.specs.Grammars.{Grammar, tok, nil, seq, alt, star, part, Info, System, Matches, a_token, Runs, take_token, bad_token, bad_end, take_nothing, run_both, run_first, run_left, run_right, run_part, took, failed, tree_of, begins, is_next, is_of, Rounds, start, round, round_items, items}
use Rattle.gr_grammar.proofs.Fronts.{no_longer}
use Rattle.gr_grammar.proofs.Loops.{ended, ended-items, broken}
use Rattle.gr_base.proofs.ListLemmas.{same_head, same_tail}
use Rattle.gr_base.proofs.Numbers.{one_less}
use Rattle.gr_base.proofs.Booleans.{or_false}
use Rattle.gr_tokens.specs.declared.Token.{Token}
use Rattle.gr_symbols.specs.Numbers.{Names}
use Rattle.gr_reader.specs.Lexemes.{Lexeme, lexeme_of, lexemes}
use Rattle.gr_reader.specs.Classes.{Class, test, sees, sees_one, system_of}
use Rattle.gr_reader.specs.Parts.{Took, Stands, Stays, TookText, TookNumber, StaysFor, for_other, for_want, Skips, token_of, StopsAt, for_syntax, for_memory}
use Rattle.gr_reader.specs.declared.reader.Stop.{Stop}
use Rattle.gr_reader.specs.declared.reader.Stop.TheVariants.{Syntax, Memory}

-- one token less in the code is one lexeme less
next_lexemes : (bytes : List ℕ) (ts : List Token) (l : Lexeme) (rest : List Lexeme) → lexemes bytes ts ≡ l ∷ rest → lexemes bytes (slice_range ts 1 (length ts)) ≡ rest
next_lexemes bytes [] l rest e = let h : [] ≡ l ∷ rest = e in cc
next_lexemes bytes (t ∷ ts) l rest e = ap (λ n. lexemes bytes (take n ts)) (one_less (length ts)) ∙ ap (lexemes bytes) (take-length ts) ∙ same_tail (lexeme_of bytes t) l (lexemes bytes ts) rest e

pub took_by : (bytes : List ℕ) (ts : List Token) (now : List Lexeme) (c : Class) (text : List ℕ) → now ≡ lexemes bytes ts → Stands c now text → TookText c now (lexemes bytes (slice_range ts 1 (length ts))) text
took_by bytes ts now c text e s = record {
  took = record {
    lexeme = s.lexeme;
    split = s.split ∙ ap (λ z. s.lexeme ∷ z) (sym (next_lexemes bytes ts s.lexeme s.rest (sym e ∙ s.split)));
    is = s.is;
  };
  is = s.text_is;
}

sees_none : (cs : List Class) → sees_one cs [] ≡ false
sees_none [] = refl
sees_none (c ∷ cs) = sees_none cs

module _ (parts : ℕ → Grammar Class) (info : ℕ → Info Class) where
  -- what the code sees is what begins a part
  pub sees_begins : (c : Class) (ts : List Lexeme) → begins (system_of parts info) (tok c) ts ≡ sees c ts
  sees_begins c [] = refl
  sees_begins c (t ∷ ts) = or_false (test c t)

  sees_of : (cs : List Class) (t : Lexeme) (ts : List Lexeme) → sees_one cs (t ∷ ts) ≡ is_of (system_of parts info) cs t
  sees_of [] t ts = refl
  sees_of (c ∷ cs) t ts = ap (λ b. test c t || b) (sees_of cs t ts)

  pub sees_next : (cs : List Class) (ts : List Lexeme) → is_next (system_of parts info) cs ts ≡ sees_one cs ts
  sees_next cs [] = sym (sees_none cs)
  sees_next cs (t ∷ ts) = sym (sees_of cs t ts)

module _ {parts : ℕ → Grammar Class} {info : ℕ → Info Class} where
  -- a token that was taken is a run, and one that wasn't stops it
  pub token_run : {c : Class} {ts rest : List Lexeme} → Took c ts rest → Runs (system_of parts info) (tok c) ts (took rest)
  token_run {c} {ts} {rest} t = subst (λ z. Runs (system_of parts info) (tok c) z (took rest)) (sym t.split) (take_token t.is)

  no_token : (c : Class) (ts : List Lexeme) → sees c ts ≡ false → Runs (system_of parts info) (tok c) ts (failed ts)
  no_token c [] h = bad_end
  no_token c (t ∷ ts) h = bad_token h

  pub token_fails : {c : Class} {ts rest : List Lexeme} → Stays c ts rest → Runs (system_of parts info) (tok c) ts (failed rest)
  token_fails {c} {ts} s = subst (λ z. Runs (system_of parts info) (tok c) ts (failed z)) (sym s.same) (no_token c ts s.other)

  pub token_stops : {c : Class} {ts rest : List Lexeme} {e : Stop} → e ≡ Syntax → Stays c ts rest → StopsAt (system_of parts info) (tok c) ts rest e
  token_stops {c} {ts} {rest} i s = subst (λ z. StopsAt (system_of parts info) (tok c) ts rest z) (sym i) (for_syntax (token_fails s))

  -- the lexeme that was taken is that of the tree
  pub token_is : {c : Class} {ts rest : List Lexeme} (m : Matches (system_of parts info) (tok c) ts rest) (t : Took c ts rest) → t.lexeme ≡ token_of m
  token_is {c} {ts} {rest} m t = same_head t.lexeme (token_of m) rest rest (sym t.split ∙ head m)
    where
      head : {c : Class} {ts rest : List Lexeme} (m : Matches (system_of parts info) (tok c) ts rest) → ts ≡ token_of m ∷ rest
      head (a_token h) = refl

  pub token_text : {c : Class} {ts rest : List Lexeme} {text : List ℕ} (m : Matches (system_of parts info) (tok c) ts rest) → TookText c ts rest text → text ≡ (token_of m).text
  token_text m t = t.is ∙ ap (λ l. l.text) (token_is m t.took)

  -- the same for a token whose text is numbered
  pub number_stops : {c : Class} {ts rest : List Lexeme} {e : Stop} → StaysFor c ts rest e → StopsAt (system_of parts info) (tok c) ts rest e
  number_stops (for_other s) = for_syntax (token_fails s)
  number_stops (for_want s) = for_memory

  pub number_names : {c : Class} {ts rest : List Lexeme} {texts : List (List ℕ)} {n : ℕ} (m : Matches (system_of parts info) (tok c) ts rest) → TookNumber c ts rest texts n → Names texts n (token_of m).text
  number_names {texts = texts} {n = n} m t = subst (λ z. Names texts n z) (ap (λ l. l.text) (token_is m t.took)) t.names

  -- a token that may be left out
  pub skip_run : {c : Class} {ts rest : List Lexeme} (b : Bool) → Skips c ts rest b → Runs (system_of parts info) (alt (tok c) nil) ts (took rest)
  skip_run {c} {ts} {rest} true t = run_left (subst (λ z. begins (system_of parts info) (tok c) z ≡ true) (sym t.split) (or_false (test c t.lexeme) ∙ t.is)) (token_run t)
  skip_run {c} {ts} {rest} false s = run_right (sees_begins parts info c ts ∙ s.other) (subst (λ z. Runs (system_of parts info) nil ts (took z)) (sym s.same) take_nothing)

-- where parts stop, what has them stops
module _ {C T : Type 0} {S : System C T} where
  pub first_stops : {g h : Grammar C} {ts rest : List T} {e : Stop} → StopsAt S g ts rest e → StopsAt S (seq g h) ts rest e
  first_stops (for_syntax r) = for_syntax (run_first r)
  first_stops for_memory = for_memory

  pub then_stops : {g h : Grammar C} {ts mid rest : List T} {e : Stop} → Runs S g ts (took mid) → StopsAt S h mid rest e → StopsAt S (seq g h) ts rest e
  then_stops a (for_syntax r) = for_syntax (run_both a r)
  then_stops a for_memory = for_memory

  pub left_stops : {g h : Grammar C} {ts rest : List T} {e : Stop} → begins S g ts ≡ true → StopsAt S g ts rest e → StopsAt S (alt g h) ts rest e
  left_stops b (for_syntax r) = for_syntax (run_left b r)
  left_stops b for_memory = for_memory

  pub right_stops : {g h : Grammar C} {ts rest : List T} {e : Stop} → begins S g ts ≡ false → StopsAt S h ts rest e → StopsAt S (alt g h) ts rest e
  right_stops b (for_syntax r) = for_syntax (run_right b r)
  right_stops b for_memory = for_memory

  pub part_stops : {n : ℕ} {ts rest : List T} {e : Stop} → StopsAt S (S.parts n) ts rest e → StopsAt S (part n) ts rest e
  part_stops (for_syntax r) = for_syntax (run_part r)
  part_stops for_memory = for_memory

  pub row_stops : {g : Grammar C} {ts mid rest : List T} {e : Stop} → Rounds S g ts mid → begins S g mid ≡ true → StopsAt S g mid rest e → StopsAt S (star g) ts rest e
  row_stops r b (for_syntax m) = for_syntax (broken r b m)
  row_stops r b for_memory = for_memory

  pub memory_stops : {g : Grammar C} {ts rest : List T} {e : Stop} → e ≡ Memory → StopsAt S g ts rest e
  memory_stops {g} {ts} {rest} i = subst (λ z. StopsAt S g ts rest z) (sym i) for_memory

  -- and back: where the reason is syntax, a run failed
  pub syntax_run : {g : Grammar C} {ts rest : List T} {e : Stop} → e ≡ Syntax → StopsAt S g ts rest e → Runs S g ts (failed rest)
  syntax_run i (for_syntax r) = r
  syntax_run i for_memory = absurd (let k : Memory ≡ Syntax = i in cc)

  -- the values of a row: one more at its end, and all at the end of a loop, with a first one that was read before the loop
  pub row_value : {A : Type 0} {g : Grammar C} {ts mid : List T} {row base : List A} {k y : A} (f : (ts rest : List T) → Matches S g ts rest → A) (r : Rounds S g ts mid) (b : begins S g mid ≡ false) → base ≡ [] ++ k ∷ [] → k ≡ y → row ≡ base ++ round_items f r → row ≡ y ∷ items f (tree_of (ended r b))
  row_value f r b e i h = h ∙ ((λ n. e n ++ round_items f r) ∙ (λ n. i n ∷ sym (ended-items f r b) n))

  pub row_value_by : {A : Type 0} {g : Grammar C} {ts mid : List T} {row base v : List A} {k y : A} (f : (ts rest : List T) → Matches S g ts rest → A) (r : Rounds S g ts mid) (b : begins S g mid ≡ false) → base ≡ [] ++ k ∷ [] → k ≡ y → row ≡ base ++ round_items f r → items f (tree_of (ended r b)) ≡ v → row ≡ y ∷ v
  row_value_by {y} f r b e i h k = row_value f r b e i h ∙ ap (λ z. y ∷ z) k

  -- measures: what is left is less behind a token, and no more behind a row
  pub below : {g : Grammar C} {ts rest : List T} → Rounds S g ts rest → length rest ≤ length ts
  below start = omega arith
  below (round r b m) = let x = below r in let y = no_longer S (tree_of m) in omega arith

pub pushed : {A : Type 0} (xs base : List A) {ys zs : List A} {x y : A} → zs ≡ ys ++ x ∷ [] → ys ≡ base ++ xs → x ≡ y → zs ≡ base ++ (xs ++ y ∷ [])
pushed xs base {y} h i e = h ∙ ((λ n. i n ++ e n ∷ []) ∙ append_assoc base xs (y ∷ []))

pub shorter : {c : Class} {ts rest : List Lexeme} → Took c ts rest → length rest < length ts
shorter {ts} {rest} t = let e = ap length t.split in omega arith
