-- A run over the tokens before the first bracket that opens too deep gives the right answer for all tokens.
use Rattle.std.proofs.Common.{◌≡◌, ℕ, zero, suc, ◌+◌, ◌-◌, ◌<◌, ◌≤◌, List, [], ◌∷◌, ◌++◌, length, take, drop, map, true, refl, ap, sym, ◌∙◌, subst, arith, append-nil, length-append}
use Rattle.std.specs.Prelude.{slice_range}
use Rattle.std.proofs.lemmas.List.{length-map, length-drop, nil_from_length}
use Rattle.gr_grammar.specs.Grammars.{Grammar, System, IsSystem, Matches, is_clear, took, failed, End, Runs, tree_of}
use Rattle.gr_grammar.specs.Readings.{IsStopBefore}
use Rattle.gr_grammar.specs.Depths.{IsShallow, IsShallowFault, IsCut}
use Rattle.gr_grammar.proofs.Cuts.{cut_at, room_in}
use Rattle.gr_grammar.proofs.Fronts.{no_longer}
use Rattle.gr_grammar.proofs.Places.{one_place, no_place}
use Rattle.gr_grammar.proofs.Readings.{stop_place, failed_within as run_within}
use Rattle.gr_tokens.specs.declared.Token.{Token}
use Rattle.gr_text.specs.declared.Place.{Place}
use Rattle.gr_reader.specs.Lexemes.{Lexeme, lexeme_of, lexemes}
use Rattle.gr_reader.specs.Classes.{Class}
use Rattle.gr_reader.specs.Brackets.{turn, shallow_tokens}
use Rattle.gr_reader.specs.Places.{place_of_token}
use Rattle.gr_reader.proofs.Fronts.{by_number}
use Rattle.gr_reader.specs.Files.{IsFile, BreaksOff}

map_take : {A B : Type 0} (f : A → B) (n : ℕ) (xs : List A) → map f (take n xs) ≡ take n (map f xs)
map_take f zero xs = refl
map_take f (suc n) [] = refl
map_take f (suc n) (x ∷ xs) = ap (λ z. f x ∷ z) (map_take f n xs)

map_drop : {A B : Type 0} (f : A → B) (n : ℕ) (xs : List A) → map f (drop n xs) ≡ drop n (map f xs)
map_drop f zero xs = refl
map_drop f (suc n) [] = refl
map_drop f (suc n) (x ∷ xs) = map_drop f n xs

take_none : {A : Type 0} (n : ℕ) → ◌≡◌ {A = List A} (take n []) []
take_none zero = refl
take_none (suc n) = refl

whole_take : {A : Type 0} (n : ℕ) (xs : List A) → length xs ≤ n → take n xs ≡ xs
whole_take n [] l = take_none n
whole_take zero (x ∷ xs) l = absurd (omega arith)
whole_take (suc n) (x ∷ xs) l = ap (λ z. x ∷ z) (whole_take n xs (omega arith))

-- the lexemes of the first tokens, and those of the tokens from one number on
pub front_lexemes : (bytes : List ℕ) (tokens : List Token) (n : ℕ) → lexemes bytes (slice_range tokens 0 n) ≡ take n (lexemes bytes tokens)
front_lexemes bytes tokens n = map_take (lexeme_of bytes) (n - 0) tokens ∙ ap (λ k. take k (lexemes bytes tokens)) (let k : n - 0 ≡ n = omega arith in k)

pub later_lexemes : (bytes : List ℕ) (tokens : List Token) (n : ℕ) → lexemes bytes (slice_range tokens n (length tokens)) ≡ drop n (lexemes bytes tokens)
later_lexemes bytes tokens n = ap (lexemes bytes) (whole_take (length tokens - n) (drop n tokens) (let l = length-drop n tokens in omega arith)) ∙ map_drop (lexeme_of bytes) n tokens

module _ (S : System Class Lexeme) (K : IsSystem S) (g : Grammar Class) (clear : is_clear S g ≡ true) (bytes : List ℕ) (tokens : List Token) (room : ℕ) (is : room ≡ shallow_tokens bytes tokens) where
  abbrev all : List Lexeme
  all = lexemes bytes tokens

  abbrev part : List Lexeme
  part = lexemes bytes (slice_range tokens 0 room)

  abbrev deep : List Lexeme
  deep = drop room all

  cut : IsCut turn 200 all part deep
  cut = subst (λ z. IsCut turn 200 all z deep) (sym (front_lexemes bytes tokens room)) (subst (λ n. IsCut turn 200 all (take n all) (drop n all)) (sym is) (cut_at turn 200 all))

  counts : (room ≤ length tokens) × (length all ≡ length tokens) × (length deep ≡ length tokens - room)
  counts =
      let a = length-map tokens (lexeme_of bytes) in
      let b = room_in turn 200 all is in
      let c = length-drop room all in
      (omega arith, a, omega arith)

  part_length : length part ≡ room
  part_length =
      let n = counts in
      let n0 = n.0 in let n2 = n.2 in let n1 = n.1 in
      let a = ap length cut.split in let b = length-append part deep in omega arith

  -- no more is left than there was
  pub took_within : {rest : List Lexeme} → Runs S g part (took rest) → length rest ≤ room
  took_within r = let a = no_longer S (tree_of r) in let b = part_length in omega arith

  pub failed_within : {rest : List Lexeme} → Runs S g part (failed rest) → length rest ≤ room
  failed_within r = let a = run_within S K g clear r in let b = part_length in omega arith

  -- where a run stopped, the text breaks off
  stops : (e : End Lexeme) (rest : List Lexeme) (at : ℕ) → Runs S g part e → IsStopBefore e deep (rest ++ deep) → at + length rest ≡ room → BreaksOff S g bytes tokens (place_of_token bytes tokens at)
  stops e rest at r s l =
      let f = stop_place S K g clear turn 200 e cut r s in
      let n = counts in
      let n0 = n.0 in let n1 = n.1 in let n2 = n.2 in
      let m = length-append rest deep in
      let q = by_number all f.front (rest ++ deep) at f.split (omega arith) in
      record { number = at; within = omega arith; fault = subst (λ z. IsShallowFault S turn 200 g all z) (sym q.1) f; here = refl }

  pub file_failed : (rest : List Lexeme) (at : ℕ) → Runs S g part (failed rest) → at + length rest ≡ room → BreaksOff S g bytes tokens (place_of_token bytes tokens at)
  file_failed rest at r l = stops (failed rest) rest at r refl l

  pub file_left : (rest : List Lexeme) (at : ℕ) → Runs S g part (took rest) → at + length rest ≡ room → at < length tokens → BreaksOff S g bytes tokens (place_of_token bytes tokens at)
  file_left rest at r l h =
      let n = counts in
      let n0 = n.0 in let n2 = n.2 in
      let m = length-append rest deep in
      stops (took rest) rest at r (refl, omega arith) l

  -- a run that took all tokens has the text's tree, of which holds what was shown of that of the run
  pub file_took : (P : (ts rest : List Lexeme) → Matches S g ts rest → Type 0) (rest : List Lexeme) (at : ℕ) → (r : Runs S g part (took rest)) → at + length rest ≡ room → length tokens ≤ at → P part rest (tree_of r) → (f : IsFile S g bytes tokens) × P all [] f.tree
  file_took P rest at r l h p =
      let n = counts in
      let n0 = n.0 in let n2 = n.2 in
      let none : rest ≡ [] = nil_from_length rest (omega arith) in
      let shut : deep ≡ [] = nil_from_length deep (omega arith) in
      let same : part ≡ all = sym (cut.split ∙ (ap (λ z. part ++ z) shut ∙ append-nil part)) in
      let q : (m : Matches S g part []) × P part [] m = subst (λ z. (m : Matches S g part z) × P part z m) none (tree_of r, p) in
      let t : (m : Matches S g all []) × P all [] m = subst (λ z. (m : Matches S g z []) × P z [] m) same q in
      (record { tree = t.0; shallow = subst (λ z. IsShallow turn 200 0 z) same cut.shallow }, t.1)

-- tokens break off at one place, and not where they are a text
module _ (S : System Class Lexeme) (g : Grammar Class) (bytes : List ℕ) (tokens : List Token) where
  pub one_break : (p q : Place) → BreaksOff S g bytes tokens p → BreaksOff S g bytes tokens q → p ≡ q
  one_break p q a b =
      let ts = lexemes bytes tokens in
      let e = ap length (one_place S turn 200 g a.fault b.fault) in
      let l = length-map tokens (lexeme_of bytes) in
      let x = length-drop a.number ts in
      let y = length-drop b.number ts in
      let v = a.within in
      let w = b.within in
      a.here ∙ (ap (place_of_token bytes tokens) (let k : a.number ≡ b.number = omega arith in k) ∙ sym b.here)

  pub no_break : (p : Place) → IsFile S g bytes tokens → BreaksOff S g bytes tokens p → ⊥
  no_break p f b = no_place S turn 200 g (drop b.number (lexemes bytes tokens)) f.tree f.shallow b.fault
