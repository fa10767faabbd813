-- What holds of all lexemes holds of the terms that they are. So where no variable stands among the lexemes, none stands in an input.
use Rattle.std.proofs.Common.{◌≡◌, ℕ, List, [], ◌∷◌, Bool, true, false, Option, Some, None, refl, sym, ◌∙◌, subst}
use Rattle.std.specs.Prelude.{if◌then◌else◌, length}
use Rattle.std.proofs.lemmas.Bool.{true≢false}
use Rattle.gr_base.specs.Lists.{Each}
use Rattle.gr_base.proofs.ListLemmas.{Each-right}
use Rattle.gr_grammar.specs.Grammars.{Grammar, tok, star, alt, nil, Matches, a_token, both, the_left, the_right, no_more, one_more, items}
use Rattle.gr_grammar.proofs.Fronts.{front_of}
use Rattle.gr_reader.specs.Lexemes.{Lexeme}
use Rattle.gr_reader.specs.Classes.{Class, flat, test, any_name, variable}
use Rattle.gr_reader.specs.Parts.{token_of}
use Rattle.gr_feats.specs.Grammars.{Written, a_name, a_variable, term_text, term_of, pair_text, pair_of, next_pair_text, next_pair_of, pairs_text, pairs_of, bag_text, bag_of, perhaps_pairs_of, next_arg_text, next_arg_of, args_text, args_of, perhaps_args_of, colon_text, behind_colon_of, second_of, with_args, literal_text, literal_of, next_literal_text, next_literal_of, row_text, row_of, literals_text, literals_of, closed_literals_text, closed_literals_of}
use Rattle.sm_input.specs.Complaints.{variable_left}
use Rattle.sm_input.specs.Grammars.{perhaps_bag_text, perhaps_bag_of, input_text, input_of, inputs_text, inputs_of}
use Rattle.sm_input.specs.Reading.{IsPlain, HandleHas, LiteralHas, InputHas}

-- what holds of all lexemes holds of those that are left behind a part
rest_has : (Q : Lexeme → Type 0) {g : Grammar Class} {ts rest : List Lexeme} → Matches flat g ts rest → Each Q ts → Each Q rest
rest_has Q {rest = rest} m p = let f = front_of flat m in Each-right Q f.front rest (subst (Each Q) f.split p)

-- the parts of a row
row_has : {A : Type 0} (Q : Lexeme → Type 0) {g : Grammar Class} (f : (ts rest : List Lexeme) → Matches flat g ts rest → A) (P : A → Type 0) → ((ts rest : List Lexeme) (m : Matches flat g ts rest) → Each Q ts → P (f ts rest m))
    → {ts rest : List Lexeme} (m : Matches flat (star g) ts rest) → Each Q ts → Each P (items f m)
row_has Q f P each no_more p = tt
row_has Q f P each (one_more (both {ts} {mid} a b)) p = (each ts mid a p, row_has Q f P each b (rest_has Q a p))

-- what holds of the names and variables that lexemes are holds of the terms that are written
module _ (P : Written → Type 0) (Q : Lexeme → Type 0) (names : (t : Lexeme) → test any_name t ≡ true → Q t → P (a_name t.text)) (variables : (t : Lexeme) → test variable t ≡ true → Q t → P (a_variable t.text)) where
  has_name : {ts rest : List Lexeme} (a : Matches flat (tok any_name) ts rest) → Each Q ts → P (a_name (token_of a).text)
  has_name (a_token {t} h) p = names t h p.0

  has_variable : {ts rest : List Lexeme} (a : Matches flat (tok variable) ts rest) → Each Q ts → P (a_variable (token_of a).text)
  has_variable (a_token {t} h) p = variables t h p.0

  has_term : {ts rest : List Lexeme} (m : Matches flat term_text ts rest) → Each Q ts → P (term_of m)
  has_term (the_left a) p = has_name a p
  has_term (the_right a) p = has_variable a p

  has_pair : {ts rest : List Lexeme} (m : Matches flat pair_text ts rest) → Each Q ts → P (pair_of m).value
  has_pair (both a (both e v)) p = has_term v (rest_has Q e (rest_has Q a p))

  has_next_pair : (ts rest : List Lexeme) (m : Matches flat next_pair_text ts rest) → Each Q ts → P (next_pair_of m).value
  has_next_pair ts rest (both c m) p = has_pair m (rest_has Q c p)

  has_pairs : {ts rest : List Lexeme} (m : Matches flat pairs_text ts rest) → Each Q ts → Each (λ w. P w.value) (pairs_of m)
  has_pairs (both a b) p = (has_pair a p, row_has Q (λ ts rest m. next_pair_of m) (λ w. P w.value) has_next_pair b (rest_has Q a p))

  has_perhaps_pairs : {ts rest : List Lexeme} (m : Matches flat (alt pairs_text nil) ts rest) → Each Q ts → Each (λ w. P w.value) (perhaps_pairs_of m)
  has_perhaps_pairs (the_left m) p = has_pairs m p
  has_perhaps_pairs (the_right m) p = tt

  has_bag : {ts rest : List Lexeme} (m : Matches flat bag_text ts rest) → Each Q ts → Each (λ w. P w.value) (bag_of m)
  has_bag (both o (both m c)) p = has_perhaps_pairs m (rest_has Q o p)

  has_perhaps_bag : {ts rest : List Lexeme} (m : Matches flat perhaps_bag_text ts rest) → Each Q ts → Each (λ w. P w.value) (perhaps_bag_of m)
  has_perhaps_bag (the_left m) p = has_bag m p
  has_perhaps_bag (the_right m) p = tt

  has_next_arg : (ts rest : List Lexeme) (m : Matches flat next_arg_text ts rest) → Each Q ts → P (next_arg_of m)
  has_next_arg ts rest (both c v) p = has_term v (rest_has Q c p)

  has_args : {ts rest : List Lexeme} (m : Matches flat args_text ts rest) → Each Q ts → Each P (args_of m)
  has_args (both v vs) p = (has_term v p, row_has Q (λ ts rest m. next_arg_of m) P has_next_arg vs (rest_has Q v p))

  has_perhaps_args : {ts rest : List Lexeme} (m : Matches flat (alt args_text nil) ts rest) → Each Q ts → Each P (perhaps_args_of m)
  has_perhaps_args (the_left m) p = has_args m p
  has_perhaps_args (the_right m) p = tt

  has_behind_colon : {ts rest : List Lexeme} (m : Matches flat colon_text ts rest) → Each Q ts → P (behind_colon_of m)
  has_behind_colon (both c v) p = has_term v (rest_has Q c p)

  has_second : {ts rest : List Lexeme} (m : Matches flat (alt colon_text nil) ts rest) → Each Q ts → HandleHas P (second_of m)
  has_second (the_left m) p = has_behind_colon m p
  has_second (the_right m) p = tt

  has_with : (w : Written) (v : Option Written) (ws : List Written) → P w → HandleHas P v → Each P ws → LiteralHas P (with_args w v ws)
  has_with w None ws p q r = record { handle = tt; pred = p; args = r }
  has_with w (Some v) ws p q r = record { handle = p; pred = q; args = r }

  has_literal : {ts rest : List Lexeme} (m : Matches flat literal_text ts rest) → Each Q ts → LiteralHas P (literal_of m)
  has_literal (both first (both second (both o (both args c)))) p =
      let q = rest_has Q first p in
      let r = rest_has Q second q in
      has_with (term_of first) (second_of second) (perhaps_args_of args) (has_term first p) (has_second second q) (has_perhaps_args args (rest_has Q o r))

  has_next_literal : (ts rest : List Lexeme) (m : Matches flat next_literal_text ts rest) → Each Q ts → LiteralHas P (next_literal_of m)
  has_next_literal ts rest (both s l) p = has_literal l (rest_has Q s p)

  has_row : {ts rest : List Lexeme} (m : Matches flat row_text ts rest) → Each Q ts → Each (LiteralHas P) (row_of m)
  has_row (both l ls) p = (has_literal l p, row_has Q (λ ts rest m. next_literal_of m) (LiteralHas P) has_next_literal ls (rest_has Q l p))

  has_literals : {ts rest : List Lexeme} (m : Matches flat literals_text ts rest) → Each Q ts → Each (LiteralHas P) (literals_of m)
  has_literals (the_left m) p = has_row m p
  has_literals (the_right m) p = tt

  has_closed : {ts rest : List Lexeme} (m : Matches flat closed_literals_text ts rest) → Each Q ts → Each (LiteralHas P) (closed_literals_of m)
  has_closed (both ls c) p = has_literals ls p

  has_input : (ts rest : List Lexeme) (m : Matches flat input_text ts rest) → Each Q ts → InputHas P (input_of m)
  has_input ts rest (both w (both n (both b (both o ls)))) p =
      let q = rest_has Q n (rest_has Q w p) in
      record { start = has_perhaps_bag b q; literals = has_closed ls (rest_has Q o (rest_has Q b q)) }

  pub has_inputs : {ts rest : List Lexeme} (m : Matches flat inputs_text ts rest) → Each Q ts → Each (InputHas P) (inputs_of m)
  has_inputs m p = row_has Q (λ ts rest m. input_of m) (InputHas P) has_input m p

-- none of them is a variable
abbrev pub Plain : List Lexeme → Type 0
Plain ts = Each (λ t. test variable t ≡ false) ts

plain_by : (b : Bool) (n : ℕ) (next : Option ℕ) → (if b then Some n else next) ≡ None → (b ≡ false) × (next ≡ None)
plain_by true n next e = absurd (let h : ◌≡◌ {A = Option ℕ} (Some n) None = e in cc)
plain_by false n next e = (refl, e)

pub none_left : (ts : List Lexeme) → variable_left ts ≡ None → Plain ts
none_left [] e = tt
none_left (t ∷ ts) e = let h = plain_by (test variable t) (length (t ∷ ts)) (variable_left ts) e in (h.0, none_left ts h.1)

pub plain_inputs : {ts rest : List Lexeme} (m : Matches flat inputs_text ts rest) → Plain ts → Each (InputHas IsPlain) (inputs_of m)
plain_inputs m p = has_inputs IsPlain (λ t. test variable t ≡ false) (λ t h q. tt) (λ t h q. absurd (true≢false (sym h ∙ q))) m p
