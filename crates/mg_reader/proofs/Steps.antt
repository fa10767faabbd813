-- The steps of a parse function.
use Rattle.std.proofs.Common.{◌≡◌, ℕ, length, ◌≤◌, ◌<◌, arith, List, [], ◌∷◌, ◌++◌, Bool, true, false, refl, ap, sym, ◌∙◌, subst, append_assoc, append-nil, Option, Some, None, inl, inr}
use Rattle.std.specs.Prelude.{◌||◌}
use Rattle.std.proofs.lemmas.Bool.{true≢false, cases_lt}
use Rattle.gr_grammar.specs.Grammars.{Grammar, tok, seq, alt, star, part, Matches, no_more, one_more, both, Runs, run_both, run_first, run_left, run_right, run_part, took, failed, tree_of, begins, bad_token, bad_end, take_token, take_nothing, Rounds, start, round, round_items, items, nullable}
use Rattle.gr_grammar.proofs.Fronts.{no_longer, null_of}
use Rattle.gr_grammar.proofs.Loops.{ended, ended-items, broken}
use Rattle.mg_reader.specs.declared.notes.Complaint.{Complaint}
use Rattle.mg_reader.specs.Kinds.{test}
use Rattle.mg_reader.specs.Grammar.{system, parts, maybe_text, next_kid_text, more_alternative_text, more_statement_text}
use Rattle.mg_reader.specs.Values.{is_there, next_kid_of, more_kids_of, more_alternative_of, more_alternatives_of, more_statement_of, more_statements_of}
use Rattle.mg_reader.specs.Complaints.{or_first, all_of, next_kid_bad, more_kids_bad, more_alternative_bad, more_alternatives_bad, more_statement_bad, more_statements_bad}
use Rattle.mg_reader.specs.declared.lexeme.Class.{Class}
use Rattle.mg_reader.specs.declared.lexeme.Lexeme.{Lexeme}
use Rattle.mg_reader.specs.declared.cursor.Stop.{Stop}
use Rattle.mg_reader.specs.declared.cursor.Stop.TheVariants.{Memory}
use Rattle.mg_reader.specs.Reading.{StopsAt, for_syntax, for_memory}
use Rattle.mg_reader.proofs.Systems.{is_system}

pub first_stops : {g h : Grammar Class} {ts rest : List Lexeme} {e : Stop} → StopsAt g ts rest e → StopsAt (seq g h) ts rest e
first_stops (for_syntax r) = for_syntax (run_first r)
first_stops for_memory = for_memory

pub then_stops : {g h : Grammar Class} {ts mid rest : List Lexeme} {e : Stop} → Runs system g ts (took mid) → StopsAt h mid rest e → StopsAt (seq g h) ts rest e
then_stops a (for_syntax r) = for_syntax (run_both a r)
then_stops a for_memory = for_memory

pub left_stops : {g h : Grammar Class} {ts rest : List Lexeme} {e : Stop} → begins system g ts ≡ true → StopsAt g ts rest e → StopsAt (alt g h) ts rest e
left_stops b (for_syntax r) = for_syntax (run_left b r)
left_stops b for_memory = for_memory

pub right_stops : {g h : Grammar Class} {ts rest : List Lexeme} {e : Stop} → begins system g ts ≡ false → StopsAt h ts rest e → StopsAt (alt g h) ts rest e
right_stops b (for_syntax r) = for_syntax (run_right b r)
right_stops b for_memory = for_memory

pub part_stops : {n : ℕ} {ts rest : List Lexeme} {e : Stop} → StopsAt (parts n) ts rest e → StopsAt (part n) ts rest e
part_stops (for_syntax r) = for_syntax (run_part r)
part_stops for_memory = for_memory

pub row_stops : {g : Grammar Class} {ts mid rest : List Lexeme} {e : Stop} → Rounds system g ts mid → begins system g mid ≡ true → StopsAt g mid rest e → StopsAt (star g) ts rest e
row_stops r b (for_syntax m) = for_syntax (broken r b m)
row_stops r b for_memory = for_memory

pub memory_stops : {g : Grammar Class} {ts rest : List Lexeme} {e : Stop} → e ≡ Memory → StopsAt g ts rest e
memory_stops {g} {ts} {rest} i = subst (λ z. StopsAt g ts rest z) (sym i) for_memory

pub no_token_at : (c : Class) (t : Lexeme) (ts : List Lexeme) → test c t ≡ false → Runs system (tok c) (t ∷ ts) (failed (t ∷ ts))
no_token_at c t ts h = bad_token h

pub no_token_end : (c : Class) (ts : List Lexeme) → length ts ≡ 0 → Runs system (tok c) ts (failed ts)
no_token_end c [] h = bad_end
no_token_end c (t ∷ ts) h = absurd (omega arith)

-- a lexeme that may be there
pub skipped : (c : Class) (t : Lexeme) (ts : List Lexeme) → test c t ≡ true → (r : Runs system (maybe_text c) (t ∷ ts) (took ts)) × (true ≡ is_there (tree_of r))
skipped c t ts h = (run_left (yes_or (test c t) h) (take_token h), refl)
  where
    yes_or : (a : Bool) → a ≡ true → (a || false) ≡ true
    yes_or true h = refl
    yes_or false h = h

pub left_out : (c : Class) (t : Lexeme) (ts : List Lexeme) → test c t ≡ false → (r : Runs system (maybe_text c) (t ∷ ts) (took (t ∷ ts))) × (false ≡ is_there (tree_of r))
left_out c t ts h = (run_right (no_or (test c t) h) take_nothing, refl)
  where
    no_or : (a : Bool) → a ≡ false → (a || false) ≡ false
    no_or true h = h
    no_or false h = refl

pub left_out_end : (c : Class) (ts : List Lexeme) → length ts ≡ 0 → (r : Runs system (maybe_text c) ts (took ts)) × (false ≡ is_there (tree_of r))
left_out_end c [] h = (run_right refl take_nothing, refl)
left_out_end c (t ∷ ts) h = absurd (omega arith)

-- a part that has no empty text takes a lexeme, and no part gives one back
pub shorter : {g : Grammar Class} {ts rest : List Lexeme} → nullable system g ≡ false → Runs system g ts (took rest) → length rest < length ts
shorter {g} {ts} {rest} n r = elim (cases_lt (length rest) (length ts))
    [ inl x ↦ x | inr y ↦ absurd (true≢false (sym (null_of system is_system (tree_of r) y) ∙ n)) ]

pub below : {g : Grammar Class} {ts rest : List Lexeme} → Rounds system g ts rest → length rest ≤ length ts
below start = omega arith
below (round r b m) = let x = below r in let y = no_longer system (tree_of m) in omega arith

-- the value of a row
pub row_value : {A : Type 0} {g : Grammar Class} {ts mid : List Lexeme} {row base : List A} {k y : A} (f : (ts rest : List Lexeme) → Matches system g ts rest → A) (r : Rounds system g ts mid) (b : begins system g mid ≡ false) →
    base ≡ [] ++ k ∷ [] → k ≡ y → row ≡ base ++ round_items f r → row ≡ y ∷ items f (tree_of (ended r b))
row_value f r b e i h = h ∙ ((λ n. e n ++ round_items f r) ∙ (λ n. i n ∷ sym (ended-items f r b) n))

-- the same where the values of the rest of the row are stated by themselves
pub row_value_by : {A : Type 0} {g : Grammar Class} {ts mid : List Lexeme} {row base v : List A} {k y : A} (f : (ts rest : List Lexeme) → Matches system g ts rest → A) (r : Rounds system g ts mid) (b : begins system g mid ≡ false) →
    base ≡ [] ++ k ∷ [] → k ≡ y → row ≡ base ++ round_items f r → items f (tree_of (ended r b)) ≡ v → row ≡ y ∷ v
row_value_by {y} f r b e i h k = row_value f r b e i h ∙ ap (λ z. y ∷ z) k

-- complaints of one part and then of another
pub or_first-append : (c : Option Complaint) (xs ys : List Complaint) → or_first c (xs ++ ys) ≡ or_first (or_first c xs) ys
or_first-append c [] ys = refl
or_first-append None (x ∷ xs) [] = refl
or_first-append None (x ∷ xs) (y ∷ ys) = refl
or_first-append (Some d) (x ∷ xs) [] = refl
or_first-append (Some d) (x ∷ xs) (y ∷ ys) = refl

pub noted : (c0 : Option Complaint) (xs ys : List Complaint) {c1 c2 : Option Complaint} → c2 ≡ or_first c1 ys → c1 ≡ or_first c0 xs → c2 ≡ or_first c0 (xs ++ ys)
noted c0 xs ys h i = h ∙ (ap (λ z. or_first z ys) i ∙ sym (or_first-append c0 xs ys))

all_of-push : (cs : List (List Complaint)) (c : List Complaint) → all_of (cs ++ c ∷ []) ≡ all_of cs ++ c
all_of-push [] c = append-nil c
all_of-push (d ∷ cs) c = ap (λ z. d ++ z) (all_of-push cs c) ∙ sym (append_assoc d (all_of cs) c)

pub all_pushed : (cs : List (List Complaint)) (d : List Complaint) (c0 : Option Complaint) {c c' : Option Complaint} → c' ≡ or_first c d → c ≡ or_first c0 (all_of cs) → c' ≡ or_first c0 (all_of (cs ++ d ∷ []))
all_pushed cs d c0 h i = noted c0 (all_of cs) d h i ∙ ap (or_first c0) (sym (all_of-push cs d))

-- the complaints of a row
pub row_notes : {g : Grammar Class} {ts mid : List Lexeme} (c0 : Option Complaint) (d : List Complaint) {c1 c : Option Complaint} (f : (ts rest : List Lexeme) → Matches system g ts rest → List Complaint) (r : Rounds system g ts mid) (b : begins system g mid ≡ false) →
    c1 ≡ or_first c0 d → c ≡ or_first c1 (all_of (round_items f r)) → c ≡ or_first c0 (d ++ all_of (items f (tree_of (ended r b))))
row_notes c0 d f r b h i = noted c0 d (all_of (round_items f r)) i h ∙ ap (λ z. or_first c0 (d ++ all_of z)) (sym (ended-items f r b))

pub row_notes_by : {g : Grammar Class} {ts mid : List Lexeme} (c0 : Option Complaint) (d : List Complaint) {c1 c : Option Complaint} {v : List Complaint} (f : (ts rest : List Lexeme) → Matches system g ts rest → List Complaint) (r : Rounds system g ts mid) (b : begins system g mid ≡ false) →
    c1 ≡ or_first c0 d → c ≡ or_first c1 (all_of (round_items f r)) → all_of (items f (tree_of (ended r b))) ≡ v → c ≡ or_first c0 (d ++ v)
row_notes_by c0 d f r b h i e = row_notes c0 d f r b h i ∙ ap (λ z. or_first c0 (d ++ z)) e

-- rows whose values lead back to themselves
pub kids_items : {ts rest : List Lexeme} (m : Matches system (star next_kid_text) ts rest) → items (λ ts rest m. next_kid_of m) m ≡ more_kids_of m
kids_items no_more = refl
kids_items (one_more (both k ks)) = ap (λ z. next_kid_of k ∷ z) (kids_items ks)

pub kids_notes : {ts rest : List Lexeme} (m : Matches system (star next_kid_text) ts rest) → all_of (items (λ ts rest m. next_kid_bad m) m) ≡ more_kids_bad m
kids_notes no_more = refl
kids_notes (one_more (both k ks)) = ap (λ z. next_kid_bad k ++ z) (kids_notes ks)

pub alternatives_items : {ts rest : List Lexeme} (m : Matches system (star more_alternative_text) ts rest) → items (λ ts rest m. more_alternative_of m) m ≡ more_alternatives_of m
alternatives_items no_more = refl
alternatives_items (one_more (both k ks)) = ap (λ z. more_alternative_of k ∷ z) (alternatives_items ks)

pub alternatives_notes : {ts rest : List Lexeme} (m : Matches system (star more_alternative_text) ts rest) → all_of (items (λ ts rest m. more_alternative_bad m) m) ≡ more_alternatives_bad m
alternatives_notes no_more = refl
alternatives_notes (one_more (both k ks)) = ap (λ z. more_alternative_bad k ++ z) (alternatives_notes ks)

pub statements_items : {ts rest : List Lexeme} (m : Matches system (star more_statement_text) ts rest) → items (λ ts rest m. more_statement_of m) m ≡ more_statements_of m
statements_items no_more = refl
statements_items (one_more (both k ks)) = ap (λ z. more_statement_of k ∷ z) (statements_items ks)

pub statements_notes : {ts rest : List Lexeme} (m : Matches system (star more_statement_text) ts rest) → all_of (items (λ ts rest m. more_statement_bad m) m) ≡ more_statements_bad m
statements_notes no_more = refl
statements_notes (one_more (both k ks)) = ap (λ z. more_statement_bad k ++ z) (statements_notes ks)
