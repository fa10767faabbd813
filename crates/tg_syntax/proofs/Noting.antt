-- Readings that look at properties, part by part.
use Rattle.std.proofs.Common.{◌≡◌, ℕ, zero, suc, ◌-◌, ◌≤◌, List, [], ◌∷◌, ◌++◌, length, Bool, true, false, refl, ap, sym, ◌∙◌, subst, arith, append_assoc, append-nil}
use Rattle.std.specs.Prelude.{◌==◌, ◌&&◌, Option, None, Some, MatchOption, Result, Ok, Err, if◌then◌else◌}
use Rattle.std.proofs.lemmas.Bool.{true≢false, eqb-true, and_from}
use Rattle.gr_base.proofs.ListLemmas.{Each-append}
use Rattle.gr_base.proofs.Numbers.{one_less}
use Rattle.gr_grammar.specs.Grammars.{Grammar, tok, nil, seq, alt, star, part, Runs, End, took, failed, take_token, bad_token, bad_end, take_nothing, run_both, run_first, run_left, run_right, run_end, run_more, run_part, begins, is_next, Rounds, start, round}
use Rattle.gr_grammar.proofs.Fronts.{and_left, and_right}
use Rattle.gr_grammar.proofs.Loops.{close}
use Rattle.tg_syntax.specs.declared.class.Class.{Class}
use Rattle.tg_syntax.specs.declared.class.Class.TheVariants.{Byte}
use Rattle.tg_syntax.specs.Families.{pick, word_part, string_part, node_part}
use Rattle.tg_syntax.specs.Names.{keyword, word_rest, word, string_rest, number, pair}
use Rattle.tg_syntax.specs.Trees.{PROPERTY, label, node, braces, kids, signed_bag, items}
use Rattle.tg_syntax.specs.Files.{system, parts, others, LINES, lines, trees_rest, cut_line}
use Rattle.tg_syntax.specs.Visits.{begun}
use Rattle.tg_syntax.specs.Breaks.{Notes, kept, none, noted, Obeys, Breaks}
use Rattle.tg_syntax.specs.Reading.{Read, Ends, Reads, OnLine}
use Rattle.tg_syntax.proofs.Picks.{pick_word, pick_string, pick_both}
use Rattle.tg_syntax.proofs.FileSystem.{parts_node}
use Rattle.tg_syntax.proofs.Steps.{below}

-- ---- parts without properties

-- whether the parts at a number are words and strings alone
unfoldable pub plain_part : ℕ → Bool
plain_part n = pick (λ m. true) (λ m. true) (λ m. false) (λ m. false) n

unfoldable pub plain : Grammar Class → Bool
plain (tok c) = true
plain nil = true
plain (seq g h) = plain g && plain h
plain (alt g h) = plain g && plain h
plain (star g) = plain g
plain (part n) = plain_part n

abbrev IsPlainIf : Grammar Class → Bool → Type 0
IsPlainIf g b = b ≡ true → plain g ≡ true

word_is_plain : (n : ℕ) → plain_part (word_part n) ≡ true
unfolding plain_part
word_is_plain n = pick_word (λ m. true) (λ m. true) (λ m. false) (λ m. false) n

string_is_plain : (n : ℕ) → plain_part (string_part n) ≡ true
unfolding plain_part
string_is_plain n = pick_string (λ m. true) (λ m. true) (λ m. false) (λ m. false) n

plain_word : (n : ℕ) → IsPlainIf (word_rest n) true
unfolding plain plain_part
plain_word zero h = refl
plain_word (suc zero) h = refl
plain_word (suc (suc n)) h = and_from _ _ (word_is_plain (suc n)) (and_from _ _ (word_is_plain n) refl)

plain_string : (n : ℕ) → IsPlainIf (string_rest n) true
unfolding plain plain_part
plain_string zero h = refl
plain_string (suc n) h = and_from _ _ (string_is_plain n) refl

pub parts_plain : (n : ℕ) → plain_part n ≡ true → plain (parts n) ≡ true
unfolding plain_part
parts_plain n = pick_both IsPlainIf word_rest string_rest node others (λ m. true) (λ m. true) (λ m. false) (λ m. false) plain_word plain_string (λ m h. absurd (true≢false (sym h))) (λ m h. absurd (true≢false (sym h))) n

pub not_property : (b : Bool) (x y : List (List ℕ)) → b ≡ false → y ≡ [] → (if b then x else y) ≡ []
not_property true x y e h = absurd (true≢false e)
not_property false x y e h = h

pub no_property_there : (n : ℕ) (v : Bool) → (n == PROPERTY) ≡ v → plain_part n ≡ true → v ≡ false
unfolding plain_part
no_property_there n true e h = absurd (true≢false (sym h ∙ ap plain_part (eqb-true n PROPERTY e)))
no_property_there n false e h = refl

plain_begun : {g : Grammar Class} {ts : List ℕ} {e : End ℕ} (r : Runs system g ts e) → plain g ≡ true → begun PROPERTY r ≡ []
unfolding plain plain_part
plain_begun (take_token h) p = refl
plain_begun (bad_token h) p = refl
plain_begun bad_end p = refl
plain_begun take_nothing p = refl
plain_begun (run_both {g} {h} a b) p = (λ i. plain_begun a (and_left (plain g) (plain h) p) i ++ plain_begun b (and_right (plain g) (plain h) p) i)
plain_begun (run_first {g} {h} a) p = plain_begun a (and_left (plain g) (plain h) p)
plain_begun (run_left {g} {h} b a) p = plain_begun a (and_left (plain g) (plain h) p)
plain_begun (run_right {g} {h} b a) p = plain_begun a (and_right (plain g) (plain h) p)
plain_begun (run_end b) p = refl
plain_begun (run_more {g} b a) p = plain_begun a (and_from (plain g) (plain g) p p)
plain_begun (run_part {n} {ts} a) p = not_property (n == PROPERTY) (ts ∷ begun PROPERTY a) (begun PROPERTY a) (no_property_there n (n == PROPERTY) refl p) (plain_begun a (parts_plain n p))

-- ---- notes, one part after another

notes_nothing : (a : Option ℕ) → Notes [] a a
notes_nothing None = none tt
notes_nothing (Some n) = kept n

notes_then : {xs ys : List (List ℕ)} {a b c : Option ℕ} → Notes xs a b → Notes ys b c → Notes (xs ++ ys) a c
notes_then (kept n) (kept m) = kept n
notes_then {xs} {ys} (none o) (none p) = none (Each-append Obeys xs ys o p)
notes_then {xs} {ys} (none o) (noted at f) = noted at (record {
  before = xs ++ f.before;
  property = f.property;
  behind = f.behind;
  split = ap (λ z. xs ++ z) f.split ∙ sym (append_assoc xs f.before (f.property ∷ f.behind));
  obey = Each-append Obeys xs f.before o f.obey;
  breaks = f.breaks;
})
notes_then {xs} {ys} (noted at f) (kept m) = noted at (record {
  before = f.before;
  property = f.property;
  behind = f.behind ++ ys;
  split = ap (λ z. z ++ ys) f.split ∙ append_assoc f.before (f.property ∷ f.behind) ys;
  obey = f.obey;
  breaks = f.breaks;
})

pub note_of : (p : List ℕ) (x : Option ℕ) → MatchOption x (Obeys p) (λ n. (at : List ℕ) × Breaks p at × (n ≡ length at)) → Notes (p ∷ []) None x
note_of p None h = none (h, tt)
note_of p (Some n) h = subst (λ z. Notes (p ∷ []) None (Some z)) (sym h.2) (noted h.0 (record { before = []; property = p; behind = []; split = refl; obey = tt; breaks = h.1 }))

-- ---- readings, part by part

pub plain_read : {g : Grammar Class} {ts : List ℕ} {e : End ℕ} → plain g ≡ true → Runs system g ts e → (a : Option ℕ) → Read g ts e a a
plain_read p r a = record { run = r; notes = subst (λ xs. Notes xs a a) (sym (plain_begun r p)) (notes_nothing a) }

pub then_read : {g h : Grammar Class} {ts mid : List ℕ} {e : End ℕ} {a b c : Option ℕ} → Read g ts (took mid) a b → Read h mid e b c → Read (seq g h) ts e a c
then_read x y = record { run = run_both x.run y.run; notes = notes_then x.notes y.notes }

pub first_read : {g h : Grammar Class} {ts rest : List ℕ} {a b : Option ℕ} → Read g ts (failed rest) a b → Read (seq g h) ts (failed rest) a b
first_read x = record { run = run_first x.run; notes = x.notes }

pub left_read : {g h : Grammar Class} {ts : List ℕ} {e : End ℕ} {a b : Option ℕ} → begins system g ts ≡ true → Read g ts e a b → Read (alt g h) ts e a b
left_read d x = record { run = run_left d x.run; notes = x.notes }

pub right_read : {g h : Grammar Class} {ts : List ℕ} {e : End ℕ} {a b : Option ℕ} → begins system g ts ≡ false → Read h ts e a b → Read (alt g h) ts e a b
right_read d x = record { run = run_right d x.run; notes = x.notes }

pub property_read : {ts : List ℕ} {e : End ℕ} {a b : Option ℕ} → Runs system pair ts e → Notes (ts ∷ []) a b → Read (part PROPERTY) ts e a b
unfolding plain plain_part
property_read {ts} {a = a} {b = b} r n = record { run = run_part {n = PROPERTY} r; notes = subst (λ xs. Notes (ts ∷ xs) a b) (sym (plain_begun r refl)) n }

pub property_reads : {A E : Type 0} {ts : List ℕ} {a b : Option ℕ} (rest : List ℕ) (x : Result A E) → Ends pair ts rest x → Notes (ts ∷ []) a b → Reads (part PROPERTY) ts rest a b x
property_reads rest (Ok v) r n = property_read r n
property_reads rest (Err v) r n = property_read r n

pub lines_read : {ts : List ℕ} {e : End ℕ} {a b : Option ℕ} → Read lines ts e a b → Read (part LINES) ts e a b
lines_read x = record { run = run_part {n = LINES} x.run; notes = x.notes }

pub not_node : (n : ℕ) (v : Bool) → (node_part n == PROPERTY) ≡ v → v ≡ false
not_node zero v e = sym e
not_node (suc zero) v e = sym e
not_node (suc (suc n)) true e = let h = eqb-true (node_part (suc (suc n))) PROPERTY e in absurd (omega arith)
not_node (suc (suc n)) false e = refl

other_way : (b : Bool) (x y : List (List ℕ)) (c d : Option ℕ) → b ≡ false → Notes y c d → Notes (if b then x else y) c d
other_way true x y c d e h = absurd (true≢false e)
other_way false x y c d e h = h

pub node_read : (n : ℕ) {ts : List ℕ} {e : End ℕ} {a b : Option ℕ} → Read (node n) ts e a b → Read (part (node_part n)) ts e a b
node_read n {ts} {e} {a} {b} x =
    let P : Grammar Class → Type 0 = λ g. (r : Runs system g ts e) × Notes (begun PROPERTY r) a b in
    let y : P (parts (node_part n)) = subst P (sym (parts_node n)) (x.run, x.notes) in
    record { run = run_part {n = node_part n} y.0; notes = other_way (node_part n == PROPERTY) (ts ∷ begun PROPERTY y.0) (begun PROPERTY y.0) a b (not_node n (node_part n == PROPERTY) refl) y.1 }

-- ---- rows

abbrev pub rounds_begun : {g : Grammar Class} {ts rest : List ℕ} → Rounds system g ts rest → List (List ℕ)
rounds_begun start = []
rounds_begun (round r b m) = rounds_begun r ++ begun PROPERTY m

pub record ReadRow (g : Grammar Class) (ts rest : List ℕ) (before after : Option ℕ) : Type 0 where
  pub rounds : Rounds system g ts rest
  pub notes : Notes (rounds_begun rounds) before after

pub row_start : {g : Grammar Class} {ts : List ℕ} {a : Option ℕ} → ReadRow g ts ts a a
row_start {a} = record { rounds = start; notes = notes_nothing a }

pub row_more : {g : Grammar Class} {ts mid rest : List ℕ} {a b c : Option ℕ} → ReadRow g ts mid a b → begins system g mid ≡ true → Read g mid (took rest) b c → ReadRow g ts rest a c
row_more r d x = record { rounds = round r.rounds d x.run; notes = notes_then r.notes x.notes }

close-begun : {g : Grammar Class} {ts mid : List ℕ} {e : End ℕ} (r : Rounds system g ts mid) (m : Runs system (star g) mid e) → begun PROPERTY (close r m) ≡ rounds_begun r ++ begun PROPERTY m
unfolding close
close-begun start m = refl
close-begun (round r b a) m = close-begun r (run_more b (run_both a m)) ∙ sym (append_assoc (rounds_begun r) (begun PROPERTY a) (begun PROPERTY m))

close-failed : {g : Grammar Class} {ts mid rest : List ℕ} (r : Rounds system g ts mid) (d : begins system g mid ≡ true) (m : Runs system g mid (failed rest)) → begun PROPERTY (close r (run_more d (run_first m))) ≡ rounds_begun r ++ begun PROPERTY m
close-failed r d m = close-begun r (run_more d (run_first m))

pub row_ended : {g : Grammar Class} {ts mid : List ℕ} {a b : Option ℕ} → ReadRow g ts mid a b → begins system g mid ≡ false → Read (star g) ts (took mid) a b
row_ended {a = a} {b = b} r d = record { run = close r.rounds (run_end d); notes = subst (λ xs. Notes xs a b) (sym (close-begun r.rounds (run_end d) ∙ append-nil (rounds_begun r.rounds))) r.notes }

pub row_broken : {g : Grammar Class} {ts mid rest : List ℕ} {a b c : Option ℕ} → ReadRow g ts mid a b → begins system g mid ≡ true → Read g mid (failed rest) b c → Read (star g) ts (failed rest) a c
row_broken {a = a} {c = c} r d x = record { run = close r.rounds (run_more d (run_first x.run)); notes = subst (λ xs. Notes xs a c) (sym (close-failed r.rounds d x.run)) (notes_then r.notes x.notes) }

pub row_below : {g : Grammar Class} {ts rest : List ℕ} {a b : Option ℕ} → ReadRow g ts rest a b → length rest ≤ length ts
row_below r = below r.rounds

-- ---- parts that may be left out

pub no_braces : (room : ℕ) {ts : List ℕ} {a : Option ℕ} → room ≡ 0 → Read (braces room) ts (took ts) a a
unfolding plain plain_part
no_braces zero {a = a} e = plain_read refl take_nothing a
no_braces (suc r) e = absurd (omega arith)

pub no_brace : (room : ℕ) {ts : List ℕ} {a : Option ℕ} → is_next system (Byte 123 ∷ []) ts ≡ false → Read (braces room) ts (took ts) a a
unfolding plain plain_part
no_brace zero {a = a} d = plain_read refl take_nothing a
no_brace (suc r) {a = a} d = right_read d (plain_read refl take_nothing a)

pub some_braces : (room : ℕ) {ts : List ℕ} {e : End ℕ} {a b : Option ℕ} → (room ≡ 0 → ⊥) → is_next system (Byte 123 ∷ []) ts ≡ true →
    Read (seq (tok (Byte 123)) (seq (seq (part PROPERTY) (star (seq (tok (Byte 44)) (part PROPERTY)))) (tok (Byte 125)))) ts e a b → Read (braces room) ts e a b
some_braces zero h d x = absurd (h refl)
some_braces (suc r) h d x = left_read d x

pub no_kids : (room : ℕ) {ts : List ℕ} {a : Option ℕ} → room ≡ 0 → Read (kids room) ts (took ts) a a
unfolding plain plain_part
no_kids zero {a = a} e = plain_read refl take_nothing a
no_kids (suc r) e = absurd (omega arith)

pub no_kid : (room : ℕ) {ts : List ℕ} {a : Option ℕ} → is_next system (Byte 40 ∷ []) ts ≡ false → Read (kids room) ts (took ts) a a
unfolding plain plain_part
no_kid zero {a = a} d = plain_read refl take_nothing a
no_kid (suc r) {a = a} d = right_read d (plain_read refl take_nothing a)

abbrev pub kids_inside : ℕ → Grammar Class
kids_inside r = seq (tok (Byte 40)) (seq (part (node_part r)) (seq (star (seq (tok (Byte 32)) (part (node_part r)))) (tok (Byte 41))))

pub some_kids : (room : ℕ) {ts : List ℕ} {e : End ℕ} {a b : Option ℕ} → (room ≡ 0 → ⊥) → is_next system (Byte 40 ∷ []) ts ≡ true → Read (kids_inside (room - 1)) ts e a b → Read (kids room) ts e a b
some_kids zero h d x = absurd (h refl)
some_kids (suc r) {ts} {e} {a} {b} h d x = left_read d (subst (λ m. Read (kids_inside m) ts e a b) (one_less r) x)

-- bytes, numbers and the like
pub token_read : {c : Class} {ts : List ℕ} {e : End ℕ} → Runs system (tok c) ts e → (a : Option ℕ) → Read (tok c) ts e a a
unfolding plain plain_part
token_read r a = plain_read refl r a

pub plain_keyword : (bs : List ℕ) → plain (keyword bs) ≡ true
unfolding plain plain_part
plain_keyword [] = refl
plain_keyword (b ∷ bs) = plain_keyword bs

pub keyword_read : (bs : List ℕ) {ts : List ℕ} {e : End ℕ} → Runs system (keyword bs) ts e → (a : Option ℕ) → Read (keyword bs) ts e a a
keyword_read bs r a = plain_read (plain_keyword bs) r a

pub bag_read : (sign room : ℕ) {ts : List ℕ} {e : End ℕ} → Runs system (signed_bag sign room) ts e → (a : Option ℕ) → Read (signed_bag sign room) ts e a a
unfolding plain plain_part
bag_read sign zero r a = plain_read refl r a
bag_read sign (suc n) r a = plain_read refl r a

pub number_read : {ts : List ℕ} {e : End ℕ} → Runs system number ts e → (a : Option ℕ) → Read number ts e a a
unfolding plain plain_part
number_read r a = plain_read refl r a

pub word_read : {ts : List ℕ} {e : End ℕ} → Runs system word ts e → (a : Option ℕ) → Read word ts e a a
unfolding plain plain_part
word_read r a = plain_read refl r a

pub label_read : {ts : List ℕ} {e : End ℕ} → Runs system label ts e → (a : Option ℕ) → Read label ts e a a
unfolding plain plain_part
label_read r a = plain_read refl r a

pub items_read : {ts : List ℕ} {e : End ℕ} → Runs system (alt items nil) ts e → (a : Option ℕ) → Read (alt items nil) ts e a a
unfolding plain plain_part
items_read r a = plain_read refl r a

pub trees_read : {ts : List ℕ} {e : End ℕ} → Runs system trees_rest ts e → (a : Option ℕ) → Read trees_rest ts e a a
unfolding plain plain_part
trees_read r a = plain_read refl r a

pub cut_read : {ts : List ℕ} {e : End ℕ} → Runs system cut_line ts e → (a : Option ℕ) → Read cut_line ts e a a
unfolding plain plain_part
cut_read r a = plain_read refl r a

-- ---- a line

pub line_more : (ts rest : List ℕ) (a c : Option ℕ) (b : Bool) → b ≡ true → OnLine ts rest a c b → OnLine ts rest a c true
line_more ts rest a c b e x = subst (λ v. OnLine ts rest a c v) e x

pub line_last : (ts rest : List ℕ) (a c : Option ℕ) (b : Bool) → b ≡ false → OnLine ts rest a c b → Read (part LINES) ts (took rest) a c
line_last ts rest a c b e x = subst (λ v. OnLine ts rest a c v) e x

pub kept_note : {xs : List (List ℕ)} {b : Option ℕ} (n : ℕ) → b ≡ Some n → Notes xs b (Some n)
kept_note {xs} n e = subst (λ z. Notes xs z (Some n)) (sym e) (kept n)

pub new_note : (p : List ℕ) (b x : Option ℕ) → b ≡ None → MatchOption x (Obeys p) (λ n. (at : List ℕ) × Breaks p at × (n ≡ length at)) → Notes (p ∷ []) b x
new_note p b x e h = subst (λ z. Notes (p ∷ []) z x) (sym e) (note_of p x h)
