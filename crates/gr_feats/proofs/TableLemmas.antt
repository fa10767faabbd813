-- The table behind one part after another, and that it is one.
use Rattle.std.proofs.Common.{◌≡◌, ℕ, List, [], ◌∷◌, ◌++◌, Bool, true, false, refl, ap, sym, ◌∙◌, subst, append_assoc}
use Rattle.std.proofs.lemmas.List.{append-nil}
use Rattle.gr_base.specs.Lists.{NoneTwice}
use Rattle.gr_symbols.specs.Numbers.{Grows, with_text, with_texts}
use Rattle.gr_symbols.proofs.NumberLemmas.{with_texts-append, with_texts-once, with_texts-grows}
use Rattle.gr_grammar.specs.Grammars.{Grammar, tok, nil, seq, alt, star, is_clear, goes, Matches, a_token, no_token, both, the_left, the_right, no_more, one_more, tree_of, items}
use Rattle.gr_grammar.proofs.OneTree.{one_tree}
use Rattle.gr_reader.specs.Lexemes.{Lexeme}
use Rattle.gr_reader.specs.Classes.{Class, flat}
use Rattle.gr_reader.specs.Parts.{Took, TookText, Skips, token_of}
use Rattle.gr_reader.proofs.Steps.{token_run, token_text}
use Rattle.gr_reader.proofs.Systems.{flat_is_system}
use Rattle.gr_reader.proofs.Fronts.{only_front}
use Rattle.gr_reader.proofs.LexemeLemmas.{Lexeme-set}
use Rattle.gr_feats.specs.Tables.{is_open, text_if, names_in, PutsNames}

-- what a tree of one token names
token_names : {c : Class} {ts rest : List Lexeme} (m : Matches flat (tok c) ts rest) → names_in m ≡ text_if (is_open c) (token_of m).text
token_names (a_token h) = refl

-- a sign or a word of the grammar
pub puts_closed : {c : Class} {texts : List (List ℕ)} {ts rest : List Lexeme} → is_open c ≡ false → Took c ts rest → PutsNames (tok c) texts texts ts rest
puts_closed {c} {texts} closed t =
    let m = tree_of (token_run t) in
    record { tree = m; table = sym (ap (with_texts texts) (token_names m ∙ ap (λ b. text_if b (token_of m).text) closed)) }

-- a name or a variable
pub puts_open : {c : Class} {old new : List (List ℕ)} {ts rest : List Lexeme} {text : List ℕ} → is_open c ≡ true → TookText c ts rest text → new ≡ with_text old text → PutsNames (tok c) old new ts rest
puts_open {c} {old} is_name t table =
    let m = tree_of (token_run t.took) in
    record { tree = m; table = table ∙ ap (with_text old) (token_text m t) ∙ sym (ap (with_texts old) (token_names m ∙ ap (λ b. text_if b (token_of m).text) is_name)) }

-- one part after another
pub puts_both : {g h : Grammar Class} {a b c : List (List ℕ)} {ts mid rest : List Lexeme} → PutsNames g a b ts mid → PutsNames h b c mid rest → PutsNames (seq g h) a c ts rest
puts_both {a = a} x y = record {
  tree = both x.tree y.tree;
  table = y.table ∙ ap (λ t. with_texts t (names_in y.tree)) x.table ∙ sym (with_texts-append a (names_in x.tree) (names_in y.tree));
}

pub puts_left : {g h : Grammar Class} {a b : List (List ℕ)} {ts rest : List Lexeme} → PutsNames g a b ts rest → PutsNames (alt g h) a b ts rest
puts_left x = record { tree = the_left x.tree; table = x.table }

pub puts_right : {g h : Grammar Class} {a b : List (List ℕ)} {ts rest : List Lexeme} → PutsNames h a b ts rest → PutsNames (alt g h) a b ts rest
puts_right x = record { tree = the_right x.tree; table = x.table }

-- a part that is left out
pub puts_nothing : {g : Grammar Class} {a : List (List ℕ)} {ts : List Lexeme} → PutsNames (alt g nil) a a ts ts
puts_nothing = record { tree = the_right no_token; table = refl }

-- a sign that may be left out
pub puts_skip : {c : Class} {texts : List (List ℕ)} {ts rest : List Lexeme} (b : Bool) → is_open c ≡ false → Skips c ts rest b → PutsNames (alt (tok c) nil) texts texts ts rest
puts_skip true closed t = puts_left (puts_closed closed t)
puts_skip {c} {texts} {ts} false closed s = subst (λ z. PutsNames (alt (tok c) nil) texts texts ts z) (sym s.same) puts_nothing

-- a row of one more
pub one_behind : {g : Grammar Class} {ts mid rest : List Lexeme} → Matches flat (star g) ts mid → Matches flat g mid rest → Matches flat (star g) ts rest
one_behind no_more m = one_more (both m no_more)
one_behind (one_more (both p ps)) m = one_more (both p (one_behind ps m))

names_behind : {g : Grammar Class} {ts mid rest : List Lexeme} (ms : Matches flat (star g) ts mid) (m : Matches flat g mid rest) → names_in (one_behind ms m) ≡ names_in ms ++ names_in m
unfolding one_behind
names_behind no_more m = append-nil (names_in m)
names_behind (one_more (both p ps)) m = ap (λ z. names_in p ++ z) (names_behind ps m) ∙ sym (append_assoc (names_in p) (names_in ps) (names_in m))

pub items_behind : {A : Type 0} {g : Grammar Class} (f : (ts rest : List Lexeme) → Matches flat g ts rest → A) {ts mid rest : List Lexeme} (ms : Matches flat (star g) ts mid) (m : Matches flat g mid rest)
    → items f (one_behind ms m) ≡ items f ms ++ f mid rest m ∷ []
unfolding one_behind
items_behind f no_more m = refl
items_behind f (one_more (both {ts} {mid} p ps)) m = ap (λ z. f ts mid p ∷ z) (items_behind f ps m)

pub puts_start : {g : Grammar Class} {a : List (List ℕ)} {ts : List Lexeme} → PutsNames (star g) a a ts ts
puts_start = record { tree = no_more; table = refl }

pub puts_more : {g : Grammar Class} {a b c : List (List ℕ)} {ts mid rest : List Lexeme} → PutsNames (star g) a b ts mid → PutsNames g b c mid rest → PutsNames (star g) a c ts rest
puts_more {a = a} x y = record {
  tree = one_behind x.tree y.tree;
  table = y.table ∙ ap (λ t. with_texts t (names_in y.tree)) x.table ∙ sym (with_texts-append a (names_in x.tree) (names_in y.tree)) ∙ ap (with_texts a) (sym (names_behind x.tree y.tree));
}

-- the table behind a text is one
pub one_table : {g : Grammar Class} {old new later : List (List ℕ)} {ts rest : List Lexeme} → is_clear flat g ≡ true → PutsNames g old new ts rest → PutsNames g old later ts rest → new ≡ later
one_table {old = old} clear x y = x.table ∙ ap (λ m. with_texts old (names_in m)) (one_tree flat flat_is_system Lexeme-set clear x.tree y.tree) ∙ sym y.table

-- and so it is behind a front, where nothing goes on behind a text
pub one_front_table : {g : Grammar Class} {old new later : List (List ℕ)} {ts r s : List Lexeme} → is_clear flat g ≡ true → goes flat g ≡ [] → PutsNames g old new ts r → PutsNames g old later ts s → new ≡ later
one_front_table {g} {old} {new} {ts = ts} {r = r} {s = s} clear none x y =
    let e : r ≡ s = only_front flat g flat_is_system clear none ts r s x.tree y.tree in
    one_table clear (subst (λ z. PutsNames g old new ts z) e x) y

-- no text stands twice in it
pub puts_once : {g : Grammar Class} {old new : List (List ℕ)} {ts rest : List Lexeme} → NoneTwice old → PutsNames g old new ts rest → NoneTwice new
puts_once {old = old} once x = subst NoneTwice (sym x.table) (with_texts-once old (names_in x.tree) once)

-- and it begins with the old one
pub puts_grow : {g : Grammar Class} {old new : List (List ℕ)} {ts rest : List Lexeme} → PutsNames g old new ts rest → Grows old new
puts_grow {old = old} x = subst (Grows old) (sym x.table) (with_texts-grows old (names_in x.tree))
