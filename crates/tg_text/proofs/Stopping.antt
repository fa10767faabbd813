-- Where no line that may stand there comes next.
use Rattle.std.proofs.lemmas.List.{append_cancel_left}
use Rattle.std.specs.Prelude.{◌≡◌, ◌≢◌, ℕ, suc, Bool, true, false, List, [], ◌++◌, length, codes, refl}
use Rattle.std.specs.Fmt.{decimal}
use Rattle.std.proofs.Common.{ap, sym, ◌∙◌, subst, arith, append_assoc}
use Rattle.gr_base.specs.Lists.{Each, IsAmong, IsBefore, joined}
use Rattle.gr_base.proofs.ListLemmas.{same_head}
use Rattle.td_canon.specs.Spelling.{Lacks}
use Rattle.td_canon.specs.TreeSets.{Entry, texts_of}
use Rattle.tg_reader.specs.Writable.{IsTable, IsTreeText, IsWord}
use Rattle.tg_text.specs.Answers.{BreaksOff}
use Rattle.tg_text.specs.GrammarText.{closing_word, ended, tree_line, tree_lines}
use Rattle.tg_text.specs.Lines.{Follows, Leads, Standing, a_class, a_count, a_tree, a_version, an_end, begins, between, inside, no_line, over}
use Rattle.tg_text.specs.Reading.{AreReadTrees, IsBadLine, NoClassNext, NoTreeNext}
use Rattle.tg_text.proofs.FrontLemmas.{line_behind, lines_apart, tree_parts, word_line}
use Rattle.tg_text.proofs.Leading.{Leads-append, joined-append, joined-tree_rows, read_texts, tree_rows, trees_lead}
use Rattle.tg_text.proofs.TreeBytes.{tree_text_line}

-- ---- inside a class

-- a line of a tree is no closing line
pub no_closing : (n : ℕ) (t more : List ℕ) (cut : Bool) (number more' : List ℕ) → tree_line n t ++ more ≡ ended (closing_word cut ++ number) ++ more' → ⊥
no_closing n t more true number more' e = let f : 116 ≡ 99 = same_head 116 99 _ _ e in omega (arith, f)
no_closing n t more false number more' e =
    let g = append_cancel_left (codes "tree") _ _ e in
    let f : 32 ≡ 115 = same_head 32 115 _ _ g in omega (arith, f)

-- a line of a tree that may not stand here
pub tree_breaks : (names trees : List (List ℕ)) (n : ℕ) (t more rest : List ℕ) → n ≡ length trees → Lacks 10 t → rest ≡ tree_line (suc n) t ++ more → (IsTreeText t → Each (λ u. IsBefore u t) trees → ⊥) → BreaksOff (inside names trees) rest
tree_breaks names trees n t more rest len lacks e wrong line others after f follows = by line others after f follows
  where
    there : rest ≡ tree_line (suc (length trees)) t ++ more
    there = e ∙ ap (λ k. tree_line (suc k) t ++ more) len

    by : (line others : List ℕ) (after : Standing) → rest ≡ line ++ others → Follows (inside names trees) line after → ⊥
    by _ others _ f (a_tree _ _ u is above) =
        let parts = append_cancel_left (codes " ") _ _ (append_cancel_left (decimal (suc (length trees))) _ _ (append_cancel_left (codes "tree ") _ _ (sym (tree_parts (suc (length trees)) t more) ∙ sym there ∙ f ∙ tree_parts (suc (length trees)) u others))) in
        let same : t ≡ u = (lines_apart t u more others lacks (tree_text_line u is) parts).0 in
        wrong (subst (λ z. IsTreeText z) (sym same) is) (subst (λ z. Each (λ v. IsBefore v z) trees) (sym same) above)
    by _ others _ f (a_count _ _ cut) = no_closing (suc (length trees)) t more cut (decimal (length trees)) others (sym there ∙ f)

-- neither a tree nor the end of the class comes next
pub body_breaks : (names trees : List (List ℕ)) (n : ℕ) (rest : List ℕ) → n ≡ length trees → NoTreeNext trees rest → ((cut : Bool) (more : List ℕ) → rest ≡ ended (closing_word cut ++ decimal n) ++ more → ⊥) → BreaksOff (inside names trees) rest
body_breaks names trees n rest len tree closing line others after f follows = by line others after f follows
  where
    by : (line others : List ℕ) (after : Standing) → rest ≡ line ++ others → Follows (inside names trees) line after → ⊥
    by _ others _ f (a_tree _ _ u is above) = tree u others is above f
    by _ others _ f (a_count _ _ cut) = closing cut others (f ∙ ap (λ k. ended (closing_word cut ++ decimal k) ++ others) (sym len))

-- ---- between classes

pub no_end : (name more more' : List ℕ) → ended (codes "class " ++ name) ++ more ≡ ended (codes "end") ++ more' → ⊥
no_end name more more' e = let f : 99 ≡ 101 = same_head 99 101 _ _ e in omega (arith, f)

pub class_name_apart : (a b r s : List ℕ) → IsWord a → IsWord b → ended (codes "class " ++ a) ++ r ≡ ended (codes "class " ++ b) ++ s → a ≡ b
class_name_apart a b r s h k e =
    (lines_apart a b r s (word_line a h) (word_line b k) (append_cancel_left (codes "class ") _ _ (sym (line_behind (codes "class ") a r) ∙ e ∙ line_behind (codes "class ") b s))).0

-- a class that came before
pub class_breaks : (names : List (List ℕ)) (name more rest : List ℕ) → IsWord name → rest ≡ ended (codes "class " ++ name) ++ more → IsAmong names name → BreaksOff (between names) rest
class_breaks names name more rest word e there line others after f follows = by line others after f follows
  where
    by : (line others : List ℕ) (after : Standing) → rest ≡ line ++ others → Follows (between names) line after → ⊥
    by _ others _ f (a_class _ other is new) = new (subst (λ z. IsAmong names z) (class_name_apart name other more others word is (sym e ∙ f)) there)
    by _ others _ f (an_end _) = no_end name more others (sym e ∙ f)

-- neither a class nor the end comes next
pub end_breaks : (names : List (List ℕ)) (rest : List ℕ) → NoClassNext rest → ((more : List ℕ) → rest ≡ ended (codes "end") ++ more → ⊥) → BreaksOff (between names) rest
end_breaks names rest class none line others after f follows = by line others after f follows
  where
    by : (line others : List ℕ) (after : Standing) → rest ≡ line ++ others → Follows (between names) line after → ⊥
    by _ others _ f (a_class _ other is new) = class other others is f
    by _ others _ f (an_end _) = none others f

pub version_breaks : (text : List ℕ) → ((more : List ℕ) → text ≡ ended (codes "grammar 1") ++ more → ⊥) → BreaksOff begins text
version_breaks text none line others after f follows = by line others after f follows
  where
    by : (line others : List ℕ) (after : Standing) → text ≡ line ++ others → Follows begins line after → ⊥
    by _ others _ f a_version = none others f

pub over_breaks : (rest : List ℕ) → BreaksOff over rest
over_breaks rest line others after f follows = elim follows [ ]

-- ---- the first bad line, behind lines that follow one another

pub bad_behind : (from mid : Standing) (rows : List (List ℕ)) (text rest at : List ℕ) → Leads from rows mid → text ≡ joined rows ++ rest → IsBadLine mid rest at → IsBadLine from text at
bad_behind from mid rows text rest at leads split bad = record {
  before = rows ++ bad.before;
  standing = bad.standing;
  leads = Leads-append from mid bad.standing rows bad.before leads bad.leads;
  split = split ∙ ap (λ z. joined rows ++ z) bad.split ∙ sym (append_assoc (joined rows) (joined bad.before) at) ∙ ap (λ z. z ++ at) (sym (joined-append rows bad.before));
  unfinished = bad.unfinished;
  here = bad.here;
}

pub bad_here : (from : Standing) (text : List ℕ) → (from ≡ over → text ≢ []) → BreaksOff from text → IsBadLine from text text
bad_here from text unfinished here = record { before = []; standing = from; leads = no_line; split = refl; unfinished = unfinished; here = here }

pub inside_over : (names trees : List (List ℕ)) (text : List ℕ) → inside names trees ≡ over → text ≢ []
inside_over names trees text e = absurd cc

pub between_over : (names : List (List ℕ)) (text : List ℕ) → between names ≡ over → text ≢ []
between_over names text e = absurd cc

pub begins_over : (text : List ℕ) → begins ≡ over → text ≢ []
begins_over text e = absurd cc

-- behind the lines of trees that were read
pub bad_in_class : (texts names : List (List ℕ)) (set : List Entry) (text rest : List ℕ) → IsTable texts → AreReadTrees texts set → text ≡ tree_lines 1 (texts_of set) ++ rest → BreaksOff (inside names (texts_of set)) rest → IsBadLine (inside names []) text rest
bad_in_class texts names set text rest table read split here =
    bad_behind (inside names []) (inside names (texts_of set)) (tree_rows 1 (texts_of set)) text rest rest
    (trees_lead names [] (texts_of set) (read_texts texts table set read) read.whole.is_set.order)
    (split ∙ ap (λ z. z ++ rest) (sym (joined-tree_rows 1 (texts_of set))))
    (bad_here (inside names (texts_of set)) rest (inside_over names (texts_of set) rest) here)
