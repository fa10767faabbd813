-- How the table of names grows with the trees and classes that are read.
use Rattle.std.specs.Prelude.{◌≡◌, ℕ, suc, List, [], ◌∷◌, ◌++◌, length, Ok}
use Rattle.std.proofs.Common.{ap, sym, ◌∙◌, subst, arith, length-append}
use Rattle.std.proofs.lemmas.List.{map-append}
use Rattle.gr_base.specs.Lists.{Each, gathered}
use Rattle.gr_symbols.specs.Numbers.{Grows, Names, first_texts, with_text, with_texts}
use Rattle.gr_symbols.proofs.NumberLemmas.{Grows-trans, with_text-grows, with_text-once, with_texts-grows, with_texts-once}
use Rattle.gr_terms.specs.declared.Sym.{Sym}
use Rattle.td_canon.specs.CanonicalTexts.{text_in}
use Rattle.td_canon.specs.TreeSets.{Entry, texts_of}
use Rattle.td_canon.specs.declared.tree_set.ClassTrees.{ClassTrees}
use Rattle.td_canon.proofs.ValueLemmas.{text_in-names}
use Rattle.td_tree.specs.declared.Tree.{Tree}
use Rattle.tg_reader.specs.Naming.{PutsTreeNames, names_in}
use Rattle.tg_reader.specs.Reading.{InTurn}
use Rattle.tg_reader.specs.Writable.{IsTable}
use Rattle.tg_reader.proofs.OneNaming.{one_table as one_tree_table}
use Rattle.tg_reader.proofs.Rows.{InTurn-more}
use Rattle.tg_text.specs.Answers.{Classes, IsGrammarAnswer, IsReadClass}
use Rattle.tg_text.specs.GrammarText.{ClassText, class_text, class_text_of, tree_lines}
use Rattle.tg_text.specs.Naming.{PutsClass, PutsClasses, PutsTrees}
use Rattle.tg_text.proofs.ClassRows.{written}
use Rattle.tg_text.proofs.GrownTrees.{written_stays}
use Rattle.tg_text.proofs.OneAnswer.{read_alike}
use Rattle.tg_text.proofs.SizeLemmas.{class_size, file_size, first_line_size}
use Rattle.gr_text.specs.Limits.{IsShort}

-- ---- one more

pub trees_put : (set new : List Entry) (t : Tree) (text : List ℕ) (old mid texts : List (List ℕ)) → new ≡ set ++ record { tree = t; text = text } ∷ [] → PutsTrees (texts_of set) old mid → PutsTreeNames text mid texts → PutsTrees (texts_of new) old texts
trees_put set new t text old mid texts last puts one =
    subst (λ ts. PutsTrees ts old texts) (sym (ap texts_of last ∙ map-append (λ (e : Entry). e.text) set (record { tree = t; text = text } ∷ []))) (InTurn-more PutsTreeNames (texts_of set) text old mid texts puts one)

pub classes_put : (mid texts : List (List ℕ)) (cs : List ClassTrees) (found : ClassTrees) (class : Sym) (name : List ℕ) (old : List (List ℕ)) → Grows mid texts → Each (IsReadClass mid) cs → Names texts class.0 name → found.class ≡ class
    → PutsClasses (written mid cs) old mid → PutsTrees (texts_of found.trees) (with_text mid name) texts → PutsClasses (written texts (cs ++ found ∷ [])) old texts
classes_put mid texts cs found class name old grows each named class_is puts trees =
    let is : text_in texts found.class.0 ≡ name = ap (λ (s : Sym). text_in texts s.0) class_is ∙ text_in-names texts class.0 name named in
    let one : PutsClass (class_text_of texts found) mid texts = subst (λ z. PutsTrees (texts_of found.trees) (with_text mid z) texts) (sym is) trees in
    let before : PutsClasses (written texts cs) old mid = subst (λ ws. PutsClasses ws old mid) (sym (written_stays mid texts grows cs each)) puts in
    subst (λ ws. PutsClasses ws old texts) (sym (map-append (class_text_of texts) cs (found ∷ []))) (InTurn-more PutsClass (written texts cs) (class_text_of texts found) old mid texts before one)

-- ---- what grows stays a table

table_grows : (old new : List (List ℕ)) (names : List (List ℕ)) → new ≡ with_texts old names → IsTable old → IsTable new
table_grows old new names e table = subst (λ z. IsTable z) (sym e) (record { once = with_texts-once old names table.once; first = Grows-trans first_texts old (with_texts old names) table.first (with_texts-grows old names) })

in_turn_table : {V : Type 0} (R : V → List (List ℕ) → List (List ℕ) → Type 0) → ((v : V) (old new : List (List ℕ)) → R v old new → IsTable old → IsTable new) → (vs : List V) (old new : List (List ℕ)) → InTurn R vs old new → IsTable old → IsTable new
in_turn_table R step [] old new puts table = subst (λ z. IsTable z) (sym puts) table
in_turn_table R step (v ∷ vs) old new puts table = in_turn_table R step vs puts.0 new puts.2 (step v old puts.0 puts.1 table)

tree_table : (text : List ℕ) (old new : List (List ℕ)) → PutsTreeNames text old new → IsTable old → IsTable new
tree_table text old new puts table = table_grows old new (names_in puts.0) puts.1 table

class_table : (c : ClassText) (old new : List (List ℕ)) → PutsClass c old new → IsTable old → IsTable new
class_table c old new puts table =
    in_turn_table PutsTreeNames tree_table c.trees (with_text old c.name) new puts (record { once = with_text-once old c.name table.once; first = Grows-trans first_texts old (with_text old c.name) table.first (with_text-grows old c.name) })

pub new_table : (bytes : List ℕ) (old new : List (List ℕ)) (x : Classes) → IsTable old → IsGrammarAnswer bytes old new (Ok x) → IsTable new
new_table bytes old new x table answer = in_turn_table PutsClass class_table (written new x.items) old new answer.table table

-- ---- and it is one

module _ {V : Type 0} (R : V → List (List ℕ) → List (List ℕ) → Type 0) (Can : V → Type 0) (one : (v : V) (old new others : List (List ℕ)) → Can v → R v old new → R v old others → new ≡ others) where
  in_turn_one : (vs : List V) (old new others : List (List ℕ)) → Each Can vs → InTurn R vs old new → InTurn R vs old others → new ≡ others
  in_turn_one [] old new others can a b = a ∙ sym b
  in_turn_one (v ∷ vs) old new others can a b =
      let first : a.0 ≡ b.0 = one v old a.0 b.0 can.0 a.1 b.1 in
      in_turn_one vs b.0 new others can.1 (subst (λ z. InTurn R vs z new) first a.2) b.2

trees_short : (n : ℕ) (ts : List (List ℕ)) → IsShort (tree_lines n ts) → Each IsShort ts
trees_short n [] short = tt
trees_short n (t ∷ ts) short =
    let size = first_line_size n t ts in
    (omega (arith, short, size), trees_short (suc n) ts (omega (arith, short, size)))

classes_short : (cs : List ClassText) → IsShort (gathered class_text cs) → Each (λ (c : ClassText). Each IsShort c.trees) cs
classes_short [] short = tt
classes_short (c ∷ cs) short =
    let size = length-append (class_text c) (gathered class_text cs) in
    (trees_short 1 c.trees (omega (arith, short, size, class_size c)), classes_short cs (omega (arith, short, size)))

one_class : (c : ClassText) (old new others : List (List ℕ)) → Each IsShort c.trees → PutsClass c old new → PutsClass c old others → new ≡ others
one_class c old new others short a b = in_turn_one PutsTreeNames IsShort one_tree_table c.trees (with_text old c.name) new others short a b

pub one_table : (bytes : List ℕ) (old new others : List (List ℕ)) (x y : Classes) → IsShort bytes → IsTable old → IsGrammarAnswer bytes old new (Ok x) → IsGrammarAnswer bytes old others (Ok y) → new ≡ others
one_table bytes old new others x y short table a b =
    let same : written new x.items ≡ written others y.items = read_alike bytes new others x.items y.items (new_table bytes old new x table a) (new_table bytes old others y table b) a.reading.2 b.reading.2 in
    let size : IsShort (gathered class_text (written new x.items)) = omega (arith, short, ap (λ (z : List ℕ). length z) a.reading.2.written, file_size (written new x.items)) in
    in_turn_one PutsClass (λ (c : ClassText). Each IsShort c.trees) one_class (written new x.items) old new others (classes_short (written new x.items) size) a.table (subst (λ ws. PutsClasses ws old others) (sym same) b.table)
