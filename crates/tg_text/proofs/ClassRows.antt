-- The classes of a text, read line by line.
use Rattle.std.specs.Prelude.{◌≡◌, ℕ, ◌+◌, ◌<◌, List, [], ◌∷◌, ◌++◌, map, length, codes}
use Rattle.std.specs.Fmt.{decimal}
use Rattle.std.proofs.Common.{inl, inr, ap, sym, ◌∙◌, subst, arith, append_assoc, length-append}
use Rattle.std.proofs.lemmas.List.{append-nil, map-append}
use Rattle.gr_base.specs.Lists.{Each, IsAmong, NoneTwice, gathered, joined}
use Rattle.gr_base.proofs.ListLemmas.{Each-append, NoneTwice-push}
use Rattle.gr_base.proofs.Gathering.{gathered-append}
use Rattle.gr_symbols.specs.Numbers.{Grows, Names}
use Rattle.gr_symbols.proofs.NumberLemmas.{Names-within}
use Rattle.gr_terms.specs.declared.Sym.{Sym}
use Rattle.td_canon.specs.CanonicalTexts.{text_in}
use Rattle.td_canon.specs.TreeSets.{texts_of}
use Rattle.td_canon.specs.declared.tree_set.ClassTrees.{ClassTrees}
use Rattle.td_canon.proofs.OrderLemmas.{texts_apart}
use Rattle.td_canon.proofs.ValueLemmas.{text_in-names}
use Rattle.tg_reader.specs.Writable.{IsTable, IsWord}
use Rattle.tg_text.specs.Answers.{IsReadClass}
use Rattle.tg_text.specs.GrammarText.{ClassText, class_text, class_text_of, closing_word, ended, tree_lines}
use Rattle.tg_text.specs.Lines.{Leads, a_class, a_line, between, inside, no_line}
use Rattle.tg_text.specs.Reading.{HasBody, HasClasses, IsBadLine, StopsAt}
use Rattle.tg_text.specs.declared.reading.Stop.{Stop}
use Rattle.tg_text.specs.declared.reading.Stop.TheVariants.{Line, Memory}
use Rattle.tg_text.proofs.GrownTrees.{classes_stay, written_stays}
use Rattle.tg_text.proofs.Leading.{class_rows, classes_lead, joined-classes, names_once, read_classes, text_names}
use Rattle.tg_text.proofs.Stopping.{bad_behind, bad_here, between_over, class_breaks}

-- the numbers of classes
abbrev pub numbers_of : List ClassTrees → List ℕ
numbers_of cs = map (λ (c : ClassTrees). c.class.0) cs

abbrev pub written : List (List ℕ) → List ClassTrees → List ClassText
written texts cs = map (class_text_of texts) cs

-- what was read stays so as the table grows
pub has_stays : (old texts : List (List ℕ)) (cs : List ClassTrees) (text rest : List ℕ) → Grows old texts → NoneTwice texts → HasClasses old cs text rest → HasClasses texts cs text rest
has_stays old texts cs text rest grows once h = record {
  each = classes_stay old texts grows once cs h.each;
  once = h.once;
  split = h.split ∙ ap (λ ws. gathered class_text ws ++ rest) (sym (written_stays old texts grows cs h.each));
}

-- a number among those of the classes, and the name among theirs
name_there : (texts : List (List ℕ)) (cs : List ClassTrees) (n : ℕ) → IsAmong (numbers_of cs) n → IsAmong (text_names (written texts cs)) (text_in texts n)
name_there texts [] n i = i
name_there texts (c ∷ cs) n (inl e) = inl (ap (text_in texts) e)
name_there texts (c ∷ cs) n (inr i) = inr (name_there texts cs n i)

number_there : (texts : List (List ℕ)) (cs : List ClassTrees) (n : ℕ) → NoneTwice texts → n < length texts → Each (IsReadClass texts) cs → IsAmong (text_names (written texts cs)) (text_in texts n) → IsAmong (numbers_of cs) n
number_there texts [] n once named each i = i
number_there texts (c ∷ cs) n once named each (inl e) = inl (texts_apart texts n c.class.0 once named each.0.named e)
number_there texts (c ∷ cs) n once named each (inr i) = inr (number_there texts cs n once named each.1 i)

class_there : (cs : List ClassTrees) (s : Sym) → IsAmong (map (λ (c : ClassTrees). c.class) cs) s → IsAmong (numbers_of cs) s.0
class_there [] s i = i
class_there (c ∷ cs) s (inl e) = inl (ap (λ (z : Sym). z.0) e)
class_there (c ∷ cs) s (inr i) = inr (class_there cs s i)

-- the lines of the classes that were read follow one another
module _ (texts : List (List ℕ)) (table : IsTable texts) (cs : List ClassTrees) (text rest : List ℕ) (h : HasClasses texts cs text rest) where
  rows : List (List ℕ)
  rows = gathered class_rows (written texts cs)

  pub names : List (List ℕ)
  names = text_names (written texts cs)

  pub rows_lead : Leads (between []) (gathered class_rows (written texts cs)) (between (text_names (written texts cs)))
  rows_lead = classes_lead [] (written texts cs) (read_classes texts table cs h.each) (names_once texts table cs h.each h.once)

  pub rows_split : text ≡ joined (gathered class_rows (written texts cs)) ++ rest
  rows_split = h.split ∙ ap (λ z. z ++ rest) (sym (joined-classes (written texts cs)))

  -- a class that came before
  pub class_again : (n : ℕ) (name more : List ℕ) → Names texts n name → IsWord name → rest ≡ ended (codes "class " ++ name) ++ more → IsAmong (numbers_of cs) n → IsBadLine (between []) text rest
  class_again n name more named word e there =
      let is : text_in texts n ≡ name = text_in-names texts n name named in
      bad_behind (between []) (between (text_names (written texts cs))) (gathered class_rows (written texts cs)) text rest rest rows_lead rows_split
      (bad_here (between (text_names (written texts cs))) rest (between_over (text_names (written texts cs)) rest)
      (class_breaks (text_names (written texts cs)) name more rest word e (subst (λ z. IsAmong (text_names (written texts cs)) z) is (name_there texts cs n there))))

  -- a new class, and what stops the reading inside it
  pub class_stops : (n : ℕ) (name more : List ℕ) (stop : Stop) → Names texts n name → IsWord name → rest ≡ ended (codes "class " ++ name) ++ more → (IsAmong (numbers_of cs) n → ⊥)
      → StopsAt (inside (text_names (written texts cs) ++ name ∷ []) []) more stop → StopsAt (between []) text stop
  class_stops n name more Memory named word e new stops = tt
  class_stops n name more (Line left) named word e new (at, bad, e') =
      let is : text_in texts n ≡ name = text_in-names texts n name named in
      let ns = text_names (written texts cs) in
      let first = ended (codes "class " ++ name) in
      let is_new : IsAmong ns name → ⊥ = λ i. new (number_there texts cs n table.once (Names-within texts n name named) h.each (subst (λ z. IsAmong ns z) (sym is) i)) in
      let line : IsBadLine (between ns) rest at =
      bad_behind (between ns) (inside (ns ++ name ∷ []) []) (first ∷ []) rest more at (a_line (a_class ns name word is_new) no_line) (e ∙ ap (λ z. z ++ more) (sym (append-nil first))) bad in
      (at, bad_behind (between []) (between ns) (gathered class_rows (written texts cs)) text rest at rows_lead rows_split line, e')

-- ---- one class more

pub class_more : (old texts : List (List ℕ)) (cs : List ClassTrees) (found : ClassTrees) (class : Sym) (name text rest more end : List ℕ) → HasClasses old cs text rest → Grows old texts → NoneTwice texts
    → Names texts class.0 name → IsWord name → rest ≡ ended (codes "class " ++ name) ++ more → (IsAmong (numbers_of cs) class.0 → ⊥) → found.class ≡ class → HasBody texts found more end → HasClasses texts (cs ++ found ∷ []) text end
class_more old texts cs found class name text rest more end h grows once named word e new class_is body =
    let stays = has_stays old texts cs text rest grows once h in
    let number : found.class.0 ≡ class.0 = ap (λ (s : Sym). s.0) class_is in
    let names_it : Names texts found.class.0 name = subst (λ n. Names texts n name) (sym number) named in
    let is : text_in texts found.class.0 ≡ name = text_in-names texts found.class.0 name names_it in
    let one : IsReadClass texts found = record { named = Names-within texts found.class.0 name names_it; word = subst (λ t. IsWord t) (sym is) word; whole = body.read.whole; writable = body.read.writable } in
    let head = ended (codes "class " ++ name) in
    let trees = tree_lines 1 (texts_of found.trees) in
    let last = ended (closing_word found.cut ++ decimal (length (texts_of found.trees))) in
    let this : head ++ more ≡ class_text (class_text_of texts found) ++ end =
    ap (λ z. head ++ z) (body.split ∙ append_assoc trees last end) ∙ sym (append_assoc head trees (last ++ end)) ∙ sym (append_assoc (head ++ trees) last end) ∙ ap (λ z. ((ended (codes "class " ++ z) ++ trees) ++ last) ++ end) (sym is) in
    let all : gathered class_text (written texts (cs ++ found ∷ [])) ≡ gathered class_text (written texts cs) ++ class_text (class_text_of texts found) =
    ap (λ ws. gathered class_text ws) (map-append (class_text_of texts) cs (found ∷ [])) ∙ gathered-append class_text (written texts cs) (class_text_of texts found ∷ []) ∙ ap (λ z. gathered class_text (written texts cs) ++ z) (append-nil (class_text (class_text_of texts found))) in
    record {
      each = Each-append (IsReadClass texts) cs (found ∷ []) stays.each (one, tt);
      once =
          subst (λ z. NoneTwice z) (sym (map-append (λ (c : ClassTrees). c.class) cs (found ∷ [])))
          (NoneTwice-push (map (λ (c : ClassTrees). c.class) cs) found.class h.once (λ i. new (subst (λ n. IsAmong (numbers_of cs) n) number (class_there cs found.class i))));
      split =
          stays.split ∙ ap (λ z. gathered class_text (written texts cs) ++ z) (e ∙ this) ∙ sym (append_assoc (gathered class_text (written texts cs)) (class_text (class_text_of texts found)) end)
          ∙ ap (λ z. z ++ end) (sym all);
    }

pub numbers_more : (keys news : List ℕ) (cs : List ClassTrees) (found : ClassTrees) (class : Sym) → keys ≡ numbers_of cs → news ≡ keys ++ class.0 ∷ [] → found.class ≡ class → news ≡ numbers_of (cs ++ found ∷ [])
numbers_more keys news cs found class known more is =
    more ∙ ap (λ z. z ++ class.0 ∷ []) known ∙ ap (λ (s : Sym). numbers_of cs ++ s.0 ∷ []) (sym is) ∙ sym (map-append (λ (c : ClassTrees). c.class.0) cs (found ∷ []))

pub class_line_long : (rest name more : List ℕ) → rest ≡ ended (codes "class " ++ name) ++ more → length more + 6 < length rest
class_line_long rest name more e =
    let a = ap length e ∙ length-append (ended (codes "class " ++ name)) more in
    let b = length-append (codes "class " ++ name) (10 ∷ []) in
    omega (arith, a, b)
