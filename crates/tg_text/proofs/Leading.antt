-- The lines that are written for trees and classes follow one another.
use Rattle.std.specs.Prelude.{◌≡◌, ℕ, suc, ◌<◌, Bool, List, [], ◌∷◌, ◌++◌, map, length, codes, refl}
use Rattle.std.specs.Fmt.{decimal}
use Rattle.std.proofs.Common.{inl, inr, ap, sym, ◌∙◌, subst, arith, append_assoc, length-append}
use Rattle.std.proofs.lemmas.List.{append-nil}
use Rattle.gr_base.specs.Lists.{Each, InByteOrder, IsAmong, IsBefore, NoneTwice, gathered, joined}
use Rattle.gr_base.proofs.ListLemmas.{NoneTwice-again}
use Rattle.td_canon.specs.CanonicalTexts.{HasText, text_in}
use Rattle.td_canon.specs.TreeSets.{Entry, texts_of, trees_of}
use Rattle.td_canon.specs.declared.tree_set.ClassTrees.{ClassTrees}
use Rattle.td_canon.proofs.OrderLemmas.{texts_apart}
use Rattle.tg_reader.specs.Writable.{IsTable, IsTreeText, IsWord, IsWritableTree}
use Rattle.tg_text.specs.Answers.{AreReadClasses, IsReadClass}
use Rattle.tg_text.specs.GrammarText.{ClassText, class_text, class_text_of, closing_word, ended, grammar_text, tree_line, tree_lines}
use Rattle.tg_text.specs.Lines.{Leads, Standing, a_class, a_count, a_line, a_tree, a_version, an_end, begins, between, inside, no_line, over}
use Rattle.tg_text.specs.Reading.{AreReadTrees}

-- ---- lines one after another

pub Leads-append : (s t u : Standing) (xs ys : List (List ℕ)) → Leads s xs t → Leads t ys u → Leads s (xs ++ ys) u
Leads-append s t u xs ys no_line k = k
Leads-append s t u xs ys (a_line {mid = mid} {lines = lines} f h) k = a_line f (Leads-append mid t u lines ys h k)

pub joined-append : (xs ys : List (List ℕ)) → joined (xs ++ ys) ≡ joined xs ++ joined ys
joined-append [] ys = refl
joined-append (x ∷ xs) ys = ap (λ z. x ++ z) (joined-append xs ys) ∙ sym (append_assoc x (joined xs) (joined ys))

-- ---- trees

-- the lines of trees, apart
abbrev pub tree_rows : ℕ → List (List ℕ) → List (List ℕ)
tree_rows n [] = []
tree_rows n (t ∷ ts) = tree_line n t ∷ tree_rows (suc n) ts

pub joined-tree_rows : (n : ℕ) (ts : List (List ℕ)) → joined (tree_rows n ts) ≡ tree_lines n ts
joined-tree_rows n [] = refl
joined-tree_rows n (t ∷ ts) = ap (λ z. tree_line n t ++ z) (joined-tree_rows (suc n) ts)

before_all : (front : List (List ℕ)) (t : List ℕ) (ts : List (List ℕ)) → InByteOrder (front ++ t ∷ ts) → Each (λ u. IsBefore u t) front
before_all [] t ts order = tt
before_all (x ∷ front) t ts order = (here front order.0, before_all front t ts order.1)
  where
    here : (xs : List (List ℕ)) → Each (IsBefore x) (xs ++ t ∷ ts) → IsBefore x t
    here [] each = each.0
    here (y ∷ xs) each = here xs each.1

pub trees_lead : (names front ts : List (List ℕ)) → Each IsTreeText ts → InByteOrder (front ++ ts) → Leads (inside names front) (tree_rows (suc (length front)) ts) (inside names (front ++ ts))
trees_lead names front [] texts order = subst (λ z. Leads (inside names front) [] (inside names z)) (sym (append-nil front)) no_line
trees_lead names front (t ∷ ts) texts order =
    let regroup : (front ++ t ∷ []) ++ ts ≡ front ++ t ∷ ts = append_assoc front (t ∷ []) ts in
    let one_more : length (front ++ t ∷ []) ≡ suc (length front) = omega (arith, length-append front (t ∷ [])) in
    let rest = trees_lead names (front ++ t ∷ []) ts texts.1 (subst (λ z. InByteOrder z) (sym regroup) order) in
    a_line (a_tree names front t texts.0 (before_all front t ts order))
    (subst (λ z. Leads (inside names (front ++ t ∷ [])) (tree_rows (suc (suc (length front))) ts) (inside names z)) regroup
    (subst (λ n. Leads (inside names (front ++ t ∷ [])) (tree_rows (suc n) ts) (inside names ((front ++ t ∷ []) ++ ts))) one_more rest))

-- ---- classes

-- what can be written of a class
pub record IsClassText (c : ClassText) : Type 0 where
  pub word : IsWord c.name
  pub texts : Each IsTreeText c.trees
  pub order : InByteOrder c.trees

abbrev pub closing_line : Bool → List (List ℕ) → List ℕ
closing_line cut trees = ended (closing_word cut ++ decimal (length trees))

abbrev pub class_rows : ClassText → List (List ℕ)
class_rows c = ended (codes "class " ++ c.name) ∷ (tree_rows 1 c.trees ++ closing_line c.cut c.trees ∷ [])

pub joined-class_rows : (c : ClassText) → joined (class_rows c) ≡ class_text c
joined-class_rows c =
    let head = ended (codes "class " ++ c.name) in
    let last = closing_line c.cut c.trees in
    ap (λ z. head ++ z) (joined-append (tree_rows 1 c.trees) (last ∷ []) ∙ ap (λ z. z ++ (last ++ [])) (joined-tree_rows 1 c.trees) ∙ ap (λ z. tree_lines 1 c.trees ++ z) (append-nil last))
    ∙ sym (append_assoc head (tree_lines 1 c.trees) last)

pub class_leads : (names : List (List ℕ)) (c : ClassText) → IsClassText c → (IsAmong names c.name → ⊥) → Leads (between names) (class_rows c) (between (names ++ c.name ∷ []))
class_leads names c is new =
    let more = names ++ c.name ∷ [] in
    a_line (a_class names c.name is.word new)
    (Leads-append (inside more []) (inside more c.trees) (between more) (tree_rows 1 c.trees) (closing_line c.cut c.trees ∷ []) (trees_lead more [] c.trees is.texts is.order) (a_line (a_count more c.trees c.cut) no_line))

pub joined-classes : (cs : List ClassText) → joined (gathered class_rows cs) ≡ gathered class_text cs
joined-classes [] = refl
joined-classes (c ∷ cs) = joined-append (class_rows c) (gathered class_rows cs) ∙ ap (λ z. z ++ joined (gathered class_rows cs)) (joined-class_rows c) ∙ ap (λ z. class_text c ++ z) (joined-classes cs)

pub classes_lead : (names : List (List ℕ)) (cs : List ClassText) → Each IsClassText cs → NoneTwice (names ++ map (λ (c : ClassText). c.name) cs) → Leads (between names) (gathered class_rows cs) (between (names ++ map (λ (c : ClassText). c.name) cs))
classes_lead names [] is once = subst (λ z. Leads (between names) [] (between z)) (sym (append-nil names)) no_line
classes_lead names (c ∷ cs) is once =
    let others = map (λ (d : ClassText). d.name) cs in
    let regroup : (names ++ c.name ∷ []) ++ others ≡ names ++ c.name ∷ others = append_assoc names (c.name ∷ []) others in
    Leads-append (between names) (between (names ++ c.name ∷ [])) (between (names ++ c.name ∷ others)) (class_rows c) (gathered class_rows cs)
    (class_leads names c is.0 (NoneTwice-again names c.name others once))
    (subst (λ z. Leads (between (names ++ c.name ∷ [])) (gathered class_rows cs) (between z)) regroup (classes_lead (names ++ c.name ∷ []) cs is.1 (subst (λ z. NoneTwice z) (sym regroup) once)))

-- ---- the whole text

abbrev pub version_line : List ℕ
version_line = ended (codes "grammar 1")

abbrev pub front_rows : List ClassText → List (List ℕ)
front_rows cs = version_line ∷ gathered class_rows cs

abbrev pub text_rows : List ClassText → List (List ℕ)
text_rows cs = front_rows cs ++ ended (codes "end") ∷ []

pub joined-text_rows : (cs : List ClassText) → joined (text_rows cs) ≡ grammar_text cs
joined-text_rows cs =
    joined-append (front_rows cs) (ended (codes "end") ∷ []) ∙ ap (λ z. (version_line ++ z) ++ (ended (codes "end") ++ [])) (joined-classes cs) ∙ ap (λ z. (version_line ++ gathered class_text cs) ++ z) (append-nil (ended (codes "end")))

abbrev pub text_names : List ClassText → List (List ℕ)
text_names cs = map (λ (c : ClassText). c.name) cs

pub front_leads : (cs : List ClassText) → Each IsClassText cs → NoneTwice (text_names cs) → Leads begins (front_rows cs) (between (text_names cs))
front_leads cs is once = a_line a_version (classes_lead [] cs is once)

pub text_leads : (cs : List ClassText) → Each IsClassText cs → NoneTwice (text_names cs) → Leads begins (text_rows cs) over
text_leads cs is once = Leads-append begins (between (text_names cs)) over (front_rows cs) (ended (codes "end") ∷ []) (front_leads cs is once) (a_line (an_end (text_names cs)) no_line)

-- ---- what was read can be written

module _ (texts : List (List ℕ)) (table : IsTable texts) where
  tree_texts : (set : List Entry) → Each (λ (e : Entry). HasText texts e.tree e.text) set → Each (IsWritableTree texts) (trees_of set) → Each IsTreeText (texts_of set)
  tree_texts [] has writable = tt
  tree_texts (e ∷ set) has writable = (record { texts = texts; table = table; tree = e.tree; has = has.0; writable = writable.0 }, tree_texts set has.1 writable.1)

  pub read_texts : (set : List Entry) → AreReadTrees texts set → Each IsTreeText (texts_of set)
  read_texts set h = tree_texts set h.whole.texts_are h.writable

  pub read_class : (c : ClassTrees) → IsReadClass texts c → IsClassText (class_text_of texts c)
  read_class c h = record { word = h.word; texts = tree_texts c.trees h.whole.texts_are h.writable; order = h.whole.is_set.order }

  pub read_classes : (cs : List ClassTrees) → Each (IsReadClass texts) cs → Each IsClassText (map (class_text_of texts) cs)
  read_classes [] h = tt
  read_classes (c ∷ cs) h = (read_class c h.0, read_classes cs h.1)

  -- classes of different numbers have different names
  name_again : (c : ClassTrees) (cs : List ClassTrees) → c.class.0 < length texts → Each (IsReadClass texts) cs → IsAmong (text_names (map (class_text_of texts) cs)) (text_in texts c.class.0) → IsAmong (map (λ (d : ClassTrees). d.class) cs) c.class
  name_again c [] named h i = absurd i
  name_again c (d ∷ cs) named h (inl e) = inl (let same : c.class.0 ≡ d.class.0 = texts_apart texts c.class.0 d.class.0 table.once named h.0.named e in λ k. record { 0 = same k })
  name_again c (d ∷ cs) named h (inr i) = inr (name_again c cs named h.1 i)

  pub names_once : (cs : List ClassTrees) → Each (IsReadClass texts) cs → NoneTwice (map (λ (c : ClassTrees). c.class) cs) → NoneTwice (text_names (map (class_text_of texts) cs))
  names_once [] h once = tt
  names_once (c ∷ cs) h once = (λ i. once.0 (name_again c cs h.0.named h.1 i), names_once cs h.1 once.1)

  -- so the lines of a text that was read follow one another to the end
  pub classes_text_leads : (bytes : List ℕ) (cs : List ClassTrees) → AreReadClasses texts bytes cs → Leads begins (text_rows (map (class_text_of texts) cs)) over
  classes_text_leads bytes cs h = text_leads (map (class_text_of texts) cs) (read_classes cs h.each) (names_once cs h.each h.once)
