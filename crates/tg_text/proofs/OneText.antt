-- What is written of classes tells what was written, and one answer is right.
use Rattle.std.proofs.lemmas.List.{append_cancel_left}
use Rattle.std.specs.Prelude.{◌≡◌, get_or, zero, ◌<◌, ℕ, suc, Bool, true, false, List, [], ◌∷◌, ◌++◌, length, codes, refl}
use Rattle.std.specs.Fmt.{decimal}
use Rattle.std.specs.Str.{IsUtf8}
use Rattle.std.proofs.Common.{sym, ◌∙◌, arith, append_assoc}
use Rattle.std.proofs.lemmas.Str.{IsUtf8-append, IsUtf8-from_ascii, IsUtf8-nil}
use Rattle.gr_base.specs.Lists.{Each, gathered}
use Rattle.gr_base.proofs.ListLemmas.{same_head}
use Rattle.tg_reader.specs.Writable.{IsTreeText}
use Rattle.tg_text.specs.GrammarText.{ClassText, class_text, closing_word, ended, grammar_text, tree_line, tree_lines}
use Rattle.tg_text.proofs.FrontLemmas.{line_behind, lines_apart, tree_parts, word_line}
use Rattle.tg_text.proofs.Leading.{IsClassText, closing_line}
use Rattle.tg_text.proofs.Stopping.{no_closing, no_end}
use Rattle.tg_text.proofs.TreeBytes.{IsFine, fine_append, fine_decimal, fine_lacks, fine_name, plain, tree_text_fine, tree_text_line}

-- ---- the text tells the classes

trees_apart : (n : ℕ) (ts us : List (List ℕ)) (cut cut' : Bool) (k l r s : List ℕ) → Each IsTreeText ts → Each IsTreeText us
    → tree_lines n ts ++ (ended (closing_word cut ++ k) ++ r) ≡ tree_lines n us ++ (ended (closing_word cut' ++ l) ++ s) → (ts ≡ us) × (ended (closing_word cut ++ k) ++ r ≡ ended (closing_word cut' ++ l) ++ s)
trees_apart n [] [] cut cut' k l r s h g e = (refl, e)
trees_apart n [] (u ∷ us) cut cut' k l r s h g e =
    absurd (no_closing n u (tree_lines (suc n) us ++ (ended (closing_word cut' ++ l) ++ s)) cut k r (sym (append_assoc (tree_line n u) (tree_lines (suc n) us) (ended (closing_word cut' ++ l) ++ s)) ∙ sym e))
trees_apart n (t ∷ ts) [] cut cut' k l r s h g e =
    absurd (no_closing n t (tree_lines (suc n) ts ++ (ended (closing_word cut ++ k) ++ r)) cut' l s (sym (append_assoc (tree_line n t) (tree_lines (suc n) ts) (ended (closing_word cut ++ k) ++ r)) ∙ e))
trees_apart n (t ∷ ts) (u ∷ us) cut cut' k l r s h g e =
    let left = tree_lines (suc n) ts ++ (ended (closing_word cut ++ k) ++ r) in
    let right = tree_lines (suc n) us ++ (ended (closing_word cut' ++ l) ++ s) in
    let whole : tree_line n t ++ left ≡ tree_line n u ++ right = sym (append_assoc (tree_line n t) (tree_lines (suc n) ts) (ended (closing_word cut ++ k) ++ r)) ∙ e ∙ append_assoc (tree_line n u) (tree_lines (suc n) us) (ended (closing_word cut' ++ l) ++ s) in
    let parts = append_cancel_left (codes " ") _ _ (append_cancel_left (decimal n) _ _ (append_cancel_left (codes "tree ") _ _ (sym (tree_parts n t left) ∙ whole ∙ tree_parts n u right))) in
    let one = lines_apart t u left right (tree_text_line t h.0) (tree_text_line u g.0) parts in
    let rest = trees_apart (suc n) ts us cut cut' k l r s h.1 g.1 one.1 in
    (λ i. one.0 i ∷ rest.0 i, rest.1)

closing_apart : (cut cut' : Bool) (m n : ℕ) (r s : List ℕ) → ended (closing_word cut ++ decimal m) ++ r ≡ ended (closing_word cut' ++ decimal n) ++ s → (cut ≡ cut') × (r ≡ s)
closing_apart true true m n r s e =
    (refl, (lines_apart (decimal m) (decimal n) r s (fine_lacks (decimal m) (fine_decimal m)) (fine_lacks (decimal n) (fine_decimal n)) (append_cancel_left (codes "cut ") _ _ (sym (line_behind (codes "cut ") (decimal m) r) ∙ e ∙ line_behind (codes "cut ") (decimal n) s))).1)
closing_apart true false m n r s e = absurd (let f : 99 ≡ 116 = same_head 99 116 _ _ e in omega (arith, f))
closing_apart false true m n r s e = absurd (let f : 116 ≡ 99 = same_head 116 99 _ _ e in omega (arith, f))
closing_apart false false m n r s e =
    (refl, (lines_apart (decimal m) (decimal n) r s (fine_lacks (decimal m) (fine_decimal m)) (fine_lacks (decimal n) (fine_decimal n)) (append_cancel_left (codes "trees ") _ _ (sym (line_behind (codes "trees ") (decimal m) r) ∙ e ∙ line_behind (codes "trees ") (decimal n) s))).1)

class_split : (c : ClassText) (r : List ℕ) → class_text c ++ r ≡ codes "class " ++ (ended c.name ++ (tree_lines 1 c.trees ++ (closing_line c.cut c.trees ++ r)))
class_split c r =
    let head = ended (codes "class " ++ c.name) in
    let trees = tree_lines 1 c.trees in
    let last = closing_line c.cut c.trees in
    append_assoc (head ++ trees) last r ∙ append_assoc head trees (last ++ r) ∙ line_behind (codes "class ") c.name (trees ++ (last ++ r))

class_apart : (c d : ClassText) (r s : List ℕ) → IsClassText c → IsClassText d → class_text c ++ r ≡ class_text d ++ s → (c ≡ d) × (r ≡ s)
class_apart c d r s h g e =
    let names = lines_apart c.name d.name _ _ (word_line c.name h.word) (word_line d.name g.word) (append_cancel_left (codes "class ") _ _ (sym (class_split c r) ∙ e ∙ class_split d s)) in
    let trees = trees_apart 1 c.trees d.trees c.cut d.cut (decimal (length c.trees)) (decimal (length d.trees)) r s h.texts g.texts names.1 in
    let last = closing_apart c.cut d.cut (length c.trees) (length d.trees) r s trees.1 in
    (λ i. record { name = names.0 i; trees = trees.0 i; cut = last.0 i }, last.1)

no_class : (c : ClassText) (r : List ℕ) → class_text c ++ r ≡ ended (codes "end") → ⊥
no_class c r e =
    no_end c.name (tree_lines 1 c.trees ++ (closing_line c.cut c.trees ++ r)) []
    (line_behind (codes "class ") c.name (tree_lines 1 c.trees ++ (closing_line c.cut c.trees ++ r)) ∙ sym (class_split c r) ∙ e)

classes_apart : (cs ds : List ClassText) → Each IsClassText cs → Each IsClassText ds → gathered class_text cs ++ ended (codes "end") ≡ gathered class_text ds ++ ended (codes "end") → cs ≡ ds
classes_apart [] [] h g e = refl
classes_apart [] (d ∷ ds) h g e = absurd (no_class d (gathered class_text ds ++ ended (codes "end")) (sym (append_assoc (class_text d) (gathered class_text ds) (ended (codes "end"))) ∙ sym e))
classes_apart (c ∷ cs) [] h g e = absurd (no_class c (gathered class_text cs ++ ended (codes "end")) (sym (append_assoc (class_text c) (gathered class_text cs) (ended (codes "end"))) ∙ e))
classes_apart (c ∷ cs) (d ∷ ds) h g e =
    let left = gathered class_text cs ++ ended (codes "end") in
    let right = gathered class_text ds ++ ended (codes "end") in
    let one = class_apart c d left right h.0 g.0 (sym (append_assoc (class_text c) (gathered class_text cs) (ended (codes "end"))) ∙ e ∙ append_assoc (class_text d) (gathered class_text ds) (ended (codes "end"))) in
    let rest = classes_apart cs ds h.1 g.1 one.1 in
    λ i. one.0 i ∷ rest i

pub texts_apart : (cs ds : List ClassText) → Each IsClassText cs → Each IsClassText ds → grammar_text cs ≡ grammar_text ds → cs ≡ ds
texts_apart cs ds h g e =
    let version = ended (codes "grammar 1") in
    classes_apart cs ds h g (append_cancel_left version _ _ (sym (append_assoc version (gathered class_text cs) (ended (codes "end"))) ∙ e ∙ append_assoc version (gathered class_text ds) (ended (codes "end"))))

-- ---- the text is UTF-8

fine_ended : (t : List ℕ) → IsUtf8 t → IsUtf8 (ended t)
fine_ended t h = IsUtf8-append t (10 ∷ []) h (IsUtf8-from_ascii (10 ∷ []) (λ i. at i))
  where
    at : (i : ℕ) → get_or (10 ∷ []) i 0 < 128
    at zero = omega arith
    at (suc i) = omega arith

utf8_lines : (n : ℕ) (ts : List (List ℕ)) → Each IsTreeText ts → IsUtf8 (tree_lines n ts)
utf8_lines n [] h = IsUtf8-nil
utf8_lines n (t ∷ ts) h =
    IsUtf8-append (tree_line n t) (tree_lines (suc n) ts)
    (fine_ended (((codes "tree " ++ decimal n) ++ codes " ") ++ t)
    (fine_append ((codes "tree " ++ decimal n) ++ codes " ") t (fine_append (codes "tree " ++ decimal n) (codes " ") (fine_append (codes "tree ") (decimal n) (plain (codes "tree ") refl) (fine_decimal n)) (plain (codes " ") refl)) (tree_text_fine t h.0)).utf8)
    (utf8_lines (suc n) ts h.1)

utf8_class : (c : ClassText) → IsClassText c → IsUtf8 (class_text c)
utf8_class c h =
    let head = fine_ended (codes "class " ++ c.name) (fine_append (codes "class ") c.name (plain (codes "class ") refl) (fine_name c.name h.word.name)).utf8 in
    let last = fine_ended (closing_word c.cut ++ decimal (length c.trees)) (fine_append (closing_word c.cut) (decimal (length c.trees)) (word c.cut) (fine_decimal (length c.trees))).utf8 in
    IsUtf8-append (ended (codes "class " ++ c.name) ++ tree_lines 1 c.trees) (closing_line c.cut c.trees) (IsUtf8-append (ended (codes "class " ++ c.name)) (tree_lines 1 c.trees) head (utf8_lines 1 c.trees h.texts)) last
  where
    word : (b : Bool) → IsFine (closing_word b)
    word true = plain (codes "cut ") refl
    word false = plain (codes "trees ") refl

utf8_classes : (cs : List ClassText) → Each IsClassText cs → IsUtf8 (gathered class_text cs)
utf8_classes [] h = IsUtf8-nil
utf8_classes (c ∷ cs) h = IsUtf8-append (class_text c) (gathered class_text cs) (utf8_class c h.0) (utf8_classes cs h.1)

pub utf8_text : (cs : List ClassText) → Each IsClassText cs → IsUtf8 (grammar_text cs)
utf8_text cs h =
    IsUtf8-append (ended (codes "grammar 1") ++ gathered class_text cs) (ended (codes "end"))
    (IsUtf8-append (ended (codes "grammar 1")) (gathered class_text cs) (fine_ended (codes "grammar 1") (plain (codes "grammar 1") refl).utf8) (utf8_classes cs h)) (fine_ended (codes "end") (plain (codes "end") refl).utf8)
