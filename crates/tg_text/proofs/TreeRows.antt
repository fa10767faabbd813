-- The trees of a class, read line by line.
use Rattle.std.specs.Prelude.{◌≡◌, ℕ, suc, ◌+◌, ◌<◌, List, [], ◌∷◌, ◌++◌, length, codes, Result, Ok, Err}
use Rattle.std.specs.Fmt.{decimal}
use Rattle.std.specs.Result.{IsErr, IsErrAnd}
use Rattle.std.proofs.Common.{ap, sym, ◌∙◌, arith, append_assoc, length-append}
use Rattle.std.proofs.lemmas.List.{append-nil, length-map, map-append}
use Rattle.gr_base.specs.Lists.{Each, IsBefore}
use Rattle.td_tree.specs.declared.Tree.{Tree}
use Rattle.td_canon.specs.Spelling.{Lacks}
use Rattle.td_canon.specs.TreeSets.{Entry, texts_of}
use Rattle.tg_reader.specs.Writable.{IsTable, IsTreeText}
use Rattle.tg_text.specs.GrammarText.{tree_line, tree_lines}
use Rattle.tg_text.specs.Lines.{inside}
use Rattle.tg_text.specs.Reading.{AreReadTrees, HasTrees, IsBadLine}
use Rattle.tg_text.proofs.Stopping.{bad_in_class, tree_breaks}
use Rattle.tg_text.proofs.TreeBytes.{tree_text_line}

-- an error that was handed on is the one that came
pub same_error : {A E : Type 0} (G : E → Type 0) (r : Result A E) (e : E) → ((x : E) → G x → x ≡ e) → IsErr r × IsErrAnd r G → r ≡ Err e
same_error G (Ok a) e is h = absurd h.1
same_error G (Err x) e is h = ap Err (is x h.1)

-- one line more
lines_push : (n : ℕ) (ts : List (List ℕ)) (t : List ℕ) → tree_lines n (ts ++ t ∷ []) ≡ tree_lines n ts ++ tree_line (n + length ts) t
lines_push n [] t = append-nil (tree_line n t) ∙ ap (λ k. tree_line k t) (omega arith)
lines_push n (u ∷ ts) t =
    ap (λ z. tree_line n u ++ z) (lines_push (suc n) ts t ∙ ap (λ k. tree_lines (suc n) ts ++ tree_line k t) (omega arith)) ∙ sym (append_assoc (tree_line n u) (tree_lines (suc n) ts) (tree_line (n + suc (length ts)) t))

pub texts_count : (set : List Entry) → length (texts_of set) ≡ length set
texts_count set = length-map set (λ (e : Entry). e.text)

pub split_more : (set new : List Entry) (t : Tree) (text rest tree more : List ℕ) (n : ℕ) → n ≡ length set → text ≡ tree_lines 1 (texts_of set) ++ rest → rest ≡ tree_line (n + 1) tree ++ more
    → new ≡ set ++ record { tree = t; text = tree } ∷ [] → text ≡ tree_lines 1 (texts_of new) ++ more
split_more set new t text rest tree more n len split here last =
    let e : Entry = record { tree = t; text = tree } in
    let count : n + 1 ≡ 1 + length (texts_of set) = omega (arith, len, texts_count set) in
    let texts : texts_of new ≡ texts_of set ++ tree ∷ [] = ap texts_of last ∙ map-append (λ (x : Entry). x.text) set (e ∷ []) in
    split ∙ ap (λ z. tree_lines 1 (texts_of set) ++ z) (here ∙ ap (λ k. tree_line k tree ++ more) count) ∙ sym (append_assoc (tree_lines 1 (texts_of set)) (tree_line (1 + length (texts_of set)) tree) more)
    ∙ ap (λ z. z ++ more) (sym (ap (tree_lines 1) texts ∙ lines_push 1 (texts_of set) tree))

pub tree_line_long : (n : ℕ) (rest tree more : List ℕ) → rest ≡ tree_line n tree ++ more → length tree + length more < length rest
tree_line_long n rest tree more e =
    let a = ap length e ∙ length-append (tree_line n tree) more in
    let b = length-append (((codes "tree " ++ decimal n) ++ codes " ") ++ tree) (10 ∷ []) in
    let d = length-append ((codes "tree " ++ decimal n) ++ codes " ") tree in
    omega (arith, a, b, d)

-- what stops the reading
pub tree_is_bad : (texts names : List (List ℕ)) (old : List Entry) (text rest tree more : List ℕ) (n : ℕ) → IsTable texts → AreReadTrees texts old → text ≡ tree_lines 1 (texts_of old) ++ rest → n ≡ length old
    → Lacks 10 tree → rest ≡ tree_line (n + 1) tree ++ more → (IsTreeText tree → Each (λ u. IsBefore u tree) (texts_of old) → ⊥) → IsBadLine (inside names []) text rest
tree_is_bad texts names old text rest tree more n table read split len lacks here wrong =
    let count : length old ≡ length (texts_of old) = sym (texts_count old) in
    bad_in_class texts names old text rest table read split
    (tree_breaks names (texts_of old) (length old) tree more rest count lacks (here ∙ ap (λ k. tree_line k tree ++ more) (omega (arith, len))) wrong)

-- no more trees
pub trees_ended : (texts : List (List ℕ)) (set : List Entry) (text rest : List ℕ) (n : ℕ) → n ≡ length set → AreReadTrees texts set → text ≡ tree_lines 1 (texts_of set) ++ rest
    → ((t more : List ℕ) → Lacks 10 t → rest ≡ tree_line (n + 1) t ++ more → ⊥) → HasTrees texts set text rest
trees_ended texts set text rest n len read split none = record {
  read = read;
  split = split;
  last = λ t more is above e. none t more (tree_text_line t is) (e ∙ ap (λ k. tree_line k t ++ more) (omega (arith, len, texts_count set)));
}
