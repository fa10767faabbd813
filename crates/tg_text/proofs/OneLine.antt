-- Which line stands where is determined by the bytes.
use Rattle.std.proofs.lemmas.List.{append_cancel_left}
use Rattle.std.specs.Prelude.{◌≡◌, ◌≢◌, ℕ, suc, ◌+◌, ◌-◌, Bool, true, false, cond, ◌==◌, List, [], ◌∷◌, ◌++◌, length, take, codes, refl}
use Rattle.std.specs.Fmt.{decimal}
use Rattle.std.specs.List.{count_by}
use Rattle.std.proofs.Common.{ap, sym, ◌∙◌, subst, arith, append_assoc, length-append}
use Rattle.std.proofs.Math.Seq.{take-append_seam}
use Rattle.std.proofs.lemmas.Bool.Decides.{Decides-eqb}
use Rattle.std.proofs.lemmas.List.Sums.{sum_by-append}
use Rattle.gr_base.specs.Lists.{joined}
use Rattle.gr_base.proofs.ListLemmas.{Each-append}
use Rattle.gr_text.specs.Places.{is_line_feed, line_after}
use Rattle.td_canon.specs.Spelling.{Lacks}
use Rattle.tg_text.specs.Answers.{BreaksOff, IsFirstBadLine}
use Rattle.tg_text.specs.GrammarText.{closing_word, ended}
use Rattle.tg_text.specs.Lines.{Follows, Leads, Standing, a_class, a_count, a_line, a_tree, a_version, an_end, begins, inside, no_line, over}
use Rattle.tg_text.specs.Reading.{IsBadLine}
use Rattle.tg_text.proofs.FrontLemmas.{lines_apart, tree_parts, word_line}
use Rattle.tg_text.proofs.Stopping.{class_name_apart, no_closing, no_end}
use Rattle.tg_text.proofs.TreeBytes.{fine_decimal, fine_lacks, plain_lacks, tree_text_line}

lacks_append : (xs ys : List ℕ) → Lacks 10 xs → Lacks 10 ys → Lacks 10 (xs ++ ys)
lacks_append xs ys h k = Each-append (λ b. b ≡ 10 → ⊥) xs ys h k

-- each line is a text in one line, and its end
pub record IsLine (line : List ℕ) : Type 0 where
  pub text : List ℕ
  pub lacks : Lacks 10 text
  pub is : line ≡ ended text

pub follows_line : (s after : Standing) (line : List ℕ) → Follows s line after → IsLine line
follows_line _ _ _ a_version = record { text = codes "grammar 1"; lacks = plain_lacks (codes "grammar 1") refl; is = refl }
follows_line _ _ _ (a_class names name word new) = record {
  text = codes "class " ++ name;
  lacks = lacks_append (codes "class ") name (plain_lacks (codes "class ") refl) (word_line name word);
  is = refl;
}
follows_line _ _ _ (a_tree names trees t is above) = record {
  text = ((codes "tree " ++ decimal (suc (length trees))) ++ codes " ") ++ t;
  lacks =
      lacks_append ((codes "tree " ++ decimal (suc (length trees))) ++ codes " ") t
      (lacks_append (codes "tree " ++ decimal (suc (length trees))) (codes " ")
      (lacks_append (codes "tree ") (decimal (suc (length trees))) (plain_lacks (codes "tree ") refl) (fine_lacks (decimal (suc (length trees))) (fine_decimal (suc (length trees)))))
      (plain_lacks (codes " ") refl))
      (tree_text_line t is);
  is = refl;
}
follows_line _ _ _ (a_count names trees cut) = record {
  text = closing_word cut ++ decimal (length trees);
  lacks = lacks_append (closing_word cut) (decimal (length trees)) (word cut) (fine_lacks (decimal (length trees)) (fine_decimal (length trees)));
  is = refl;
}
  where
    word : (b : Bool) → Lacks 10 (closing_word b)
    word true = plain_lacks (codes "cut ") refl
    word false = plain_lacks (codes "trees ") refl
follows_line _ _ _ (an_end names) = record { text = codes "end"; lacks = plain_lacks (codes "end") refl; is = refl }

-- ---- how many lines there are

count_append : (xs ys : List ℕ) → count_by is_line_feed (xs ++ ys) ≡ count_by is_line_feed xs + count_by is_line_feed ys
count_append xs ys = sum_by-append (λ x. cond (is_line_feed x) 1 0) xs ys

count_none : (xs : List ℕ) → Lacks 10 xs → count_by is_line_feed xs ≡ 0
count_none [] h = refl
count_none (x ∷ xs) h = by (x == 10) refl (count_none xs h.1)
  where
    by : (b : Bool) → (x == 10) ≡ b → count_by is_line_feed xs ≡ 0 → count_by is_line_feed (x ∷ xs) ≡ 0
    by true e rest = absurd (h.0 ((Decides-eqb x 10).0 e))
    by false e rest =
        let a = count_append (x ∷ []) xs in
        let b : 0 + cond (x == 10) 1 0 ≡ 0 = ap (λ d. 0 + cond d 1 0) e in
        omega (arith, a, b, rest)

count_line : (line : List ℕ) → IsLine line → count_by is_line_feed line ≡ 1
count_line line h = ap (count_by is_line_feed) h.is ∙ count_append h.text (10 ∷ []) ∙ ap (λ n. n + count_by is_line_feed (10 ∷ [])) (count_none h.text h.lacks)

pub count_lines : (s t : Standing) (lines : List (List ℕ)) → Leads s lines t → count_by is_line_feed (joined lines) ≡ length lines
count_lines s t _ no_line = refl
count_lines s t _ (a_line {mid = mid} {line = line} {lines = lines} f h) =
    let a = count_append line (joined lines) in
    let b = count_line line (follows_line s mid line f) in
    let d = count_lines mid t lines h in
    omega (arith, a, b, d)

-- the number of the first bad line
pub bad_number : (text rest : List ℕ) (left number : ℕ) → IsBadLine begins text rest → left ≡ length rest → number ≡ line_after (take (length text - left) text) → IsFirstBadLine text number
unfolding line_after
bad_number text rest left number bad e f =
    let front = joined bad.before in
    let long = ap length bad.split ∙ length-append front rest in
    let n : length text - left ≡ length front = omega (arith, long, e) in
    let taken : take (length text - left) text ≡ front = ap (λ k. take k text) n ∙ ap (λ z. take (length front) z) bad.split ∙ take-append_seam front rest in
    record {
      before = bad.before;
      standing = bad.standing;
      leads = bad.leads;
      rest = rest;
      split = bad.split;
      unfinished = bad.unfinished;
      here = bad.here;
      counted = let m = count_lines begins bad.standing bad.before bad.leads in f ∙ ap (λ z. 1 + count_by is_line_feed z) taken ∙ omega (arith, m);
    }

-- ---- one line

same_after : (s after after' : Standing) (line line' : List ℕ) → Follows s line after → Follows s line' after' → line ≡ line' → after ≡ after'
same_after _ _ _ _ _ a_version a_version e = refl
same_after _ _ _ _ _ (a_class names a word new) (a_class _ b word' new') e =
    let same : a ≡ b = class_name_apart a b [] [] word word' (ap (λ z. z ++ []) e) in ap (λ z. inside (names ++ z ∷ []) []) same
same_after _ _ _ _ _ (a_class names a word new) (an_end _) e = absurd (no_end a [] [] (ap (λ z. z ++ []) e))
same_after _ _ _ _ _ (an_end names) (a_class _ a word new) e = absurd (no_end a [] [] (ap (λ z. z ++ []) (sym e)))
same_after _ _ _ _ _ (an_end names) (an_end _) e = refl
same_after _ _ _ _ _ (a_tree names trees t is above) (a_tree _ _ u is' above') e =
    let n = suc (length trees) in
    let parts = append_cancel_left (codes " ") _ _ (append_cancel_left (decimal n) _ _ (append_cancel_left (codes "tree ") _ _ (sym (tree_parts n t []) ∙ ap (λ z. z ++ []) e ∙ tree_parts n u []))) in
    ap (λ z. inside names (trees ++ z ∷ [])) (lines_apart t u [] [] (tree_text_line t is) (tree_text_line u is') parts).0
same_after _ _ _ _ _ (a_tree names trees t is above) (a_count _ _ cut) e = absurd (no_closing (suc (length trees)) t [] cut (decimal (length trees)) [] (ap (λ z. z ++ []) e))
same_after _ _ _ _ _ (a_count names trees cut) (a_tree _ _ t is above) e = absurd (no_closing (suc (length trees)) t [] cut (decimal (length trees)) [] (ap (λ z. z ++ []) (sym e)))
same_after _ _ _ _ _ (a_count names trees cut) (a_count _ _ cut') e = refl

-- two lines that may stand at one place of one text are one, and lead on alike
pub record SameLine (line line' more more' : List ℕ) (after after' : Standing) : Type 0 where
  pub here : line ≡ line'
  pub behind : more ≡ more'
  pub on : after ≡ after'

pub one_line : (s after after' : Standing) (line line' more more' : List ℕ) → Follows s line after → Follows s line' after' → line ++ more ≡ line' ++ more' → SameLine line line' more more' after after'
one_line s after after' line line' more more' f g e =
    let a = follows_line s after line f in
    let b = follows_line s after' line' g in
    let both = lines_apart a.text b.text more more' a.lacks b.lacks (ap (λ z. z ++ more) (sym a.is) ∙ e ∙ ap (λ z. z ++ more') b.is) in
    let same : line ≡ line' = a.is ∙ ap ended both.0 ∙ sym b.is in
    record { here = same; behind = both.1; on = same_after s after after' line line' f g same }

-- ---- lines that lead to the end, and a first bad line

no_bad_line : (s t : Standing) (lines before : List (List ℕ)) (rest : List ℕ) → Leads s lines over → Leads s before t → joined lines ≡ joined before ++ rest → (t ≡ over → rest ≢ []) → BreaksOff t rest → ⊥
no_bad_line s t _ _ rest no_line no_line e unfinished here = unfinished refl (sym e)
no_bad_line s t _ _ rest no_line (a_line f h) e unfinished here = elim f [ ]
no_bad_line s t _ _ rest (a_line {mid = mid} {line = line} {lines = lines} f h) no_line e unfinished here = here line (joined lines) mid (sym e) f
no_bad_line s t _ _ rest (a_line {mid = mid} {line = line} {lines = lines} f h) (a_line {mid = mid'} {line = line'} {lines = before} g k) e unfinished here =
    let same = one_line s mid mid' line line' (joined lines) (joined before ++ rest) f g (e ∙ append_assoc line' (joined before) rest) in
    no_bad_line mid' t lines before rest (subst (λ z. Leads z lines over) same.on h) k same.behind unfinished here

pub no_bad : (bytes : List ℕ) (lines : List (List ℕ)) (number : ℕ) → Leads begins lines over → joined lines ≡ bytes → IsFirstBadLine bytes number → ⊥
no_bad bytes lines number leads e bad = no_bad_line begins bad.standing lines bad.before bad.rest leads bad.leads (e ∙ bad.split) bad.unfinished bad.here

same_count : (s t u : Standing) (xs ys : List (List ℕ)) (r q : List ℕ) → Leads s xs t → Leads s ys u → joined xs ++ r ≡ joined ys ++ q → BreaksOff t r → BreaksOff u q → length xs ≡ length ys
same_count s t u _ _ r q no_line no_line e a b = refl
same_count s t u _ _ r q no_line (a_line {mid = mid} {line = line} {lines = ys} f h) e a b = absurd (a line (joined ys ++ q) mid (e ∙ append_assoc line (joined ys) q) f)
same_count s t u _ _ r q (a_line {mid = mid} {line = line} {lines = xs} f h) no_line e a b = absurd (b line (joined xs ++ r) mid (sym e ∙ append_assoc line (joined xs) r) f)
same_count s t u _ _ r q (a_line {mid = mid} {line = line} {lines = xs} f h) (a_line {mid = mid'} {line = line'} {lines = ys} g k) e a b =
    let same = one_line s mid mid' line line' (joined xs ++ r) (joined ys ++ q) f g (sym (append_assoc line (joined xs) r) ∙ e ∙ append_assoc line' (joined ys) q) in
    ap suc (same_count mid' t u xs ys r q (subst (λ z. Leads z xs t) same.on h) k same.behind a b)

pub one_bad : (bytes : List ℕ) (m n : ℕ) → IsFirstBadLine bytes m → IsFirstBadLine bytes n → m ≡ n
one_bad bytes m n a b =
    let same : length a.before ≡ length b.before = same_count begins a.standing b.standing a.before b.before a.rest b.rest a.leads b.leads (sym a.split ∙ b.split) a.here b.here in
    a.counted ∙ ap suc same ∙ sym b.counted
