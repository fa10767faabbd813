-- What the words that are left ask, one word at a time.
use Rattle.std.proofs.Common.{arith, codes, false, ◌-◌, take, ◌<◌, ◌≤◌, length, get_or, drop, ◌≡◌, refl, sym, ap, subst, ℕ, List, [], ◌∷◌, Option, Some, None, MatchOption, inl, inr, ◌↔◌}
use Rattle.std.proofs.lemmas.List.{take_all}
use Rattle.gr_base.proofs.ListLemmas.{same_head, same_tail}
use Rattle.std.specs.Option.{unwrap_or, is_some}
use Rattle.std.specs.Str.Parse.{digits_value}
use Rattle.rl_words.specs.Requests.{IsFileWord, models_word, Splits, nothing, a_file, an_option, IsBudget, IsModelsBudget, AsksCompile}
use Rattle.rl_words.specs.Reading.{IsTheFile, IsTheBudget, AsksBehind}

-- what is asked with one way to say it is asked with the other
pub carry : {A : Type 0} (P Q : List ℕ → ℕ → Type 0) → ((f : List ℕ) (n : ℕ) → P f n ↔ Q f n) → (file : A → List ℕ) (models : A → ℕ) (r : Option A)
    → MatchOption r ((f : List ℕ) (n : ℕ) → P f n → ⊥) (λ x. P (file x) (models x)) → MatchOption r ((f : List ℕ) (n : ℕ) → Q f n → ⊥) (λ x. Q (file x) (models x))
carry P Q same file models None none = λ f n q. none f n ((same f n).1 q)
carry P Q same file models (Some x) p = (same (file x) (models x)).0 p

the_budget_left : (m : Option ℕ) → IsTheBudget m [] (unwrap_or m 20000)
the_budget_left None = inl (refl, refl)
the_budget_left (Some n) = (refl, refl)

-- with no word left the file and the budget that were found are asked
pub end_asks : (f : List ℕ) (m : Option ℕ) → AsksBehind (Some f) m [] f (unwrap_or m 20000)
end_asks f m = record { files = []; options = []; split = nothing; the_file = (refl, refl); the_budget = the_budget_left m }

pub no_option_file : (w : List ℕ) → w ≡ models_word → IsFileWord w → ⊥
no_option_file w e is = (subst IsFileWord e is) refl

one_option : (w v : List ℕ) (options : List (List ℕ × List ℕ)) → w ≡ models_word → options ≡ [] → (w, v) ∷ options ≡ (models_word, v) ∷ []
one_option w v options e none = cc

the_same_budget : (w v v' : List ℕ) (options : List (List ℕ × List ℕ)) (k n : ℕ) → (w, v) ∷ options ≡ (models_word, v') ∷ [] → IsBudget v k → IsBudget v' n
    → (options ≡ []) × (n ≡ k)
the_same_budget w v v' options k n e a b =
    let same = ap (λ p. p.1) (same_head (w, v) (models_word, v') options [] e) in
    let spelled = ap (digits_value 10) same in
    let n-is = b.value in
    let k-is = a.value in
    (same_tail (w, v) (models_word, v') options [] e, cc)

budget_behind : (w v : List ℕ) (options : List (List ℕ × List ℕ)) (k n : ℕ) → IsBudget v k → IsModelsBudget ((w, v) ∷ options) n → IsTheBudget (Some k) options n
budget_behind w v options k n budget (inl (e, n-is)) = absurd cc
budget_behind w v options k n budget (inr (v', e, b)) = the_same_budget w v v' options k n e budget b

module _ (found : Option (List ℕ)) where
  option_there : (w v : List ℕ) (ws : List (List ℕ)) (k : ℕ) → w ≡ models_word → IsBudget v k → (f : List ℕ) (n : ℕ)
      → AsksBehind found (Some k) ws f n → AsksBehind found None (w ∷ v ∷ ws) f n
  option_there w v ws k e budget f n a = record {
    files = a.files;
    options = (w, v) ∷ a.options;
    split = an_option w v e a.split;
    the_file = a.the_file;
    the_budget = inr (v, one_option w v a.options e a.the_budget.0, subst (IsBudget v) (sym a.the_budget.1) budget);
  }

  option_in : (w v : List ℕ) (ws files : List (List ℕ)) (options : List (List ℕ × List ℕ)) (k : ℕ) → w ≡ models_word → IsBudget v k → (f : List ℕ) (n : ℕ)
      → Splits (w ∷ v ∷ ws) files options → IsTheFile found files f → IsModelsBudget options n → AsksBehind found (Some k) ws f n
  option_in w v ws _ options k e budget f n (a_file _ is split) file asked = absurd (no_option_file w e is)
  option_in w v ws files _ k e budget f n (an_option _ _ {options = os} e' split) file asked = record {
    files = files;
    options = os;
    split = split;
    the_file = file;
    the_budget = budget_behind w v os k n budget asked;
  }

  -- an option and its value are taken
  pub option_taken : (w v : List ℕ) (ws : List (List ℕ)) (k : ℕ) → w ≡ models_word → IsBudget v k → (f : List ℕ) (n : ℕ)
      → AsksBehind found (Some k) ws f n ↔ AsksBehind found None (w ∷ v ∷ ws) f n
  option_taken w v ws k e budget f n =
      (option_there w v ws k e budget f n, λ a. option_in w v ws a.files a.options k e budget f n a.split a.the_file a.the_budget)

one_file : (w f : List ℕ) (files : List (List ℕ)) → files ≡ [] → f ≡ w → w ∷ files ≡ f ∷ []
one_file w f files none e = cc

file_there : (w : List ℕ) (ws : List (List ℕ)) (m : Option ℕ) → IsFileWord w → (f : List ℕ) (n : ℕ) → AsksBehind (Some w) m ws f n → AsksBehind None m (w ∷ ws) f n
file_there w ws m is f n a = record {
  files = w ∷ a.files;
  options = a.options;
  split = a_file w is a.split;
  the_file = one_file w f a.files a.the_file.0 a.the_file.1;
  the_budget = a.the_budget;
}

file_in : (w : List ℕ) (ws files : List (List ℕ)) (options : List (List ℕ × List ℕ)) (m : Option ℕ) → (w ≡ models_word → ⊥) → (f : List ℕ) (n : ℕ)
    → Splits (w ∷ ws) files options → files ≡ f ∷ [] → IsTheBudget m options n → AsksBehind (Some w) m ws f n
file_in w ws _ options m other f n (a_file _ {files = fs} is split) file asked = record {
  files = fs;
  options = options;
  split = split;
  the_file = (same_tail w f fs [] file, sym (same_head w f fs [] file));
  the_budget = asked;
}
file_in w _ files _ m other f n (an_option _ v e split) file asked = absurd (other e)

-- a file is taken
pub file_taken : (w : List ℕ) (ws : List (List ℕ)) (m : Option ℕ) → (w ≡ models_word → ⊥) → IsFileWord w → (f : List ℕ) (n : ℕ)
    → AsksBehind (Some w) m ws f n ↔ AsksBehind None m (w ∷ ws) f n
file_taken w ws m other is f n = (file_there w ws m is f n, λ a. file_in w ws a.files a.options m other f n a.split a.the_file a.the_budget)

pub nothing_left : (xs : List (List ℕ)) → length xs < 1 → xs ≡ []
nothing_left [] h = refl
nothing_left (x ∷ xs) h = absurd (omega (arith, h))

pub one_left : (xs : List (List ℕ)) (a : List ℕ) → 1 ≤ length xs → a ≡ get_or xs 0 a → xs ≡ a ∷ take (length xs - 1) (drop 1 xs)
one_left [] a h p = absurd (omega (arith, h))
one_left (x ∷ xs) a h p = λ i. sym p i ∷ sym (take_all (length (x ∷ xs) - 1) xs (omega arith)) i

pub nothing_found : {A : Type 0} (o : Option A) → is_some o ≡ false → o ≡ None
nothing_found None e = refl
nothing_found (Some x) e = cc

one_file_left : (rest files : List (List ℕ)) (options : List (List ℕ × List ℕ)) (f : List ℕ) → files ≡ f ∷ [] → Splits rest files options → Splits rest (f ∷ []) options
one_file_left rest files options f e split = subst (λ fs. Splits rest fs options) e split

-- the words behind the command
pub command_taken : (w : List ℕ) (rest : List (List ℕ)) → w ≡ codes "compile" → (f : List ℕ) (n : ℕ) → AsksBehind None None rest f n ↔ AsksCompile (w ∷ rest) f n
command_taken w rest e f n = (
  λ a. record { rest = rest; options = a.options; command = ap (λ x. x ∷ rest) e; split = one_file_left rest a.files a.options f a.the_file a.split; budget = a.the_budget },
  λ a. record {
    files = f ∷ [];
    options = a.options;
    split = subst (λ ws. Splits ws (f ∷ []) a.options) (sym (same_tail w (codes "compile") rest a.rest a.command)) a.split;
    the_file = refl;
    the_budget = a.budget;
  },
)
