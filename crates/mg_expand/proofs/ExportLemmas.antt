-- Each name of a list once, by first place.
use Rattle.std.specs.Prelude.{◌≡◌, List, [], ◌∷◌, ◌++◌, Bool, true, false, ◌==◌, if◌then◌else◌, not, refl, map, ◌||◌}
use Rattle.std.specs.List.{filter, list_any}
use Rattle.std.proofs.Common.{inl, inr, ap, sym, ◌∙◌, subst, ℕ, ◌+◌, ◌<◌, length, take, get_or}
use Rattle.std.proofs.lemmas.List.{take_more}
use Rattle.gr_base.proofs.ListLemmas.{IsAmong-one_more}
use Rattle.gr_base.specs.Lists.{IsAmong}
use Rattle.gr_base.proofs.Booleans.{not_not, or_true}
use Rattle.gr_terms.specs.declared.Sym.{Sym}
use Rattle.gr_terms.proofs.ViewLemmas.{same_sym}
use Rattle.mg_scope.specs.Classes.{firsts}
use Rattle.mg_scope.proofs.TableLemmas.{Compared, same_name, other_name, compared, same_number, other_number}
use Rattle.mg_scope.proofs.FirstLemmas.{firsts_new, firsts_known}

IsAmong-filter : (p : Sym → Bool) (xs : List Sym) (x : Sym) → IsAmong xs x → p x ≡ true → IsAmong (filter p xs) x
IsAmong-filter p [] x i h = absurd i
IsAmong-filter p (y ∷ ys) x i h = by (p y) refl i (λ j. IsAmong-filter p ys x j h)
  where
    at_head : (t : Bool) → p y ≡ t → x ≡ y → t ≡ true
    at_head t e q = sym e ∙ ap p (sym q) ∙ h

    never : false ≡ true → ⊥
    never r = cc

    by : (t : Bool) → p y ≡ t → IsAmong (y ∷ ys) x → (IsAmong ys x → IsAmong (filter p ys) x) → IsAmong (if t then y ∷ filter p ys else filter p ys) x
    by true e (inl q) more = inl q
    by true e (inr j) more = inr (more j)
    by false e (inl q) more = absurd (never (at_head false e q))
    by false e (inr j) more = more j

IsAmong-filter_from : (p : Sym → Bool) (xs : List Sym) (x : Sym) → IsAmong (filter p xs) x → IsAmong xs x
IsAmong-filter_from p [] x i = i
IsAmong-filter_from p (y ∷ ys) x i = by (p y) i (IsAmong-filter_from p ys x)
  where
    by : (t : Bool) → IsAmong (if t then y ∷ filter p ys else filter p ys) x → (IsAmong (filter p ys) x → IsAmong ys x) → IsAmong (y ∷ ys) x
    by true (inl q) more = inl q
    by true (inr j) more = inr (more j)
    by false j more = inr (more j)

IsAmong-firsts : (xs : List Sym) (x : Sym) → IsAmong xs x → IsAmong (firsts xs) x
IsAmong-firsts [] x i = i
IsAmong-firsts (y ∷ ys) x i = by (compared x y) i (IsAmong-firsts ys x)
  where
    by : Compared x y → IsAmong (y ∷ ys) x → (IsAmong ys x → IsAmong (firsts ys) x) → IsAmong (firsts (y ∷ ys)) x
    by (same_name e) j more = inl e
    by (other_name o) (inl e) more = absurd (o e)
    by (other_name o) (inr j) more =
        inr (IsAmong-filter (λ (z : Sym). not (z.0 == y.0)) (firsts ys) x (more j) (ap not (other_number x.0 y.0 (λ e. o (same_sym x y e)))))

IsAmong-firsts_from : (xs : List Sym) (x : Sym) → IsAmong (firsts xs) x → IsAmong xs x
IsAmong-firsts_from [] x i = i
IsAmong-firsts_from (y ∷ ys) x (inl e) = inl e
IsAmong-firsts_from (y ∷ ys) x (inr j) = inr (IsAmong-firsts_from ys x (IsAmong-filter_from (λ (z : Sym). not (z.0 == y.0)) (firsts ys) x j))

-- one more name
pub firsts_again : (names seen : List Sym) (x : Sym) → IsAmong names x → names ≡ firsts seen → names ≡ firsts (seen ++ x ∷ [])
firsts_again names seen x i e = e ∙ sym (firsts_known seen x (IsAmong-firsts_from seen x (subst (λ z. IsAmong z x) e i)))

pub firsts_more : (names more seen : List Sym) (x : Sym) → (IsAmong names x → ⊥) → more ≡ names ++ x ∷ [] → names ≡ firsts seen → more ≡ firsts (seen ++ x ∷ [])
firsts_more names more seen x new push e =
    push ∙ ap (λ z. z ++ x ∷ []) e ∙ sym (firsts_new seen x (λ i. new (subst (λ z. IsAmong z x) (sym e) (IsAmong-firsts seen x i))))

-- where the first names don't have x, and the next one isn't x, those and the next don't have it
pub not_among_more : (xs : List Sym) (i : ℕ) (d x : Sym) → i < length xs → (IsAmong (take i xs) x → ⊥) → ((get_or xs i d).0 ≡ x.0 → ⊥) → IsAmong (take (i + 1) xs) x → ⊥
not_among_more xs i d x within none other among =
    elim (IsAmong-one_more (take i xs) (get_or xs i d) x (subst (λ z. IsAmong z x) (take_more xs i d within) among)) [ inl p ↦ none p | inr e ↦ other (ap (λ (s : Sym). s.0) (sym e)) ]

-- the numbers of the names
abbrev number : Sym → ℕ
number s = s.0

abbrev has_number : List ℕ → ℕ → Bool
has_number keys n = list_any (λ b. n == b) keys

has_number-among : (names : List Sym) (x : Sym) → IsAmong names x → has_number (map number names) x.0 ≡ true
has_number-among [] x i = absurd i
has_number-among (y ∷ ys) x (inl e) = ap (λ b. b || has_number (map number ys) x.0) (same_number x.0 y.0 (ap number e))
has_number-among (y ∷ ys) x (inr j) = ap (λ b. (x.0 == y.0) || b) (has_number-among ys x j) ∙ or_true (x.0 == y.0)

IsAmong-numbered : (names : List Sym) (x : Sym) → has_number (map number names) x.0 ≡ true → IsAmong names x
IsAmong-numbered [] x e = absurd (never e)
  where
    never : false ≡ true → ⊥
    never r = cc
IsAmong-numbered (y ∷ ys) x e = by (compared x y) (IsAmong-numbered ys x)
  where
    by : Compared x y → (has_number (map number ys) x.0 ≡ true → IsAmong ys x) → IsAmong (y ∷ ys) x
    by (same_name q) more = inl q
    by (other_name o) more = inr (more (sym (ap (λ b. b || has_number (map number ys) x.0) (other_number x.0 y.0 (λ q. o (same_sym x y q)))) ∙ e))

-- a number among those met is that of a name, and another one isn't
met_of : (names : List Sym) (x : Sym) {keys : List ℕ} {new : Bool} → keys ≡ map number names → new ≡ not (has_number keys x.0) → has_number (map number names) x.0 ≡ not new
met_of names x {keys} k e = sym (ap (λ z. has_number z x.0) k) ∙ (sym (not_not (has_number keys x.0)) ∙ ap not (sym e))

pub is_met : (names : List Sym) (x : Sym) {keys : List ℕ} {new : Bool} → keys ≡ map number names → new ≡ not (has_number keys x.0) → new ≡ false → IsAmong names x
is_met names x k e f = IsAmong-numbered names x (met_of names x k e ∙ ap not f)

pub is_unmet : (names : List Sym) (x : Sym) {keys : List ℕ} {new : Bool} → keys ≡ map number names → new ≡ not (has_number keys x.0) → new ≡ true → IsAmong names x → ⊥
is_unmet names x k e t i = never (sym (has_number-among names x i) ∙ (met_of names x k e ∙ ap not t))
  where
    never : true ≡ false → ⊥
    never r = cc
