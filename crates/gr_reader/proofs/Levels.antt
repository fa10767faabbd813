-- Where a grammar never opens a bracket too deep, the limit says nothing.
use Rattle.std.proofs.Common.{◌≡◌, ℕ, List, [], ◌∷◌, ◌++◌, Option, Some, None, Bool, true, false, inl, inr, refl, ap, sym, ◌∙◌, subst, append_assoc, append-nil}
use Rattle.std.specs.Prelude.{◌==◌, ◌||◌, ◌&&◌, if◌then◌else◌}
use Rattle.std.proofs.lemmas.Bool.{eqb-true}
use Rattle.std.proofs.lemmas.Option.{none-some, same_Some}
use Rattle.gr_grammar.specs.declared.brackets.Turn.TheVariants.{Neither}
use Rattle.gr_grammar.specs.Grammars.{Grammar, Info, Matches, a_token, no_token, both, the_left, the_right, no_more, one_more, by_part, IsText, GoesOn, IsStuck, IsFault}
use Rattle.gr_grammar.specs.Depths.{depth, HasRoom, IsShallow, IsStuckShallow, IsShallowFault, has_room, some_if, next_depth}
use Rattle.gr_grammar.proofs.Fronts.{and_left, and_right, or_cases}
use Rattle.gr_grammar.proofs.Deep.{shallow_front}
use Rattle.gr_grammar.proofs.Cuts.{is_room}
use Rattle.gr_reader.specs.Lexemes.{Lexeme}
use Rattle.gr_reader.specs.Classes.{Class, sign, keyword, any_word, word_but, word_among, any_string, any_name, variable, is_one_of, kind_number, test, system_of}
use Rattle.gr_reader.specs.Brackets.{turn, turn_by, opening, closing}
use Rattle.gr_reader.specs.Levels.{class_turn, agreed, level_behind}
use Rattle.gr_reader.proofs.Systems.{same_bytes}

-- a lexeme of a class turns as the class says
not_sign : (k n : ℕ) (a b : Bool) → (k == n) ≡ true → (n == 3) ≡ false → turn_by ((k == 3) && a) ((k == 3) && b) ≡ Neither
not_sign k n a b h e = let same : (k == 3) ≡ false = ap (λ z. z == 3) (eqb-true k n h) ∙ e in λ i. turn_by (same i && a) (same i && b)

no_bracket : (t : Lexeme) (n : ℕ) (b : Bool) → ((kind_number t.kind == n) && b) ≡ true → (n == 3) ≡ false → turn t ≡ Neither
no_bracket t n b h e = not_sign (kind_number t.kind) n (is_one_of opening t.text) (is_one_of closing t.text) (and_left (kind_number t.kind == n) b h) e

turn_of : (c : Class) (t : Lexeme) → test c t ≡ true → turn t ≡ class_turn c
turn_of (sign s) t h =
    let k : kind_number t.kind ≡ 3 = eqb-true (kind_number t.kind) 3 (and_left (kind_number t.kind == 3) _ h) in
    let e : s ≡ t.text = same_bytes s t.text (and_right (kind_number t.kind == 3) _ h) in
    (λ i. turn_by ((k i == 3) && is_one_of opening (sym e i)) ((k i == 3) && is_one_of closing (sym e i)))
turn_of (keyword w) t h = no_bracket t 0 _ h refl
turn_of any_word t h = no_bracket t 0 _ h refl
turn_of (word_but ws) t h = no_bracket t 0 _ h refl
turn_of (word_among w ws) t h = no_bracket t 0 _ h refl
turn_of any_string t h = no_bracket t 1 _ h refl
turn_of any_name t h = elim (or_cases (kind_number t.kind == 0) (kind_number t.kind == 1) (and_left ((kind_number t.kind == 0) || (kind_number t.kind == 1)) true h)) [
  | inl e ↦ not_sign (kind_number t.kind) 0 (is_one_of opening t.text) (is_one_of closing t.text) e refl
  | inr e ↦ not_sign (kind_number t.kind) 1 (is_one_of opening t.text) (is_one_of closing t.text) e refl
]
turn_of variable t h = no_bracket t 2 _ h refl

-- what the computed level says
agreed_by : (b : Bool) (x y m : ℕ) → (x == y) ≡ b → (if b then Some x else None) ≡ Some m → (Some x ≡ Some m) × (Some y ≡ Some m)
agreed_by true x y m e h = (h, ap Some (sym (eqb-true x y e)) ∙ h)
agreed_by false x y m e h = absurd (none-some m h)

agreed_is : (x y : Option ℕ) (m : ℕ) → agreed x y ≡ Some m → (x ≡ Some m) × (y ≡ Some m)
agreed_is None y m h = absurd (none-some m h)
agreed_is (Some x) None m h = absurd (none-some m h)
agreed_is (Some x) (Some y) m h = agreed_by (x == y) x y m refl h

some_is : (b : Bool) (n m : ℕ) → some_if b n ≡ Some m → (b ≡ true) × (n ≡ m)
some_is true n m h = (refl, same_Some n m h)
some_is false n m h = absurd (none-some m h)

seq_by : (limit m : ℕ) (h : Grammar Class) (x : Option ℕ) → elim x [ None ↦ None | Some k ↦ level_behind limit k h ] ≡ Some m → (k : ℕ) × (x ≡ Some k) × (level_behind limit k h ≡ Some m)
seq_by limit m h None e = absurd (none-some m e)
seq_by limit m h (Some k) e = (k, refl, e)

-- how many brackets are open behind some lexemes
abbrev level_after : ℕ → List Lexeme → ℕ
level_after n [] = n
level_after n (t ∷ ts) = level_after (depth n (turn t)) ts

level_append : (n : ℕ) (f g : List Lexeme) → level_after n (f ++ g) ≡ level_after (level_after n f) g
level_append n [] g = refl
level_append n (t ∷ f) g = level_append (depth n (turn t)) f g

module _ (limit : ℕ) where
  shallow_append : (n : ℕ) (f g : List Lexeme) → IsShallow turn limit n f → IsShallow turn limit (level_after n f) g → IsShallow turn limit n (f ++ g)
  shallow_append n [] g a b = b
  shallow_append n (t ∷ f) g a b = (a.0, shallow_append (depth n (turn t)) f g a.1 b)

  record Levelled (n m : ℕ) (ts rest : List Lexeme) : Type 0 where
    front : List Lexeme
    split : ts ≡ front ++ rest
    shallow : IsShallow turn limit n front
    level : level_after n front ≡ m

  nothing_taken : (n : ℕ) (ts : List Lexeme) → Levelled n n ts ts
  nothing_taken n ts = record { front = []; split = refl; shallow = tt; level = refl }

  one_taken : (n m : ℕ) (c : Class) (t : Lexeme) (ts : List Lexeme) → test c t ≡ true → next_depth limit n (class_turn c) ≡ Some m → Levelled n m (t ∷ ts) ts
  one_taken n m c t ts h e =
      let x = turn_of c t h in
      let s = some_is (has_room limit n (class_turn c)) (depth n (class_turn c)) m e in
      record {
        front = t ∷ [];
        split = refl;
        shallow = (subst (λ z. HasRoom limit n z) (sym x) (is_room limit n (class_turn c) s.0), tt);
        level = ap (λ z. depth n z) x ∙ s.1;
      }

  two_taken : (n k m : ℕ) (ts mid rest : List Lexeme) → Levelled n k ts mid → Levelled k m mid rest → Levelled n m ts rest
  two_taken n k m ts mid rest a b = record {
    front = a.front ++ b.front;
    split = a.split ∙ (ap (λ z. a.front ++ z) b.split ∙ sym (append_assoc a.front b.front rest));
    shallow = shallow_append n a.front b.front a.shallow (subst (λ z. IsShallow turn limit z b.front) (sym a.level) b.shallow);
    level = level_append n a.front b.front ∙ (ap (λ z. level_after z b.front) a.level ∙ b.level);
  }

  module _ {parts : ℕ → Grammar Class} {info : ℕ → Info Class} where
    levelled : (n m : ℕ) {g : Grammar Class} {ts rest : List Lexeme} → level_behind limit n g ≡ Some m → Matches (system_of parts info) g ts rest → Levelled n m ts rest
    levelled n m e (a_token {c} {t} {ts} h) = one_taken n m c t ts h e
    levelled n m e (no_token {ts}) = subst (λ z. Levelled n z ts ts) (same_Some n m e) (nothing_taken n ts)
    levelled n m e (both {g} {h} {ts} {mid} {rest} a b) =
        let s = seq_by limit m h (level_behind limit n g) e in
        two_taken n s.0 m ts mid rest (levelled n s.0 s.1 a) (levelled s.0 m s.2 b)
    levelled n m e (the_left {g} {h} a) = levelled n m (agreed_is (level_behind limit n g) (level_behind limit n h) m e).0 a
    levelled n m e (the_right {g} {h} b) = levelled n m (agreed_is (level_behind limit n g) (level_behind limit n h) m e).1 b
    levelled n m e (no_more {g} {ts}) = subst (λ z. Levelled n z ts ts) (same_Some n m (agreed_is (Some n) (level_behind limit n g) m e).0) (nothing_taken n ts)
    levelled n m e (one_more (both {g} {ts} {mid} {rest} a b)) =
        let s = agreed_is (Some n) (level_behind limit n g) m e in
        let k = same_Some n m s.0 in
        two_taken n n m ts mid rest (levelled n n (s.1 ∙ sym s.0) a) (levelled n m e b)
    levelled n m e (by_part a) = absurd (none-some m e)

    -- each text keeps the limit
    pub all_shallow : (m : ℕ) {g : Grammar Class} → level_behind limit 0 g ≡ Some m → (ts : List Lexeme) → IsText (system_of parts info) g ts → IsShallow turn limit 0 ts
    all_shallow m e ts t =
        let l = levelled 0 m e t in
        subst (λ z. IsShallow turn limit 0 z) (sym (l.split ∙ append-nil l.front)) l.shallow

  module _ (parts : ℕ → Grammar Class) (info : ℕ → Info Class) (g : Grammar Class) (m : ℕ) (e : level_behind limit 0 g ≡ Some m) where
    goes_shallow : (front : List Lexeme) → GoesOn (system_of parts info) g front → IsShallow turn limit 0 front
    goes_shallow front o = shallow_front (system_of parts info) turn limit g 0 front o.0 (all_shallow m e (front ++ o.0) o.1)

    stuck_inside : (front rest : List Lexeme) → IsStuck (system_of parts info) g front rest → IsStuckShallow (system_of parts info) turn limit g front rest
    stuck_inside front [] h = h
    stuck_inside front (t ∷ more) h = λ o s. h o

    stuck_outside : (front rest : List Lexeme) → IsStuckShallow (system_of parts info) turn limit g front rest → IsStuck (system_of parts info) g front rest
    stuck_outside front [] h = h
    stuck_outside front (t ∷ more) h = λ o. h o (goes_shallow (front ++ t ∷ []) o)

    -- a first place without the limit is one with it
    pub fault_inside : (ts rest : List Lexeme) → IsFault (system_of parts info) g ts rest → IsShallowFault (system_of parts info) turn limit g ts rest
    fault_inside ts rest f = record { front = f.front; split = f.split; before = f.before; shallow = goes_shallow f.front f.before; here = stuck_inside f.front rest f.here }

    pub fault_outside : (ts rest : List Lexeme) → IsShallowFault (system_of parts info) turn limit g ts rest → IsFault (system_of parts info) g ts rest
    fault_outside ts rest f = record { front = f.front; split = f.split; before = f.before; here = stuck_outside f.front rest f.here }
