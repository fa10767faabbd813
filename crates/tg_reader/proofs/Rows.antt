-- Things that stand in a row, each behind a byte of its own.
use Rattle.std.specs.Prelude.{◌≡◌, ℕ, List, [], ◌∷◌, ◌++◌, map, false, refl}
use Rattle.std.specs.List.{join_with_byte}
use Rattle.std.proofs.Common.{ap, sym, ◌∙◌, subst, append_assoc, append-nil}
use Rattle.gr_base.specs.Lists.{Each, gathered}
use Rattle.gr_base.proofs.ListLemmas.{Each-right, same_tail}
use Rattle.gr_base.proofs.Gathering.{gathered-append}
use Rattle.gr_symbols.specs.Numbers.{Grows, with_texts}
use Rattle.gr_symbols.proofs.NumberLemmas.{with_texts-append}
use Rattle.tg_reader.specs.Reading.{Differs, EachOfSome, Ends, Gets, InTurn, is_of}
use Rattle.tg_reader.specs.declared.reader.Run.{Run}
use Rattle.tg_reader.proofs.Steps.{later}

pub InTurn-more : {V S : Type 0} (R : V → S → S → Type 0) (vs : List V) (v : V) (old now new : S) → InTurn R vs old now → R v now new → InTurn R (vs ++ v ∷ []) old new
InTurn-more R [] v old now new turn step = (new, subst (λ s. R v s new) turn step, refl)
InTurn-more R (w ∷ vs) v old now new turn step = (turn.0, turn.1, InTurn-more R vs v turn.0 now new turn.2 step)

-- a table that got names twice
pub table_then : (old mid new ns ms : List (List ℕ)) → mid ≡ with_texts old ns → new ≡ with_texts mid ms → new ≡ with_texts old (ns ++ ms)
table_then old mid new ns ms e h = h ∙ ap (λ z. with_texts z ms) e ∙ sym (with_texts-append old ns ms)

module _ {V : Type 0} (print : V → List ℕ) (separator : ℕ) where
  -- each thing behind the byte
  abbrev pub row : List V → List ℕ
  row vs = gathered (λ v. separator ∷ print v) vs

  pub join_row : (v : V) (vs : List V) → join_with_byte separator (map print (v ∷ vs)) ≡ print v ++ row vs
  join_row v [] = sym (append-nil (print v))
  join_row v (w ∷ vs) = ap (λ zs. print v ++ (separator ∷ zs)) (join_row w vs)

  pub ends_row : (run : Run) (vs : List V) (rest : List ℕ) → is_of run separator ≡ false → Ends run rest → Ends run (row vs ++ rest)
  ends_row run [] rest h end = end
  ends_row run (v ∷ vs) rest h end = h

-- what each thing names, and what it is read as
module _ {V S : Type 0} (print : V → List ℕ) (separator : ℕ) (names : V → List (List ℕ)) (R : List (List ℕ) → V → S → S → Type 0) where
  -- some of them were read, with what follows them left
  pub record SoFar (vs : List V) (rest : List ℕ) (start now : S) (old texts : List (List ℕ)) (bytes : List ℕ) : Type 0 where
    pub done : List V
    pub left : List V
    pub split : vs ≡ done ++ left
    pub bytes_are : bytes ≡ row print separator left ++ rest
    pub turns : Gets old texts (gathered names done) (λ ts. InTurn (R ts) done start now)

  pub none_yet : (vs : List V) (rest : List ℕ) (start : S) (texts : List (List ℕ)) (bytes : List ℕ) → bytes ≡ row print separator vs ++ rest → SoFar vs rest start start texts texts bytes
  none_yet vs rest start texts bytes e = record { done = []; left = vs; split = refl; bytes_are = e; turns = record { table = refl; later = λ ts grows. refl } }

  -- behind one more byte one more thing stands
  pub record Next (Can : V → Type 0) (vs : List V) (rest : List ℕ) (start now : S) (old texts : List (List ℕ)) (mid : List ℕ) : Type 0 where
    pub item : V
    pub left : List V
    pub can : Can item
    pub behind : mid ≡ print item ++ (row print separator left ++ rest)
    pub on : (new : S) (more : List (List ℕ)) (bytes : List ℕ) → Grows texts more → bytes ≡ row print separator left ++ rest → Gets texts more (names item) (λ ts. R ts item now new) → SoFar vs rest start new old more bytes

  pub next : (Can : V → Type 0) (vs : List V) (rest : List ℕ) (start now : S) (old texts : List (List ℕ)) (bytes mid : List ℕ) → Each Can vs → Differs (separator ∷ []) rest → bytes ≡ separator ∷ mid →
      SoFar vs rest start now old texts bytes → Next Can vs rest start now old texts mid
  next Can vs rest start now old texts bytes mid can differs e so_far = by so_far.left so_far.split so_far.bytes_are
    where
      by : (left : List V) → vs ≡ so_far.done ++ left → bytes ≡ row print separator left ++ rest → Next Can vs rest start now old texts mid
      by [] split are = absurd (differs mid (sym are ∙ e))
      by (v ∷ left) split are = record {
        item = v;
        left = left;
        can = (Each-right Can so_far.done (v ∷ left) (subst (λ zs. Each Can zs) split can)).0;
        behind = same_tail separator separator mid (print v ++ (row print separator left ++ rest)) (sym e ∙ are ∙ ap (λ zs. separator ∷ zs) (append_assoc (print v) (row print separator left) rest));
        on = λ new more bytes grows new_are step. record {
          done = so_far.done ++ v ∷ [];
          left = left;
          split = split ∙ sym (append_assoc so_far.done (v ∷ []) left);
          bytes_are = new_are;
          turns = record {
            table = table_then old texts more (gathered names so_far.done) (names v) so_far.turns.table step.table
                ∙ ap (λ zs. with_texts old (gathered names so_far.done ++ zs)) (sym (append-nil (names v)))
                ∙ ap (with_texts old) (sym (gathered-append names so_far.done (v ∷ [])));
            later = λ ts g. InTurn-more (R ts) so_far.done v start now new (later texts more (λ ts. InTurn (R ts) so_far.done start now) grows so_far.turns.later ts g) (step.later ts g);
          };
        };
      }

  -- where the byte does not follow, all of them were read
  pub record All (vs : List V) (rest : List ℕ) (start now : S) (old texts : List (List ℕ)) (bytes : List ℕ) : Type 0 where
    pub bytes_are : bytes ≡ rest
    pub turns : Gets old texts (gathered names vs) (λ ts. InTurn (R ts) vs start now)

  pub all : (vs : List V) (rest : List ℕ) (start now : S) (old texts : List (List ℕ)) (bytes : List ℕ) → Differs (separator ∷ []) bytes → SoFar vs rest start now old texts bytes → All vs rest start now old texts bytes
  all vs rest start now old texts bytes differs so_far = by so_far.left so_far.split so_far.bytes_are
    where
      by : (left : List V) → vs ≡ so_far.done ++ left → bytes ≡ row print separator left ++ rest → All vs rest start now old texts bytes
      by [] split are = record {
        bytes_are = are;
        turns = subst (λ zs. Gets old texts (gathered names zs) (λ ts. InTurn (R ts) zs start now)) (sym (split ∙ append-nil so_far.done)) so_far.turns;
      }
      by (v ∷ left) split are = absurd (differs (print v ++ (row print separator left ++ rest)) (are ∙ ap (λ zs. separator ∷ zs) (append_assoc (print v) (row print separator left) rest)))

  -- a row without its first byte
  pub record First (Can : V → Type 0) (vs : List V) : Type 0 where
    pub first : V
    pub more : List V
    pub is : vs ≡ first ∷ more
    pub can : Can first
    pub can_more : Each Can more
    pub joined : (rest : List ℕ) → join_with_byte separator (map print vs) ++ rest ≡ print first ++ (row print separator more ++ rest)

  pub first_of : (Can : V → Type 0) (vs : List V) → EachOfSome Can vs → First Can vs
  first_of Can [] can = absurd can
  first_of Can (v ∷ vs) can = record {
    first = v;
    more = vs;
    is = refl;
    can = can.0;
    can_more = can.1;
    joined = λ rest. ap (λ zs. zs ++ rest) (join_row print separator v vs) ∙ append_assoc (print v) (row print separator vs) rest;
  }

  -- with the first one, all were read
  pub with_first : (Can : V → Type 0) (vs : List V) (f : First Can vs) (start mid now : S) (old texts new : List (List ℕ)) → Grows texts new → Gets old texts (names f.first) (λ ts. R ts f.first start mid) →
      Gets texts new (gathered names f.more) (λ ts. InTurn (R ts) f.more mid now) → Gets old new (gathered names vs) (λ ts. InTurn (R ts) vs start now)
  with_first Can vs f start mid now old texts new grows step turns = subst (λ zs. Gets old new (gathered names zs) (λ ts. InTurn (R ts) zs start now)) (sym f.is) (record {
    table = table_then old texts new (names f.first) (gathered names f.more) step.table turns.table;
    later = λ ts g. (mid, later texts new (λ ts. R ts f.first start mid) grows step.later ts g, turns.later ts g);
  })
