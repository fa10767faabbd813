-- Grammars as data, over any type of tokens T and of classes of tokens C.
use Rattle.std.specs.Prelude.{◌≡◌, ℕ, List, [], ◌∷◌, ◌++◌, Bool, true, false, ◌||◌, ◌&&◌, not}

-- one token of a class, nothing, one part and then another, a choice, any number of a part, or a part with a number
pub data Grammar (C : Type 0) : Type 0 where
  tok : C → Grammar C
  nil : Grammar C
  seq : Grammar C → Grammar C → Grammar C
  alt : Grammar C → Grammar C → Grammar C
  star : Grammar C → Grammar C
  part : ℕ → Grammar C

-- what is written down of a numbered part: whether it has the empty text, the classes that begin one, and those that go on behind one
pub record Info (C : Type 0) : Type 0 where
  pub null : Bool
  pub first : List C
  pub goes : List C

-- the numbered parts, which token is of which class, and which classes share no token
pub record System (C T : Type 0) : Type 0 where
  pub test : C → T → Bool
  pub apart : C → C → Bool
  pub parts : ℕ → Grammar C
  pub info : ℕ → Info C

-- a front of the first list is a text of the grammar, and the second list is what is left
pub data Matches {C T : Type 0} (S : System C T) : Grammar C → List T → List T → Type 0 where
  a_token : {c : C} {t : T} {ts : List T} → S.test c t ≡ true → Matches S (tok c) (t ∷ ts) ts
  no_token : {ts : List T} → Matches S nil ts ts
  both : {g h : Grammar C} {ts mid rest : List T} → Matches S g ts mid → Matches S h mid rest → Matches S (seq g h) ts rest
  the_left : {g h : Grammar C} {ts rest : List T} → Matches S g ts rest → Matches S (alt g h) ts rest
  the_right : {g h : Grammar C} {ts rest : List T} → Matches S h ts rest → Matches S (alt g h) ts rest
  no_more : {g : Grammar C} {ts : List T} → Matches S (star g) ts ts
  one_more : {g : Grammar C} {ts rest : List T} → Matches S (seq g (star g)) ts rest → Matches S (star g) ts rest
  by_part : {n : ℕ} {ts rest : List T} → Matches S (S.parts n) ts rest → Matches S (part n) ts rest

-- the tokens are a text of the grammar
abbrev pub IsText : {C T : Type 0} → System C T → Grammar C → List T → Type 0
IsText S g ts = Matches S g ts []

-- the tokens are viable: with some more behind them they are a text
abbrev pub GoesOn : {C T : Type 0} → System C T → Grammar C → List T → Type 0
GoesOn {C} {T} S g front = (more : List T) × Matches S g (front ++ more) []

-- no text goes on with the next token behind the front; at the end, the front is no text
abbrev pub IsStuck : {C T : Type 0} → System C T → Grammar C → List T → List T → Type 0
IsStuck S g front [] = IsText S g front → ⊥
IsStuck S g front (t ∷ more) = GoesOn S g (front ++ t ∷ []) → ⊥

-- the rest begins at the first place after which no text goes on: the tokens before it begin a text, and no more do
pub record IsFault {C T : Type 0} (S : System C T) (g : Grammar C) (ts rest : List T) : Type 0 where
  pub front : List T
  pub split : ts ≡ front ++ rest
  pub before : GoesOn S g front
  pub here : IsStuck S g front rest

-- whether the empty text is one, the classes that begin a text, and the classes that may go on behind a whole text
abbrev pub nullable : {C T : Type 0} → System C T → Grammar C → Bool
nullable S (tok c) = false
nullable S nil = true
nullable S (seq g h) = nullable S g && nullable S h
nullable S (alt g h) = nullable S g || nullable S h
nullable S (star g) = true
nullable S (part n) = (S.info n).null

abbrev pub when : {C : Type 0} → Bool → List C → List C
when true cs = cs
when false cs = []

abbrev pub first : {C T : Type 0} → System C T → Grammar C → List C
first S (tok c) = c ∷ []
first S nil = []
first S (seq g h) = first S g ++ when (nullable S g) (first S h)
first S (alt g h) = first S g ++ first S h
first S (star g) = first S g
first S (part n) = (S.info n).first

abbrev pub goes : {C T : Type 0} → System C T → Grammar C → List C
goes S (tok c) = []
goes S nil = []
goes S (seq g h) = goes S h ++ when (nullable S h) (goes S g)
goes S (alt g h) = goes S g ++ (goes S h ++ when (nullable S h) (first S g))
goes S (star g) = goes S g ++ first S g
goes S (part n) = (S.info n).goes

-- the token is of one of the classes; the class shares no token with these; no class of the first list shares one with the second
abbrev pub is_of : {C T : Type 0} → System C T → List C → T → Bool
is_of S [] t = false
is_of S (c ∷ cs) t = S.test c t || is_of S cs t

abbrev pub apart_from : {C T : Type 0} → System C T → C → List C → Bool
apart_from S c [] = true
apart_from S c (d ∷ ds) = S.apart c d && apart_from S c ds

abbrev pub all_apart : {C T : Type 0} → System C T → List C → List C → Bool
all_apart S [] ds = true
all_apart S (c ∷ cs) ds = apart_from S c ds && all_apart S cs ds

-- the next token decides. In a sequence what may go on behind the first part is apart from what begins the second. In a choice the first way has no empty text, and the two ways begin apart. In a row no part is empty, and what may go on behind a part is apart from what begins one. A numbered part is tested by itself
abbrev pub is_clear : {C T : Type 0} → System C T → Grammar C → Bool
is_clear S (tok c) = true
is_clear S nil = true
is_clear S (seq g h) = is_clear S g && (is_clear S h && all_apart S (goes S g) (first S h))
is_clear S (alt g h) = is_clear S g && (is_clear S h && (not (nullable S g) && all_apart S (first S g) (first S h)))
is_clear S (star g) = is_clear S g && (not (nullable S g) && all_apart S (goes S g) (first S g))
is_clear S (part n) = true

-- the next token is of one of the classes; it begins a text of the grammar
abbrev pub is_next : {C T : Type 0} → System C T → List C → List T → Bool
is_next S cs [] = false
is_next S cs (t ∷ ts) = is_of S cs t

abbrev pub begins : {C T : Type 0} → System C T → Grammar C → List T → Bool
begins S g ts = is_next S (first S g) ts

-- how recursive descent ends: it took a text, or failed, with what is left
pub data End (T : Type 0) : Type 0 where
  took : List T → End T
  failed : List T → End T

-- what recursive descent with one token of lookahead does: it goes left in a choice, and once more round a row, exactly where the next token begins that part
pub data Runs {C T : Type 0} (S : System C T) : Grammar C → List T → End T → Type 0 where
  take_token : {c : C} {t : T} {ts : List T} → S.test c t ≡ true → Runs S (tok c) (t ∷ ts) (took ts)
  bad_token : {c : C} {t : T} {ts : List T} → S.test c t ≡ false → Runs S (tok c) (t ∷ ts) (failed (t ∷ ts))
  bad_end : {c : C} → Runs S (tok c) [] (failed [])
  take_nothing : {ts : List T} → Runs S nil ts (took ts)
  run_both : {g h : Grammar C} {ts mid : List T} {e : End T} → Runs S g ts (took mid) → Runs S h mid e → Runs S (seq g h) ts e
  run_first : {g h : Grammar C} {ts rest : List T} → Runs S g ts (failed rest) → Runs S (seq g h) ts (failed rest)
  run_left : {g h : Grammar C} {ts : List T} {e : End T} → begins S g ts ≡ true → Runs S g ts e → Runs S (alt g h) ts e
  run_right : {g h : Grammar C} {ts : List T} {e : End T} → begins S g ts ≡ false → Runs S h ts e → Runs S (alt g h) ts e
  run_end : {g : Grammar C} {ts : List T} → begins S g ts ≡ false → Runs S (star g) ts (took ts)
  run_more : {g : Grammar C} {ts : List T} {e : End T} → begins S g ts ≡ true → Runs S (seq g (star g)) ts e → Runs S (star g) ts e
  run_part : {n : ℕ} {ts : List T} {e : End T} → Runs S (S.parts n) ts e → Runs S (part n) ts e

-- what the user of a system shows of it, mostly by computation: classes that are called apart share no token, and each class has one; of the numbered parts, that the next token decides in each, that what is written down of it is right, and that it has texts, one behind each token that begins one
pub record IsSystem {C T : Type 0} (S : System C T) : Type 0 where
  pub are_apart : (c d : C) (t : T) → S.apart c d ≡ true → S.test c t ≡ true → S.test d t ≡ true → ⊥
  pub shown : (c : C) → (t : T) × (S.test c t ≡ true)
  pub clear : (n : ℕ) → is_clear S (S.parts n) ≡ true
  pub null : (n : ℕ) → nullable S (S.parts n) ≡ (S.info n).null
  pub first : (n : ℕ) → first S (S.parts n) ≡ (S.info n).first
  pub goes : (n : ℕ) (t : T) → is_of S (goes S (S.parts n)) t ≡ true → is_of S (S.info n).goes t ≡ true
  pub none : (n : ℕ) → (S.info n).null ≡ true → (ts : List T) → Matches S (S.parts n) ts ts
  pub some : (n : ℕ) → (ts : List T) × Matches S (S.parts n) ts []
  pub begun : (n : ℕ) (t : T) → is_of S (S.info n).first t ≡ true → (ts : List T) × Matches S (S.parts n) (t ∷ ts) []

-- what was taken is a text
abbrev pub tree_of : {C T : Type 0} {S : System C T} {g : Grammar C} {ts rest : List T} → Runs S g ts (took rest) → Matches S g ts rest
tree_of (take_token h) = a_token h
tree_of take_nothing = no_token
tree_of (run_both a b) = both (tree_of a) (tree_of b)
tree_of (run_left b a) = the_left (tree_of a)
tree_of (run_right b a) = the_right (tree_of a)
tree_of (run_end b) = no_more
tree_of (run_more b a) = one_more (tree_of a)
tree_of (run_part a) = by_part (tree_of a)

-- the values of the parts of a row
abbrev pub items : {C T A : Type 0} {S : System C T} {g : Grammar C} → ((ts rest : List T) → Matches S g ts rest → A) → {ts rest : List T} → Matches S (star g) ts rest → List A
items f no_more = []
items f (one_more (both {ts} {mid} a b)) = f ts mid a ∷ items f b

-- what a loop over a row has taken so far
pub data Rounds {C T : Type 0} (S : System C T) (g : Grammar C) : List T → List T → Type 0 where
  start : {ts : List T} → Rounds S g ts ts
  round : {ts mid rest : List T} → Rounds S g ts mid → begins S g mid ≡ true → Runs S g mid (took rest) → Rounds S g ts rest

abbrev pub round_items : {C T A : Type 0} {S : System C T} {g : Grammar C} → ((ts rest : List T) → Matches S g ts rest → A) → {ts rest : List T} → Rounds S g ts rest → List A
round_items f start = []
round_items f (round {mid} {rest} r b m) = round_items f r ++ f mid rest (tree_of m) ∷ []
