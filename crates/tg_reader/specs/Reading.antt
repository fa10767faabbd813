-- What reading does: which bytes it takes, what it makes of them, and how the table of texts grows.
use Rattle.std.specs.Prelude.{◌≡◌, ◌≢◌, ℕ, ◌+◌, ◌<◌, ◌≤◌, ◌^◌, Bool, true, false, not, ◌==◌, ◌&&◌, ◌||◌, nat_le, List, [], ◌∷◌, ◌++◌, length, codes, Option, None, Result, Ok, Err, ⊤, ◌⊎◌}
use Rattle.std.specs.Str.{IsUtf8}
use Rattle.gr_base.specs.Forests.{Forest, empty, labels, AreAlike, IsOneTree, size}
use Rattle.gr_base.specs.Lists.{Each}
use Rattle.gr_symbols.specs.Numbers.{Grows, Names, with_texts}
use Rattle.gr_terms.specs.Bags.{HasAttribute, IsListed, LacksAttribute, Puts}
use Rattle.gr_terms.specs.Canonical as canonical
use Rattle.gr_terms.specs.Canonical.{Decorated, Label, Node, Pairs, named, numbered, category, properties}
use Rattle.gr_terms.specs.Constants.{CAT, MARK}
use Rattle.gr_terms.specs.declared.Literal.{Literal}
use Rattle.gr_terms.specs.declared.Sym.{Sym}
use Rattle.gr_terms.specs.declared.Term.{Term}
use Rattle.gr_terms.specs.declared.Term.TheVariants.{Const, Var}
use Rattle.gr_text.specs.Words.{is_word_byte}
use Rattle.td_canon.specs.CanonicalTexts.{IsNamedBag, IsNamedTerm, text_in}
use Rattle.td_canon.specs.TreeText.{label_text}
use Rattle.td_tree.specs.Trees.{BagPairs, preorder}
use Rattle.td_tree.specs.declared.Tree.{Tree}
use Rattle.td_tree.specs.declared.TreeNode.{TreeNode}
use Rattle.tg_reader.specs.Writable.{IsMark, IsName, IsWord, IsWritablePair, IsWritableTerm}
use Rattle.tg_reader.specs.declared.reader.Run.{Run}
use Rattle.tg_reader.specs.declared.reader.Run.TheVariants.{Word, Inside}
use Rattle.tg_reader.specs.declared.reader.Stop.{Stop}
use Rattle.tg_reader.specs.declared.reader.Stop.TheVariants.{NoTree, Memory}

-- ---- bytes

-- whether a byte may stand there: in words and numbers word bytes and dashes, in a string what is not `"`, not `\`, not below 0x20 and not 0x7F
abbrev pub is_of : Run → ℕ → Bool
is_of Word b = is_word_byte b || (b == 45)
is_of Inside b = nat_le 32 b && (not (b == 34) && (not (b == 92) && not (b == 127)))

-- no such byte comes first
abbrev pub Ends : Run → List ℕ → Type 0
Ends run [] = ⊤
Ends run (b ∷ bs) = is_of run b ≡ false

-- a text of such bytes that is not too long
pub record IsRun (run : Run) (text : List ℕ) : Type 0 where
  pub each : Each (λ b. is_of run b ≡ true) text
  pub few : length text ≤ 255
  pub utf8 : IsUtf8 text

-- behind a tree a space or `)` may stand, or nothing, and behind a node `(` too
abbrev pub IsTreeEnd : List ℕ → Type 0
IsTreeEnd [] = ⊤
IsTreeEnd (b ∷ bs) = (b ≡ 32) ⊎ (b ≡ 41)

abbrev pub IsNodeEnd : List ℕ → Type 0
IsNodeEnd [] = ⊤
IsNodeEnd (b ∷ bs) = (b ≡ 40) ⊎ ((b ≡ 32) ⊎ (b ≡ 41))

-- the second text does not begin with the first
abbrev pub Differs : List ℕ → List ℕ → Type 0
Differs front text = (more : List ℕ) → text ≡ front ++ more → ⊥

-- behind pairs neither a comma stands nor a byte of words
pub record IsPairsEnd (text : List ℕ) : Type 0 where
  pub word : Ends Word text
  pub comma : Differs (44 ∷ []) text

-- a text that may close pairs: it begins neither with a comma nor with a byte of words
abbrev pub IsClosing : List ℕ → Type 0
IsClosing closing = (more : List ℕ) → IsPairsEnd (closing ++ more)

-- behind values neither a space stands nor a byte of words
pub record IsValuesEnd (text : List ℕ) : Type 0 where
  pub word : Ends Word text
  pub space : Differs (32 ∷ []) text

-- ---- the table of texts

-- it holds of the table of texts, and of each that begins with it
abbrev pub Later : List (List ℕ) → (List (List ℕ) → Type 0) → Type 0
Later texts P = (later : List (List ℕ)) → Grows texts later → P later

-- the table got these texts, one after another, and then it holds of the table and of each that begins with it
pub record Gets (old new : List (List ℕ)) (names : List (List ℕ)) (P : List (List ℕ) → Type 0) : Type 0 where
  pub table : new ≡ with_texts old names
  pub later : Later new P

-- bytes were taken from the front, and at most as many texts are new
pub record Passes (old new : List (List ℕ)) (before after : List ℕ) : Type 0 where
  pub grows : Grows old new
  pub shorter : length after ≤ length before
  pub few : length new + length after ≤ length old + length before

-- ---- what is read can be written, and its names are in the table

abbrev pub IsKnownTerm : Term → List (List ℕ) → Type 0
IsKnownTerm v texts = IsNamedTerm (length texts) v × IsWritableTerm texts v

pub record IsKnownPair (texts : List (List ℕ)) (p : Sym × Term) : Type 0 where
  pub attribute : p.0.0 < length texts
  pub value : IsNamedTerm (length texts) p.1
  pub writable : IsWritablePair texts p

pub record IsKnownBag (bag : BagPairs) (texts : List (List ℕ)) : Type 0 where
  pub listed : IsListed bag
  pub pairs : Each (IsKnownPair texts) bag

pub record IsKnownNode (texts : List (List ℕ)) (n : TreeNode) : Type 0 where
  pub own : IsKnownBag n.own texts
  pub top : IsKnownBag n.top texts
  pub bot : IsKnownBag n.bot texts

abbrev pub AreKnownNodes : List TreeNode → List (List ℕ) → Type 0
AreKnownNodes nodes texts = Each (IsKnownNode texts) nodes

abbrev pub AreKnownTerms : List Term → List (List ℕ) → Type 0
AreKnownTerms vs texts = Each (λ v. IsKnownTerm v texts) vs

pub record IsKnownLiteral (texts : List (List ℕ)) (l : Literal) : Type 0 where
  pub handle : IsKnownTerm l.handle texts
  pub pred : IsKnownTerm l.pred texts
  pub args : AreKnownTerms l.args texts

abbrev pub AreKnownLiterals : List Literal → List (List ℕ) → Type 0
AreKnownLiterals ls texts = Each (IsKnownLiteral texts) ls

pub record IsKnownTree (t : Tree) (texts : List (List ℕ)) : Type 0 where
  pub nodes : AreKnownNodes t.nodes texts
  pub iface : IsKnownBag t.iface texts
  pub sem : AreKnownLiterals t.sem texts

-- ---- nodes are laid out in preorder

-- those of trees side by side are appended, under a parent
abbrev pub Lays : Option ℕ → List TreeNode → List TreeNode → Type 0
Lays parent old new = (g : Forest (Node BagPairs)) × (new ≡ old ++ preorder (length old) parent g)

-- those of one tree
abbrev pub LaysOne : Option ℕ → List TreeNode → List TreeNode → Type 0
LaysOne parent old new = (g : Forest (Node BagPairs)) × IsOneTree g × (new ≡ old ++ preorder (length old) parent g)

-- ---- what may stand in a node's own bag: nothing that is named `color`, and as mark one of six

abbrev pub MayStand : List (List ℕ) → Sym × Term → Type 0
MayStand texts p = (text_in texts p.0.0 ≢ codes "color") × (p.0.0 ≡ MARK → IsMark p.1)

abbrev pub IsNamedOwn : ℕ → TreeNode → Type 0
IsNamedOwn count n = IsNamedBag count n.own

abbrev pub Obeys : List (List ℕ) → TreeNode → Type 0
Obeys texts n = Each (MayStand texts) n.own

-- ---- reading undoes writing

-- P holds of what was read, unless memory was wanting
abbrev pub Reads : {X : Type 0} → Result X Stop → (X → Type 0) → Type 0
Reads (Ok x) P = P x
Reads (Err NoTree) P = ⊥
Reads (Err Memory) P = ⊤

-- Where the bytes are the text of a thing that can be read, with an end behind it, it is read, and the end is left
abbrev pub Undoes : {V X : Type 0} → (V → List ℕ) → (V → Type 0) → (List ℕ → Type 0) → List ℕ → List ℕ → Result X Stop → (V → X → Type 0) → Type 0
Undoes {V} print Can IsEnd before after result Is =
    (v : V) (rest : List ℕ) → Can v → IsEnd rest → before ≡ print v ++ rest → Reads result (λ x. (after ≡ rest) × Is v x)

-- it holds of each, and there is one at least
abbrev pub EachOfSome : {A : Type 0} → (A → Type 0) → List A → Type 0
EachOfSome P [] = ⊥
EachOfSome P (x ∷ xs) = Each P (x ∷ xs)

-- the things are read one after another
abbrev pub InTurn : {V S : Type 0} → (V → S → S → Type 0) → List V → S → S → Type 0
InTurn R [] old new = new ≡ old
InTurn {S = S} R (v ∷ vs) old new = (mid : S) × R v old mid × InTurn R vs mid new

-- one thing is appended that stands for v
abbrev pub Appends : {V X : Type 0} → (V → X → Type 0) → V → List X → List X → Type 0
Appends {X = X} Is v old new = (x : X) × Is v x × (new ≡ old ++ x ∷ [])

-- the value is the name with this text
abbrev pub IsNameOf : List (List ℕ) → List ℕ → Term → Type 0
IsNameOf texts t (Const s) = Names texts s.0 t
IsNameOf texts t (Var v) = ⊥

-- A form has names by numbers of its own, and `text` says which text such a number has
module _ (text : ℕ → List ℕ) where
  abbrev pub pair_text : ℕ × Label → List ℕ
  pair_text p = text p.0 ++ codes "=" ++ label_text text p.1

  -- names can be spelled, and numbers have at most nine digits
  abbrev pub CanRead : Label → Type 0
  CanRead (named a) = IsName (text a)
  CanRead (numbered k) = k < 10 ^ 9

  pub record CanReadPair (p : ℕ × Label) : Type 0 where
    pub attribute : IsWord (text p.0)
    pub value : CanRead p.1

  abbrev pub CanReadPairs : Pairs → Type 0
  CanReadPairs ps = Each CanReadPair ps

  -- a category, or none
  abbrev pub CanReadCategory : List Label → Type 0
  CanReadCategory [] = ⊤
  CanReadCategory (v ∷ []) = CanRead v
  CanReadCategory (v ∷ w ∷ vs) = ⊥

  pub record CanReadNode (n : Node Pairs) : Type 0 where
    pub category : CanReadCategory (category n.own)
    pub properties : CanReadPairs (properties n.own)
    pub top : CanReadPairs n.top
    pub bottom : CanReadPairs n.bottom

  abbrev pub CanReadNodes : Forest (Node Pairs) → Type 0
  CanReadNodes f = Each CanReadNode (labels f)

  pub record CanReadLiteral (l : canonical.Literal Label) : Type 0 where
    pub handle : CanRead l.handle
    pub pred : CanRead l.pred
    pub args : Each CanRead l.args

  pub record CanReadTree (c : Decorated Pairs Label) : Type 0 where
    pub one : IsOneTree c.nodes
    pub few : size c.nodes ≤ 24
    pub nodes : CanReadNodes c.nodes
    pub interface : CanReadPairs c.interface
    pub literals : Each CanReadLiteral c.literals

  -- trees that can be read with so many nodes before them
  pub record CanReadBehind (count : ℕ) (f : Forest (Node Pairs)) : Type 0 where
    pub few : count + size f ≤ 24
    pub nodes : CanReadNodes f

  -- and of these there is just one, or one at least
  pub record CanReadOne (count : ℕ) (f : Forest (Node Pairs)) : Type 0 where
    pub one : IsOneTree f
    pub trees : CanReadBehind count f

  pub record CanReadRow (count : ℕ) (f : Forest (Node Pairs)) : Type 0 where
    pub some : f ≢ empty
    pub trees : CanReadBehind count f

  -- by a table of texts: what was read stands for what was written
  module _ (texts : List (List ℕ)) where
    -- a name for the name with its text, and a variable for its number
    abbrev pub StandsFor : Label → Term → Type 0
    StandsFor (named a) v = IsNameOf texts (text a) v
    StandsFor (numbered k) v = v ≡ Var k

    abbrev pub StandsForPair : ℕ × Label → Sym × Term → Type 0
    StandsForPair p q = Names texts q.0.0 (text p.0) × StandsFor p.1 q.1

    -- a pair is put into the bag where its attribute is not there
    abbrev pub PutsPair : ℕ × Label → BagPairs → BagPairs → Type 0
    PutsPair p old new =
        (q : Sym × Term) × StandsForPair p q × ((LacksAttribute old q.0 × Puts old new q) ⊎ (HasAttribute old q.0 × (new ≡ old)))

    abbrev pub PutsPairs : Pairs → BagPairs → BagPairs → Type 0
    PutsPairs = InTurn PutsPair

    -- the bag has the category alone
    abbrev pub StandsForCategory : List Label → BagPairs → Type 0
    StandsForCategory [] bag = bag ≡ []
    StandsForCategory (v ∷ []) bag = (x : Term) × StandsFor v x × (bag ≡ (record { 0 = CAT }, x) ∷ [])
    StandsForCategory (v ∷ w ∷ vs) bag = ⊥

    -- the properties are put in behind the category
    pub record StandsForNode (n : Node Pairs) (b : Node BagPairs) : Type 0 where
      pub first : BagPairs
      pub category : StandsForCategory (category n.own) first
      pub properties : PutsPairs (properties n.own) first b.own
      pub top : PutsPairs n.top [] b.top
      pub bottom : PutsPairs n.bottom [] b.bottom

    abbrev pub AppendsValue : Label → List Term → List Term → Type 0
    AppendsValue = Appends StandsFor

    abbrev pub AppendsValues : List Label → List Term → List Term → Type 0
    AppendsValues = InTurn AppendsValue

    pub record StandsForLiteral (l : canonical.Literal Label) (x : Literal) : Type 0 where
      pub handle : StandsFor l.handle x.handle
      pub pred : StandsFor l.pred x.pred
      pub args : AppendsValues l.args [] x.args

    abbrev pub AppendsLiteral : canonical.Literal Label → List Literal → List Literal → Type 0
    AppendsLiteral = Appends StandsForLiteral

    abbrev pub AppendsLiterals : List (canonical.Literal Label) → List Literal → List Literal → Type 0
    AppendsLiterals = InTurn AppendsLiteral

    -- nodes are appended that stand for these, in preorder under a parent
    abbrev pub AppendsForest : Option ℕ → Forest (Node Pairs) → List TreeNode → List TreeNode → Type 0
    AppendsForest parent f old new =
        (g : Forest (Node BagPairs)) × AreAlike StandsForNode f g × (new ≡ old ++ preorder (length old) parent g)

    pub record StandsForTree (c : Decorated Pairs Label) (t : Tree) : Type 0 where
      pub nodes : AppendsForest None c.nodes [] t.nodes
      pub interface : PutsPairs c.interface [] t.iface
      pub literals : AppendsLiterals c.literals [] t.sem
