-- What can be written of what a class says: in values, blocks and deeds, and in what these say.
use Rattle.std.specs.Prelude.{◌≡◌, ◌≢◌, ℕ, ◌+◌, List, [], ◌∷◌, ◌++◌, map, codes, Bool, true, false, Option, Some, None, ⊤}
use Rattle.gr_base.specs.Lists.{Each}
use Rattle.gr_base.specs.Forests.{Forest, empty, tree}
use Rattle.gr_base.proofs.ListLemmas.{Each-append}
use Rattle.gr_terms.specs.Canonical.{literal_terms}
use Rattle.gr_terms.specs.Constants.{MARK}
use Rattle.gr_terms.specs.Networks.{Term, name, variable}
use Rattle.gr_terms.specs.declared.Sym.{Sym}
use Rattle.gr_terms.specs.declared.Term.TheVariants.{Const}
use Rattle.mg_syntax.specs.declared.body.Ref.{Ref}
use Rattle.mg_syntax.specs.declared.body.Side.{Side}
use Rattle.mg_syntax.specs.declared.body.Side.TheVariants as side
use Rattle.mg_syntax.specs.declared.body.Literal.{Literal}
use Rattle.mg_syntax.specs.declared.block.Paint.{Paint}
use Rattle.mg_syntax.specs.declared.block.Relate.{Relate}
use Rattle.mg_syntax.specs.declared.block.Relate.TheVariants.{Parent, Above, AboveOrSame, Next, Left, LeftOrSame, Same}
use Rattle.mg_syntax.specs.declared.block.SynItem.{SynItem}
use Rattle.mg_syntax.specs.declared.block.SynItem.TheVariants as item
use Rattle.mg_facts.specs.declared.variable.Variable.{Variable}
use Rattle.mg_facts.specs.Said.{Slot, own_of, top_of, bottom_of, the_interface, Said, block, related, one_node, identified, is_name, coloured, paired, says}
use Rattle.mg_deeds.specs.Blocks.{Head, KidHead, Block, block_of}
use Rattle.mg_deeds.specs.Deeds.{Deed, equation, syntax_items, semantics, interface}
use Rattle.mg_deeds.specs.Weights.{head_weight, kids_weight, syntax_weight, literal_weight}
use Rattle.mg_deeds.specs.Sayings.{relation_said, colour_said, sisters_said, said_from, side_term, handle_of, block_variable, bag_said, head_said, kids_said, block_said, syntax_said, literal_said, equation_said, deed_said}
use Rattle.td_canon.specs.CanonicalTexts.{text_in}
use Rattle.tg_reader.specs.Writable.{IsMark, IsName, IsWord}

-- a mark, by its number
abbrev pub IsMarkNumber : ℕ → Type 0
IsMarkNumber n = IsMark (Const (record { 0 = n }))

-- a term that is a mark
abbrev pub IsMarkTerm : {V : Type 0} → Term V → Type 0
IsMarkTerm (name a) = IsMarkNumber a
IsMarkTerm (variable x) = ⊥

-- the slot is that of a node's own list
abbrev pub is_own : Slot → Bool
is_own (own_of x) = true
is_own (top_of x) = false
is_own (bottom_of x) = false
is_own the_interface = false

module _ (texts : List (List ℕ)) where
  -- a name that can be spelled, or a variable
  abbrev pub CanSpell : {V : Type 0} → Term V → Type 0
  CanSpell (name a) = IsName (text_in texts a)
  CanSpell (variable x) = ⊤

  pub record CanPair {V : Type 0} (a : ℕ) (t : Term V) : Type 0 where
    pub attribute : IsWord (text_in texts a)
    pub value : CanSpell t

  pub record CanOwn {V : Type 0} (a : ℕ) (t : Term V) : Type 0 where
    pub pair : CanPair a t
    pub uncoloured : text_in texts a ≢ codes "color"
    pub mark : a ≡ MARK → IsMarkTerm t

  -- what may stand at an own slot, and at any other
  abbrev pub CanStandIn : {V : Type 0} → Bool → ℕ → Term V → Type 0
  CanStandIn true a t = CanOwn a t
  CanStandIn false a t = CanPair a t

  abbrev pub CanStand : Slot → ℕ → Term Variable → Type 0
  CanStand s a t = CanStandIn (is_own s) a t

  -- what is said can be written
  abbrev pub CanSay : Said → Type 0
  CanSay (block x) = ⊤
  CanSay (related x how y) = ⊤
  CanSay (one_node x y) = ⊤
  CanSay (identified x y) = ⊤
  CanSay (is_name x a) = IsName (text_in texts a)
  CanSay (coloured x c) = ⊤
  CanSay (paired s a t) = CanStand s a t
  CanSay (says l) = Each CanSpell (literal_terms l)

  -- ---- what is written in classes

  abbrev pub IsFineSide : Side → Type 0
  IsFineSide (side.Ref r) = ⊤
  IsFineSide (side.Name a) = IsName (text_in texts a.0)

  abbrev pub IsMarkSide : Side → Type 0
  IsMarkSide (side.Ref r) = ⊥
  IsMarkSide (side.Name a) = IsMarkNumber a.0

  pub record IsFinePair (p : Sym × Side) : Type 0 where
    pub attribute : IsWord (text_in texts p.0.0)
    pub value : IsFineSide p.1

  pub record IsFineOwn (p : Sym × Side) : Type 0 where
    pub pair : IsFinePair p
    pub uncoloured : text_in texts p.0.0 ≢ codes "color"
    pub mark : p.0.0 ≡ MARK → IsMarkSide p.1

  abbrev pub IsFineHandle : Option Side → Type 0
  IsFineHandle None = ⊤
  IsFineHandle (Some h) = IsFineSide h

  pub record IsFineLiteral (l : Literal) : Type 0 where
    pub handle : IsFineHandle l.handle
    pub pred : IsFineSide l.pred
    pub args : Each IsFineSide l.args

  pub record IsFineHead (h : Head) : Type 0 where
    pub own : Each IsFineOwn h.own
    pub top : Each IsFinePair h.top
    pub bottom : Each IsFinePair h.bottom

  abbrev pub AreFineKids : Forest KidHead → Type 0
  AreFineKids empty = ⊤
  AreFineKids (tree k kids more) = IsFineHead k.head × AreFineKids kids × AreFineKids more

  abbrev pub IsFineBlock : Block → Type 0
  IsFineBlock b = IsFineHead b.head × AreFineKids b.kids

  abbrev pub IsFineItem : SynItem → Type 0
  IsFineItem (item.Node b) = IsFineBlock (block_of b)
  IsFineItem (item.Relation r how s) = ⊤

  abbrev pub IsFineDeed : Deed → Type 0
  IsFineDeed (equation r s) = IsFineSide s
  IsFineDeed (syntax_items items) = Each IsFineItem items
  IsFineDeed (semantics literals) = Each IsFineLiteral literals
  IsFineDeed (interface bag) = Each IsFinePair bag

  -- ---- what it says

  relation_fine : (x : Variable) (how : Relate) (y : Variable) → CanSay (relation_said x how y)
  relation_fine x Parent y = tt
  relation_fine x Above y = tt
  relation_fine x AboveOrSame y = tt
  relation_fine x Next y = tt
  relation_fine x Left y = tt
  relation_fine x LeftOrSame y = tt
  relation_fine x Same y = tt

  sisters_fine : (x : Variable) (loose : Bool) (y : Variable) → CanSay (sisters_said x loose y)
  sisters_fine x true y = tt
  sisters_fine x false y = tt

  colour_fine : (x : Variable) (c : Option Paint) → Each CanSay (colour_said x c)
  colour_fine x None = tt
  colour_fine x (Some c) = (tt, tt)

  from_fine : {A : Type 0} (weight : A → ℕ) (said : ℕ → A → List Said) (Q : A → Type 0)
      → ((n : ℕ) (x : A) → Q x → Each CanSay (said n x))
      → (n : ℕ) (xs : List A) → Each Q xs → Each CanSay (said_from weight said n xs)
  from_fine weight said Q one n [] h = tt
  from_fine weight said Q one n (x ∷ xs) h =
      Each-append CanSay (said n x) (said_from weight said (n + weight x) xs) (one n x h.0) (from_fine weight said Q one (n + weight x) xs h.1)

  module _ (here : ℕ) where
    side_fine : (s : Side) → IsFineSide s → CanSpell (side_term here s)
    side_fine (side.Ref r) h = tt
    side_fine (side.Name a) h = h

    mark_fine : (s : Side) → IsMarkSide s → IsMarkTerm (side_term here s)
    mark_fine (side.Ref r) h = absurd h
    mark_fine (side.Name a) h = h

    handle_fine : (n : ℕ) (s : Option Side) → IsFineHandle s → CanSpell (handle_of here n s)
    handle_fine n None h = tt
    handle_fine n (Some s) h = side_fine s h

    sides_fine : (ss : List Side) → Each IsFineSide ss → Each CanSpell (map (side_term here) ss)
    sides_fine [] h = tt
    sides_fine (s ∷ ss) h = (side_fine s h.0, sides_fine ss h.1)

    pair_fine : (p : Sym × Side) → IsFinePair p → CanPair p.0.0 (side_term here p.1)
    pair_fine p h = record { attribute = h.attribute; value = side_fine p.1 h.value }

    own_fine : (x : Variable) (bag : List (Sym × Side)) → Each IsFineOwn bag → Each CanSay (bag_said here (own_of x) bag)
    own_fine x [] h = tt
    own_fine x (p ∷ bag) h = (record { pair = pair_fine p h.0.pair; uncoloured = h.0.uncoloured; mark = λ e. mark_fine p.1 (h.0.mark e) }, own_fine x bag h.1)

    bag_fine : (s : Slot) → ((a : ℕ) (t : Term Variable) → CanPair a t → CanStand s a t) → (bag : List (Sym × Side)) → Each IsFinePair bag → Each CanSay (bag_said here s bag)
    bag_fine s may [] h = tt
    bag_fine s may (p ∷ bag) h = (may p.0.0 (side_term here p.1) (pair_fine p h.0), bag_fine s may bag h.1)

    head_fine : (x : Variable) (h : Head) → IsFineHead h → Each CanSay (head_said here x h)
    head_fine x h k =
        let own = bag_said here (own_of x) h.own in
        let top = bag_said here (top_of x) h.top in
        let bottom = bag_said here (bottom_of x) h.bottom in (
          tt,
          Each-append CanSay (colour_said x h.colour ++ own ++ top) bottom
              (Each-append CanSay (colour_said x h.colour ++ own) top
              (Each-append CanSay (colour_said x h.colour) own (colour_fine x h.colour) (own_fine x h.own k.own))
              (bag_fine (top_of x) (λ a t c. c) h.top k.top))
              (bag_fine (bottom_of x) (λ a t c. c) h.bottom k.bottom),
        )

    kids_fine : (x : Variable) (n : ℕ) (F : Forest KidHead) → AreFineKids F → Each CanSay (kids_said here x n F)
    kids_fine x n empty h = tt
    kids_fine x n (tree k kids empty) h =
        let y = block_variable here n k.head.name in
        Each-append CanSay (head_said here y k.head) (relation_said x k.down y ∷ kids_said here y (n + head_weight k.head + 1) kids)
        (head_fine y k.head h.0) (relation_fine x k.down y, kids_fine y (n + head_weight k.head + 1) kids h.1)
    kids_fine x n (tree k kids (tree next others more)) h =
        let y = block_variable here n k.head.name in
        let after = n + head_weight k.head + 1 + kids_weight kids in
        let z = block_variable here (after + 1) next.head.name in
        let inner = relation_said x k.down y ∷ kids_said here y (n + head_weight k.head + 1) kids in
        Each-append CanSay (head_said here y k.head ++ inner) (sisters_said y next.loose z ∷ kids_said here x (after + 1) (tree next others more))
        (Each-append CanSay (head_said here y k.head) inner (head_fine y k.head h.0) (relation_fine x k.down y, kids_fine y (n + head_weight k.head + 1) kids h.1))
        (sisters_fine y next.loose z, kids_fine x (after + 1) (tree next others more) h.2)

    block_fine : (n : ℕ) (b : Block) → IsFineBlock b → Each CanSay (block_said here n b)
    block_fine n b h =
        let x = block_variable here n b.head.name in
        Each-append CanSay (head_said here x b.head) (kids_said here x (n + head_weight b.head) b.kids) (head_fine x b.head h.0) (kids_fine x (n + head_weight b.head) b.kids h.1)

    item_fine : (n : ℕ) (i : SynItem) → IsFineItem i → Each CanSay (syntax_said here n i)
    item_fine n (item.Node b) h = block_fine n (block_of b) h
    item_fine n (item.Relation r how s) h = (relation_fine _ how _, tt)

    literal_fine : (n : ℕ) (l : Literal) → IsFineLiteral l → Each CanSay (literal_said here n l)
    literal_fine n l h = ((handle_fine n l.handle h.handle, (side_fine l.pred h.pred, sides_fine l.args h.args)), tt)

    equation_fine : (r : Ref) (s : Side) → IsFineSide s → Each CanSay (equation_said here r s)
    equation_fine r (side.Ref s) h = (tt, tt)
    equation_fine r (side.Name a) h = (h, tt)

    -- what a deed says can be written where the deed's names can
    pub deed_fine : (n : ℕ) (d : Deed) → IsFineDeed d → Each CanSay (deed_said here n d)
    deed_fine n (equation r s) h = equation_fine r s h
    deed_fine n (syntax_items items) h = from_fine syntax_weight (syntax_said here) IsFineItem item_fine n items h
    deed_fine n (semantics literals) h = from_fine literal_weight (literal_said here) IsFineLiteral literal_fine n literals h
    deed_fine n (interface bag) h = bag_fine the_interface (λ a t c. c) bag h
