-- Names below a number: in values, blocks and deeds, and in what these say.
use Rattle.std.specs.Prelude.{ℕ, ◌+◌, ◌<◌, List, [], ◌∷◌, ◌++◌, map, Bool, true, false, Option, Some, None, ⊤}
use Rattle.gr_base.specs.Lists.{Each, gathered}
use Rattle.gr_base.specs.Forests.{Forest, empty, tree}
use Rattle.gr_base.proofs.ListLemmas.{Each-append}
use Rattle.gr_terms.specs.declared.Sym.{Sym}
use Rattle.mg_syntax.specs.declared.body.Ref.{Ref}
use Rattle.mg_syntax.specs.declared.body.Side.{Side}
use Rattle.mg_syntax.specs.declared.body.Side.TheVariants as side
use Rattle.mg_syntax.specs.declared.body.Literal.{Literal}
use Rattle.mg_syntax.specs.declared.block.Paint.{Paint}
use Rattle.mg_syntax.specs.declared.block.Relate.{Relate}
use Rattle.mg_syntax.specs.declared.block.Relate.TheVariants.{Parent, Above, AboveOrSame, Next, Left, LeftOrSame, Same}
use Rattle.mg_syntax.specs.declared.block.SynItem.{SynItem}
use Rattle.mg_syntax.specs.declared.block.SynItem.TheVariants as item
use Rattle.mg_facts.specs.declared.variable.Variable.{Variable}
use Rattle.mg_facts.specs.Said.{Slot, own_of, top_of, bottom_of, the_interface, Said}
use Rattle.mg_facts.specs.Meanings.{names_in, term_names}
use Rattle.mg_deeds.specs.Blocks.{Head, KidHead, Block, block_of}
use Rattle.mg_deeds.specs.Deeds.{Deed, equation, syntax_items, semantics, interface}
use Rattle.mg_deeds.specs.Weights.{head_weight, kids_weight, syntax_weight, literal_weight}
use Rattle.mg_deeds.specs.Sayings.{relation_said, colour_said, sisters_said, said_from, side_term, handle_of, block_variable, bag_said, head_said, kids_said, block_said, syntax_said, literal_said, equation_said, deed_said}

-- each name of a fact is below the number
abbrev pub AreBelow : ℕ → List ℕ → Type 0
AreBelow count names = Each (λ a. a < count) names

abbrev pub IsNamedSaid : ℕ → Said → Type 0
IsNamedSaid count s = AreBelow count (names_in s)

pub all_below : (count : ℕ) (all : List Said) → Each (IsNamedSaid count) all → AreBelow count (gathered names_in all)
all_below count [] h = tt
all_below count (s ∷ all) h = Each-append (λ a. a < count) (names_in s) (gathered names_in all) h.0 (all_below count all h.1)

module _ (count : ℕ) where
  abbrev pub IsNamedSide : Side → Type 0
  IsNamedSide (side.Ref r) = ⊤
  IsNamedSide (side.Name a) = a.0 < count

  abbrev pub IsNamedPair : Sym × Side → Type 0
  IsNamedPair p = (p.0.0 < count) × IsNamedSide p.1

  abbrev pub IsNamedHandle : Option Side → Type 0
  IsNamedHandle None = ⊤
  IsNamedHandle (Some h) = IsNamedSide h

  abbrev pub IsNamedSaying : Literal → Type 0
  IsNamedSaying l = IsNamedHandle l.handle × IsNamedSide l.pred × Each IsNamedSide l.args

  pub record IsNamedHead (h : Head) : Type 0 where
    pub own : Each IsNamedPair h.own
    pub top : Each IsNamedPair h.top
    pub bottom : Each IsNamedPair h.bottom

  abbrev pub AreNamedKids : Forest KidHead → Type 0
  AreNamedKids empty = ⊤
  AreNamedKids (tree k kids more) = IsNamedHead k.head × AreNamedKids kids × AreNamedKids more

  abbrev pub IsNamedBlock : Block → Type 0
  IsNamedBlock b = IsNamedHead b.head × AreNamedKids b.kids

  abbrev pub IsNamedItem : SynItem → Type 0
  IsNamedItem (item.Node b) = IsNamedBlock (block_of b)
  IsNamedItem (item.Relation r how s) = ⊤

  abbrev pub IsNamedDeed : Deed → Type 0
  IsNamedDeed (equation r s) = IsNamedSide s
  IsNamedDeed (syntax_items items) = Each IsNamedItem items
  IsNamedDeed (semantics literals) = Each IsNamedSaying literals
  IsNamedDeed (interface bag) = Each IsNamedPair bag

  relation_named : (x : Variable) (how : Relate) (y : Variable) → IsNamedSaid count (relation_said x how y)
  relation_named x Parent y = tt
  relation_named x Above y = tt
  relation_named x AboveOrSame y = tt
  relation_named x Next y = tt
  relation_named x Left y = tt
  relation_named x LeftOrSame y = tt
  relation_named x Same y = tt

  sisters_named : (x : Variable) (loose : Bool) (y : Variable) → IsNamedSaid count (sisters_said x loose y)
  sisters_named x true y = tt
  sisters_named x false y = tt

  colour_named : (x : Variable) (c : Option Paint) → Each (IsNamedSaid count) (colour_said x c)
  colour_named x None = tt
  colour_named x (Some c) = (tt, tt)

  from_named : {A : Type 0} (weight : A → ℕ) (said : ℕ → A → List Said) (Q : A → Type 0)
      → ((n : ℕ) (x : A) → Q x → Each (IsNamedSaid count) (said n x))
      → (n : ℕ) (xs : List A) → Each Q xs → Each (IsNamedSaid count) (said_from weight said n xs)
  from_named weight said Q one n [] h = tt
  from_named weight said Q one n (x ∷ xs) h =
      Each-append (IsNamedSaid count) (said n x) (said_from weight said (n + weight x) xs) (one n x h.0) (from_named weight said Q one (n + weight x) xs h.1)

  module _ (here : ℕ) where
    side_named : (s : Side) → IsNamedSide s → AreBelow count (term_names (side_term here s))
    side_named (side.Ref r) h = tt
    side_named (side.Name a) h = (h, tt)

    handle_named : (n : ℕ) (s : Option Side) → IsNamedHandle s → AreBelow count (term_names (handle_of here n s))
    handle_named n None h = tt
    handle_named n (Some s) h = side_named s h

    sides_named : (ss : List Side) → Each IsNamedSide ss → AreBelow count (gathered term_names (map (side_term here) ss))
    sides_named [] h = tt
    sides_named (s ∷ ss) h = Each-append (λ a. a < count) (term_names (side_term here s)) (gathered term_names (map (side_term here) ss)) (side_named s h.0) (sides_named ss h.1)

    bag_named : (s : Slot) (bag : List (Sym × Side)) → Each IsNamedPair bag → Each (IsNamedSaid count) (bag_said here s bag)
    bag_named s [] h = tt
    bag_named s (p ∷ bag) h = ((h.0.0, side_named p.1 h.0.1), bag_named s bag h.1)

    head_named : (x : Variable) (h : Head) → IsNamedHead h → Each (IsNamedSaid count) (head_said here x h)
    head_named x h k =
        let own = bag_said here (own_of x) h.own in
        let top = bag_said here (top_of x) h.top in
        let bottom = bag_said here (bottom_of x) h.bottom in
        let P = IsNamedSaid count in (
          tt,
          Each-append P (colour_said x h.colour ++ own ++ top) bottom
              (Each-append P (colour_said x h.colour ++ own) top
              (Each-append P (colour_said x h.colour) own (colour_named x h.colour) (bag_named (own_of x) h.own k.own))
              (bag_named (top_of x) h.top k.top))
              (bag_named (bottom_of x) h.bottom k.bottom),
        )

    kids_named : (x : Variable) (n : ℕ) (F : Forest KidHead) → AreNamedKids F → Each (IsNamedSaid count) (kids_said here x n F)
    kids_named x n empty h = tt
    kids_named x n (tree k kids empty) h =
        let y = block_variable here n k.head.name in
        Each-append (IsNamedSaid count) (head_said here y k.head) (relation_said x k.down y ∷ kids_said here y (n + head_weight k.head + 1) kids)
        (head_named y k.head h.0) (relation_named x k.down y, kids_named y (n + head_weight k.head + 1) kids h.1)
    kids_named x n (tree k kids (tree next others more)) h =
        let P = IsNamedSaid count in
        let y = block_variable here n k.head.name in
        let after = n + head_weight k.head + 1 + kids_weight kids in
        let z = block_variable here (after + 1) next.head.name in
        let inner = relation_said x k.down y ∷ kids_said here y (n + head_weight k.head + 1) kids in
        Each-append P (head_said here y k.head ++ inner) (sisters_said y next.loose z ∷ kids_said here x (after + 1) (tree next others more))
        (Each-append P (head_said here y k.head) inner (head_named y k.head h.0) (relation_named x k.down y, kids_named y (n + head_weight k.head + 1) kids h.1))
        (sisters_named y next.loose z, kids_named x (after + 1) (tree next others more) h.2)

    block_named : (n : ℕ) (b : Block) → IsNamedBlock b → Each (IsNamedSaid count) (block_said here n b)
    block_named n b h =
        let x = block_variable here n b.head.name in
        Each-append (IsNamedSaid count) (head_said here x b.head) (kids_said here x (n + head_weight b.head) b.kids) (head_named x b.head h.0) (kids_named x (n + head_weight b.head) b.kids h.1)

    item_named : (n : ℕ) (i : SynItem) → IsNamedItem i → Each (IsNamedSaid count) (syntax_said here n i)
    item_named n (item.Node b) h = block_named n (block_of b) h
    item_named n (item.Relation r how s) h = (relation_named _ how _, tt)

    literal_named : (n : ℕ) (l : Literal) → IsNamedSaying l → Each (IsNamedSaid count) (literal_said here n l)
    literal_named n l h =
        let rest = term_names (side_term here l.pred) ++ gathered term_names (map (side_term here) l.args) in (
          Each-append (λ a. a < count) (term_names (handle_of here n l.handle)) rest (handle_named n l.handle h.0)
              (Each-append (λ a. a < count) (term_names (side_term here l.pred)) (gathered term_names (map (side_term here) l.args)) (side_named l.pred h.1) (sides_named l.args h.2)),
          tt,
        )

    equation_named : (r : Ref) (s : Side) → IsNamedSide s → Each (IsNamedSaid count) (equation_said here r s)
    equation_named r (side.Ref s) h = (tt, tt)
    equation_named r (side.Name a) h = ((h, tt), tt)

    -- what a deed says has the names of the deed
    pub deed_named : (n : ℕ) (d : Deed) → IsNamedDeed d → Each (IsNamedSaid count) (deed_said here n d)
    deed_named n (equation r s) h = equation_named r s h
    deed_named n (syntax_items items) h = from_named syntax_weight (syntax_said here) IsNamedItem item_named n items h
    deed_named n (semantics literals) h = from_named literal_weight (literal_said here) IsNamedSaying literal_named n literals h
    deed_named n (interface bag) h = bag_named the_interface bag h
