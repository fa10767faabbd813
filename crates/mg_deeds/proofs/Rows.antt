-- A worked example: a block with two kids, of which the second has a kid of its own, and a literal.
use Rattle.std.specs.Prelude.{◌≡◌, ℕ, List, [], ◌∷◌, Option, Some, None, true, false, refl}
use Rattle.gr_base.specs.Forests.{empty, tree}
use Rattle.gr_terms.specs.declared.Sym.{Sym}
use Rattle.gr_terms.specs.Networks.{name, variable}
use Rattle.td_desc.specs.declared.Colour.TheVariants as colour
use Rattle.td_desc.specs.declared.Dominance.TheVariants as dominance
use Rattle.mg_syntax.specs.declared.body.Ref.{Ref}
use Rattle.mg_syntax.specs.declared.body.Side.{Side}
use Rattle.mg_syntax.specs.declared.body.Side.TheVariants as side
use Rattle.mg_syntax.specs.declared.body.Literal.{Literal}
use Rattle.mg_syntax.specs.declared.block.Relate.TheVariants.{Parent, AboveOrSame}
use Rattle.mg_syntax.specs.declared.block.Paint.TheVariants.{White}
use Rattle.mg_facts.specs.declared.variable.Variable.{Variable}
use Rattle.mg_facts.specs.declared.variable.Local.TheVariants.{Name, Dotted, Own}
use Rattle.mg_facts.specs.Said.{own_of, block, related, coloured, paired, says}
use Rattle.mg_deeds.specs.Blocks.{Head, KidHead, Block}
use Rattle.mg_deeds.specs.Weights.{block_weight, literal_weight}
use Rattle.mg_deeds.specs.Sayings.{block_said, literal_said}

abbrev sym : ℕ → Sym
sym n = record { 0 = n }

abbrev plain : ℕ → Ref
plain n = record { of = None; name = sym n }

abbrev head : Option Ref → List (Sym × Side) → Head
head x own = record { name = x; colour = None; own = own; top = []; bottom = [] }

abbrev cat : ℕ → List (Sym × Side)
cat c = (sym 0, side.Name (sym c)) ∷ []

-- node ?a (color=white)[cat=c] { node [cat=d] ,,, node { ... node ?b } }
abbrev example : Block
example =
    let first : KidHead = record { down = Parent; loose = false; head = head None (cat 11) } in
    let second : KidHead = record { down = Parent; loose = true; head = head None [] } in
    let third : KidHead = record { down = AboveOrSame; loose = false; head = head (Some (plain 41)) [] } in
    record {
      head = record { name = Some (plain 40); colour = Some White; own = cat 10; top = []; bottom = [] };
      kids = tree first empty (tree second (tree third empty empty) empty);
    }

pub example_weight : block_weight example ≡ 11
example_weight = refl

-- in the call 7, behind 20 items
abbrev at_call : ℕ → Variable
at_call n = record { at = 7; local = Name n }

abbrev own : ℕ → Variable
own n = record { at = n; local = Own }

pub example_facts : block_said 7 20 example
    ≡ block (at_call 40) ∷ coloured (at_call 40) colour.White ∷ paired (own_of (at_call 40)) 0 (name 10)
    ∷ block (own 23) ∷ paired (own_of (own 23)) 0 (name 11) ∷ related (at_call 40) dominance.Parent (own 23)
    ∷ related (own 23) dominance.Left (own 27)
    ∷ block (own 27) ∷ related (at_call 40) dominance.Parent (own 27)
    ∷ block (at_call 41) ∷ related (own 27) dominance.AboveOrSame (at_call 41) ∷ []
example_facts = refl

-- p(?x.?y, ?z)
abbrev literal : Literal
literal = record {
  handle = None;
  pred = side.Name (sym 12);
  args = side.Ref (record { of = Some (sym 42); name = sym 43 }) ∷ side.Ref (plain 44) ∷ [];
}

pub literal_items : literal_weight literal ≡ 3
literal_items = refl

pub literal_facts : literal_said 7 20 literal
    ≡ says (record { handle = variable (own 20); pred = name 12; args = variable (record { at = 7; local = Dotted 42 43 }) ∷ variable (at_call 44) ∷ [] }) ∷ []
literal_facts = refl
