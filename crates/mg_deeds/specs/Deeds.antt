-- Deeds: what a statement does that neither calls nor chooses.
use Rattle.std.specs.Prelude.{List, Option, Some, None}
use Rattle.gr_terms.specs.declared.Sym.{Sym}
use Rattle.mg_syntax.specs.declared.body.Ref.{Ref}
use Rattle.mg_syntax.specs.declared.body.Side.{Side}
use Rattle.mg_syntax.specs.declared.body.Literal.{Literal}
use Rattle.mg_syntax.specs.declared.body.Statement.{Statement, out-Statement}
use Rattle.mg_syntax.specs.declared.body.Statement.TheOpen as statement
use Rattle.mg_syntax.specs.declared.body.Statement.TheOpen.{Statement-F}
use Rattle.mg_syntax.specs.declared.block.SynItem.{SynItem}

pub data Deed : Type 0 where
  equation : Ref → Side → Deed
  syntax_items : List SynItem → Deed
  semantics : List Literal → Deed
  interface : List (Sym × Side) → Deed

-- a group chooses, and a call calls
abbrev pub deed_in : Statement-F Statement → Option Deed
deed_in (statement.Group b) = None
deed_in (statement.Call c) = None
deed_in (statement.Bind x c) = None
deed_in (statement.Equation r s) = Some (equation r s)
deed_in (statement.Syn items) = Some (syntax_items items)
deed_in (statement.Sem literals) = Some (semantics literals)
deed_in (statement.Iface bag) = Some (interface bag)

abbrev pub deed_of : Statement → Option Deed
deed_of s = deed_in (out-Statement s)
