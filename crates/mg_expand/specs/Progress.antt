-- What an expander is for its callers.
use Rattle.std.specs.Prelude.{ℕ, List, Bool}
use Rattle.gr_terms.specs.declared.Sym.{Sym}
use Rattle.mg_syntax.specs.declared.item.Item.{Item}

-- the metagrammar and the class, how many expansions it gave, whether one was too large,
-- and whether memory was wanting
pub record Progress : Type 0 where
  pub metagrammar : List Item
  pub class : Sym
  pub given : ℕ
  pub too_large : Bool
  pub failed : Bool
