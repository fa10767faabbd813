-- Literals that are equal as they are written, and of several the one that stands first.
use Rattle.std.specs.Prelude.{List, [], ◌∷◌, Option, Some, None, Bool, true, false, ◌&&◌, ◌||◌, bytes_eq, if◌then◌else◌}
use Rattle.gr_feats.specs.Grammars.{Written, a_name, a_variable, WrittenLiteral}

-- the terms are the same name or the same variable
abbrev pub same_term : Written → Written → Bool
same_term (a_name t) (a_name u) = bytes_eq t u
same_term (a_name t) (a_variable u) = false
same_term (a_variable t) (a_name u) = false
same_term (a_variable t) (a_variable u) = bytes_eq t u

-- a handle that is left out is the same as another one that is left out
abbrev pub same_handle : Option Written → Option Written → Bool
same_handle None None = true
same_handle None (Some v) = false
same_handle (Some w) None = false
same_handle (Some w) (Some v) = same_term w v

abbrev pub same_args : List Written → List Written → Bool
same_args [] [] = true
same_args [] (v ∷ vs) = false
same_args (w ∷ ws) [] = false
same_args (w ∷ ws) (v ∷ vs) = same_term w v && same_args ws vs

-- the literals are equal as they are written; commas and semicolons have no part in this
abbrev pub same_literal : WrittenLiteral → WrittenLiteral → Bool
same_literal w v = same_handle w.handle v.handle && (same_term w.pred v.pred && same_args w.args v.args)

-- one of the literals is equal to it
abbrev pub is_there : List WrittenLiteral → WrittenLiteral → Bool
is_there [] w = false
is_there (v ∷ vs) w = same_literal v w || is_there vs w

-- those of the literals that no equal one stands before, neither in the list nor among those that stand before it
abbrev pub firsts : List WrittenLiteral → List WrittenLiteral → List WrittenLiteral
firsts before [] = []
firsts before (w ∷ ws) = if is_there before w then firsts (w ∷ before) ws else w ∷ firsts (w ∷ before) ws
