use Rattle.std.proofs.Common.{◌≡◌, ◌∷◌, [], ◌++◌, ◌+◌, refl, sym, subst, ◌∙◌, inr, arith, nat_eq}
use Rattle.indexmap.proofs.CallerLemmas.{insert_entry-new}
use Rattle.gr_feats.specs.Numberings.{IsNumbering, GoesOnFrom, with_name}
use Rattle.gr_feats.proofs.NumberingLemmas.{nothing_found, GoesOnFrom-with_name, IsNumbering-with_name}
use Rattle.gr_feats.proofs.names.Names.number.Goals as goal

-- the numbering is now the old one with the name
named_after : (c : goal.After-self-1) → c.insert.new.self.entries ≡ c.args.self.now.named ++ (c.args.name.0, c.args.self.now.given) ∷ []
named_after c =
    let missing = rw (← c.self.view_is) at c.in_default.ensures in
    rw (← c.self.view_is) (c.in_ok-insert.ensures.entries ∙ insert_entry-new nat_eq c.self.inside.numbers c.args.name.0 c.self.inside.given (nothing_found c.self.inside.numbers.entries c.args.name.0 missing))

given_after : (c : goal.After-self-1) → (c.self.inside.given + 1) ≡ c.args.self.now.given + 1
given_after c = rw (← c.self.view_is) refl

is_after : (c : goal.After-self-1) → record { named = c.insert.new.self.entries; given = c.self.inside.given + 1 } ≡ with_name c.args.self.now c.args.name.0
is_after c = λ i. record { named = named_after c i; given = given_after c i }

numbering_after : (c : goal.After-self-1) → IsNumbering (record { named = c.insert.new.self.entries; given = c.self.inside.given + 1 })
numbering_after c =
    let before = rw c.self.view_is at c.self.invariant.0 in
    subst IsNumbering (sym (is_after c)) (IsNumbering-with_name c.args.self.now c.args.name.0 before c.in_default.ensures)

pub invariant_of-self-2 : goal.invariant_of-self-2
invariant_of-self-2 c = (numbering_after c, omega (arith, c.if-number-ge-VARIABLE_LIMIT.false))

pub returns : goal.returns
returns c = record {
  ok = inr (c.in_default.ensures, (rw (← c.self.view_is) refl, is_after c));
  err = tt;
  goes_on = subst (GoesOnFrom c.args.self.now) (sym (is_after c)) (GoesOnFrom-with_name c.args.self.now c.args.name.0);
  numbering = numbering_after c;
}
