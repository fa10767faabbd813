-- The nodes of a small description of the tests stand in search order.
use Rattle.std.specs.Prelude.{◌≡◌, ◌+◌, ◌<◌, ◌≤◌, List, [], ◌∷◌, ◌++◌, length}
use Rattle.std.proofs.Common.{ap, sym, ◌∙◌, subst, append_assoc, append-nil, arith}
use Rattle.std.proofs.lemmas.List.{length_push}
use Rattle.gr_base.specs.Lists.{Each}
use Rattle.gr_base.proofs.ListLemmas.{Each-append}
use Rattle.td_desc.specs.declared.Colour.{Colour}
use Rattle.td_desc.specs.declared.Colour.TheVariants.{Black, White, Red}
use Rattle.td_desc.specs.declared.DescribedNode.{DescribedNode}
use Rattle.td_desc.specs.Conditions.{AreSlotsBelow, InSearchOrder}
use Rattle.td_tests.specs.Sketches.{AddsNodes}

pub adds_none : (c : Colour) (old : List DescribedNode) → length old ≤ 24 → AddsNodes c old old
adds_none c old few = record { more = []; is = sym (append-nil old); colour = tt; slots = tt; few = few }

pub adds_one : (c : Colour) (old now new : List DescribedNode) (n : DescribedNode) → AddsNodes c old now → new ≡ now ++ n ∷ []
    → n.colour ≡ c → AreSlotsBelow 73 n → length now < 24 → AddsNodes c old new
adds_one c old now new n a e colour slots low = record {
  more = a.more ++ n ∷ [];
  is = e ∙ ap (λ xs. xs ++ n ∷ []) a.is ∙ append_assoc old a.more (n ∷ []);
  colour = Each-append (λ (k : DescribedNode). k.colour ≡ c) a.more (n ∷ []) a.colour (colour, tt);
  slots = Each-append (AreSlotsBelow 73) a.more (n ∷ []) a.slots (slots, tt);
  few = let l : length new ≡ length now + 1 = ap length e ∙ length_push now n in omega (arith, l, low);
}

-- from none on blacks, whites and reds were added
module _ (none blacks whites reds : List DescribedNode) (e : none ≡ []) (b : AddsNodes Black none blacks) (w : AddsNodes White blacks whites) (r : AddsNodes Red whites reds) where
  first : blacks ≡ b.more
  first = b.is ∙ ap (λ xs. xs ++ b.more) e

  pub added_in_order : InSearchOrder reds
  added_in_order = record {
    blacks = b.more;
    whites = w.more;
    reds = r.more;
    parts = r.is ∙ ap (λ xs. xs ++ r.more) (w.is ∙ ap (λ xs. xs ++ w.more) first);
    are_black = b.colour;
    are_white = w.colour;
    are_red = r.colour;
  }

  pub added_slots : Each (AreSlotsBelow 73) reds
  added_slots =
      let P = AreSlotsBelow 73 in
      let black : Each P blacks = subst (Each P) (sym first) b.slots in
      let white : Each P whites = subst (Each P) (sym w.is) (Each-append P blacks w.more black w.slots) in
      subst (Each P) (sym r.is) (Each-append P whites r.more white r.slots)
