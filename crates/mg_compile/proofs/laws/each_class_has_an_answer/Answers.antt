use Rattle.std.proofs.Common.{inl, inr}
use Rattle.mg_compile.proofs.Existing.{class_fault, right_list}
use Rattle.mg_compile.proofs.laws.each_class_has_an_answer.Goals as goal

pub returns : goal.returns
returns c texts m name class budget once known scoped there =
    let ws = c.expansions_are_finite.ensures m name class scoped there in
    let some = c.each_class_has_an_expansion.ensures m name class ws.0 scoped there ws.1 in
    elim (class_fault m c.one_description.ensures name ws.0 ws.1 budget) [
      | inl h ↦ inl h
      | inr n ↦ inr (n, right_list m c.one_description.ensures name texts once known ws.0 ws.1 some budget)
    ]
