-- Whether marks are names.
use Rattle.std.specs.Prelude.{◌≡◌, ℕ, List, Some, option_map, slice_get, true, false, IsTrue, ◌↔◌, refl}
use Rattle.std.proofs.Common.{ap, sym, ◌∙◌}
use Rattle.std.proofs.lemmas.Bool.{false≢true}
use Rattle.std.proofs.lemmas.Option.{none-some, same_Some, slice_get-map}
use Rattle.gr_base.specs.Lists.{IsAmong, Each}
use Rattle.gr_base.proofs.ListLemmas.{Each-at, IsAmong-slice_get}
use Rattle.gr_terms.specs.Bags.{IsListed, LacksAttribute}
use Rattle.gr_terms.specs.Canonical.{Node}
use Rattle.gr_terms.specs.Constants.{MARK}
use Rattle.gr_terms.specs.Networks.{name, variable}
use Rattle.gr_terms.specs.Views.{term_of}
use Rattle.gr_terms.specs.declared.Term.{Term}
use Rattle.gr_terms.specs.declared.Term.TheVariants.{Const, Var}
use Rattle.td_tree.specs.TreeViews.{Pairs}
use Rattle.td_tree.specs.declared.TreeNode.{TreeNode}
use Rattle.tg_grammar.specs.Marks.{is_marked, is_number, lists_at, name_of, node_lists}
use Rattle.tg_grammar.proofs.MarkLemmas.{value_of-among, value_of-lacks}
use Rattle.tg_grammar.specs.NamedMarks.{IsNamedMark}

pub variable-named : (x : TreeNode) (value : Term) (v : ℕ) → IsListed x.own → IsAmong x.own (record { 0 = MARK }, value) → value ≡ Var v → IsTrue false ↔ IsNamedMark (lists_at x)
variable-named x value v listed i is = (
  λ h. absurd (false≢true h),
  λ named. absurd (named v (value_of-among x.own (record { 0 = MARK }) value listed i ∙ ap (λ y. Some (term_of y)) is)),
)

pub name-named : (x : TreeNode) (value : Term) (a : ℕ) → IsListed x.own → IsAmong x.own (record { 0 = MARK }, value) → value ≡ Const (record { 0 = a }) → IsTrue true ↔ IsNamedMark (lists_at x)
name-named x value a listed i is = (
  λ h v e.
      let clash : name a ≡ variable v = same_Some (name a) (variable v) (sym (value_of-among x.own (record { 0 = MARK }) value listed i ∙ ap (λ y. Some (term_of y)) is) ∙ e) in
      cc,
  λ h. refl,
)

pub none-named : (x : TreeNode) → LacksAttribute x.own (record { 0 = MARK }) → IsTrue true ↔ IsNamedMark (lists_at x)
none-named x lacks = (λ h v e. none-some (variable v) (sym (value_of-lacks x.own (record { 0 = MARK }) lacks) ∙ e), λ h. refl)

-- one that doesn't pass
pub not-each : {A : Type 0} (P : A → Type 0) (xs : List A) (i : ℕ) (x : A) → slice_get xs i ≡ Some x → (IsTrue false ↔ P x) → IsTrue false ↔ Each P xs
not-each P xs i x at h = (λ no-way. absurd (false≢true no-way), λ each. h.1 (Each-at P xs x each (IsAmong-slice_get xs i x at)))

-- the lists of a node stand at its number
pub lists-there : (nodes : List TreeNode) (i : ℕ) (x : TreeNode) → slice_get nodes i ≡ Some x → slice_get (node_lists nodes) i ≡ Some (lists_at x)
lists-there nodes i x at = slice_get-map lists_at nodes i ∙ ap (option_map lists_at) at

-- a mark is a name
pub marked-named : (m : ℕ) (n : Node Pairs) → is_marked m n ≡ true → IsNamedMark n
marked-named m n marked v e = false≢true (sym (ap (λ o. is_number (name_of o) m) e) ∙ marked)
