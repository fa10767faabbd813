-- What nodes are by their marks and categories, whether a tree has a foot, and the category of a root.
use Rattle.std.specs.Prelude.{◌≡◌, ℕ, suc, ◌+◌, ◌≤◌, List, [], ◌∷◌, length, drop, slice_get, Option, Some, None, Bool, true, false, ◌&&◌, ◌||◌, not, if◌then◌else◌, refl}
use Rattle.std.proofs.Common.{ap, sym, ◌∙◌, arith}
use Rattle.std.proofs.lemmas.List.{at_drop_all}
use Rattle.std.proofs.lemmas.Option.{none-some, same_Some}
use Rattle.gr_base.proofs.ListLemmas.{drop-slice_get}
use Rattle.gr_terms.specs.Canonical.{Node}
use Rattle.gr_terms.specs.Constants.{SUBST, FOOT, LEX, NADJ}
use Rattle.gr_terms.specs.Networks.{Term, name, variable}
use Rattle.td_tree.specs.TreeViews.{Pairs}
use Rattle.td_tree.specs.declared.TreeNode.{TreeNode}
use Rattle.tg_grammar.specs.Marks.{first_name, is_marked, is_number, lists_at, mark_number, name_of, node_lists, IsMarkOf}
use Rattle.tg_grammar.specs.Spots.{category_of, has_value, is_auxiliary, kind_of, kind_of_spot, root_category, substitution, site, plain}
use Rattle.tg_grammar.specs.declared.marks.Mark.{Mark}
use Rattle.tg_grammar.specs.declared.marks.Mark.TheVariants as mark
use Rattle.tg_grammar.specs.declared.spots.Kind.{Kind}
use Rattle.tg_grammar.specs.declared.spots.Kind.TheVariants.{Substitution, Site, Plain}

-- the kind by whether the node has each of the four marks, and by its category
kind_when : Bool → Bool → Bool → Bool → Option (Term ℕ) → Kind
kind_when s f l a c = kind_of_spot (if s then substitution c else (if has_value c && not (s || f || l || a) then site c else plain))

-- the kind by the name that is the mark
kind_named : Option ℕ → Option (Term ℕ) → Kind
kind_named m c = kind_of_spot (if is_number m SUBST then substitution c else (if has_value c && not (is_number m SUBST || is_number m FOOT || is_number m LEX || is_number m NADJ) then site c else plain))

-- the kind by the mark, and by whether the node has a category
abbrev pub kind_by : Option Mark → Bool → Kind
kind_by None has = if has then Site else Plain
kind_by (Some mark.Anchor) has = if has then Site else Plain
kind_by (Some mark.Coanchor) has = if has then Site else Plain
kind_by (Some mark.Subst) has = Substitution
kind_by (Some mark.Foot) has = Plain
kind_by (Some mark.Lex) has = Plain
kind_by (Some mark.Nadj) has = Plain

unmarked-kind : (c : Option (Term ℕ)) → kind_when false false false false c ≡ kind_by None (has_value c)
unfolding kind_when
unmarked-kind None = refl
unmarked-kind (Some t) = refl

marked-kind : (m : Mark) (c : Option (Term ℕ)) → kind_named (Some (mark_number m)) c ≡ kind_by (Some m) (has_value c)
unfolding kind_named
marked-kind mark.Anchor None = refl
marked-kind mark.Anchor (Some t) = refl
marked-kind mark.Coanchor None = refl
marked-kind mark.Coanchor (Some t) = refl
marked-kind mark.Subst c = refl
marked-kind mark.Foot None = refl
marked-kind mark.Foot (Some t) = refl
marked-kind mark.Lex None = refl
marked-kind mark.Lex (Some t) = refl
marked-kind mark.Nadj None = refl
marked-kind mark.Nadj (Some t) = refl

pub kind-by : (n : Node Pairs) (m : Option Mark) → IsMarkOf n m → kind_by m (has_value (category_of n)) ≡ kind_of n
unfolding kind_when kind_named
kind-by n None none =
    sym (unmarked-kind (category_of n))
    ∙ (λ i. kind_when (sym (none mark.Subst) i) (sym (none mark.Foot) i) (sym (none mark.Lex) i) (sym (none mark.Nadj) i) (category_of n))
kind-by n (Some m) is = sym (marked-kind m (category_of n)) ∙ ap (λ k. kind_named k (category_of n)) (sym is)

-- ---- whether a node is a foot

-- whether one of the nodes from a place on is
abbrev pub feet_from : ℕ → List TreeNode → Bool
feet_from i nodes = is_auxiliary (node_lists (drop i nodes))

pub foot_here : (nodes : List TreeNode) (i : ℕ) (x : TreeNode) → slice_get nodes i ≡ Some x → is_marked FOOT (lists_at x) ≡ true → feet_from i nodes ≡ true
foot_here nodes i x at e = ap (λ xs. is_auxiliary (node_lists xs)) (drop-slice_get nodes i x at) ∙ ap (λ b. b || is_auxiliary (node_lists (drop (suc i) nodes))) e

pub foot_later : (nodes : List TreeNode) (i : ℕ) (x : TreeNode) → slice_get nodes i ≡ Some x → is_marked FOOT (lists_at x) ≡ false → feet_from i nodes ≡ feet_from (i + 1) nodes
foot_later nodes i x at e =
    let next : suc i ≡ i + 1 = omega arith in
    ap (λ xs. is_auxiliary (node_lists xs)) (drop-slice_get nodes i x at) ∙ ap (λ b. b || is_auxiliary (node_lists (drop (suc i) nodes))) e
    ∙ ap (λ k. is_auxiliary (node_lists (drop k nodes))) next

pub no_foot : (nodes : List TreeNode) (i : ℕ) → length nodes ≤ i → feet_from i nodes ≡ false
no_foot nodes i far = at_drop_all (λ xs. is_auxiliary (node_lists xs)) nodes i far

-- ---- a category that is a name

named_value : (o : Option (Term ℕ)) (a : ℕ) → name_of o ≡ Some a → o ≡ Some (name a)
named_value None a e = absurd (none-some a e)
named_value (Some (name b)) a e = ap (λ k. Some (name k)) (same_Some b a e)
named_value (Some (variable v)) a e = absurd (none-some a e)

pub root-named : (nodes : List TreeNode) (a : ℕ) → first_name nodes ≡ Some a → root_category (node_lists nodes) ≡ Some (name a)
root-named [] a e = absurd (none-some a e)
root-named (x ∷ xs) a e = named_value (category_of (lists_at x)) a e
