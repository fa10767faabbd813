-- Counts that grow: what is below one is below a greater one.
use Rattle.std.specs.Prelude.{◌≡◌, ℕ, ◌+◌, ◌≤◌, List, [], ◌∷◌, take, Some, slice_get}
use Rattle.std.proofs.Common.{arith}
use Rattle.gr_base.specs.Lists.{Each}
use Rattle.gr_terms.specs.declared.Sym.{Sym}
use Rattle.gr_terms.specs.declared.Term.{Term}
use Rattle.gr_terms.specs.declared.Term.TheVariants.{Const, Var}
use Rattle.gr_store.specs.Contents.{IsMade}
use Rattle.tg_grammar.proofs.GrammarLemmas.{Each-take_more}
use Rattle.lx_anchor.specs.Counts.{HasFewFeatures, IsBagBelow, IsClassBelow, IsEntryBelow, IsLiteralBelow, IsNodeBelow, IsTreeBelow}

-- P holds also at greater counts
abbrev pub Grows : {A : Type 0} → (ℕ → A → Type 0) → Type 0
Grows {A} P = (m n : ℕ) (x : A) → m ≤ n → P m x → P n x

pub each-grows : {A : Type 0} (P : ℕ → A → Type 0) → Grows P → (m n : ℕ) (xs : List A) → m ≤ n → Each (P m) xs → Each (P n) xs
each-grows P grows m n [] le each = tt
each-grows P grows m n (x ∷ xs) le each = (grows m n x le each.0, each-grows P grows m n xs le each.1)

-- one more of a list
pub one-more : {A : Type 0} (P : ℕ → A → Type 0) → Grows P → (count m n : ℕ) (xs : List A) (i : ℕ) (x : A) → slice_get xs i ≡ Some x → (count ≤ m) × Each (P m) (take i xs) → (m ≤ n) × P n x
    → (count ≤ n) × Each (P n) (take (i + 1) xs)
one-more P grows count m n xs i x at (le, each) (more, here) = (omega arith, Each-take_more (P n) xs i x at (each-grows P grows m n (take i xs) more each) here)

pub term-grows : Grows IsMade
term-grows m n (Const p) le h = omega arith
term-grows m n (Var v) le h = omega arith

pub pair-grows : Grows (λ n (p : Sym × Term). IsMade n p.1)
pair-grows m n p le h = term-grows m n p.1 le h

pub bag-grows : Grows IsBagBelow
bag-grows m n bag le h = each-grows (λ n (p : Sym × Term). IsMade n p.1) pair-grows m n bag le h

pub literal-grows : Grows IsLiteralBelow
literal-grows m n l le h = record { handle = term-grows m n l.handle le h.handle; pred = term-grows m n l.pred le h.pred; args = each-grows IsMade term-grows m n l.args le h.args }

pub node-grows : Grows IsNodeBelow
node-grows m n x le h = record { own = bag-grows m n x.own le h.own; top = bag-grows m n x.top le h.top; bot = bag-grows m n x.bot le h.bot }

pub tree-grows : Grows IsTreeBelow
tree-grows m n t le h = record { nodes = each-grows IsNodeBelow node-grows m n t.nodes le h.nodes; iface = bag-grows m n t.iface le h.iface; sem = each-grows IsLiteralBelow literal-grows m n t.sem le h.sem }

pub class-grows : Grows IsClassBelow
class-grows m n c le h = each-grows IsTreeBelow tree-grows m n _ le h

pub entry-grows : Grows IsEntryBelow
entry-grows m n e le h = record { iface = bag-grows m n e.iface le h.iface; anchor = bag-grows m n e.anchor le h.anchor; sem = each-grows IsLiteralBelow literal-grows m n e.sem le h.sem }

pub features-grow : Grows HasFewFeatures
features-grow m n e le h = omega (arith, h, le)
