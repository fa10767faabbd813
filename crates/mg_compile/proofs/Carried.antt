-- What an expansion counts and has as texts, by any description in numbers that says the same.
use Rattle.std.specs.Prelude.{◌≡◌, ℕ, zero, suc, ◌+◌, List, length}
use Rattle.std.proofs.Common.{inl, inr, sym, ◌∙◌, subst, arith}
use Rattle.std.proofs.lemmas.List.{length-map}
use Rattle.gr_base.proofs.Counting.{IsCount-unique}
use Rattle.td_desc.specs.declared.Description as code
use Rattle.td_desc.specs.Descriptions.{Description, description_of, node_of}
use Rattle.td_desc.specs.Likeness.{SayTheSame}
use Rattle.td_colour.specs.Models.{IsForestModel}
use Rattle.td_colour.proofs.Likening.{same_count, same_minimal, same_forms, same_number}
use Rattle.td_canon.specs.TreeSets.{Entry}
use Rattle.td_solver.specs.Solutions.{IsModelTotal, IsSolution, IsSolutionText}
use Rattle.td_solver.proofs.Texts.{same_solutions}
use Rattle.mg_syntax.specs.declared.item.Item.{Item}
use Rattle.mg_facts.specs.declared.variable.Variable.{Variable}
use Rattle.mg_facts.specs.Said.{Slot, Said}
use Rattle.mg_facts.specs.Meanings.{Clashes, IsDescribed, IsDescriptionOf}
use Rattle.mg_expand.specs.Walks.{Walk}
use Rattle.mg_expand.specs.Items.{expansion_said}
use Rattle.mg_compile.specs.Compiled.{Describes, IsExpansionTotal}

-- facts that don't clash have one description
abbrev pub AreOneDescription : Type 0
AreOneDescription = (all : List Said) (a b : Description Variable Slot) → (Clashes all → ⊥) → IsDescribed all a → IsDescribed all b → a ≡ b

total_there : {V S W R : Type 0} (a : Description V S) (b : Description W R) → SayTheSame a b → (m n : ℕ) → IsModelTotal a m n → IsModelTotal b m n
total_there a b h zero n t = t
total_there a b h (suc m) n t = (t.0, t.1, total_there a b h m t.0 t.2, (same_number a b h (suc m) t.1).0 t.3, t.4)

-- a description has one total, over any variables
pub one_total : {V S : Type 0} (d : Description V S) (m a b : ℕ) → IsModelTotal d m a → IsModelTotal d m b → a ≡ b
one_total d zero a b s t = s ∙ sym t
one_total d (suc m) a b s t =
    let e : s.0 ≡ t.0 = one_total d m s.0 t.0 s.2 t.2 in
    let q : s.1 ≡ t.1 = IsCount-unique (IsForestModel d (suc m)) s.1 t.1 s.3 t.3 in
    let u : a ≡ s.0 + s.1 = s.4 in
    let v : b ≡ t.0 + t.1 = t.4 in
    omega arith

text_there : {V S W R : Type 0} (a : Description V S) (b : Description W R) → SayTheSame a b → (text : ℕ → List ℕ) (bytes : List ℕ) → IsSolutionText text a bytes → IsSolutionText text b bytes
text_there a b h text bytes s = (s.0, (same_minimal a b h s.0).0 s.1, record { form = s.2.form; canonical = (same_forms a b h text s.0 s.2.form).0 s.2.canonical; spells = s.2.spells })

-- an expansion has one total
pub one_count : AreOneDescription → (m : List Item) (w : Walk) (a b : ℕ) → IsExpansionTotal m w a → IsExpansionTotal m w b → a ≡ b
one_count one m w a b (inl s) (inl t) = s.1 ∙ sym t.1
one_count one m w a b (inl s) (inr t) = absurd (t.1.0 s.0)
one_count one m w a b (inr s) (inl t) = absurd (s.1.0 t.0)
one_count one m w a b (inr s) (inr t) =
    let e : s.0 ≡ t.0 = one (expansion_said m w) s.0 t.0 s.1.0 s.1.1 t.1.1 in
    one_total t.0 (length t.0.nodes) a b (subst (λ (d : Description Variable Slot). IsModelTotal d (length d.nodes) a) e s.2) t.2

-- one that clashes has none
pub clash_counts : (m : List Item) (w : Walk) (n : ℕ) → Clashes (expansion_said m w) → IsExpansionTotal m w n → n ≡ 0
clash_counts m w n bad (inl t) = t.1
clash_counts m w n bad (inr t) = absurd (t.1.0 bad)

module _ (one : AreOneDescription) (m : List Item) (w : Walk) (d : code.Description) (clear : Clashes (expansion_said m w) → ⊥) (is : IsDescriptionOf (expansion_said m w) d) where
  pub describes : Describes m w is.described
  describes = (clear, is.is_described)

  pub only_one : (e : Description Variable Slot) → Describes m w e → e ≡ is.described
  only_one e h = one (expansion_said m w) e is.described clear h.1 is.is_described

  pub as_many : length is.described.nodes ≡ length d.nodes
  as_many = same_count is.described (description_of d) is.same ∙ length-map d.nodes node_of

  pub counts : (n : ℕ) → IsExpansionTotal m w n → IsModelTotal (description_of d) (length d.nodes) n
  counts n (inl t) = absurd (clear t.0)
  counts n (inr t) =
      let total : IsModelTotal is.described (length is.described.nodes) n = subst (λ (e : Description Variable Slot). IsModelTotal e (length e.nodes) n) (only_one t.0 t.1) t.2 in
      total_there is.described (description_of d) is.same (length d.nodes) n (subst (λ k. IsModelTotal is.described k n) as_many total)

  module _ (text : ℕ → List ℕ) (bytes : List ℕ) where
    pub text_down : (e : Description Variable Slot) → Describes m w e → IsSolutionText text e bytes → IsSolutionText text (description_of d) bytes
    text_down e h s = text_there is.described (description_of d) is.same text bytes (subst (λ (x : Description Variable Slot). IsSolutionText text x bytes) (only_one e h) s)

  pub solution_up : (texts : List (List ℕ)) (e : Entry) → IsSolution texts (description_of d) e → IsSolution texts is.described e
  solution_up texts e s = (same_solutions is.described (description_of d) is.same texts e).1 s
