use Rattle.std.proofs.Common.{◌≡◌, ap, Decides}
use Rattle.std.proofs.lemmas.Bool.{false≢true}
use Rattle.std.proofs.lemmas.Bool.Decides.{Decides-like, Decides-eqb}
use Rattle.std.proofs.lemmas.Slice.Eq.{slice_eq-Decides}
use Rattle.gr_terms.specs.declared.Term.{Term}
use Rattle.gr_terms.specs.declared.Term.TheVariants.{Const, Var}
use Rattle.gr_terms.specs.contracts.TermPartialEq.TheImpl.{eq-value}
use Rattle.sm_input.proofs.kept.are_same_terms.Goals as goal

terms : (a b : Term) → Decides (eq-value.it a b) (a ≡ b)
terms (Const a) (Const b) = Decides-like _ (λ e i. Const (record { 0 = e i })) (λ e. let h : Const a ≡ Const b = e in let k : a ≡ b = cc in ap (λ s. s.0) k) (Decides-eqb a.0 b.0)
terms (Const a) (Var b) = (λ e. absurd (false≢true e), λ e. absurd (let h : Const a ≡ Var b = e in cc))
terms (Var a) (Const b) = (λ e. absurd (false≢true e), λ e. absurd (let h : Var a ≡ Const b = e in cc))
terms (Var a) (Var b) = Decides-like _ (λ e. ap Var e) (λ e. let h : Var a ≡ Var b = e in cc) (Decides-eqb a b)

pub returns : goal.returns
returns c = slice_eq-Decides terms c.args.left.now c.args.right.now c.eq.result c.eq.ensures
