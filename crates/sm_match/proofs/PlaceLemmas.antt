-- Places of the first literals of a tree: what they equate, and one more place.
use Rattle.std.specs.Prelude.{◌≡◌, ℕ, zero, suc, ◌+◌, ◌<◌, ◌≤◌, List, [], ◌∷◌, ◌++◌, length, slice_get, true, false, Option, Some, None, refl}
use Rattle.std.specs.List.{AllZip}
use Rattle.std.proofs.Common.{inl, inr, ap, ap₂, sym, ◌∙◌, subst, arith, append_assoc, append-nil, length-append}
use Rattle.std.proofs.lemmas.Bool.{eq-eqb}
use Rattle.std.proofs.lemmas.Option.{none-some, same_Some}
use Rattle.gr_base.specs.Lists.{IsAmong, IsWithin, Each, NoneTwice, IsBefore}
use Rattle.gr_base.proofs.ListLemmas.{IsAmong-append_left, IsAmong-append_right, IsAmong-append, IsAmong-slice_get, Each-at, NoneTwice-push, NoneTwice-again}
use Rattle.gr_terms.specs.Canonical.{literal_terms}
use Rattle.gr_terms.specs.LiteralViews.{literal_of, literals_of, IsConst, AreConst}
use Rattle.gr_terms.specs.Networks as net
use Rattle.gr_terms.specs.Networks.{equate, Assertion, Agrees, equated}
use Rattle.gr_terms.specs.Views.{term_of}
use Rattle.gr_terms.proofs.NetworkLemmas.{Agrees-part}
use Rattle.gr_terms.specs.declared.Term.{Term}
use Rattle.gr_terms.specs.declared.Term.TheVariants.{Const, Var}
use Rattle.gr_terms.specs.declared.Literal.{Literal}
use Rattle.td_tree.specs.Trees.{AreTreeNodes, HasListedBags}
use Rattle.td_tree.specs.TreeNetworks.{tree_network}
use Rattle.td_tree.specs.TreeViews.{decorated_of}
use Rattle.td_tree.specs.declared.Tree.{Tree}
use Rattle.tg_model.specs.declared.instance.Instance.{Instance}
use Rattle.tg_model.specs.Instances.{equations, equations_at, place_equations, FitsPlace, MayStandAt}
use Rattle.sm_match.specs.declared.bindings.Bound.{Bound}
use Rattle.sm_match.specs.Bindings.{TreeNetwork, Solves, Equates}
use Rattle.sm_match.specs.Index.{wanted_name, may_be}
use Rattle.sm_match.specs.Tasks.{FitFirst, IsBegun, GoesOnFrom}
use Rattle.sm_match.proofs.IndexLemmas.{SuitsAt, suits_both}
use Rattle.sm_match.proofs.TreeLemmas.{agrees_with}

abbrev at_some : Literal → Option Literal → TreeNetwork
at_some l o = elim o [ None ↦ [] | Some g ↦ equations (literal_terms (literal_of l)) (literal_terms (literal_of g)) ]

module _ (input : List Literal) where
  -- ---- the equations of places

  abbrev at_place : Literal → ℕ → TreeNetwork
  at_place l p = equations_at input (literal_of l) p

  abbrev at_places : List Literal → List ℕ → TreeNetwork
  at_places ls ps = place_equations input (literals_of ls) ps

  pub at_place-is : (l : Literal) (p : ℕ) (g : Literal) → slice_get input p ≡ Some g → at_place l p ≡ equations (literal_terms (literal_of l)) (literal_terms (literal_of g))
  at_place-is l p g at = ap (λ (o : Option Literal). at_some l o) at

  at_places-none : (ls : List Literal) → at_places ls [] ≡ []
  at_places-none [] = refl
  at_places-none (l ∷ ls) = refl

  pub at_places-push : (ls : List Literal) (ps : List ℕ) (l : Literal) (p : ℕ) → slice_get ls (length ps) ≡ Some l → at_places ls (ps ++ p ∷ []) ≡ at_places ls ps ++ at_place l p
  at_places-push [] ps l p at = absurd (none-some l at)
  at_places-push (k ∷ ls) [] l p at = ap (λ xs. at_place k p ++ xs) (at_places-none ls) ∙ append-nil (at_place k p) ∙ ap (λ x. at_place x p) (same_Some k l at)
  at_places-push (k ∷ ls) (q ∷ ps) l p at = ap (λ xs. at_place k q ++ xs) (at_places-push ls ps l p at) ∙ sym (append_assoc (at_place k q) (at_places ls ps) (at_place l p))

  pub at_places-more : (ls : List Literal) (ps rest : List ℕ) → IsWithin (at_places ls ps) (at_places ls (ps ++ rest))
  at_places-more [] ps rest e i = absurd i
  at_places-more (l ∷ ls) [] rest e i = absurd i
  at_places-more (l ∷ ls) (p ∷ ps) rest e i = elim (IsAmong-append (at_place l p) (at_places ls ps) e i) [
    | inl j ↦ IsAmong-append_left (at_place l p) (at_places ls (ps ++ rest)) e j
    | inr j ↦ IsAmong-append_right (at_place l p) (at_places ls (ps ++ rest)) e (at_places-more ls ps rest e j)
  ]

  pub at_places-at : (ls : List Literal) (ps : List ℕ) (k : ℕ) (l : Literal) (p : ℕ) → slice_get ls k ≡ Some l → slice_get ps k ≡ Some p → IsWithin (at_place l p) (at_places ls ps)
  at_places-at [] ps k l p at there e i = absurd (none-some l at)
  at_places-at (m ∷ ls) [] k l p at there e i = absurd (none-some p there)
  at_places-at (m ∷ ls) (q ∷ ps) zero l p at there e i =
      IsAmong-append_left (at_place m q) (at_places ls ps) e (subst (λ N. IsAmong N e) (sym (ap₂ at_place (same_Some m l at) (same_Some q p there))) i)
  at_places-at (m ∷ ls) (q ∷ ps) (suc k) l p at there e i = IsAmong-append_right (at_place m q) (at_places ls ps) e (at_places-at ls ps k l p at there e i)

  -- ---- places that fit

  pub fit_push : (ls : List Literal) (ps : List ℕ) (l : Literal) (p : ℕ) → slice_get ls (length ps) ≡ Some l → FitsPlace input l p → FitFirst input ls ps → FitFirst input ls (ps ++ p ∷ [])
  fit_push [] ps l p at fits h = absurd (none-some l at)
  fit_push (k ∷ ls) [] l p at fits h = (subst (λ x. FitsPlace input x p) (sym (same_Some k l at)) fits, tt)
  fit_push (k ∷ ls) (q ∷ ps) l p at fits h = (h.0, fit_push ls ps l p at fits h.1)

  pub fit_few : (ls : List Literal) (ps : List ℕ) → FitFirst input ls ps → length ps ≤ length ls
  fit_few ls [] h = omega arith
  fit_few [] (p ∷ ps) h = absurd h
  fit_few (l ∷ ls) (p ∷ ps) h = omega (arith, fit_few ls ps h.1)

  fit_all : (ls : List Literal) (ps : List ℕ) → length ps ≡ length ls → FitFirst input ls ps → AllZip (FitsPlace input) ls ps
  fit_all [] [] e h = tt
  fit_all [] (p ∷ ps) e h = absurd h
  fit_all (l ∷ ls) [] e h = absurd (omega arith)
  fit_all (l ∷ ls) (p ∷ ps) e h = (h.0, fit_all ls ps (omega arith) h.1)

  pub zip_length : (ls : List Literal) (ps : List ℕ) → AllZip (FitsPlace input) ls ps → length ls ≡ length ps
  zip_length [] [] h = refl
  zip_length [] (p ∷ ps) h = absurd h
  zip_length (l ∷ ls) [] h = absurd h
  zip_length (l ∷ ls) (p ∷ ps) h = ap suc (zip_length ls ps h.1)

  -- the place of a literal
  pub record HasPlace (l : Literal) (ps : List ℕ) (k : ℕ) : Type 0 where
    pub place : ℕ
    pub there : slice_get ps k ≡ Some place
    pub fits : FitsPlace input l place

  zip_place : (ls : List Literal) (ps : List ℕ) (k : ℕ) (l : Literal) → AllZip (FitsPlace input) ls ps → slice_get ls k ≡ Some l → HasPlace l ps k
  zip_place [] ps k l h at = absurd (none-some l at)
  zip_place (m ∷ ls) [] k l h at = absurd h
  zip_place (m ∷ ls) (p ∷ ps) zero l h at = record { place = p; there = refl; fits = subst (λ x. FitsPlace input x p) (same_Some m l at) h.0 }
  zip_place (m ∷ ls) (p ∷ ps) (suc k) l h at = let r = zip_place ls ps k l h.1 at in record { place = r.place; there = r.there; fits = r.fits }

  -- ---- one more place

  pub begun_nothing : (ls : List Literal) → IsBegun input ls [] []
  begun_nothing ls = record {
    fits = tt;
    once = tt;
    solved = subst (λ N. Solves [] N) (sym (at_places-none ls)) (record { equations = λ e i. absurd i; holds = λ x y i. absurd i; needed = λ v s h. absurd (none-some s h) });
  }

  module _ (ls : List Literal) (ps : List ℕ) (bs new : List Bound) (l : Literal) (p : ℕ) (g : Literal) (at : slice_get ls (length ps) ≡ Some l) (there : slice_get input p ≡ Some g) (begun : IsBegun input ls ps bs) where
    pub begun_more : length l.args ≡ length g.args → (IsAmong ps p → ⊥) → Equates (equations (literal_terms (literal_of l)) (literal_terms (literal_of g))) bs new true → IsBegun input ls (ps ++ p ∷ []) new
    begun_more arity fresh h = record {
      fits = fit_push ls ps l p at (g, there, arity) begun.fits;
      once = NoneTwice-push ps p begun.once fresh;
      solved = subst (λ N. Solves new N) (sym (at_places-push ls ps l p at ∙ ap (λ E. at_places ls ps ++ E) (at_place-is l p g there))) (h.1 (at_places ls ps) begun.solved);
    }

    pub clash_here : Equates (equations (literal_terms (literal_of l)) (literal_terms (literal_of g))) bs new false → (t : Tree) (number : ℕ) → t.sem ≡ ls → (i : Instance) → GoesOnFrom input t number (ps ++ p ∷ []) i → ⊥
    clash_here h t number is i from =
        let N : TreeNetwork = at_places ls (ps ++ p ∷ []) in
        let e : N ≡ at_places ls ps ++ equations (literal_terms (literal_of l)) (literal_terms (literal_of g)) = at_places-push ls ps l p at ∙ ap (λ E. at_places ls ps ++ E) (at_place-is l p g there) in
        let whole : TreeNetwork = tree_network (decorated_of from.stands.nodes.forest t) ++ at_places t.sem i.places in
        let within : IsWithin N whole =
        λ x m. IsAmong-append_right (tree_network (decorated_of from.stands.nodes.forest t)) (at_places t.sem i.places) x
        (subst (λ M. IsAmong M x) (ap₂ at_places (sym is) (sym from.begins)) (at_places-more ls (ps ++ p ∷ []) from.rest x m)) in
        h.1 (at_places ls ps) begun.solved (subst (λ (M : TreeNetwork). Agrees M) e (Agrees-part N whole within from.stands.agrees))

pub used_here : (input : List Literal) (t : Tree) (number : ℕ) (ps : List ℕ) (p : ℕ) → IsAmong ps p → (i : Instance) → GoesOnFrom input t number (ps ++ p ∷ []) i → ⊥
used_here input t number ps p m i from =
    NoneTwice-again ps p from.rest (subst (λ qs. NoneTwice qs) (from.begins ∙ append_assoc ps (p ∷ []) from.rest) from.stands.once) m

-- ---- all literals have places

pub stands_there : (input : List Literal) (t : Tree) (ps : List ℕ) (bs : List Bound) → AreTreeNodes t.nodes → HasListedBags t → IsBegun input t.sem ps bs → length ps ≡ length t.sem → MayStandAt input t ps
stands_there input t ps bs nodes bags begun all = record {
  fits = fit_all input t.sem ps all begun.fits;
  once = begun.once;
  nodes = nodes;
  agrees = agrees_with t nodes bags (place_equations input (literals_of t.sem) ps) bs begun.solved;
}

-- the instance that stands there is the only one
pub only_there : (input : List Literal) (t : Tree) (number : ℕ) (ps : List ℕ) → length ps ≡ length t.sem → (i : Instance) → GoesOnFrom input t number ps i → i ≡ record { tree = number; places = ps }
only_there input t number ps all i from =
    let count : length i.places ≡ length ps + length from.rest = ap length from.begins ∙ length-append ps from.rest in
    let long : length t.sem ≡ length i.places = zip_length input t.sem i.places from.stands.fits in
    let same : i.places ≡ ps = from.begins ∙ ap (λ qs. ps ++ qs) (nothing from.rest (omega arith)) ∙ append-nil ps in
    λ k. record { tree = from.tree k; places = same k }
  where
    nothing : (qs : List ℕ) → length qs ≡ 0 → qs ≡ []
    nothing [] e = refl
    nothing (q ∷ qs) e = absurd (omega arith)

-- ---- a literal stands at a place that suits it

named_term : (x : Term) → IsConst x → (s : ℕ) × (term_of x ≡ net.name s)
named_term (Const s) c = (s.0, refl)
named_term (Var v) c = absurd c

may_be_there : (x y : Term) → IsConst y → ((a b : ℕ) → term_of x ≡ net.name a → term_of y ≡ net.name b → a ≡ b) → may_be (wanted_name x) y ≡ true
may_be_there (Var v) y c same = refl
may_be_there (Const s) (Const p) c same = eq-eqb s.0 p.0 (same s.0 p.0 refl refl)
may_be_there (Const s) (Var w) c same = absurd c

-- the place of a literal is one that suits it
pub record StandsAt (input : List Literal) (l : Literal) (ps : List ℕ) (k : ℕ) : Type 0 where
  pub place : ℕ
  pub there : slice_get ps k ≡ Some place
  pub suited : SuitsAt (wanted_name l.pred) (length l.args) input place

pub stands_at : (input : List Literal) (t : Tree) (ps : List ℕ) (k : ℕ) (l : Literal) → Each AreConst input → MayStandAt input t ps → slice_get t.sem k ≡ Some l → StandsAt input l ps k
stands_at input t ps k l ground stands at =
    let r = zip_place input t.sem ps k l stands.fits at in
    let p = r.place in
    let g : Literal = r.fits.0 in
    let names : AreConst g = Each-at AreConst input g ground (IsAmong-slice_get input p g r.fits.1) in
    let E : TreeNetwork = equations (literal_terms (literal_of l)) (literal_terms (literal_of g)) in
    let whole : TreeNetwork = tree_network (decorated_of stands.nodes.forest t) ++ place_equations input (literals_of t.sem) ps in
    let among : IsAmong whole (equate (term_of l.pred) (term_of g.pred)) =
    IsAmong-append_right (tree_network (decorated_of stands.nodes.forest t)) (place_equations input (literals_of t.sem) ps) (equate (term_of l.pred) (term_of g.pred))
    (at_places-at input t.sem ps k l p at r.there (equate (term_of l.pred) (term_of g.pred))
    (subst (λ N. IsAmong N (equate (term_of l.pred) (term_of g.pred))) (sym (at_place-is input l p g r.fits.1)) (inr (inl refl)))) in
    let same : (a b : ℕ) → term_of l.pred ≡ net.name a → term_of g.pred ≡ net.name b → a ≡ b =
    λ a b x y. stands.agrees a b (equated (net.name a) (net.name b) (subst (λ e. IsAmong whole e) (ap₂ equate x y) among)) in
    record {
      place = p;
      there = r.there;
      suited = record { literal = g; at = r.fits.1; suited = suits_both (wanted_name l.pred) (length l.args) g r.fits.2 (may_be_there l.pred g.pred names.pred same) };
    }

-- ---- the order of places

pub before_at : (ps : List ℕ) (p q : ℕ) (rest others : List ℕ) → p < q → IsBefore (ps ++ p ∷ rest) (ps ++ q ∷ others)
before_at [] p q rest others less = inl less
before_at (x ∷ ps) p q rest others less = inr (refl, before_at ps p q rest others less)
