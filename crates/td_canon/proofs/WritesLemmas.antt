-- What was written, part by part.
use Rattle.std.specs.Prelude.{◌≡◌, ℕ, List, [], ◌++◌, refl}
use Rattle.std.proofs.Common.{ap, sym, ◌∙◌, subst, append_assoc, append-nil}
use Rattle.gr_terms.specs.Networks.{Term}
use Rattle.gr_terms.specs.Canonical.{Label}
use Rattle.td_canon.specs.Writing.{BeginsWith, Written, Writes, label_in, meet_all}
use Rattle.td_canon.proofs.MeetingLemmas.{BeginsWith-meet_all, BeginsWith-trans, meet_all-append}

-- nothing
pub Writes-none : (old : Written) → Writes old old [] (λ label. [])
Writes-none old = record { met = refl; appended = λ all begins. sym (append-nil old.bytes) }

-- one part and then another
pub Writes-then : (old mid new : Written) (ts us : List (Term ℕ)) (f g : (Term ℕ → Label) → List ℕ) → Writes old mid ts f → Writes mid new us g → Writes old new (ts ++ us) (λ label. f label ++ g label)
Writes-then old mid new ts us f g a b = record {
  met = b.met ∙ ap (λ m. meet_all m us) a.met ∙ sym (meet_all-append old.met ts us);
  appended = λ all begins.
      let earlier : BeginsWith mid.met all = BeginsWith-trans mid.met new.met all (subst (λ m. BeginsWith mid.met m) (sym b.met) (BeginsWith-meet_all mid.met us)) begins in
      b.appended all begins ∙ ap (λ t. t ++ g (label_in all)) (a.appended all earlier) ∙ append_assoc old.bytes (f (label_in all)) (g (label_in all));
}

-- the same, put otherwise
pub Writes-as : (old new : Written) (ts us : List (Term ℕ)) (f g : (Term ℕ → Label) → List ℕ) → ts ≡ us → ((label : Term ℕ → Label) → f label ≡ g label) → Writes old new ts f → Writes old new us g
Writes-as old new ts us f g e same a = record {
  met = a.met ∙ ap (meet_all old.met) e;
  appended = λ all begins. a.appended all begins ∙ ap (λ t. old.bytes ++ t) (same (label_in all));
}
