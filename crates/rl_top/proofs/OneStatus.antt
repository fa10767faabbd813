-- At most one status is right for the bytes of a file and a budget.
use Rattle.std.specs.Prelude.{◌≡◌, ℕ, List, [], ◌∷◌, Bool, true, false, refl}
use Rattle.std.specs.List.{AllZip}
use Rattle.std.proofs.Common.{sym, ap, subst, ◌∙◌, inl, inr}
use Rattle.std.proofs.lemmas.Bool.{false≢true}
use Rattle.gr_base.specs.Lists.{IsAmong, Each}
use Rattle.gr_terms.specs.declared.Sym.{Sym}
use Rattle.mg_syntax.specs.declared.item.Item.{Item}
use Rattle.mg_reader.specs.Answers.{IsMetagrammar}
use Rattle.mg_scope.specs.Classes.{valued_classes}
use Rattle.mg_scope.specs.Faults.{IsScoped, IsThere}
use Rattle.td_canon.specs.CanonicalTexts.{text_in}
use Rattle.tg_text.specs.GrammarText.{ClassText}
use Rattle.rl_top.specs.Outcomes.{IsClassText, IsEnding, whole, shorter, IsOutcome, refused, compiled}
use Rattle.rl_top.specs.declared.status.Status.{Status}
use Rattle.rl_top.proofs.Laws.{BelowLaws}
use Rattle.rl_top.proofs.OneOutcome.{one_numbering, texts_apart, one_metagrammar, one_refused}
use Rattle.rl_top.proofs.Stopping.{valued_there}

-- lists that are cut at the same places end alike
cut_there : (ts us : List ClassText) (t : ClassText) → AllZip (λ (t u : ClassText). t.cut ≡ u.cut) ts us → IsAmong ts t → t.cut ≡ true → Each (λ (u : ClassText). u.cut ≡ false) us → ⊥
cut_there [] us t same i cut none = absurd i
cut_there (x ∷ ts) [] t same i cut none = absurd same
cut_there (x ∷ ts) (u ∷ us) t same (inl e) cut none = absurd (false≢true (sym none.0 ∙ (sym same.0 ∙ (ap (λ (z : ClassText). z.cut) (sym e) ∙ cut))))
cut_there (x ∷ ts) (u ∷ us) t same (inr i) cut none = cut_there ts us t same.1 i cut none.1

cuts_back : (ts us : List ClassText) → AllZip (λ (t u : ClassText). t.cut ≡ u.cut) ts us → AllZip (λ (t u : ClassText). t.cut ≡ u.cut) us ts
cuts_back [] [] same = tt
cuts_back [] (u ∷ us) same = absurd same
cuts_back (t ∷ ts) [] same = absurd same
cuts_back (t ∷ ts) (u ∷ us) same = (sym same.0, cuts_back ts us same.1)

same_ending : (ts us : List ClassText) (s t : Status) → AllZip (λ (t u : ClassText). t.cut ≡ u.cut) ts us → IsEnding ts s → IsEnding us t → s ≡ t
same_ending ts us s t same (whole each is) (whole each' is') = is ∙ sym is'
same_ending ts us s t same (whole each is) (shorter x among cut is') = absurd (cut_there us ts x (cuts_back ts us same) among cut each)
same_ending ts us s t same (shorter x among cut is) (whole each is') = absurd (cut_there ts us x same among cut each)
same_ending ts us s t same (shorter x among cut is) (shorter y among' cut' is') = is ∙ sym is'

-- by the laws of the crates below
module _ (laws : BelowLaws) where
  -- a class's list is cut in each right outcome, or in none
  module _ (texts : List (List ℕ)) (m : List Item) (models : ℕ) (scoped : IsScoped m) where
    same_cut : (c : Sym) (t u : ClassText) → IsThere m c → IsClassText texts m models c t → IsClassText texts m models c u → t.cut ≡ u.cut
    same_cut c t u there p q =
        let steps = laws.have_steps m c there.0 scoped there.1 in
        let a = laws.cut_below (text_in texts) m c models steps.0 t.trees t.cut steps.1 p.list in
        let b = laws.cut_below (text_in texts) m c models steps.0 u.trees u.cut steps.1 q.list in
        both t.cut u.cut (λ e. b.1 (a.0 e)) (λ e. a.1 (b.0 e))
      where
        both : (x y : Bool) → (x ≡ true → y ≡ true) → (y ≡ true → x ≡ true) → x ≡ y
        both true y f g = sym (f refl)
        both false true f g = g refl
        both false false f g = refl

    same_cuts : (vs : List Sym) (ts us : List ClassText) → Each (IsThere m) vs → AllZip (IsClassText texts m models) vs ts → AllZip (IsClassText texts m models) vs us → AllZip (λ (t u : ClassText). t.cut ≡ u.cut) ts us
    same_cuts [] [] [] there p q = tt
    same_cuts [] [] (u ∷ us) there p q = absurd q
    same_cuts [] (t ∷ ts) us there p q = absurd p
    same_cuts (v ∷ vs) [] us there p q = absurd p
    same_cuts (v ∷ vs) (t ∷ ts) [] there p q = absurd q
    same_cuts (v ∷ vs) (t ∷ ts) (u ∷ us) there p q = (same_cut v t u there.0 p.0 q.0, same_cuts vs ts us there.1 p.1 q.1)

  pub one_status : (bytes : List ℕ) (models : ℕ) (text other : List ℕ) (s t : Status) → IsOutcome bytes models s text → IsOutcome bytes models t other → s ≡ t
  one_status bytes models text other s t (refused texts r numbered first line is) o = is ∙ sym (one_refused laws bytes text other models t (refused texts r numbered first line refl) o).0
  one_status bytes models text other s t (compiled texts m classes numbered good written text_is ending) (refused texts' r numbered' first line is) =
      (one_refused laws bytes other text models s (refused texts' r numbered' first line refl) (compiled texts m classes numbered good written text_is ending)).0 ∙ sym is
  one_status bytes models text other s t (compiled texts m ts numbered good written text_is ending) (compiled texts' m' us numbered' good' written' text_is' ending') =
      let texts_same = one_numbering laws.one_table bytes texts' texts numbered' numbered in
      let spelled = subst (λ z. IsMetagrammar bytes z m') texts_same good'.spelled in
      let same = one_metagrammar laws bytes models texts (texts_apart laws.apart bytes texts numbered) m' m spelled good.spelled in
      let there = subst (λ z. AllZip (IsClassText texts z models) (valued_classes z) us) same (subst (λ z. AllZip (IsClassText z m' models) (valued_classes m') us) texts_same written'.written) in
      same_ending ts us s t (same_cuts texts m models good.scoped (valued_classes m) ts us (valued_there m good.scoped) written.written there) ending ending'
