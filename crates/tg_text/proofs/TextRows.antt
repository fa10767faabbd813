-- A whole text, read line by line.
use Rattle.std.specs.Prelude.{◌≡◌, ℕ, List, [], ◌∷◌, ◌++◌, codes}
use Rattle.std.proofs.Common.{ap, sym, ◌∙◌, append_assoc}
use Rattle.std.proofs.lemmas.List.{append-nil}
use Rattle.gr_base.specs.Lists.{gathered, joined}
use Rattle.td_canon.specs.declared.tree_set.ClassTrees.{ClassTrees}
use Rattle.tg_reader.specs.Writable.{IsTable}
use Rattle.tg_text.specs.GrammarText.{ended}
use Rattle.tg_text.specs.Lines.{Leads, a_line, a_version, begins, between, no_line, over}
use Rattle.tg_text.specs.Reading.{HasClasses, IsBadLine, NoClassNext, StopsAt}
use Rattle.tg_text.specs.declared.reading.Stop.{Stop}
use Rattle.tg_text.specs.declared.reading.Stop.TheVariants.{Line, Memory}
use Rattle.tg_text.proofs.ClassRows.{written}
use Rattle.tg_text.proofs.Leading.{class_rows, front_leads, front_rows, joined-append, joined-classes, names_once, read_classes, text_leads, text_names, text_rows, version_line}
use Rattle.tg_text.proofs.Stopping.{bad_behind, bad_here, begins_over, between_over, end_breaks, over_breaks, version_breaks}

-- the first line says no version 1
pub version_bad : (text : List ℕ) → ((more : List ℕ) → text ≡ codes "grammar 1" ++ 10 ∷ more → ⊥) → IsBadLine begins text text
version_bad text none = bad_here begins text (begins_over text) (version_breaks text none)

-- what stops the reading of the classes
pub classes_stop : (text rest : List ℕ) (stop : Stop) → text ≡ version_line ++ rest → StopsAt (between []) rest stop → StopsAt begins text stop
classes_stop text rest Memory e stops = tt
classes_stop text rest (Line left) e (at, bad, e') =
    (at, bad_behind begins (between []) (version_line ∷ []) text rest at (a_line a_version no_line) (e ∙ ap (λ z. z ++ rest) (sym (append-nil version_line))) bad, e')

module _ (texts : List (List ℕ)) (table : IsTable texts) (cs : List ClassTrees) (text rest last : List ℕ) (e : text ≡ version_line ++ rest) (h : HasClasses texts cs rest last) where
  front_split : text ≡ joined (front_rows (written texts cs)) ++ last
  front_split = e ∙ ap (λ z. version_line ++ z) (h.split ∙ ap (λ z. z ++ last) (sym (joined-classes (written texts cs)))) ∙ sym (append_assoc version_line (joined (gathered class_rows (written texts cs))) last)

  leads : Leads begins (front_rows (written texts cs)) (between (text_names (written texts cs)))
  leads = front_leads (written texts cs) (read_classes texts table cs h.each) (names_once texts table cs h.each h.once)

  -- neither a class nor the end stands behind the classes
  pub end_bad : NoClassNext last → ((more : List ℕ) → last ≡ ended (codes "end") ++ more → ⊥) → IsBadLine begins text last
  end_bad class none =
      let names = text_names (written texts cs) in
      bad_behind begins (between names) (front_rows (written texts cs)) text last last leads front_split (bad_here (between names) last (between_over names last) (end_breaks names last class none))

  -- something stands behind the end
  pub behind_bad : (end : List ℕ) → last ≡ ended (codes "end") ++ end → (end ≡ [] → ⊥) → IsBadLine begins text end
  behind_bad end f some =
      let all = text_rows (written texts cs) in
      bad_behind begins over all text end end (text_leads (written texts cs) (read_classes texts table cs h.each) (names_once texts table cs h.each h.once))
      (front_split ∙ ap (λ z. joined (front_rows (written texts cs)) ++ z) (f ∙ ap (λ z. z ++ end) (sym (append-nil (ended (codes "end"))))) ∙ sym (append_assoc (joined (front_rows (written texts cs))) (ended (codes "end") ++ []) end)
      ∙ ap (λ z. z ++ end) (sym (joined-append (front_rows (written texts cs)) (ended (codes "end") ∷ []))))
      (bad_here over end (λ same. some) (over_breaks end))
