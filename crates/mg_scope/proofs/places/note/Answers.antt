-- An item that is no class leaves the places, and a class is put where its name is new.
use Rattle.std.proofs.Common.{sym, ap, ◌∙◌, ◌∷◌, [], ◌++◌, List}
use Rattle.mg_syntax.specs.declared.item.Item.{Item}
use Rattle.mg_scope.specs.Directories.{ArePlaces}
use Rattle.mg_scope.proofs.ClassLemmas.{places_stay, places_more}
use Rattle.mg_scope.proofs.places.note.Goals as goal

pub returns-in_ok-note_name-in-Class : goal.returns-in_ok-note_name-in-Class
returns-in_ok-note_name-in-Class c = λ before count known.
    rw c.in-Class.is (places_more before c.in-Class.class c.args.places.now c.note_name.new.places c.args.place c.in_ok-note_name-in-Class.ensures count known)

pub returns-in-Value : goal.returns-in-Value
returns-in-Value c = λ before count known. places_stay before c.args.item.now c.args.places.now (λ k e. let h = sym c.in-Value.is ∙ e in cc) known

pub returns-in-Header : goal.returns-in-Header
returns-in-Header c = λ before count known. places_stay before c.args.item.now c.args.places.now (λ k e. let h = sym c.in-Header.is ∙ e in cc) known
