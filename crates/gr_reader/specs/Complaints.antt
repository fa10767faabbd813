-- Complaints: what is wrong with a text that can be read, each with the number of lexemes that are left at its place, its own among them.
use Rattle.std.specs.Prelude.{◌≤◌, List, [], ◌∷◌, Option, Some, None, nat_lt, if◌then◌else◌}
use Rattle.gr_base.specs.Lists.{IsAmong, Each}
use Rattle.gr_text.specs.declared.Place.{Place}
use Rattle.gr_tokens.specs.declared.ReadRefusal.{ReadRefusal}
use Rattle.gr_tokens.specs.declared.ReadRefusal.TheVariants as refusal
use Rattle.gr_reader.specs.declared.complaints.Fault.{Fault}
use Rattle.gr_reader.specs.declared.complaints.Fault.TheVariants.{Duplicate, TooManyClasses, EmptyWord, EntryLiterals, Variable, InputLiterals, TooManyInputs}
use Rattle.gr_reader.specs.declared.complaints.Complaint.{Complaint}

-- of two complaints the one that stands first in the text, which has more lexemes left; of two at one place the first one
abbrev pub sooner : Complaint → Complaint → Complaint
sooner b c = if nat_lt b.left c.left then c else b

-- the first complaint, with one more
abbrev pub noted : Option Complaint → Complaint → Option Complaint
noted None c = Some c
noted (Some b) c = Some (sooner b c)

-- with these more
abbrev pub all_noted : Option Complaint → List Complaint → Option Complaint
all_noted b [] = b
all_noted b (c ∷ cs) = all_noted (noted b c) cs

-- the first of the complaints: one of them, and no other stands before it
pub record IsFirst (cs : List Complaint) (c : Complaint) : Type 0 where
  pub among : IsAmong cs c
  pub first : Each (λ d. d.left ≤ c.left) cs

-- the refusal for a fault at a place
abbrev pub refusal_at : Fault → Place → ReadRefusal
refusal_at Duplicate p = refusal.Duplicate p
refusal_at TooManyClasses p = refusal.TooManyClasses p
refusal_at EmptyWord p = refusal.EmptyWord p
refusal_at EntryLiterals p = refusal.EntryLiterals p
refusal_at Variable p = refusal.Variable p
refusal_at InputLiterals p = refusal.InputLiterals p
refusal_at TooManyInputs p = refusal.TooManyInputs p
