-- What is wrong with a bag that can be read, for the readers whose texts have bags.
use Rattle.std.specs.Prelude.{ℕ, List, [], ◌∷◌, ◌++◌, Option, Some, None, Bool, true, false, if◌then◌else◌}
use Rattle.gr_reader.specs.Classes.{is_one_of}
use Rattle.gr_reader.specs.declared.complaints.Complaint.{Complaint}
use Rattle.gr_reader.specs.declared.complaints.Fault.{Fault}
use Rattle.gr_reader.specs.declared.complaints.Fault.TheVariants.{Duplicate}
use Rattle.gr_feats.specs.Grammars.{WrittenPair}

-- a complaint where it is one
abbrev pub complaint_if : Bool → Fault → ℕ → List Complaint
complaint_if true fault left = record { fault = fault; left = left } ∷ []
complaint_if false fault left = []

-- a complaint at the place where so many lexemes are left
abbrev pub complaint_at : Fault → Option ℕ → List Complaint
complaint_at fault None = []
complaint_at fault (Some left) = complaint_if true fault left

-- how many lexemes are left at the first attribute that is one of these or stands in a pair before, or None where there is none
abbrev pub again_left : List (List ℕ) → List WrittenPair → Option ℕ
again_left seen [] = None
again_left seen (p ∷ ps) = if is_one_of seen p.attr then Some p.left else again_left (seen ++ p.attr ∷ []) ps

-- a bag is complained of at the first attribute that stands a second time
abbrev pub bag_bad : List WrittenPair → List Complaint
bag_bad pairs = complaint_at Duplicate (again_left [] pairs)
