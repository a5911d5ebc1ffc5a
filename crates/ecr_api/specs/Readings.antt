-- What was read of a body (Amazon ECR API Reference, "Actions").
use Rattle.std.specs.Prelude.{◌≡◌, List, [], ◌∷◌, Option, None, Some, Result, Ok, Err}
use Rattle.ecr_model.specs.declared.requests.action.Member.{Member}
use Rattle.ecr_model.specs.declared.requests.refusal.Parameter.{Parameter}
use Rattle.ecr_model.specs.declared.requests.refusal.Parameter.TheVariants.{Manifest, Policy}
use Rattle.ecr_model.specs.requests.Actions as actions
use Rattle.ecr_model.specs.requests.Members.{Valued}
use Rattle.ecr_blob_upload.specs.declared.call.Load.TheVariants.{Nothing}
use Rattle.ecr_blob_upload.specs.Loads.{FitsCall, given}
use Rattle.ecr_api.specs.declared.asked.ApiRefusal.{ApiRefusal}
use Rattle.ecr_api.specs.declared.asked.ApiRefusal.TheVariants.{Refused, Mem}
use Rattle.ecr_api.specs.declared.asked.Asked.{Asked}
use Rattle.ecr_api.specs.declared.asked.Asked.TheVariants.{Cell, Site, Many}
use Rattle.ecr_api.specs.declared.calls.Made.{Made}
use Rattle.ecr_api.specs.declared.calls.Made.TheVariants.{One, Several}

-- the call that is asked for, with the bytes that come with it
abbrev pub meaning : Asked → actions.Asked
meaning (Cell key call load) = actions.cell key call (given load)
meaning (Site site call) = actions.site site call
meaning (Many site names page) = actions.many site names page

-- the content is such as the call has
abbrev pub LoadFits : Asked → Type 0
LoadFits (Cell key call load) = FitsCall call load
LoadFits (Site site call) = Unit {0}
LoadFits (Many site names page) = Unit {0}

-- the reading asks for this, or refuses the body like that; of a want of memory nothing is said
abbrev pub HasReading : Result Asked ApiRefusal → actions.Reading → Type 0
HasReading (Ok asked) reading = reading ≡ actions.asks (meaning asked)
HasReading (Err (Refused refusal)) reading = reading ≡ actions.refuses refusal
HasReading (Err Mem) reading = Unit {0}

-- the parameter is a member of a body, and no text in one
abbrev pub IsMember : Parameter → Type 0
IsMember (Manifest fault) = ⊥
IsMember (Policy fault) = ⊥
IsMember parameter = Unit {0}

-- the same of the parameter where there is one
abbrev pub IsMemberOrNone : Option Parameter → Type 0
IsMemberOrNone None = Unit {0}
IsMemberOrNone (Some parameter) = IsMember parameter

-- each row of the table is one of a member
abbrev pub AreMembers : List Member → Type 0
AreMembers [] = Unit {0}
AreMembers (m ∷ ms) = IsMember m.parameter × IsMemberOrNone m.apart × AreMembers ms

-- where one of the members stands apart from another, that is a member
abbrev pub AreApart : List Valued → Type 0
AreApart [] = Unit {0}
AreApart (v ∷ vs) = IsMemberOrNone v.member.apart × AreApart vs

-- the call that is made comes with nothing
abbrev pub FitsMade : Made → Type 0
FitsMade (One call) = FitsCall call Nothing
FitsMade Several = Unit {0}
