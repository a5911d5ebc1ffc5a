-- What holds of the step of a call.
use Rattle.std.proofs.Common.{arith}
use Rattle.ecr_model.specs.declared.requests.call.Call.TheVariants.{Create}
use Rattle.ecr_model.specs.laws.JournalLaws.{ARefusalChangesNothing}
use Rattle.ecr_model.specs.registry.Steps.{step}

-- a call that is refused changes nothing
pub a_refusal_changes_nothing : ARefusalChangesNothing
unfolding step
a_refusal_changes_nothing key limits s turn (Create mutability) refusal is = grind (arith, is)
a_refusal_changes_nothing key limits s turn _ refusal is = grind (arith, is)
