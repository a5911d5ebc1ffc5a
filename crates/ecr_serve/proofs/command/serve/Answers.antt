use Rattle.std.proofs.Common.{◌∙◌, map}
use Rattle.ecr_cells.specs.Desks.{still_state_of}
use Rattle.ecr_serve.proofs.CommandLemmas.{RunsSession-nothing, RunsSession-over, RunsSession-told, fresh-seen}
use Rattle.ecr_serve.proofs.command.serve.Goals as goal

pub returns-in-Err-clause-runs : goal.returns-in-Err-clause-runs
returns-in-Err-clause-runs g c =
    RunsSession-nothing _ _ _ _ _ (c.with_status.ensures.cuts ∙ c.new-in-Err.ensures.items) c.with_status.ensures.end

pub returns-in-Ok-clause-runs : goal.returns-in-Ok-clause-runs
returns-in-Ok-clause-runs g c =
    let told = c.session_still-ended.result in
    RunsSession-told _ _ _ _ _ told.cuts.items _ told.end c.with_status-in-Ok.ensures.cuts
    c.with_status-in-Ok.ensures.end
    (RunsSession-over c.args.command.sites c.args.command.fixed (still_state_of c.in-Ok.desk) _ _ told.moments.items
    (map (λ v. v.items) told.places.items) told.cuts.items _ told.end
    (fresh-seen (still_state_of c.in-Ok.desk) c.args.command.sites c.into_vec.result.items c.standard.result
    c.in-Ok.ensures.fresh c.into_vec.ensures.items c.standard.ensures.limits)
    c.session_still-ended.ensures.serves)
