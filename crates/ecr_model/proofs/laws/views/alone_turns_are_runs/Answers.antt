use Rattle.ecr_model.proofs.lemmas.registry.StillViewLemmas.{runs_visit, visits_run, runs_to_halt, halts_run_to}
use Rattle.ecr_model.proofs.laws.views.alone_turns_are_runs.Goals as goal

pub returns-clause-visits : goal.returns-clause-visits
returns-clause-visits c = runs_visit

pub returns-clause-runs : goal.returns-clause-runs
returns-clause-runs c = visits_run

pub returns-clause-halts : goal.returns-clause-halts
returns-clause-halts c = runs_to_halt

pub returns-clause-runs_to : goal.returns-clause-runs_to
returns-clause-runs_to c = halts_run_to
