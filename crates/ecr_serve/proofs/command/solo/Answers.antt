use Rattle.std.proofs.Common.{◌∙◌, refl}
use Rattle.ecr_serve.proofs.CommandLemmas.{RunsSession-nothing, RunsSession-same_words, SaysUsage-same_end}
use Rattle.ecr_serve.proofs.command.solo.Goals as goal

pub returns-in-Err-clause-session : goal.returns-in-Err-clause-session
returns-in-Err-clause-session g c = λ fixed sites words.
    RunsSession-nothing sites fixed _ _ _ (c.with_status.ensures.cuts ∙ c.new.ensures.items) c.with_status.ensures.end

pub returns-in-Ok-None-clause-usage : goal.returns-in-Ok-None-clause-usage
returns-in-Ok-None-clause-usage g c = λ other. record {
  idle = record { left = refl; told = refl; read_faults = refl };
  said = SaysUsage-same_end
      (record { held = g.K.Sink.held c.args.sink.now; faults = g.K.Sink.faults c.args.sink.now })
      (record {
        held = g.K.Sink.held c.say_usage.new.sink;
        faults = g.K.Sink.faults c.say_usage.new.sink;
      }) c.with_status-in-Ok-None.result.end c.say_usage.result
      c.with_status-in-Ok-None.ensures.end c.say_usage.ensures;
}

pub returns-in-Ok-Some-clause-session : goal.returns-in-Ok-Some-clause-session
returns-in-Ok-Some-clause-session g c = λ fixed sites words.
    RunsSession-same_words _ c.in-Ok-Some.command.fixed fixed c.in-Ok-Some.command.sites sites _ _ _ _
    (rw c.in-Ok-Some.field-0-is at c.in-Ok-Some.ensures) words c.serve.ensures.runs
