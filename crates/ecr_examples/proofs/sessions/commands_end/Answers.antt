use Rattle.std.proofs.Common.{refl}
use Rattle.ecr_model.specs.registry.Scripts.{fresh}
use Rattle.ecr_model.specs.registry.Limits.{standard}
use Rattle.ecr_model.specs.sessions.Commands.{ready_line, usage_lines}
use Rattle.std.specs.Fmt.{digits}
use Rattle.ecr_examples.proofs.sessions.commands_end.Goals as goal

pub returns : goal.returns
unfolding fresh standard usage_lines ready_line digits
returns c = record {
  end = record {
    clock = refl;
    no_clock = refl;
    usage = refl;
    fresh_is = refl;
    statuses = refl;
    ready = refl;
  };
}
