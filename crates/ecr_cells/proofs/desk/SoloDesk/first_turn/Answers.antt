use Rattle.std.proofs.Common.{ap, ◌∙◌}
use Rattle.ecr_model.specs.requests.Requests.{first_ask}
use Rattle.ecr_cells.specs.Deeds.{ask_of, told_of}
use Rattle.ecr_cells.specs.Desks.{state_of}
use Rattle.ecr_cells.proofs.RunLemmas.{Ran-first_turn}
use Rattle.ecr_cells.proofs.desk.SoloDesk.first_turn.Goals as goal

pub returns-clause-ran : goal.returns-clause-ran
returns-clause-ran c =
    let call = c.args.call.now in
    Ran-first_turn (state_of c.args.self.now) (state_of c.make.new.self) c.args.key.now call c.in_ok-site.site
    (ask_of c.first_deed-deed.result)
    (told_of c.in_ok-done.done) c.in_ok-done.place c.in_ok-site.ensures
    (c.first_deed-deed.ensures.asks ∙ ap (λ n. first_ask n call) c.in_ok-copy_of_name.ensures)
    c.in_ok-done.ensures.ran
