use Rattle.ecr_http.proofs.SendLemmas.{Sends-then, Sends-cut}
use Rattle.ecr_http.proofs.reply.send_body.Goals as goal

pub returns-in-WriteFault-clause-sends : goal.returns-in-WriteFault-clause-sends
returns-in-WriteFault-clause-sends g c = Sends-cut _ _ _ c.args.tail.now c.in-WriteFault.ensures.sends

pub returns-in-Done-clause-sends : goal.returns-in-Done-clause-sends
returns-in-Done-clause-sends g c =
    Sends-then _ _ _ _ c.args.tail.now c.send.result c.in-Done.ensures.sends c.send.ensures.sends
