use Rattle.std.proofs.Common.{◌++◌, sym, subst, append_assoc}
use Rattle.std.specs.Io.KnownBytes.{Appends}
use Rattle.std.specs.List.{concat}
use Rattle.ecr_http.specs.declared.write.Sent.TheVariants.{WriteFault}
use Rattle.ecr_http.specs.Sends.{Sends}
use Rattle.ecr_http.proofs.SendLemmas.{Sends-then, Sends-cut}
use Rattle.ecr_http.proofs.reader.Reader.send.Goals as goal

pub returns-in-WriteFault-clause-sends : goal.returns-in-WriteFault-clause-sends
returns-in-WriteFault-clause-sends g c =
    let r = c.args.reply.now in
    let head = subst (λ l. Sends (g.K.Sink.held c.args.sink.now)
    (g.K.Sink.held c.send.new.sink) l WriteFault) c.deref.ensures.value c.in-WriteFault.ensures.sends in
    Sends-cut _ _ (r.head.items ++ concat r.body.items) r.tail.items
    (Sends-cut _ _ r.head.items (concat r.body.items) head)

pub returns-in-Done-clause-sends : goal.returns-in-Done-clause-sends
returns-in-Done-clause-sends g c =
    let r = c.args.reply.now in
    let body = concat r.body.items ++ r.tail.items in
    let first = subst (λ l. Appends (g.K.Sink.held c.args.sink.now)
    (g.K.Sink.held c.send.new.sink) l) c.deref.ensures.value c.in-Done.ensures.sends in
    let second = subst (λ l. Sends (g.K.Sink.held c.send.new.sink) (g.K.Sink.held c.send_body.new.sink)
    (concat l ++ c.deref-in-Done-2.result.now) c.send_body.result) c.deref-in-Done.ensures.value
    c.send_body.ensures.sends in
    let third = subst (λ l. Sends (g.K.Sink.held c.send.new.sink) (g.K.Sink.held c.send_body.new.sink)
    (concat r.body.items ++ l) c.send_body.result) c.deref-in-Done-2.ensures.value second in
    subst (λ l. Sends (g.K.Sink.held c.args.sink.now) (g.K.Sink.held c.send_body.new.sink) l c.send_body.result)
    (sym (append_assoc r.head.items (concat r.body.items) r.tail.items))
    (Sends-then _ _ _ r.head.items body c.send_body.result first third)
