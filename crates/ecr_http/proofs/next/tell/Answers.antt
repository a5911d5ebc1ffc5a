use Rattle.std.proofs.Common.{◌∙◌, Bool, List, ℕ, sym, subst}
use Rattle.std.specs.Io.KnownBytes.{Appends}
use Rattle.std.proofs.KnownBytes.{Appends-nil}
use Rattle.ecr_model.specs.http.Replies.{interim}
use Rattle.ecr_http.specs.Sends.{Sends}
use Rattle.ecr_http.proofs.next.tell.Goals as goal

pub returns-then-not-waits-clause-sends : goal.returns-then-not-waits-clause-sends
unfolding interim
returns-then-not-waits-clause-sends g c =
    let held = g.K.Sink.held c.args.sink.now in
    subst (λ (due : Bool). Appends held held (interim due)) (sym c.if-not-waits.true ∙ c.waits.ensures.waits)
    (Appends-nil held)

pub returns-clause-sends : goal.returns-clause-sends
unfolding interim
returns-clause-sends g c =
    let held = g.K.Sink.held c.args.sink.now in
    let told = g.K.Sink.held c.send.new.sink in
    subst (λ (due : Bool). Sends held told (interim due) c.send.result) (sym c.if-not-waits.false
    ∙ c.waits.ensures.waits)
    (subst (λ (l : List ℕ). Sends held told l c.send.result) c.continue_reply.ensures c.send.ensures.sends)
