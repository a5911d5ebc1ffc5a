use Rattle.std.proofs.Common.{◌≡◌, ⊎_elim, sym, ap}
use Rattle.ecr_model.specs.declared.http.Section.TheVariants as sections
use Rattle.ecr_model.specs.http.Replies.{long_reply, empty_reply, connection_line}
use Rattle.ecr_session.proofs.fixed.long_reply.Goals as goal

pub returns-in-Body : goal.returns-in-Body
unfolding long_reply empty_reply connection_line
returns-in-Body c = sym (ap long_reply c.in-Body.is)

pub returns-in-Head : goal.returns-in-Head
unfolding long_reply empty_reply connection_line
returns-in-Head c = ⊎_elim (λ (e : c.args.section ≡ sections.Head). sym (ap long_reply e))
    (λ (e : c.args.section ≡ sections.Trailers). sym (ap long_reply e)) c.in-Head.is
