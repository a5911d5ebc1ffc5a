use Rattle.std.proofs.Common.{◌∙◌, sym, ap}
use Rattle.std.specs.Str.{str_eq_ignore_ascii_case}
use Rattle.ecr_session.proofs.HostLemmas.{at_front, no_front}
use Rattle.ecr_session.proofs.host.after.Goals as goal

pub returns-then-is_same : goal.returns-then-is_same
returns-then-is_same c = λ end.
    let front = c.args.front.now in
    at_front c.args.text.now front end
    (ap (λ l. str_eq_ignore_ascii_case l front) (sym c.split_at.ensures.front) ∙ sym c.is_same.ensures
    ∙ c.if-is_same.true)
    ∙ ap (λ l. str_eq_ignore_ascii_case l end) (sym c.split_at.ensures.back)

pub returns-else-is_same : goal.returns-else-is_same
returns-else-is_same c = λ end.
    let front = c.args.front.now in
    no_front c.args.text.now front end
    (ap (λ l. str_eq_ignore_ascii_case l front) (sym c.split_at.ensures.front) ∙ sym c.is_same.ensures
    ∙ c.if-is_same.false)
