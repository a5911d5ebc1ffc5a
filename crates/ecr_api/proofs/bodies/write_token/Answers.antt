use Rattle.std.proofs.lemmas.Result.{on_ok_weaker}
use Rattle.ecr_api.proofs.TokenLemmas.{with_token-Some}
use Rattle.ecr_api.proofs.bodies.write_token.Goals as goal

pub returns-in_ok-key-in-Some-clause-ok : goal.returns-in_ok-key-in-Some-clause-ok
returns-in_ok-key-in-Some-clause-ok c =
    on_ok_weaker c.quoted_u64.result (λ e members. with_token-Some c.args.out.now.tokens c.key.new.self.tokens
    c.quoted_u64.new.self.tokens c.in-Some.place c.args.next c.in-Some.is c.in_ok-key-in-Some.ensures.ok e members)
    c.quoted_u64.ensures.ok
