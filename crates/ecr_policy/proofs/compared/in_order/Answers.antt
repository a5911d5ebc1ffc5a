use Rattle.std.proofs.Common.{List, ℕ, subst, sym}
use Rattle.ecr_policy.specs.Sets.{InOrder}
use Rattle.ecr_policy.proofs.SetLemmas.{InOrder-dedup}
use Rattle.ecr_policy.proofs.compared.in_order.Goals as goal

pub returns : goal.returns
returns c =
    let texts = c.args.texts.now in
    let ordered = InOrder-dedup c.in_ok-sorted.sorted.items c.sort_unstable.new.self.items c.dedup.new.self.items texts
    c.in_ok-sorted.ensures
    c.sort_unstable.ensures.permutation c.sort_unstable.ensures.sorted c.dedup.ensures.filtered in
    subst (λ (sorted : List (List ℕ)). InOrder sorted texts) (sym c.new.ensures) ordered
