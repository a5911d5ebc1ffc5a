use Rattle.std.proofs.Common.{ap, sym, ◌∙◌}
use Rattle.ecr_turn.proofs.Moves.{opens}
use Rattle.ecr_turn.proofs.turnstile.Turnstile.new.Goals as goal

pub new-made-requires : goal.new-made-requires
new-made-requires g c = let k =
    c.in_ok-slots.ensures.ok in let same = c.of-about.ensures in opens _ _ _ k.0 _ k.1
    (ap g.S.Journal.lines k.2 ∙ c.requires.fresh) (ap g.S.Journal.frame (k.2 ∙ sym same))

pub out_of_slot-requires : goal.out_of_slot-requires
out_of_slot-requires g c = let k = c.in_ok-slots.ensures.ok in record { one = (k.0, c.in-Err.ensures.err ∙ k.1, tt) }
