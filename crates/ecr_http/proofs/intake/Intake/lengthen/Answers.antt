use Rattle.std.proofs.Common.{length, arith}
use Rattle.ecr_model.specs.http.Framing.{max_head, HasNoEnd}
use Rattle.ecr_model.proofs.lemmas.http.FrontLemmas.{IsFront-long}
use Rattle.ecr_http.specs.Takings.{left_to_read}
use Rattle.ecr_http.proofs.NextHeadLemmas.{looked, IsRead-looked, LooksOn-reads}
use Rattle.ecr_http.proofs.intake.Intake.lengthen.Goals as goal

pub returns-then-len-ge-MAX_HEAD-clause-goes_on : goal.returns-then-len-ge-MAX_HEAD-clause-goes_on
unfolding max_head
returns-then-len-ge-MAX_HEAD-clause-goes_on g c = λ before old r. record {
  read = r;
  none = c.requires.none;
  stands = IsFront-long c.args.self.now.at c.args.self.now.buffer c.requires.no_end
      (omega (arith, c.if-len-ge-MAX_HEAD.true, c.len.ensures.length));
}

pub returns-clause-goes_on : goal.returns-clause-goes_on
unfolding max_head
returns-clause-goes_on g c = λ before old r.
    let size = c.len-self.ensures.length in
    let few = c.if-len-ge-MAX_HEAD.false in
    let count = c.len.ensures.length in
    let none_ends : HasNoEnd c.args.self.now.buffer c.len-self.result = λ k below. c.requires.no_end k (omega arith) in
    let all : HasNoEnd c.args.self.now.buffer (length c.args.self.now.buffer) =
    λ k below. c.requires.no_end k (omega arith) in
    LooksOn-reads before old _ _ (looked c.len-self.result c.args.self.now) c.fill.new.self c.fill.result
    (IsRead-looked before old _ c.args.self.now c.len-self.result r (omega arith) none_ends)
    c.requires.none all (omega arith) c.fill.ensures.reads

pub returns-clause-nearer : goal.returns-clause-nearer
unfolding left_to_read
returns-clause-nearer g c = c.fill.ensures.nearer
