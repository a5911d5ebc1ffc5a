use Rattle.std.proofs.Common.{refl}
use Rattle.ecr_model.specs.http.Framing.{says_close}
use Rattle.ecr_model.specs.http.Fields.{begins_close, has_close}
use Rattle.ecr_examples.proofs.heads.sessions_close.Goals as goal

pub returns : goal.returns
unfolding says_close begins_close has_close
returns c = record {
  close = record {
    comma = refl;
    word = refl;
    spaced = refl;
    front = refl;
    longer = refl;
    shorter = refl;
    two_words = refl;
    later = refl;
    not_later = refl;
    some = refl;
    none = refl;
    old = refl;
    open_ = refl;
    says = refl;
    second = refl;
  };
}
