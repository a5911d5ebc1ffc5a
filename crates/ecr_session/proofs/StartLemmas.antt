-- How a session begins.
use Rattle.std.proofs.Common.{◌≡◌, ◌≤◌, ℕ, inl, List, [], length, map, refl, sym, ap, subst, arith}
use Rattle.std.proofs.KnownBytes.{Appends-nil, Consumes-nil}
use Rattle.ecr_model.specs.declared.registry.journal.Place.{Place}
use Rattle.ecr_model.specs.declared.outcome.Cut.{Cut}
use Rattle.ecr_model.specs.declared.outcome.End.{End}
use Rattle.ecr_model.specs.declared.outcome.End.TheVariants as ends
use Rattle.ecr_model.specs.sessions.Sessions.{Account, Exchange, Outside, SettingOf, StandingOf, AnsweredBy, ServicedBy, ServesBy, max_read}
use Rattle.ecr_model.specs.http.Stream.{Point, start}
use Rattle.ecr_desk.specs.Desks.{DeskState}
use Rattle.ecr_session.specs.Accounts.{no_account}
use Rattle.ecr_session.specs.Serving.{SoFar, HasCome, HasEnded, IsServedOver}

-- no byte is within the number that may be read
nothing_read : length (let none : List ℕ = [] in none) ≤ max_read
unfolding max_read
nothing_read = omega arith

-- no request was serviced
nothing_serviced : {W : Type 0} (serves : StandingOf W → Exchange → StandingOf W → Type 0) (set : SettingOf W)
    (before : Outside)
    → ServicedBy serves set before before [] no_account set.first
nothing_serviced serves set before = record { says = refl; served = refl }

-- a session begins where nothing was read
pub HasCome-start : (set : SettingOf DeskState) (before : Outside) (point : Point) → point ≡ start [] → set.first.realm ≡ set.realm
    → HasCome set before before point no_account set.first
HasCome-start set before point fresh same = record {
  realm_stays = same;
  counted = omega arith;
  so_far = record {
    read = [];
    exchanges = [];
    within = nothing_read;
    consumed = Consumes-nil before.left;
    begins = fresh;
    serviced = nothing_serviced IsServedOver set before;
    sent = Appends-nil before.held;
    reads_later = omega arith;
    writes_later = omega arith;
  };
}

-- a session that isn't begun has told nothing
pub HasEnded-nothing : (set : SettingOf DeskState) (before : Outside) → set.first.realm ≡ set.realm
    → HasEnded set before before no_account set.first ends.Mem
HasEnded-nothing set before same = record {
  realm_stays = same;
  counted = omega arith;
  serves = record {
    read = [];
    exchanges = [];
    within = nothing_read;
    point = start [];
    further = [];
    consumed = Consumes-nil before.left;
    begins = refl;
    goes_on = refl;
    serviced = nothing_serviced IsServedOver set before;
    told_to = inl refl;
    sent = Appends-nil before.held;
  };
}
