-- The places of a session are fresh.
use Rattle.std.proofs.Common.{List, sym, subst}
use Rattle.ecr_model.specs.declared.outcome.End.{End}
use Rattle.ecr_model.specs.registry.Scripts.{Journals, World}
use Rattle.ecr_model.specs.registry.Views.{Views, journals_of}
use Rattle.ecr_model.specs.laws.SessionLaws.{all_places}
use Rattle.ecr_model.specs.sessions.Callers.{AreBetween, IsServedAmong, ServesAmong}
use Rattle.ecr_model.specs.sessions.Sessions.{Account, Outside, Setting, SettingOf, Exchange, IsServed, Serviced, ServicedBy, Serves, stands}
use Rattle.ecr_model.specs.registry.Soundness.{AreFresh, AreSound}
use Rattle.ecr_model.proofs.lemmas.registry.SoundnessLemmas.{places_are_fresh}
use Rattle.ecr_model.proofs.lemmas.sessions.CallerLemmas.{places_rise}
use Rattle.ecr_session.proofs.MoveLemmas.{exchanges_in}

-- the places of an account of exchanges over sound journals
serviced_fresh : (set : Setting) (before after : Outside) (es : List Exchange) (account : Account) (last : World)
    → AreSound set.realm set.first.journals → Serviced set before after es account last
    → AreFresh set.first.journals (all_places account.places)
serviced_fresh set before after es account last sound s =
    subst (λ (a : Account). AreFresh set.first.journals (all_places a.places)) (sym s.says)
    (places_are_fresh (stands set set.first before.told) (stands set last after.told) es s.served sound)

-- the places of a session over sound journals, however it ended
pub Serves-fresh : (set : Setting) (before after : Outside) (account : Account) (last : World) (end : End)
    → AreSound set.realm set.first.journals → Serves set before after account last end
    → AreFresh set.first.journals (all_places account.places)
Serves-fresh set before after account last end sound s =
    let of = exchanges_in IsServed set before after account last end s in
    serviced_fresh set before after of.0 account last sound of.1

-- the places of an account of exchanges among others
serviced_between : (journals : Journals) (set : SettingOf Views) (before after : Outside) (es : List Exchange)
    (account : Account) (last : Views) → ServicedBy (IsServedAmong journals) set before after es account last
    → AreBetween set.first last (all_places account.places)
serviced_between journals set before after es account last s =
    subst (λ (a : Account). AreBetween set.first last (all_places a.places)) (sym s.says)
    (places_rise journals (stands set set.first before.told) (stands set last after.told) es s.served)

-- the places of a session among others, however it ended
pub ServesAmong-between : (set : SettingOf Views) (before after : Outside) (account : Account) (last : Views)
    (end : End)
    → ServesAmong set before after account last end → AreBetween set.first last (all_places account.places)
ServesAmong-between set before after account last end s =
    let of = exchanges_in (IsServedAmong (journals_of last)) set before after account last end s in
    serviced_between (journals_of last) set before after of.0 account last of.1
