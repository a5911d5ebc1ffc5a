-- What a command says of its words' readings and of its end.
use Rattle.std.proofs.Common.{◌≡◌, ◌≤◌, ℕ, inl, List, [], Option, length, refl, sym, ap, ◌∙◌, subst, arith}
use Rattle.std.proofs.KnownBytes.{Appends-nil, Consumes-nil}
use Rattle.ecr_model.specs.declared.registry.journal.Place.{Place}
use Rattle.ecr_model.specs.declared.registry.journal.Limits.{Limits}
use Rattle.ecr_model.specs.declared.names.SiteId.{SiteId}
use Rattle.ecr_model.specs.declared.outcome.Cut.{Cut}
use Rattle.ecr_model.specs.declared.outcome.End.{End}
use Rattle.ecr_model.specs.declared.outcome.End.TheVariants as ends
use Rattle.ecr_model.specs.sessions.Commands.{IsSession, RunsSession, SaysUsage, Written, fresh_session}
use Rattle.ecr_model.specs.registry.Limits.{standard}
use Rattle.ecr_model.specs.registry.Scripts.{World, fresh}
use Rattle.ecr_model.specs.http.Stream.{start}
use Rattle.ecr_model.specs.sessions.Sessions.{Account, AnsweredBy, IsServed, Outside, Serves, ServesBy, Setting, max_read}
use Rattle.ecr_model.proofs.lemmas.sessions.CommandLemmas.{IsSession-unique}
use Rattle.ecr_desk.specs.Desks.{StillState}

-- what is said of other words holds of an end that is the same
pub SaysUsage-same_end : (before after : Written) (end other : End) → end ≡ other → SaysUsage before after other
    → SaysUsage before after end
SaysUsage-same_end before after end other e says = subst (SaysUsage before after) (sym e) says

-- words that read as a session read as no other
pub RunsSession-same_words : (words : List (List ℕ)) (m n : Option ℕ) (xs ys : List SiteId) (before after : Outside)
    (cuts : List Cut) (end : End)
    → IsSession words m xs → IsSession words n ys → RunsSession xs m before after cuts end
    → RunsSession ys n before after cuts end
RunsSession-same_words words m n xs ys before after cuts end read other runs =
    let same = IsSession-unique words m n xs ys read other in
    subst (λ fixed. RunsSession ys fixed before after cuts end) same.0
    (subst (λ sites. RunsSession sites m before after cuts end) same.1 runs)

-- no byte is within the number that may be read
nothing_read : length (let none : List ℕ = [] in none) ≤ max_read
unfolding max_read
nothing_read = omega arith

-- a session that isn't begun has told nothing
Serves-nothing : (set : Setting) (before : Outside) (account : Account) (end : End)
    → account ≡ record { moments = []; places = []; cuts = [] } → end ≡ ends.Mem
    → Serves set before before account set.first end
Serves-nothing set before account end none mem =
    subst (λ e. Serves set before before account set.first e) (sym mem)
    (subst (λ a. AnsweredBy IsServed set before before a set.first) (sym none) (record {
      read = [];
      exchanges = [];
      within = nothing_read;
      point = start [];
      further = [];
      consumed = Consumes-nil before.left;
      begins = refl;
      goes_on = refl;
      serviced = record { says = refl; served = refl };
      told_to = inl refl;
      sent = Appends-nil before.held;
    }))

-- a command that isn't begun
pub RunsSession-nothing : (sites : List SiteId) (fixed : Option ℕ) (before : Outside) (cuts : List Cut) (end : End)
    → cuts ≡ [] → end ≡ ends.Mem
    → RunsSession sites fixed before before cuts end
RunsSession-nothing sites fixed before cuts end none mem = record {
  moments = [];
  places = [];
  last = fresh;
  serves = Serves-nothing (fresh_session sites fixed) before
      (record { moments = []; places = []; cuts = cuts }) end
      (ap (λ cs. record { moments = []; places = []; cuts = cs }) none) mem;
}

-- a session over a desk on which nothing is
pub RunsSession-over : (sites : List SiteId) (fixed : Option ℕ) (seen : StillState) (before after : Outside)
    (moments : List ℕ) (places : List (List Place)) (cuts : List Cut) (last : World) (end : End)
    → seen ≡ record { realm = record { served = sites; limits = standard }; world = fresh; made = 0 }
    → Serves (record { realm = seen.realm; first = seen.world; fixed = fixed }) before after
    (record { moments = moments; places = places; cuts = cuts }) last end
    → RunsSession sites fixed before after cuts end
RunsSession-over sites fixed seen before after moments places cuts last end is serves = record {
  moments = moments;
  places = places;
  last = last;
  serves = subst (λ (s : StillState). Serves (record { realm = s.realm; first = s.world; fixed = fixed }) before after
      (record { moments = moments; places = places; cuts = cuts }) last end) is serves;
}

-- the cuts and the end are what the session told
pub RunsSession-told : (sites : List SiteId) (fixed : Option ℕ) (before after : Outside) (cuts told_cuts : List Cut)
    (end told_end : End)
    → cuts ≡ told_cuts → end ≡ told_end → RunsSession sites fixed before after told_cuts told_end
    → RunsSession sites fixed before after cuts end
RunsSession-told sites fixed before after cuts told_cuts end told_end same_cuts same_end runs =
    subst (λ e. RunsSession sites fixed before after cuts e) (sym same_end)
    (subst (λ cs. RunsSession sites fixed before after cs told_end) (sym same_cuts) runs)

-- a fresh desk is seen as such
pub fresh-seen : (seen : StillState) (sites items : List SiteId) (limits : Limits)
    → seen ≡ record { realm = record { served = items; limits = limits }; world = fresh; made = 0 }
    → items ≡ sites → limits ≡ standard → seen
    ≡ record { realm = record { served = sites; limits = standard }; world = fresh; made = 0 }
fresh-seen seen sites items limits is same_items same_limits =
    is ∙ ap (λ xs. record { realm = record { served = xs; limits = limits }; world = fresh; made = 0 }) same_items
    ∙ ap (λ l. record { realm = record { served = sites; limits = l }; world = fresh; made = 0 }) same_limits
