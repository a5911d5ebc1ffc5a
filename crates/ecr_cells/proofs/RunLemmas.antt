-- The turns of one caller as runs of scripts.
use Rattle.std.proofs.Common.{◌≡◌, ℕ, true, false, List, [], ◌∷◌, Option, None, Some, Result, IfOk, refl, sym, ap, ◌∙◌, subst, arith}
use Rattle.ecr_model.specs.declared.requests.call.Call.{Call}
use Rattle.ecr_model.specs.declared.requests.call.SiteCall.{SiteCall}
use Rattle.ecr_model.specs.declared.registry.directory.Registered.TheVariants.{New, Known, Full}
use Rattle.ecr_model.specs.declared.registry.journal.CellKey.{CellKey}
use Rattle.ecr_model.specs.declared.registry.journal.CellKey.TheVariants.{Directory, Repository}
use Rattle.ecr_model.specs.declared.registry.journal.Place.{Place}
use Rattle.ecr_model.specs.declared.names.Digest.{Digest}
use Rattle.ecr_model.specs.declared.names.RepoKey.{RepoKey}
use Rattle.ecr_model.specs.declared.names.SiteId.{SiteId}
use Rattle.ecr_model.specs.declared.requests.refusal.Refusal.{Refusal}
use Rattle.ecr_model.specs.declared.requests.reply.Reply.{Reply}
use Rattle.ecr_model.specs.declared.requests.reply.Reply.TheVariants.{Refused}
use Rattle.ecr_model.specs.requests.Requests.{Decided, plain, beside_of, call_script, first_ask, first_turn, cell_turn, then_cell, site_script, reply_told, site_told}
use Rattle.ecr_model.specs.registry.Scripts.{Ask, Script, Told, call, site_call, ends, turn, then_do, run}
use Rattle.ecr_model.specs.registry.Soundness.{AreSound}
use Rattle.ecr_desk.specs.Desks.{DeskState, StillState, seen_by, Ran, Runs}
use Rattle.ecr_desk.proofs.DeskLemmas.{Ran-call, Ran-ends, Ran-then, Runs-ran}
use Rattle.ecr_cells.specs.declared.deed.Done.{Done}
use Rattle.ecr_cells.specs.declared.deed.Done.TheVariants as done
use Rattle.ecr_cells.specs.Deeds.{told_of, refusal_of}
use Rattle.ecr_cells.specs.Desks.{Took}

-- a turn that was made
abbrev pub MadeTurn : DeskState → DeskState → CellKey → Ask → Told → Place → Type 0
MadeTurn before after cell ask told place = Ran before after (turn cell ask (λ t. ends t)) told (place ∷ [])

Runs-took : (before after : StillState) (cell : CellKey) (ask : Ask) (told : Told) (place : Place)
    → Took before after cell ask told place → Runs before after (turn cell ask (λ t. ends t)) told (place ∷ [])
unfolding run
Runs-took before after cell ask told place took = record {
  realm_stays = took.realm_stays;
  left = took.left;
  counted = omega (arith, took.counted);
  placed = ap (λ p. p ∷ []) took.placed;
  answered = took.told_is;
}

-- the next turn over sound journals
pub Ran-took : (before after : StillState) (cell : CellKey) (ask : Ask) (told : Told) (place : Place)
    → AreSound before.realm before.world.journals → Took before after cell ask told place
    → MadeTurn (seen_by before) (seen_by after) cell ask told place
Ran-took before after cell ask told place sound took =
    Runs-ran before after (turn cell ask (λ t. ends t)) told (place ∷ []) sound
    (Runs-took before after cell ask told place took)

-- a turn and then an answer
pub Ran-turn : {A : Type 0} (before after : DeskState) (cell : CellKey) (ask : Ask) (told : Told) (place : Place)
    (answer : Told → A)
    → MadeTurn before after cell ask told place
    → Ran before after (turn cell ask (λ t. ends (answer t))) (answer told) (place ∷ [])
unfolding then_do
Ran-turn before after cell ask told place answer made =
    Ran-then before after after (turn cell ask (λ t. ends t)) (λ t. ends (answer t)) told (answer told)
    (place ∷ []) [] made (Ran-ends after (answer told))

-- a turn in the site's directory is the first turn of a call
pub Ran-first_turn : (before after : DeskState) (key : RepoKey) (c : Call) (site : SiteId) (ask : Ask) (told : Told)
    (place : Place)
    → site ≡ key.site → ask ≡ first_ask key.name c
    → MadeTurn before after (Directory site) ask told place
    → Ran before after (first_turn key c) told (place ∷ [])
unfolding first_turn
Ran-first_turn before after key c site ask told place at asks took =
    Ran-turn before after (Directory key.site) (first_ask key.name c) told place (λ t. t)
    (subst (λ (a : Ask). MadeTurn before after (Directory key.site) a told place) asks
    (subst (λ (s : SiteId). MadeTurn before after (Directory s) ask told place) at took))

-- a turn in the repository is a call's turn there
pub Ran-cell_turn : (before after : DeskState) (key copy : RepoKey) (c : Call) (given : Option (List ℕ)) (moment : ℕ)
    (told : Told) (place : Place)
    → copy ≡ key → MadeTurn before after (Repository copy) (call (beside_of given moment) c) told place
    → Ran before after (cell_turn key c given moment) (reply_told told) (place ∷ [])
Ran-cell_turn before after key copy c given moment told place at took =
    Ran-turn before after (Repository key) (call (beside_of given moment) c) told place reply_told
    (subst (λ (k : RepoKey). MadeTurn before after (Repository k)
    (call (beside_of given moment) c) told place) at took)

-- a turn in the site's directory is all of a site's call
pub Ran-site_script : (before after : DeskState) (site copy : SiteId) (c : SiteCall) (told : Told) (place : Place)
    → copy ≡ site → MadeTurn before after (Directory copy) (site_call c) told place
    → Ran before after (site_script site c) (site_told told) (place ∷ [])
unfolding site_script
Ran-site_script before after site copy c told place at took =
    Ran-turn before after (Directory site) (site_call c) told place site_told
    (subst (λ (s : SiteId). MadeTurn before after (Directory s) (site_call c) told place) at took)

-- ---- the first turn

-- where nothing refuses it, the turn in the repository follows
pub then_cell-goes_on : (key : RepoKey) (c : Call) (given : Option (List ℕ)) (moment : ℕ) (told : Done)
    → refusal_of told ≡ None
    → cell_turn key c given moment ≡ then_cell key c given moment (told_of told)
unfolding then_cell
then_cell-goes_on key c given moment (done.Known true) is = refl
then_cell-goes_on key c given moment (done.Known false) is = cc
then_cell-goes_on key c given moment (done.Registered New) is = refl
then_cell-goes_on key c given moment (done.Registered Known) is = refl
then_cell-goes_on key c given moment (done.Registered (Full limit count)) is = cc
then_cell-goes_on key c given moment (done.Listed reply) is = cc
then_cell-goes_on key c given moment (done.Replied out) is = cc
then_cell-goes_on key c given moment done.Nothing is = cc

-- a call that its first turn refuses has no other turn
pub then_cell-ends : (key : RepoKey) (c : Call) (given : Option (List ℕ)) (moment : ℕ) (told : Done)
    (refusal : Refusal) → refusal_of told ≡ Some refusal
    → ends (plain (Refused refusal)) ≡ then_cell key c given moment (told_of told)
unfolding then_cell
then_cell-ends key c given moment (done.Known true) refusal is = cc
then_cell-ends key c given moment (done.Known false) refusal is = cc
then_cell-ends key c given moment (done.Registered New) refusal is = cc
then_cell-ends key c given moment (done.Registered Known) refusal is = cc
then_cell-ends key c given moment (done.Registered (Full limit count)) refusal is = cc
then_cell-ends key c given moment (done.Listed reply) refusal is = cc
then_cell-ends key c given moment (done.Replied out) refusal is = cc
then_cell-ends key c given moment done.Nothing refusal is = cc

-- where nothing refuses it, the turn in the repository is what follows
pub Ran-goes_on : {X E : Type 0} (result : Result X E) (before after : DeskState) (key : RepoKey) (c : Call)
    (given : Option (List ℕ)) (moment : ℕ) (told : Done) (decided : X → Decided) (places : X → List Place)
    → refusal_of told ≡ None
    → IfOk result (λ x. Ran before after (cell_turn key c given moment) (decided x) (places x))
    → IfOk result (λ x. Ran before after (then_cell key c given moment (told_of told)) (decided x) (places x))
Ran-goes_on result before after key c given moment told decided places is ran =
    subst (λ (s : Script Decided). IfOk result (λ x. Ran before after s (decided x) (places x)))
    (then_cell-goes_on key c given moment told is) ran

-- and where its first turn refuses it, nothing follows
pub Ran-refused : (seen : DeskState) (key : RepoKey) (c : Call) (given : Option (List ℕ)) (moment : ℕ) (told : Done)
    (refusal : Refusal) (reply : Reply)
    → refusal_of told ≡ Some refusal → reply ≡ Refused refusal
    → Ran seen seen (then_cell key c given moment (told_of told)) (plain reply) []
Ran-refused seen key c given moment told refusal reply is same =
    subst (λ (s : Script Decided). Ran seen seen s (plain reply) [])
    (then_cell-ends key c given moment told refusal is)
    (subst (λ (r : Reply). Ran seen seen (ends (plain (Refused refusal))) (plain r) []) (sym same)
    (Ran-ends seen (plain (Refused refusal))))

-- ---- the answer

-- both parts of a call were carried out, and the answer has the reply of the second and the places of both
pub Ran-answered : (before mid after : DeskState) (key : RepoKey) (c : Call) (given : Option (List ℕ)) (moment : ℕ)
    (told : Told) (first : Place) (second places : List Place) (reply answered : Reply) (sealed : Option Digest)
    → answered ≡ reply → sealed ≡ None → places ≡ first ∷ second
    → Ran before mid (first_turn key c) told (first ∷ [])
    → Ran mid after (then_cell key c given moment told) (plain reply) second
    → Ran before after (call_script key c given moment) (record { reply = answered; sealed = sealed }) places
Ran-answered before mid after key c given moment told first second places reply answered sealed same none
    all one other =
    let script : Script Decided = call_script key c given moment in
    let decided : record { reply = answered; sealed = sealed } ≡ plain reply =
    ap {B = Decided} (λ r. record { reply = r; sealed = sealed }) same
    ∙ ap {B = Decided} (λ d. record { reply = reply; sealed = d }) none in
    subst (λ (ps : List Place). Ran before after script (record { reply = answered; sealed = sealed }) ps) (sym all)
    (subst (λ (d : Decided). Ran before after script d (first ∷ second)) (sym decided)
    (Ran-call before mid after key c given moment told (plain reply) (first ∷ []) second one other))
