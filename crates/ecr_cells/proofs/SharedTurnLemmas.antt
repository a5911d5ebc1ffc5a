-- What a turn of one caller among many leaves in its view of the cell.
use Rattle.std.proofs.Common.{◌≡◌, ◌≢◌, ◌≤◌, ◌+◌, ℕ, suc, Bool, List, [], ◌∷◌, ◌++◌, Option, None, Some, is_some, inl, inr, refl, sym, ap, ◌∙◌, subst, arith, append-nil}
use Rattle.ecr_model.specs.declared.registry.journal.CellKey.{CellKey}
use Rattle.ecr_model.specs.declared.registry.journal.CellKey.TheVariants.{Directory, Repository}
use Rattle.ecr_model.specs.declared.registry.journal.Entry.{Entry}
use Rattle.ecr_model.specs.declared.registry.journal.Line.{Line}
use Rattle.ecr_model.specs.declared.registry.journal.Place.{Place}
use Rattle.ecr_model.specs.declared.names.SiteId.{SiteId}
use Rattle.ecr_model.specs.registry.Growth.{Each, Rises, Grows}
use Rattle.ecr_model.specs.registry.Journals.{past, past_from}
use Rattle.ecr_model.specs.registry.Scripts.{Ask, Told, Realm, Turned, turn_at, lines_after}
use Rattle.ecr_model.specs.registry.Views.{View, ExtendsView, lines_of, result_of}
use Rattle.ecr_model.proofs.lemmas.registry.GrowthLemmas.{Rises-higher, Rises-snoc}
use Rattle.ecr_model.proofs.lemmas.registry.ViewLemmas.{turn_at-later}
use Rattle.ecr_turn.specs.Journals.{MayFollow}
use Rattle.ecr_turn.specs.Passes.{Known, IsSamePass}
use Rattle.ecr_repo.specs.States.{State}
use Rattle.ecr_site.specs.States.{SiteJournal, frame_of_journal}
use Rattle.ecr_cells.specs.declared.deed.Done.{Done}
use Rattle.ecr_cells.specs.Deeds.{told_of, changes}
use Rattle.ecr_cells.specs.Doors.{Visited, made_at, view_of, realm_of_frame, frame_of_directory}
use Rattle.ecr_cells.specs.Turns.{turn_in_directory, turn_in_repository, IsDirectoryTurn, IsRepositoryTurn}

-- ---- journals

past_from-rises : (low : ℕ) (lines : List Line) (high : ℕ) → Rises low lines high → past_from low lines ≤ high
past_from-rises low [] high r = r
past_from-rises low (l ∷ ls) high r = past_from-rises (suc l.ticket) ls high r.1

-- a ticket above all of a journal is past it
pub past-rises : (lines : List Line) (high : ℕ) → Rises 0 lines high → past lines ≤ high
past-rises lines high r = past_from-rises 0 lines high r

-- the journal after a turn is as before, or longer by its entry
pub MayFollow-after : (ticket caller : ℕ) (lines : List Line) (entry : Option Entry)
    → MayFollow ticket caller lines (lines_after caller ticket lines entry)
MayFollow-after ticket caller lines None = inl refl
MayFollow-after ticket caller lines (Some entry) =
    inr (record { ticket = ticket; caller = caller; entry = entry }, refl, refl, refl)

lines_after-own : (caller ticket : ℕ) (lines : List Line) (entry : Option Entry)
    → lines_after caller ticket lines entry ≡ lines ++ lines_of caller ticket entry
lines_after-own caller ticket lines None = sym (append-nil lines)
lines_after-own caller ticket lines (Some entry) = refl

Rises-after : (caller ticket : ℕ) (lines : List Line) (entry : Option Entry) → Rises 0 lines ticket
    → Rises 0 (lines_after caller ticket lines entry) (suc ticket)
Rises-after caller ticket lines None r = Rises-higher 0 lines ticket (suc ticket) (omega arith) r
Rises-after caller ticket lines (Some entry) r =
    Rises-snoc 0 lines (record { ticket = ticket; caller = caller; entry = entry }) ticket refl r

own-later : (caller ticket : ℕ) (entry : Option Entry) → Each (λ l. ticket ≤ l.ticket) (lines_of caller ticket entry)
own-later caller ticket None = tt
own-later caller ticket (Some entry) = (omega arith, tt)

-- ---- one turn

-- the journal that the turn found, and the pass before and afterwards
pub record IsMade (before after : Known) (ticket : ℕ) (found : List Line) (entry : Option Entry) : Type 0 where
  pub grown : Grows before.caller before.past before.seen found
  pub fresh : before.past ≤ ticket
  pub below : Rises 0 found ticket
  pub caller_is : after.caller ≡ before.caller
  pub past_is : after.past ≡ ticket + 1
  pub seen_is : after.seen ≡ lines_after before.caller ticket found entry

-- from entering the turnstile to leaving it
pub IsMade-turn : (before mid after : Known) (ticket told caller : ℕ) (found lines left : List Line)
    (entry : Option Entry)
    → IsSamePass before mid × (mid.past ≡ before.past) → before.past ≤ ticket
    → Grows before.caller before.past before.seen found → Rises 0 found ticket
    → told ≡ ticket → lines ≡ found → caller ≡ before.caller
    → IsSamePass mid after × (after.past ≡ ticket + 1) → after.seen ≡ left
    → left ≡ lines_after caller told lines entry
    → IsMade before after told lines entry
IsMade-turn before mid after ticket told caller found lines left entry entered fresh grown below told_is lines_are
    caller_is ended seen left_is =
    record {
      grown = subst (λ (ls : List Line). Grows before.caller before.past before.seen ls) (sym lines_are) grown;
      fresh = subst (λ (n : ℕ). before.past ≤ n) (sym told_is) fresh;
      below = subst (λ (n : ℕ). Rises 0 lines n) (sym told_is)
          (subst (λ (ls : List Line). Rises 0 ls ticket) (sym lines_are) below);
      caller_is = ended.0.1 ∙ entered.0.1;
      past_is = ended.1 ∙ ap (λ n. n + 1) (sym told_is);
      seen_is = seen ∙ left_is ∙ ap (λ n. lines_after n told lines entry) caller_is;
    }

-- the same, where it is said in other words
pub Visited-at : (realm realm' : Realm) (was was' now : View) (cell cell' : CellKey) (ask : Ask) (told : Told)
    (ticket : ℕ) (changed : Bool) (place : Place)
    → realm ≡ realm' → was ≡ was' → cell ≡ cell'
    → place ≡ record { cell = cell'; ticket = ticket; changed = changed }
    → Visited realm (Some was) now cell ask told (record { cell = cell; ticket = ticket; changed = changed })
    → Visited realm' (Some was') now cell' ask told place
Visited-at realm realm' was was' now cell cell' ask told ticket changed place realm_is was_is cell_is place_is visited =
    subst (λ (p : Place). Visited realm' (Some was') now cell' ask told p) (sym place_is)
    (subst (λ (c : CellKey). Visited realm' (Some was') now c ask told
    (record { cell = c; ticket = ticket; changed = changed })) cell_is
    (subst (λ (v : View). Visited realm' (Some v) now cell ask told
    (record { cell = cell; ticket = ticket; changed = changed })) was_is
    (subst (λ (r : Realm). Visited r (Some was) now cell ask told
    (record { cell = cell; ticket = ticket; changed = changed })) realm_is visited)))

-- a turn that was made at that ticket
pub Visited-made : (realm : Realm) (before after : Known) (cell : CellKey) (ask : Ask) (told : Told) (ticket : ℕ)
    (changed : Bool) (found : List Line) (turned : Turned)
    → IsMade before after ticket found turned.entry
    → turn_at realm cell found ticket None ask ≡ turned → told ≡ turned.told → changed ≡ is_some turned.entry
    → Visited realm (Some (view_of before)) (view_of after) cell ask told
    (record { cell = cell; ticket = ticket; changed = changed })
Visited-made realm before after cell ask told ticket changed found turned made is told_is changed_is =
    let own : List Line = lines_of before.caller ticket turned.entry in
    let seen : after.seen ≡ found ++ own = made.seen_is ∙ lines_after-own before.caller ticket found turned.entry in
    let now : turn_at realm cell after.seen ticket None ask ≡ turned =
    ap (λ ls. turn_at realm cell ls ticket None ask) seen
    ∙ turn_at-later realm cell found own ticket None ask (own-later before.caller ticket turned.entry) ∙ is in
    let place : Place = record { cell = cell; ticket = ticket; changed = changed } in
    let entry : turned.entry ≡ (result_of realm cell after.seen ask (made_at place)).entry =
    sym (ap (λ (t : Turned). t.entry) now) in
    record {
      visit = record {
        cell_is = refl;
        changed_is = changed_is ∙ ap (λ (o : Option Entry). is_some o) entry;
        sealed_is = refl;
        fresh = made.fresh;
        within = omega (arith, made.past_is);
        comes = record {
          others = made.grown.news;
          longer = seen ∙ ap (λ ls. ls ++ own) made.grown.longer
              ∙ ap (λ n. (before.seen ++ made.grown.news) ++ lines_of n ticket turned.entry) (sym made.caller_is)
              ∙ ap (λ o. (before.seen ++ made.grown.news) ++ lines_of after.caller ticket o) entry;
          foreign = subst (λ (n : ℕ). Each (λ l. l.caller ≢ n) made.grown.news) (sym made.caller_is)
              made.grown.others;
          later = made.grown.later;
          same = made.caller_is;
          onward = omega (arith, made.past_is, made.fresh);
        };
        rises = subst (λ (ls : List Line). Rises 0 ls after.past) (sym made.seen_is)
            (Rises-higher 0 (lines_after before.caller ticket found turned.entry) (suc ticket) after.past
            (omega (arith, made.past_is)) (Rises-after before.caller ticket found turned.entry made.below));
        shared = λ among. made.past_is;
        alone = λ no. cc;
      };
      told_is = told_is ∙ sym (ap (λ (t : Turned). t.told) now);
    }

-- a turn that was left without an entry
pub Comes-left : (before after : Known) (ticket : ℕ) (found : List Line) → IsMade before after ticket found None
    → ExtendsView (Some (view_of before)) (view_of after) []
Comes-left before after ticket found made = record {
  others = made.grown.news;
  longer = made.seen_is ∙ made.grown.longer ∙ sym (append-nil (before.seen ++ made.grown.news));
  foreign = subst (λ (n : ℕ). Each (λ l. l.caller ≢ n) made.grown.news) (sym made.caller_is) made.grown.others;
  later = made.grown.later;
  same = made.caller_is;
  onward = omega (arith, made.past_is, made.fresh);
}

-- the turn that a directory made
pub Visited-directory : (d d' : SiteJournal) (before after : Known) (ask : Ask) (done : Done)
    (ticket caller : ℕ)
    → IsDirectoryTurn d d' ticket caller ask done
    → IsMade before after ticket d.journal (turn_in_directory d ticket ask).entry
    → Visited (realm_of_frame (frame_of_directory (frame_of_journal d))) (Some (view_of before)) (view_of after)
    (Directory d.site) ask (told_of done) (record { cell = Directory d.site; ticket = ticket; changed = changes done })
unfolding turn_at
Visited-directory d d' before after ask done ticket caller turn made =
    Visited-made (realm_of_frame (frame_of_directory (frame_of_journal d))) before after (Directory d.site) ask
    (told_of done) ticket (changes done) d.journal (turn_in_directory d ticket ask) made refl turn.told_is
    turn.changes_is

-- the turn that a repository made
pub Visited-repository : (served : List SiteId) (s s' : State) (before after : Known) (ask : Ask) (done : Done)
    (ticket caller : ℕ)
    → IsRepositoryTurn s s' ticket caller ask done
    → IsMade before after ticket s.journal (turn_in_repository s ticket ask).entry
    → Visited (record { served = served; limits = s.limits }) (Some (view_of before)) (view_of after)
    (Repository s.key) ask (told_of done) (record { cell = Repository s.key; ticket = ticket; changed = changes done })
unfolding turn_at
Visited-repository served s s' before after ask done ticket caller turn made =
    Visited-made (record { served = served; limits = s.limits }) before after (Repository s.key) ask (told_of done)
    ticket (changes done) s.journal (turn_in_repository s ticket ask) made refl turn.told_is turn.changes_is
