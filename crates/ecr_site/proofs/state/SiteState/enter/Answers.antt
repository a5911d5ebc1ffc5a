use Rattle.std.proofs.Common.{◌≡◌, ◌<◌, ◌≤◌, ◌+◌, ◌∙◌, List, [], ◌∷◌, ◌++◌, refl, true, false, length, subst, sym, ap}
use Rattle.ecr_model.specs.registry.Directories.{is_registered, registration_line}
use Rattle.ecr_model.specs.registry.Journals.{past}
use Rattle.ecr_model.specs.declared.registry.directory.Registered.TheVariants.{New, Known}
use Rattle.ecr_model.specs.declared.registry.journal.Line.{Line}
use Rattle.ecr_site.specs.States.{SiteJournal, frame_of_journal, directory_of, after_result, registration_in, with_line}
use Rattle.ecr_site.proofs.StateLemmas.{AreNamesOf-registration_line, is_at-registered, past-with_line, registration-known, registration-new, was_there, was_not_there}
use Rattle.ecr_site.proofs.state.SiteState.enter.Goals as goal

pub returns-then-not-branch-clause-exact : goal.returns-then-not-branch-clause-exact
returns-then-not-branch-clause-exact c =
    let s = c.self.inside in
    let view : SiteJournal = record {
      site = s.site;
      served = s.served.items;
      limits = s.limits;
      journal = s.journal.items;
    } in
    let there : is_registered c.in_ok-kept.kept (directory_of view) ≡ true =
    sym (is_at-registered view s.names.keys c.in_ok-kept.kept c.self.invariant)
    ∙ was_there _ _ c.in_ok-insert.ensures.added c.if-not-branch.true in
    let known : registration_in view c.in_ok-kept.kept ≡ Known =
    registration-known (frame_of_journal view) (directory_of view) c.in_ok-kept.kept there in
    sym known ∙ ap (registration_in view) c.in_ok-kept.ensures
    ∙ ap (λ j. registration_in j c.args.name.now) c.self.view_is

pub returns-then-not-branch-clause-entered : goal.returns-then-not-branch-clause-entered
returns-then-not-branch-clause-entered c =
    let s = c.self.inside in
    let now = c.args.self.now in
    let line : Line = registration_line c.args.ticket c.args.caller c.args.name.now in
    ap (λ l. record {
      site = s.site;
      served = s.served.items;
      limits = s.limits;
      journal = l;
    }) c.in_ok-reserve.ensures.items
    ∙ c.self.view_is
    ∙ ap (λ r. after_result r now line) (returns-then-not-branch-clause-exact c)

pub returns-clause-exact : goal.returns-clause-exact
returns-clause-exact c =
    let s = c.self.inside in
    let view : SiteJournal = record {
      site = s.site;
      served = s.served.items;
      limits = s.limits;
      journal = s.journal.items;
    } in
    let absent : is_registered c.in_ok-kept.kept (directory_of view) ≡ false =
    sym (is_at-registered view s.names.keys c.in_ok-kept.kept c.self.invariant)
    ∙ was_not_there _ _ c.in_ok-insert.ensures.added c.if-not-branch.false in
    let below : length (directory_of view).names < s.limits.names =
    subst (λ (j : SiteJournal). length (directory_of j).names < j.limits.names)
    (sym c.self.view_is) c.requires.below in
    let new : registration_in view c.in_ok-kept.kept ≡ New =
    registration-new (frame_of_journal view) (directory_of view) c.in_ok-kept.kept absent below in
    sym new ∙ ap (registration_in view) c.in_ok-kept.ensures
    ∙ ap (λ j. registration_in j c.args.name.now) c.self.view_is

pub invariant_of-self-2 : goal.invariant_of-self-2
invariant_of-self-2 c =
    let s = c.self.inside in
    let ticket = c.args.ticket in
    let name = c.args.name.now in
    let is = sym c.self.view_is in
    rw (
      c.push_reserved.ensures.items,
      c.line_of.ensures,
      c.in_ok-insert.ensures.keys,
      c.in_ok-reserve.ensures.items,
      c.in_ok-told.ensures,
      c.in_ok-kept.ensures,
    )
    (AreNamesOf-registration_line (record {
      site = s.site;
      served = s.served.items;
      limits = s.limits;
    }) s.journal.items s.names.keys ticket c.args.caller name c.self.invariant
    (subst (λ (j : SiteJournal). past j.journal ≤ ticket) is c.requires.later)
    (subst (λ (j : SiteJournal). registration_in j name ≡ New) is (sym (returns-clause-exact c))))

pub returns-clause-entered : goal.returns-clause-entered
returns-clause-entered c =
    let s = c.self.inside in
    let now = c.args.self.now in
    let line : Line = registration_line c.args.ticket c.args.caller c.args.name.now in
    let items : c.push_reserved.new.self.items ≡ s.journal.items ++ line ∷ [] =
    rw (c.push_reserved.ensures.items, c.line_of.ensures, c.in_ok-reserve.ensures.items, c.in_ok-told.ensures) refl in
    ap (λ l. record { site = s.site; served = s.served.items; limits = s.limits; journal = l }) items
    ∙ ap (λ j. with_line j line) c.self.view_is
    ∙ ap (λ r. after_result r now line) (returns-clause-exact c)

pub returns-clause-last : goal.returns-clause-last
returns-clause-last c =
    let s = c.self.inside in
    let view : SiteJournal = record {
      site = s.site;
      served = s.served.items;
      limits = s.limits;
      journal = s.journal.items;
    } in
    let line : Line = registration_line c.args.ticket c.args.caller c.args.name.now in
    let items : c.push_reserved.new.self.items ≡ s.journal.items ++ line ∷ [] =
    rw (c.push_reserved.ensures.items, c.line_of.ensures, c.in_ok-reserve.ensures.items, c.in_ok-told.ensures) refl in
    subst (λ (l : List Line). past l ≤ c.args.ticket + 1) (sym items)
    (past-with_line view c.args.ticket c.args.caller c.args.name.now)
