-- The laws of a site's journal.
use Rattle.std.proofs.Common.{◌≡◌, ◌<◌, ◌≤◌, ◌+◌, ◌∷◌, ◌++◌, ◌||◌, ◌∙◌, ℕ, suc, Bool, not, true, false, cond, nat_lt, List, [], length, Some, unwrap_or, refl, sym, ap, arith, bytes_eq}
use Rattle.std.specs.BTreeMap.{is_at}
use Rattle.std.specs.BTreeSet.{insert_key}
use Rattle.std.specs.List.{list_any}
use Rattle.std.proofs.lemmas.Bool.{cond-true, cond-false, cond_both, lt-ltb, le-ltb, both_ways}
use Rattle.std.proofs.lemmas.Bool.Decides.{same_from_decides, Decides-like}
use Rattle.std.proofs.lemmas.Map.Text.{is_eq-slice_cmp}
use Rattle.std.proofs.lemmas.Slice.Eq.{bytes_eq-Decides}
use Rattle.ecr_model.specs.declared.registry.directory.Directory.{Directory}
use Rattle.ecr_model.specs.declared.registry.directory.Registered.{Registered}
use Rattle.ecr_model.specs.declared.registry.directory.Registered.TheVariants.{New, Known, Full}
use Rattle.ecr_model.specs.declared.registry.journal.Line.{Line}
use Rattle.ecr_model.specs.declared.names.Name.{Name}
use Rattle.ecr_model.specs.registry.Directories.{SiteFrame, name_order, first_directory, is_registered, registration, after_registration, with_name, directory_after_line, replayed_directory, registration_line}
use Rattle.ecr_model.specs.registry.Journals as journals
use Rattle.ecr_model.specs.registry.Journals.{past_from, past}
use Rattle.ecr_model.proofs.lemmas.registry.JournalLemmas.{replay_goes_on, a_sound_journal_grows}
use Rattle.ecr_site.specs.States.{SiteJournal, frame_of_journal, directory_of, with_line, after_result, after_register, AreNamesOf}

-- the order of the two doesn't matter
bytes_eq-swap : (a b : List ℕ) → bytes_eq a b ≡ bytes_eq b a
bytes_eq-swap a b =
    same_from_decides (bytes_eq a b) (bytes_eq b a) (bytes_eq-Decides a b)
    (Decides-like (bytes_eq b a) sym sym (bytes_eq-Decides b a))

-- a set in order has the names that are equal to one of it
pub list_any-name_order : (name : Name) (names : List Name)
    → list_any (is_at (name_order name)) names ≡ list_any (λ n. bytes_eq n.text name.text) names
list_any-name_order name [] = refl
list_any-name_order name (n ∷ ns) =
    λ i. (is_eq-slice_cmp name.text n.text ∙ bytes_eq-swap name.text n.text) i || list_any-name_order name ns i

-- no name is registered at first
pub AreNamesOf-first : (frame : SiteFrame) → AreNamesOf frame [] []
unfolding first_directory journals.replay journals.IsSoundFrom
AreNamesOf-first frame = record { sound = tt; same = refl }

-- the names in order answer as the journal's do
pub is_at-registered : (s : SiteJournal) (names : List Name) (name : Name)
    → AreNamesOf (frame_of_journal s) s.journal names
    → list_any (is_at (name_order name)) names ≡ is_registered name (directory_of s)
is_at-registered s names name kept =
    list_any-name_order name names ∙ ap (λ ns. list_any (λ n. bytes_eq n.text name.text) ns) kept.same

-- ---- the result of a registration

-- what was not added was there, and what was added was not
pub was_there : (there added : Bool) → added ≡ not there → added ≡ false → there ≡ true
was_there true added p q = refl
was_there false added p q = absurd (both_ways added q p)

-- a name that was added wasn't there
pub was_not_there : (there added : Bool) → added ≡ not there → added ≡ true → there ≡ false
was_not_there false added p q = refl
was_not_there true added p q = absurd (both_ways added p q)

-- a registered name is known
pub registration-known : (frame : SiteFrame) (d : Directory) (name : Name) → is_registered name d ≡ true
    → registration frame d name ≡ Known
unfolding registration
registration-known frame d name known = cond-true (is_registered name d) _ _ known

-- a name that isn't registered is new, where the limit has room
pub registration-new : (frame : SiteFrame) (d : Directory) (name : Name) → is_registered name d ≡ false
    → length d.names < frame.limits.names → registration frame d name ≡ New
unfolding registration
registration-new frame d name unknown below =
    cond-false (is_registered name d) _ _ unknown
    ∙ cond-true (nat_lt (length d.names) frame.limits.names) _ _ (lt-ltb (length d.names) frame.limits.names below)

-- where the limit is reached no line is entered
pub after_register-beyond : (s : SiteJournal) (ticket caller : ℕ) (name : Name)
    → s.limits.names ≤ length (directory_of s).names → after_register s ticket caller name ≡ s
unfolding registration
after_register-beyond s ticket caller name full =
    let d : Directory = directory_of s in
    let line : Line = registration_line ticket caller name in
    let over : Registered = Full s.limits.names (length d.names) in
    cond_both (is_registered name d) Known (cond (nat_lt (length d.names) s.limits.names) New over)
    (λ r. after_result r s line ≡ s)
    (λ known. refl)
    (λ unknown. ap (λ b. after_result (cond b New over) s line) (le-ltb (length d.names) s.limits.names full))

-- what the line of a new name makes of the directory
directory_after_line-registration_line : (frame : SiteFrame) (d : Directory) (ticket caller : ℕ) (name : Name)
    → registration frame d name ≡ New
    → directory_after_line frame d (registration_line ticket caller name) ≡ Some (with_name name d)
unfolding directory_after_line
directory_after_line-registration_line frame d ticket caller name new = ap (after_registration name d) new

-- a new name is entered at a later ticket
pub AreNamesOf-registration_line : (frame : SiteFrame) (journal : List Line) (names : List Name) (ticket caller : ℕ)
    (name : Name)
    → AreNamesOf frame journal names → past journal ≤ ticket
    → registration frame (replayed_directory frame journal) name ≡ New
    → AreNamesOf frame (journal ++ registration_line ticket caller name ∷ []) (insert_key name_order names name)
AreNamesOf-registration_line frame journal names ticket caller name kept later new =
    let d : Directory = replayed_directory frame journal in
    let line : Line = registration_line ticket caller name in
    let changes : directory_after_line frame d line ≡ Some (with_name name d) =
    directory_after_line-registration_line frame d ticket caller name new in
    let next : replayed_directory frame (journal ++ line ∷ []) ≡ with_name name d =
    replay_goes_on (directory_after_line frame) first_directory journal line ∙ ap (λ o. unwrap_or o d) changes in
    record {
      sound = a_sound_journal_grows (directory_after_line frame) first_directory journal line
          (with_name name d) kept.sound later changes;
      same = ap (λ ns. insert_key name_order ns name) kept.same ∙ sym (ap (λ e. e.names) next);
    }

-- ---- the tickets

-- with one line more, its ticket is the last
past_from-push : (low : ℕ) (lines : List Line) (line : Line) → past_from low (lines ++ line ∷ []) ≡ suc line.ticket
past_from-push low [] line = refl
past_from-push low (l ∷ ls) line = past_from-push (suc l.ticket) ls line

-- so the next ticket is above all
pub past-with_line : (s : SiteJournal) (ticket caller : ℕ) (name : Name)
    → past (with_line s (registration_line ticket caller name)).journal ≤ ticket + 1
past-with_line s ticket caller name = rw (past_from-push 0 s.journal (registration_line ticket caller name))
    (omega arith)
