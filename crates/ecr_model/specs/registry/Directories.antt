-- Directories: the names of a site. Of this registry: docs/DECISIONS.md, "Directories". Names are in the order of their
-- bytes, and places among them count from 0.
use Rattle.std.specs.Prelude.{ℕ, ◌+◌, Bool, nat_lt, List, [], Option, None, Some, length, take, drop, if◌then◌else◌, bytes_eq}
use Rattle.std.specs.BTreeSet.{insert_key}
use Rattle.std.specs.Cmp.Lexicographic.{slice_cmp}
use Rattle.std.specs.List.{list_any}
use Rattle.std.specs.Ordering.{nat_cmp}
use Rattle.std.specs.declared.cmp.Ordering.{Ordering}
use Rattle.ecr_model.specs.declared.requests.call.Page.{Page}
use Rattle.ecr_model.specs.declared.requests.call.SiteCall.{SiteCall}
use Rattle.ecr_model.specs.declared.requests.call.SiteCall.TheVariants as calls
use Rattle.ecr_model.specs.declared.registry.directory.Directory.{Directory}
use Rattle.ecr_model.specs.declared.registry.directory.Registered.{Registered}
use Rattle.ecr_model.specs.declared.registry.directory.Registered.TheVariants.{New, Known, Full}
use Rattle.ecr_model.specs.declared.registry.journal.Act.{Act}
use Rattle.ecr_model.specs.declared.registry.journal.Act.TheVariants.{Called, Register}
use Rattle.ecr_model.specs.declared.registry.journal.Entry.{Entry}
use Rattle.ecr_model.specs.declared.registry.journal.Limits.{Limits}
use Rattle.ecr_model.specs.declared.registry.journal.Line.{Line}
use Rattle.ecr_model.specs.declared.names.Name.{Name}
use Rattle.ecr_model.specs.declared.names.SiteId.{SiteId}
use Rattle.ecr_model.specs.declared.requests.reply.SiteReply.{SiteReply}
use Rattle.ecr_model.specs.declared.requests.reply.SiteReply.TheVariants.{Names}
use Rattle.ecr_model.specs.registry.Journals as journals

-- the order of two names is that of their bytes
abbrev pub name_order : Name → Name → Ordering
name_order a b = slice_cmp nat_cmp a.text b.text

-- the values that are fixed throughout a directory's journal: its site, the served sites, and the limits
pub record SiteFrame : Type 0 where
  pub site : SiteId
  pub served : List SiteId
  pub limits : Limits

-- no name, and no rule of replication
unfoldable pub first_directory : Directory
first_directory = record { names = []; configuration = record { rules = [] } }

-- whether the name is registered
abbrev pub is_registered : Name → Directory → Bool
is_registered name d = list_any (λ n. bytes_eq n.text name.text) d.names

-- the result of registering a name: a known one is answered before the limit is tested
unfoldable pub registration : SiteFrame → Directory → Name → Registered
registration frame d name = if is_registered name d then Known
    else (if nat_lt (length d.names) frame.limits.names then New else Full frame.limits.names (length d.names))

-- the directory with the name at its place in the order
abbrev pub with_name : Name → Directory → Directory
with_name name d = record d { names = insert_key name_order d.names name }

-- the directory after a registration with that result, where it changes
abbrev pub after_registration : Name → Directory → Registered → Option Directory
after_registration name d New = Some (with_name name d)
after_registration name d Known = None
after_registration name d (Full limit count) = None

-- the directory after an act, where the act changes it; those of a repository don't
abbrev pub directory_after_act : SiteFrame → Directory → Act → Option Directory
directory_after_act frame d (Register name) = after_registration name d (registration frame d name)
directory_after_act frame d (Called call destinations sealed) = None

-- the directory after a line of its journal, where the line changes it
unfoldable pub directory_after_line : SiteFrame → Directory → Line → Option Directory
directory_after_line frame d line = directory_after_act frame d line.entry.act

-- the directory that its journal leads to
abbrev pub replayed_directory : SiteFrame → List Line → Directory
replayed_directory frame lines = journals.replay (directory_after_line frame) first_directory lines

-- the directory's journal is sound
abbrev pub IsSoundDirectory : SiteFrame → List Line → Type 0
IsSoundDirectory frame lines = journals.IsSound (directory_after_line frame) first_directory lines

-- the directory as at a ticket of its journal
abbrev pub directory_at : SiteFrame → List Line → ℕ → Directory
directory_at frame lines ticket = journals.state_at (directory_after_line frame) first_directory lines ticket

-- the names of a page
abbrev pub names_of : Page → Directory → List Name
names_of page d = take page.max (drop page.from d.names)

-- the reply to the call for a page of names
abbrev pub page_reply : Page → Directory → SiteReply
page_reply page d = Names (names_of page d) (nat_lt (page.from + page.max) (length d.names))

-- the result of a call on a directory: the reply, and the act that is entered, where the call changes the directory
pub record SiteOutcome : Type 0 where
  pub reply : SiteReply
  pub act : Option Act

-- the result of a call on the directory; a page of names changes nothing
abbrev pub site_step : SiteFrame → Directory → SiteCall → SiteOutcome
site_step frame d (calls.Names page) = record { reply = page_reply page d; act = None }

-- the entry of an act in a directory, which has no moment
abbrev pub act_entry : Act → Entry
act_entry act = record { moment = 0; act = act }

-- the line that a registration enters, under that caller's number
abbrev pub registration_line : ℕ → ℕ → Name → Line
registration_line ticket caller name = record { ticket = ticket; caller = caller; entry = act_entry (Register name) }
