use denote.Param.Send.{sendable}
use Rattle.std.proofs.Crossing.{crosses}
use Rattle.ecr_pages.proofs.pages.Pages.TheSendSync as pages
use Rattle.ecr_pages.proofs.page.Page.TheSendSync as page
use Rattle.ecr_pages.proofs.snapshot.Snapshot.TheSendSync as snapshot
use Rattle.ecr_pages.proofs.crossing.pages_cross_threads.Goals as goal

pub returns-clause-pages_sent : goal.returns-clause-pages_sent
returns-clause-pages_sent g c =
    search (c.type_bounds.send-R, c.type_bounds.sync-R, pages.the_send, page.the_send, sendable, crosses) depth 60 fits
    20000

pub returns-clause-pages_shared : goal.returns-clause-pages_shared
returns-clause-pages_shared g c =
    search (c.type_bounds.send-R, c.type_bounds.sync-R, pages.the_sync, page.the_sync, sendable, crosses) depth 60 fits
    20000

pub returns-clause-snapshots_sent : goal.returns-clause-snapshots_sent
returns-clause-snapshots_sent g c =
    search (c.type_bounds.send-R, c.type_bounds.sync-R, snapshot.the_send, sendable, crosses) depth 60 fits 20000

pub returns-clause-snapshots_shared : goal.returns-clause-snapshots_shared
returns-clause-snapshots_shared g c =
    search (c.type_bounds.send-R, c.type_bounds.sync-R, snapshot.the_sync, sendable, crosses) depth 60 fits 20000
