use Rattle.std.proofs.Common.{[], drop}
use Rattle.std.specs.List.{Contains}
use Rattle.ecr_model.specs.requests.Requests.{listed_script}
use Rattle.ecr_session.specs.Turns.{LeadsTo}
use Rattle.ecr_session.proofs.describe.describe_listed.Given as goal

abbrev pub invariant-loop-name : goal.invariant-loop-name
invariant-loop-name g l = record {
  served : Contains (g.D.AnyDesk.seen l.desk).realm.served l.site;
  to : LeadsTo (g.D.AnyDesk.seen l.fn.desk) (g.D.AnyDesk.seen l.desk) (listed_script l.site l.moment l.next [] l.names)
      (listed_script l.site l.moment l.next l.rows.items (drop l.name-index l.names)) l.fn.places.items l.places.items;
}
