-- What of a turnstile may be shared between threads, where its state may be sent to others.
use denote.RattleType.{RattleType}
use denote.Param.Send.{IsSend, IsSync, part_keyless, shr_sync, struct_sync, recorded_sync, view_sync, sendable}
use Rattle.std.proofs.Crossing.{crosses, Box-send, Box-sync, send, sync, frees}
use Rattle.std.specs.contracts.option.Option as Option
use Rattle.std.specs.contracts.boxed.Box as Box
use Rattle.std.specs.contracts.alloc.Global as Heap
use Rattle.std.specs.contracts.impls.GlobalAllocator.TheImpl.{ghosts}
use Rattle.std.proofs.option.Option.TheSendSync as option
use Rattle.atomic_table.specs.contracts.shared.Seat.{the_row}
use Rattle.atomic_table.proofs.shared.Seat.TheSendSync.{the_send}
use Rattle.ecr_turn.specs.declared.journal.Journal.{Ghosts}
use Rattle.ecr_turn.specs.contracts.board.View as View
use Rattle.ecr_turn.specs.contracts.board.InTurn as InTurn
use Rattle.ecr_turn.specs.contracts.board.InTurnTableRuleOptionBoxGlobalViewSnapshot.TheImpl as rule
use Rattle.std.specs.contracts.snapshot.Snapshot as Snapshot
use Rattle.atomic_table.specs.contracts.owned.Table as Table
use Rattle.ecr_turn.specs.contracts.turnstile.Pass as Pass
use Rattle.ecr_turn.specs.contracts.turnstile.Pass.TheInside as inside
use denote.Ref.{NamedLft}
use denote.Struct.Declared.{shape}
use Rattle.atomic_table.proofs.owned.Table.TheSendSync as table
use Rattle.ecr_turn.proofs.bell.Bell.TheSendSync as bell
use Rattle.ecr_turn.specs.contracts.turnstile.Held as Held
use Rattle.ecr_turn.specs.contracts.turnstile.Turn as Turn
use Rattle.ecr_turn.specs.contracts.turnstile.Turn.TheInside as within

-- a `&` to a seat holds no more than the seat
Seat-sync : (S V : RattleType) → IsSend S → IsSync (the_row S V)
Seat-sync S V s = record { shared = λ d b o κ q. part_keyless (the_row S V) (the_send S V s) q d b o }

Home-send : (S : RattleType) → IsSend S → IsSend (Option.the_row (Box.the_row S Heap.the_row ghosts))
Home-send S s = option.the_send (Box.the_row S Heap.the_row ghosts) (Box-send S s)

Place-sync : (S : RattleType) → IsSend S
    → IsSync (the_row (Option.the_row (Box.the_row S Heap.the_row ghosts)) View.the_row)
Place-sync S s = Seat-sync (Option.the_row (Box.the_row S Heap.the_row ghosts)) View.the_row (Home-send S s)

Inside-sync : (S : RattleType) (g : Ghosts S.Denot) → IsSend S → IsSync (inside.the_row S g)
Inside-sync S g s = search (s, Place-sync, sendable, crosses) depth 60 fits 20000

-- passes may be shared between threads
pub Pass-sync : (S : RattleType) (g : Ghosts S.Denot) → IsSend S → IsSync (Pass.the_row S g)
Pass-sync S g s = search (s, Inside-sync, sendable, crosses) depth 60 fits 20000

Board-sync : (S : RattleType) (g : Ghosts S.Denot) → IsSend S
    → IsSync (Table.the_row (Option.the_row (Box.the_row S Heap.the_row ghosts)) View.the_row (Snapshot.the_row S)
    (InTurn.the_row S) Heap.the_row (rule.ghosts S g rule.no_dict) ghosts)
Board-sync S g s = table.the_sync (Option.the_row (Box.the_row S Heap.the_row ghosts)) View.the_row
    (Snapshot.the_row S) (InTurn.the_row S) Heap.the_row (rule.ghosts S g rule.no_dict) ghosts
    (Home-send S s) send sync frees

Held-sync : (l : NamedLft) (S : RattleType) (g : Ghosts S.Denot) → IsSend S → IsSync (Held.the_field l S g).row
Held-sync l S g s = struct_sync (shape (Held.the_type l S g)) (
  shr_sync _ _ _ (Board-sync S g s),
  (
    shr_sync _ _ _ bell.the_sync,
    (Place-sync S s, (search sendable, (search sendable, (search sendable, tt)))),
  ),
)

Within-sync : (l : NamedLft) (S : RattleType) (g : Ghosts S.Denot) → IsSend S → IsSync S
    → IsSync (within.the_row l S g)
Within-sync l S g s y = recorded_sync (within.the_field l S g).row _ _ (within.the_type l S g).to_one
    (struct_sync (shape (within.the_type l S g)) (Held-sync l S g s, (Box-sync S y, tt)))

-- turns may be shared between threads
pub Turn-sync : (l : NamedLft) (S : RattleType) (g : Ghosts S.Denot) → IsSend S → IsSync S
    → IsSync (Turn.the_row l S g)
Turn-sync l S g s y = view_sync (within.the_row l S g) _ _ _ _ (Within-sync l S g s y)
