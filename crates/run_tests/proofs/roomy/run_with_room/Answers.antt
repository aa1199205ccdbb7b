use Rattle.command_words.specs.Commands.{command_of}
use Rattle.command_words.specs.Seen.{texts}
use Rattle.run_tests.proofs.RoomLemmas.{no_fault_of, room_left}
use Rattle.run_tests.proofs.roomy.run_with_room.Goals as goal

pub returns-clause-no_fault : goal.returns-clause-no_fault
returns-clause-no_fault c = λ has left.
    no_fault_of c.args.limits.now (command_of (texts c.args.words.now)) _ _ _ c.run-status.result c.room-room.result c.room-out_room.result c.requires c.run-status.ensures.runs
    (record { left = c.room-room.ensures.left; sure = c.room-room.ensures.reliable; out_left = c.room-out_room.ensures.left; out_sure = c.room-out_room.ensures.reliable }) has left

pub returns-clause-room : goal.returns-clause-room
returns-clause-room c = room_left c.args.limits.now (command_of (texts c.args.words.now)) _ _ _ c.run-status.result c.requires c.run-status.ensures.runs
