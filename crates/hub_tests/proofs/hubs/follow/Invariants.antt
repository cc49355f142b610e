-- the buffer was made for the hub
use Rattle.hub_core.specs.PageRoom.{IsRoomFor}
use Rattle.hub_tests.proofs.hubs.follow.Given as goal

abbrev pub invariant-loop-step : goal.invariant-loop-step
invariant-loop-step l = IsRoomFor l.hub.value.setting l.room
