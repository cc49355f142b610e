-- the buffer is for this configuration, which is within its limits
use Rattle.std.proofs.Common.{refl}
use Rattle.world_core.proofs.StoreLemmas.{sound_on}
use Rattle.world_core.proofs.store.Store.new.Goals as goal

pub invariant_of-result : goal.invariant_of-result
invariant_of-result c =
    sound_on c.args.config c.in_ok-desk.desk.setting c.in_ok-room.room c.in_ok-room.room c.in_ok-desk.ensures.setting c.in_ok-room.ensures.sizes
    (record { room = c.in_ok-room.ensures.sizes; within = c.log2_bits-bits.ensures.within })
