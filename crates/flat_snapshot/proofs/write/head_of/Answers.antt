use Rattle.std.proofs.Common.{refl}
use Rattle.flat_snapshot.specs.PageText.{head_text}
use Rattle.flat_snapshot.proofs.write.head_of.Goals as goal

-- each array has the eight bytes of its number
pub returns : goal.returns
unfolding head_text
returns c = rw (c.to_be_bytes-f.ensures, c.to_be_bytes-c.ensures, c.to_be_bytes-m.ensures, c.seconds.ensures.same) refl
