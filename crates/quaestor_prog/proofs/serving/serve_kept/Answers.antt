-- the places gave doors and have them back as they were left, or gave none
use Rattle.std.proofs.Common.{refl, inl, inr}
use Rattle.quaestor_prog.proofs.ServingLemmas.{through_ended}
use Rattle.quaestor_prog.proofs.serving.serve_kept.Goals as goal

pub returns-in-Ok : goal.returns-in-Ok
returns-in-Ok g c = inr (record {
  doors = c.in-Ok.doors;
  doors_left = c.serve_through-status.new.doors;
  listening = c.listen.new.self;
  given = c.in-Ok.ensures.gives;
  address = c.address.result.now;
  told = c.address.ensures;
  are_new = c.in-Ok.ensures.unused;
  kept = rw c.in-Ok.ensures.count at c.keep_doors.ensures;
  through = through_ended _ _ _ _ _ _ _ _ _ _ _ _ _ _ _ _ _ _ c.end.ensures.keeps c.serve_through-status.ensures;
  is_ended = c.end.ensures.ends;
})

pub returns-in-Err : goal.returns-in-Err
returns-in-Err g c = inl (refl, c.end-in-Err.ensures.keeps, c.end-in-Err.ensures.ends, c.in-Err.ensures.count.0, c.in-Err.ensures.count.1, c.in-Err.ensures.count.2)
