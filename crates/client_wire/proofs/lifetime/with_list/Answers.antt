use Rattle.client_wire.proofs.lifetime.with_list.Goals as goal

pub loop-piece-smaller : goal.loop-piece-smaller
loop-piece-smaller c = c.in-Some.ensures.less
