use Rattle.std.proofs.lemmas.Result.{err_from_is_err_and}
use Rattle.http_message.proofs.ChunkLemmas.{line_found}
use Rattle.http_message.proofs.LineLemmas.{ends_within}
use Rattle.http_message.proofs.PartLemmas.{part_reads, part_overlong, part_stops}
use Rattle.http_message.proofs.chunk.take_part.Goals as goal

pub returns-in_err-line : goal.returns-in_err-line
returns-in_err-line g c =
    let p = err_from_is_err_and c.from_residual.result c.from_residual.ensures.1 in
    rw (p.1, p.2)
    (part_stops _ _ c.args.input.now c.find_text.new.input c.args.at c.capacity_behind-capacity.result c.capacity_behind-capacity.ensures
    c.find_text.ensures.grows _ _ _ c.in_err-line.field-0.0 c.in_err-line.ensures.found)

pub take_announced-requires-clause-within : goal.take_announced-requires-clause-within
take_announced-requires-clause-within g c =
    let found = rw c.in-Whole.is at c.in_ok-line.ensures.found in
    (ends_within _ _ _ _ found).1

pub take_announced-requires-clause-here : goal.take_announced-requires-clause-here
take_announced-requires-clause-here g c =
    let found = rw c.in-Whole.is at c.in_ok-line.ensures.found in
    line_found c.args.at.coded c.capacity_behind-capacity.result c.capacity_behind-capacity.ensures c.find_text.new.input
    c.in-Whole.line c.requires.at.coded found

pub returns-in-Whole : goal.returns-in-Whole
returns-in-Whole g c =
    part_reads _ _ c.args.input.now c.find_text.new.input c.args.at c.capacity_behind-capacity.result c.capacity_behind-capacity.ensures
    c.find_text.ensures.grows _ c.take_announced.new.input _ _ c.take_announced.result c.take_announced.ensures

pub returns-in-Overlong : goal.returns-in-Overlong
returns-in-Overlong g c =
    let found = rw c.in-Overlong.is at c.in_ok-line.ensures.found in
    rw c.overlong_at.ensures
    (part_overlong _ _ c.args.input.now c.find_text.new.input c.args.at c.capacity_behind-capacity.result c.capacity_behind-capacity.ensures
    c.find_text.ensures.grows c.skip.new.self _ _ found c.skip.ensures)
