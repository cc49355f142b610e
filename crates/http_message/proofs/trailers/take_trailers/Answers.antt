use Rattle.std.proofs.Common.{ℕ, List, refl, sym, arith}
use Rattle.std.proofs.lemmas.List.{length-take-le}
use Rattle.std.proofs.lemmas.Result.{err_from_is_err_and}
use Rattle.http_message.specs.Coded.{EndsCoding, IsEnding}
use Rattle.http_message.specs.Coding.{Unfinished}
use Rattle.http_message.proofs.ChunkLemmas.{trailers_whole, trailers_bad, trailers_overlong, trailers_short}
use Rattle.http_message.proofs.InputLemmas.{reads_grown, reads_short}
use Rattle.http_message.proofs.LineLemmas.{ends_within}
use Rattle.http_message.proofs.trailers.take_trailers.Goals as goal

pub returns-in_err-size : goal.returns-in_err-size
returns-in_err-size g c =
    let p = err_from_is_err_and c.from_residual.result c.from_residual.ensures.1 in
    rw (p.1, p.2)
    (reads_short (λ (bytes : List ℕ). EndsCoding c.args.coded bytes Unfinished) c.find_text.ensures.grows
    (trailers_short c.args.coded c.capacity_behind-capacity.result c.capacity_behind-capacity.ensures) _
    (IsEnding c.args.coded) c.in_err-size.field-0.0 c.in_err-size.ensures.found)

pub slice_bounds-are_trailers-end : goal.slice_bounds-are_trailers-end
slice_bounds-are_trailers-end g c =
    let found = rw c.in-Whole.is at c.in_ok-size.ensures.found in
    sym (length-take-le c.in-Whole.size c.bytes.result.now (rw c.bytes.ensures (ends_within _ _ _ _ found).1))

pub overflow_add-coded : goal.overflow_add-coded
overflow_add-coded g c =
    let found = rw c.in-Whole.is at c.in_ok-size.ensures.found in
    let most = (ends_within _ _ _ _ found).2 in
    omega (arith, most, c.capacity_behind-capacity.ensures, c.requires.coded)

pub skip-requires : goal.skip-requires
skip-requires g c =
    let found = rw c.in-Whole.is at c.in_ok-size.ensures.found in
    (ends_within _ _ _ _ found).1

pub returns-then-whole : goal.returns-then-whole
returns-then-whole g c =
    let found = rw c.in-Whole.is at c.in_ok-size.ensures.found in
    reads_grown (λ (bytes : List ℕ). EndsCoding c.args.coded bytes Unfinished) c.find_text.ensures.grows
    (trailers_short c.args.coded c.capacity_behind-capacity.result c.capacity_behind-capacity.ensures) _ c.in-Whole.size
    (IsEnding c.args.coded) _ c.skip.ensures
    (trailers_whole c.args.coded c.capacity_behind-capacity.result c.capacity_behind-capacity.ensures c.in-Whole.size c.find_text.new.input
    found (ends_within _ _ _ _ found).1 (rw c.bytes.ensures at (c.if-whole.ensures.yes refl)))

pub returns-else-whole : goal.returns-else-whole
returns-else-whole g c =
    let found = rw c.in-Whole.is at c.in_ok-size.ensures.found in
    reads_grown (λ (bytes : List ℕ). EndsCoding c.args.coded bytes Unfinished) c.find_text.ensures.grows
    (trailers_short c.args.coded c.capacity_behind-capacity.result c.capacity_behind-capacity.ensures) _ c.in-Whole.size
    (IsEnding c.args.coded) _ c.skip.ensures
    (trailers_bad c.args.coded c.capacity_behind-capacity.result c.capacity_behind-capacity.ensures c.in-Whole.size c.find_text.new.input
    found (ends_within _ _ _ _ found).1 (rw c.bytes.ensures at (c.if-whole.ensures.no refl)))

pub returns-in-Overlong : goal.returns-in-Overlong
returns-in-Overlong g c =
    let found = rw c.in-Overlong.is at c.in_ok-size.ensures.found in
    rw c.overlong_at.ensures
    (reads_grown (λ (bytes : List ℕ). EndsCoding c.args.coded bytes Unfinished) c.find_text.ensures.grows
    (trailers_short c.args.coded c.capacity_behind-capacity.result c.capacity_behind-capacity.ensures) _ c.capacity_behind-capacity.result
    (IsEnding c.args.coded) _ c.skip-in-Overlong.ensures
    (trailers_overlong c.args.coded c.capacity_behind-capacity.result c.capacity_behind-capacity.ensures c.find_text.new.input found))
