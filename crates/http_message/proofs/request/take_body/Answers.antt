use Rattle.std.proofs.Common.{drop, ◌∙◌, arith}
use Rattle.std.proofs.lemmas.List.{length-take-le}
use Rattle.std.proofs.lemmas.Result.{err_from_is_err_and}
use Rattle.http_message.proofs.PartLemmas.{sized_reads, sized_stops, coded_reads}
use Rattle.http_message.proofs.request.take_body.Goals as goal

pub returns-in_ok-take_exact-in-Sized : goal.returns-in_ok-take_exact-in-Sized
returns-in_ok-take_exact-in-Sized g c =
    let fits = rw c.in-Sized.is at c.requires.fits in
    let long = c.take_exact.auto.into ∙ length-take-le c.in-Sized.size c.args.body.now (omega (arith, fits, c.requires.body)) in
    rw c.in-Sized.is
    (sized_reads _ _ _ _ c.take_exact.new.into (drop c.in-Sized.size c.args.body.now) c.in-Sized.size long
    c.in_ok-take_exact-in-Sized.field-0 fits c.in_ok-take_exact-in-Sized.ensures)

pub returns-in_err-take_exact-in-Sized : goal.returns-in_err-take_exact-in-Sized
returns-in_err-take_exact-in-Sized g c =
    let fits = rw c.in-Sized.is at c.requires.fits in
    let long = c.take_exact.auto.into ∙ length-take-le c.in-Sized.size c.args.body.now (omega (arith, fits, c.requires.body)) in
    let p = err_from_is_err_and c.from_residual.result c.from_residual.ensures.1 in
    rw (c.in-Sized.is, p.1, p.2)
    (sized_stops _ _ _ _ c.take_exact.new.into (drop c.in-Sized.size c.args.body.now) c.in-Sized.size long
    _ c.in_err-take_exact-in-Sized.field-0.0 c.in_err-take_exact-in-Sized.ensures)

pub returns-in-Chunked : goal.returns-in-Chunked
returns-in-Chunked g c =
    rw c.in-Chunked.is
    (coded_reads _ _ _ _ c.take_coded.new.body c.take_coded.result (c.take_coded.auto.body ∙ c.requires.body) c.take_coded.ensures)
