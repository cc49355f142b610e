use Rattle.std.proofs.Common.{◌≡◌, true, ℕ, arith, refl, sym, ◌∙◌, length}
use Rattle.std.proofs.lemmas.List.{length-drop, length-take}
use Rattle.std.proofs.lemmas.Result.{err_from_is_err_and}
use Rattle.std.proofs.lemmas.Slice.{take-put_mid}
use Rattle.http_message.specs.Coded.{IsCutShort, IsPart}
use Rattle.http_message.specs.Coding.{fits}
use Rattle.http_message.proofs.ChunkLemmas.{chunk_large}
use Rattle.http_message.proofs.InputLemmas.{reads_held}
use Rattle.http_message.proofs.PartLemmas.{chunk_stops, chunk_taken, chunk_refused}
use Rattle.http_message.proofs.chunk.take_chunk.Goals as goal

pub returns-then-not-fits : goal.returns-then-not-fits
returns-then-not-fits g c =
    reads_held _ _ _ c.args.line (IsCutShort c.args.at.coded c.args.at.got) (IsPart c.args.at c.args.body.now c.args.body.now) _ c.skip.ensures
    (chunk_large c.args.at c.args.line c.args.size c.args.input.now
    (record { within = c.requires.within; here = c.requires.here; is = c.requires.is }) c.requires.some
    (sym c.fits.ensures ∙ c.if-not-fits.true))

pub returns-in_err-take_content : goal.returns-in_err-take_content
returns-in_err-take_content g c =
    let fit : fits c.args.at.coded c.args.at.got c.args.line c.args.size ≡ true = sym c.fits.ensures ∙ c.if-not-fits.false in
    let size : length c.take_content.new.into ≡ c.args.size = omega (arith, length-drop {A = ℕ}, length-take {A = ℕ}) in
    let p = err_from_is_err_and c.from_residual.result c.from_residual.ensures.1 in
    rw (p.1, p.2)
    (chunk_stops _ _ c.args.input.now c.skip.new.self c.take_content.new.input c.take_content.new.into c.args.body.now _ c.args.at
    c.args.line c.args.size (record { within = c.requires.within; here = c.requires.here; is = c.requires.is }) c.requires.some
    fit c.skip.ensures size _ c.in_err-take_content.field-0.0 c.in_err-take_content.ensures)

pub returns-then-branch : goal.returns-then-branch
returns-then-branch g c =
    let fit : fits c.args.at.coded c.args.at.got c.args.line c.args.size ≡ true = sym c.fits.ensures ∙ c.if-not-fits.false in
    let size : length c.take_content.new.into ≡ c.args.size = omega (arith, length-drop {A = ℕ}, length-take {A = ℕ}) in
    chunk_taken _ _ c.args.input.now c.skip.new.self c.take_content.new.input c.take_content.new.into c.args.body.now _ c.args.at
    c.args.line c.args.size (record { within = c.requires.within; here = c.requires.here; is = c.requires.is }) c.requires.some
    fit c.skip.ensures size _ refl refl
    (take-put_mid c.args.at.got _ c.args.body.now c.take_content.new.into _ (omega (arith, size)) (omega arith))
    (rw c.if-branch.true at c.in_ok-take_content.ensures)

pub returns : goal.returns
returns g c =
    let fit : fits c.args.at.coded c.args.at.got c.args.line c.args.size ≡ true = sym c.fits.ensures ∙ c.if-not-fits.false in
    let size : length c.take_content.new.into ≡ c.args.size = omega (arith, length-drop {A = ℕ}, length-take {A = ℕ}) in
    chunk_refused _ _ c.args.input.now c.skip.new.self c.take_content.new.input c.take_content.new.into c.args.body.now _ c.args.at
    c.args.line c.args.size (record { within = c.requires.within; here = c.requires.here; is = c.requires.is }) c.requires.some
    fit c.skip.ensures size (rw c.if-branch.false at c.in_ok-take_content.ensures)
