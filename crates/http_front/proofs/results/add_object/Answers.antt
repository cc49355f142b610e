-- The start and the document, the name and the id, and then the version.
use Rattle.std.proofs.Common.{◌++◌, take, codes, decimal, append_assoc, sym}
use Rattle.std.proofs.lemmas.Result.{err_from_is_err_and}
use Rattle.http_front.specs.ResultTexts.{object_rest}
use Rattle.http_front.proofs.BufferLemmas.{begins, goes_on, fails, adds_last}
use Rattle.http_front.proofs.ResultLemmas.{object_pieces}
use Rattle.http_front.proofs.results.add_object.Goals as goal

pub returns-in_err-shown : goal.returns-in_err-shown
returns-in_err-shown g c =
    let p = err_from_is_err_and c.from_residual.result c.from_residual.ensures.1 in
    let start = c.args.start.now in
    let row = c.args.row.now in
    let end = codes "\",\"version\":" ++ decimal row.version ++ codes "}" in
    rw p.1
    (fails _ _ _ _ _ (start ++ row.text) ((codes ",\"id\":\"" ++ row.id) ++ end)
    (begins _ (take c.args.at c.args.buffer.now) (start ++ object_rest row) _ (object_pieces start row))
    (rw c.as_slice.ensures at c.in_err-shown.ensures))

pub returns-in_err-named : goal.returns-in_err-named
returns-in_err-named g c =
    let p = err_from_is_err_and c.from_residual-in_err-named.result c.from_residual-in_err-named.ensures.1 in
    let start = c.args.start.now in
    let row = c.args.row.now in
    let end = codes "\",\"version\":" ++ decimal row.version ++ codes "}" in
    rw p.1
    (fails _ _ _ _ _ (codes ",\"id\":\"" ++ row.id) end
    (goes_on _ _ _ _ _ (start ++ row.text) ((codes ",\"id\":\"" ++ row.id) ++ end) _
    (begins _ (take c.args.at c.args.buffer.now) (start ++ object_rest row) _ (object_pieces start row))
    (rw c.as_slice.ensures at c.in_ok-shown.ensures.1))
    (rw c.as_slice-2.ensures.same at c.in_err-named.ensures))

pub returns : goal.returns
returns g c =
    let start = c.args.start.now in
    let row = c.args.row.now in
    let end = codes "\",\"version\":" ++ decimal row.version ++ codes "}" in
    adds_last _ _ _ (take c.args.at c.args.buffer.now) (start ++ object_rest row) _ end _ _
    (goes_on _ _ _ _ _ (codes ",\"id\":\"" ++ row.id) end _
    (goes_on _ _ _ _ _ (start ++ row.text) ((codes ",\"id\":\"" ++ row.id) ++ end) _
    (begins _ (take c.args.at c.args.buffer.now) (start ++ object_rest row) _ (object_pieces start row))
    (rw c.as_slice.ensures at c.in_ok-shown.ensures.1))
    (rw c.as_slice-2.ensures.same at c.in_ok-named.ensures.1))
    (rw c.number_body-version.ensures at c.add.ensures)
