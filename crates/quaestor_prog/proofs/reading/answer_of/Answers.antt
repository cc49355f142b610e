-- there was no page; or one, and then a read
use Rattle.std.proofs.lemmas.Result.{err_from_is_err_and}
use Rattle.quaestor_prog.proofs.ReadLemmas.{without_page, behind_page}
use Rattle.quaestor_prog.proofs.reading.answer_of.Goals as goal

pub returns-in_err-refresh : goal.returns-in_err-refresh
returns-in_err-refresh g c =
    let p = err_from_is_err_and c.from_residual-in_err-refresh.result c.from_residual-in_err-refresh.ensures.1 in
    rw (p.1, p.2) (without_page g.L.Link.at g.L.Link.answers c.args.level c.args.key.now _ _ _ _ _ c.in_err-refresh.ensures.by)

pub returns : goal.returns
returns g c =
    behind_page g.L.Link.at g.L.Link.answers c.args.level c.args.key.now _ _ _ _ _ _ _
    c.in_ok-session.ensures.empty c.in_ok-session.ensures.level c.in_ok-session.ensures.page
    c.in_ok-refresh.ensures.by c.in_ok-refresh.ensures.holds c.read.ensures.by c.read.ensures.front c.read.ensures.fresh
