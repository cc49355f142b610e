-- The text stands between two quotes.
use Rattle.std.proofs.Common.{[], ◌∷◌, ◌++◌, take, refl}
use Rattle.std.proofs.lemmas.Result.{err_from_is_err_and}
use Rattle.json.specs.Print.{escape, quoted}
use Rattle.http_front.proofs.BufferLemmas.{begins, goes_on, fails, adds_last}
use Rattle.http_front.proofs.quoted.add_quoted.Goals as goal

pub returns-in_err-opened : goal.returns-in_err-opened
returns-in_err-opened g c =
    let p = err_from_is_err_and c.from_residual.result c.from_residual.ensures.1 in
    rw p.1 (fails _ _ _ _ _ (34 ∷ []) (escape c.args.text.now ++ 34 ∷ []) (begins _ (take c.args.at c.args.buffer.now) (quoted c.args.text.now) _ refl) c.in_err-opened.ensures)

pub returns-in_err-written : goal.returns-in_err-written
returns-in_err-written g c =
    let p = err_from_is_err_and c.from_residual-in_err-written.result c.from_residual-in_err-written.ensures.1 in
    let text = c.args.text.now in
    rw p.1
    (fails _ _ _ _ _ (escape text) (34 ∷ [])
    (goes_on _ _ _ _ _ (34 ∷ []) (escape text ++ 34 ∷ []) _ (begins _ (take c.args.at c.args.buffer.now) (quoted text) _ refl) c.in_ok-opened.ensures.1)
    c.in_err-written.ensures)

pub returns : goal.returns
returns g c =
    let text = c.args.text.now in
    adds_last _ _ _ (take c.args.at c.args.buffer.now) (quoted text) _ (34 ∷ []) _ _
    (goes_on _ _ _ _ _ (escape text) (34 ∷ []) _
    (goes_on _ _ _ _ _ (34 ∷ []) (escape text ++ 34 ∷ []) _ (begins _ (take c.args.at c.args.buffer.now) (quoted text) _ refl) c.in_ok-opened.ensures.1)
    c.in_ok-written.ensures.1)
    c.add-2.ensures
