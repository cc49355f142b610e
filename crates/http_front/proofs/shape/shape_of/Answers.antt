use Rattle.std.proofs.Common.{◌≡◌, ◌∙◌, sym, rules}
use Rattle.std.specs.Prelude.{bytes_eq, codes}
use Rattle.http_front.proofs.OriginLemmas.{no_shape}
use Rattle.http_front.proofs.shape.shape_of.Goals as goal

pub returns-then-is_empty : goal.returns-then-is_empty
returns-then-is_empty c =
    let m = c.args.request.now in
    let put : c.eq-put.result ≡ bytes_eq m.method (codes "PUT") = search rules in
    let head : c.eq-head.result ≡ bytes_eq m.method (codes "HEAD") = search rules in
    no_shape c.args.origins.now m c.eq-put.result c.eq-head.result c.none.result put head (sym c.is_empty.ensures ∙ c.if-is_empty.true) c.none.ensures
