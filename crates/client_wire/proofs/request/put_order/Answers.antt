use Rattle.std.proofs.Common.{codes, ℕ, List, ◌++◌, ◌∙◌, ap}
use Rattle.query_core.specs.Print.{order_text}
use Rattle.client_wire.specs.Requests.{escaped, order_part}
use Rattle.client_wire.proofs.RequestLemmas.{put_two}
use Rattle.client_wire.proofs.request.put_order.Goals as goal

pub returns : goal.returns
unfolding order_part
returns c =
    put_two c.args.out.now.items (codes "&o=") (escaped (order_text c.args.query.now.order))
    c.in_ok-extend_from_slice.ensures.items
    (c.in_ok-put_escaped.ensures ∙ ap (λ (xs : List ℕ). c.extend_from_slice.new.self.items ++ escaped xs) (c.as_slice.ensures ∙ c.in_ok-order.ensures))
