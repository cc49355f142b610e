use Rattle.client_wire.specs.Requests.{filter_part, kind_part, order_part, window_part}
use Rattle.client_wire.proofs.RequestLemmas.{put_four}
use Rattle.client_wire.proofs.request.put_query_target.Goals as goal

pub returns : goal.returns
returns c =
    put_four c.args.out.now.items (filter_part c.args.query.now) (order_part c.args.query.now) (window_part c.args.query.now) (kind_part c.args.kind)
    c.in_ok-put_filter.ensures
    c.in_ok-put_order.ensures
    c.in_ok-put_window.ensures
    c.in_ok-put_kind.ensures
