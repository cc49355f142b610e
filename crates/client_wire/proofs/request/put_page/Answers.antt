use Rattle.std.proofs.Common.{codes, true}
use Rattle.client_wire.specs.Requests.{host_part, no_cache_field}
use Rattle.client_wire.proofs.RequestLemmas.{put_four}
use Rattle.client_wire.proofs.request.put_page.Goals as goal

pub returns : goal.returns
returns c =
    put_four c.args.out.now.items (codes "GET /v1/filter") (host_part c.args.host.now) (no_cache_field true) (codes "\r\n")
    c.in_ok-extend_from_slice.ensures.items
    c.in_ok-put_host.ensures
    c.in_ok-put_no_cache.ensures
    c.in_ok-extend_from_slice-2.ensures.items
