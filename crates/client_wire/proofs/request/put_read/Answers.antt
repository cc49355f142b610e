use Rattle.std.proofs.Common.{codes}
use Rattle.client_wire.specs.Requests.{host_part, no_cache_field, target_of}
use Rattle.client_wire.proofs.RequestLemmas.{put_five}
use Rattle.client_wire.proofs.request.put_read.Goals as goal

pub returns : goal.returns
returns c =
    put_five c.args.out.now.items (codes "GET ") (target_of c.args.key.now) (host_part c.args.host.now) (no_cache_field c.args.no_cache) (codes "\r\n")
    c.in_ok-extend_from_slice.ensures.items
    c.in_ok-put_target.ensures
    c.in_ok-put_host.ensures
    c.in_ok-put_no_cache.ensures
    c.in_ok-extend_from_slice-2.ensures.items
