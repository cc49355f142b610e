use Rattle.std.proofs.Common.{codes}
use Rattle.client_wire.specs.Requests.{host_part}
use Rattle.client_wire.proofs.RequestLemmas.{put_three}
use Rattle.client_wire.proofs.request.put_host.Goals as goal

pub returns : goal.returns
unfolding host_part
returns c =
    put_three c.args.out.now.items (codes " HTTP/1.1\r\nHost: ") c.args.host.now (codes "\r\n")
    c.in_ok-extend_from_slice.ensures.items
    c.in_ok-extend_from_slice-2.ensures.items
    c.in_ok-extend_from_slice-3.ensures.items
