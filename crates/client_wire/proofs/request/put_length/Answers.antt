use Rattle.std.proofs.Common.{codes, decimal}
use Rattle.client_wire.specs.Requests.{length_part}
use Rattle.client_wire.proofs.RequestLemmas.{put_three}
use Rattle.client_wire.proofs.request.put_length.Goals as goal

pub returns : goal.returns
unfolding length_part
returns c =
    put_three c.args.out.now.items (codes "Content-Length: ") (decimal c.args.size) (codes "\r\n\r\n")
    c.in_ok-extend_from_slice.ensures.items
    c.in_ok-put_number.ensures
    c.in_ok-extend_from_slice-2.ensures.items
