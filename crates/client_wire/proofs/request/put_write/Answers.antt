use Rattle.std.proofs.Common.{codes}
use Rattle.client_wire.specs.Requests.{condition_field, host_part, length_part, record_target}
use Rattle.client_wire.proofs.RequestLemmas.{put_five}
use Rattle.client_wire.proofs.request.put_write.Goals as goal

pub returns : goal.returns
returns c =
    put_five c.args.out.now.items (codes "PUT ") (record_target c.args.collection.now c.args.id.now) (host_part c.args.host.now) (condition_field c.args.condition.now) (length_part c.args.size)
    c.in_ok-extend_from_slice.ensures.items
    c.in_ok-put_record_target.ensures
    c.in_ok-put_host.ensures
    c.in_ok-put_condition.ensures
    c.in_ok-put_length.ensures
