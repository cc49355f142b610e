use Rattle.std.proofs.Common.{codes, ℕ, List, ◌++◌, ◌∙◌, ap}
use Rattle.client_wire.specs.Requests.{record_target}
use Rattle.client_wire.proofs.RequestLemmas.{put_four}
use Rattle.client_wire.proofs.request.put_record_target.Goals as goal

pub returns : goal.returns
unfolding record_target
returns c =
    put_four c.args.out.now.items (codes "/v1/d/") c.args.collection.now (codes "/") c.args.id.now
    c.in_ok-extend_from_slice.ensures.items
    (c.in_ok-extend_from_slice-2.ensures.items ∙ ap (λ (xs : List ℕ). c.extend_from_slice.new.self.items ++ xs) c.as_slice.ensures.same)
    c.in_ok-extend_from_slice-3.ensures.items
    (c.in_ok-extend_from_slice-4.ensures.items ∙ ap (λ (xs : List ℕ). c.extend_from_slice-3.new.self.items ++ xs) c.as_slice-2.ensures.same)
