use Rattle.std.proofs.Common.{codes, ℕ, List, ◌++◌, ◌∙◌, ap}
use Rattle.query_core.specs.Print.{filter_text}
use Rattle.client_wire.specs.Requests.{escaped, filter_part}
use Rattle.client_wire.proofs.RequestLemmas.{put_four}
use Rattle.client_wire.proofs.request.put_filter.Goals as goal

pub returns : goal.returns
unfolding filter_part
returns c =
    put_four c.args.out.now.items (codes "/v1/q/") c.args.query.now.collection (codes "?f=") (escaped (filter_text c.args.query.now.filter))
    c.in_ok-extend_from_slice.ensures.items
    (c.in_ok-extend_from_slice-2.ensures.items ∙ ap (λ (xs : List ℕ). c.extend_from_slice.new.self.items ++ xs) c.as_slice.ensures.same)
    c.in_ok-extend_from_slice-3.ensures.items
    (c.in_ok-put_escaped.ensures ∙ ap (λ (xs : List ℕ). c.extend_from_slice-3.new.self.items ++ escaped xs) (c.as_slice-2.ensures ∙ c.in_ok-filter.ensures))
