use Rattle.std.proofs.Common.{codes, decimal, ℕ, ◌++◌, ◌∙◌, ap}
use Rattle.client_wire.specs.Requests.{window_part}
use Rattle.client_wire.proofs.RequestLemmas.{put_four}
use Rattle.client_wire.proofs.request.put_window.Goals as goal

pub returns : goal.returns
unfolding window_part
returns c =
    put_four c.args.out.now.items (codes "&s=") (decimal c.args.query.now.skip) (codes "&n=") (decimal c.args.query.now.take)
    c.in_ok-extend_from_slice.ensures.items
    (c.in_ok-put_number.ensures ∙ ap (λ (n : ℕ). c.extend_from_slice.new.self.items ++ decimal n) c.from.ensures)
    c.in_ok-extend_from_slice-2.ensures.items
    (c.in_ok-put_number-2.ensures ∙ ap (λ (n : ℕ). c.extend_from_slice-2.new.self.items ++ decimal n) c.from-2.ensures)
