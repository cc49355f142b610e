use Rattle.std.proofs.Common.{◌+◌, ℕ, List, ◌++◌, ◌∙◌, ap, arith}
use Rattle.std.specs.List.{slice_range}
use Rattle.http_message.proofs.InputLemmas.{range_size, range_more}
use Rattle.http_message.proofs.input.Input.fill.Goals as goal

-- the bytes that were held are where the space was made, whatever came after them
pub returns : goal.returns
returns g c =
    let span = c.make_space-span.result in
    let after = c.take_behind.new.buffer.items in
    let came = slice_range after span.end (span.end + c.in_ok-count.count) in
    record {
      got = came;
      took = c.in_ok-count.ensures.took;
      adds = range_more c.make_space-span.new.buffer.items after span.start span.end c.in_ok-count.count
          c.make_space-span.ensures.ordered (omega (arith, c.take_behind.new.buffer.ok.0)) c.take_behind.ensures.same_before
          ∙ ap (λ (bytes : List ℕ). bytes ++ came) (c.make_space-span.ensures.same ∙ c.self.view_is);
      some = omega (arith, range_size after span.end c.in_ok-count.count (omega (arith, c.in_ok-count.ensures.within, c.take_behind.new.buffer.ok.0)), c.in_ok-count.ensures.some);
    }
