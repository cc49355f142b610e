-- what is left of the buffer is the range behind the bytes that were copied
use Rattle.std.proofs.Common.{◌≡◌, ◌+◌, List, ℕ, ◌++◌, take, drop, sym, ◌∙◌, ap}
use Rattle.std.proofs.lemmas.Slice.{between_is}
use Rattle.q_outside.proofs.buffered.BufferedSource.give.Goals as goal

pub returns-clause-given : goal.returns-clause-given
returns-clause-given g c =
    let bytes : List ℕ = c.args.self.now.buffer.items in
    let at = c.args.self.now.at in
    let end = c.args.self.now.end in
    let count = c.copy_piece-count.result in
    let same : c.deref.result.now ≡ bytes = c.deref.ensures.value in
    between_is bytes at end
    ∙ ap (λ (xs : List ℕ). drop at (take end xs)) (sym same)
    ∙ c.copy_piece-count.ensures.copied
    ∙ ap (λ (xs : List ℕ). take count c.copy_piece-count.new.into ++ drop (at + count) (take end xs)) same
    ∙ ap (λ (xs : List ℕ). take count c.copy_piece-count.new.into ++ xs) (sym (between_is bytes (at + count) end))
