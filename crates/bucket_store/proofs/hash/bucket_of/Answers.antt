use Rattle.std.proofs.Common.{ℕ, ◌%◌, fold, ap, ◌∙◌}
use Rattle.std.proofs.lemmas.List.{take_all}
use Rattle.bucket_store.specs.Buckets.{add_byte, bucket_of}
use Rattle.bucket_store.proofs.hash.bucket_of.Goals as goal

-- all bytes were seen
pub returns-clause-value : goal.returns-clause-value
unfolding bucket_of
returns-clause-value c =
    let bytes = c.as_slice-byte-items.result.now in
    ap (λ (sum : ℕ). sum % 256) (c.loop-byte.invariant.0 ∙ ap (fold add_byte 0) (take_all c.loop-byte.byte-index bytes c.loop-byte-test.false ∙ c.as_slice-byte-items.ensures.same))
