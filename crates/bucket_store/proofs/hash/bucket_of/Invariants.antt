use Rattle.std.proofs.Common.{◌≡◌, ◌<◌, take, fold}
use Rattle.bucket_store.specs.Buckets.{add_byte}
use Rattle.bucket_store.proofs.hash.bucket_of.Given as goal

abbrev pub invariant-loop-byte : goal.invariant-loop-byte
invariant-loop-byte l = (l.sum ≡ fold add_byte 0 (take l.byte-index l.byte-items)) × (l.sum < 65521)
