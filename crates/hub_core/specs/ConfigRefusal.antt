-- Internal. The words of each refusal.
use Rattle.std.specs.Prelude.{ℕ, List, ◌++◌, codes, decimal}
use Rattle.hub_core.specs.declared.config.ConfigRefusal.{ConfigRefusal}
use Rattle.hub_core.specs.declared.config.ConfigRefusal.TheVariants.{BadBits, BadHashes, BadTtl, BadActive, BadCapacity, BadTtls}

-- the refusal as a sentence
abbrev pub sentence : ConfigRefusal → List ℕ
sentence (BadBits found) = codes "the filter has 2^10 to 2^22 bits, not 2^" ++ decimal found
sentence (BadHashes found) = codes "the filter has 1 to 16 hashes, not " ++ decimal found
sentence (BadTtl low high) =
    codes "lifetimes are 1 to 31536000 seconds, the least first, not " ++ (decimal low ++ (codes " and " ++ decimal high))
sentence (BadActive found) = codes "at most 1000000 keys are active, not " ++ decimal found
sentence (BadCapacity found) = codes "the capacity is 65792 to 134217728 bytes, not " ++ decimal found
sentence (BadTtls absent shared) =
    codes "absent and shared lifetimes are at most 31536000 seconds, not " ++ (decimal absent ++ (codes " and " ++ decimal shared))
