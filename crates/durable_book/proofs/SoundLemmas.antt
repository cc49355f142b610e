-- Why what a crash leaves is sound.
use Rattle.std.proofs.Common.{◌⊎◌, ℕ, ◌≤◌, List, [], ◌∷◌, ◌++◌, inl, inr}
use Rattle.commit_book.specs.declared.change.Change.{Change}
use Rattle.record_log.specs.declared.log_record.LogRecord.{LogRecord}
use Rattle.record_log.specs.declared.log_record.LogRecord.TheVariants.{Commit, Moment}
use Rattle.durable_book.specs.Images.{IsImageOf, IsBefore, MayWait, IsInRead, IsInWrite, IsSoundImage}
use Rattle.durable_book.specs.Journals.{journal_of}
use Rattle.durable_book.specs.Opened.{IsFoundIn}

-- where nothing waits
still : (image : List ℕ) (journal : List Change) (kept : ℕ) → IsBefore journal kept image → IsSoundImage image
still image journal kept before = record { journal = journal; kept = kept; waiting = []; stands = before; may_wait = tt }

pub sound-write : (capacity kept : ℕ) (journal : List Change) (change : Change) (image : List ℕ) → IsInWrite capacity journal kept change image → IsSoundImage image
sound-write capacity kept journal change image (inl before) = still image journal kept before
sound-write capacity kept journal change image (inr (inl waits)) =
    record { journal = journal; kept = kept; waiting = Commit waits.0 change ∷ []; stands = waits.1; may_wait = tt }
sound-write capacity kept journal change image (inr (inr after)) = still image (journal ++ change ∷ []) kept after

pub sound-read : (kept : ℕ) (journal : List Change) (image : List ℕ) → IsInRead journal kept image → IsSoundImage image
sound-read kept journal image (inl before) = still image journal kept before
sound-read kept journal image (inr (inl waits)) =
    record { journal = journal; kept = kept; waiting = Moment waits.0 ∷ []; stands = waits.2; may_wait = waits.1 }
sound-read kept journal image (inr (inr after)) = still image journal after.0 after.2

-- by what became of what waited
by_found : (image : List ℕ) (journal more : List Change) (kept : ℕ) (waiting : List LogRecord) → MayWait kept waiting → IsBefore journal kept image ⊎ (IsImageOf image journal kept waiting ⊎ ((later : ℕ) × (kept ≤ later) × IsBefore more later image))
    → IsSoundImage image
by_found image journal more kept waiting may (inl before) = still image journal kept before
by_found image journal more kept waiting may (inr (inl waits)) = record { journal = journal; kept = kept; waiting = waiting; stands = waits; may_wait = may }
by_found image journal more kept waiting may (inr (inr after)) = still image more after.0 after.2

pub sound-found : (seen image : List ℕ) → IsSoundImage seen → IsFoundIn seen image → IsSoundImage image
sound-found seen image s found = by_found image s.journal (s.journal ++ journal_of s.waiting) s.kept s.waiting s.may_wait (found s.journal s.kept s.waiting s.stands s.may_wait)
