-- What crashes leave goes on from a journal.
use Rattle.std.proofs.Common.{ℕ, ◌≤◌, List, [], ◌∷◌, ◌++◌, sym, subst, inl, inr, append-nil, append_assoc, arith}
use Rattle.commit_book.specs.declared.change.Change.{Change}
use Rattle.record_log.specs.declared.log_record.LogRecord.{LogRecord}
use Rattle.record_log.specs.declared.log_record.LogRecord.TheVariants.{Commit, Moment}
use Rattle.durable_book.specs.Images.{IsBefore, IsImageOf, IsInRead, IsInWrite, MayWait}
use Rattle.durable_book.specs.Journals.{journal_of}
use Rattle.durable_book.specs.Opened.{IsFoundIn}
use Rattle.durable_law.specs.Left.{GoesOn}

-- the journal itself
alone : (journal : List Change) (kept later : ℕ) (waiting : List LogRecord) (image : List ℕ) → kept ≤ later → MayWait later waiting → IsImageOf image journal later waiting → GoesOn journal kept image
alone journal kept later waiting image rises may_wait stands = record {
  more = [];
  later = later;
  waiting = waiting;
  stands = subst (λ (xs : List Change). IsImageOf image xs later waiting) (sym (append-nil journal)) stands;
  rises = rises;
  may_wait = may_wait;
}

pub still-on : (journal : List Change) (kept : ℕ) (image : List ℕ) → IsBefore journal kept image → GoesOn journal kept image
still-on journal kept image before = alone journal kept kept [] image (omega arith) tt before

pub write-on : (capacity kept : ℕ) (journal : List Change) (change : Change) (image : List ℕ) → IsInWrite capacity journal kept change image → GoesOn journal kept image
write-on capacity kept journal change image (inl before) = still-on journal kept image before
write-on capacity kept journal change image (inr (inl waits)) = alone journal kept kept (Commit waits.0 change ∷ []) image (omega arith) tt waits.1
write-on capacity kept journal change image (inr (inr after)) = record { more = change ∷ []; later = kept; waiting = []; stands = after; rises = omega arith; may_wait = tt }

pub read-on : (journal : List Change) (kept : ℕ) (image : List ℕ) → IsInRead journal kept image → GoesOn journal kept image
read-on journal kept image (inl before) = still-on journal kept image before
read-on journal kept image (inr (inl waits)) = alone journal kept kept (Moment waits.0 ∷ []) image (omega arith) waits.1 waits.2
read-on journal kept image (inr (inr after)) = alone journal kept after.0 [] image after.1 tt after.2

pub opening-on : (journal : List Change) (kept : ℕ) (seen image : List ℕ) → GoesOn journal kept seen → IsFoundIn seen image → GoesOn journal kept image
opening-on journal kept seen image g found = elim (found (journal ++ g.more) g.later g.waiting g.stands g.may_wait) [
  | inl before ↦ record { more = g.more; later = g.later; waiting = []; stands = before; rises = g.rises; may_wait = tt }
  | inr (inl same) ↦ record { more = g.more; later = g.later; waiting = g.waiting; stands = same; rises = g.rises; may_wait = g.may_wait }
  | inr (inr (later, up, is)) ↦ (
      let low = g.rises in
      record {
        more = g.more ++ journal_of g.waiting;
        later = later;
        waiting = [];
        stands = subst (λ (xs : List Change). IsImageOf image xs later []) (append_assoc journal g.more (journal_of g.waiting)) is;
        rises = omega (arith, low, up);
        may_wait = tt;
      })
]
