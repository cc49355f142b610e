-- A log that is read record by record, while a desk writes its commits.
use Rattle.std.proofs.Common.{◌≡◌, ℕ, ◌+◌, List, [], ◌∷◌, ◌++◌, length, Option, Some, None, Ok, refl, sym, ap, ◌∙◌, subst, arith, append-nil, length-append}
use Rattle.std.proofs.lemmas.Grind.{flat_map-append}
use Rattle.commit_book.specs.declared.change.Change.{Change}
use Rattle.disks.specs.Histories.{History}
use Rattle.hub_model.specs.declared.entry.Entry.{Entry}
use Rattle.kept_desk.specs.Filling.{Writes, writes_in}
use Rattle.kept_desk.specs.Kept.{HasCommits, HasMoment, IsOpenedOn, ReadsAll, kept_by, kept_in, last_moment, moment_behind}
use Rattle.kept_desk.proofs.FillLemmas.{writes_none, writes_both}
use Rattle.kept_desk.specs.Main.{LogTurnstile}
use Rattle.record_log.specs.Logs.{LogView}
use Rattle.record_log.specs.Opened.{HasOpened}
use Rattle.shared_log.specs.LogValues.{opened_of}
use Rattle.shared_log.specs.Notes.{Opened}
use Rattle.turnstile.specs.Seats.{setting_of}
use Rattle.record_log.specs.Openings.{HasBegun}
use Rattle.record_log.specs.declared.log_record.LogRecord.{LogRecord}
use Rattle.record_log.proofs.OpenLemmas.{IsOpening, Steps, open_none, open_more, open_end, ready_end}

-- the commits of records, with one record more
kept_more : (rs : List LogRecord) (r : LogRecord) → kept_in (rs ++ r ∷ []) ≡ kept_in rs ++ kept_by r
kept_more rs r = flat_map-append kept_by rs (r ∷ []) ∙ ap (λ (l : List (ℕ × Change)). kept_in rs ++ l) (append-nil (kept_by r))

-- and the moment that they keep
moment_more : (moment : ℕ) (rs : List LogRecord) (r : LogRecord) → last_moment moment (rs ++ r ∷ []) ≡ moment_behind (last_moment moment rs) r
moment_more moment [] r = refl
moment_more moment (q ∷ rs) r = moment_more (moment_behind moment q) rs r

-- ---- a log that is looked through

-- These records were read so far, which keep this moment.
pub record Looks (found : Option History) (now : LogView) (moment : ℕ) : Type 0 where
  pub records : List LogRecord
  pub opening : IsOpening found now.history now.gate records
  pub moment_is : moment ≡ last_moment 0 records

pub looks_none : (found : Option History) (now : LogView) → HasBegun found now.history now.gate → Looks found now 0
looks_none found now begun = record { records = []; opening = open_none found now.history now.gate begun; moment_is = refl }

pub looks_more : (found : Option History) (now new : LogView) (moment later : ℕ) (r : LogRecord) → Steps now new (Ok (Some r)) → (now.history ≡ None → new.history ≡ None) → later ≡ moment_behind moment r → Looks found now moment → Looks found new later
looks_more found now new moment later r step hidden later_is l = record {
  records = l.records ++ r ∷ [];
  opening = open_more found now new l.records r l.opening step hidden;
  moment_is = later_is ∙ ap (λ (m : ℕ). moment_behind m r) l.moment_is ∙ sym (moment_more 0 l.records r);
}

pub looks_end : (found : Option History) (now new : LogView) (moment : ℕ) → Steps now new (Ok None) → (now.history ≡ None → new.history ≡ None) → Looks found now moment → HasMoment found moment
looks_end found now new moment step hidden l = (new, l.records, open_end found now new l.records l.opening step hidden, l.moment_is)

-- ---- a log whose commits are written

-- These records were read so far, and a desk has written their commits.
pub record Reads (old now : LogView) (mine_old mine_now : List (ℕ × Entry)) (commits moment : ℕ) : Type 0 where
  pub records : List LogRecord
  pub opening : (found : Option History) → HasBegun found old.history old.gate → IsOpening found now.history now.gate records
  pub written : Writes mine_old mine_now (kept_in records)
  pub commits_is : commits ≡ length (kept_in records)
  pub moment_is : moment ≡ last_moment 0 records

pub reads_none : (v : LogView) (mine : List (ℕ × Entry)) → Reads v v mine mine 0 0
reads_none v mine = record {
  records = [];
  opening = λ found begun. open_none found v.history v.gate begun;
  written = writes_none mine;
  commits_is = refl;
  moment_is = refl;
}

pub reads_more : (old now new : LogView) (mine_old mine_now mine_new : List (ℕ × Entry)) (commits more moment later : ℕ) (r : LogRecord) → Steps now new (Ok (Some r)) → (now.history ≡ None → new.history ≡ None)
    → Writes mine_now mine_new (kept_by r) → more ≡ commits + length (kept_by r) → later ≡ moment_behind moment r → Reads old now mine_old mine_now commits moment → Reads old new mine_old mine_new more later
reads_more old now new mine_old mine_now mine_new commits more moment later r step hidden wrote more_is later_is p = record {
  records = p.records ++ r ∷ [];
  opening = λ found begun. open_more found now new p.records r (p.opening found begun) step hidden;
  written = writes_both mine_old mine_now mine_new (kept_in p.records) (kept_by r) p.written wrote ∙ ap (λ (l : List (ℕ × Change)). writes_in mine_old ++ l) (sym (kept_more p.records r));
  commits_is =
      let size : length (kept_in (p.records ++ r ∷ [])) ≡ length (kept_in p.records) + length (kept_by r) = ap (λ (l : List (ℕ × Change)). length l) (kept_more p.records r) ∙ length-append (kept_in p.records) (kept_by r) in
      let before : commits ≡ length (kept_in p.records) = p.commits_is in
      omega (arith, more_is, size, before);
  moment_is = later_is ∙ ap (λ (m : ℕ). moment_behind m r) p.moment_is ∙ sym (moment_more 0 p.records r);
}

pub reads_end : (old now new : LogView) (mine_old mine_now mine_new : List (ℕ × Entry)) (commits moment : ℕ) → Steps now new (Ok None) → (now.history ≡ None → new.history ≡ None)
    → Writes mine_now mine_new [] → Reads old now mine_old mine_now commits moment → ReadsAll old new mine_old mine_new commits moment
reads_end old now new mine_old mine_now mine_new commits moment step hidden none p = record {
  records = p.records;
  opened = λ found begun. (
    open_end found now new p.records (p.opening found begun) step hidden,
    ready_end found now new p.records (p.opening found begun) step hidden,
  );
  written = none ∙ append-nil (writes_in mine_now) ∙ p.written;
  commits_is = p.commits_is;
  moment_is = p.moment_is;
}

-- the commits of the disk were written
pub commits_written : (found : Option History) (old new : LogView) (mine_old mine_new : List (ℕ × Entry)) (commits moment : ℕ) → HasBegun found old.history old.gate → ReadsAll old new mine_old mine_new commits moment
    → (changes : List (ℕ × Change)) × HasCommits found changes × Writes mine_old mine_new changes
commits_written found old new mine_old mine_new commits moment begun p = (kept_in p.records, (new, p.records, (p.opened found begun).0, refl), p.written)

-- a log that was read to its end and then shared was opened on the disk that it was begun with
pub opened_on : (found : Option History) (begun new : LogView) (mine_old mine_new : List (ℕ × Entry)) (commits moment : ℕ) (place : LogTurnstile) → HasBegun found begun.history begun.gate → ReadsAll begun new mine_old mine_new commits moment
    → setting_of opened_of place ≡ record { log = new; commits = commits; moment = moment } → IsOpenedOn found place
opened_on found begun new mine_old mine_new commits moment place is_begun read is = (
  read.records,
  subst (λ (l : LogView). HasOpened found l read.records) (sym (ap (λ (o : Opened). o.log) is)) (read.opened found is_begun).0,
  ap (λ (o : Opened). o.commits) is ∙ read.commits_is,
  ap (λ (o : Opened). o.moment) is ∙ read.moment_is,
)
