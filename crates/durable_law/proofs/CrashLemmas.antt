-- Why what a crash leaves is opened as a store that follows.
use Rattle.std.proofs.Common.{◌≡◌, ◌≢◌, ℕ, ◌<◌, ◌≤◌, List, [], ◌∷◌, ◌++◌, length, Option, Some, refl, sym, ap, ◌∙◌, subst, inl, inr, append-nil, arith}
use Rattle.commit_book.specs.declared.change.Change.{Change}
use Rattle.disks.specs.Devices.{Device, DiskCall, MayLeave, device}
use Rattle.disks.specs.Histories.{History, device_of}
use Rattle.disks.specs.Moments.{EachImage, EachSince}
use Rattle.hub_model.specs.declared.entry.Entry.{Entry}
use Rattle.hub_model.specs.Desk.{IsPrefix}
use Rattle.hub_model.specs.Setting.{Setting}
use Rattle.hub_model.specs.Step.{state_of}
use Rattle.record_log.specs.declared.log_record.LogRecord.{LogRecord}
use Rattle.record_log.specs.Frames.{Frame, AllFit, closed_gate, front_of, open_gate}
use Rattle.record_log.specs.Images.{IsImage, StandsFor as Stand, empty_length}
use Rattle.record_log.specs.Logs.{LogView}
use Rattle.record_log.specs.Opened.{HasOpened, HaveFrames, Say}
use Rattle.durable_book.specs.Across.{Follows}
use Rattle.durable_book.specs.Images.{IsBefore, IsImageOf, IsInRead, IsInWrite}
use Rattle.durable_book.specs.Journals.{costs_of, journal_of, last_kept, last_moment}
use Rattle.durable_book.specs.KeptHub.{HoldsJournal, KeptView, StandsFor}
use Rattle.durable_book.specs.Moments.{guard_of}
use Rattle.durable_book.specs.Replay.{opening_of}
use Rattle.durable_book.proofs.ImageLemmas.{leaves-still}
use Rattle.durable_law.specs.Left.{GoesOn}
use Rattle.durable_law.specs.Outlasts.{Outlasts}
use Rattle.durable_law.proofs.FollowLemmas.{Following}

-- what is asked of bytes and of images
abbrev pub OneList : Type 0
OneList = (fs others : List Frame) (gate other_gate : ℕ) (behind other_behind : List ℕ) → AllFit fs → AllFit others → gate ≢ open_gate → other_gate ≢ open_gate
    → front_of fs ++ gate ∷ behind ≡ front_of others ++ other_gate ∷ other_behind → (fs ≡ others) × (gate ≡ other_gate) × (behind ≡ other_behind)

abbrev pub OneJournal : Type 0
OneJournal = (image : List ℕ) (journal other : List Change) (kept last : ℕ) (waiting behind : List LogRecord) → IsImageOf image journal kept waiting → IsImageOf image other last behind → (journal ≡ other) × (kept ≡ last)

-- a disk at rest with an image
abbrev rests : List ℕ → Option History
rests image = Some (record { start = image; calls = [] })

-- frames of records have their bytes
say_fits : (fs : List Frame) (rs : List LogRecord) → Say fs rs → AllFit fs
say_fits [] rs says = tt
say_fits (f ∷ fs) [] says = absurd says
say_fits (f ∷ fs) (r ∷ rs) says = (says.0, say_fits fs rs says.2)

-- the parts of an image that is more than a new log
whole_of : (image : List ℕ) (fs waiting : List Frame) → IsImage image fs waiting → empty_length < length image → Stand image fs waiting
whole_of image fs waiting (inl stand) long = stand
whole_of image fs waiting (inr short) long = absurd (omega (arith, short.0, long))

module _ (one : OneList) (one_journal : OneJournal) where
  -- an image has the journal of the records that it is opened with
  found_in : (image : List ℕ) (journal : List Change) (kept : ℕ) (waiting : List LogRecord) (fs : List Frame) (gate : ℕ) (behind : List ℕ) (rs : List LogRecord) → IsImageOf image journal kept waiting → Say fs rs → gate ≢ open_gate → HaveFrames image fs (gate ∷ behind)
      → (journal ≡ journal_of rs) × (kept ≡ last_kept rs)
  found_in image journal kept waiting fs gate behind rs s says shut (inl is) =
      let stand = whole_of image s.frames s.behind s.image_is is.1 in
      let same = one fs s.frames gate stand.gate behind stand.behind (say_fits fs rs says) (say_fits s.frames s.records s.says) shut stand.shut (sym is.0 ∙ stand.is) in
      one_journal image journal (journal_of rs) kept (last_kept rs) waiting waiting s
      (record {
        frames = s.frames;
        behind = s.behind;
        records = rs;
        image_is = s.image_is;
        says = subst (λ (x : List Frame). Say x rs) same.0 says;
        waits = s.waits;
        journal_is = refl;
        kept_is = refl;
      })
  found_in image journal kept waiting fs gate behind rs s says shut (inr new) =
      let same = one fs [] gate closed_gate behind [] (say_fits fs rs says) tt shut (omega arith) new.1 in
      one_journal image journal (journal_of rs) kept (last_kept rs) waiting [] s
      (record {
        frames = [];
        behind = [];
        records = rs;
        image_is = inr (new.0, refl, refl);
        says = subst (λ (x : List Frame). Say x rs) same.0 says;
        waits = tt;
        journal_is = refl;
        kept_is = refl;
      })

  found : (image : List ℕ) (journal : List Change) (kept : ℕ) (waiting : List LogRecord) (log : LogView) (rs : List LogRecord) → IsImageOf image journal kept waiting → HasOpened (rests image) log rs → (journal ≡ journal_of rs) × (kept ≡ last_kept rs)
  found image journal kept waiting log rs s opened = found_in image journal kept waiting opened.0 opened.1 opened.2 rs s opened.3 opened.5 opened.4

  -- the records go on from a journal, and have no earlier kept moment
  abbrev GoOn : List Change → ℕ → List LogRecord → Type 0
  GoOn journal kept rs = IsPrefix journal (journal_of rs) × (kept ≤ last_kept rs)

  -- where the image has the journal and further changes
  go_on : (image : List ℕ) (journal more : List Change) (kept later : ℕ) (waiting : List LogRecord) (log : LogView) (rs : List LogRecord) → kept ≤ later → IsImageOf image (journal ++ more) later waiting → HasOpened (rests image) log rs → GoOn journal kept rs
  go_on image journal more kept later waiting log rs rises s opened =
      let same = found image (journal ++ more) later waiting log rs s opened in ((more, same.0), omega (arith, rises, same.1))

  -- where it has the journal alone
  go_still : (image : List ℕ) (journal : List Change) (kept later : ℕ) (waiting : List LogRecord) (log : LogView) (rs : List LogRecord) → kept ≤ later → IsImageOf image journal later waiting → HasOpened (rests image) log rs → GoOn journal kept rs
  go_still image journal kept later waiting log rs rises s opened =
      go_on image journal [] kept later waiting log rs rises (subst (λ (xs : List Change). IsImageOf image xs later waiting) (sym (append-nil journal)) s) opened

  -- what a crash leaves of a write, and of a read
  in_write : (capacity : ℕ) (image : List ℕ) (journal : List Change) (kept : ℕ) (change : Change) (log : LogView) (rs : List LogRecord) → IsInWrite capacity journal kept change image → HasOpened (rests image) log rs → GoOn journal kept rs
  in_write capacity image journal kept change log rs (inl before) opened = go_still image journal kept kept [] log rs (omega arith) before opened
  in_write capacity image journal kept change log rs (inr (inl waits)) opened = go_still image journal kept kept _ log rs (omega arith) waits.1 opened
  in_write capacity image journal kept change log rs (inr (inr after)) opened = go_on image journal (change ∷ []) kept kept [] log rs (omega arith) after opened

  in_read : (image : List ℕ) (journal : List Change) (kept : ℕ) (log : LogView) (rs : List LogRecord) → IsInRead journal kept image → HasOpened (rests image) log rs → GoOn journal kept rs
  in_read image journal kept log rs (inl before) opened = go_still image journal kept kept [] log rs (omega arith) before opened
  in_read image journal kept log rs (inr (inl waits)) opened = go_still image journal kept kept _ log rs (omega arith) waits.2 opened
  in_read image journal kept log rs (inr (inr after)) opened = go_still image journal kept after.0 [] log rs after.1 after.2 opened

  -- ---- the disk of a store between two calls

  -- what holds at each moment holds at the last
  each_last : (begun : List ℕ) (earlier calls : List DiskCall) (P : List ℕ → Type 0) → EachSince begun earlier calls P → EachImage (device begun (calls ++ earlier)) P
  each_last begun earlier [] P each = each
  each_last begun earlier (call ∷ calls) P each = each.0

  -- nothing is pending there
  still : (h : History) (gate : ℕ) (journal : List Change) (kept : ℕ) → HoldsJournal (Some h) gate journal kept → EachImage (device_of h) (IsBefore journal kept)
  still h gate journal kept holds =
      let leaves = leaves-still (Some h) gate journal kept holds in
      let ends : h ≡ record { start = h.start; calls = leaves.0 ++ h.calls } = cc in
      subst (λ (d : Device). EachImage d (IsBefore journal kept)) (sym (ap device_of ends)) (each_last h.start h.calls leaves.0 (IsBefore journal kept) leaves.2)

  module _ (following : Following) (k : KeptView) (later_g : Setting) (history more : List Entry) (records : List LogRecord) (moment : ℕ) (stands : StandsFor k history) where
    abbrev IsFollowed : Type 0
    IsFollowed = Follows k.hub.setting later_g history (opening_of later_g records moment ++ more) (guard_of later_g (last_moment records))

    by_records : GoOn (state_of k.hub.setting history).journal k.kept records → costs_of (journal_of records) ≤ later_g.capacity → Outlasts k later_g → IsFollowed
    by_records on fits outlasts = following k later_g history more records moment stands on.0 on.1 fits outlasts

    pub behind-write : (capacity : ℕ) (change : Change) (image : List ℕ) (log : LogView) → IsInWrite capacity (state_of k.hub.setting history).journal k.kept change image → HasOpened (rests image) log records → costs_of (journal_of records) ≤ later_g.capacity → Outlasts k later_g → IsFollowed
    behind-write capacity change image log left opened = by_records (in_write capacity image (state_of k.hub.setting history).journal k.kept change log records left opened)

    pub behind-read : (image : List ℕ) (log : LogView) → IsInRead (state_of k.hub.setting history).journal k.kept image → HasOpened (rests image) log records → costs_of (journal_of records) ≤ later_g.capacity → Outlasts k later_g → IsFollowed
    behind-read image log left opened = by_records (in_read image (state_of k.hub.setting history).journal k.kept log records left opened)

    pub behind-crash : (h : History) (image : List ℕ) (log : LogView) → k.log.history ≡ Some h → MayLeave (device_of h) image → HasOpened (rests image) log records → costs_of (journal_of records) ≤ later_g.capacity → Outlasts k later_g → IsFollowed
    behind-crash h image log shown may opened =
        let holds = subst (λ (o : Option History). HoldsJournal o k.log.gate (state_of k.hub.setting history).journal k.kept) shown stands.state.disk in
        behind-read image log (inl (still h k.log.gate (state_of k.hub.setting history).journal k.kept holds image may)) opened

    pub behind-openings : (image : List ℕ) (log : LogView) → GoesOn (state_of k.hub.setting history).journal k.kept image → HasOpened (rests image) log records → costs_of (journal_of records) ≤ later_g.capacity → Outlasts k later_g → IsFollowed
    behind-openings image log left opened = by_records (go_on image (state_of k.hub.setting history).journal left.more k.kept left.later left.waiting log records left.rises left.stands opened)
