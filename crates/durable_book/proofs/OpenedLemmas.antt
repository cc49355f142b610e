-- What an opening finds, and what a crash leaves meanwhile.
use Rattle.std.proofs.Common.{◌≡◌, ◌≢◌, ◌⊎◌, ℕ, ◌<◌, ◌≤◌, false, List, [], ◌∷◌, ◌++◌, length, All, Option, Some, None, refl, sym, ap, ap₂, ◌∙◌, subst, inl, inr, append_assoc, append-nil, arith, length-append}
use Rattle.std.proofs.lemmas.Bool.{cases_eq}
use Rattle.std.proofs.lemmas.List.Elements.{All-nil}
use Rattle.std.proofs.lemmas.Grind.{flat_map-append}
use Rattle.commit_book.specs.declared.change.Change.{Change}
use Rattle.disks.specs.Histories.{History, DiskView, device_of}
use Rattle.hub_model.specs.Setting.{Setting}
use Rattle.hub_model.specs.Legal.{IsLegal}
use Rattle.hub_model.specs.State.{IssuedCopy}
use Rattle.hub_model.specs.Step.{state_of}
use Rattle.record_log.specs.declared.log_record.LogRecord.{LogRecord}
use Rattle.record_log.specs.declared.log_record.LogRecord.TheVariants.{Commit, Moment}
use Rattle.record_log.specs.Frames.{Frame, AllFit, mark, open_gate, closed_gate, head_text, opened, all_opened, front_of}
use Rattle.record_log.specs.Images.{StandsFor, IsImage, IsLog, empty_length, new_log}
use Rattle.record_log.specs.Logs.{LogView}
use Rattle.record_log.specs.Opened.{Say, HaveFrames, HasOpened, IsRepair, LeavesOpening}
use Rattle.record_log.specs.Openings.{IsStart, IsBad, synced}
use Rattle.durable_book.specs.declared.refusal.OpenRefusal.{OpenRefusal}
use Rattle.durable_book.specs.declared.refusal.OpenRefusal.TheVariants.{BadMark, BadRecord, TooSmall, DiskFault, Memory}
use Rattle.durable_book.specs.Images.{IsImageOf, MayWait, IsBefore}
use Rattle.durable_book.specs.Journals.{journal_of, last_kept, costs_of}
use Rattle.durable_book.specs.KeptHub.{KeptView, HoldsJournal, KeepsState}
use Rattle.durable_book.specs.Replay.{opened_state, opening_of}
use Rattle.durable_book.specs.Opened.{HasReplayed, IsChance, IsFoundIn, IsSoundDisk, LeavesFound, Opens, RefusesStore}
use Rattle.durable_book.proofs.ImageLemmas.{leaves-weaken}
use Rattle.durable_book.proofs.JournalLemmas.{journal-append, kept-commit, kept-moment, say-append}

-- what the log's laws say
abbrev pub OneList : Type 0
OneList = (fs others : List Frame) (gate other_gate : ℕ) (behind other_behind : List ℕ) → AllFit fs → AllFit others → gate ≢ open_gate → other_gate ≢ open_gate
    → front_of fs ++ gate ∷ behind ≡ front_of others ++ other_gate ∷ other_behind → (fs ≡ others) × (gate ≡ other_gate) × (behind ≡ other_behind)

abbrev pub NotRefused : Type 0
NotRefused = (fs others : List Frame) (rs records : List LogRecord) (rest behind : List ℕ) (gate : ℕ) → Say fs rs → Say others records → gate ≢ open_gate → front_of fs ++ rest ≡ front_of others ++ gate ∷ behind → IsBad rest → ⊥

-- frames of records have their bytes
say_fits : (fs : List Frame) (rs : List LogRecord) → Say fs rs → AllFit fs
say_fits [] rs says = tt
say_fits (f ∷ fs) [] says = absurd says
say_fits (f ∷ fs) (r ∷ rs) says = (says.0, say_fits fs rs says.2)

-- and are those of no other records
say_once : (fs : List Frame) (rs others : List LogRecord) → Say fs rs → Say fs others → rs ≡ others
say_once [] [] [] says other = refl
say_once [] [] (q ∷ others) says other = absurd other
say_once [] (r ∷ rs) others says other = absurd says
say_once (f ∷ fs) [] others says other = absurd says
say_once (f ∷ fs) (r ∷ rs) [] says other = absurd other
say_once (f ∷ fs) (r ∷ rs) (q ∷ others) says other =
    let same : ◌≡◌ {A = Option LogRecord} (Some r) (Some q) = sym says.1 ∙ other.1 in
    let first : r ≡ q = cc in
    ap (λ (x : LogRecord). x ∷ rs) first ∙ ap (λ (xs : List LogRecord). q ∷ xs) (say_once fs rs others says.2 other.2)

-- no frame is no record
say_none : (rs : List LogRecord) → Say [] rs → rs ≡ []
say_none [] says = refl
say_none (r ∷ rs) says = absurd says

-- at most 5 bytes have no frame
short_none : (fs : List Frame) (rest bytes : List ℕ) → bytes ≡ front_of fs ++ rest → length bytes ≤ empty_length → fs ≡ []
short_none [] rest bytes is short = refl
short_none (f ∷ fs) rest bytes is short =
    let size : length bytes ≡ length (front_of (f ∷ fs) ++ rest) = ap (λ (x : List ℕ). length x) is in
    let whole = length-append (front_of (f ∷ fs)) rest in
    let front = length-append mark (all_opened (f ∷ fs)) in
    let frames = length-append (opened f) (all_opened fs) in
    let frame = length-append (head_text open_gate f.kind f.clock (length f.body)) f.body in
    let head : 2 ≤ length (head_text open_gate f.kind f.clock (length f.body)) = omega arith in
    absurd (omega (arith, size, whole, front, frames, frame, head, short))

-- the parts of an image that is more than a new log
whole_of : (image : List ℕ) (fs waiting : List Frame) → IsImage image fs waiting → empty_length < length image → StandsFor image fs waiting
whole_of image fs waiting (inl stands) long = stands
whole_of image fs waiting (inr short) long = absurd (omega (arith, short.0, long))

-- the frames of an image that is not
none_of : (image : List ℕ) (fs waiting : List Frame) → IsImage image fs waiting → length image ≤ empty_length → fs ≡ []
none_of image fs waiting (inl stands) short = short_none fs (stands.gate ∷ stands.behind) image stands.is short
none_of image fs waiting (inr none) short = none.1

-- ---- one journal

module _ (one : OneList) where
  -- the frames of two readings of bytes that are more than a new log
  same_frames : (image : List ℕ) (fs others waiting behind : List Frame) → AllFit fs → AllFit others → IsImage image fs waiting → IsImage image others behind → fs ≡ others
  same_frames image fs others waiting behind fit other_fit (inl s) (inl t) = (one fs others s.gate t.gate s.behind t.behind fit other_fit s.shut t.shut (sym s.is ∙ t.is)).0
  same_frames image fs others waiting behind fit other_fit (inl s) (inr none) = short_none fs (s.gate ∷ s.behind) image s.is none.0 ∙ sym none.1
  same_frames image fs others waiting behind fit other_fit (inr none) (inl t) = none.1 ∙ sym (short_none others (t.gate ∷ t.behind) image t.is none.0)
  same_frames image fs others waiting behind fit other_fit (inr none) (inr other) = none.1 ∙ sym other.1

  pub one-journal : (image : List ℕ) (journal other : List Change) (kept last : ℕ) (waiting behind : List LogRecord) → IsImageOf image journal kept waiting → IsImageOf image other last behind → (journal ≡ other) × (kept ≡ last)
  one-journal image journal other kept last waiting behind a b =
      let frames = same_frames image a.frames b.frames a.behind b.behind (say_fits a.frames a.records a.says) (say_fits b.frames b.records b.says) a.image_is b.image_is in
      let records : a.records ≡ b.records = say_once b.frames a.records b.records (subst (λ (fs : List Frame). Say fs a.records) frames a.says) b.says in (
        sym a.journal_is ∙ ap journal_of records ∙ b.journal_is,
        sym a.kept_is ∙ ap last_kept records ∙ b.kept_is,
      )

  -- ---- what a crash leaves while a store is opened

  -- an image that is no more than a new log has no record
  short-image : (seen image : List ℕ) (journal : List Change) (kept : ℕ) (waiting : List LogRecord) → IsImageOf seen journal kept waiting → length seen ≤ empty_length → length image ≤ empty_length → IsBefore journal kept image
  short-image seen image journal kept waiting s short small =
      let frames : s.frames ≡ [] = none_of seen s.frames s.behind s.image_is short in
      let records : s.records ≡ [] = say_none s.records (subst (λ (fs : List Frame). Say fs s.records) frames s.says) in
      record {
        frames = [];
        behind = [];
        records = [];
        image_is = inr (small, refl, refl);
        says = tt;
        waits = tt;
        journal_is = ap journal_of (sym records) ∙ s.journal_is;
        kept_is = ap last_kept (sym records) ∙ s.kept_is;
      }

  -- the last kept moment does not fall where what waits comes in
  kept-rises : (records waiting : List LogRecord) → MayWait (last_kept records) waiting → last_kept records ≤ last_kept (records ++ waiting)
  kept-rises records [] may = (let same : last_kept (records ++ []) ≡ last_kept records = ap last_kept (append-nil records) in omega (arith, same))
  kept-rises records (Commit clock change ∷ []) may = (let same = kept-commit records clock change in omega (arith, same))
  kept-rises records (Moment clock ∷ []) may = (let same = kept-moment records clock in omega (arith, same, may))
  kept-rises records (r ∷ q ∷ more) may = absurd may

  -- a gate of another byte with the same bytes behind it
  repaired : (seen image : List ℕ) (journal : List Change) (kept : ℕ) (waiting : List LogRecord) (s : IsImageOf seen journal kept waiting) (byte : ℕ) (behind more rest : List ℕ) → MayWait kept waiting
      → open_gate ∷ behind ≡ all_opened s.behind ++ closed_gate ∷ rest → s.behind ≢ [] → image ≡ front_of s.frames ++ byte ∷ (behind ++ more)
      → IsBefore journal kept image ⊎ (IsImageOf image journal kept waiting ⊎ ((later : ℕ) × (kept ≤ later) × IsBefore (journal ++ journal_of waiting) later image))
  repaired seen image journal kept waiting s byte behind more rest may frames some is = elim (cases_eq byte closed_gate) [
    | inl closed ↦ inl (record {
      frames = s.frames;
      behind = [];
      records = s.records;
      image_is = inl (record { gate = closed_gate; behind = behind ++ more; is = is ∙ ap (λ (b : ℕ). front_of s.frames ++ b ∷ (behind ++ more)) closed; shut = omega arith; waits = inl (refl, refl) });
      says = s.says;
      waits = tt;
      journal_is = s.journal_is;
      kept_is = s.kept_is;
    })
    | inr torn ↦ elim (cases_eq byte open_gate) [
      | inl opens ↦ inr (inr (
        last_kept (s.records ++ waiting),
        subst (λ (n : ℕ). n ≤ last_kept (s.records ++ waiting)) s.kept_is (kept-rises s.records waiting (subst (λ (n : ℕ). MayWait n waiting) (sym s.kept_is) may)),
        record {
          frames = s.frames ++ s.behind;
          behind = [];
          records = s.records ++ waiting;
          image_is = inl (record { gate = closed_gate; behind = rest ++ more; is = is ∙ ap (λ (b : ℕ). front_of s.frames ++ b ∷ (behind ++ more)) opens ∙ joined; shut = omega arith; waits = inl (refl, refl) });
          says = say-append s.frames s.behind s.records waiting s.says s.waits;
          waits = tt;
          journal_is = journal-append s.records waiting ∙ ap (λ (xs : List Change). xs ++ journal_of waiting) s.journal_is;
          kept_is = refl;
        },
      ))
      | inr shut ↦ inr (inl (record {
        frames = s.frames;
        behind = s.behind;
        records = s.records;
        image_is = inl (record { gate = byte; behind = behind ++ more; is = is; shut = shut; waits = inr (record { torn = torn; rest = rest ++ more; frames = longer; some = some }) });
        says = s.says;
        waits = s.waits;
        journal_is = s.journal_is;
        kept_is = s.kept_is;
      }))
    ]
  ]
    where
      longer : open_gate ∷ (behind ++ more) ≡ all_opened s.behind ++ closed_gate ∷ (rest ++ more)
      longer = ap (λ (x : List ℕ). x ++ more) frames ∙ append_assoc (all_opened s.behind) (closed_gate ∷ rest) more

      joined : front_of s.frames ++ open_gate ∷ (behind ++ more) ≡ front_of (s.frames ++ s.behind) ++ closed_gate ∷ (rest ++ more)
      joined =
          ap (λ (x : List ℕ). front_of s.frames ++ x) longer
          ∙ sym (append_assoc (front_of s.frames) (all_opened s.behind) (closed_gate ∷ (rest ++ more)))
          ∙ ap (λ (x : List ℕ). x ++ closed_gate ∷ (rest ++ more)) (append_assoc mark (all_opened s.frames) (all_opened s.behind) ∙ ap (λ (x : List ℕ). mark ++ x) (sym (flat_map-append opened s.frames s.behind)))

  -- the gate of a repair is that behind which something waits
  repair-waits : (seen image : List ℕ) (journal : List Change) (kept : ℕ) (waiting : List LogRecord) (s : IsImageOf seen journal kept waiting) (stand : StandsFor seen s.frames s.behind) (fs : List Frame) (rs : List LogRecord) (gate byte : ℕ) (behind more : List ℕ) → MayWait kept waiting
      → Say fs rs → seen ≡ front_of fs ++ gate ∷ behind → gate ≢ open_gate → gate ≢ closed_gate → image ≡ front_of fs ++ byte ∷ (behind ++ more)
      → IsBefore journal kept image ⊎ (IsImageOf image journal kept waiting ⊎ ((later : ℕ) × (kept ≤ later) × IsBefore (journal ++ journal_of waiting) later image))
  repair-waits seen image journal kept waiting s stand fs rs gate byte behind more may says is shut torn left =
      let same = one fs s.frames gate stand.gate behind stand.behind (say_fits fs rs says) (say_fits s.frames s.records s.says) shut stand.shut (sym is ∙ stand.is) in
      elim stand.waits [
        | inl closed ↦ absurd (torn (same.1 ∙ closed.0))
        | inr waits ↦ repaired seen image journal kept waiting s byte stand.behind more waits.rest may waits.frames waits.some (left ∙ ap₂ (λ (x : List Frame) (y : List ℕ). front_of x ++ byte ∷ (y ++ more)) same.0 same.2)
      ]

  found-repair : (h : History) (image : List ℕ) → IsRepair h image → IsFoundIn (device_of h).seen image
  found-repair h image r journal kept waiting s may =
      repair-waits (device_of h).seen image journal kept waiting s (whole_of (device_of h).seen s.frames s.behind s.image_is r.11) r.0 r.1 r.2 r.3 r.4 r.5 may r.6 r.7 r.8 r.9 r.10

  pub found-opening : (h : History) (image : List ℕ) → (IsStart h image ⊎ IsRepair h image) → IsFoundIn (device_of h).seen image
  found-opening h image (inl (inl same)) = λ journal kept waiting s may. inr (inl (subst (λ (x : List ℕ). IsImageOf x journal kept waiting) (sym same) s))
  found-opening h image (inl (inr short)) = λ journal kept waiting s may. inl (short-image (device_of h).seen image journal kept waiting s short.0 short.1)
  found-opening h image (inr repair) = found-repair h image repair

  -- ---- why a sound disk is not refused

  -- the records that were found are those of what was read
  costs-found : (bytes : List ℕ) (journal : List Change) (kept : ℕ) (waiting : List LogRecord) (fs : List Frame) (gate : ℕ) (behind : List ℕ) (rs : List LogRecord) → IsImageOf bytes journal kept waiting → Say fs rs → gate ≢ open_gate → HaveFrames bytes fs (gate ∷ behind) → journal_of rs ≡ journal
  costs-found bytes journal kept waiting fs gate behind rs s says shut (inl is) =
      let stand = whole_of bytes s.frames s.behind s.image_is is.1 in
      let same = one fs s.frames gate stand.gate behind stand.behind (say_fits fs rs says) (say_fits s.frames s.records s.says) shut stand.shut (sym is.0 ∙ stand.is) in
      ap journal_of (say_once s.frames rs s.records (subst (λ (x : List Frame). Say x rs) same.0 says) s.says) ∙ s.journal_is
  costs-found bytes journal kept waiting fs gate behind rs s says shut (inr new) =
      let none : fs ≡ [] = short_none fs (gate ∷ behind) new_log (sym new.1) (omega arith) in
      let frames : s.frames ≡ [] = none_of bytes s.frames s.behind s.image_is new.0 in
      let records : rs ≡ [] = say_none rs (subst (λ (x : List Frame). Say x rs) none says) in
      let others : s.records ≡ [] = say_none s.records (subst (λ (x : List Frame). Say x s.records) frames s.says) in
      ap journal_of (records ∙ sym others) ∙ s.journal_is

  pub chance : NotRefused → (g : Setting) (before after : DiskView) (refusal : OpenRefusal) → IsSoundDisk g.capacity before.history → RefusesStore g before after refusal → IsChance refusal
  chance not_refused g before after refusal sound refused = by before.history refusal sound refused
    where
      by : (history : Option History) (why : OpenRefusal) → IsSoundDisk g.capacity history → RefusesStore g (record { history = history; faults = before.faults }) after why → IsChance why
      by None why sound refused = absurd sound
      by (Some h) DiskFault sound refused = tt
      by (Some h) Memory sound refused = tt
      by (Some h) BadMark sound refused =
          let s = sound (device_of h).seen (inr refl) in
          let stand = whole_of (device_of h).seen s.stands.frames s.stands.behind s.stands.image_is refused.0 in
          absurd (refused.1 (all_opened s.stands.frames ++ stand.gate ∷ stand.behind) (stand.is ∙ append_assoc mark (all_opened s.stands.frames) (stand.gate ∷ stand.behind)))
      by (Some h) (BadRecord place) sound refused =
          let s = sound (device_of h).seen (inr refl) in
          absurd (bad (device_of h).seen s.stands refused.0 refused.1 refused.2 refused.3 refused.4 refused.6)
        where
          bad : (bytes : List ℕ) {journal : List Change} {kept : ℕ} {waiting : List LogRecord} (s : IsImageOf bytes journal kept waiting) (fs : List Frame) (rs : List LogRecord) (rest : List ℕ) → Say fs rs → HaveFrames bytes fs rest → IsBad rest → ⊥
          bad bytes s fs rs rest says (inl is) wrong =
              let stand = whole_of bytes s.frames s.behind s.image_is is.1 in
              not_refused fs s.frames rs s.records rest stand.behind stand.gate says s.says stand.shut (sym is.0 ∙ stand.is) wrong
          bad bytes s fs rs rest says (inr new) wrong = not_refused fs [] rs [] rest [] closed_gate says tt (omega arith) new.1 wrong
      by (Some h) (TooSmall bytes) sound refused =
          let s = sound (device_of h).seen (inr refl) in
          let opened = refused.2 in
          let same = costs-found (device_of h).seen s.journal s.kept s.waiting opened.0 opened.1 opened.2 refused.0 s.stands opened.3 opened.5 opened.4 in
          let costs : costs_of (journal_of refused.0) ≡ costs_of s.journal = ap costs_of same in
          absurd (omega (arith, s.fits, costs, refused.3))

-- ---- what an opened store holds

holds_by : (history : Option History) (gate : ℕ) (fs : List Frame) (records : List LogRecord) → IsLog history gate fs → Say fs records → HoldsJournal history gate (journal_of records) (last_kept records)
holds_by None gate fs records log says = tt
holds_by (Some h) gate fs records log says = (fs, records, log, says, refl, refl)

pub holds-opened : (before : Option History) (log : LogView) (records : List LogRecord) → HasOpened before log records → HoldsJournal log.history log.gate (journal_of records) (last_kept records)
holds-opened None log records hidden = subst (λ (o : Option History). HoldsJournal o log.gate (journal_of records) (last_kept records)) (sym hidden) tt
holds-opened (Some h) log records found = holds_by log.history log.gate found.0 records found.6 found.3

-- what the law of openings says
abbrev pub States : Type 0
States = (g : Setting) (records : List LogRecord) (moment : ℕ) → state_of g (opening_of g records moment) ≡ opened_state g records moment

abbrev pub Legals : Type 0
Legals = (g : Setting) (records : List LogRecord) (moment : ℕ) → IsLegal g (opening_of g records moment)

abbrev pub Journals : Type 0
Journals = (g : Setting) (records : List LogRecord) (moment : ℕ) → costs_of (journal_of records) ≤ g.capacity → (opened_state g records moment).journal ≡ journal_of records

abbrev pub Unread : Type 0
Unread = (g : Setting) (records : List LogRecord) (moment : ℕ) → (opened_state g records moment).copies ≡ []

abbrev pub Undropped : Type 0
Undropped = (g : Setting) (records : List LogRecord) (moment : ℕ) → (opened_state g records moment).horizon ≡ 0

-- an opened store stands for the history of its opening
pub opens : States → Legals → Journals → Unread → Undropped → (g : Setting) (moment : ℕ) (before : Option History) (k : KeptView) → HasReplayed g moment before k.hub k.log k.kept k.guard → k.broken ≡ false → Opens g moment before k
opens states legals journals unread undropped g moment before k r sound =
    let s = opened_state g r.records moment in
    let state : KeepsState k s = record {
      sound = sound;
      hub = r.state;
      disk = subst (λ (journal : List Change). HoldsJournal k.log.history k.log.gate journal k.kept) (sym (journals g r.records moment r.fits))
          (subst (λ (kept : ℕ). HoldsJournal k.log.history k.log.gate (journal_of r.records) kept) (sym r.kept_is) (holds-opened before k.log r.records r.found));
      reads = subst (λ (copies : List IssuedCopy). All (λ r. r.clock < k.kept) copies) (sym (unread g r.records moment)) (All-nil (λ (c : IssuedCopy). c.clock < k.kept));
      whole = undropped g r.records moment;
    } in
    record {
      records = r.records;
      found = r.found;
      stands = record {
        state = subst (λ (x : Setting). KeepsState k (state_of x (opening_of g r.records moment))) (sym r.setting) (subst (KeepsState k) (sym (states g r.records moment)) state);
        legal = subst (λ (x : Setting). IsLegal x (opening_of g r.records moment)) (sym r.setting) (legals g r.records moment);
      };
    }

-- what a crash leaves of an opening is said of images
pub leaves-found : ((h : History) (image : List ℕ) → (IsStart h image ⊎ IsRepair h image) → IsFoundIn (device_of h).seen image) → (before after : Option History) → LeavesOpening before after → LeavesFound before after
leaves-found found None after leaves = leaves
leaves-found found (Some h) after (inl same) = inl same
leaves-found found (Some h) after (inr leaves) = inr (leaves-weaken (Some (synced h)) after (λ image. IsStart h image ⊎ IsRepair h image) (IsFoundIn (device_of h).seen) (found h) leaves)
