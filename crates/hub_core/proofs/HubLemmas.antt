-- The steps of the hub's calls.
use Rattle.std.proofs.Common.{◌≡◌, ℕ, ◌+◌, ◌-◌, ◌^◌, ◌<◌, ◌≤◌, Bool, true, false, ◌&&◌, ◌||◌, Option, option_map, map, max, nat_lt, List, [], ◌∷◌, ◌++◌, length, replicate, slice_index_or, All, if◌then◌else◌, refl, sym, ap, ap₂, ◌∙◌, subst, arith, inl, Some, None, length-append, Result, Ok, Err, OnErr}
use Rattle.std.proofs.lemmas.Bool.{le-leb, lt-leb}
use Rattle.std.proofs.lemmas.List.FromFn.{length-map-range_with_len}
use Rattle.std.specs.List.{list_any, IsDistinct}
use Rattle.std.specs.List.Sorted.{IsPermutation, IsSorted}
use Rattle.query_normal.specs.Bits.{flat_bits}
use Rattle.query_normal.specs.Keys.{key_text, same_key}
use Rattle.query_normal.specs.Pages.{Page}
use Rattle.query_normal.specs.declared.key.KeyShape.{KeyShape}
use Rattle.issued_expiries.specs.Copies.{Copy, latest_where, is_active, active_keys, SameCopies}
use Rattle.issued_expiries.specs.Expiries.{Issued, none_issued}
use Rattle.ttl_estimator.specs.Estimates.{Entries, after_purge, is_known, kept_of}
use Rattle.ttl_estimator.specs.Estimator.{Estimated, lifetime}
use Rattle.ttl_estimator.specs.Records.{ExtendsAll, Names, clocks_of}
use Rattle.purge_list.specs.Purged.{text_cmp}
use Rattle.flat_snapshot.specs.PageText.{page_with}
use Rattle.commit_book.specs.Contents.{Contents, with_commit, with_horizon}
use Rattle.commit_book.specs.Journal.{is_of, kept_rows}
use Rattle.commit_book.specs.Names.{AreNamesOf}
use Rattle.commit_book.specs.declared.change.Change.{Change}
use Rattle.hub_model.specs.Record.{count_among, is_recorded, record_of, bits_of, page_of}
use Rattle.hub_model.specs.Setting.{Setting}
use Rattle.hub_model.specs.State.{State, start, at_moment}
use Rattle.hub_model.specs.Journal.{result_at}
use Rattle.hub_model.specs.Lifetime.{is_absence, is_absent, is_bounded, kept_for, limits_of, ttl_of}
use Rattle.hub_model.specs.Step.{has_dropped, has_read, has_matched, with_change}
use Rattle.hub_model.specs.Until.{until_of_outdated}
use Rattle.hub_model.specs.Purge.{is_purged}
use Rattle.hub_model.proofs.Kept.{kept-matched}
use Rattle.hub_model.proofs.Purged.{purged-texts}
use Rattle.hub_model.proofs.Recorded.{record-permutes, bits-permute}
use Rattle.hub_model.proofs.Untils.{recorded_until}
use Rattle.hub_core.specs.declared.invalidations.Invalidation.{Invalidation}
use Rattle.hub_core.specs.Invalidations.{AreInvalidationsOf, invalidated_until}
use Rattle.hub_model.specs.declared.entry.Entry.TheVariants.{Match}
use Rattle.hub_model.specs.Legal.{most_unmatched}
use Rattle.active_queries.specs.Following.{Following, AreFollowing}
use Rattle.hub_core.specs.declared.lifetimes.Lifetimes.{Lifetimes}
use Rattle.hub_core.specs.Absents.{AreAbsents, HasAbsents}
use Rattle.hub_core.specs.ActiveQueries.{is_query, KeepsQueries, StayKept}
use Rattle.hub_core.specs.HubState.{HubView, HasCopies, HasEstimates, HasWrites, HaveGoneOn, IsAsBefore, IsAt, IsLeanCopies, IsSoundHub, help_of, hub_of, hub_with}
use Rattle.hub_core.specs.PageRoom.{all_set, set_below}
use Rattle.hub_core.specs.Lifetimes.{Drops, KeepsLifetimes, MakesEntry, ViewedAlike, has_entry, ids_at, went_idle}
use Rattle.hub_core.proofs.LifeLemmas.{estimates-known, estimates-passed, lifetime-at, lifetimes-longer, lifetimes-passed, lifetimes-records, writes-extended}
use Rattle.hub_core.proofs.KeepLemmas.{keeps-written}
use Rattle.hub_core.specs.CopiesView.{CopiesView, Passes, invalidated_keys, until_in, AreInvalidated, IsInvalidationReserved, CanInvalidate}
use Rattle.hub_core.proofs.IssueLemmas.{active-later}
use Rattle.hub_core.proofs.MatchLemmas.{invalidations-raise}
use Rattle.hub_core.proofs.WrittenLemmas.{entries-written}
use Rattle.hub_core.proofs.AbsentLemmas.{absents-moved, absents-reserved, absents-unbounded, ttl-unbounded}
use Rattle.hub_core.proofs.StateLemmas.{time-moved, copies-later, invalidations-later, invalidations-written, copies-read, invalidations-read}

-- the clock leaves the configuration
pub setting-passed : (h new : CopiesView) (moment : ℕ) → Passes moment h new → new.setting ≡ h.setting
setting-passed h new moment passes = ap (λ (x : CopiesView). x.setting) passes.rest

-- what was reserved serves for the invalidations when the clock has moved
pub reserved-later : (invalidations : List Invalidation) (h new : CopiesView) (moment : ℕ) → All (λ m. IsInvalidationReserved h m.key) invalidations → Passes moment h new → All (λ m. CanInvalidate new m.key) invalidations
reserved-later invalidations h new moment reserved passes k d low = λ active.
    let key = (slice_index_or invalidations k d).key in
    inl (ap (λ (x : CopiesView). list_any (same_key key) x.invalidatable) passes.rest ∙ reserved k d low (active-later new.clock h.copies new.copies passes.copies key active))

-- the invalidated keys are those of the record
pub recorded-at : (h : HubView) (s : State) (key : KeyShape) → IsAt h s → nat_lt h.clock (until_in h.outdated key) ≡ is_recorded s key
recorded-at h s key at = ap₂ nat_lt at.time.clock (at.invalidations key) ∙ sym (recorded_until s key)

-- an active query alone has an entry for its estimate, where nothing is idle or reserved
pub estimates-lean : (journal : List Change) (front : ℕ) (h : CopiesView) (l : Lifetimes) → h.idle ≡ [] → h.ready ≡ [] → KeepsLifetimes journal front h l → (key : KeyShape) → is_known l.estimator.keys key ≡ (is_query key && is_active h.copies key)
estimates-lean journal front h l idle ready keeps key =
    keeps.estimates key
    ∙ ap₂ (λ (xs ys : List KeyShape). is_query key && ((is_active h.copies key || list_any (same_key key) xs) || list_any (same_key key) ys)) idle ready
    ∙ ap (λ (b : Bool). is_query key && b) (or_false (is_active h.copies key || false) ∙ or_false (is_active h.copies key))
  where
    or_false : (b : Bool) → (b || false) ≡ b
    or_false true = refl
    or_false false = refl

-- the parts of a hub still belong together when the clock has moved
pub sound-passed : (book : Contents) (front : ℕ) (h new : CopiesView) (before after : List (KeyShape × Following)) (l later : Lifetimes) (moment : ℕ) → IsSoundHub book front h before l → Passes moment h new → new.idle ≡ [] → StayKept h before new after → Drops (went_idle h new) l later → IsSoundHub book front new after later
sound-passed book front h new before after l later moment sound passes idle kept drops =
    let ready : new.ready ≡ [] = ap (λ (x : CopiesView). x.ready) passes.rest ∙ sound.lean.ready in
    let keeps = lifetimes-passed h new moment passes sound.lean.idle book.journal front l later sound.lean.ready idle sound.lifetimes drops in
    record {
      within = sound.within;
      kept = sound.kept;
      capacity = sound.capacity ∙ ap (λ (x : Setting). x.capacity) (sym (setting-passed h new moment passes));
      lean = record {
        change = sound.lean.change;
        names = sound.lean.names;
        idle = idle;
        ready = ready;
        invalidatable = ap (λ (x : CopiesView). x.invalidatable) passes.rest ∙ sound.lean.invalidatable;
        absents_idle = ap (λ (x : Lifetimes). x.absents.idle) drops.rest ∙ sound.lean.absents_idle;
        absents_ready = ap (λ (x : Lifetimes). x.absents.reserved) drops.rest ∙ sound.lean.absents_ready;
        writes = λ collection id. ap (λ (x : Lifetimes). has_entry x.estimator.records collection id) drops.rest ∙ sound.lean.writes collection id;
        estimates = estimates-lean book.journal front new later idle ready keeps;
        sets = kept book.journal front sound.queries;
      };
      queries = kept book.journal front sound.queries;
      lifetimes = keeps;
    }

-- and when the queries have followed
pub sound-followed : (book : Contents) (front : ℕ) (h : CopiesView) (before after : List (KeyShape × Following)) (l : Lifetimes) → IsSoundHub book front h before l → KeepsQueries book.journal front h.copies h.idle after → IsSoundHub book front h after l
sound-followed book front h before after l sound keeps = record {
  within = sound.within;
  kept = sound.kept;
  capacity = sound.capacity;
  lean = record {
    change = sound.lean.change;
    names = sound.lean.names;
    idle = sound.lean.idle;
    ready = sound.lean.ready;
    invalidatable = sound.lean.invalidatable;
    absents_idle = sound.lean.absents_idle;
    absents_ready = sound.lean.absents_ready;
    writes = sound.lean.writes;
    estimates = sound.lean.estimates;
    sets = keeps;
  };
  queries = keeps;
  lifetimes = sound.lifetimes;
}

-- and when a copy was issued
pub sound-read : (book : Contents) (front : ℕ) (h new : CopiesView) (before after : List (KeyShape × Following)) (l later : Lifetimes) → IsSoundHub book front h before l → KeepsQueries book.journal front new.copies new.idle after → KeepsLifetimes book.journal front new later → new.setting ≡ h.setting → new.idle ≡ [] → new.ready ≡ [] → new.invalidatable ≡ h.invalidatable → later.estimator.records ≡ l.estimator.records → later.absents.idle ≡ [] → later.absents.reserved ≡ [] → IsSoundHub book front new after later
sound-read book front h new before after l later sound keeps lives setting idle ready invalidatable records absents_idle absents_ready = record {
  within = sound.within;
  kept = sound.kept;
  capacity = sound.capacity ∙ ap (λ (x : Setting). x.capacity) (sym setting);
  lean = record {
    change = sound.lean.change;
    names = sound.lean.names;
    idle = idle;
    ready = ready;
    invalidatable = invalidatable ∙ sound.lean.invalidatable;
    absents_idle = absents_idle;
    absents_ready = absents_ready;
    writes = λ collection id. ap (λ (names : Names). has_entry names collection id) records ∙ sound.lean.writes collection id;
    estimates = estimates-lean book.journal front new later idle ready lives;
    sets = keeps;
  };
  queries = keeps;
  lifetimes = lives;
}

-- and when commits were matched, or could not be
pub sound-matched : (book : Contents) (front later : ℕ) (h new : CopiesView) (before after : List (KeyShape × Following)) (l made : Lifetimes) → IsSoundHub book front h before l → book.horizon ≤ later → later ≤ length book.journal → KeepsQueries book.journal later new.copies new.idle after → KeepsLifetimes book.journal later new made → new.setting ≡ h.setting → IsLeanCopies new → MakesEntry None l.estimator.records made.estimator.records → made.absents ≡ l.absents → IsSoundHub book later new after made
sound-matched book front later h new before after l made sound kept within keeps lives setting lean entered absents = record {
  within = within;
  kept = kept;
  capacity = sound.capacity ∙ ap (λ (x : Setting). x.capacity) (sym setting);
  lean = record {
    change = sound.lean.change;
    names = sound.lean.names;
    idle = lean.idle;
    ready = lean.ready;
    invalidatable = lean.invalidatable;
    absents_idle = ap (λ (x : Issued). x.idle) absents ∙ sound.lean.absents_idle;
    absents_ready = ap (λ (x : Issued). x.reserved) absents ∙ sound.lean.absents_ready;
    writes = λ collection id. entered collection id ∙ sound.lean.writes collection id;
    estimates = estimates-lean book.journal later new made lean.idle lean.ready lives;
    sets = keeps;
  };
  queries = keeps;
  lifetimes = lives;
}

-- and when a change was added
pub sound-written : (book reserved more : Contents) (front later : ℕ) (h moved new : CopiesView) (before mid after : List (KeyShape × Following)) (l made left : Lifetimes) (noted : Estimated) (change : Change) (moment : ℕ) → IsSoundHub book front h before l → reserved ≡ record book { reserved = Some change } →
    book.horizon ≤ later → later ≤ length reserved.journal → IsLeanCopies moved → moved.setting ≡ h.setting → KeepsQueries reserved.journal later moved.copies moved.idle mid → KeepsLifetimes reserved.journal later moved made → Passes moment moved new → new.idle ≡ [] → StayKept moved mid new after → Drops (went_idle moved new) made left →
    noted ≡ record left.estimator { records = noted.records } →
    more ≡ with_commit reserved change more.names → AreNamesOf (kept_rows more.journal more.horizon) more.names → ((journal longer : List Change) (entries : List (KeyShape × Following)) → AreFollowing journal entries → AreFollowing (journal ++ longer) entries) → MakesEntry (Some change) l.estimator.records made.estimator.records → MakesEntry (Some change) left.estimator.records noted.records → made.absents ≡ l.absents → IsSoundHub more later new after (record left { estimator = noted })
sound-written book reserved more front later h moved new before mid after l made left noted change moment sound reserved_is above within lean setting keeps lives passes idle kept drops noted_is more_is names longer entered written absents =
    let journal : more.journal ≡ reserved.journal ++ change ∷ [] = ap (λ (b : Contents). b.journal) more_is in
    let dropped : more.horizon ≡ book.horizon = ap (λ (b : Contents). b.horizon) more_is ∙ ap (λ (b : Contents). b.horizon) reserved_is in
    let passed = kept reserved.journal later keeps in
    let size : length more.journal ≡ length reserved.journal + 1 = ap length journal ∙ length-append reserved.journal (change ∷ []) in
    let ready : new.ready ≡ [] = ap (λ (x : CopiesView). x.ready) passes.rest ∙ lean.ready in
    let queried = keeps-written reserved.journal later new.copies new.idle after passed more.journal (subst (λ (xs : List Change). AreFollowing xs after) (sym journal) (longer reserved.journal (change ∷ []) after passed.following)) in
    let stayed : KeepsLifetimes reserved.journal later new left = lifetimes-passed moved new moment passes lean.idle reserved.journal later made left lean.ready idle lives drops in
    let grown : KeepsLifetimes more.journal later new left = subst (λ (xs : List Change). KeepsLifetimes xs later new left) (sym journal) (lifetimes-longer reserved.journal (change ∷ []) later new left within stayed) in
    let life : KeepsLifetimes more.journal later new (record left { estimator = noted }) = subst (λ (e : Estimated). KeepsLifetimes more.journal later new (record left { estimator = e })) (sym noted_is) (lifetimes-records more.journal later new left noted.records grown) in
    record {
      within = omega (arith, within, size);
      kept = omega (arith, above, dropped);
      capacity =
          ap (λ (b : Contents). b.capacity) more_is ∙ ap (λ (b : Contents). b.capacity) reserved_is ∙ sound.capacity
          ∙ ap (λ (x : Setting). x.capacity) (sym (setting-passed moved new moment passes ∙ setting));
      lean = record {
        change = ap (λ (b : Contents). b.reserved) more_is;
        names = names;
        idle = idle;
        ready = ready;
        invalidatable = ap (λ (x : CopiesView). x.invalidatable) passes.rest ∙ lean.invalidatable;
        absents_idle = ap (λ (x : Lifetimes). x.absents.idle) drops.rest ∙ ap (λ (x : Issued). x.idle) absents ∙ sound.lean.absents_idle;
        absents_ready = ap (λ (x : Lifetimes). x.absents.reserved) drops.rest ∙ ap (λ (x : Issued). x.reserved) absents ∙ sound.lean.absents_ready;
        writes =
            entries-written book.journal more.journal change l.estimator.records made.estimator.records left.estimator.records noted.records sound.lean.writes entered (ap (λ (x : Lifetimes). x.estimator.records) drops.rest) written
            (journal ∙ ap (λ (b : Contents). b.journal ++ change ∷ []) reserved_is);
        estimates = estimates-lean more.journal later new (record left { estimator = noted }) idle ready life;
        sets = queried;
      };
      queries = queried;
      lifetimes = life;
    }

-- and when old changes were dropped
pub sound-dropped : (book less : Contents) (front to : ℕ) (h : CopiesView) (entries : List (KeyShape × Following)) (l : Lifetimes) → IsSoundHub book front h entries l → less ≡ with_horizon book to less.names → to ≤ front → AreNamesOf (kept_rows less.journal to) less.names → IsSoundHub less front h entries l
sound-dropped book less front to h entries l sound less_is within names =
    let journal : less.journal ≡ book.journal = ap (λ (b : Contents). b.journal) less_is in
    let dropped : less.horizon ≡ to = ap (λ (b : Contents). b.horizon) less_is in
    let queried = subst (λ (xs : List Change). KeepsQueries xs front h.copies h.idle entries) (sym journal) sound.queries in
    record {
      within = subst (λ (xs : List Change). front ≤ length xs) (sym journal) sound.within;
      kept = omega (arith, within, dropped);
      capacity = ap (λ (b : Contents). b.capacity) less_is ∙ sound.capacity;
      lean = record {
        change = ap (λ (b : Contents). b.reserved) less_is;
        names = subst (λ (n : ℕ). AreNamesOf (kept_rows less.journal n) less.names) (sym dropped) names;
        idle = sound.lean.idle;
        ready = sound.lean.ready;
        invalidatable = sound.lean.invalidatable;
        absents_idle = sound.lean.absents_idle;
        absents_ready = sound.lean.absents_ready;
        writes = λ collection id. sound.lean.writes collection id ∙ ap (λ (xs : List Change). list_any (is_of collection id) xs) (sym journal);
        estimates = sound.lean.estimates;
        sets = queried;
      };
      queries = queried;
      lifetimes = subst (λ (xs : List Change). KeepsLifetimes xs front h l) (sym journal) sound.lifetimes;
    }

-- a hub of nothing has come to the first state
pub hub-begins : (book : Contents) (h : CopiesView) (l : Lifetimes) → book.journal ≡ [] → book.horizon ≡ 0 → h.clock ≡ 0 → h.copies ≡ [] → h.outdated ≡ [] → l.estimator.records ≡ [] → l.estimator.keys ≡ [] → l.purges.texts ≡ [] → l.absents ≡ none_issued → IsAt (hub_of book 0 h l) start
hub-begins book h l journal dropped clock copies outdated records keys texts absents = record {
  time = record { clock = clock; front = refl };
  book = record { commits = ap length journal; rows = journal; horizon = dropped };
  copies = λ key test. ap (latest_where key test) copies;
  invalidations = λ key. ap (λ (xs : List (KeyShape × ℕ)). until_in xs key) outdated;
  writes = λ collection id. ap (λ (xs : Names). clocks_of xs collection id) records;
  estimates = λ key query. ap (λ (xs : Entries). kept_of xs key) keys;
  purges = texts;
  absents = λ some. subst (λ (a : Issued). AreAbsents a start) (sym absents) (record { clock = omega arith; copies = λ key test. refl });
}

-- as many commits come after the front as may
pub help-full : (s : State) (moment front commits : ℕ) → front ≡ s.front → commits ≡ length s.journal → most_unmatched ≤ commits - front → help_of s moment ≡ Match moment commits ∷ []
help-full s moment front commits front_is commits_is full =
    ap (λ (b : Bool). if b then Match moment (length s.journal) ∷ [] else []) (le-leb (s.front + most_unmatched) (length s.journal) (omega (arith, full, front_is, commits_is)))
    ∙ ap (λ (n : ℕ). Match moment n ∷ []) (sym commits_is)

-- or one more may
pub help-none : (s : State) (moment front commits : ℕ) → front ≡ s.front → commits ≡ length s.journal → commits - front < most_unmatched → front ≤ commits → help_of s moment ≡ []
help-none s moment front commits front_is commits_is few within =
    ap (λ (b : Bool). if b then Match moment (length s.journal) ∷ [] else []) (lt-leb (s.front + most_unmatched) (length s.journal) (omega (arith, few, front_is, commits_is, within)))

-- ---- the sets of the queries are no part of a state

module _ (book : Contents) (front : ℕ) (h : CopiesView) (entries : List (KeyShape × Following)) (l : Lifetimes) where
  pub at-with : (s : State) → IsAt (hub_of book front h l) s → IsAt (hub_with book front h entries l) s
  at-with s is = record { time = is.time; book = is.book; copies = is.copies; invalidations = is.invalidations; writes = is.writes; estimates = is.estimates; purges = is.purges; absents = is.absents }

  at-without : (s : State) → IsAt (hub_with book front h entries l) s → IsAt (hub_of book front h l) s
  at-without s is = record { time = is.time; book = is.book; copies = is.copies; invalidations = is.invalidations; writes = is.writes; estimates = is.estimates; purges = is.purges; absents = is.absents }

  -- the parts of a hub that has come to a state
  pub parts-at : (hub : HubView) (s : State) → hub_with book front h entries l ≡ hub → IsAt hub s → IsAt (hub_of book front h l) s
  parts-at hub s view at = at-without s (subst (λ (x : HubView). IsAt x s) (sym view) at)

  -- all is as before where the sets alone have gone on
  pub as-before : (hub : HubView) (later : List (KeyShape × Following)) → hub_with book front h entries l ≡ hub → HaveGoneOn entries later → IsAsBefore hub (hub_with book front h later l)
  as-before hub later view gone = subst (λ (x : HubView). IsAsBefore x (hub_with book front h later l)) view (record { rest = refl; sets = gone })

  -- also where memory ran out in a match
  pub alike-before : (more : Contents) (later : ℕ) (new : CopiesView) (after : List (KeyShape × Following)) (made : Lifetimes) (hub : HubView) → hub_with book front h entries l ≡ hub → more ≡ book → later ≡ front → new ≡ h → ViewedAlike l made → HaveGoneOn entries after → IsAsBefore hub (hub_with more later new after made)
  alike-before more later new after made hub view book_is front_is copies alike gone =
      let estimator = alike.estimator in
      let texts = alike.texts in
      let absents = alike.absents in
      subst (λ (x : HubView). IsAsBefore x (hub_with more later new after made)) view
      (record {
        rest =
            (λ i. record {
              setting = (copies i).setting;
              clock = (copies i).clock;
              commits = length (book_is i).journal;
              rows = (book_is i).journal;
              horizon = (book_is i).horizon;
              front = front_is i;
              copies = (copies i).copies;
              outdated = (copies i).outdated;
              change = (book_is i).reserved;
              names = (book_is i).names;
              idle = (copies i).idle;
              ready = (copies i).ready;
              invalidatable = (copies i).invalidatable;
              writes = (estimator i).records;
              estimates = (estimator i).keys;
              purges = texts i;
              absents = absents i;
              sets = after;
            });
        sets = gone;
      })

-- what holds anyway holds where a call failed
pub on_err_all : {T E : Type 0} (r : Result T E) (P : Type 0) → P → OnErr r P
on_err_all (Ok x) P p = tt
on_err_all (Err e) P p = p

-- a hub that is as before has come to the same state
pub still-at : (old new : HubView) (s : State) → IsAsBefore old new → IsAt old s → IsAt new s
still-at old new s before is = subst (λ (x : HubView). IsAt x s) (sym before.rest) (record { time = is.time; book = is.book; copies = is.copies; invalidations = is.invalidations; writes = is.writes; estimates = is.estimates; purges = is.purges; absents = is.absents })

-- a hub that is the same is as before
pub same-before : (old new : HubView) → new ≡ old → IsAsBefore old new
same-before old new same = subst (λ (x : HubView). IsAsBefore old x) (sym same) (record { rest = refl; sets = record { begun = refl; seen = λ n seen. seen } })

-- of a hub that has come to a state
module _ (book : Contents) (front : ℕ) (h : CopiesView) (l : Lifetimes) (s : State) (is : IsAt (hub_of book front h l) s) where
  -- other reserved memory changes nothing
  pub at-ready : (new : CopiesView) → new ≡ record h { ready = new.ready } → IsAt (hub_of book front new l) s
  at-ready new same =
      subst (λ (x : CopiesView). IsAt (hub_of book front x l) s) (sym same) (record { time = is.time; book = is.book; copies = is.copies; invalidations = is.invalidations; writes = is.writes; estimates = is.estimates; purges = is.purges; absents = is.absents })

  pub at-invalidatable : (new : CopiesView) (keys : List KeyShape) → new ≡ record h { invalidatable = keys } → IsAt (hub_of book front new l) s
  at-invalidatable new keys same =
      subst (λ (x : CopiesView). IsAt (hub_of book front x l) s) (sym same) (record { time = is.time; book = is.book; copies = is.copies; invalidations = is.invalidations; writes = is.writes; estimates = is.estimates; purges = is.purges; absents = is.absents })

  pub at-idle : (new : CopiesView) (keys : List KeyShape) → new ≡ record h { idle = keys } → IsAt (hub_of book front new l) s
  at-idle new keys same =
      subst (λ (x : CopiesView). IsAt (hub_of book front x l) s) (sym same) (record { time = is.time; book = is.book; copies = is.copies; invalidations = is.invalidations; writes = is.writes; estimates = is.estimates; purges = is.purges; absents = is.absents })

  pub at-absents : (a : Issued) → a ≡ record l.absents { reserved = a.reserved } → IsAt (hub_of book front h (record l { absents = a })) s
  at-absents a same =
      record { time = is.time; book = is.book; copies = is.copies; invalidations = is.invalidations; writes = is.writes; estimates = is.estimates; purges = is.purges; absents = absents-reserved h.setting l.absents a s same is.absents }

  -- with another change for which memory is reserved
  pub at-reserved : (more : Contents) (change : Option Change) → more ≡ record book { reserved = change } → IsAt (hub_of more front h l) s
  at-reserved more change same =
      subst (λ (b : Contents). IsAt (hub_of b front h l) s) (sym same) (record { time = is.time; book = is.book; copies = is.copies; invalidations = is.invalidations; writes = is.writes; estimates = is.estimates; purges = is.purges; absents = is.absents })

  -- with further entries for writes, and as many for estimates
  pub at-estimator : (later : Lifetimes) → ExtendsAll l.estimator.records later.estimator.records → ((key : KeyShape) → kept_of later.estimator.keys key ≡ kept_of l.estimator.keys key) → later.purges.texts ≡ l.purges.texts → later.absents ≡ l.absents → IsAt (hub_of book front h later) s
  at-estimator later records keys texts absents = record {
    time = is.time;
    book = is.book;
    copies = is.copies;
    invalidations = is.invalidations;
    writes = writes-extended l.estimator.records later.estimator.records s records is.writes;
    estimates = λ key query. keys key ∙ is.estimates key query;
    purges = texts ∙ is.purges;
    absents = subst (λ (a : Issued). HasAbsents h.setting a s) (sym absents) is.absents;
  }

  -- with an entry for an estimate more
  pub at-estimates : (estimator : Estimated) → estimator ≡ record l.estimator { keys = estimator.keys } → ((key : KeyShape) → kept_of estimator.keys key ≡ kept_of l.estimator.keys key) → IsAt (hub_of book front h (record l { estimator = estimator })) s
  at-estimates estimator same kept = record {
    time = is.time;
    book = is.book;
    copies = is.copies;
    invalidations = is.invalidations;
    writes = λ collection id. ap (λ (e : Estimated). clocks_of e.records collection id) same ∙ is.writes collection id;
    estimates = λ key query. kept key ∙ is.estimates key query;
    purges = is.purges;
    absents = is.absents;
  }

  -- when the clock moves
  pub hub-passed : (new : CopiesView) (later : Lifetimes) (moment : ℕ) → h.idle ≡ [] → Passes moment h new → Drops (went_idle h new) l later → IsAt (hub_of book front new later) (at_moment s moment)
  hub-passed new later moment idle passes drops =
      let now : new.clock ≡ max s.clock moment = passes.clock ∙ ap (λ (n : ℕ). max n moment) is.time.clock in
      let copies : HasCopies new.copies (at_moment s moment) = copies-later h.copies new.copies new.clock moment s is.copies passes.copies now in
      record {
        time = time-moved h.clock front new.clock moment s is.time passes.clock;
        book = record { commits = is.book.commits; rows = is.book.rows; horizon = is.book.horizon };
        copies = copies;
        invalidations = invalidations-later h.outdated new.outdated new.clock moment s is.invalidations passes.outdated now;
        writes = λ collection id. ap (λ (x : Lifetimes). clocks_of x.estimator.records collection id) drops.rest ∙ is.writes collection id;
        estimates = estimates-passed h new moment passes idle l.estimator.keys later.estimator.keys s is.copies copies is.estimates drops.kept;
        purges = ap (λ (x : Lifetimes). x.purges.texts) drops.rest ∙ is.purges;
        absents =
            subst (λ (g : Setting). HasAbsents g later.absents (at_moment s moment)) (sym (setting-passed h new moment passes))
            (subst (λ (a : Issued). HasAbsents h.setting a (at_moment s moment)) (sym (ap (λ (x : Lifetimes). x.absents) drops.rest)) (absents-moved h.setting l.absents s moment is.absents));
      }

  -- with a further commit
  pub hub-written : (more : Contents) (change : Change) (noted : Estimated) → front ≤ length book.journal → more.journal ≡ book.journal ++ change ∷ [] → more.horizon ≡ book.horizon → HasWrites noted.records (with_change change s) → noted.keys ≡ l.estimator.keys → IsAt (hub_of more front h (record l { estimator = noted })) (with_change change s)
  hub-written more change noted within longer dropped writes keys =
      let rows : more.journal ≡ s.journal ++ change ∷ [] = longer ∙ ap (λ (xs : List Change). xs ++ change ∷ []) is.book.rows in
      let low : s.front ≤ length s.journal = subst (λ (n : ℕ). n ≤ length s.journal) is.time.front (subst (λ (n : ℕ). front ≤ n) is.book.commits within) in
      record {
        time = record { clock = is.time.clock; front = is.time.front };
        book = record { commits = ap length rows; rows = rows; horizon = dropped ∙ is.book.horizon };
        copies = is.copies;
        invalidations = invalidations-written h.outdated change s is.invalidations low;
        writes = writes;
        estimates = λ key query. ap (λ (es : Entries). kept_of es key) keys ∙ is.estimates key query;
        purges = is.purges;
        absents = λ some. (let was = is.absents some in record { clock = was.clock; copies = was.copies });
      }

  -- with old changes dropped
  pub hub-dropped : (less : Contents) (to : ℕ) → less ≡ with_horizon book to less.names → IsAt (hub_of less front h l) (has_dropped to s)
  hub-dropped less to less_is =
      let journal : less.journal ≡ book.journal = ap (λ (b : Contents). b.journal) less_is in
      record {
        time = record { clock = is.time.clock; front = is.time.front };
        book = record { commits = ap length journal ∙ is.book.commits; rows = journal ∙ is.book.rows; horizon = ap (λ (b : Contents). b.horizon) less_is };
        copies = is.copies;
        invalidations = is.invalidations;
        writes = is.writes;
        estimates = is.estimates;
        purges = is.purges;
        absents = λ some. (let was = is.absents some in record { clock = was.clock; copies = was.copies });
      }

  -- with the copy of a read, when the clock has moved, and with whichever estimates the state has then
  pub hub-read : (moved issued new : CopiesView) (later : Lifetimes) (key : KeyShape) (g : Setting) (at ttl moment : ℕ) → Passes moment h moved → front ≤ at → ttl ≡ ttl_of g (at_moment s moment) key at →
      SameCopies issued.copies (if nat_lt 0 ttl then (key, at, moved.clock + kept_for g ttl) ∷ moved.copies else moved.copies) → issued.clock ≡ moved.clock → issued.outdated ≡ moved.outdated → new ≡ record issued { idle = [] } → issued.setting ≡ g →
      later.estimator.records ≡ l.estimator.records → later.purges.texts ≡ l.purges.texts → HasAbsents g later.absents (has_read g key at (at_moment s moment)) → HasEstimates later.estimator.keys (has_read g key at (at_moment s moment)) → IsAt (hub_of book front new later) (has_read g key at (at_moment s moment))
  hub-read moved issued new later key g at ttl moment passes within life copies clock outdated new_is setting records texts absents estimates =
      let now : moved.clock ≡ max s.clock moment = passes.clock ∙ ap (λ (n : ℕ). max n moment) is.time.clock in
      let were = copies-later h.copies moved.copies moved.clock moment s is.copies passes.copies now in
      let invalidated = invalidations-later h.outdated moved.outdated moved.clock moment s is.invalidations passes.outdated now in
      subst (λ (x : CopiesView). IsAt (hub_of book front x later) (has_read g key at (at_moment s moment))) (sym new_is)
      (record {
        time = record { clock = clock ∙ now; front = is.time.front };
        book = record { commits = is.book.commits; rows = is.book.rows; horizon = is.book.horizon };
        copies = copies-read g moved.copies issued.copies key at ttl moved.clock (at_moment s moment) were now life copies;
        invalidations = λ other. ap (λ (xs : List (KeyShape × ℕ)). until_in xs other) outdated ∙ invalidations-read g moved.outdated key at (at_moment s moment) invalidated (subst (λ (n : ℕ). n ≤ at) is.time.front within) other;
        writes = λ collection id. ap (λ (xs : Names). clocks_of xs collection id) records ∙ is.writes collection id;
        estimates = estimates;
        purges = texts ∙ is.purges;
        absents = subst (λ (x : Setting). HasAbsents x later.absents (has_read g key at (at_moment s moment))) (sym setting) absents;
      })

  -- of a read of a record's key that changes nothing
  module _ (key : KeyShape) (g : Setting) (ttl moment : ℕ) (passes : Passes moment h h) (limits : l.estimator.limits ≡ limits_of g)
      (ttl_is : ttl ≡ lifetime l.estimator key (ids_at key book.journal) h.clock (is_active h.copies key) (active_keys h.copies))
      (unbounded : is_bounded g (is_absence (result_at key book.journal (length book.journal))) ≡ false) where
    known-clock : h.clock ≡ (at_moment s moment).clock
    known-clock = passes.clock ∙ ap (λ (n : ℕ). max n moment) is.time.clock

    known-copies : HasCopies h.copies (at_moment s moment)
    known-copies = copies-later h.copies h.copies h.clock moment s is.copies passes.copies known-clock

    -- it is not bounded
    known-unbounded : is_bounded g (is_absent (at_moment s moment) key (length book.journal)) ≡ false
    known-unbounded = ap (λ (xs : List Change). is_bounded g (is_absence (result_at key xs (length book.journal)))) (sym is.book.rows) ∙ unbounded

    -- the lifetime is that of the state
    pub ttl-known : ttl ≡ ttl_of g (at_moment s moment) key (length book.journal)
    ttl-known =
        ttl_is ∙ lifetime-at h l.estimator s moment key g book.journal known-copies known-clock is.book.rows limits is.writes is.estimates
        ∙ sym (ttl-unbounded g key (length book.journal) (at_moment s moment) known-unbounded)

    -- the state with the read is the same hub's
    pub hub-known : is_query key ≡ false → h.idle ≡ [] → h.setting ≡ g → front ≤ length book.journal → SameCopies h.copies (if nat_lt 0 ttl then (key, length book.journal, h.clock + kept_for g ttl) ∷ h.copies else h.copies) → IsAt (hub_of book front h l) (has_read g key (length book.journal) (at_moment s moment))
    hub-known kind idle setting within same =
        hub-read h h h l key g (length book.journal) ttl moment passes within ttl-known same refl refl (λ i. record h { idle = idle i }) setting refl refl
        (absents-unbounded g key (length book.journal) (at_moment s moment) l.absents (absents-moved g l.absents s moment (subst (λ (x : Setting). HasAbsents x l.absents s) setting is.absents)) known-unbounded)
        (estimates-known h moment passes idle key (length book.journal) ttl kind g s l.estimator.keys is.copies known-copies known-clock ttl-known is.estimates)

  -- with the invalidations by the matched commits, and the purges
  pub hub-matched : (to : ℕ) (new : CopiesView) (later : Lifetimes) (g : Setting) (invalidations : List Invalidation) (keys : List KeyShape) → front ≤ to → AreInvalidationsOf book.journal front to h.copies invalidations →
      ((key : KeyShape) → until_in new.outdated key ≡ max (until_in h.outdated key) (invalidated_until h.copies invalidations key)) → new.clock ≡ h.clock → new.copies ≡ h.copies → new.setting ≡ h.setting → later.absents ≡ l.absents →
      IsDistinct same_key keys → IsSorted text_cmp keys → ((key : KeyShape) → list_any (same_key key) keys ≡ is_purged s to key) → l.estimator.limits ≡ limits_of g →
      later.estimator.records ≡ l.estimator.records → later.purges.texts ≡ l.purges.texts ++ map key_text keys →
      ((key : KeyShape) → kept_of later.estimator.keys key ≡ (if list_any (same_key key) keys then option_map (after_purge l.estimator.limits h.clock) (kept_of l.estimator.keys key) else kept_of l.estimator.keys key)) →
      IsAt (hub_of book to new later) (has_matched g to s)
  hub-matched to new later g invalidations keys forward are outdated clock copies setting absents once sorted each limits records texts kept = record {
    time = record { clock = clock ∙ is.time.clock; front = refl };
    book = record { commits = is.book.commits; rows = is.book.rows; horizon = is.book.horizon };
    copies = λ key test. ap (λ (xs : List Copy). latest_where key test xs) copies ∙ is.copies key test;
    invalidations = λ key.
        outdated key
        ∙ ap (λ (n : ℕ). max n (invalidated_until h.copies invalidations key)) (is.invalidations key ∙ sym (ap (λ (n : ℕ). until_of_outdated (record s { front = n }) key) is.time.front))
        ∙ sym (invalidations-raise h.copies s front to invalidations key is.copies forward
        (subst (λ (xs : List Change). AreInvalidationsOf xs front to h.copies invalidations) is.book.rows are));
    writes = λ collection id. ap (λ (xs : Names). clocks_of xs collection id) records ∙ is.writes collection id;
    estimates = λ key query.
        let was = is.estimates key query in
        let now = is.time.clock in
        let there = each key in
        kept key ∙ (λ i. if there i then option_map (after_purge (limits i) (now i)) (was i) else was i) ∙ sym (kept-matched g s to key);
    purges = texts ∙ (let before = is.purges in let own = purged-texts s to keys once each sorted in (λ i. before i ++ own i));
    absents =
        subst (λ (x : Setting). HasAbsents x later.absents (has_matched g to s)) (sym setting)
        (subst (λ (a : Issued). HasAbsents h.setting a (has_matched g to s)) (sym absents) (λ some. (let was = is.absents some in record { clock = was.clock; copies = was.copies })));
  }

  -- the invalidated keys are those of the record, each once
  pub invalidated-recorded : AreInvalidated h → IsPermutation (invalidated_keys h) (record_of s)
  invalidated-recorded invalidated = record-permutes s (invalidated_keys h) invalidated.once (λ key. invalidated.invalidated key ∙ recorded-at (hub_of book front h l) s key is)

  -- the page of these numbers and bits, or below the guard the one with every bit set, is the state's
  pub page-at : (g : Setting) (log2_bits hashes commits moment : ℕ) (bytes : List ℕ) → AreInvalidated h → h.setting ≡ g → log2_bits ≡ g.log2_bits → hashes ≡ g.hashes → commits ≡ length book.journal → moment ≡ h.clock → flat_bits bytes ≡ bits_of (invalidated_keys h) h.setting.log2_bits h.setting.hashes →
      set_below g.guard (page_with log2_bits hashes front commits moment bytes) ≡ page_of g s
  page-at g log2_bits hashes commits moment bytes invalidated setting log2_is hashes_is commits_is moment_is bits =
      let front_is : front ≡ s.front = is.time.front in
      let commits_at : commits ≡ length s.journal = commits_is ∙ is.book.commits in
      let moment_at : moment ≡ s.clock = moment_is ∙ is.time.clock in
      let bits_at : flat_bits bytes ≡ bits_of (record_of s) g.log2_bits g.hashes =
      bits ∙ ap (λ (x : Setting). bits_of (invalidated_keys h) x.log2_bits x.hashes) setting
      ∙ bits-permute (invalidated_keys h) (record_of s) g.log2_bits g.hashes (invalidated-recorded invalidated) in
      let size : length (flat_bits bytes) ≡ 2 ^ g.log2_bits = ap length bits_at ∙ length-map-range_with_len (λ (j : ℕ). nat_lt 0 (count_among (record_of s) g.log2_bits g.hashes j)) 0 (2 ^ g.log2_bits) in
      let all_at : replicate (length (flat_bits bytes)) true ≡ replicate (2 ^ g.log2_bits) true = ap (λ (n : ℕ). replicate n true) size in
      let page : List Bool → Page = λ (xs : List Bool). record { log2_bits = g.log2_bits; hashes = g.hashes; front = s.front; commits = length s.journal; moment = s.clock; bits = xs } in
      let own : Page = page_with log2_bits hashes front commits moment bytes in
      let own_is : own ≡ page (bits_of (record_of s) g.log2_bits g.hashes) = (λ i. record { log2_bits = log2_is i; hashes = hashes_is i; front = front_is i; commits = commits_at i; moment = moment_at i; bits = bits_at i }) in
      let all_is : all_set own ≡ page (replicate (2 ^ g.log2_bits) true) = (λ i. record { log2_bits = log2_is i; hashes = hashes_is i; front = front_is i; commits = commits_at i; moment = moment_at i; bits = all_at i }) in
      one_page page (all_set own) own (nat_lt moment g.guard) (nat_lt s.clock g.guard) (replicate (2 ^ g.log2_bits) true) (bits_of (record_of s) g.log2_bits g.hashes) (ap (λ (n : ℕ). nat_lt n g.guard) moment_at) all_is own_is
    where
      one_page : (page : List Bool → Page) (all own : Page) (b c : Bool) (xs ys : List Bool) → b ≡ c → all ≡ page xs → own ≡ page ys → (if b then all else own) ≡ page (if c then xs else ys)
      one_page page all own b true xs ys test all_is own_is = ap (λ (x : Bool). if x then all else own) test ∙ all_is
      one_page page all own b false xs ys test all_is own_is = ap (λ (x : Bool). if x then all else own) test ∙ own_is
