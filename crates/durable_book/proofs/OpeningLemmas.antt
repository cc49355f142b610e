-- A hub that makes the entries of an opening.
use Rattle.std.proofs.Common.{◌≡◌, ℕ, ◌<◌, ◌≤◌, Bool, true, false, List, [], ◌∷◌, ◌++◌, length, nat_lt, if◌then◌else◌, Option, Some, None, refl, sym, ap, ◌∙◌, subst, arith}
use Rattle.std.specs.Prelude.{unwrap_or}
use Rattle.std.specs.Option.{option_map_or}
use Rattle.hub_core.specs.HubState.{HubView, IsAt}
use Rattle.hub_model.specs.declared.entry.Entry.TheVariants.{Match, Tick}
use Rattle.hub_model.specs.Setting.{Setting}
use Rattle.hub_model.specs.State.{State, start}
use Rattle.hub_model.specs.Step.{after, after_all}
use Rattle.record_log.specs.declared.log_record.LogRecord.{LogRecord}
use Rattle.durable_book.specs.Journals.{last_moment, last_kept}
use Rattle.durable_book.specs.Replay.{all_replayed, end_of, opened_state}

-- a match of all, where they are not matched, and a tick end an opening
pub finished : (old mid new : HubView) (moment : ℕ) (s : State) → IsAt old s → (old.front < old.commits → IsAt mid (after old.setting s (Match moment old.commits))) → (old.commits ≤ old.front → mid ≡ old)
    → mid.setting ≡ old.setting → ((t : State) → IsAt mid t → IsAt new (after mid.setting t (Tick moment))) → IsAt new (after_all old.setting s (end_of s moment))
finished old mid new moment s at matched level setting ticks = by (nat_lt s.front (length s.journal)) refl
  where
    ticked : (t : State) → IsAt mid t → IsAt new (after old.setting t (Tick moment))
    ticked t here = subst (λ (g : Setting). IsAt new (after g t (Tick moment))) setting (ticks t here)

    below : (m n : ℕ) → nat_lt m n ≡ true → m < n
    below m n h = grind (arith, h)

    above : (m n : ℕ) → nat_lt m n ≡ false → n ≤ m
    above m n h = grind (arith, h)

    by : (b : Bool) → nat_lt s.front (length s.journal) ≡ b → IsAt new (after_all old.setting s ((if b then Match moment (length s.journal) ∷ [] else []) ++ Tick moment ∷ []))
    by true behind =
        let front = at.time.front in
        let commits = at.book.commits in
        let less = below s.front (length s.journal) behind in
        ticked (after old.setting s (Match moment (length s.journal)))
        (subst (λ (n : ℕ). IsAt mid (after old.setting s (Match moment n))) commits (matched (omega (arith, front, commits, less))))
    by false behind =
        let front = at.time.front in
        let commits = at.book.commits in
        let more = above s.front (length s.journal) behind in
        ticked s (subst (λ (h : HubView). IsAt h s) (sym (level (omega (arith, front, commits, more)))) at)

-- a new hub that makes records, and ends the opening
pub hub_made : (g : Setting) (first mid last : HubView) (records : List LogRecord) (moment : ℕ) → IsAt mid (all_replayed first.setting start records) → ((s : State) → IsAt mid s → IsAt last (after_all mid.setting s (end_of s moment)))
    → first.setting ≡ g → mid.setting ≡ first.setting → IsAt last (opened_state g records moment)
hub_made g first mid last records moment made ends first_is mid_is =
    let here : IsAt mid (all_replayed g start records) = subst (λ (x : Setting). IsAt mid (all_replayed x start records)) first_is made in
    subst (λ (x : Setting). IsAt last (after_all x (all_replayed g start records) (end_of (all_replayed g start records) moment))) (mid_is ∙ first_is) (ends (all_replayed g start records) here)

-- the last kept moment, and 0 without one
pub kept_or_none : (records : List LogRecord) (last : Option ℕ) → last ≡ last_moment records → unwrap_or last 0 ≡ last_kept records
kept_or_none records last is = same last ∙ ap (λ (o : Option ℕ). option_map_or (λ moment. moment) o 0) is
  where
    same : (o : Option ℕ) → unwrap_or o 0 ≡ option_map_or (λ moment. moment) o 0
    same None = refl
    same (Some moment) = refl
