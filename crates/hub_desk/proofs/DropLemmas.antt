-- Which entry drops the old changes of a hub, and what a desk makes of it.
use Rattle.std.proofs.Common.{◌≡◌, ◌⊎◌, ℕ, Bool, true, false, nat_lt, ◌<◌, ◌≤◌, List, [], ◌∷◌, ◌++◌, refl, sym, ap, ap₂, ◌∙◌, append-nil, true≢false, arith, inl, inr}
use Rattle.std.proofs.lemmas.Bool.{cases_lt, lt-ltb, le-ltb}
use Rattle.std.specs.List.{enumerate_from}
use Rattle.hub_core.specs.HubState.{HubView, IsAt, Represents}
use Rattle.hub_model.specs.declared.entry.Dropped.{Dropped}
use Rattle.hub_model.specs.declared.entry.Entry.{Entry}
use Rattle.hub_model.specs.declared.entry.Entry.TheVariants.{Tick, Horizon}
use Rattle.hub_model.specs.declared.entry.Stats.{Stats}
use Rattle.hub_model.specs.Desk.{IsPrefix}
use Rattle.hub_model.specs.Legal.{IsLegal}
use Rattle.hub_model.specs.Reply.{Replied, wrote, read, matched, fetched, purged, counted, dropped, reply, reply_in}
use Rattle.hub_model.specs.Setting.{Setting}
use Rattle.hub_model.specs.State.{State}
use Rattle.hub_model.specs.Step.{after, state_of}
use Rattle.hub_desk.specs.declared.trim.Trim.{Trim}
use Rattle.hub_desk.specs.declared.trim.Trim.TheVariants.{All}
use Rattle.hub_desk.specs.Calls.{EntriesAreRepresented, RepliesAreBehind}
use Rattle.hub_desk.specs.Desk.{DropsOld, IsHorizonOf, IsWholeDropOf, dropping, dropping_all, target_of}
use Rattle.hub_desk.specs.HubValue.{HubValueView, hub_setting, StandsFor}
use Rattle.hub_desk.proofs.HistoryLemmas.{made}

-- an answer with this horizon, and the clock of a reply
abbrev told_at : Stats → ℕ → Dropped
told_at stats horizon = record { horizon = horizon; clock = stats.clock }

-- of a hub that represents a history
module _ (h : HubView) (history : List Entry) (represented : Represents h history) where
  abbrev s : State
  s = state_of h.setting history

  -- a drop may follow where it is above the horizon, and not above the front
  pub may_drop : (horizon to : ℕ) → horizon ≡ h.horizon → horizon < to → to ≤ h.front → (s.horizon < to) × (to ≤ s.front)
  may_drop horizon to horizon_is above within =
      let there = represented.state.book.horizon in
      let front = represented.state.time.front in
      (omega (arith, there, horizon_is, above), omega (arith, front, within))

  -- which entry drops old changes
  module _ (moment horizon to : ℕ) (trim : Trim) (horizon_is : horizon ≡ h.horizon) (to_is : to ≡ target_of h.setting s trim) where
    -- a drop where the commit is above the horizon
    pub drop_is : horizon < to → Horizon moment to ≡ dropping h.setting s trim moment
    drop_is above =
        let there = represented.state.book.horizon in
        let test : nat_lt s.horizon (target_of h.setting s trim) ≡ true = lt-ltb s.horizon (target_of h.setting s trim) (omega (arith, above, horizon_is, there, to_is)) in
        let here : dropping h.setting s trim moment ≡ Horizon moment (target_of h.setting s trim) = rw test refl in
        ap (λ (n : ℕ). Horizon moment n) to_is ∙ sym here

    -- a tick where it is not
    pub stay_is : to ≤ horizon → Tick moment ≡ dropping h.setting s trim moment
    stay_is under =
        let there = represented.state.book.horizon in
        let test : nat_lt s.horizon (target_of h.setting s trim) ≡ false = le-ltb s.horizon (target_of h.setting s trim) (omega (arith, under, horizon_is, there, to_is)) in
        let here : dropping h.setting s trim moment ≡ Tick moment = rw test refl in sym here

  -- and of a desk that has seen all of it, after a call
  module _ (g : Setting) (seen longer : List Entry) (setting : g ≡ h.setting) (seen_is : seen ≡ history) (new : HubView) (represents : EntriesAreRepresented) (replies : RepliesAreBehind) (moment horizon to : ℕ) (trim : Trim) (horizon_is : horizon ≡ h.horizon) (to_is : to ≡ target_of h.setting s trim) where
    seen_state : s ≡ state_of g (history ++ [])
    seen_state = let nothing : history ++ [] ≡ history = append-nil history in cc

    same_dropping : dropping h.setting s trim moment ≡ dropping g (state_of g (history ++ [])) trim moment
    same_dropping = ap₂ (λ (x : Setting) (t : State). dropping x t trim moment) (sym setting) seen_state

    -- old changes were dropped by a drop
    pub dropped_old : (told : Dropped) → horizon < to → to ≤ h.front → new.setting ≡ h.setting → IsAt new (after h.setting s (Horizon moment to)) → longer ≡ history ++ Horizon moment to ∷ [] → dropped told ≡ reply_in h.setting s (Horizon moment to)
        → DropsOld g seen longer (enumerate_from 0 seen) (enumerate_from 0 longer) moment trim told
    dropped_old told above within same at stored told_is =
        record {
          entry = Horizon moment to;
          replied = dropped told;
          made = made h history represented g seen longer setting seen_is new represents replies (Horizon moment to) (dropped told) (may_drop horizon to horizon_is above within) same at stored told_is;
          entry_is = drop_is moment horizon to trim horizon_is to_is above ∙ same_dropping;
          told_is = refl;
        }

    -- and by a tick where there was nothing to drop
    pub kept_old : (stats : Stats) → to ≤ horizon → new.setting ≡ h.setting → IsAt new (after h.setting s (Tick moment)) → longer ≡ history ++ Tick moment ∷ [] → counted stats ≡ reply_in h.setting s (Tick moment)
        → DropsOld g seen longer (enumerate_from 0 seen) (enumerate_from 0 longer) moment trim (told_at stats horizon)
    kept_old stats under same at stored told_is =
        record {
          entry = Tick moment;
          replied = counted stats;
          made = made h history represented g seen longer setting seen_is new represents replies (Tick moment) (counted stats) tt same at stored told_is;
          entry_is = stay_is moment horizon to trim horizon_is to_is under ∙ same_dropping;
          told_is = ap (told_at stats) (horizon_is ∙ represented.state.book.horizon ∙ ap (λ (t : State). t.horizon) seen_state);
        }

-- of a value that stands for a history, its horizon and the commit up to which it drops
module _ (g : Setting) (value : HubValueView) (history : List Entry) (stands : StandsFor value history) (setting : hub_setting value ≡ g) (moment horizon to : ℕ) (trim : Trim) (horizon_is : horizon ≡ value.hub.horizon) (to_is : (t : State) → IsAt value.hub t → to ≡ target_of (hub_setting value) t trim) where
  there : to ≡ target_of (hub_setting value) (state_of (hub_setting value) history) trim
  there = to_is (state_of (hub_setting value) history) stands.represents.state

  -- no entry comes ahead of one that drops old changes
  alone : state_of (hub_setting value) history ≡ state_of g (history ++ [])
  alone = ap (λ (x : Setting). state_of x history) setting ∙ ap (λ (l : List Entry). state_of g l) (sym (append-nil history))

  same_entry : dropping (hub_setting value) (state_of (hub_setting value) history) trim moment ≡ dropping g (state_of g (history ++ [])) trim moment
  same_entry = ap₂ (λ (x : Setting) (t : State). dropping x t trim moment) setting alone

  -- old changes are dropped by a drop where the commit is above the horizon
  pub drops : horizon < to → Horizon moment to ≡ dropping g (state_of g (history ++ [])) trim moment
  drops above = drop_is value.hub history stands.represents moment horizon to trim horizon_is there above ∙ same_entry

  -- and by a tick where it is not
  pub stays : to ≤ horizon → Tick moment ≡ dropping g (state_of g (history ++ [])) trim moment
  stays under = stay_is value.hub history stands.represents moment horizon to trim horizon_is there under ∙ same_entry

  -- which leaves the horizon
  pub still_there : (stats : Stats) → IsHorizonOf (state_of g (history ++ [])) (counted stats) (told_at stats horizon)
  still_there stats = ap (told_at stats) (horizon_is ∙ stands.represents.state.book.horizon ∙ ap (λ (t : State). t.horizon) alone)

-- ---- the law of whole drops

abbrev is_tick : Replied → Bool
is_tick (counted stats) = true
is_tick other = false

abbrev front_in : Replied → ℕ
front_in (counted stats) = stats.front
front_in other = 0

-- a tick is told where the horizon is the front
module _ (g : Setting) (s : State) (moment : ℕ) (stats : Stats) (within : s.horizon ≤ s.front) where
  at_front : counted stats ≡ reply_in g s (dropping g s All moment) → s.horizon ≡ stats.front
  at_front told = by (cases_lt s.horizon s.front) where
    by : (s.horizon < s.front) ⊎ (s.front ≤ s.horizon) → s.horizon ≡ stats.front
    by (inl above) =
        let drop : dropping_all s moment ≡ Horizon moment s.front = (let test : nat_lt s.horizon s.front ≡ true = lt-ltb s.horizon s.front above in rw test refl) in
        let other : true ≡ false = ap is_tick (told ∙ ap (reply_in g s) drop) in
        absurd (true≢false other)
    by (inr under) =
        let tick : dropping_all s moment ≡ Tick moment = (let test : nat_lt s.horizon s.front ≡ false = le-ltb s.horizon s.front under in rw test refl) in
        let front : stats.front ≡ s.front = ap front_in (told ∙ ap (reply_in g s) tick) in
        omega (arith, within, under, front)

whole : (g : Setting) (s : State) (moment : ℕ) (replied : Replied) (told : Dropped) → s.horizon ≤ s.front → replied ≡ reply_in g s (dropping g s All moment) → IsHorizonOf s replied told → IsWholeDropOf replied told
whole g s moment (wrote written) told within is told_is = absurd told_is
whole g s moment (read answer) told within is told_is = absurd told_is
whole g s moment (matched match) told within is told_is = absurd told_is
whole g s moment (fetched page) told within is told_is = absurd told_is
whole g s moment (purged list) told within is told_is = absurd told_is
whole g s moment (dropped drop) told within is told_is = told_is
whole g s moment (counted stats) told within is told_is = told_is ∙ ap (told_at stats) (at_front g s moment stats within is)

-- in a legal history the horizon is not above the front
pub whole_drop : ((g : Setting) (history : List Entry) → IsLegal g history → (state_of g history).horizon ≤ (state_of g history).front) → ((g : Setting) (history longer : List Entry) → IsPrefix history longer → IsLegal g longer → IsLegal g history)
    → (g : Setting) (old new : List Entry) (mine_old mine_new : List (ℕ × Entry)) (moment : ℕ) (told : Dropped) → (d : DropsOld g old new mine_old mine_new moment All told) → IsWholeDropOf d.replied told
unfolding reply
whole_drop within prefix g old new mine_old mine_new moment told d =
    let before : List Entry = d.made.before ++ d.made.helps in
    let legal : IsLegal g before = prefix g before new (d.entry ∷ [], sym d.made.seen) d.made.legal in
    whole g (state_of g before) moment d.replied told (within g before legal) (d.made.told_is ∙ ap (reply_in g (state_of g before)) d.entry_is) d.told_is
