-- What a thread that served a connection leaves.
use Rattle.std.proofs.Common.{◌≡◌, ℕ, false, List, [], ◌∷◌, length, inl, inr, refl, sym, ap, ◌∙◌, subst}
use Rattle.hub_desk.specs.HubValue.{hub_setting}
use Rattle.hub_model.specs.declared.entry.Entry.{Entry}
use Rattle.hub_model.specs.Setting.{Setting}
use Rattle.hub_model.specs.Step.{state_of}
use Rattle.q_outside.specs.Ends.{End, HasEnded, LastEnd, Ticks}
use Rattle.q_outside.specs.declared.served.Served.{Served}
use Rattle.quaestor_server.specs.Conversation.{AreKept, Conversation}
use Rattle.quaestor_serve.specs.Kept.{HubTurnstile, HubSeat, IsFreshAt, Kept, setting_at}
use Rattle.quaestor_serve.specs.Served.{KeptBy, sides_of}
use Rattle.turnstile.specs.Seats.{IsSeatOf, IsIdle, IsPart, seen, mine, met}
use Rattle.turnstile.proofs.Prefixes.{prefix_self}

-- the levels of the seats that a seat is made of, and of those that were split off these
abbrev pub parts : HubSeat → List ℕ × List ℕ
parts seat = (seat.me.0.levels, seat.me.0.children)

-- with the same levels no seat was split off it or joined to it
pub part_stays : (old new : HubSeat) → parts new ≡ parts old → IsPart old → IsPart new
part_stays old new same part = subst (λ (p : List ℕ × List ℕ). (p.0 ≡ 1 ∷ []) × (p.1 ≡ [])) (sym same) part

-- a conversation at a fresh seat was well served; `turn_before` and `before` are the turnstile and the seat of the desk at first, `turn_after` and `after` at last
pub kept_after : {S K C H : Type 0} (source_at : S → End) (sink_at : K → End) (ended_at : K → LastEnd) (tick : C → ℕ → C → Type 0) (kept : H → ℕ → Type 0) (stood : ℕ → Type 0) (turnstile turn_before turn_after : HubTurnstile) (seat before after last : HubSeat) (source source_left : S) (sink sink_left sink_last : K) (clock late : C) (hand : H) (served : Served) → ((n : ℕ) → stood n → kept hand n) → turn_before ≡ turnstile → before ≡ seat → turn_after ≡ turn_before → met after ≡ met before → parts after ≡ parts before → last ≡ after → IsSeatOf hub_setting turn_after last → IsIdle last → IsFreshAt turnstile seat → sink_at sink_last ≡ sink_at sink_left → HasEnded (ended_at sink_last) (sink_at sink_last).bytes → Conversation (setting_at turn_before) false (λ moments. Ticks tick clock moments late) stood (seen before) (seen after) (mine before) (mine after) (sides_of source_at sink_at source sink) (sides_of source_at sink_at source_left sink_left) served → Kept source_at sink_at ended_at tick kept turnstile seat source sink clock hand (record { seat = last; source = source_left; sink = sink_last; served = served })
kept_after source_at sink_at ended_at tick kept stood turnstile turn_before turn_after seat before after last source source_left sink sink_left sink_last clock late hand served stands at here same met_same parts_same last_is own idle fresh ended is_ended talk =
    let timed : List ℕ → Type 0 = λ moments. Ticks tick clock moments late in
    let first = sides_of source_at sink_at source sink in
    let none : mine before ≡ [] = ap mine here ∙ fresh.mine in
    let set = subst (λ (t : HubTurnstile). Conversation (setting_at t) false timed stood (seen before) (seen after) (mine before) (mine after) first (sides_of source_at sink_at source_left sink_left) served) at talk in
    let begun = subst (λ (m : List (ℕ × Entry)). Conversation (setting_at turnstile) false timed stood (seen before) (seen after) m (mine after) first (sides_of source_at sink_at source_left sink_left) served) none set in
    let seated = subst (λ (s : HubSeat). Conversation (setting_at turnstile) false timed stood (seen before) (seen s) [] (mine s) first (sides_of source_at sink_at source_left sink_left) served) (sym last_is) begun in
    let whole = subst (λ (k : End). Conversation (setting_at turnstile) false timed stood (seen before) (seen last) [] (mine last) first (record { source = source_at source_left; sink = k }) served) (sym ended) seated in
    record {
      own = subst (λ (t : HubTurnstile). IsSeatOf hub_setting t last) (same ∙ at) own;
      idle = idle;
      met = ap met last_is ∙ met_same ∙ ap met here ∙ fresh.met;
      part = part_stays seat last (ap parts last_is ∙ parts_same ∙ ap parts here) fresh.part;
      served = record {
        moments = whole.moments;
        entered = whole.entered;
        late = late;
        ticks = whole.ticks;
        well = record { begins = seen before; ends = seen last; beginning = prefix_self (seen last); dialogue = whole.dialogue };
        begins = ap seen here;
        ends = refl;
        commits = whole.commits;
        within = whole.within;
        stands = stands whole.commits whole.stands;
      };
      is_ended = is_ended;
    }

-- what a desk over another had kept is kept by its hand
pub kept_by_hand : {D T H L : Type 0} (hand : D → H) (setting : D → Setting) (seen : D → List Entry) (anchor : D → T × L) (is_kept : D → Type 0) (log : H → L) (keeps : H → ℕ → Type 0) (g : Setting) (tied : T) (first : H)
    → ((d : D) → (anchor d).1 ≡ log (hand d)) → ((d : D) → is_kept d → keeps (hand d) (length (state_of (setting d) (seen d)).journal)) → (n : ℕ) → AreKept setting seen anchor is_kept g (tied, log first) n → KeptBy log keeps first n
kept_by_hand hand setting seen anchor is_kept log keeps g tied first is_log keeps_all n (inl none) = inl none
kept_by_hand hand setting seen anchor is_kept log keeps g tied first is_log keeps_all n (inr w) =
    let all : length (state_of (setting w.desk) (seen w.desk)).journal ≡ n = ap (λ (s : Setting). length (state_of s (seen w.desk)).journal) w.setting_is ∙ w.commits_are in
    inr (hand w.desk, sym (is_log w.desk) ∙ ap (λ a. a.1) w.anchor_is, subst (λ (m : ℕ). keeps (hand w.desk) m) all (keeps_all w.desk w.kept))
