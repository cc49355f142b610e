-- A run of the program, of what serving its connection did.
use Rattle.std.proofs.Common.{◌≡◌, ◌⊎◌, ℕ, Bool, true, false, min, List, [], ◌∷◌, ◌++◌, flat_map, length, is_some, Option, None, Some, refl, sym, ap, ◌∙◌, subst, inl, inr}
use Rattle.std.specs.List.{enumerate_from}
use Rattle.dialogue.specs.Dialogue.{Sides}
use Rattle.hub_model.specs.declared.entry.Entry.{Entry}
use Rattle.hub_model.specs.Legal.{IsLegal}
use Rattle.hub_model.specs.Setting.{Setting}
use Rattle.hub_model.specs.Step.{state_of}
use Rattle.q_base.specs.declared.moment.TheConstants.{GREATEST_SECONDS}
use Rattle.q_outside.specs.Ends.{End, HasEnded, LastEnd, Ticks}
use Rattle.q_outside.specs.declared.clocks.FixedClock.{FixedClock}
use Rattle.q_outside.specs.declared.served.Served.{Served}
use Rattle.commit_book.specs.declared.change.Change.{Change}
use Rattle.kept_desk.specs.Filling.{Fills, Writes, written_by, writes_in}
use Rattle.kept_desk.proofs.FillLemmas.{all_filling, numbered_writes}
use Rattle.quaestor_prog.specs.Run.{AreAt, AreTimed, GaveText, IsRun, IsRunKept, IsRunOver, IsSimulationText}
use Rattle.quaestor_prog.specs.Status.{status_of}
use Rattle.clap.specs.Words.{Text}
use Rattle.q_outside.specs.Doors.{DoorsView}
use Rattle.q_outside.specs.declared.limits.Limits.{Limits}
use Rattle.command_line.specs.Data.{DataAsk}
use Rattle.command_line.specs.Watching.{WatchAsk}
use Rattle.quaestor_prog.specs.Places.{PlacesView}
use Rattle.quaestor_prog.specs.Reading.{HasRead}
use Rattle.quaestor_prog.specs.Serving.{HasServed}
use Rattle.client_session.specs.Link.{Exchange, LinkView}
use Rattle.command_line.specs.Words.{IsPipe, IsRead, IsServe, IsSimulation, PipeAsk, ReadAsk, ServeAsk, ask_of, pipe_ask_of}
use Rattle.command_line.specs.declared.command_name.Simulation.{Simulation}
use Rattle.command_line.specs.declared.options.PipeOptions.{PipeOptions}
use Rattle.command_line.specs.declared.options.ServeOptions.{ServeOptions}
use Rattle.command_line.proofs.WordLemmas.{is_data, one_pipe, one_ask, one_read, one_simulation}
use Rattle.quaestor_prog.specs.declared.status.Status.{Status}
use Rattle.quaestor_prog.specs.declared.status.Status.TheVariants.{Memory, StoreFault}
use Rattle.quaestor_serve.specs.Served.{KeptBy}
use Rattle.quaestor_server.specs.Conversation.{AreKept, Conversation}

-- a conversation with weaker statements of its moments and of how many commits were kept
stands_as : (stood stands : ℕ → Type 0) (g : Setting) (unready : Bool) (t u : List ℕ → Type 0) (seen seen' : List Entry) (mine mine' : List (ℕ × Entry)) (a b : Sides) (served : Served) → ((n : ℕ) → stood n → stands n) → ((ms : List ℕ) → t ms → u ms)
    → Conversation g unready t stood seen seen' mine mine' a b served → Conversation g unready u stands seen seen' mine mine' a b served
stands_as stood stands g unready t u seen seen' mine mine' a b served f timed c = record {
  moments = c.moments;
  entered = c.entered;
  ticks = timed c.moments c.ticks;
  dialogue = c.dialogue;
  commits = c.commits;
  within = c.within;
  stands = f c.commits c.stands;
}

-- what a desk with a hand had kept, that hand keeps
pub kept_by_hand : {D T H L : Type 0} (hand : D → H) (setting : D → Setting) (seen : D → List Entry) (anchor : D → T × L) (is_kept : D → Type 0) (log : H → L) (keeps : H → ℕ → Type 0) (g : Setting) (tied : T) (first : H)
    → ((d : D) → (anchor d).1 ≡ log (hand d)) → ((d : D) → is_kept d → keeps (hand d) (length (state_of (setting d) (seen d)).journal)) → (n : ℕ) → AreKept setting seen anchor is_kept g (tied, log first) n → KeptBy log keeps first n
kept_by_hand hand setting seen anchor is_kept log keeps g tied first at all n (inl none) = inl none
kept_by_hand hand setting seen anchor is_kept log keeps g tied first at all n (inr w) =
    let size : length (state_of (setting w.desk) (seen w.desk)).journal ≡ n = ap (λ (s : Setting). length (state_of s (seen w.desk)).journal) w.setting_is ∙ w.commits_are in
    inr (hand w.desk, sym (at w.desk) ∙ ap (λ a. a.1) w.anchor_is, subst (λ (m : ℕ). keeps (hand w.desk) m) size (all w.desk w.kept))

-- over a desk that was new, the run is the connection, and the sink was ended behind it
pub piped : (stood : ℕ → Type 0) (g k : Setting) (es es' : List Entry) (a : Sides) (source sink ended : End) (last : LastEnd) (tells : List ℕ → Type 0) (served : Served) (status : Status) → g ≡ k → es ≡ [] → ended ≡ sink → HasEnded last ended.bytes → IsLegal g es' → Conversation g true tells stood es es' (enumerate_from 0 es) (enumerate_from 0 es') a (record { source = source; sink = sink }) served → status ≡ status_of served.why → IsRun k a (record { source = source; sink = ended }) last tells status
piped stood g k es es' a source sink ended last tells served status g_is none same is_ended legal dialogue status_is =
    inl (record {
      entries = es';
      legal = subst (λ (x : Setting). IsLegal x es') g_is legal;
      served = served;
      conversation = stands_as stood (λ commits. Unit {0}) k true tells tells [] es' [] (enumerate_from 0 es') a (record { source = source; sink = ended }) served (λ n stands. tt) (λ ms t. t)
          (subst (λ (o : End). Conversation k true tells stood [] es' [] (enumerate_from 0 es') a (record { source = source; sink = o }) served) (sym same)
          (subst (λ (l : List Entry). Conversation k true tells stood l es' (enumerate_from 0 l) (enumerate_from 0 es') a (record { source = source; sink = sink }) served) none
          (subst (λ (x : Setting). Conversation x true tells stood es es' (enumerate_from 0 es) (enumerate_from 0 es') a (record { source = source; sink = sink }) served) g_is dialogue)));
      status_is = status_is;
      is_ended = is_ended;
    })

-- a run with a weaker statement of its moments
pub run_weaker : (g : Setting) (a b : Sides) (ended : LastEnd) (t u : List ℕ → Type 0) (status : Status) → ((ms : List ℕ) → t ms → u ms) → IsRun g a b ended t status → IsRun g a b ended u status
run_weaker g a b ended t u status f (inl p) = inl (record {
  entries = p.entries;
  legal = p.legal;
  served = p.served;
  conversation = stands_as (λ commits. Unit {0}) (λ commits. Unit {0}) g true t u [] p.entries [] (enumerate_from 0 p.entries) a b p.served (λ n stands. stands) f p.conversation;
  status_is = p.status_is;
  is_ended = p.is_ended;
})
run_weaker g a b ended t u status f (inr n) = inr (record { status_is = n.status_is; source = n.source; sink = n.sink; ticks = f [] n.ticks })

-- over a desk that was filled with what was kept, the run is the connection, and the sink was ended behind it
pub piped_kept : {H L : Type 0} (stood : ℕ → Type 0) (opened : L → Type 0) (log : H → L) (keeps : H → ℕ → Type 0) (hand : H) (kept : List (ℕ × Change) → Type 0) (g k : Setting) (none es es' : List Entry) (a : Sides) (source sink ended : End) (last : LastEnd) (tells : List ℕ → Type 0) (served : Served) (status : Status) → opened (log hand) → ((n : ℕ) → stood n → KeptBy log keeps hand n) → g ≡ k → none ≡ [] → Fills g none es (enumerate_from 0 none) (enumerate_from 0 es)
    → (changes : List (ℕ × Change)) × kept changes × Writes (enumerate_from 0 none) (enumerate_from 0 es) changes → ended ≡ sink → HasEnded last ended.bytes → IsLegal g es' → Conversation g true tells stood es es' (enumerate_from 0 es) (enumerate_from 0 es') a (record { source = source; sink = sink }) served → status ≡ status_of served.why → IsRunKept opened log keeps kept k a (record { source = source; sink = ended }) last tells status
piped_kept stood opened log keeps hand kept g k none es es' a source sink ended last tells served status hand_is stands g_is none_is fills found same is_ended legal dialogue status_is =
    let own : fills.entries ≡ enumerate_from 0 es = sym (fills.mine ∙ ap (λ (l : List Entry). enumerate_from 0 l ++ fills.entries) none_is) in
    let wrote : flat_map written_by es ≡ found.0 = sym (numbered_writes 0 es) ∙ found.2 ∙ ap (λ (l : List Entry). writes_in (enumerate_from 0 l) ++ found.0) none_is in
    inl (record {
      filled = es;
      filling = all_filling es fills.entries own fills.filling;
      restored = subst kept (sym wrote) found.1;
      entries = es';
      legal = subst (λ (x : Setting). IsLegal x es') g_is legal;
      served = served;
      hand = hand;
      hand_is = hand_is;
      conversation = stands_as stood (KeptBy log keeps hand) k true tells tells es es' (enumerate_from 0 es) (enumerate_from 0 es') a (record { source = source; sink = ended }) served stands (λ ms t. t)
          (subst (λ (o : End). Conversation k true tells stood es es' (enumerate_from 0 es) (enumerate_from 0 es') a (record { source = source; sink = o }) served) (sym same)
          (subst (λ (x : Setting). Conversation x true tells stood es es' (enumerate_from 0 es) (enumerate_from 0 es') a (record { source = source; sink = sink }) served) g_is dialogue));
      status_is = status_is;
      is_ended = is_ended;
    })

-- where the store is not filled, nothing was begun: out of memory, or the file's store does not fit
pub not_begun : (fails : Bool) (g : Setting) (a : Sides) (sink : End) (ended : LastEnd) (tells : List ℕ → Type 0) (status : Status) → fails ≡ false → ((status ≡ StoreFault) × (fails ≡ true)) ⊎ (status ≡ Memory) → sink ≡ a.sink → tells [] → IsRun g a (record { source = a.source; sink = sink }) ended tells status
not_begun fails g a sink ended tells status never (inl unfilled) same ticks = absurd (let both : true ≡ false = sym unfilled.1 ∙ never in cc (both))
not_begun fails g a sink ended tells status never (inr memory) same ticks = inr (record { status_is = memory; source = refl; sink = same; ticks = ticks })

pub not_begun_kept : {H L : Type 0} (opened : L → Type 0) (log : H → L) (keeps : H → ℕ → Type 0) (kept : List (ℕ × Change) → Type 0) (fails : Bool) (g : Setting) (a : Sides) (sink : End) (ended : LastEnd) (tells : List ℕ → Type 0) (status : Status) → ((status ≡ StoreFault) × (fails ≡ true)) ⊎ (status ≡ Memory) → sink ≡ a.sink → HasEnded ended sink.bytes → tells [] → IsRunKept opened log keeps kept g a (record { source = a.source; sink = sink }) ended tells status
not_begun_kept opened log keeps kept fails g a sink ended tells status (inl unfilled) same is_ended ticks = inr (inl (record { status_is = unfilled.0; source = refl; sink = same; is_ended = is_ended; ticks = ticks }))
not_begun_kept opened log keeps kept fails g a sink ended tells status (inr memory) same is_ended ticks = inr (inr (record { status_is = memory; source = refl; sink = same; ticks = ticks }))

-- such a run with a weaker statement of its moments
pub kept_weaker : {H L : Type 0} (opened : L → Type 0) (log : H → L) (keeps : H → ℕ → Type 0) (kept : List (ℕ × Change) → Type 0) (g : Setting) (a b : Sides) (ended : LastEnd) (t u : List ℕ → Type 0) (status : Status) → ((ms : List ℕ) → t ms → u ms) → IsRunKept opened log keeps kept g a b ended t status → IsRunKept opened log keeps kept g a b ended u status
kept_weaker opened log keeps kept g a b ended t u status f (inl p) = inl (record {
  filled = p.filled;
  filling = p.filling;
  restored = p.restored;
  entries = p.entries;
  legal = p.legal;
  served = p.served;
  hand = p.hand;
  hand_is = p.hand_is;
  conversation = stands_as (KeptBy log keeps p.hand) (KeptBy log keeps p.hand) g true t u p.filled p.entries (enumerate_from 0 p.filled) (enumerate_from 0 p.entries) a b p.served (λ n stands. stands) f p.conversation;
  status_is = p.status_is;
  is_ended = p.is_ended;
})
kept_weaker opened log keeps kept g a b ended t u status f (inr (inl n)) = inr (inl (record { status_is = n.status_is; source = n.source; sink = n.sink; is_ended = n.is_ended; ticks = f [] n.ticks }))
kept_weaker opened log keeps kept g a b ended t u status f (inr (inr n)) = inr (inr (record { status_is = n.status_is; source = n.source; sink = n.sink; ticks = f [] n.ticks }))

-- and in an equal configuration
pub kept_as : {H L : Type 0} (opened : L → Type 0) (log : H → L) (keeps : H → ℕ → Type 0) (kept : List (ℕ × Change) → Type 0) (g h : Setting) (a b : Sides) (ended : LastEnd) (tells : List ℕ → Type 0) (status : Status) → g ≡ h → IsRunKept opened log keeps kept g a b ended tells status → IsRunKept opened log keeps kept h a b ended tells status
kept_as opened log keeps kept g h a b ended tells status same run = subst (λ (s : Setting). IsRunKept opened log keeps kept s a b ended tells status) same run

-- each moment of a fixed clock is its own
all_at : (at : ℕ) (old new : FixedClock) (moments : List ℕ) → old.at ≡ min at GREATEST_SECONDS → Ticks (λ c m d. (m ≡ c.at) × (d ≡ c)) old moments new → AreAt at moments
all_at at old new [] stands ticks = tt
all_at at old new (moment ∷ moments) stands ticks =
    (ticks.1.0 ∙ stands, all_at at ticks.0 new moments (ap (λ (c : FixedClock). c.at) ticks.1.1 ∙ stands) ticks.2)

-- so the moments of a run are at that moment, and the given clock was not asked
pub timed : {C : Type 0} (g : Setting) (tells : C → ℕ → C → Type 0) (clock : C) (at : ℕ) (asked : Option ℕ) (old new : FixedClock) (a b : Sides) (ended : LastEnd) (status : Status) → asked ≡ Some at → old.at ≡ min at GREATEST_SECONDS → IsRun g a b ended (λ ms. Ticks (λ c m d. (m ≡ c.at) × (d ≡ c)) old ms new) status → IsRun g a b ended (AreTimed tells clock clock asked) status
timed g tells clock at asked old new a b ended status asked_is stands run =
    subst (λ (o : Option ℕ). IsRun g a b ended (AreTimed tells clock clock o) status) (sym asked_is)
    (run_weaker g a b ended (λ ms. Ticks (λ c m d. (m ≡ c.at) × (d ≡ c)) old ms new) (AreTimed tells clock clock (Some at)) status (λ ms t. (all_at at old new ms stands t, refl)) run)

pub timed_kept : {C H L : Type 0} (opened : L → Type 0) (log : H → L) (keeps : H → ℕ → Type 0) (kept : List (ℕ × Change) → Type 0) (g : Setting) (tells : C → ℕ → C → Type 0) (clock : C) (at : ℕ) (asked : Option ℕ) (old new : FixedClock) (a b : Sides) (ended : LastEnd) (status : Status) → asked ≡ Some at → old.at ≡ min at GREATEST_SECONDS → IsRunKept opened log keeps kept g a b ended (λ ms. Ticks (λ c m d. (m ≡ c.at) × (d ≡ c)) old ms new) status → IsRunKept opened log keeps kept g a b ended (AreTimed tells clock clock asked) status
timed_kept opened log keeps kept g tells clock at asked old new a b ended status asked_is stands run =
    subst (λ (o : Option ℕ). IsRunKept opened log keeps kept g a b ended (AreTimed tells clock clock o) status) (sym asked_is)
    (kept_weaker opened log keeps kept g a b ended (λ ms. Ticks (λ c m d. (m ≡ c.at) × (d ≡ c)) old ms new) (AreTimed tells clock clock (Some at)) status (λ ms t. (all_at at old new ms stands t, refl)) run)

-- without one they are those of the given clock
pub untimed : {C : Type 0} (g : Setting) (tells : C → ℕ → C → Type 0) (old new : C) (at : Option ℕ) (a b : Sides) (ended : LastEnd) (status : Status) → at ≡ None → IsRun g a b ended (λ ms. Ticks tells old ms new) status → IsRun g a b ended (AreTimed tells old new at) status
untimed g tells old new at a b ended status none run = subst (λ (o : Option ℕ). IsRun g a b ended (AreTimed tells old new o) status) (sym none) run

pub untimed_kept : {C H L : Type 0} (opened : L → Type 0) (log : H → L) (keeps : H → ℕ → Type 0) (kept : List (ℕ × Change) → Type 0) (g : Setting) (tells : C → ℕ → C → Type 0) (old new : C) (at : Option ℕ) (a b : Sides) (ended : LastEnd) (status : Status) → at ≡ None → IsRunKept opened log keeps kept g a b ended (λ ms. Ticks tells old ms new) status → IsRunKept opened log keeps kept g a b ended (AreTimed tells old new at) status
untimed_kept opened log keeps kept g tells old new at a b ended status none run = subst (λ (o : Option ℕ). IsRunKept opened log keeps kept g a b ended (AreTimed tells old new o) status) (sym none) run

-- no moment was asked for
pub none_timed : {C : Type 0} (tells : C → ℕ → C → Type 0) (clock : C) (at : Option ℕ) → AreTimed tells clock clock at []
none_timed tells clock None = refl
none_timed tells clock (Some at) = (tt, refl)

-- what `pipe` did is said of what the words ask it for
pub run_of : {C : Type 0} (tells : C → ℕ → C → Type 0) (old new : C) (words : List Text) (a b : PipeAsk) (before after : Sides) (ended : LastEnd) (status : Status) → IsPipe words a → IsPipe words b → IsRun a.setting before after ended (AreTimed tells old new a.at) status → IsRun b.setting before after ended (AreTimed tells old new b.at) status
run_of tells old new words a b before after ended status p q run =
    subst (λ (x : PipeAsk). IsRun x.setting before after ended (AreTimed tells old new x.at) status) (one_pipe words a b p q) run

pub run_over_of : {P Q C H L : Type 0} (opens : P → DataAsk → ℕ → Q → P → Type 0) (opened : Q → L → Type 0) (log : H → L) (keeps : H → ℕ → Type 0) (kept : Q → List (ℕ × Change) → Type 0) (moment : Q → ℕ) (tells : C → ℕ → C → Type 0) (old new : C) (words : List Text) (a b : PipeAsk) (places places' : P) (before after : Sides) (ended : LastEnd) (status : Status) → IsPipe words a → IsPipe words b
    → IsRunOver opens opened log keeps kept moment a places places' before after ended (AreTimed tells old new a.at) status → IsRunOver opens opened log keeps kept moment b places places' before after ended (AreTimed tells old new b.at) status
run_over_of opens opened log keeps kept moment tells old new words a b places places' before after ended status p q run =
    subst (λ (x : PipeAsk). IsRunOver opens opened log keeps kept moment x places places' before after ended (AreTimed tells old new x.at) status) (one_pipe words a b p q) run

-- whether a file is given, by the words
pub data_of : (words : List Text) (p : PipeOptions) (ask : PipeAsk) (wanted : Bool) → IsPipe words (pipe_ask_of p) → IsPipe words ask → is_some ask.store.file ≡ wanted → is_some p.store ≡ wanted
data_of words p ask wanted has is given = is_data p.store ∙ ap (λ (x : PipeAsk). is_some x.store.file) (one_pipe words (pipe_ask_of p) ask has is) ∙ given

-- where a file is given commits are to be kept
pub serve_keeps : (words : List Text) (s : ServeOptions) → IsServe words (ask_of s) → is_some s.store ≡ true → s.config.keeps ≡ true
serve_keeps words s is given = is.found.setting.keeps ∙ ap (λ (o : Option Text). is_some o) (sym is.found.store.0) ∙ sym (is_data s.store) ∙ given

-- what `serve` did is said of what the words ask it for
pub served_of : {P Q D L S K C H G : Type 0} (source_at : S → End) (sink_at : K → End) (ended_at : K → LastEnd) (tick : C → ℕ → C → Type 0) (log : H → G) (keeps : H → ℕ → Type 0) (may : C → Type 0) (doors_at : D → DoorsView S K) (places_at : P → PlacesView D L) (gives : P → List ℕ → Limits → WatchAsk → D → P → Type 0) (tells : P → List ℕ → Type 0) (opens : P → DataAsk → ℕ → Q → P → Type 0) (fails : Q → Bool) (opened : Q → G → Type 0) (kept : Q → List (ℕ × Change) → Type 0) (moment : Q → ℕ)
    (words : List Text) (a b : ServeAsk) (sink sink' : End) (ended : LastEnd) (places places' : P) (status : Status) → IsServe words a → IsServe words b
    → HasServed source_at sink_at ended_at tick log keeps may doors_at places_at gives tells opens fails opened kept moment a sink sink' ended places places' status → HasServed source_at sink_at ended_at tick log keeps may doors_at places_at gives tells opens fails opened kept moment b sink sink' ended places places' status
served_of source_at sink_at ended_at tick log keeps may doors_at places_at gives tells opens fails opened kept moment words a b sink sink' ended places places' status p q served =
    subst (λ (ask : ServeAsk). HasServed source_at sink_at ended_at tick log keeps may doors_at places_at gives tells opens fails opened kept moment ask sink sink' ended places places' status) (one_ask words a b p q) served

-- what `read` did is said of what the words ask it for
pub read_of : {P D L : Type 0} (link_at : L → LinkView) (answers : L → Exchange → L → Type 0) (places_at : P → PlacesView D L) (links : P → List ℕ → L → P → Type 0)
    (words : List Text) (a b : ReadAsk) (sink sink' : End) (ended : LastEnd) (places places' : P) (status : Status) → IsRead words a → IsRead words b
    → HasRead link_at answers places_at links a sink sink' ended places places' status → HasRead link_at answers places_at links b sink sink' ended places places' status
read_of link_at answers places_at links words a b sink sink' ended places places' status p q reads =
    subst (λ (ask : ReadAsk). HasRead link_at answers places_at links ask sink sink' ended places places' status) (one_read words a b p q) reads

-- so is what a simulation wrote
pub simulated_of : (words : List Text) (a b : Simulation) (m n s t : ℕ) (sink sink' : End) (ended : LastEnd) (status : Status) → IsSimulation words a m s → IsSimulation words b n t → GaveText (IsSimulationText a m s) sink sink' ended status → GaveText (IsSimulationText b n t) sink sink' ended status
simulated_of words a b m n s t sink sink' ended status p q text = let one = one_simulation words a b m n s t p q in
    subst (λ w. GaveText (IsSimulationText w n t) sink sink' ended status) one.0 (subst (λ k. GaveText (IsSimulationText a k t) sink sink' ended status) one.1 (subst (λ k. GaveText (IsSimulationText a m k) sink sink' ended status) one.2 text))
