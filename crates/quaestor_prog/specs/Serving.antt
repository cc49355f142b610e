-- Believed. What a run of `serve` does.
use Rattle.std.specs.Prelude.{◌≡◌, ◌⊎◌, ℕ, ◌<◌, Bool, true, List, ◌++◌, Some, codes, decimal, if◌then◌else◌, is_some}
use Rattle.commit_book.specs.declared.change.Change.{Change}
use Rattle.dialogue.specs.Dialogue.{Sides}
use Rattle.hub_model.specs.Lifetime.{kept_for}
use Rattle.hub_model.specs.Setting.{Setting}
use Rattle.q_outside.specs.Doors.{DoorsView}
use Rattle.q_outside.specs.Ends.{End, GaveBytes, GavePart, HasEnded, LastEnd}
use Rattle.q_outside.specs.declared.limits.Limits.{Limits}
use Rattle.command_line.specs.Data.{DataAsk}
use Rattle.command_line.specs.Watching.{WatchAsk}
use Rattle.quaestor_prog.specs.Places.{AreNew, PlacesView}
use Rattle.quaestor_prog.specs.Status.{or_write_fault, status_of_server}
use Rattle.command_line.specs.Words.{ServeAsk}
use Rattle.quaestor_prog.specs.declared.status.Status.{Status}
use Rattle.quaestor_prog.specs.declared.status.Status.TheVariants.{WriteFault, Memory, PlaceFault, StoreFault}
use Rattle.quaestor_serve.specs.declared.serve_end.ServeEnd.{ServeEnd}
use Rattle.quaestor_serve.specs.Served.{IsOfKeeper, KeptBy}
use Rattle.quaestor_serve.specs.Serves.{Serves}

-- the line that is given before the first connection
abbrev pub listening_line : List ℕ → List ℕ
listening_line address = codes "listening on " ++ address ++ codes "\n"

-- the line that is given behind the last one
abbrev pub served_line : ℕ → List ℕ
served_line connections = codes "served " ++ decimal connections ++ codes "\n"

-- the configuration of a store that is kept, where one is: its pages have every bit until the moment that is kept, as caches may keep replies of before until then
abbrev pub guarded : (given : Bool) → Setting → (moment : ℕ) → Setting
guarded given g moment = if given then record g { guard = moment } else g

-- for how long caches may keep a reply of a store in this configuration at most, in seconds
abbrev pub longest_of : Setting → ℕ
longest_of g = kept_for g g.ttl_high

-- the line was given whole and the status is this one, or it was given in part and the fault of the sink counts where the end was none
abbrev pub EndsWith : (before after : End) → List ℕ → (ended status : Status) → Type 0
EndsWith before after line ended status =
    (GaveBytes before after line × (status ≡ ended))
    ⊎ (GavePart before after line × (status ≡ or_write_fault ended))

-- nothing was begun, out of memory
abbrev pub IsWithoutMemory : {P : Type 0} → (sink sink' : End) (places places' : P) → Status → Type 0
IsWithoutMemory sink sink' places places' status = (status ≡ Memory) × (sink' ≡ sink) × (places' ≡ places)

-- the places failed, nothing was given, and the sink was ended
abbrev pub IsUnplaced : {D L : Type 0} → (sink sink' : End) (ended : LastEnd) (places places' : PlacesView D L) → Status → Type 0
IsUnplaced sink sink' ended places places' status =
    (status ≡ PlaceFault) × (sink' ≡ sink) × HasEnded ended sink'.bytes
    × (places'.kept ≡ places.kept) × (places'.link ≡ places.link) × (places.faults < places'.faults)

-- the file of the store is refused: nothing was given, and the sink was ended
abbrev pub IsUnkeptServer : {D L : Type 0} → (sink sink' : End) (ended : LastEnd) (places places' : PlacesView D L) → Status → Type 0
IsUnkeptServer sink sink' ended places places' status =
    (status ≡ StoreFault) × (sink' ≡ sink) × HasEnded ended sink'.bytes
    × (places'.kept ≡ places.kept) × (places'.link ≡ places.link) × (places.faults < places'.faults)

-- the first line was given in part, and the doors are as they were
abbrev pub IsUnannounced : {D : Type 0} → (address : List ℕ) → (sink sink' : End) → (doors doors' : D) → Status → Type 0
IsUnannounced address sink sink' doors doors' status = (status ≡ WriteFault) × GavePart sink sink' (listening_line address) × (doors' ≡ doors)

module _ {D S K C H : Type 0} (source_at : S → End) (sink_at : K → End) (ended_at : K → LastEnd) (tick : C → ℕ → C → Type 0) (stands : H → ℕ → Type 0) (may : C → Type 0) (tie : H → Type 0) (doors_at : D → DoorsView S K) (kept : List (ℕ × Change) → Type 0) (moment : ℕ) where
  -- The store was filled with what was kept, the connections were served that came through the doors, and then the last line was given, or a part of it.
  pub record IsServed (ask : ServeAsk) (sink sink' : End) (doors doors' : D) (status : Status) : Type 0 where
    pub end : ServeEnd
    pub serves : Serves source_at sink_at ended_at tick stands may tie kept (guarded (is_some ask.store.file) ask.setting moment) ask.trim (doors_at doors) (doors_at doors') ask.connections end
    pub last_line : EndsWith sink sink' (served_line end.connections) (status_of_server end.why) status

  -- the first line, with the address as it is told, was given in part; or whole, and what came then
  abbrev pub IsThrough : ServeAsk → (address : List ℕ) → (sink sink' : End) → (doors doors' : D) → Status → Type 0
  IsThrough ask address sink sink' doors doors' status =
      IsUnannounced address sink sink' doors doors' status
      ⊎ ((announced : End) × GaveBytes sink announced (listening_line address) × IsServed ask announced sink' doors doors' status)

module _ {P Q D L S K C H G : Type 0} (source_at : S → End) (sink_at : K → End) (ended_at : K → LastEnd) (tick : C → ℕ → C → Type 0) (log : H → G) (keeps : H → ℕ → Type 0) (may : C → Type 0) (doors_at : D → DoorsView S K) (places_at : P → PlacesView D L) (gives : P → List ℕ → Limits → WatchAsk → D → P → Type 0) (tells : P → List ℕ → Type 0) (opens : P → DataAsk → ℕ → Q → P → Type 0) (fails : Q → Bool) (opened_by : Q → G → Type 0) (kept_by : Q → List (ℕ × Change) → Type 0) (moment : Q → ℕ) where
  -- The places gave doors at the address, and have them back as they are now. The keeper has what the store was filled with. The sink was ended behind all that was given.
  pub record HasListened (ask : ServeAsk) (keeper : Q) (sink sink' : End) (ended : LastEnd) (places places' : P) (status : Status) : Type 0 where
    pub doors : D
    pub doors_left : D
    -- the places behind the call
    pub listening : P
    pub given : gives places ask.address ask.limits ask.watching doors listening
    -- the address as the places tell it
    pub address : List ℕ
    pub told : tells listening address
    pub are_new : AreNew (doors_at doors)
    pub kept : places_at places' ≡ record (places_at places) { kept = Some doors_left }
    pub through : IsThrough source_at sink_at ended_at tick (KeptBy log keeps) may (IsOfKeeper opened_by log keeper) doors_at (kept_by keeper) (moment keeper) ask address sink sink' doors doors_left status
    pub is_ended : HasEnded ended sink'.bytes

  -- the places failed; or doors were listened at, and what came of it
  abbrev pub HasTried : ServeAsk → (keeper : Q) → (sink sink' : End) → LastEnd → (places places' : P) → Status → Type 0
  HasTried ask keeper sink sink' ended places places' status = IsUnplaced sink sink' ended (places_at places) (places_at places') status ⊎ HasListened ask keeper sink sink' ended places places' status

  -- the file of the store is refused; or the places opened it and gave its keeper, who keeps commits only where a file is given, and what came of it
  abbrev pub HasServed : ServeAsk → (sink sink' : End) → LastEnd → (places places' : P) → Status → Type 0
  HasServed ask sink sink' ended places places' status =
      IsUnkeptServer sink sink' ended (places_at places) (places_at places') status
      ⊎ ((keeper : Q) × (ready : P) × opens places ask.store (longest_of ask.setting) keeper ready × (places_at ready ≡ places_at places) × (fails keeper ≡ true → is_some ask.store.file ≡ true) × HasTried ask keeper sink sink' ended ready places' status)

  -- what a run of `serve` does: neither the source nor the clock is asked
  abbrev pub IsServing : ServeAsk → (a b : Sides) → LastEnd → (clock clock' : C) → (places places' : P) → Status → Type 0
  IsServing ask a b ended clock clock' places places' status =
      (b.source ≡ a.source) × (clock' ≡ clock)
      × (IsWithoutMemory a.sink b.sink places places' status ⊎ HasServed ask a.sink b.sink ended places places' status)
