-- What the calls of a hub add to a history, as the value of a turnstile, and what a desk at a seat makes of it.
use Rattle.std.proofs.Common.{◌≡◌, ℕ, ◌+◌, ◌<◌, ◌≤◌, ◌⊎◌, true, inr, List, [], ◌++◌, length, sym, ap, ◌∙◌, append-nil, length-append, arith, subst, Result, Ok, Err, OnErr}
use Rattle.commit_book.specs.declared.change.Change.{Change}
use Rattle.hub_core.specs.HubState.{HubView, IsAt}
use Rattle.hub_model.specs.declared.entry.Condition.{Condition}
use Rattle.hub_model.specs.declared.entry.Entry.{Entry}
use Rattle.hub_model.specs.declared.entry.Entry.TheVariants.{Match, Tick}
use Rattle.hub_model.specs.Helps.{helps_of}
use Rattle.hub_model.specs.Desk.{IsPrefix}
use Rattle.hub_model.specs.Later.{IsLater}
use Rattle.hub_model.specs.Legal.{Admits, IsLegal}
use Rattle.hub_model.specs.Reply.{Replied, reply_in}
use Rattle.hub_model.specs.Setting.{Setting}
use Rattle.hub_model.specs.State.{State}
use Rattle.hub_model.specs.Step.{after_all, is_accepted, state_of}
use Rattle.hub_desk.specs.Calls.{EntriesAreRepresented, RepliesAreBehind}
use Rattle.hub_desk.specs.Desk.{matching}
use Rattle.hub_desk.proofs.HistoryLemmas.{match_is, represents-still, tick_is}
use Rattle.hub_desk.specs.HubValue.{HubValueView, hub_setting, StandsFor, entries_for, HasAdded}

-- a hub and a number of entries
abbrev valued : HubView → ℕ → HubValueView
valued hub count = record { hub = hub; count = count }

-- a value that stands for a history has as many commits as that
pub counted : (value : HubValueView) (history : List Entry) (g : Setting) → StandsFor value history → hub_setting value ≡ g → value.hub.commits ≡ length (state_of g history).journal
counted value history g stands same = stands.represents.state.book.commits ∙ ap (λ (x : Setting). length (state_of x history).journal) same

-- so has what a seat has seen once the turn was given back
pub counted_again : (g later : Setting) (history seen : List Entry) (commits : ℕ) → commits ≡ length (state_of g history).journal → g ≡ later → seen ≡ history → commits ≡ length (state_of later seen).journal
counted_again g later history seen commits is same seen_is =
    is ∙ ap (λ (x : Setting). length (state_of x history).journal) same ∙ ap (λ (l : List Entry). length (state_of later l).journal) (sym seen_is)

-- a write that a value would accept is accepted in what the seat has seen
pub accepted_again : (value later : Setting) (history seen : List Entry) (change : Change) (condition : Condition) → value ≡ later → seen ≡ history → is_accepted value (state_of value history) change condition ≡ true
    → (later.keeps ≡ true) ⊎ (is_accepted later (state_of later seen) change condition ≡ true)
accepted_again value later history seen change condition same seen_is accepted =
    let here : is_accepted later (state_of later history) change condition ≡ true = subst (λ (x : Setting). is_accepted x (state_of x history) change condition ≡ true) same accepted in
    inr (subst (λ (l : List Entry). is_accepted later (state_of later l) change condition ≡ true) (sym seen_is) here)

-- of a value with this hub, which stands for a history
module _ (h : HubView) (inside old : HubValueView) (hub_is : h ≡ inside.hub) (view_is : inside ≡ old) (history : List Entry) (stands : StandsFor old history) where
  abbrev g : Setting
  g = h.setting

  abbrev s : State
  s = state_of g history

  same : valued h inside.count ≡ old
  same = ap (λ (x : HubView). valued x inside.count) hub_is ∙ view_is

  -- the hub stands for the history itself
  pub stood : StandsFor (valued h inside.count) history
  stood = subst (λ (v : HubValueView). StandsFor v history) (sym same) stands

  -- After a call that had no memory the value stands for it still.
  pub stays : (new : HubView) → new.setting ≡ h.setting → ((t : State) → IsAt h t → IsAt new t) → StandsFor (valued new inside.count) history
  stays new setting still = record { represents = represents-still h history stood.represents new setting still; counted = stood.counted }

  -- After a call for an entry the hub is in the state behind the entries of the call, the count is that many more, and what was told is the reply in the state behind those ahead.
  pub added : (new : HubValueView) (e : Entry) (told : Replied)
      → EntriesAreRepresented → RepliesAreBehind → Admits s e → new.hub.setting ≡ g → IsAt new.hub (after_all g s (entries_for g history e))
      → new.count ≡ inside.count + length (entries_for g history e) → told ≡ reply_in g (after_all g s (helps_of g s e)) e → HasAdded (hub_setting old) history new e told
  added new e told represents replies admits setting after count told_is =
      let es : List Entry = entries_for g history e in
      let counted : new.count ≡ length history + length es = count ∙ ap (λ (n : ℕ). n + length es) stood.counted in
      let here : HasAdded g history new e told =
      record {
        stands = record { represents = represents h new.hub history e stood.represents admits setting after; counted = counted ∙ sym (length-append history es) };
        told_is = told_is ∙ sym (replies g history e);
      } in
      subst (λ (v : HubValueView). HasAdded (hub_setting v) history new e told) same here

-- no commit that was known before is above the last one, since a later state has all commits of an earlier one
pub fresh : (g : Setting) (known history : List Entry) (value : HubValueView) (at : ℕ) → ((x : Setting) (l longer : List Entry) → IsPrefix l longer → IsLegal x longer → IsLater (state_of x l) (state_of x longer)) → IsPrefix known history → StandsFor value history → hub_setting value ≡ g
    → at ≡ length (state_of (hub_setting value) history).journal → length (state_of g known).journal ≤ at
fresh g known history value at law grew stands setting last =
    let legal : IsLegal g history = subst (λ (x : Setting). IsLegal x history) setting stands.represents.legal in
    let later : IsLater (state_of g known) (state_of g history) = law g known history grew legal in
    let more : length (state_of g history).journal ≡ length (state_of g known).journal + length later.commits = ap length later.journal ∙ length-append (state_of g known).journal later.commits in
    let there : at ≡ length (state_of g history).journal = subst (λ (x : Setting). at ≡ length (state_of x history).journal) setting last in omega (arith, more, there)

-- of a value that stands for a history, and its front and number of commits
module _ (g : Setting) (value : HubValueView) (history : List Entry) (stands : StandsFor value history) (setting : hub_setting value ≡ g) (moment front to : ℕ) (front_is : front ≡ value.hub.front) (to_is : to ≡ value.hub.commits) where
  -- no entry comes ahead of one that matches all commits
  alone : state_of (hub_setting value) history ≡ state_of g (history ++ [])
  alone = ap (λ (x : Setting). state_of x history) setting ∙ ap (λ (l : List Entry). state_of g l) (sym (append-nil history))

  -- all commits are matched by a match where the front is behind
  pub matches : front < to → Match moment to ≡ matching (state_of g (history ++ [])) moment
  matches behind = match_is value.hub history stands.represents moment front to front_is to_is behind ∙ ap (λ (t : State). matching t moment) alone

  -- and by a tick where it is the last commit
  pub ticks : to ≤ front → Tick moment ≡ matching (state_of g (history ++ [])) moment
  ticks ahead = tick_is value.hub history stands.represents moment front to front_is to_is ahead ∙ ap (λ (t : State). matching t moment) alone

-- what holds anyway holds where a call failed
pub on_err_all : {T E : Type 0} (r : Result T E) (P : Type 0) → P → OnErr r P
on_err_all (Ok x) P p = tt
on_err_all (Err e) P p = p
