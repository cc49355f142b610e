-- Believed. What a run of `read` does.
use Rattle.std.specs.Prelude.{◌≡◌, ◌⊎◌, ℕ, ◌≤◌, List, [], ◌∷◌, ◌++◌, Some, None, Result, Ok, Err, IfOk, false, codes, decimal}
use Rattle.dialogue.specs.Dialogue.{Sides}
use Rattle.query_normal.specs.Pages.{Page}
use Rattle.query_normal.specs.Keys.{key_text}
use Rattle.query_normal.specs.declared.key.KeyShape.{KeyShape}
use Rattle.flat_snapshot.specs.Sight.{sight_of}
use Rattle.client_core.specs.declared.choice.Why.TheVariants as why
use Rattle.client_core.specs.declared.level.Level.{Level}
use Rattle.client_session.specs.Link.{Calls, Exchange, LinkView, Passed, page}
use Rattle.client_session.specs.Read.{Holds, IsReadBy, IsResult, refused_of}
use Rattle.client_session.specs.declared.read_out.Body.{Body}
use Rattle.client_session.specs.declared.read_out.Body.TheVariants as body
use Rattle.client_session.specs.declared.read_out.ReadOut.{ReadOut}
use Rattle.client_session.specs.declared.read_out.Way.{Way}
use Rattle.client_session.specs.declared.read_out.Way.TheVariants as way
use Rattle.client_session.specs.declared.reading.Position.{Position}
use Rattle.client_session.specs.declared.refusal.SessionRefusal.{SessionRefusal}
use Rattle.client_session.specs.declared.refusal.SessionRefusal.TheVariants as refusal
use Rattle.q_outside.specs.Ends.{End, GaveBytes, GavePart, HasEnded, LastEnd}
use Rattle.quaestor_prog.specs.Places.{IsUnasked, PlacesView}
use Rattle.quaestor_prog.specs.Serving.{IsUnplaced, IsWithoutMemory}
use Rattle.quaestor_prog.specs.Status.{status_of_read}
use Rattle.command_line.specs.Words.{ReadAsk}
use Rattle.quaestor_prog.specs.declared.reading.ReadEnd.{ReadEnd}
use Rattle.quaestor_prog.specs.declared.reading.ReadEnd.TheVariants.{Answered, WriteFault, Refused}
use Rattle.quaestor_prog.specs.declared.status.Status.{Status}

-- ---- the text of an answer

-- how the way of a read is written
abbrev pub way_word : Way → List ℕ
way_word way.Cached = codes "cached"
way_word (way.Direct why.Strong) = codes "strong"
way_word (way.Direct why.Flagged) = codes "flagged"
way_word (way.Direct why.Older) = codes "older"
way_word (way.Direct why.Expired) = codes "expired"
way_word (way.Direct why.BelowFloor) = codes "below_floor"

-- how what a key has is written
abbrev pub shown_body : Body → List ℕ
shown_body (body.Document version text) = text
shown_body (body.List text) = text
shown_body body.Absent = codes "absent"

-- the first line: the commit and the way
abbrev pub line_of_read : ReadOut → List ℕ
line_of_read out = decimal out.commit ++ (codes " " ++ way_word out.way ++ codes "\n")

-- the answer of a read as it is written
abbrev pub text_of_read : ReadOut → List ℕ
text_of_read out = line_of_read out ++ (shown_body out.body ++ codes "\n")

-- the answer was given, or a part of it; or there was none, and nothing was given
abbrev pub GaveAnswer : Result ReadOut SessionRefusal → (before after : End) → ReadEnd → Type 0
GaveAnswer (Ok out) before after Answered = GaveBytes before after (text_of_read out)
GaveAnswer (Ok out) before after WriteFault = GavePart before after (text_of_read out)
GaveAnswer (Ok out) before after (Refused refused) = ⊥
GaveAnswer (Err refused) before after end = (end ≡ Refused refused) × (after ≡ before)

-- ---- one read

-- where a session stands before its first read: it holds this page, and has seen nothing else
abbrev pub first_position : Level → Page → KeyShape → Position
first_position level held key = record { level = level; sight = Some (sight_of held (key_text key)); is_whitelisted = false; floor = 0 }

-- These calls of a link were made, in order, and no others, and this was answered: none for want of memory; one for the page, where there is none; and else one for the page, and then those of a read that holds it.
abbrev pub IsFirstRead : Level → KeyShape → List Exchange → Result ReadOut SessionRefusal → Type 0
IsFirstRead level key [] result = result ≡ Err refusal.Memory
IsFirstRead level key (page (Err refused) ∷ []) result = result ≡ Err (refused_of refused)
IsFirstRead level key (page (Ok held) ∷ xs) result = IsReadBy (first_position level held key) key xs result
IsFirstRead level key xs result = ⊥

-- the front of the page that was fetched first
abbrev pub front_in : List Exchange → ℕ
front_in (page (Ok held) ∷ xs) = held.front
front_in xs = 0

module _ {L : Type 0} (link_at : L → LinkView) (answers : L → Exchange → L → Type 0) where
  -- A session that was new fetched a page and read a key, over a link.
  pub record HasAnswered (level : Level) (key : KeyShape) (link link' : L) (result : Result ReadOut SessionRefusal) : Type 0 where
    pub exchanges : List Exchange
    pub passed : Passed (Calls link_at answers) link exchanges link'
    pub by : IsFirstRead level key exchanges result
    -- the answer is not older than the page
    pub front : IfOk result (λ out. front_in exchanges ≤ out.commit)
    -- over a link that tells its history the answer is the result of the key at its commit
    pub fresh : Holds (link_at link) None → IfOk result (λ out. IsResult (link_at link') key out)

  -- it did, and its answer was written
  abbrev pub EndsRead : Level → KeyShape → (link link' : L) → (sink sink' : End) → ReadEnd → Type 0
  EndsRead level key link link' sink sink' end =
      (result : Result ReadOut SessionRefusal) × HasAnswered level key link link' result × GaveAnswer result sink sink' end

  -- the same, by its status
  abbrev pub IsReadOnce : Level → KeyShape → (link link' : L) → (sink sink' : End) → Status → Type 0
  IsReadOnce level key link link' sink sink' status =
      (end : ReadEnd) × EndsRead level key link link' sink sink' end × (status ≡ status_of_read end)

module _ {P D L : Type 0} (link_at : L → LinkView) (answers : L → Exchange → L → Type 0) (places_at : P → PlacesView D L) (links : P → List ℕ → L → P → Type 0) where
  -- The places gave a link to the address, a key was read over it, and the places have it back. The sink was ended behind all that was given.
  pub record HasReached (ask : ReadAsk) (sink sink' : End) (ended : LastEnd) (places places' : P) (status : Status) : Type 0 where
    pub link : L
    pub link_left : L
    -- the places behind the call
    pub reached : P
    pub given : links places ask.address link reached
    pub unasked : IsUnasked (link_at link)
    pub kept : places_at places' ≡ record (places_at places) { link = Some link_left }
    pub reads : IsReadOnce link_at answers ask.level ask.key link link_left sink sink' status
    pub is_ended : HasEnded ended sink'.bytes

  -- the places failed; or gave a link, and what came of it
  abbrev pub HasRead : ReadAsk → (sink sink' : End) → LastEnd → (places places' : P) → Status → Type 0
  HasRead ask sink sink' ended places places' status =
      IsUnplaced sink sink' ended (places_at places) (places_at places') status ⊎ HasReached ask sink sink' ended places places' status

  -- what a run of `read` does: neither the source nor the clock is asked
  abbrev pub IsReading : {C : Type 0} → ReadAsk → (a b : Sides) → LastEnd → (clock clock' : C) → (places places' : P) → Status → Type 0
  IsReading ask a b ended clock clock' places places' status =
      (b.source ≡ a.source) × (clock' ≡ clock)
      × (IsWithoutMemory a.sink b.sink places places' status ⊎ HasRead ask a.sink b.sink ended places places' status)
