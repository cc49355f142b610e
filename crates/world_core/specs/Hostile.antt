-- Internal. What contracts see of a hostile link, and what its calls do.
use Rattle.std.specs.Prelude.{◌≡◌, ℕ, zero, suc, Bool, List, [], ◌∷◌, map, filter, drop, slice_get, Option, Some, None, Result, Ok, Err, IfOk}
use Rattle.query_normal.specs.Keys.{same_key}
use Rattle.query_normal.specs.Pages.{Page}
use Rattle.query_normal.specs.declared.key.KeyShape.{KeyShape}
use Rattle.hub_model.specs.Setting.{Setting}
use Rattle.client_model.specs.declared.reply.Reply.{Reply}
use Rattle.cache_model.specs.declared.manner.Manner.{Manner}
use Rattle.cache_model.specs.Cache.{empty_cache}
use Rattle.client_session.specs.declared.ask.ClientAsk.{ClientAsk}
use Rattle.client_session.specs.declared.ask.ClientAsk.TheVariants as ask
use Rattle.client_session.specs.declared.ask.LinkRefusal.{LinkRefusal}
use Rattle.client_session.specs.declared.last.LastReplies.{LastReplies}
use Rattle.client_session.specs.Link.{LinkView, Exchange, through, direct, page}
use Rattle.world_core.specs.declared.hostile.Move.{Move}
use Rattle.world_core.specs.declared.hostile.Move.TheVariants as move
use Rattle.world_core.specs.Link.{WorldLinkView, AreHeld, IsAnswer, IsPageAnswer, IsRead, capacity, link_over, seen_as}
use Rattle.world_core.specs.Store.{state_in}

-- What contracts see of a hostile link.
pub record HostileView : Type 0 where
  -- its store and its caches
  pub link : WorldLinkView
  -- the replies to reads that it gave, the latest first
  pub given : List (KeyShape × Reply)
  -- the moves that are left
  pub moves : List Move

-- all that it gave is what its history has issued
abbrev pub GivesIssued : HostileView → Type 0
GivesIssued v = AreHeld (state_in v.link.store) v.given

-- it is seen as its store and its caches are
abbrev pub hostile_as : HostileView → LinkView
hostile_as v = seen_as v.link

-- ---- earlier replies

-- the replies that were given for a key, the latest first
abbrev pub given_for : KeyShape → List (KeyShape × Reply) → List Reply
given_for key given = map (λ (p : KeyShape × Reply). p.1) (filter (λ (p : KeyShape × Reply). same_key key p.0) given)

-- the one so many back, counting from the latest as 1
abbrev pub earlier : ℕ → KeyShape → List (KeyShape × Reply) → Option Reply
earlier zero key given = None
earlier (suc n) key given = slice_get (given_for key given) n

-- how many replies back the next call goes; 0 where it asks
abbrev pub back_by : List Move → ℕ
back_by (move.Again back ∷ moves) = back
back_by moves = 0

-- the reply that the next call gives again, if it does; only a read is answered so
abbrev pub repeated : HostileView → ClientAsk → Option Reply
repeated v (ask.Read key no_cache) = earlier (back_by v.moves) key v.given
repeated v asked = None

-- the replies with one more, where there is one
abbrev pub given_with : {E : Type 0} → List (KeyShape × Reply) → KeyShape → Result Reply E → List (KeyShape × Reply)
given_with given key (Ok reply) = (key, reply) ∷ given
given_with given key (Err e) = given

-- the same after an ask; only a reply to a read is noted
abbrev pub given_after : List (KeyShape × Reply) → ClientAsk → Result Reply LinkRefusal → List (KeyShape × Reply)
given_after given (ask.Read key no_cache) told = given_with given key told
given_after given asked told = given

-- ---- the link

-- a read: a reply that is given again leaves the caches and the store, and else they are asked
abbrev pub IsReadOf : {E : Type 0} → Option Reply → WorldLinkView → WorldLinkView → KeyShape → Bool → Result Reply E → Type 0
IsReadOf (Some held) v w key no_cache result = (w ≡ v) × IfOk result (λ reply. reply ≡ held)
IsReadOf None v w key no_cache result = IfOk result (λ reply. IsRead v w key no_cache reply)

-- the same of any ask
abbrev pub IsAnswerBy : Option Reply → WorldLinkView → WorldLinkView → ClientAsk → Result Reply LinkRefusal → Type 0
IsAnswerBy (Some held) v w asked told = (w ≡ v) × IfOk told (λ reply. reply ≡ held)
IsAnswerBy None v w asked told = IsAnswer v w asked told

-- What an ask leaves, besides the last replies: the next move is used up, whatever it said.
pub record IsHostileCall (v w : HostileView) (asked : ClientAsk) (told : Result Reply LinkRefusal) : Type 0 where
  pub answer : IsAnswerBy (repeated v asked) v.link w.link asked told
  pub given : w.given ≡ given_after v.given asked told
  pub moves : w.moves ≡ drop 1 v.moves

-- What a page leaves: no move is used up.
pub record IsHostilePage (v w : HostileView) (told : Result Page LinkRefusal) : Type 0 where
  pub answer : IsPageAnswer v.link w.link told
  pub given : w.given ≡ v.given
  pub moves : w.moves ≡ v.moves

-- with other last replies
abbrev pub with_last : LastReplies → HostileView → HostileView
with_last last v = record v { link = record v.link { last = last } }

-- what a call leaves, whatever is then kept of the last replies
abbrev pub HostileAnswers : HostileView → Exchange → HostileView → Type 0
HostileAnswers v (through asked told) w = IsHostileCall v (with_last v.link.last w) asked told
HostileAnswers v (direct asked told) w = IsHostileCall v (with_last v.link.last w) asked told
HostileAnswers v (page told) w = IsHostilePage v (with_last v.link.last w) told

-- ---- the beginning

-- a new store at moment 0 with empty caches of this manner, of which nothing was asked
abbrev pub hostile_start : Setting → Manner → List Move → HostileView
hostile_start g manner moves = record {
  link = link_over (record { setting = g; entries = []; moment = 0 }) (empty_cache capacity manner) (empty_cache capacity manner);
  given = [];
  moves = moves;
}
