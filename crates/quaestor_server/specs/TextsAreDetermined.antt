-- Internal. The bytes, the moments and the positions of 503 determine what is written and which entries are made.
use Rattle.std.specs.Prelude.{◌≡◌, ℕ, ◌+◌, ◌++◌, Bool, false, List, length, map}
use Rattle.std.specs.List.{enumerate_from}
use Rattle.dialogue.specs.Dialogue.{Sides, Exchange, Dialogue, pieces}
use Rattle.hub_model.specs.declared.entry.Entry.{Entry}
use Rattle.hub_model.specs.Setting.{Setting}
use Rattle.q_outside.specs.declared.served.Served.{Served}
use Rattle.quaestor_server.specs.Conversation.{ConnectionState, Replies}

-- between the two states of a connection the history received no entry but the connection's own
abbrev pub IsAlone : ConnectionState → ConnectionState → Type 0
IsAlone first last = length last.seen + length first.mine ≡ length first.seen + length last.mine

-- a desk all of whose history is its own is alone
abbrev pub OwnedIsAlone : Type 0
OwnedIsAlone =
    (seen more : List Entry) (moments later : List ℕ) (entered again : List Bool)
    → IsAlone (record { seen = seen; mine = enumerate_from 0 seen; moments = moments; entered = entered }) (record { seen = more; mine = enumerate_from 0 more; moments = later; entered = again })

-- the server was ending behind the same of them; of sources that show their bytes it is behind none
abbrev pub StopAlike : List Exchange → List Exchange → Type 0
StopAlike xs ys = map (λ x. x.stops) xs ≡ map (λ y. y.stops) ys

-- two connections over one history, of which nothing is to be kept on a disk, at which no others made entries, took the same bytes at the same moments and
-- were answered 503 at the same items, and were stopped alike: they had the same exchanges and made the same entries
abbrev pub TextsAreDetermined : Type 0
TextsAreDetermined =
    (g : Setting) (unready : Bool) (first last other : ConnectionState) (a b c d : Sides) (served again : Served)
    (p : Dialogue (Replies g unready) first last a b served) (q : Dialogue (Replies g unready) first other c d again)
    → g.keeps ≡ false → IsAlone first last → IsAlone first other
    → pieces p.passed.exchanges ++ p.passed.rest ≡ pieces q.passed.exchanges ++ q.passed.rest
    → last.moments ≡ other.moments → last.entered ≡ other.entered
    → StopAlike p.passed.exchanges q.passed.exchanges
    → (p.passed.exchanges ≡ q.passed.exchanges) × (last.seen ≡ other.seen) × (last.mine ≡ other.mine)
