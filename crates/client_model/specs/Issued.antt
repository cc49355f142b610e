-- Internal. Which replies and pages a history issued.
use Rattle.std.specs.Prelude.{◌≡◌, ◌≤◌, ℕ, List, [], ◌∷◌, ◌++◌, Contains, Option, Some, None, IfSome, codes}
use Rattle.q_doc.specs.Printed.{printed}
use Rattle.query_normal.specs.Pages.{Page}
use Rattle.query_normal.specs.declared.key.KeyShape.{KeyShape}
use Rattle.result_kinds.specs.Results.{text_of_result}
use Rattle.hub_model.specs.declared.entry.Entry.{Entry}
use Rattle.hub_model.specs.declared.entry.Entry.TheVariants.{Fetch}
use Rattle.hub_model.specs.Desk.{IsPrefix}
use Rattle.hub_model.specs.Journal.{Finding, absent, present, queried, result_at}
use Rattle.hub_model.specs.Record.{page_of}
use Rattle.hub_model.specs.Setting.{Setting}
use Rattle.hub_model.specs.State.{IssuedCopy, State, until_of}
use Rattle.hub_model.specs.Step.{state_of}
use Rattle.client_model.specs.declared.reply.Reply.{Reply}

-- the text of what a key finds; where there is no document, it says so
abbrev pub text_of : Finding → List ℕ
text_of absent = codes "{\"error\":\"absent\"}"
text_of (present version tree) = printed tree
text_of (queried result) = text_of_result result

-- the status of what a key finds
abbrev pub status_of : Finding → ℕ
status_of absent = 404
status_of (present version tree) = 200
status_of (queried result) = 200

-- the version of a record's document
abbrev pub version_of : Finding → Option ℕ
version_of absent = None
version_of (present version tree) = Some version
version_of (queried result) = None

-- A reply has what a key finds: its text, its status and its version.
pub record Has (finding : Finding) (reply : Reply) : Type 0 where
  pub body_is : reply.body ≡ text_of finding
  pub status_is : reply.status ≡ status_of finding
  pub version_is : reply.version ≡ version_of finding

-- A read of the key issued the reply: its commit and until are those of a copy, and it has the result there. Where it has a tag, that commit is not above its own and has the same result; so a stored reply that was found unchanged later is issued too.
pub record IsIssuedIn (s : State) (key : KeyShape) (reply : Reply) : Type 0 where
  pub copy : IssuedCopy
  pub among : Contains s.copies copy
  pub key_is : copy.key ≡ key
  pub at_is : copy.at ≡ reply.commit
  pub until_is : until_of copy ≡ reply.until
  pub has : Has (result_at key s.journal reply.commit) reply
  pub tagged : IfSome reply.tag (λ t. (t ≤ reply.commit) × (result_at key s.journal t ≡ result_at key s.journal reply.commit))

-- the history issued the reply for the key
abbrev pub IsIssued : Setting → List Entry → KeyShape → Reply → Type 0
IsIssued g history key reply = IsIssuedIn (state_of g history) key reply

-- A fetch in the history gave the page.
pub record IsFetched (g : Setting) (history : List Entry) (page : Page) : Type 0 where
  pub before : List Entry
  pub moment : ℕ
  pub begins : IsPrefix (before ++ Fetch moment ∷ []) history
  pub is : page ≡ page_of g (state_of g (before ++ Fetch moment ∷ []))
