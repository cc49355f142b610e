-- Internal. The store's answers as the replies that caches and clients see.
use Rattle.std.specs.Prelude.{ℕ, zero, suc, ◌+◌, max, Bool, true, List, [], Option, Some, None, codes}
use Rattle.client_model.specs.declared.reply.Reply.{Reply}
use Rattle.hub_model.specs.declared.entry.Answer.{Answer}
use Rattle.hub_model.specs.declared.entry.Found.{Found}
use Rattle.hub_model.specs.declared.entry.Found.TheVariants.{Missing}
use Rattle.hub_model.specs.declared.entry.Outcome.{Outcome}
use Rattle.hub_model.specs.declared.entry.Outcome.TheVariants.{Whole, Same, Absent}
use Rattle.hub_model.specs.declared.entry.Written.{Written}
use Rattle.hub_model.specs.declared.entry.Written.TheVariants.{Done, Precondition, Full}

-- for how long a reply is fresh: a lifetime of 0 is none
abbrev pub max_age_of : ℕ → Option ℕ
max_age_of zero = None
max_age_of (suc ttl) = Some (suc ttl)

-- the reply to a read with this status, version, tag and text
abbrev pub reply_with : Answer → ℕ → Option ℕ → Option ℕ → List ℕ → Reply
reply_with a status version tag body = record {
  status = status;
  commit = a.commit;
  version = version;
  until = a.clock + max a.ttl a.shared;
  date = a.clock;
  max_age = max_age_of a.ttl;
  tag = tag;
  body = body;
}

-- a result has the tag of its commit, one that is known the tag by which it is, and none has none
abbrev pub reply_by : Answer → Outcome → Reply
reply_by a (Whole text version) = reply_with a 200 version (Some a.commit) text
reply_by a (Same tag version) = reply_with a 304 version (Some tag) []
reply_by a Absent = reply_with a 404 None None (codes "{\"error\":\"absent\"}")

-- the reply to a read
abbrev pub read_reply : Answer → Reply
read_reply a = reply_by a a.result

-- a reply that may not be kept
abbrev pub bare_reply : ℕ → ℕ → Reply
bare_reply status commit = record { status = status; commit = commit; version = None; until = 0; date = 0; max_age = None; tag = None; body = [] }

-- the status of an accepted write: a put of a record that there was not is one of a new one
abbrev pub done_status : Bool → Found → ℕ
done_status true Missing = 201
done_status is_put before = 200

-- the reply to a write
abbrev pub write_reply : Bool → Written → Reply
write_reply is_put (Done commit before clock) = bare_reply (done_status is_put before) commit
write_reply is_put (Precondition found clock) = bare_reply 412 0
write_reply is_put (Full bytes clock) = bare_reply 507 0
