-- From the bytes that were taken for a head and for a body to the reply that they are.
use Rattle.std.proofs.Common.{◌≡◌, ℕ, ◌+◌, ◌<◌, ◌≤◌, List, [], ◌++◌, length, refl, arith, inl, inr}
use Rattle.std.proofs.lemmas.List.{length-append}
use Rattle.std.specs.Prelude.{Err}
use Rattle.q_outside.specs.Ends.{End, IsEnded}
use Rattle.q_outside.proofs.Chain.{took_nothing, took_both}
use Rattle.http_message.specs.Text.{Unfinished, beginning_of, window}
use Rattle.client_wire.specs.Taken.{TookFront}
use Rattle.client_wire.specs.Taking.{IsShortBody, TakesReply, TookSuch}
use Rattle.client_wire.specs.declared.reply.Front.{Front}
use Rattle.client_wire.specs.declared.body.ShortBody.{ShortBody}
use Rattle.client_wire.specs.declared.refusal.WireRefusal.TheVariants as wire

-- no bytes show nothing
pub none_shows : beginning_of [] ≡ Unfinished
unfolding beginning_of window
none_shows = refl

-- a source of which nothing was taken, for want of memory
pub none_taken : (source : End) → TakesReply source source (Err wire.Memory)
none_taken source = record { got = []; took = took_nothing source; says = inl none_shows }

module _ (first middle last : End) (found : Front) (front : TookFront first middle found) where
  short_body : (part : List ℕ) → length part < found.size → IsShortBody (front.front ++ part)
  short_body part short = record {
    front = front.front;
    part = part;
    parts = found.parts;
    size = found.size;
    accepted = front.accepted;
    short = short;
    bytes_are = refl;
  }

  -- a body that is cut
  pub ended_reply : (short : ShortBody)
      → TookSuch middle last (λ part. (length part ≡ short.taken) × (short.taken < found.size)) → IsEnded last.bytes
      → TakesReply first last (Err (wire.Truncated (found.length + short.taken)))
  ended_reply short part ended = (
    record {
      got = front.front ++ part.got;
      took = took_both first middle last front.front part.got front.took part.took;
      says = (
        inr (short_body part.got (omega (arith, part.says.0, part.says.1))),
        omega (arith, part.says.0, front.length_is, length-append front.front part.got),
      );
    },
    ended,
  )

  pub failed_reply : (short : ShortBody)
      → TookSuch middle last (λ part. (length part ≡ short.taken) × (short.taken < found.size)) → middle.faults < last.faults
      → TakesReply first last (Err wire.ReadFault)
  failed_reply short part rises = (
    record {
      got = front.front ++ part.got;
      took = took_both first middle last front.front part.got front.took part.took;
      says = inr (short_body part.got (omega (arith, part.says.0, part.says.1)));
    },
    omega (arith, rises, front.took.count),
  )

  -- a body for which there was no memory
  pub no_memory : TookSuch middle last (λ part. length part ≤ found.size) → TakesReply first last (Err wire.Memory)
  no_memory part = record {
    got = front.front ++ part.got;
    took = took_both first middle last front.front part.got front.took part.took;
    says = inr (record {
      front = front.front;
      part = part.got;
      parts = found.parts;
      size = found.size;
      accepted = front.accepted;
      fits = part.says;
      bytes_are = refl;
    });
  }
